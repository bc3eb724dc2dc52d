use Rattle.std.proofs.Common.{None, refl, subst}
use Rattle.lens.{proofs.draw_lemmas.Marking.draft_is, specs.draw.Drafts.IsDraftOf}
use Rattle.lens_svg.specs.Views.{View}
use Rattle.lens.proofs.draw.drawing.draft_of.Goals as goal

pub take_records-requires-clause-none : goal.take_records-requires-clause-none
take_records-requires-clause-none c notes end r = record { sketch = refl; clocks = c.new-clocks.ensures }

pub returns-clause-view : goal.returns-clause-view
returns-clause-view c =
    let r = c.requires.report in
    let view : View = record { span = c.args.span; kept = None; title = c.args.title } in
    let draft = c.take_records.new.taker in
    let taken = subst (λ p. IsDraftOf c.args.network.now p r.0 draft) c.in-Ok.ensures (c.in_ok-take_records.ensures r.0 r.1 r.2) in
    (draft_is c.args.network.now view r.0 draft taken.sketch taken.clocks).0

pub returns-clause-is : goal.returns-clause-is
returns-clause-is c notes end r =
    let view : View = record { span = c.args.span; kept = None; title = c.args.title } in
    let draft = c.take_records.new.taker in
    let taken = subst (λ p. IsDraftOf c.args.network.now p notes draft) c.in-Ok.ensures (c.in_ok-take_records.ensures notes end r) in
    (draft_is c.args.network.now view notes draft taken.sketch taken.clocks).1
