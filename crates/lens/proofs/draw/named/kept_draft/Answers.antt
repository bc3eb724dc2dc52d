use Rattle.std.proofs.Common.{◌∙◌, Some}
use Rattle.lens.{proofs.draw_lemmas.Marking.draft_is, specs.declared.draw.drawing.Draft.Draft}
use Rattle.lens_svg.specs.Views.{View}
use Rattle.lens.proofs.draw.named.kept_draft.Goals as goal

pub returns : goal.returns
returns c notes end of =
    let network = c.args.network.now in
    let records = c.in_ok-flags.flags.records.items in
    let lanes = c.in_ok-flags.flags.lanes.items in
    let taken = c.in_ok-taken.ensures notes end of in
    let both = c.in_ok-flags.ensures c.args.subject c.args.report.now.octets notes end of taken.own (c.deref.ensures.value ∙ taken.glances) in
    let view : View = record { span = c.args.span; kept = Some (record { records = records; lanes = lanes }); title = c.args.title } in
    let draft : Draft = record { sketch = c.in_ok-sketch.sketch; clocks = c.in_ok-taken.taken.clocks } in
    let is = draft_is network view notes draft (c.in_ok-sketch.ensures notes (c.deref-2.ensures.value ∙ taken.glances)) taken.clocks in
    record { records = records; lanes = lanes; view = is.0; are_kept = both.0; are_lanes = both.1; is = is.1 }
