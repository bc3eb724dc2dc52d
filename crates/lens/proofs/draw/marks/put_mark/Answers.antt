use Rattle.lens.{proofs.draw_lemmas.Marking.{draws_one, found_in_range}, specs.draw.Picture.found_line}
use Rattle.lens_svg.specs.Marking.{mark_line}
use Rattle.lens_why.proofs.Cutting.{note_of}
use Rattle.run_law.specs.declared.note.Note.{Note}
use Rattle.tte_forms.{proofs.Puts.PutsLines-none, specs.Putting.{Puts, PutsLines, shown_by}}
use Rattle.std.proofs.Common.{◌∙◌, ◌∷◌, ◌≡◌, List, Option, [], subst, sym, ℕ}
use Rattle.lens.proofs.draw.marks.put_mark.Goals as goal

pub make_mark_line-requires-clause-of_network : goal.make_mark_line-requires-clause-of_network
make_mark_line-requires-clause-of_network g c =
    let r = c.requires.read.some in note_of r.2 c.args.mark.now.number c.in-Some.note (sym (c.in-Some.ensures r.0 r.1 r.2))

pub make_mark_line-requires-clause-in_range : goal.make_mark_line-requires-clause-in_range
make_mark_line-requires-clause-in_range g c =
    let r = c.requires.read.some in
    found_in_range r.0 c.args.mark.now.number c.in-Some.note r.2.events.text.records.in_range (sym (c.in-Some.ensures r.0 r.1 r.2))

pub returns-in-Some-clause-draws : goal.returns-in-Some-clause-draws
returns-in-Some-clause-draws g c notes end of =
    let old = shown_by g.K.Sink c.args.out.now in
    let new = shown_by g.K.Sink c.put.new.self in
    let line : c.as_slice.result.now ≡ mark_line c.args.network.now c.args.mark.now c.in-Some.note =
    c.as_slice.ensures ∙ c.make_mark_line.ensures in
    subst (λ (o : Option Note). Puts (found_line c.args.network.now c.args.mark.now o) c.put.result old new) (c.in-Some.ensures notes end of)
    (subst (λ (bytes : List ℕ). Puts (bytes ∷ []) c.put.result old new) line
    (draws_one c.as_slice.result.now c.put.result old new c.put.ensures.all c.put.ensures.front c.put.ensures.counted))

pub returns-in-None-clause-draws : goal.returns-in-None-clause-draws
returns-in-None-clause-draws g c notes end of =
    let here = shown_by g.K.Sink c.args.out.now in
    subst (λ (o : Option Note). PutsLines (found_line c.args.network.now c.args.mark.now o) here here) (c.in-None.ensures notes end of)
    (PutsLines-none here)
