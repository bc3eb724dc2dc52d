use Rattle.lens.proofs.draw_lemmas.Marking.{draws_one}
use Rattle.lens_svg.specs.Titles.{heading_line}
use Rattle.tte_forms.specs.Putting.{Puts, shown_by}
use Rattle.std.proofs.Common.{◌∙◌, ◌∷◌, ◌≡◌, List, [], ap, subst, ℕ}
use Rattle.lens.proofs.draw.putting.put_heading.Goals as goal

pub returns-clause-draws : goal.returns-clause-draws
returns-clause-draws g c =
    let old = shown_by g.K.Sink c.args.out.now in
    let new = shown_by g.K.Sink c.put.new.self in
    let line : c.as_slice.result.now ≡ heading_line c.args.sketch.now.view.title =
    c.as_slice.ensures ∙ c.make_heading_line.ensures ∙ ap (λ t. heading_line t) c.title.ensures in
    subst (λ (bytes : List ℕ). Puts (bytes ∷ []) c.put.result old new) line
    (draws_one c.as_slice.result.now c.put.result old new c.put.ensures.all c.put.ensures.front c.put.ensures.counted)
