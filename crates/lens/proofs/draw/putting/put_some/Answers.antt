use Rattle.lens.{proofs.draw_lemmas.Marking.draws_one, specs.draw.Picture.some_line}
use Rattle.tte_forms.specs.Putting.{Puts, shown_by}
use Rattle.{lens_svg.specs.Elements.element_line, std.proofs.Common.{◌∙◌, ◌∷◌, ◌≡◌, List, [], subst, sym, ℕ}}
use Rattle.lens.proofs.draw.putting.put_some.Goals as goal

pub returns-in-Some-clause-draws : goal.returns-in-Some-clause-draws
returns-in-Some-clause-draws g c =
    let old = shown_by g.K.Sink c.args.out.now in
    let new = shown_by g.K.Sink c.put.new.self in
    let network = c.args.network.now in
    let line : c.as_slice.result.now ≡ element_line network c.in-Some.element = c.as_slice.ensures ∙ c.make_element_line.ensures in
    subst (λ e. Puts (some_line network e) c.put.result old new) (sym c.in-Some.is)
    (subst (λ (bytes : List ℕ). Puts (bytes ∷ []) c.put.result old new) line
    (draws_one c.as_slice.result.now c.put.result old new c.put.ensures.all c.put.ensures.front c.put.ensures.counted))
