use Rattle.std.proofs.Common.{◌∙◌, ◌∷◌, ◌≡◌, List, [], subst, ℕ}
use Rattle.lens.proofs.draw_lemmas.Marking.{draws_one}
use Rattle.tte_forms.specs.Putting.{Puts, shown_by}
use Rattle.lens.specs.draw.{Signs.sign_line}
use Rattle.lens.proofs.draw.putting.put_shared.Goals as goal

pub returns-clause-draws : goal.returns-clause-draws
returns-clause-draws g c =
    let old = shown_by g.K.Sink c.args.out.now in
    let new = shown_by g.K.Sink c.put.new.self in
    let line : c.as_bytes.result.now ≡ sign_line c.args.sign = c.as_bytes.ensures.value ∙ c.line.ensures in
    subst (λ (bytes : List ℕ). Puts (bytes ∷ []) c.put.result old new) line
    (draws_one c.as_bytes.result.now c.put.result old new c.put.ensures.all c.put.ensures.front c.put.ensures.counted)
