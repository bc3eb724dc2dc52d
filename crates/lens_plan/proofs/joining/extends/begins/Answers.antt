use Rattle.std.proofs.{Common.{◌++◌, ◌∙◌, List, ap, arith, drop, refl, sym}, lemmas.List.{take-append-drop, take_all}}
use Rattle.lens_plan.proofs.joining.extends.begins.Goals as goal

pub returns : goal.returns
returns g c =
    let whole = c.args.whole.now in
    let n = c.places.place in
    let all = take_all n c.args.first.now (omega (arith, c.places-test.false)) in
    let same = sym c.places.invariant ∙ all in
    (λ t. (drop n whole, sym (take-append-drop n whole) ∙ ap (λ (xs : List g.row.T.Denot). xs ++ drop n whole) same), λ b. refl)
