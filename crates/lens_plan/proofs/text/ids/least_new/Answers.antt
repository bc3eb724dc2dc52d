use Rattle.std.{proofs.{Common.{◌≡◌, arith, inl, inr, rules, subst, ℕ}, lemmas.Bool.cases_lt}, specs.List.Contains}
use Rattle.lens_plan.proofs.text.ids.least_new.Goals as goal

pub ids-preserved : goal.ids-preserved
ids-preserved c k some lt =
    elim (cases_lt k c.ids.id-counter) [
      | inl below ↦ c.ids.invariant k some below
      | inr ge ↦
          let here : c.ids.id-counter ≡ k = omega (arith, lt, ge) in
          let there : Contains c.args.taken.now c.ids.id-counter = search rules in
          subst (λ (j : ℕ). Contains c.args.taken.now j) here there
    ]
