use Rattle.lens_plan.specs.places.Limits.{rows_from}
use Rattle.std.proofs.{Common.{◌≡◌, ◌≤◌, arith, inl, inr, subst, sym, ℕ}, lemmas.Bool.cases_lt}
use Rattle.lens_plan.proofs.places.limits.crowded_device.Goals as goal

pub devices-preserved : goal.devices-preserved
devices-preserved c earlier less =
    let few = c.if-rows-gt-MOST_FROM.false in
    let is = c.rows_from-rows.ensures in
    elim (cases_lt earlier.0 c.devices.place) [
      | inl before ↦ c.devices.invariant earlier before
      | inr ge ↦
          let same : earlier.0 ≡ c.devices.place = omega (arith, less, ge) in
          subst (λ (n : ℕ). rows_from c.args.network.now c.args.hops.now (record { 0 = n }) ≤ 256) (sym same) (omega (arith, is, few))
    ]
