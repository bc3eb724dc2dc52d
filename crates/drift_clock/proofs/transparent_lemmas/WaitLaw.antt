-- How far a reading advances from arrival to permanence, from the clock laws.
use Rattle.std.{proofs.{Common.{◌*◌, ◌+◌, ◌-◌, ◌^◌, ◌≡◌, ◌≤◌, arith, inl, inr, ℕ}, lemmas.{Bool.cases_lt, Int.ints}}, specs.Int.abs_diff}
use Rattle.drift_clock.specs.transparent.Points.{WaitsForPoint}

-- in one unit of time a reading grows by no more than two grains and a unit
one_step : (rho grain real seen : ℕ) → rho ≤ 1000000 → real ≡ 1 → 10 ^ 9 * abs_diff seen real ≤ rho * real + 2 * grain * 10 ^ 9 → seen ≤ 2 * grain + 1
one_step rho grain real seen small one near = let near' = rw one at near in omega arith

pub waits_for_point : WaitsForPoint
waits_for_point rho grain dmax clock t q reading small laws young permanent =
    let after : t ≤ q = omega (arith, ints, permanent.from_on) in
    let least : dmax - clock ≤ reading q - reading t = omega (arith, ints, permanent.reached) in
    let most : reading q - reading t ≤ dmax - clock + 2 * grain = elim (cases_lt t q) [
      | inl later ↦
          let short = permanent.not_before (q - 1) (omega (arith, ints)) (omega (arith, ints)) in
          let step = one_step rho grain (q - (q - 1)) (reading q - reading (q - 1)) small (omega arith) (laws.drifts (q - 1) q (omega arith)) in
          let back = laws.never_falls (q - 1) q (omega arith) in
          omega (arith, ints)
      | inr now ↦ let same : q ≡ t = omega arith in rw same (omega arith)
    ] in
    (after, record { least = least; most = most; measures = laws.drifts t q after })
