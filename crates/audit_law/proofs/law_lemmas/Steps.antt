-- When a clock reaches a value, and how far it goes at one step.
use Rattle.audit_law.proofs.law_lemmas.Words.{◌*◌, ◌+◌, ◌-◌, ◌<◌, ◌≡◌, ◌≤ℤ◌, ◌≤◌, IsReach, arith, cases_lt, inl, inr, int_div_euclid, ints, natural, pos}
use Rattle.{audit_law.proofs.law_lemmas.Words.{suc, zero, ℕ, ℤ}, drift_clock.specs.ClockLaws.KeepsClockLaws, std.proofs.Common.{◌^◌, negsuc}}
use Rattle.std.{proofs.lemmas.Int.by_lt_z, specs.{Int.abs_diff, Prelude.{◌/◌, ◌<ℤ◌}}}

-- ---- the least time at which a value is reached

pub record IsReachedBy (reading : ℕ → ℕ) (from : ℕ) (v : ℤ) (by : ℕ) : Type 0 where
  pub time : ℕ
  pub within : time ≤ by
  pub reach : IsReach reading (pos from) v (pos time)

pub reached_by : (reading : ℕ → ℕ) → ((a b : ℕ) → a ≤ b → reading a ≤ reading b) → (from : ℕ) (v : ℤ) (by : ℕ) → from ≤ by → v ≤ℤ pos (reading by)
    → IsReachedBy reading from v by
reached_by reading rises from v zero le enough = grind (arith, ints)
reached_by reading rises from v (suc by) le enough =
    let late : ((x : ℕ) → pos from ≤ℤ pos x → pos x <ℤ pos (suc by) → pos (reading x) <ℤ v) → IsReachedBy reading from v (suc by) = λ none.
    record {
      time = suc by;
      within = omega arith;
      reach = record {
        from_on = omega (arith, ints);
        reached =
            enough;
        not_before = none;
      };
    } in
    elim (cases_lt by from) [
      | inl last ↦ late (λ x after before. absurd (omega (arith, ints)))
      | inr more ↦ by_lt_z (pos (reading by)) v
          (λ low. late (λ x after before. let up = rises x by (omega (arith, ints)) in omega (arith, ints)))
          (λ high. let r = reached_by reading rises from v by more high in
          record { time = r.time; within = (let w = r.within in omega arith); reach = r.reach })
    ]

-- ---- one step

step : (rho grain real seen : ℕ) → real ≡ 1 → rho ≤ 1000000 → grain ≤ 1048576 → 10 ^ 9 * abs_diff seen real ≤ rho * real + 2 * grain * 10 ^ 9 → seen < 2 ^ 32
step rho grain real seen one slow fine measured =
    let m : 10 ^ 9 * abs_diff seen 1 ≤ rho * 1 + 2 * grain * 10 ^ 9 = rw one at measured in
    omega arith

-- in one unit of time a clock goes on by less than a cycle
pub short_step : {rho grain : ℕ} {reading : ℕ → ℕ} (u : ℕ) → rho ≤ 1000000 → grain ≤ 1048576
    → KeepsClockLaws rho grain reading → reading (u + 1) < reading u + 2 ^ 32
short_step {rho} {grain} {reading} u slow fine keeps =
    let one : (u + 1) - u ≡ 1 = omega arith in
    let seen = step rho grain ((u + 1) - u) (reading (u + 1) - reading u) one slow fine (keeps.drifts u (u + 1) (omega arith)) in
    omega arith

-- ---- counting

-- what is less than a cycle makes no further point
small_quotient : (a b : ℕ) → a < b → a / b ≡ 0
small_quotient a b lt = grind arith

none_of_short : (x : ℤ) (cycle : ℕ) → pos 0 ≤ℤ x → x <ℤ pos cycle → natural (int_div_euclid x (pos cycle)) ≡ 0
none_of_short (pos n) cycle some short = small_quotient n cycle (omega (arith, ints))
none_of_short (negsuc n) cycle some short = absurd (omega (arith, ints))

pub none_more : (x cycle : ℤ) → pos 0 ≤ℤ x → x <ℤ cycle → natural (int_div_euclid x cycle) ≡ 0
none_more x (pos n) some short = none_of_short x n some short
none_more x (negsuc n) some short = absurd (omega (arith, ints))
