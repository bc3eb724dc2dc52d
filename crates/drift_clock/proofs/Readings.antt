-- The readings of a clock under its steps, from the laws of one step.
use Rattle.std.proofs.Common.{◌*◌, ◌+◌, ◌-◌, ◌<◌, ◌^◌, ◌∙◌, ◌∷◌, ◌≡◌, ◌≤◌, List, [], ap, arith, inl, inr, refl, subst, unsigned_abs, ℕ, ℤ}
use Rattle.std.proofs.{Math.Nat.mul-le-mul_right, lemmas.Bool.cases_lt}
use Rattle.drift_clock.{proofs.Histories.{InOrder, in_order, up_to-all, up_to-cons, up_to-late, up_to-none}, specs.RateSteps.{RateStep, up_to}}
use Rattle.drift_clock.{proofs.Drifts.{rounded-measures, rounded-mono, rounded-zero}, specs.Counts.{Advances, rounded}}
use Rattle.drift_clock.specs.{ClockLaws.{AlwaysBeginsAtZero, AlwaysKeepsClockLaws, ReadsItsSteps}, Readings.{reading_at, value_after}, SteadyLaws.time_advances}

-- a step keeps the count, which then drifts by its rate
pub record IsSteppable {C : Type 0} (after_step : C → ℕ → ℤ → C) (count : C → ℕ → ℕ) : Type 0 where
  pub keeps : (c : C) (t : ℕ) (r : ℤ) → count (after_step c t r) t ≡ count c t
  pub drifts : (c : C) (s t u : ℕ) (r : ℤ) (rho : ℕ) → unsigned_abs r ≤ rho → rho ≤ 1000000 → s ≤ t → t ≤ u → Advances rho (u - t) (count (after_step c s r) t)
      (count (after_step c s r) u)

-- a clock that counts rightly from a time on, as long as it is not stepped
abbrev pub Runs : {C : Type 0} → (C → ℕ → ℕ) → ℕ → ℕ → C → Type 0
Runs count rho from c = (s t : ℕ) → from ≤ s → s ≤ t → Advances rho (t - s) (count c s) (count c t)

join : (rho d e a b c f : ℕ) → Advances rho d a b → Advances rho e b c → f ≡ d + e → Advances rho f a c
join rho d e a b c f p q same = rw same (record { least = omega (arith, p.least, q.least); most = omega (arith, p.most, q.most) })

-- what is read at t where the first step counts, and where none does
reading_at-cons : {C : Type 0} (after_step : C → ℕ → ℤ → C) (reading : C → ℕ → ℕ) (c : C) (s : RateStep) (steps : List RateStep) (t : ℕ) → s.at ≤ t
    → reading_at after_step reading c (s ∷ steps) t ≡ reading_at after_step reading (after_step c s.at s.rate) steps t
reading_at-cons after_step reading c s steps t le = rw (up_to-cons t s steps le)

-- where the first step is still to come
reading_at-early : {C : Type 0} (after_step : C → ℕ → ℤ → C) (reading : C → ℕ → ℕ) (c : C) (rho from : ℕ) (s : RateStep) (steps : List RateStep) (t : ℕ)
    → InOrder rho from (s ∷ steps) → t < s.at → reading_at after_step reading c (s ∷ steps) t ≡ reading c t
reading_at-early after_step reading c rho from s steps t i lt =
    rw (up_to-late t s steps lt ∙ up_to-none rho t s.at steps i.2 lt)

-- the count at the time from which the steps go
count_first : {C : Type 0} (after_step : C → ℕ → ℤ → C) (count : C → ℕ → ℕ) (law : IsSteppable after_step count) (rho from : ℕ) (c : C) (steps : List RateStep)
    → InOrder rho from steps → reading_at after_step count c steps from ≡ count c from
count_first after_step count law rho from c [] i = refl
count_first after_step count law rho from c (s ∷ steps) i =
    elim (cases_lt from s.at) [
      | inl later ↦ reading_at-early after_step count c rho from s steps from i later
      | inr now ↦
          let next = after_step c s.at s.rate in
          let rest = count_first after_step count law rho s.at next steps i.2 in
          reading_at-cons after_step count c s steps from now ∙
          subst (λ t. reading_at after_step count next steps t ≡ count c t) (omega (arith, i.0))
          (rest ∙ law.keeps c s.at s.rate)
    ]

-- between any two times from there on the count advances rightly
along : {C : Type 0} (after_step : C → ℕ → ℤ → C) (count : C → ℕ → ℕ) (law : IsSteppable after_step count) (rho from : ℕ) (c : C) (steps : List RateStep)
    → rho ≤ 1000000 → InOrder rho from steps → Runs count rho from c
    → (s t : ℕ) → from ≤ s → s ≤ t → Advances rho (t - s) (reading_at after_step count c steps s) (reading_at after_step count c steps t)
along after_step count law rho from c [] small i runs s t after le = runs s t after le
along after_step count law rho from c (x ∷ steps) small i runs s t after le =
    let next = after_step c x.at x.rate in
    let rest = along after_step count law rho x.at next steps small i.2 (λ a b from_a a_b. law.drifts c x.at a b x.rate rho i.1 small from_a a_b) in
    elim (cases_lt t x.at) [
      | inl early ↦
          rw (reading_at-early after_step count c rho from x steps s i (omega arith), reading_at-early after_step count c rho from x steps t i early)
          (runs s t after le)
      | inr late ↦
          elim (cases_lt s x.at) [
            | inr both ↦
                rw (reading_at-cons after_step count c x steps s both, reading_at-cons after_step count c x steps t late) (rest s t both le)
            | inl across ↦
                let here : reading_at after_step count next steps x.at ≡ count c x.at = count_first after_step count law rho x.at next steps i.2
                ∙ law.keeps c x.at x.rate in
                let second = subst (λ (n : ℕ). Advances rho (t - x.at) n (reading_at after_step count next steps t)) here (rest x.at t (omega arith) late) in
                rw (reading_at-early after_step count c rho from x steps s i across, reading_at-cons after_step count c x steps t late)
                (join rho (x.at - s) (t - x.at) _ _ _ (t - s) (runs s x.at after (omega arith)) second (omega arith))
          ]
    ]

-- the laws of a clock, for the readings
pub record IsLawful {C : Type 0} (fresh : ℕ → C) (after_step : C → ℕ → ℤ → C) (reading : C → ℕ → ℕ) (grain : C → ℕ) (count : C → ℕ → ℕ) : Type 0 where
  pub has_grain : (g : ℕ) → grain (fresh g) ≡ g
  pub keeps_grain : (c : C) (t : ℕ) (r : ℤ) → grain (after_step c t r) ≡ grain c
  pub reads_count : (c : C) (t : ℕ) → reading c t ≡ rounded (grain c) (count c t)
  pub counts_time : (g t : ℕ) → count (fresh g) t ≡ 10 ^ 9 * t
  pub keeps_count : (c : C) (t : ℕ) (r : ℤ) → count (after_step c t r) t ≡ count c t
  pub drifts : (c : C) (s t u : ℕ) (r : ℤ) (rho : ℕ) → unsigned_abs r ≤ rho → rho ≤ 1000000 → s ≤ t → t ≤ u → Advances rho (u - t) (count (after_step c s r) t)
      (count (after_step c s r) u)

grain_after : {C : Type 0} (after_step : C → ℕ → ℤ → C) (grain : C → ℕ) (keeps : (c : C) (t : ℕ) (r : ℤ) → grain (after_step c t r) ≡ grain c) (c : C)
    (steps : List RateStep) → grain (value_after after_step c steps) ≡ grain c
grain_after after_step grain keeps c [] = refl
grain_after after_step grain keeps c (s ∷ steps) = grain_after after_step grain keeps (after_step c s.at s.rate) steps ∙ keeps c s.at s.rate

-- a reading under steps is the count under them, rounded
reads : {C : Type 0} (fresh : ℕ → C) (after_step : C → ℕ → ℤ → C) (reading : C → ℕ → ℕ) (grain : C → ℕ) (count : C → ℕ → ℕ)
    (law : IsLawful fresh after_step reading grain count) (g : ℕ) (steps : List RateStep) (t : ℕ) → reading_at after_step reading (fresh g) steps t ≡ rounded g
    (reading_at after_step count (fresh g) steps t)
reads fresh after_step reading grain count law g steps t =
    let value = value_after after_step (fresh g) (up_to t steps) in
    law.reads_count value t ∙ (rw (grain_after after_step grain law.keeps_grain (fresh g) (up_to t steps) ∙
    law.has_grain g))

forward : (rho d a b : ℕ) → rho ≤ 1000000 → Advances rho d a b → a ≤ b
forward rho d a b small near =
    let part = mul-le-mul_right d small in
    omega (arith, near.least)

pub keeps_clock_laws : {C : Type 0} (fresh : ℕ → C) (after_step : C → ℕ → ℤ → C) (reading : C → ℕ → ℕ) (grain : C → ℕ) (count : C → ℕ → ℕ)
    → IsLawful fresh after_step reading grain count → AlwaysKeepsClockLaws fresh after_step reading
keeps_clock_laws fresh after_step reading grain count law rho g steps small some history =
    let at = reading_at after_step count (fresh g) steps in
    let near = along after_step count (record { keeps = law.keeps_count; drifts = law.drifts }) rho 0 (fresh g) steps small (in_order rho steps history)
    (λ s t after le. rw (law.counts_time g s, law.counts_time g t) (time_advances rho s t le)) in
    let shown = reads fresh after_step reading grain count law g steps in
    record {
      never_falls = λ s t le.
          let d = near s t (omega arith) le in
          rw (shown s, shown t) (rounded-mono g (at s) (at t) some (forward rho (t - s) (at s) (at t) small d));
      drifts = λ s t le.
          let d = near s t (omega arith) le in
          rw (shown s, shown t) (rounded-measures rho g (t - s) (at s) (at t) some (forward rho (t - s) (at s) (at t) small d) d);
    }

-- steps at time 0 keep the count at 0
count_at_zero : {C : Type 0} (after_step : C → ℕ → ℤ → C) (count : C → ℕ → ℕ) (keeps : (c : C) (t : ℕ) (r : ℤ) → count (after_step c t r) t ≡ count c t) (c : C)
    (steps : List RateStep) → reading_at after_step count c steps 0 ≡ count c 0
count_at_zero after_step count keeps c [] = refl
count_at_zero after_step count keeps c (s ∷ steps) =
    grind (
      arith,
      cases_lt,
      up_to-late,
      reading_at-cons,
      (count_at_zero after_step count keeps c steps),
      (count_at_zero after_step count keeps (after_step c s.at s.rate) steps),
    )

pub begins_at_zero : {C : Type 0} (fresh : ℕ → C) (after_step : C → ℕ → ℤ → C) (reading : C → ℕ → ℕ) (grain : C → ℕ) (count : C → ℕ → ℕ)
    → IsLawful fresh after_step reading grain count → AlwaysBeginsAtZero fresh after_step reading
begins_at_zero fresh after_step reading grain count law g steps =
    reads fresh after_step reading grain count law g steps 0
    ∙ ap (rounded g) (count_at_zero after_step count law.keeps_count (fresh g) steps ∙ law.counts_time g 0) ∙ rounded-zero g

pub reads_its_steps : {C : Type 0} (fresh : ℕ → C) (after_step : C → ℕ → ℤ → C) (reading : C → ℕ → ℕ) → ReadsItsSteps fresh after_step reading
reads_its_steps fresh after_step reading g steps t all = rw (up_to-all t steps all)
