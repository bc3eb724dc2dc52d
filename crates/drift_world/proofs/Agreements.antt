-- How the clocks of a network go on by an event: what they read up to then stays, and from then on they read what the
-- event makes of them.
use Rattle.{drift_clock.{proofs.Histories.up_to-all, specs.{RateSteps.up_to, Readings.value_after}}, net_plan.specs.declared.event.Event.Event}
use Rattle.drift_world.proofs.Words.{◌++◌, ◌∷◌, ◌≡◌, ◌≤◌, DeviceId, IsIn, IsLawful, List, Network, None, Option, RateStep, Some, [], amount, arith}
use Rattle.drift_world.{proofs.Words.{cases_lt, clock_after, inl, inr, le-leb, option_map_or, rate_steps, reading_of, refl, ℕ, ℤ}, specs.Running.clock_of}
use Rattle.std.proofs.lemmas.List.{Elements.{filter-append, filter_map-append}, Sums.fold-append}
use Rattle.run_law.proofs.scenario.Devices.{Holds, step_at}
use Rattle.{run_law.specs.scenario.Rates.step_by, std.{proofs.lemmas.Bool.lt-leb, specs.List.All}}

-- ---- the steps of more events

-- the step, where there is one
abbrev one_of : Option RateStep → List RateStep
one_of None = []
one_of (Some step) = step ∷ []

steps_more : (past : List Event) (event : Event) (device : DeviceId)
    → rate_steps (past ++ event ∷ []) device ≡ rate_steps past device ++ one_of (step_by device (amount event.time) event.what)
steps_more past event device = grind (arith, filter_map-append, amount, rate_steps)

-- what the last step makes of a clock
step_last : {C : Type 0} (after_step : C → ℕ → ℤ → C) (o : Option RateStep) (clock : C)
    → value_after after_step clock (one_of o) ≡ option_map_or (λ step. after_step clock step.at step.rate) o clock
step_last after_step None clock = refl
step_last after_step (Some step) clock = refl

pub clock_more : {C : Type 0} (fresh : ℕ → C) (after_step : C → ℕ → ℤ → C) (network : Network) (past : List Event) (event : Event) (device : DeviceId)
    → clock_of fresh after_step network (past ++ event ∷ []) device
    ≡ clock_after after_step device event.time event.what (clock_of fresh after_step network past device)
clock_more {C} fresh after_step network past event device = grind (arith, amount, steps_more, fold-append, rate_steps, step_last)

-- ---- each step is at the time of its event

all_one : (t time : ℕ) (o : Option RateStep) (steps : List RateStep) → time ≤ t → Holds o (λ s. s.at ≡ time) → All (λ s. s.at ≤ t) steps
    → All (λ s. s.at ≤ t) (Rattle.std.specs.List.cons_option o steps)
all_one t time None steps le at all = all
all_one t time (Some step) steps le at all = Rattle.std.proofs.lemmas.List.Elements.All-cons (λ s. s.at ≤ t) step steps
    (omega arith) all

-- up to a time all steps have come, where all events have
pub all_come : (events : List Event) (device : DeviceId) (t : ℕ) → ((e : Event) → IsIn e events → amount e.time ≤ t)
    → All (λ s. s.at ≤ t) (rate_steps events device)
all_come [] device t past = Rattle.std.proofs.lemmas.List.Elements.All-nil (λ s. s.at ≤ t)
all_come (e ∷ es) device t past =
    all_one t (amount e.time) (step_by device (amount e.time) e.what) (rate_steps es device) (past e (inl refl))
    (step_at device (amount e.time) e.what) (all_come es device t (λ d i. past d (inr i)))

module _ {C : Type 0} (fresh : ℕ → C) (after_step : C → ℕ → ℤ → C) (reading : C → ℕ → ℕ) where
  -- what a clock reads from then on is what its value reads
  pub reads_value : (network : Network) (events : List Event) (device : DeviceId) (t : ℕ)
      → ((e : Event) → IsIn e events → amount e.time ≤ t)
      → reading_of fresh after_step reading network events device t
      ≡ reading (clock_of fresh after_step network events device) t
  reads_value network events device t past =
      rw (up_to-all t (rate_steps events device) (all_come events device t past))

  -- ---- up to the event

  -- a step does not change what is read at its time
  step_reads : {grain : C → ℕ} {count : C → ℕ → ℕ} (law : IsLawful fresh after_step reading grain count) (clock : C)
      (t : ℕ) (rate : ℤ) → reading (after_step clock t rate) t ≡ reading clock t
  step_reads law clock t rate = grind arith

one_reads : {C : Type 0} {fresh : ℕ → C} {after_step : C → ℕ → ℤ → C} {reading : C → ℕ → ℕ} {grain : C → ℕ}
    {count : C → ℕ → ℕ} (law : IsLawful fresh after_step reading grain count) (clock : C) (time x : ℕ)
    (o : Option RateStep) → Holds o (λ s. s.at ≡ time) → x ≤ time
    → reading (value_after after_step clock (up_to x (one_of o))) x ≡ reading clock x
one_reads law clock time x None at le = refl
one_reads law clock time x (Some step) at le = grind (arith, cases_lt, lt-leb, le-leb, step_reads)

pub reads_same : {C : Type 0} (fresh : ℕ → C) (after_step : C → ℕ → ℤ → C) (reading : C → ℕ → ℕ) (grain : C → ℕ) (count : C → ℕ → ℕ)
    → IsLawful fresh after_step reading grain count → (network : Network) (past : List Event) (event : Event) (device : DeviceId) (x : ℕ)
    → x ≤ amount event.time
    → reading_of fresh after_step reading network (past ++ event ∷ []) device x ≡ reading_of fresh after_step reading network past device x
reads_same {C} fresh after_step reading grain count law network past event device x le =
    grind (arith, amount, steps_more, filter-append, rate_steps, fold-append, one_reads, step_at)
