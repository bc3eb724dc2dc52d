-- The runs of accepted networks go well.
use Rattle.std.specs.Prelude.{◌*◌, ◌+◌, ◌^◌, ◌∷◌, ◌≤◌, List, [], ℕ, ℤ}
use Rattle.net_plan.specs.declared.{event.Event.Event, network.Network.Network}
use Rattle.run_law.specs.{declared.note.Note.Note, records.Happenings.happenings, runs.DueRecords.{EndsAt, IsRunOf}}
use Rattle.tte_units.specs.{Amount.amount, declared.units.Units.Units}
use Rattle.precision_law.specs.traffic.safety.Headline.{GoesWell, IsRunBefore, IsWholeRun}
use Rattle.precision_law.specs.traffic.safety.Under.{IsUnder, last_time, reading_of, scenario_of}

-- the run that goes just as far as a time of the first 2^20 cycles goes well up to there
abbrev pub OwnRunsAreSafe : {C : Type 0} → (ℕ → C) → (C → ℕ → ℤ → C) → (C → ℕ → ℕ) → Type 0
OwnRunsAreSafe fresh after_step reading =
    (network : Network) (events : List Event) (time : ℕ) (written : List Note)
    → IsUnder network events → time ≤ 2 ^ 20 * amount network.cycle
    → IsRunOf network (reading_of fresh after_step reading network events) events ((time + 1) ∷ []) written
    → GoesWell (scenario_of fresh after_step reading network events) (happenings network written) time

-- the run up to behind the events of such a time is one that goes well up to before it, and then records of events of
-- this time
abbrev pub FrontRunsAreSafe : {C : Type 0} → (ℕ → C) → (C → ℕ → ℤ → C) → (C → ℕ → ℕ) → Type 0
FrontRunsAreSafe fresh after_step reading =
    (network : Network) (events : List Event) (time : ℕ) (written : List Note)
    → IsUnder network events → time ≤ 2 ^ 20 * amount network.cycle
    → IsRunOf network (reading_of fresh after_step reading network events) events (time ∷ 2 ∷ []) written
    → IsRunBefore fresh after_step reading network events time written

-- the run up to the time of the end goes well up to there
abbrev pub EndedRunsAreSafe : {C : Type 0} → (ℕ → C) → (C → ℕ → ℤ → C) → (C → ℕ → ℕ) → Type 0
EndedRunsAreSafe fresh after_step reading =
    (network : Network) (events : List Event) (end : Units) (written : List Note)
    → IsUnder network events → EndsAt events end
    → IsRunOf network (reading_of fresh after_step reading network events) events ((amount end + 1) ∷ []) written
    → IsWholeRun fresh after_step reading network events written

-- the run up to behind the last event is one that goes well up to before its time, and then records of events of this
-- time
abbrev pub RunsSoFarAreSafe : {C : Type 0} → (ℕ → C) → (C → ℕ → ℤ → C) → (C → ℕ → ℕ) → Type 0
RunsSoFarAreSafe fresh after_step reading =
    (network : Network) (events : List Event) (written : List Note)
    → IsUnder network events
    → IsRunOf network (reading_of fresh after_step reading network events) events
    (amount (last_time events) ∷ 2 ∷ []) written
    → IsRunBefore fresh after_step reading network events (amount (last_time events)) written
