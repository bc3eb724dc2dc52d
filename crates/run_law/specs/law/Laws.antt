-- What holds of all runs, and of all judgements by the fault hypothesis.
use Rattle.std.specs.Prelude.{◌++◌, ◌∷◌, ◌≡◌, ◌⊎◌, List, [], ℕ}
use Rattle.net_plan.specs.declared.{event.Event.Event, ids.DeviceId.DeviceId, network.Network.Network}
use Rattle.run_law.specs.declared.{note.Note.Note, outside.Outside.Outside}
use Rattle.run_law.specs.records.{Happenings.{Happening, happening, happenings}, Order.{IsBefore, behind}}
use Rattle.run_law.specs.{records.Ranks.place_of, runs.{DueRecords.{IsDue, IsRunOf, IsScenarioRun}, Runs.IsNextOf}}
use Rattle.run_law.specs.scenario.{Hypothesis.{IsOutsideBy, IsWithinHypothesis}, Scenarios.Scenario}

-- there is one run of a network under the events up to a mark
abbrev pub RunIsOne : Type 0
RunIsOne =
    (network : Network) (reading : DeviceId → ℕ → ℕ) (events : List Event) (mark : List ℕ) (notes others : List Note)
    → IsRunOf network reading events mark notes → IsRunOf network reading events mark others → notes ≡ others

-- the run up to an earlier mark is the front of that up to a later one
abbrev pub EarlierRunIsFront : Type 0
EarlierRunIsFront =
    (network : Network) (reading : DeviceId → ℕ → ℕ) (events : List Event) (mark later : List ℕ)
    (notes more : List Note)
    → ((p : List ℕ) → IsBefore p mark → IsBefore p later)
    → IsRunOf network reading events mark notes → IsRunOf network reading events later more
    → (rest : List Note) × (more ≡ notes ++ rest)

-- a run goes on by its next record: with it, it is the run up to just behind this record
abbrev pub RunGoesOn : Type 0
RunGoesOn =
    (s : Scenario) (mark : List ℕ) (notes : List Note) (note : Note) (next : Happening)
    → IsScenarioRun s mark notes
    → next ≡ happening s.network (happenings s.network notes) note
    → IsNextOf place_of (IsDue s) mark (happenings s.network notes) next
    → IsScenarioRun s (behind (place_of next)) (notes ++ note ∷ [])

-- the event is within the hypothesis, or outside by one condition, and not both
pub record HasOneJudgement (network : Network) (before : List Event) (event : Event) : Type 0 where
  pub some : IsWithinHypothesis network before event
      ⊎ ((condition : Outside) × IsOutsideBy network before event condition)
  pub not_both : (condition : Outside) → IsWithinHypothesis network before event
      → IsOutsideBy network before event condition → ⊥
  pub one : (condition other : Outside) → IsOutsideBy network before event condition
      → IsOutsideBy network before event other → condition ≡ other

-- the hypothesis judges each event of each network in one way
abbrev pub HypothesisIsDecided : Type 0
HypothesisIsDecided = (network : Network) (before : List Event) (event : Event) → HasOneJudgement network before event
