-- That there is a run.
use Rattle.std.specs.Prelude.{◌∷◌, List, [], ℕ}
use Rattle.net_plan.specs.Ranges.{IsInRange}
use Rattle.run_law.specs.{declared.note.Note.Note, runs.DueRecords.IsScenarioRun, scenario.Scenarios.Scenario}

-- a network in range has a run up to each time, whatever its events are and its clocks read
abbrev pub RunsExist : Type 0
RunsExist = (s : Scenario) (t : ℕ) → IsInRange s.network → (ns : List Note) × IsScenarioRun s (t ∷ []) ns

-- it has one up to each place in the order of its records too, as behind the events of a time
abbrev pub RunsExistToEachMark : Type 0
RunsExistToEachMark = (s : Scenario) (mark : List ℕ) → IsInRange s.network → (ns : List Note) × IsScenarioRun s mark ns
