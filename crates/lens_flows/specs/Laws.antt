-- What holds of the answer.
use Rattle.std.specs.Prelude.{◌≡◌, ◌≤◌, ℕ, List}
use Rattle.{lens_flows.specs.Answer.IsFlowsAnswer, run_law.specs.{declared.note.Note.Note, records.Order.IsIn}}
use Rattle.{lens_flows.specs.declared.counts.told.FlowTold.FlowTold, net_plan.specs.declared.network.Network.Network}
use Rattle.lens_flows.specs.{declared.judge.flow.Flow.Flow, judge.Certain.IsCertainAt}
use Rattle.{precision_law.specs.traffic.Owing.IsDueAt, run_law.specs.scenario.Scenarios.Scenario}
use Rattle.run_law.specs.records.Happenings.{Happening}
use Rattle.{schedule_tables.specs.Rules.KeepsRules, tte_units.specs.declared.units.Units.Units}
use Rattle.{tte_forms.specs.Answering.Answer, tte_reports.specs.Reports.IsReportOf}

-- in each answer for a report of an accepted network, no flow misses a frame
abbrev pub NoneIsMissing : Type 0
NoneIsMissing =
    (network : Network) (octets : List ℕ) (ns : List Note) (end : Units) (a : Answer) → KeepsRules network
    → IsReportOf network octets ns end → (answer : IsFlowsAnswer network ns end a) → (one : FlowTold)
    → IsIn one answer.told → answer.missing one ≡ 0

-- no flow has more cycles in which delivery is owed by events alone than cycles in which it is owed
abbrev pub CertainAreOwed : Type 0
CertainAreOwed =
    (network : Network) (ns : List Note) (end : Units) (a : Answer) → (answer : IsFlowsAnswer network ns end a)
    → (one : FlowTold) → IsIn one answer.told → one.certain ≤ one.fates.owed

-- and in each of them a frame is due that asks nothing of the states of its sender and its receiver
abbrev pub CertainAreDue : Type 0
CertainAreDue =
    (s : Scenario) (hs : List Happening) (until : ℕ) (flow : Flow) (t : ℕ) → (c : IsCertainAt s hs until flow t)
    → IsDueAt s hs until flow.vl flow.of_vl c.cycle flow.device
