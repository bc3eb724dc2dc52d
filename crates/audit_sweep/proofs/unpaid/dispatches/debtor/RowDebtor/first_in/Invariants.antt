use Rattle.audit_sweep.specs.unpaid.{dispatches.{Debtors.{AreKnown, scenario_of}, Frames.{IsTold, OwesFrame}}, points.FirstUnpaid.ArePaid}
use Rattle.{net_plan.specs.declared.event.Event.Event, run_law.specs.records.Happenings.Happening, std.proofs.Common.{◌+◌, ◌-◌, ◌≤◌, List}}
use Rattle.audit_sweep.proofs.unpaid.dispatches.debtor.RowDebtor.first_in.Given as goal

abbrev pub invariant-stretches : goal.invariant-stretches
invariant-stretches l =
    (l.after ≤ l.self.until)
    × ((befallen : List Event) (hs : List Happening) → AreKnown befallen hs l.self
    → ArePaid (OwesFrame (scenario_of l.self befallen) hs l.row) (IsTold (scenario_of l.self befallen) hs l.link l.row) 0 (l.after + 1))

abbrev pub decreases-stretches : goal.decreases-stretches
decreases-stretches l = l.self.until - l.after
