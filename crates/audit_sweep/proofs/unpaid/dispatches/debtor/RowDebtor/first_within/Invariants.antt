use Rattle.audit_sweep.specs.unpaid.{dispatches.{Debtors.{AreKnown, scenario_of}, Frames.{IsTold, OwesFrame}}, points.FirstUnpaid.ArePaid}
use Rattle.audit_devices.specs.Lasting.{ShowsWithin}
use Rattle.{net_plan.specs.declared.event.Event.Event, run_law.specs.records.Happenings.Happening, std.proofs.Common.{◌+◌, ◌-◌, ◌≤◌, List}}
use Rattle.audit_sweep.proofs.unpaid.dispatches.debtor.RowDebtor.first_within.Given as goal

abbrev pub invariant-left : goal.invariant-left
invariant-left l =
    (l.after ≤ l.from)
    × ((befallen : List Event) (hs : List Happening) → AreKnown befallen hs l.self
    → ShowsWithin (scenario_of l.self befallen) hs l.row.device l.after l.until l.shown
    → ArePaid (OwesFrame (scenario_of l.self befallen) hs l.row) (IsTold (scenario_of l.self befallen) hs l.link l.row) l.after (l.from + 1))

abbrev pub decreases-left : goal.decreases-left
decreases-left l = l.until - l.from
