use Rattle.{audit_devices.specs.stretches.Keeping.Stretches, audit_sweep.specs.unpaid.emissions.{Emissions.{IsTold, OwesWithin}, Firsts.TellsFirstOf}}
use Rattle.{audit_devices.specs.stretches.Standing.kept_of, audit_law.specs.events.Readings.scenario_under, audit_sweep.specs.unpaid.emissions.Kept.IsKept}
use Rattle.{audit_law.specs.law.DueRecords.IsDue, net_plan.specs.declared.event.Event.Event, run_law.specs.records.{Happenings.Happening, Ranks.place_of}}
use Rattle.{run_law.specs.runs.Runs.IsFounded, std.proofs.Common.{◌≡◌, List, Some}}
use Rattle.audit_sweep.proofs.unpaid.emissions.first.first_unemitted_by.Given as goal

-- it is the first of what the stretches behind the changes so far owe
abbrev pub invariant-changes : goal.invariant-changes
invariant-changes l =
    (befallen : List Event) (hs : List Happening) (kept : Stretches) → IsKept l.network befallen hs l.events l.stretches l.places
    → IsFounded place_of (IsDue (scenario_under l.network befallen)) hs → kept_of l.stretches l.device ≡ Some kept
    → TellsFirstOf (OwesWithin (scenario_under l.network befallen) hs l.until l.device kept.collections kept.entries l.place)
    (IsTold (scenario_under l.network befallen) hs l.device) l.first
