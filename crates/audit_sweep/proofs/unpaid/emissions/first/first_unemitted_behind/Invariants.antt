use Rattle.{audit_devices.specs.{declared.stretches.kept.Entry.Entry, stretches.Keeping.Stretches}, audit_sweep.specs.unpaid.emissions.Firsts.TellsFirstOf}
use Rattle.{audit_devices.specs.stretches.Standing.kept_of, audit_law.specs.{collections.Kept.emissions_in, events.Readings.scenario_under}}
use Rattle.{audit_law.specs.law.DueRecords.IsDue, net_plan.specs.declared.event.Event.Event, run_law.specs.records.{Happenings.Happening, Ranks.place_of}}
use Rattle.{audit_sweep.specs.unpaid.emissions.{Emissions.{IsTold, OwesBehind}, Kept.IsKept}, std.proofs.Common.{◌≡◌, ◌≤◌, List, Some, length, slice_get}}
use Rattle.run_law.specs.runs.Runs.{IsFounded}
use Rattle.audit_sweep.proofs.unpaid.emissions.first.first_unemitted_behind.Given as goal

-- it is the first of what the clusters from this place on owe
abbrev pub invariant-clusters : goal.invariant-clusters
invariant-clusters l =
    (befallen : List Event) (hs : List Happening) (kept : Stretches) (e : Entry)
    → IsKept l.network befallen hs l.events l.stretches l.places → IsFounded place_of (IsDue (scenario_under l.network befallen)) hs
    → kept_of l.stretches l.device ≡ Some kept → slice_get kept.entries l.place ≡ Some e → (l.left ≤ length (emissions_in kept.collections e.gathering))
    × TellsFirstOf (OwesBehind (scenario_under l.network befallen) hs l.until l.device kept.collections e l.left)
    (IsTold (scenario_under l.network befallen) hs l.device) l.first

abbrev pub decreases-clusters : goal.decreases-clusters
decreases-clusters l = l.left
