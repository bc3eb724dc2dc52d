use Rattle.{audit_law.specs.events.Readings.scenario_under, audit_sweep.specs.Indexing.IsIndex}
use Rattle.{lens_overview.specs.Spreads.{AreWide, ends_at}, net_plan.specs.declared.event.Event.Event}
use Rattle.{run_law.specs.records.Happenings.Happening, std.proofs.Common.{◌≡◌, List}}
use Rattle.lens_overview.proofs.spread.spread_at.Given as goal

abbrev pub invariant-devices : goal.invariant-devices
invariant-devices l = record {
  wide : AreWide l.ends;
  value : (befallen : List Event) (hs : List Happening) → IsIndex l.network befallen hs l.index
      → l.ends ≡ ends_at (scenario_under l.network befallen) hs l.time l.place;
}
