use Rattle.audit_law.specs.events.Readings.{scenario_under}
use Rattle.{audit_sweep.specs.Indexing.IsIndex, lens_clocks.specs.Telling.{IsWritable, clocks_of}}
use Rattle.{net_plan.specs.declared.event.Event.Event, run_law.specs.records.Happenings.Happening, std.proofs.Common.{◌≡◌, All, List}}
use Rattle.lens_clocks.proofs.telling.clocks_at.Given as goal

abbrev pub invariant-devices : goal.invariant-devices
invariant-devices l = record {
  writable : All (IsWritable l.network) l.clocks.items;
  are : (befallen : List Event) (hs : List Happening) → IsIndex l.network befallen hs l.index
      → l.clocks.items ≡ clocks_of (scenario_under l.network befallen) hs l.fn.time l.place;
}
