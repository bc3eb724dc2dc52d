use Rattle.{audit_law.specs.events.Readings.scenario_under, run_law.specs.records.Happenings.Happening}
use Rattle.audit_sweep.specs.Indexing.{IsIndex, clock_at}
use Rattle.{lens_svg.specs.Windows.windows_in, net_plan.specs.declared.event.Event.Event, std.proofs.Common.{◌≡◌, List, take}}
use Rattle.lens.proofs.draw.windows.windows_of.Given as goal

abbrev pub invariant-frames : goal.invariant-frames
invariant-frames l = (befallen : List Event) (hs : List Happening) → IsIndex l.network befallen hs l.index
    → l.windows.items ≡ windows_in l.network (clock_at (scenario_under l.network befallen) hs) (take l.mark-index l.sketch.marks)
