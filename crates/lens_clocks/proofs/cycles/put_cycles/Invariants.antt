use Rattle.audit_law.specs.events.Readings.{scenario_under}
use Rattle.{audit_sweep.specs.Indexing.IsIndex, lens_clocks.specs.Answer.lines_to, net_plan.specs.declared.event.Event.Event}
use Rattle.{run_law.specs.records.Happenings.Happening, std.proofs.Common.{◌≡◌, List}, tte_forms.specs.Putting.{PutsLines, shown_by}}
use Rattle.lens_clocks.proofs.cycles.put_cycles.Given as goal

abbrev pub invariant-cycles : goal.invariant-cycles
invariant-cycles g l = record {
  puts : (befallen : List Event) (hs : List Happening) → IsIndex l.network befallen hs l.index
      → PutsLines (lines_to (scenario_under l.network befallen) hs l.before) (shown_by g.K.Sink l.fn.out) (shown_by g.K.Sink l.out);
  quiet : g.K.Sink.faults l.out ≡ g.K.Sink.faults l.fn.out;
}
