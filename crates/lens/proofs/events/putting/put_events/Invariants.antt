use Rattle.std.proofs.Common.{◌≡◌}
use Rattle.lens.proofs.events_lemmas.StormEvents.{HasPutEvents}
use Rattle.tte_forms.specs.Putting.{shown_by}
use Rattle.tte_traces.specs.storms.Storms.{left_of}
use Rattle.lens.proofs.events.putting.put_events.Given as goal

abbrev pub invariant-events : goal.invariant-events
invariant-events g l = record {
  puts : HasPutEvents l.accepted l.seed l.cycles l.storm (shown_by g.K.Sink l.fn.out) (shown_by g.K.Sink l.out);
  quiet : g.K.Sink.faults l.out ≡ g.K.Sink.faults l.fn.out;
}

abbrev pub decreases-events : goal.decreases-events
decreases-events g l = left_of l.storm
