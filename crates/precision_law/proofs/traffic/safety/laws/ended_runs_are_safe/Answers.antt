use Rattle.drift_clock.proofs.Readings.{IsLawful, begins_at_zero, keeps_clock_laws}
use Rattle.precision_law.proofs.traffic_lemmas.safety_lemmas.Lawful.{ended}
use Rattle.precision_law.proofs.traffic.safety.laws.ended_runs_are_safe.Goals as goal

pub returns : goal.returns
returns g c =
    let steps : IsLawful g.C.Clock.fresh g.C.Clock.after_step g.C.Clock.reading g.C.Clock.grain_of g.C.Clock.count = record {
      has_grain = g.met.C.Clock.has_grain;
      keeps_grain = g.met.C.Clock.keeps_grain;
      reads_count = g.met.C.Clock.reads_count;
      counts_time = g.met.C.Clock.counts_time;
      keeps_count = g.met.C.Clock.keeps_count;
      drifts = g.met.C.Clock.drifts;
    } in
    ended g.C.Clock.fresh g.C.Clock.after_step g.C.Clock.reading
    (keeps_clock_laws g.C.Clock.fresh g.C.Clock.after_step g.C.Clock.reading g.C.Clock.grain_of g.C.Clock.count steps)
    (begins_at_zero g.C.Clock.fresh g.C.Clock.after_step g.C.Clock.reading g.C.Clock.grain_of g.C.Clock.count steps)
