use Rattle.drift_clock.proofs.Readings.{begins_at_zero, keeps_clock_laws, reads_its_steps}
use Rattle.drift_clock.proofs.laws.clock_laws.Goals as goal

pub returns-clause-laws : goal.returns-clause-laws
returns-clause-laws g c = keeps_clock_laws g.C.Clock.fresh g.C.Clock.after_step g.C.Clock.reading g.C.Clock.grain_of g.C.Clock.count (record {
  has_grain = g.met.C.Clock.has_grain;
  keeps_grain = g.met.C.Clock.keeps_grain;
  reads_count = g.met.C.Clock.reads_count;
  counts_time = g.met.C.Clock.counts_time;
  keeps_count = g.met.C.Clock.keeps_count;
  drifts = g.met.C.Clock.drifts;
})

pub returns-clause-begins : goal.returns-clause-begins
returns-clause-begins g c = begins_at_zero g.C.Clock.fresh g.C.Clock.after_step g.C.Clock.reading g.C.Clock.grain_of g.C.Clock.count (record {
  has_grain = g.met.C.Clock.has_grain;
  keeps_grain = g.met.C.Clock.keeps_grain;
  reads_count = g.met.C.Clock.reads_count;
  counts_time = g.met.C.Clock.counts_time;
  keeps_count = g.met.C.Clock.keeps_count;
  drifts = g.met.C.Clock.drifts;
})

pub returns-clause-steps : goal.returns-clause-steps
returns-clause-steps g c = reads_its_steps g.C.Clock.fresh g.C.Clock.after_step g.C.Clock.reading
