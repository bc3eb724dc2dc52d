-- Clocks whose rate is steady between turns.
use Rattle.drift_clock.{proofs.Readings.{IsLawful, begins_at_zero, keeps_clock_laws}, specs.ClockLaws.{AlwaysBeginsAtZero, AlwaysKeepsClockLaws}}
use Rattle.std.proofs.Common.{refl}
use Rattle.drift_clock.specs.{Segment.{fresh_segment, segment_count, segment_reading, stepped_segment}, SegmentLaws.{advances, counts_time, keeps_count}}

-- the program's clocks count exactly
pub exact_steps : IsLawful fresh_segment stepped_segment segment_reading (λ c. c.grain) segment_count
exact_steps = record {
  has_grain = λ g. refl;
  keeps_grain = λ c t r. refl;
  reads_count = λ c t. refl;
  counts_time = counts_time;
  keeps_count = keeps_count;
  drifts = advances;
}

pub exact_laws : AlwaysKeepsClockLaws fresh_segment stepped_segment segment_reading
exact_laws = keeps_clock_laws fresh_segment stepped_segment segment_reading (λ c. c.grain) segment_count exact_steps

pub exact_begins : AlwaysBeginsAtZero fresh_segment stepped_segment segment_reading
exact_begins = begins_at_zero fresh_segment stepped_segment segment_reading (λ c. c.grain) segment_count exact_steps
