use Rattle.drift_clock.proofs.Sums.{reads_count}
use Rattle.drift_clock.proofs.laws.segment_law.Goals as goal

pub returns : goal.returns
returns c = reads_count
