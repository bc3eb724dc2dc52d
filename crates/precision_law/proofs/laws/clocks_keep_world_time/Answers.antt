use Rattle.precision_law.proofs.law.Whole.{world_time_kept}
use Rattle.precision_law.proofs.laws.clocks_keep_world_time.Goals as goal

pub returns : goal.returns
returns c = world_time_kept
