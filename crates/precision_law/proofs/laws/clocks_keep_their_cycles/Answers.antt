use Rattle.precision_law.proofs.law.Whole.{cycles_kept}
use Rattle.precision_law.proofs.laws.clocks_keep_their_cycles.Goals as goal

pub returns : goal.returns
returns c = cycles_kept
