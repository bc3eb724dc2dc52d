use Rattle.std.proofs.{Common.arith, Math.Bool.and_assoc, lemmas.Grind.common_steps}
use Rattle.sync_state.proofs.sync.SyncPartialEq.eq.Goals as goal

pub returns : goal.returns
returns c = grind (arith, common_steps, and_assoc)
