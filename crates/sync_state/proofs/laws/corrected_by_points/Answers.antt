use Rattle.sync_state.proofs.VerdictLemmas.{by_points}
use Rattle.sync_state.proofs.laws.corrected_by_points.Goals as goal

pub returns : goal.returns
returns c = by_points
