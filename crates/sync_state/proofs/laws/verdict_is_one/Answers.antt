use Rattle.sync_state.proofs.VerdictLemmas.{one_verdict}
use Rattle.sync_state.proofs.laws.verdict_is_one.Goals as goal

pub returns : goal.returns
returns c = one_verdict
