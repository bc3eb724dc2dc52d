use Rattle.sync_state.proofs.membership_lemmas.SummaryLemmas.{one_summary}
use Rattle.sync_state.proofs.membership.laws.summary_is_one.Goals as goal

pub returns : goal.returns
returns c = one_summary
