use Rattle.sync_state.proofs.membership_lemmas.CountLemmas.{count_of-union_single}
use Rattle.sync_state.proofs.membership.laws.one_more_member.Goals as goal

pub returns : goal.returns
returns c = count_of-union_single
