use Rattle.sync_state.proofs.membership_lemmas.CountLemmas.{ones_by_bits}
use Rattle.sync_state.proofs.membership.laws.count_is_of_members.Goals as goal

pub returns : goal.returns
returns c = λ width m small. ones_by_bits width m.0 small
