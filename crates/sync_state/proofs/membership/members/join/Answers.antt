use Rattle.sync_state.proofs.membership_lemmas.SetLemmas.{union-members}
use Rattle.sync_state.proofs.membership.members.join.Goals as goal

pub returns-clause-members : goal.returns-clause-members
returns-clause-members c = union-members c.args.a c.args.b
