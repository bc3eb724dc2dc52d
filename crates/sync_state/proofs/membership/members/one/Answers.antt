use Rattle.{std.proofs.lemmas.Nat.one_shl, sync_state.proofs.membership_lemmas.SetLemmas.single-members}
use Rattle.sync_state.proofs.membership.members.one.Goals as goal

pub returns-clause-members : goal.returns-clause-members
returns-clause-members c = λ i. rw (one_shl c.args.member 32 c.requires) (single-members c.args.member i)
