use Rattle.tte_observers.proofs.votes_lemmas.{VoteLines.IsOwn, Words.{no_lines, refl}}
use Rattle.tte_traces.proofs.Ends.{no_memory}
use Rattle.tte_observers.proofs.votes.voting.vote_world.Goals as goal

pub returns-in-Err-clause-ends : goal.returns-in-Err-clause-ends
returns-in-Err-clause-ends g c =
    no_memory (λ trace. IsOwn c.args.voter.now trace c.args.accepted.now) no_lines c.args.accepted.now (g.B.Source.left c.args.second.now) _ refl
