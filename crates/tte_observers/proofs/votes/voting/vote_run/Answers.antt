use Rattle.tte_observers.proofs.votes_lemmas.Words.{HoldsVotes, VotesEnd, [], no_lines, refl, shown_by, subst, sym, vote_lines}
use Rattle.tte_traces.{proofs.Ends.no_memory, specs.Answer.IsTraceAnswer}
use Rattle.tte_observers.proofs.votes.voting.vote_run.Goals as goal

pub vote_world-requires : goal.vote_world-requires
vote_world-requires g c = record {
  votes = subst (λ v. HoldsVotes c.args.accepted.now v [] c.in-Ok.votes) (sym c.in-Ok.ensures.voters_are) c.in-Ok.ensures;
  nothing = refl;
}

pub returns-in-Ok-clause-ends : goal.returns-in-Ok-clause-ends
returns-in-Ok-clause-ends g c =
    let shown = shown_by g.K.Sink in
    let left = g.B.Source.left in
    subst (λ v. VotesEnd v c.args.accepted.now (left c.args.second.now) (left c.vote_world.new.second) c.vote_world.result (shown c.args.out.now)
    (shown c.vote_world.new.out)) c.in-Ok.ensures.voters_are c.vote_world.ensures.ends

pub returns-in-Err-clause-ends : goal.returns-in-Err-clause-ends
returns-in-Err-clause-ends g c =
    no_memory (λ trace. IsTraceAnswer (vote_lines c.args.voters) trace c.args.accepted.now) no_lines c.args.accepted.now
    (g.B.Source.left c.args.second.now) _ refl
