use Rattle.{tte_forms.proofs.networks.Answers.{files_accepted, files_refused}, tte_observers.specs.votes.Safely.{IsNoVote, IsVotedRun, IsVotedToFault}}
use Rattle.tte_forms.specs.networks.Accepting.{refusal_lines}
use Rattle.tte_observers.proofs.votes_lemmas.{Safely.vote_safe, VoteLines.{general_of, little_of, stops_of}}
use Rattle.tte_observers.proofs.votes_lemmas.{Words.{IsVoteAnswer, inl, inr, refl, shown_by}}
use Rattle.tte_traces.proofs.Runs.{safely_accepted, safely_refused}
use Rattle.tte_observers.specs.votes.Answer.{the_names}
use Rattle.tte_observers.proofs.votes.voting.vote_trace.Goals as goal

pub returns-in-Ok-clause-general : goal.returns-in-Ok-clause-general
returns-in-Ok-clause-general g c =
    let names = the_names c.args.one.now c.args.two.now c.args.three.now in
    let left = g.B.Source.left in
    files_accepted refusal_lines (IsVoteAnswer names) (g.A.Source.left c.args.first.now) (left c.args.second.now) c.in-Ok.accepted c.vote_network.result _ _
    c.in-Ok.ensures.accepted
    (general_of names c.in-Ok.accepted (left c.args.second.now) (left c.vote_network.new.second) c.vote_network.result _ _ c.in-Ok.ensures.range
    c.vote_network.ensures.ends)

pub returns-in-Err-clause-general : goal.returns-in-Err-clause-general
returns-in-Err-clause-general g c =
    files_refused refusal_lines (IsVoteAnswer (the_names c.args.one.now c.args.two.now c.args.three.now)) (g.A.Source.left c.args.first.now)
    (g.B.Source.left c.args.second.now) c.in-Err.cause c.put_no_network.result _ _ c.in-Err.ensures.none c.put_no_network.ensures.gives
    c.put_no_network.ensures.unput

pub returns-in-Ok-clause-safe : goal.returns-in-Ok-clause-safe
returns-in-Ok-clause-safe g c =
    let names = the_names c.args.one.now c.args.two.now c.args.three.now in
    let left = g.B.Source.left in
    safely_accepted (IsVotedRun names) (IsVotedToFault names) IsNoVote refusal_lines (λ reason. inl (reason, refl)) (g.A.Source.left c.args.first.now)
    (left c.args.second.now) c.vote_network.result _ _ c.in-Ok.accepted (λ trace. IsVoteAnswer names trace c.in-Ok.accepted)
    (vote_safe names c.in-Ok.accepted c.in-Ok.ensures.range) c.in-Ok.ensures.accepted
    (general_of names c.in-Ok.accepted (left c.args.second.now) (left c.vote_network.new.second) c.vote_network.result _ _ c.in-Ok.ensures.range
    c.vote_network.ensures.ends)

pub returns-in-Err-clause-safe : goal.returns-in-Err-clause-safe
returns-in-Err-clause-safe g c =
    let shown = shown_by g.K.Sink in
    let names = the_names c.args.one.now c.args.two.now c.args.three.now in
    safely_refused (IsVotedRun names) (IsVotedToFault names) IsNoVote refusal_lines (λ reason. inl (reason, refl)) (g.A.Source.left c.args.first.now)
    (g.B.Source.left c.args.second.now) c.put_no_network.result (shown c.args.out.now) (shown c.put_no_network.new.out) c.in-Err.cause
    c.put_no_network.ensures.gives

pub returns-in-Ok-clause-faults : goal.returns-in-Ok-clause-faults
returns-in-Ok-clause-faults g c =
    let shown = shown_by g.K.Sink in
    let names = the_names c.args.one.now c.args.two.now c.args.three.now in
    record {
      read = λ is. inr (
        c.vote_network.ensures.cause.read is,
        stops_of names c.in-Ok.accepted (g.B.Source.left c.args.second.now) (g.B.Source.left c.vote_network.new.second) c.vote_network.result
            (shown c.args.out.now) (shown c.vote_network.new.out) (g.A.Source.left c.args.first.now) c.in-Ok.ensures.accepted is c.vote_network.ensures.ends,
      );
      write = c.vote_network.ensures.cause.write;
    }

pub returns-in-Ok-clause-takes : goal.returns-in-Ok-clause-takes
returns-in-Ok-clause-takes g c =
    let shown = shown_by g.K.Sink in (
      c.in-Ok.ensures.taken,
      little_of (the_names c.args.one.now c.args.two.now c.args.three.now) c.in-Ok.accepted (g.B.Source.left c.args.second.now)
          (g.B.Source.left c.vote_network.new.second) c.vote_network.result (shown c.args.out.now) (shown c.vote_network.new.out)
          (g.A.Source.left c.args.first.now) c.in-Ok.ensures.accepted c.vote_network.ensures.ends,
    )
