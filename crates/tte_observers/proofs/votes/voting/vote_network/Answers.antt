use Rattle.{tte_forms.specs.Answering.line_answer, tte_observers.specs.votes.Answer.{IsFirstUnknown, name_line, the_names, vote_refused}}
use Rattle.tte_observers.proofs.votes_lemmas.VoteLines.{named_there, not_read, of_run, vote_status}
use Rattle.tte_observers.proofs.votes_lemmas.Words.{AreNamed, MayThey, NameRefused, VoteRefused, false, inl, inr, refl, subst, true}
use Rattle.tte_observers.proofs.votes.voting.vote_network.Goals as goal

pub returns-in-Err-clause-ends : goal.returns-in-Err-clause-ends
returns-in-Err-clause-ends g c =
    let names = the_names c.args.one.now c.args.two.now c.args.three.now in
    inl (
      line_answer NameRefused (name_line c.in-Err.place),
      inl (c.in-Err.place, subst (λ n. IsFirstUnknown n names c.in-Err.place) c.network-network.ensures.value c.in-Err.ensures, refl),
      c.put_refused_name.ensures.gives,
      not_read NameRefused c.put_refused_name.result (λ e. cc) c.put_refused_name.ensures.status,
      refl,
    )

pub may_vote-requires-clause-first : goal.may_vote-requires-clause-first
may_vote-requires-clause-first g c = named_there c.network-network.result.now c.in-Ok.voters.first c.in-Ok.ensures.first

pub may_vote-requires-clause-second : goal.may_vote-requires-clause-second
may_vote-requires-clause-second g c =
    named_there c.network-network.result.now c.in-Ok.voters.second c.in-Ok.ensures.second

pub may_vote-requires-clause-third : goal.may_vote-requires-clause-third
may_vote-requires-clause-third g c = named_there c.network-network.result.now c.in-Ok.voters.third c.in-Ok.ensures.third

pub returns-then-not-may_vote-clause-ends : goal.returns-then-not-may_vote-clause-ends
returns-then-not-may_vote-clause-ends g c =
    let names = the_names c.args.one.now c.args.two.now c.args.three.now in
    let voters = c.in-Ok.voters in
    let n = c.network-network.result.now in
    inl (
      line_answer VoteRefused vote_refused,
      inr (
        voters,
        subst (λ m. AreNamed m names voters) c.network-network.ensures.value c.in-Ok.ensures,
        subst (λ m. MayThey m voters false) c.network-network.ensures.value
            (subst (λ b. MayThey n voters b) c.if-not-may_vote.true c.may_vote.ensures),
        refl,
      ),
      c.put_refused_vote.ensures.gives,
      not_read VoteRefused c.put_refused_vote.result (λ e. cc) c.put_refused_vote.ensures.status,
      refl,
    )

pub returns-clause-ends : goal.returns-clause-ends
returns-clause-ends g c =
    let names = the_names c.args.one.now c.args.two.now c.args.three.now in
    let voters = c.in-Ok.voters in
    let n = c.network-network.result.now in
    inr (
      voters,
      subst (λ m. AreNamed m names voters) c.network-network.ensures.value c.in-Ok.ensures,
      subst (λ m. MayThey m voters true) c.network-network.ensures.value
          (subst (λ b. MayThey n voters b) c.if-not-may_vote.false c.may_vote.ensures),
      c.vote_run.ensures.ends,
      of_run c.vote_run.result c.vote_run.ensures.statuses,
    )

pub returns-clause-statuses : goal.returns-clause-statuses
returns-clause-statuses g c = vote_status c.vote_run.result c.vote_run.ensures.statuses
