-- What `vote` puts are the votes in a run that goes well, in which two outvote the third.
use Rattle.{drift_world.specs.Running.last_time, net_plan.specs.Ranges.IsInRange, tte_units.specs.Amount.amount}
use Rattle.tte_observers.proofs.votes_lemmas.{VoteLines.{outvoted, outvoted_before}, Words.{vote_lines, ℕ}}
use Rattle.tte_traces.proofs.Runs.{IsSafe, good_before, good_run, of_fault, of_whole, trace_safe}
use Rattle.tte_observers.{specs.votes.Safely.{IsNoVote, IsVotedRun, IsVotedToFault, TwoOutvote}}
use Rattle.tte_observers.proofs.votes_lemmas.Words.{Answer, IsVoteAnswer, List, MeansAccepted, Names, Network, [], append-nil, inl, inr, refl, subst, sym}

-- an answer of `vote` for an accepted network is safe
pub vote_safe : (names : Names) (network : Network) → IsInRange network → (octets trace : List ℕ) (a : Answer) → MeansAccepted octets network
    → IsVoteAnswer names trace network a → IsSafe (IsVotedRun names octets trace) (IsVotedToFault names octets trace) IsNoVote a
vote_safe names network range octets trace a m (inl (inl (place, unknown, is))) =
    subst (IsSafe (IsVotedRun names octets trace) (IsVotedToFault names octets trace) IsNoVote) (sym is)
    (record { safe = inl (inr (inr (inr (inl (place, refl))))); whole = λ old new puts. tt })
vote_safe names network range octets trace a m (inl (inr (voters, named, may, is))) =
    subst (IsSafe (IsVotedRun names octets trace) (IsVotedToFault names octets trace) IsNoVote) (sym is)
    (record { safe = inl (inr (inr (inr (inr refl)))); whole = λ old new puts. tt })
vote_safe names network range octets trace a m (inr (voters, named, may, is)) =
    trace_safe (IsVotedRun names octets trace) (IsVotedToFault names octets trace) IsNoVote (vote_lines voters) trace network
    (λ events notes admitted records.
    let run = good_run octets trace network range m events admitted notes records in
    let two = subst (λ ls. TwoOutvote voters network events notes notes (amount run.end) ls)
    (append-nil (vote_lines voters network events notes))
    (outvoted network events voters notes notes (amount run.end) [] run.well.safe.delivery (λ cycle device. refl)) in
    of_whole octets trace network range m events admitted notes _ records (voters, named, may, (two, refl)))
    (λ events notes fault admitted there records.
    let run = good_before octets trace network range m events admitted notes records in
    of_fault octets trace network range m events admitted notes _ fault there records (
      voters,
      named,
      may,
      (
        λ until before. outvoted_before network events voters (amount (last_time events)) run.front run.rest notes until _ (run.well until before).safe.delivery
            run.parts run.only_events,
        refl,
      ),
    )) a is
