-- How `vote` ends for an accepted network.
use Rattle.std.specs.Prelude.{◌≢◌, ◌⊎◌, List, Option, true, ℕ}
use Rattle.{net_plan.specs.declared.network.Network.Network, tte_traces.specs.{Answer.IsTraceAnswer, Ending.RunEnds}}
use Rattle.tte_forms.specs.{Answering.{Answer, Gives}, declared.status.Status.{Status, TheVariants.ReadFault}}
use Rattle.tte_forms.specs.Putting.{Shown}
use Rattle.tte_observers.specs.{declared.votes.law.voters.Voters.Voters, votes.VoteLines.vote_lines}
use Rattle.tte_observers.specs.votes.{Answer.{AreNamed, IsVoteRefusal, MayThey, Names}, Streaming.{IsOfRun, no_lines}}

-- the votes of these virtual links are put behind the run, and nothing is put along it
abbrev pub VotesEnd : Voters → Network → Option (List ℕ) → Option (List ℕ) → Status → Shown → Shown → Type 0
VotesEnd voters network first left status old new =
    RunEnds (λ trace. IsTraceAnswer (vote_lines voters) trace network) no_lines network first left status old new

-- a word or the vote is refused, and the trace is unread; or the votes are put
abbrev pub VoteEnds : Names → Network → Type 0 → Option (List ℕ) → Option (List ℕ) → Status → Shown → Shown → Type 0
VoteEnds names network Unread first left status old new =
    ((a : Answer) × IsVoteRefusal names network a × Gives a status old new × (status ≢ ReadFault) × Unread)
    ⊎ ((voters : Voters) × AreNamed network names voters × MayThey network voters true
    × VotesEnd voters network first left status old new × IsOfRun status)
