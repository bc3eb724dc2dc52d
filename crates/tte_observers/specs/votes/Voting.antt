-- What the observer of `vote` sees of a run.
use Rattle.std.specs.Prelude.{◌≡◌, List}
use Rattle.{net_plan.specs.declared.network.Network.Network, world_drive.specs.Observing.{Start, Told}}
use Rattle.run_law.specs.declared.note.Note.{Note}
use Rattle.tte_observers.specs.{declared.votes.voter.Voter.Voter, votes.ballots.Keeping.HoldsVotes}

-- nothing was put, and the votes are those of the records, for the virtual links that the observer had at first
pub record SeesVotes (network : Network) (notes : List Note) (old : Start Voter) (put : Told) (it : Voter) : Type
    0 where
  pub votes : HoldsVotes network old.observer.votes.voters notes it.votes
  pub nothing : put ≡ old.told

-- nothing was put where a call failed
abbrev pub StopsVotes : Start Voter → Told → Type 0
StopsVotes old put = put ≡ old.told

pub stops_here : (network : Network) (notes : List Note) (old : Start Voter) (put : Told) (it : Voter)
    → SeesVotes network notes old put it → StopsVotes old put
stops_here network notes old put it seen = seen.nothing
