-- The votes that `vote` puts are those of a run that goes well, in which two correct senders outvote the third.
use Rattle.std.specs.Prelude.{◌++◌, ◌+◌, ◌<◌, ◌^◌, ◌∷◌, ◌≡◌, ◌⊎◌, List, Option, Some, [], length, true, ℕ}
use Rattle.{drift_clock.specs.Segment.{fresh_segment, segment_reading, stepped_segment}, tte_units.specs.Amount.amount}
use Rattle.{drift_world.specs.Running.last_time, net_plan.specs.Belonging.device_name, tte_forms.specs.Putting.Shown}
use Rattle.{net_plan.specs.declared.event.Event.Event, tte_observers.specs.votes.tmr.Vote.voted}
use Rattle.{net_plan.specs.declared.ids.DeviceId.DeviceId, tte_observers.specs.votes.VoteLines.{vote_line, vote_lines}}
use Rattle.{net_plan.specs.declared.network.Network.Network, precision_law.specs.traffic.safety.Under.scenario_of}
use Rattle.{net_plan.specs.declared.tables.VirtualLink.VirtualLink, tte_forms.specs.networks.NetworkLine.IsRefusalText}
use Rattle.{run_law.specs.{declared.note.Note.Note, records.Order.IsIn}, tte_traces.specs.FaultLine.fault_lines}
use Rattle.{run_law.specs.records.Happenings.happenings, tte_traces.specs.Safely.{OfRunToFault, OfWholeRun, RunsSafely}}
use Rattle.{tte_forms.specs.declared.status.Status.Status, tte_observers.specs.votes.law.Voting.MayVote}
use Rattle.tte_observers.specs.{declared.votes.law.voters.Voters.Voters, votes.law.Outvoting.{AreTwoOwed, sent_payload}}
use Rattle.tte_observers.specs.votes.{Answer.{AreNamed, MayThey, Names, name_line, vote_refused}, law.Ballots.ballot_of}

-- by these records the vote of the cycle at the device is this payload, and the lines tell it
pub record IsToldVote (network : Network) (voters : Voters) (notes : List Note) (cycle : ℕ) (device : DeviceId)
    (payload : List ℕ) (lines : List (List ℕ)) : Type 0 where
  pub value : voted (ballot_of voters (happenings network notes) cycle device) ≡ Some payload
  pub told : IsIn (vote_line cycle (device_name network device) (Some payload)) lines

-- where, by the records of a run, the frames of two of the three virtual links in a cycle are owed to a device up to
-- the time, its vote by the records that were written is the payload that a correct sender makes for the cycle,
-- whatever the third sender does; so the votes of all such devices are one
abbrev pub TwoOutvote : Voters → Network → List Event → List Note → List Note → ℕ → List (List ℕ) → Type 0
TwoOutvote voters network events run written until lines =
    (a b c : VirtualLink) (cycle : ℕ) (device : DeviceId)
    → MayVote network voters a b c true → cycle < 2 ^ 32
    → AreTwoOwed (scenario_of fresh_segment stepped_segment segment_reading network events) (happenings network run)
    until voters a b c cycle device
    → IsToldVote network voters written cycle device (sent_payload a cycle) lines

-- the words name virtual links that may vote, and of which this holds
abbrev pub NameVoters : Names → Network → (Voters → Type 0) → Type 0
NameVoters names network Holds =
    (voters : Voters) × AreNamed network names voters × MayThey network voters true × Holds voters

-- the lines are the votes in a run that goes well, and so two outvote the third
abbrev pub IsVotedRun : Names → List ℕ → List ℕ → List (List ℕ) → Type 0
IsVotedRun names octets trace lines =
    OfWholeRun octets trace (λ network events notes run. NameVoters names network (λ voters.
    TwoOutvote voters network events notes notes (amount run.end) lines
    × (lines ≡ vote_lines voters network events notes)))

-- they are the votes up to a fault of the trace, and then the fault; up to before the time of the last event two
-- outvote the third
abbrev pub IsVotedToFault : Names → List ℕ → List ℕ → List (List ℕ) → Type 0
IsVotedToFault names octets trace lines =
    OfRunToFault octets trace (λ network events fault notes run. NameVoters names network (λ voters.
    ((until : ℕ) → until < amount (last_time events) → TwoOutvote voters network events run.front notes until lines)
    × (lines ≡ vote_lines voters network events notes ++ fault_lines (length events + 1) fault)))

-- the line is that of a network that is refused, of a word that names no virtual link, or of virtual links that may not
-- vote
abbrev pub IsNoVote : List (List ℕ) → Type 0
IsNoVote lines = IsRefusalText lines ⊎ ((place : ℕ) × (lines ≡ name_line place ∷ [])) ⊎ (lines ≡ vote_refused ∷ [])

abbrev pub VotesSafely : Names → Option (List ℕ) → Option (List ℕ) → Status → Shown → Shown → Type 0
VotesSafely names first second status old new =
    RunsSafely (IsVotedRun names) (IsVotedToFault names) IsNoVote first second status old new
