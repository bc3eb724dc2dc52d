-- Two correct senders outvote the third, whatever it does.
use Rattle.std.specs.Prelude.{◌++◌, ◌-◌, ◌≡◌, ◌⊎◌, List, Some, replicate, true, ℕ}
use Rattle.byteorder.specs.Endian.{big_bytes}
use Rattle.net_plan.specs.declared.{ids.DeviceId.DeviceId, tables.VirtualLink.VirtualLink}
use Rattle.run_law.specs.{law.Safety.{FramesAreDelivered, IsOwed}, records.Happenings.Happening}
use Rattle.{run_law.specs.scenario.Scenarios.Scenario, tte_observers.specs.votes.tmr.Vote.voted}
use Rattle.tte_observers.specs.{declared.votes.law.voters.Voters.Voters, votes.law.{Ballots.ballot_of, Voting.MayVote}}

-- the payload that a correct sender makes for a cycle: the cycle in four octets, and zeros
abbrev pub sent_payload : VirtualLink → ℕ → List ℕ
sent_payload vl cycle = big_bytes 4 cycle ++ replicate (vl.length - 18) 0

-- the frames of two of the three virtual links in the cycle are owed to the device
abbrev pub AreTwoOwed : Scenario → List Happening → ℕ → Voters → VirtualLink → VirtualLink → VirtualLink → ℕ → DeviceId
    → Type 0
AreTwoOwed s hs until voters a b c cycle device =
    (IsOwed s hs until voters.first a cycle device × IsOwed s hs until voters.second b cycle device)
    ⊎ ((IsOwed s hs until voters.first a cycle device × IsOwed s hs until voters.third c cycle device)
    ⊎ (IsOwed s hs until voters.second b cycle device × IsOwed s hs until voters.third c cycle device))

-- where each frame that is owed is delivered, two of three outvote the third: the vote at each device to which the
-- frames of two are owed is the payload that a correct sender makes
abbrev pub TwoOutvoteTheThird : Type 0
TwoOutvoteTheThird =
    (s : Scenario) (hs : List Happening) (until : ℕ) (voters : Voters) (a b c : VirtualLink) (cycle : ℕ)
    (device : DeviceId)
    → MayVote s.network voters a b c true → FramesAreDelivered s hs until
    → AreTwoOwed s hs until voters a b c cycle device
    → voted (ballot_of voters hs cycle device) ≡ Some (sent_payload a cycle)
