-- What is kept of the ballots of a run.
use Rattle.std.specs.{BTreeMap.{BTreeMap, btree_map_len, get}, Ordering.nat_cmp}
use Rattle.std.specs.Prelude.{if◌then◌else◌, ◌*◌, ◌+◌, ◌<◌, ◌==◌, ◌^◌, ◌||◌, ◌≡◌, ◌≤◌, Bool, List, None, Option, Some}
use Rattle.std.specs.Prelude.{option_and_then, option_map, unwrap_or, ℕ}
use Rattle.{device_rules.specs.frames.traced.Keeping.Keeps, net_plan.specs.declared.ids.{DeviceId.DeviceId, VlId.VlId}}
use Rattle.{device_rules.specs.frames.traced.RecordOctets.octets_of, net_plan.specs.declared.network.Network.Network}
use Rattle.{run_law.specs.declared.note.Note.Note, tte_observers.specs.votes.tmr.Vote.{Votes, no_votes, with_payload}}
use Rattle.run_law.specs.{declared.note.NoteBody.NoteBody, records.Happenings.{Happening, happenings, numbered}}
use Rattle.tte_observers.specs.declared.votes.ballots.{seats.BallotDelivery.BallotDelivery, votes.KeptVotes.KeptVotes}
use Rattle.tte_observers.specs.declared.votes.{ballots.seats.Seats.Seats, law.voters.Voters.Voters}
use Rattle.tte_observers.specs.votes.law.Ballots.{ballot_of, delivery_of, payload_in}
use Rattle.run_law.specs.declared.note.NoteBody.TheVariants as notes

-- what is taken by a record of this body, if something is
abbrev pub delivery_in : NoteBody → Option BallotDelivery
delivery_in (notes.Delivered device link cause vl cycle) = Some (record { vl = vl; cycle = cycle; device = device })
delivery_in other = None

-- the place of a ballot among all ballots: by cycle, and then by device
abbrev pub key_of : ℕ → DeviceId → ℕ
key_of cycle device = cycle * 2 ^ 32 + device.0

-- is it a virtual link of the vote?
abbrev pub is_voter : Voters → VlId → Bool
is_voter voters vl = (vl.0 == voters.first.0 || vl.0 == voters.second.0) || vl.0 == voters.third.0

-- the seat of a virtual link, behind the record of this number, by which a frame of one is taken; the first record
-- stays
abbrev pub seat_with : VlId → VlId → ℕ → Option ℕ → Option ℕ
seat_with voter vl number (Some first) = Some first
seat_with voter vl number None = if voter.0 == vl.0 then Some number else None

-- the same of all seats of a ballot
abbrev pub seats_with : Voters → VlId → ℕ → Seats → Seats
seats_with voters vl number seats = record {
  first = seat_with voters.first vl number seats.first;
  second = seat_with voters.second vl number seats.second;
  third = seat_with voters.third vl number seats.third;
}

-- no seat is cast
abbrev pub none_cast : Seats
none_cast = record { first = None; second = None; third = None }

-- the seats of the ballot at this place
abbrev pub seats_at : BTreeMap ℕ Seats → ℕ → Seats
seats_at ballots key = unwrap_or (get nat_cmp ballots key) none_cast

-- the seat is cast by the record of this number: the first by which the device takes the virtual link in the cycle
abbrev pub IsCastBy : List Happening → VlId → ℕ → DeviceId → Option ℕ → Type 0
IsCastBy hs vl cycle device None = delivery_of hs vl cycle device ≡ None
IsCastBy hs vl cycle device (Some number) =
    (h : Happening) × (numbered hs number ≡ Some h) × (delivery_of hs vl cycle device ≡ Some h)

-- the seats of a ballot are cast by these records
pub record AreCast (hs : List Happening) (voters : Voters) (cycle : ℕ) (device : DeviceId) (seats : Seats) : Type
    0 where
  pub first : IsCastBy hs voters.first cycle device seats.first
  pub second : IsCastBy hs voters.second cycle device seats.second
  pub third : IsCastBy hs voters.third cycle device seats.third

-- the ballots of these records
abbrev pub AreBallots : List Happening → Voters → BTreeMap ℕ Seats → Type 0
AreBallots hs voters ballots =
    (cycle : ℕ) (device : DeviceId) → cycle < 2 ^ 32 → device.0 < 2 ^ 32
    → AreCast hs voters cycle device (seats_at ballots (key_of cycle device))

-- the ballots that are kept are those of these records of the network
pub record HoldsVotes (network : Network) (voters : Voters) (ns : List Note) (votes : KeptVotes) : Type 0 where
  pub frames : Keeps network ns votes.frames
  pub voters_are : votes.voters ≡ voters
  pub ballots : AreBallots (happenings network ns) voters votes.ballots

-- ---- the ballots from a place on

-- they are the ballots of these records from this place on, and none is kept before it
pub record HoldsFrom (network : Network) (voters : Voters) (ns : List Note) (from : ℕ) (votes : KeptVotes) : Type
    0 where
  pub frames : Keeps network ns votes.frames
  pub voters_are : votes.voters ≡ voters
  pub ballots : (cycle : ℕ) (device : DeviceId) → cycle < 2 ^ 32 → device.0 < 2 ^ 32 → from ≤ key_of cycle device
      → AreCast (happenings network ns) voters cycle device (seats_at votes.ballots (key_of cycle device))
  pub none_before : (key : ℕ) → key < from → get nat_cmp votes.ballots key ≡ None

-- on the ballots from this place up to before another no seat is cast
abbrev pub AreOpenFrom : Network → Voters → List Note → ℕ → ℕ → Type 0
AreOpenFrom network voters ns from to =
    (cycle : ℕ) (device : DeviceId) → cycle < 2 ^ 32 → device.0 < 2 ^ 32
    → from ≤ key_of cycle device → key_of cycle device < to
    → ballot_of voters (happenings network ns) cycle device ≡ no_votes

-- this is the next ballot from the place on that is kept; the votes hold those behind it
pub record IsNext (network : Network) (voters : Voters) (ns : List Note) (from cycle : ℕ) (device : DeviceId)
    (ballot : Votes) (left : KeptVotes) : Type 0 where
  pub in_cycle : cycle < 2 ^ 32
  pub of_device : device.0 < 2 ^ 32
  pub not_before : from ≤ key_of cycle device
  pub passed : AreOpenFrom network voters ns from (key_of cycle device)
  pub is : ballot ≡ ballot_of voters (happenings network ns) cycle device
  pub behind : HoldsFrom network voters ns (key_of cycle device + 1) left

-- how many ballots are kept
abbrev pub kept_count : KeptVotes → ℕ
kept_count votes = btree_map_len votes.ballots

-- ---- a ballot

-- the payload of the record of this number, if there is one and it has octets
abbrev pub seat_payload : Network → List Note → Option ℕ → Option (List ℕ)
seat_payload network ns seat = option_map payload_in (option_and_then (octets_of network ns) seat)

-- the ballot with this payload at the seat, if there is one
abbrev pub with_cast : ℕ → Option (List ℕ) → Votes → Votes
with_cast seat (Some payload) votes = with_payload seat payload votes
with_cast seat None votes = votes
