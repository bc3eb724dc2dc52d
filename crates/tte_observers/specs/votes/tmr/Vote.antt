-- The vote of two out of three.
use Rattle.std.specs.{Cmp.Lexicographic.pointwise, Prelude.{option_and_then, suc, zero, ℕ}}
use Rattle.std.specs.Prelude.{◌<◌, ◌||◌, ◌≡◌, ◌≢◌, ◌≤◌, Bool, List, None, Option, Some, false, if◌then◌else◌, nat_eq}

-- a ballot: the payload of each of its three seats, if the seat is cast
pub record Votes : Type 0 where
  pub first : Option (List ℕ)
  pub second : Option (List ℕ)
  pub third : Option (List ℕ)

-- the ballot on which no seat is cast
abbrev pub no_votes : Votes
no_votes = record { first = None; second = None; third = None }

-- the payload of this seat, if it is one of 0 to 2 and is cast
abbrev pub payload_of : Votes → ℕ → Option (List ℕ)
payload_of v zero = v.first
payload_of v (suc zero) = v.second
payload_of v (suc (suc zero)) = v.third
payload_of v (suc (suc (suc n))) = None

-- the ballot with this payload at this seat
abbrev pub with_payload : ℕ → List ℕ → Votes → Votes
with_payload zero payload v = record v { first = Some payload }
with_payload (suc zero) payload v = record v { second = Some payload }
with_payload (suc (suc zero)) payload v = record v { third = Some payload }
with_payload (suc (suc (suc n))) payload v = v

-- the seat has no payload yet
abbrev pub IsOpen : Votes → ℕ → Type 0
IsOpen v seat = (seat < 3) × (payload_of v seat ≡ None)

-- two payloads are there, and equal
abbrev pub AreEqual : Option (List ℕ) → Option (List ℕ) → Type 0
AreEqual a b = (payload : List ℕ) × (a ≡ Some payload) × (b ≡ Some payload)

-- are two payloads there, and equal?
abbrev pub are_equal : Option (List ℕ) → Option (List ℕ) → Bool
are_equal (Some a) (Some b) = pointwise nat_eq a b
are_equal a b = false

-- the seat's payload equals that of another cast seat
abbrev pub IsSeconded : Votes → ℕ → Type 0
IsSeconded v seat = (other : ℕ) × (other ≢ seat) × AreEqual (payload_of v seat) (payload_of v other)

-- the vote: the least seat whose payload equals that of another cast seat; None where there is none
abbrev pub IsVote : Votes → Option ℕ → Type 0
IsVote v (Some seat) = IsSeconded v seat × ((other : ℕ) → IsSeconded v other → seat ≤ other)
IsVote v None = (seat : ℕ) → IsSeconded v seat → ⊥

-- the same as a function
abbrev pub vote_of : Votes → Option ℕ
vote_of v =
    if are_equal v.first v.second || are_equal v.first v.third then Some 0
    else (if are_equal v.second v.third then Some 1 else None)

-- the payload of the seat that is the vote
abbrev pub voted : Votes → Option (List ℕ)
voted v = option_and_then (payload_of v) (vote_of v)
