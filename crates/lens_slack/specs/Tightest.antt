-- Which of several findings has the least room.
use Rattle.std.specs.Prelude.{◌+◌, ◌<◌, ◌≡◌, ◌≤◌, ◌⊎◌, Bool, None, Option, Some, nat_lt, ℕ}
use Rattle.net_plan.specs.declared.network.Network.{Network}
use Rattle.lens_slack.specs.{Bounds.IsBoundAt, declared.spot.{Finding.Finding, BoundedNumber.BoundedNumber}}

-- the network has what is wanted
abbrev pub IsEnough : Finding → Type 0
IsEnough f = f.wants ≤ f.has

-- is more wanted than there is?
abbrev pub is_short : Finding → Bool
is_short f = nat_lt f.has f.wants

-- the one finding has less room than the other, or more is short
abbrev pub IsTighter : Finding → Finding → Type 0
IsTighter f g = f.has + g.wants < g.has + f.wants

-- of numbered findings, the one of this number comes before the other: it is tighter, or it is as tight and not later
abbrev pub ComesFirst : ℕ → Finding → ℕ → Finding → Type 0
ComesFirst n f k g = IsTighter f g ⊎ ((f.has + g.wants ≡ g.has + f.wants) × (n ≤ k))

-- the first of the tightest of numbered findings, or none where there are none
abbrev pub IsFirstTightest : (ℕ → Finding → Type 0) → Option Finding → Type 0
IsFirstTightest Has None = (n : ℕ) (f : Finding) → Has n f → ⊥
IsFirstTightest Has (Some f) = (n : ℕ) × Has n f × ((k : ℕ) (g : Finding) → Has k g → ComesFirst n f k g)

-- the first of the tightest bounds at the spot
abbrev pub IsTightestAt : Network → BoundedNumber → Option Finding → Type 0
IsTightestAt network spot f = IsFirstTightest (IsBoundAt network spot) f
