-- Which virtual links may vote.
use Rattle.std.specs.Prelude.{◌&&◌, ◌==◌, ◌≡◌, Bool, Some, not, slice_get}
use Rattle.net_plan.specs.declared.{network.Network.Network, tables.VirtualLink.VirtualLink}
use Rattle.tte_observers.specs.declared.votes.law.voters.Voters.{Voters}

-- have the two other senders, and one length, one period and one phase?
abbrev pub is_match : VirtualLink → VirtualLink → Bool
is_match a b = not (a.sender.0 == b.sender.0) && (a.length == b.length && (a.period == b.period && a.phase == b.phase))

-- so has each pair of the three
abbrev pub are_matches : VirtualLink → VirtualLink → VirtualLink → Bool
are_matches a b c = is_match a b && (is_match a c && is_match b c)

-- the three virtual links are these, and they may vote where this is true
pub record MayVote (network : Network) (voters : Voters) (a b c : VirtualLink) (may : Bool) : Type 0 where
  pub first : slice_get network.vl voters.first.0 ≡ Some a
  pub second : slice_get network.vl voters.second.0 ≡ Some b
  pub third : slice_get network.vl voters.third.0 ≡ Some c
  pub told : are_matches a b c ≡ may
