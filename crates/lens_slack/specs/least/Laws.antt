-- What the least times have to do with the rules.
use Rattle.lens_slack.specs.{Tightest.IsEnough, declared.least.times.Times.Times, least.Least.AreLeast}
use Rattle.lens_slack.specs.least.{Answer.room_of, Times.{AreAtMost, IsButForTimes, times_of, with_times}}
use Rattle.net_plan.specs.{Ranges.IsInRange, declared.network.Network.Network}
use Rattle.schedule_tables.specs.Rules.{KeepsBelow}

-- where the cycle has room for the least times, the network with them keeps rules 1 to 12, and its numbers are in range
pub record LeastKeep : Type 0 where
  pub rules : (network : Network) (times : Times) → AreLeast network times → IsEnough (room_of network times)
      → KeepsBelow 13 (with_times network times)
  pub range : (network : Network) (times : Times) → IsInRange network → AreLeast network times
      → IsEnough (room_of network times) → IsInRange (with_times network times)

-- each network that is this one but for the five times, and keeps rules 1 to 12, has none of them less
abbrev pub LeastAreLeast : Type 0
LeastAreLeast =
    (network other : Network) (times : Times) → AreLeast network times → IsButForTimes network other
    → KeepsBelow 13 other → AreAtMost times (times_of other)

-- and where there is such a network, the cycle has room for the least times
abbrev pub LeastHaveRoom : Type 0
LeastHaveRoom =
    (network other : Network) (times : Times) → AreLeast network times → IsButForTimes network other
    → KeepsBelow 13 other → IsEnough (room_of network times)
