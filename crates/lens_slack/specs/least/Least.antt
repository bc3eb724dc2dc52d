-- Which times are the least.
use Rattle.std.specs.Prelude.{ℕ}
use Rattle.lens_slack.specs.Bounds.{IsBoundAt}
use Rattle.{lens_slack.specs.{Tightest.IsEnough, declared.spot.Finding.Finding}, schedule_tables.specs.Rules.KeepsBelow}
use Rattle.{lens_slack.specs.declared.least.times.Times.Times, net_plan.specs.declared.network.Network.Network}
use Rattle.lens_slack.specs.{declared.spot.BoundedNumber.TheVariants.Begin, least.Times.{AreAtMost, with_times}}

-- the network keeps rules 1 to 11, and its schedule begins as late as rule 12 wants; whether the cycle has room for
-- that is not asked
pub record Suffices (network : Network) : Type 0 where
  pub rules : KeepsBelow 12 network
  pub begins : (n : ℕ) (f : Finding) → IsBoundAt network Begin n f → IsEnough f

-- with these times the network suffices, and with no others of which one is less
pub record AreLeast (network : Network) (times : Times) : Type 0 where
  pub suffice : Suffices (with_times network times)
  pub least : (others : Times) → Suffices (with_times network others) → AreAtMost times others
