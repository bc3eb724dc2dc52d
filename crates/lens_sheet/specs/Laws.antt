-- What the figures of a sheet have to do with the numbers of the network, and its sums with the rules.
use Rattle.std.specs.Prelude.{◌*◌, ◌+◌, ◌≤◌, pos, ℕ}
use Rattle.lens_sheet.specs.{Figures.{IsNearest, thousandths}, Lines.{heard_at, quiet_at}}
use Rattle.lens_sheet.specs.{Weights.{AreWeights, beta_of}, declared.weights.Weights.Weights}
use Rattle.net_plan.specs.{Bounds.IsBeta, Ranges.IsInRange, declared.network.Network.Network}
use Rattle.schedule_checker.specs.Timing.{errors_of}
use Rattle.{schedule_tables.specs.Rules.KeepsRules, tte_units.specs.Amount.amount}

-- each figure is the nearest one of three places to its number, and of two the upper one
abbrev pub FiguresAreNearest : Type 0
FiguresAreNearest = (parts one : ℕ) → 1 ≤ one → IsNearest parts one (thousandths parts one)

-- beta is that of the rules
abbrev pub BetaIsTold : Type 0
BetaIsTold = (network : Network) (w : Weights) → AreWeights network w → IsBeta network (pos (beta_of network w))

-- an accepted network has room for what each of its times is made of, and no other bound of a time is above it
pub record HasRoom (network : Network) (w : Weights) : Type 0 where
  pub dmax : w.delay + beta_of network w ≤ amount network.dmax
  pub settled : errors_of network (beta_of network w) ≤ amount network.settled
  pub start : w.start ≤ amount network.settled
  pub precision : amount network.settled
      + 2 * errors_of network (beta_of network w) ≤ amount network.precision
  pub calc : amount network.calc ≤ amount network.precision
  pub correction : heard_at network ≤ amount network.correction
  pub tt_start : quiet_at network w ≤ amount network.tt_start
  pub schedule : amount network.tt_start + 4 * amount network.precision ≤ amount network.cycle

-- so no room that is told is short
abbrev pub RoomIsLeft : Type 0
RoomIsLeft =
    (network : Network) (w : Weights) → IsInRange network → KeepsRules network → AreWeights network w
    → HasRoom network w
