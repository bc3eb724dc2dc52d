-- How far apart the local clocks of a run are at a time.
use Rattle.std.specs.Prelude.{◌<◌, ◌≡◌, ◌≤ℤ◌, ◌⊎◌, IfSome, IsSomeAnd, List, None, Option, Some, length, pos, ℕ, ℤ}
use Rattle.drift_clock.specs.Segment.{fresh_segment, segment_reading, stepped_segment}
use Rattle.drift_world.specs.Locals.{MayShow}
use Rattle.{net_plan.specs.declared.ids.DeviceId.DeviceId, tte_traces.specs.storms.summary.Spread.AreApart}
use Rattle.run_law.specs.{device.LocalClocks.local, records.Happenings.Happening, scenario.Scenarios.Scenario}
use Rattle.{run_law.specs.law.Safety.IsInStep, world_drive.specs.exact.Worlds.ExactWorld}
use Rattle.{tte_traces.specs.declared.storms.spreads.Ends.Ends, world_drive.specs.machines.Standing.StandsAsDevice}

-- the world of the program stands for some events and records, which are all up to the time
abbrev pub MayShowExact : ExactWorld → ℕ → Type 0
MayShowExact world t = MayShow fresh_segment stepped_segment segment_reading StandsAsDevice world t

-- it is the local clock of a device of the network, which is correct and synchronised
pub record IsOfOne (s : Scenario) (hs : List Happening) (t : ℕ) (value : ℤ) : Type 0 where
  pub device : DeviceId
  pub there : device.0 < length s.network.device
  pub in_step : IsInStep s hs device t
  pub is : value ≡ local s hs device t

-- the least and the greatest of the local clocks of those of the first so many devices that are correct and
-- synchronised
pub record AreEndsOf (s : Scenario) (hs : List Happening) (t count : ℕ) (ends : Ends) : Type 0 where
  pub least : IsOfOne s hs t ends.least
  pub greatest : IsOfOne s hs t ends.greatest
  pub bounds : (device : DeviceId) → device.0 < count → IsInStep s hs device t
      → (ends.least ≤ℤ local s hs device t) × (local s hs device t ≤ℤ ends.greatest)

-- the same, where there is such a device
abbrev pub AreEnds : Scenario → List Happening → ℕ → ℕ → Option Ends → Type 0
AreEnds s hs t count None = (device : DeviceId) → device.0 < count → IsInStep s hs device t → ⊥
AreEnds s hs t count (Some ends) = AreEndsOf s hs t count ends

-- the ends with one more local clock
pub record Widens (ends : Option Ends) (value : ℤ) (new : Ends) : Type 0 where
  pub least : new.least ≤ℤ value
  pub greatest : value ≤ℤ new.greatest
  pub lesser : IfSome ends (λ e. (new.least ≤ℤ e.least) × (e.greatest ≤ℤ new.greatest))
  pub least_is : (new.least ≡ value) ⊎ IsSomeAnd ends (λ e. new.least ≡ e.least)
  pub greatest_is : (new.greatest ≡ value) ⊎ IsSomeAnd ends (λ e. new.greatest ≡ e.greatest)

-- at the time any two are at most so far apart, and some are; or it is 0
pub record IsSpreadAt (s : Scenario) (hs : List Happening) (t : ℕ) (spread : ℤ) : Type 0 where
  pub bound : (apart : ℤ) → AreApart s hs t apart → apart ≤ℤ spread
  pub reached : (spread ≡ pos 0) ⊎ AreApart s hs t spread
