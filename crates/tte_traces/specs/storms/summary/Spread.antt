-- How far apart local clocks are seen at the corrections of a run.
use Rattle.std.specs.Prelude.{◌-ℤ◌, ◌≡◌, ◌≤ℤ◌, ◌⊎◌, List, pos, ℕ, ℤ}
use Rattle.{net_plan.specs.Belonging.HasDevice, run_law.specs.{device.LocalClocks.local, law.Safety.IsInStep}}
use Rattle.{net_plan.specs.declared.ids.DeviceId.DeviceId, run_law.specs.records.Happenings.{Happening, time_of}}
use Rattle.{run_law.specs.{records.Order.IsIn, scenario.Scenarios.Scenario}, tte_units.specs.declared.units.Units.Units}
use Rattle.run_law.specs.declared.note.NoteBody.TheVariants as notes

-- the record is that of a device's correction
pub record IsCorrection (h : Happening) : Type 0 where
  pub device : DeviceId
  pub cycle : ℕ
  pub by : Units
  pub adjustment : Units
  pub is : h.note.body ≡ notes.Corrected device cycle by adjustment

-- at the time, once all records of this time have come, two devices of the network that are correct and synchronised
-- show local clocks so far apart
pub record AreApart (s : Scenario) (hs : List Happening) (t : ℕ) (apart : ℤ) : Type 0 where
  pub ahead : DeviceId
  pub behind : DeviceId
  pub ahead_there : HasDevice s.network ahead
  pub behind_there : HasDevice s.network behind
  pub ahead_in_step : IsInStep s hs ahead t
  pub behind_in_step : IsInStep s hs behind t
  pub is : apart ≡ (local s hs ahead t -ℤ local s hs behind t)

-- two devices show local clocks so far apart at the time of a correction
pub record AreSeenApart (s : Scenario) (hs : List Happening) (apart : ℤ) : Type 0 where
  pub seen_at : Happening
  pub there : IsIn seen_at hs
  pub correction : IsCorrection seen_at
  pub apart_then : AreApart s hs (time_of seen_at) apart

-- so far apart they are seen at most, in units; 0 where there is no correction at which two, or one and itself, are
-- seen
pub record IsGreatestSpread (s : Scenario) (hs : List Happening) (spread : Units) : Type 0 where
  pub bound : (apart : ℤ) → AreSeenApart s hs apart → apart ≤ℤ spread.0
  pub reached : (spread.0 ≡ pos 0) ⊎ AreSeenApart s hs spread.0
