-- The cycles that a device's clock begins.
use Rattle.std.specs.Prelude.{ℕ, ◌+◌, ◌≤◌, List, Option, MatchOption}
use Rattle.lens_flows.specs.{declared.judge.beginning.Begun.Begun, judge.Times.{IsFirstTime, NoneWithin}}
use Rattle.net_plan.specs.declared.ids.DeviceId.{DeviceId}
use Rattle.run_law.specs.{law.Safety.ReachesPlace, records.Happenings.Happening, scenario.Scenarios.Scenario}

-- the device's clock begins the cycle, which is not the silent one, at the time
pub record BeginsCycle (s : Scenario) (hs : List Happening) (device : DeviceId) (t cycle : ℕ) : Type 0 where
  pub begun : 1 ≤ cycle
  pub reaches : ReachesPlace s hs device cycle 0 t

-- it begins one at the time
abbrev pub BeginsOne : Scenario → List Happening → DeviceId → ℕ → Type 0
BeginsOne s hs device t = (cycle : ℕ) × BeginsCycle s hs device t cycle

-- this is the first that it begins later than `after`, up to `until`
pub record IsFirstBegun (s : Scenario) (hs : List Happening) (device : DeviceId) (after until : ℕ) (begun : Begun)
    : Type 0
  where
    pub first : IsFirstTime (BeginsOne s hs device) after until begun.time
    pub begins : BeginsCycle s hs device begun.time begun.cycle

-- the next one, or none where there is none
abbrev pub IsNextBegun : Scenario → List Happening → DeviceId → ℕ → ℕ → Option Begun → Type 0
IsNextBegun s hs device after until result =
    MatchOption result (NoneWithin (BeginsOne s hs device) after (until + 1)) (IsFirstBegun s hs device after until)
