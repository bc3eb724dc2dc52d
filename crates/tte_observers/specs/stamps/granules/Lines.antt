-- What has come of a run at a line of its trace.
use Rattle.std.specs.Prelude.{◌++◌, ◌∷◌, ◌≡◌, ◌≤◌, List, [], ℕ}
use Rattle.net_plan.specs.declared.{event.Event.Event, ids.DeviceId.DeviceId, network.Network.Network}
use Rattle.run_law.specs.{records.{Happenings.{Happening, earlier}, Order.IsBefore}, scenario.Scenarios.Scenario}
use Rattle.tte_units.specs.Amount.{amount}

-- what is known at a line of a trace
pub record Line : Type 0 where
  -- the events of the lines up to this one
  pub befallen : List Event
  -- the time of this one
  pub time : ℕ
  -- what the clocks read under these events
  pub reading : DeviceId → ℕ → ℕ
  -- the records so far
  pub records : List Happening

-- the network under the events of the lines up to this one
abbrev pub scenario_at : Network → Line → Scenario
scenario_at network line = record { network = network; reading = line.reading; events = line.befallen }

-- the line is one of the run's trace: its event is the last of those befallen, up to its time the clocks read what they
-- read in the run, the records of earlier times are the run's, and the run goes up to before its time
pub record IsLineOf (s : Scenario) (mark : List ℕ) (hs : List Happening) (line : Line) : Type 0 where
  pub before : List Event
  pub event : Event
  pub behind : List Event
  pub befallen : line.befallen ≡ before ++ event ∷ []
  pub trace : s.events ≡ line.befallen ++ behind
  pub time : line.time ≡ amount event.time
  pub reads : (device : DeviceId) (x : ℕ) → x ≤ line.time → line.reading device x ≡ s.reading device x
  pub records : earlier line.time line.records ≡ earlier line.time hs
  pub covers : (place : List ℕ) → IsBefore place (line.time ∷ []) → IsBefore place mark
