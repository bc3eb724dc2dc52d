-- Where a device stands as it hears a frame.
use Rattle.std.specs.Prelude.{◌-◌, ◌≡◌, ◌≤◌, Bool, List, true, ℕ}
use Rattle.audit_devices.specs.declared.{permanence.hearer.Hearer.Hearer, stretches.stretch.Stretch.Stretch}
use Rattle.audit_devices.specs.{declared.shown.Readings.Readings, stretches.Points.HasPoints}
use Rattle.{compression.specs.Clusters.Point, run_law.specs.scenario.{Devices.is_cm, Scenarios.{Scenario, is_broken}}}
use Rattle.run_law.specs.{device.States.{adjustment_at_hearing, state_at_hearing}, records.Happenings.Happening}

-- the hearer stands at the time as these records leave its device
pub record IsHearer (s : Scenario) (judged : List Happening) (t : ℕ) (hearer : Hearer) : Type 0 where
  pub network : hearer.network.now ≡ s.network
  pub state : hearer.state ≡ state_at_hearing s judged hearer.device t
  pub adjustment : hearer.adjustment ≡ (adjustment_at_hearing s judged hearer.device t).0

-- where the hearer is a compression master, the stretch has these points
abbrev pub Collects : Hearer → List Point → Stretch → Type 0
Collects hearer points stretch =
    is_cm hearer.network.now hearer.device ≡ true
    → HasPoints hearer.network.now points stretch.collections.now stretch.gathering

-- the hearer's clock, which never falls, reads this at the time and a unit of time before, and it is broken or not
pub record IsMoment (s : Scenario) (t : ℕ) (hearer : Hearer) (readings : Readings) (broken : Bool) : Type 0 where
  pub now : readings.now ≡ s.reading hearer.device t
  pub before : readings.before ≡ s.reading hearer.device (t - 1)
  pub rises : (u v : ℕ) → u ≤ v → s.reading hearer.device u ≤ s.reading hearer.device v
  pub broken_is : broken ≡ is_broken s hearer.device t
