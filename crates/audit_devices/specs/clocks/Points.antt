-- The correction point that comes to a device at a time.
use Rattle.std.specs.Prelude.{◌≡◌, List, None, Option, Some, false, ℕ}
use Rattle.{audit_devices.specs.declared.clocks.correcting.Point.Point, net_plan.specs.declared.ids.DeviceId.DeviceId}
use Rattle.audit_law.specs.law.CorrectionNumbers.{heard_since_point, standing_at}
use Rattle.{device_rules.specs.Answers.verdict_as, sync_state.specs.Standing.next_point}
use Rattle.sync_state.specs.{declared.answers.Verdict.Verdict, membership.Summary.{Summarizes, Summary}}
use Rattle.run_law.specs.{control.Corrections.correction_value, scenario.Scenarios.{Scenario, is_broken}}
use Rattle.run_law.specs.{device.LocalClocks.Reaches, records.Happenings.Happening}

-- the device's next correction point, which is that of this cycle, comes at the time
pub record HasPoint (s : Scenario) (hs : List Happening) (device : DeviceId) (t : ℕ) (cycle : ℕ) : Type 0 where
  pub next : next_point (standing_at s hs device t) ≡ Some cycle
  pub reached : Reaches s hs device (correction_value s.network cycle) t
  pub correct : is_broken s device t ≡ false

-- where the device has a next correction point, this is what it has heard since the last one
abbrev pub IsHeard : Scenario → List Happening → DeviceId → ℕ → Summary → Type 0
IsHeard s hs device t heard =
    (cycle : ℕ) → next_point (standing_at s hs device t) ≡ Some cycle
    → Summarizes heard (heard_since_point s hs device t)

-- the point, if there is one, is that of this cycle, and comes to this
abbrev pub ComesTo : Option Point → ℕ → Verdict → Type 0
ComesTo None cycle verdict = ⊥
ComesTo (Some point) cycle verdict = (point.cycle ≡ cycle) × (verdict_as point.verdict ≡ verdict)
