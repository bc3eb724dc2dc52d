-- Frames that are permanent.
use Rattle.std.specs.Prelude.{if◌then◌else◌, ◌&&◌, ◌==◌, ◌≡◌, List, MatchOption, None, Option, Some, pos, ℕ, ℤ}
use Rattle.audit_sweep.specs.declared.{passage.Passage.Passage, ripening.PermanentFrame.PermanentFrame}
use Rattle.{audit_sweep.specs.declared.records.kept.Kept.Kept, drift_clock.specs.transparent.Points.point_of}
use Rattle.{drift_clock.specs.Reach.IsReach, run_law.specs.scenario.Scenarios.Scenario}
use Rattle.{net_plan.specs.declared.ids.DeviceId.DeviceId, run_law.specs.control.Permanence.IsPermanent}
use Rattle.{net_plan.specs.declared.ids.LinkId.LinkId, tte_units.specs.declared.units.Units.Units}
use Rattle.{run_law.specs.records.Happenings.Happening, tte_units.specs.declared.frames.pcf.Pcf.Pcf}
use Rattle.audit_sweep.specs.declared.records.kept.Kept.TheVariants as kepts

-- the transparent clock of a frame that arrived at the device by the link, if this is kept of one
abbrev pub waiting_clock : DeviceId → LinkId → Kept → Option ℕ
waiting_clock device link (kepts.Arrived other by clock) =
    if device.0 == other.0 && link.0 == by.0 then Some clock else None
waiting_clock device link rest = None

-- the clock first reads the point at this time
pub record IsFirstReading (reading : ℕ → ℕ) (dmax : ℤ) (arrived clock t : ℕ) (point : Units) : Type 0 where
  pub point_is : point.0 ≡ point_of (pos (reading arrived)) clock dmax
  pub reached : IsReach reading (pos arrived) point.0 (pos t)

-- the point of a frame that arrived then with this transparent clock is first read at this time, or not
abbrev pub IsPointReached : (ℕ → ℕ) → ℤ → ℕ → ℕ → ℕ → Option Units → Type 0
IsPointReached reading dmax arrived clock t result =
    MatchOption result (IsReach reading (pos arrived) (point_of (pos (reading arrived)) clock dmax) (pos t) → ⊥)
    (IsFirstReading reading dmax arrived clock t)

-- the frame of the other record is permanent so, or none is
abbrev pub IsPermanentOrNone : Scenario → List Happening → Passage → Option PermanentFrame → Type 0
IsPermanentOrNone s hs passage result =
    MatchOption result
    ((frame : Pcf) (point : Units)
    → IsPermanent s hs passage.device passage.time passage.link passage.cause frame point → ⊥)
    (λ r. IsPermanent s hs passage.device passage.time passage.link passage.cause r.frame r.point)
