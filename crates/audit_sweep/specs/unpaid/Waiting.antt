-- The frames that wait for their permanence.
use Rattle.std.specs.Prelude.{◌≡◌, ◌≤◌, List, MatchOption, Option, Some, false, pos, true, ℕ}
use Rattle.{audit_law.specs.law.Permanences.OwesPermanence, net_plan.specs.declared.network.Network.Network}
use Rattle.{audit_sweep.specs.declared.unpaid.permanences.Waiting.Waiting, run_law.specs.control.Permanence.waits_for}
use Rattle.{drift_clock.specs.{Reach.IsReach, transparent.Points.point_of}, net_plan.specs.declared.ids.LinkId.LinkId}
use Rattle.tte_units.specs.declared.frames.pcf.Pcf.{Pcf}
use Rattle.run_law.specs.{records.Happenings.{Happening, time_of}, scenario.Scenarios.{Scenario, is_broken}}
use Rattle.run_law.specs.declared.note.NoteBody.TheVariants as notes

-- the frame of the record arrived so at a device that waits for its permanence
pub record IsWaiting (network : Network) (h : Happening) (waiting : Waiting) : Type 0 where
  pub link : LinkId
  pub from : ℕ
  pub frame : Pcf
  pub arrived : h.note.body ≡ notes.Arrived waiting.device link from waiting.clock
  pub of_frame : h.frame ≡ Some frame
  pub waits : waits_for network waiting.device link ≡ true
  pub since : waiting.since ≡ time_of h

-- the frame of the record waits so, or none does
abbrev pub IsWaitingAs : Network → Happening → Option Waiting → Type 0
IsWaitingAs network h result =
    MatchOption result ((waiting : Waiting) → IsWaiting network h waiting → ⊥) (IsWaiting network h)

-- the waiting frame is permanent at the time, and its device is not broken then
pub record IsReached (s : Scenario) (waiting : Waiting) (t : ℕ) : Type 0 where
  pub reached : IsReach (s.reading waiting.device) (pos waiting.since)
      (point_of (pos (s.reading waiting.device waiting.since)) waiting.clock s.network.dmax.0) (pos t)
  pub correct : is_broken s waiting.device t ≡ false

-- it is so by the time, or is not
abbrev pub IsReachedBy : Scenario → Waiting → ℕ → Option ℕ → Type 0
IsReachedBy s waiting until result =
    MatchOption result ((t : ℕ) → IsReached s waiting t → t ≤ until → ⊥) (λ t. IsReached s waiting t × (t ≤ until))

-- the list owes at this time what becomes of the frame of the record of this number, or owes nothing of it
abbrev pub IsPermanentBy : Scenario → List Happening → ℕ → ℕ → Option ℕ → Type 0
IsPermanentBy s hs until cause result =
    MatchOption result (OwesPermanence s hs until cause → ⊥)
    (λ t. (o : OwesPermanence s hs until cause) × (t ≡ o.time))
