-- When a record is due in an audit, given those before it: as in a run, but that the numbers of correction points go by
-- what the clocks come to.
use Rattle.std.specs.Prelude.{◌+ℤ◌, ◌+◌, ◌≡◌, ◌≤ℤ◌, List, length, pos, ℕ}
use Rattle.{audit_law.specs.law.CorrectionNumbers.ComesToPoint, run_law.specs.records.Happenings.{Happening, happening}}
use Rattle.{net_plan.specs.declared.ids.DeviceId.DeviceId, run_law.specs.declared.note.NoteBody.NoteBody}
use Rattle.run_law.specs.{declared.judgement.Why.Why, scenario.Scenarios.Scenario}
use Rattle.{run_law.specs.device.States.adjustment_before, tte_units.specs.{Amount.amount, declared.units.Units.Units}}
use Rattle.sync_state.specs.declared.answers.Verdict.TheVariants.{AsyncClique, Corrected, SyncClique}
use Rattle.sync_state.specs.declared.state.State.{State, TheVariants.Integrating}
use Rattle.run_law.specs.declared.judgement.Why.TheVariants as whys
use Rattle.run_law.specs.declared.note.NoteBody.TheVariants as notes
use Rattle.run_law.specs.device.StateChanges as changes
use Rattle.run_law.specs.runs.DueRecords as runs

-- the correction point comes to a correction, which is added to the adjustment
pub record IsCorrectedRecord (s : Scenario) (hs : List Happening) (device : DeviceId) (t : ℕ) (cycle : ℕ)
    (by adjustment : Units) : Type 0 where
  pub corrected : ComesToPoint s hs device t cycle (Corrected by)
  pub sum : adjustment.0 ≡ ((adjustment_before s hs device t).0 +ℤ by.0)

-- the device changes its state, for this reason: a correction point comes to one of the two cliques, which has no cause
-- in the report; or it changes as in a run
abbrev pub ChangesState : Scenario → List Happening → DeviceId → ℕ → State → ℕ → Why → Type 0
ChangesState s hs device t state cause whys.SyncClique =
    (state ≡ Integrating) × (cause ≡ 0) × ((cycle : ℕ) × ComesToPoint s hs device t cycle SyncClique)
ChangesState s hs device t state cause whys.AsyncClique =
    (state ≡ Integrating) × (cause ≡ 0) × ((cycle : ℕ) × ComesToPoint s hs device t cycle AsyncClique)
ChangesState s hs device t state cause why = changes.ChangesState s hs device t state cause why

-- what causes a record of this body at the time: a correction or a change of state so, and any other as in a run
abbrev pub IsCaused : Scenario → List Happening → Units → NoteBody → Type 0
IsCaused s hs time (notes.Corrected device cycle by adjustment) =
    IsCorrectedRecord s hs device (amount time) cycle by adjustment
IsCaused s hs time (notes.State device state cause why) = ChangesState s hs device (amount time) state cause why
IsCaused s hs time body = runs.IsCaused s hs time body

-- a record is due given those before it: it has the next number, the frame that it has by its cause, a time from 0
-- on, and a cause
pub record IsDue (s : Scenario) (before : List Happening) (h : Happening) : Type 0 where
  pub number : h.note.number ≡ length before + 1
  pub same : h ≡ happening s.network before h.note
  pub begun : pos 0 ≤ℤ h.note.time.0
  pub cause : IsCaused s before h.note.time h.note.body
