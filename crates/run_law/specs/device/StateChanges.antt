-- What changes the state of a device.
use Rattle.std.specs.Prelude.{◌≡◌, List, false, true, ℕ}
use Rattle.net_plan.specs.declared.{event.{What.TheVariants.On}, ids.DeviceId.DeviceId}
use Rattle.sync_state.specs.declared.answers.Verdict.TheVariants.{AsyncClique, SyncClique}
use Rattle.sync_state.specs.declared.state.State.{State, TheVariants.{Integrating, Joining, Synchronised}}
use Rattle.tte_units.specs.declared.units.Units.{Units}
use Rattle.run_law.specs.{control.Corrections.ComesToCorrection, declared.judgement.Why.Why}
use Rattle.run_law.specs.{device.States.{is_joined_by, state_before}, records.Causes.IsOfThisTime}
use Rattle.run_law.specs.{records.Happenings.Happening, scenario.Scenarios.{Scenario, is_broken}}
use Rattle.run_law.specs.declared.judgement.Why.TheVariants as whys
use Rattle.run_law.specs.declared.note.NoteBody.TheVariants as notes

-- the device changes its state, for this reason: an event turns it on; a frame tells it the time; a joiner has its
-- first correction; or a correction point comes to one of the two cliques, which has no cause in the report
abbrev pub ChangesState : Scenario → List Happening → DeviceId → ℕ → State → ℕ → Why → Type 0
ChangesState s hs device t state cause whys.On =
    (state ≡ Integrating) × (is_broken s device t ≡ false)
    × ((line : ℕ) × (h : Happening) × IsOfThisTime hs t cause h × (h.note.body ≡ notes.Event line (On device)))
ChangesState s hs device t state cause whys.Frame =
    (state ≡ Joining) × ((h : Happening) × IsOfThisTime hs t cause h × (is_joined_by device h.note.body ≡ true))
ChangesState s hs device t state cause whys.Correction =
    (state ≡ Synchronised) × (state_before s hs device t ≡ Joining)
    × ((cycle : ℕ) × (by : Units) × (adjustment : Units) × (h : Happening) × IsOfThisTime hs t cause h
    × (h.note.body ≡ notes.Corrected device cycle by adjustment))
ChangesState s hs device t state cause whys.SyncClique =
    (state ≡ Integrating) × (cause ≡ 0) × ((cycle : ℕ) × ComesToCorrection s hs device t cycle SyncClique)
ChangesState s hs device t state cause whys.AsyncClique =
    (state ≡ Integrating) × (cause ≡ 0) × ((cycle : ℕ) × ComesToCorrection s hs device t cycle AsyncClique)
