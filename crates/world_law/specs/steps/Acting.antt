-- A machine acts.
use Rattle.std.specs.Prelude.{if◌then◌else◌, ◌+◌, ◌<◌, ◌∷◌, ◌≡◌, List, Some, [], length, slice_get, ℕ}
use Rattle.{net_plan.specs.declared.{ids.DeviceId.DeviceId, network.Network.Network}, run_law.specs.machines.Nodes.Node}
use Rattle.{run_law.specs.declared.note.Note.Note, world_law.specs.world.World.{Stands, World}}
use Rattle.run_law.specs.machines.{Nodes.{correcting, dispatching, sending}, Tasks.{Task, doing, emitting}}
use Rattle.{run_law.specs.records.Order.IsIn, world_law.specs.world.Moves.ComesFirst}
use Rattle.run_law.specs.{declared.note.NoteBody.NoteBody, scenario.{Scenarios.Scenario, Ways.{is_cut, way_from}}}
use Rattle.{run_law.specs.declared.steps.Act.Act, schedule_tables.specs.Entries.IsEntry}
use Rattle.run_law.specs.declared.steps.Ripe.{Ripe}
use Rattle.run_law.specs.records.{Happenings.{Happening, happenings}, Ranks.rank}
use Rattle.{run_law.specs.timed.Dispatching.HasAtHand, tte_units.specs.declared.units.Units.Units}
use Rattle.{schedule_tables.specs.declared.entry.Entry.Entry, sync_state.specs.declared.answers.Verdict.Verdict}
use Rattle.sync_state.specs.declared.state.State.{State, TheVariants.{Integrating, Joining, Synchronised}}
use Rattle.world_law.specs.world.{Calls.{HasActed, IsDueNow, IsStateOf, moment_of}, Outcomes.judged_as}
use Rattle.run_law.specs.declared.judgement.Why.TheVariants as whys
use Rattle.run_law.specs.declared.note.NoteBody.TheVariants as kinds
use Rattle.run_law.specs.declared.steps.Act.TheVariants as acts
use Rattle.run_law.specs.declared.steps.Ripe.TheVariants as ripe
use Rattle.sync_state.specs.declared.answers.Verdict.TheVariants as verdicts

-- a frame of its own, the record of this number, that tells a device the time makes it joining
abbrev pub joining_bodies : ℕ → DeviceId → Ripe → List NoteBody
joining_bodies number device ripe.Integrates = kinds.State device Joining number whys.Frame ∷ []
joining_bodies number device other = []

-- a joiner's first correction, the record of this number, makes it synchronised
abbrev pub first_bodies : ℕ → DeviceId → State → List NoteBody
first_bodies number device Joining = kinds.State device Synchronised number whys.Correction ∷ []
first_bodies number device other = []

-- what comes of a correction point: a correction, the record of this number, a loss of the common time, or no record
abbrev pub correction_bodies : ℕ → DeviceId → State → ℕ → Units → Verdict → List NoteBody
correction_bodies number device was cycle adjustment (verdicts.Corrected by) =
    kinds.Corrected device cycle by adjustment ∷ first_bodies number device was
correction_bodies number device was cycle adjustment verdicts.SyncClique =
    kinds.State device Integrating 0 whys.SyncClique ∷ []
correction_bodies number device was cycle adjustment verdicts.AsyncClique =
    kinds.State device Integrating 0 whys.AsyncClique ∷ []
correction_bodies number device was cycle adjustment verdicts.Cleared = []

-- the records of an act of the device that was in this state, and has this adjustment then. Its own record comes next
abbrev pub AreActBodies : Scenario → List Happening → ℕ → DeviceId → State → Units → Act → List NoteBody → Type 0
AreActBodies s hs now device was adjustment (acts.Send frame) bodies = bodies ≡ kinds.Sent device frame.cycle ∷ []
AreActBodies s hs now device was adjustment (acts.Emit sent heard) bodies =
    bodies ≡ kinds.Compressed device sent.opened sent.at sent.cycle sent.members (judged_as heard)
    ∷ joining_bodies (length hs + 1) device heard
AreActBodies s hs now device was adjustment (acts.Correct cycle verdict) bodies =
    bodies ≡ correction_bodies (length hs + 1) device was cycle adjustment verdict
AreActBodies s hs now device was adjustment (acts.Dispatch row cycle) bodies =
    (entry : Entry) × (cause : ℕ) × IsEntry s.network row.0 entry × HasAtHand s.network hs device entry now cause cycle
    × (bodies ≡ (if is_cut s entry.row.link (way_from s.network device entry.row.link) now
    then kinds.Lost device entry.row.link cause else kinds.TtSent device entry.row.link cause entry.row.vl cycle)
    ∷ [])

-- the rank of an act: that of the place of its task
abbrev pub rank_of_act : Act → ℕ
rank_of_act (acts.Emit sent heard) = 4
rank_of_act (acts.Send frame) = 5
rank_of_act (acts.Correct cycle verdict) = 6
rank_of_act (acts.Dispatch row cycle) = 6

-- where the acts of its rank begin: the act stands at this place, or behind it
abbrev pub place_of_act : ℕ → DeviceId → Act → List ℕ
place_of_act now device act = now ∷ rank_of_act act ∷ device.0 ∷ []

-- the task that it does
abbrev pub task_of : Act → Task
task_of (acts.Emit sent heard) = emitting sent
task_of (acts.Send frame) = doing (sending frame.cycle)
task_of (acts.Correct cycle verdict) = doing (correcting cycle)
task_of (acts.Dispatch row cycle) = doing (dispatching row cycle)

-- the answers of a step by which the device acts, where its acts of this rank come first, and all that is settled is of
-- a higher rank
pub record Acts {C M : Type 0} (reading : C → ℕ → ℕ) (stands : M → Network → DeviceId → Node → Type 0) (s : Scenario)
    (world : World C M) (notes : List Note) (old : Stands reading stands s world notes) (device : DeviceId) (after : M)
    (bodies : List NoteBody) : Type 0 where
  pub of_it : device.0 < length s.network.device
  pub act : Act
  pub first : ComesFirst reading stands s world notes old (place_of_act world.now device act)
  pub apart : (z : Happening) → IsIn z world.settled → rank_of_act act < rank z.note.body
  pub machine : M
  pub there : slice_get world.machines device.0 ≡ Some machine
  pub due : IsDueNow stands s.network device (moment_of s device world.now) machine
  pub acted : HasActed stands s.network device (moment_of s device world.now) act machine after
  pub was : State
  pub before : Units
  pub stood : IsStateOf stands s.network device machine was before
  pub is : State
  pub adjustment : Units
  pub stands_then : IsStateOf stands s.network device after is adjustment
  pub are : AreActBodies s (happenings s.network notes) world.now device was adjustment act bodies
