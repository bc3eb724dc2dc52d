-- A machine acts several times at one moment.
use Rattle.std.specs.Prelude.{◌+◌, ◌<◌, ◌≡◌, ◌≤◌, List, Some, length, slice_get, ℕ}
use Rattle.net_plan.specs.{Ranges.IsInRange, declared.{ids.DeviceId.DeviceId, network.Network.Network}}
use Rattle.{run_law.specs.declared.{note.Note.Note, steps.Moment.Moment}, sync_state.specs.declared.state.State.State}
use Rattle.{run_law.specs.declared.note.NoteBody.NoteBody, world_law.specs.world.Calls.{HasActed, IsDueNow, moment_of}}
use Rattle.run_law.specs.{declared.steps.Act.Act, machines.Nodes.{Node, acting}, scenario.Scenarios.Scenario}
use Rattle.{run_law.specs.machines.Calls.MayCall, schedule_tables.specs.Rules.KeepsRules}
use Rattle.{run_law.specs.records.Happenings.Happening, tte_units.specs.declared.units.Units.Units}
use Rattle.world_law.specs.{device.Growing.AreActs, steps.Acting.AreActBodies, world.World.{Stands, World}}

-- the machine has acted so often at the moment
abbrev pub HasActedTimes : {M : Type 0} → (M → Network → DeviceId → Node → Type 0) → Network → DeviceId → Moment → ℕ → M
    → M → Type 0
HasActedTimes stands network device moment times old new =
    (node : Node) → stands old network device node → MayCall network device node moment acting
    → (acts : List Act) × (after : Node) × (length acts ≡ times) × AreActs network device moment node acts after
    × stands new network device after

-- at first it has not
abbrev pub NoActYet : {M : Type 0} → (M → Network → DeviceId → Node → Type 0) → Type 0
NoActYet {M} stands =
    (network : Network) (device : DeviceId) (moment : Moment) (machine : M)
    → HasActedTimes stands network device moment 0 machine machine

-- where something is due and it acts, it has acted once more
abbrev pub ActsAddUp : {M : Type 0} → (M → Network → DeviceId → Node → Type 0) → Type 0
ActsAddUp {M} stands =
    (network : Network) (device : DeviceId) (moment : Moment) (result : Act) (times : ℕ) (old mid new : M)
    → IsInRange network → KeepsRules network
    → HasActedTimes stands network device moment times old mid → IsDueNow stands network device moment mid
    → HasActed stands network device moment result mid new → HasActedTimes stands network device moment (times + 1) old
    new

-- a machine of a world, for which something is due, acts at most so often at the instant: it ends
abbrev pub ActsAreBounded : {C M : Type 0} → (C → ℕ → ℕ) → (M → Network → DeviceId → Node → Type 0) → Type 0
ActsAreBounded {C} {M} reading stands =
    (s : Scenario) (world : World C M) (notes : List Note) (device : DeviceId) (machine new : M) (times : ℕ)
    → Stands reading stands s world notes
    → device.0 < length s.network.device → slice_get world.machines device.0 ≡ Some machine
    → IsDueNow stands s.network device (moment_of s device world.now) machine
    → HasActedTimes stands s.network device (moment_of s device world.now) times machine new → times ≤ 259

-- an act brings two records at most
abbrev pub ActsBringFew : Type 0
ActsBringFew =
    (s : Scenario) (hs : List Happening) (now : ℕ) (device : DeviceId) (was : State) (adjustment : Units) (act : Act)
    (bodies : List NoteBody)
    → AreActBodies s hs now device was adjustment act bodies → length bodies ≤ 2
