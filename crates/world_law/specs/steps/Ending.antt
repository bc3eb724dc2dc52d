-- What is left of a device's acts behind its correction point.
use Rattle.std.specs.Prelude.{◌≡◌, List, ℕ}
use Rattle.{net_plan.specs.declared.{ids.DeviceId.DeviceId, network.Network.Network}, run_law.specs.machines.Nodes.Node}
use Rattle.run_law.specs.{declared.note.{Note.Note, NoteBody.NoteBody}, scenario.Scenarios.Scenario}
use Rattle.{sync_state.specs.declared.answers.Verdict.Verdict, world_law.specs.world.World.{Stands, World}}
use Rattle.world_law.specs.{steps.Acting.Acts, world.Calls.{IsDueNow, moment_of}}
use Rattle.run_law.specs.declared.steps.Act.TheVariants as acts

-- nothing more is due of the device at the instant
abbrev pub CorrectionEnds : {C M : Type 0} → (C → ℕ → ℕ) → (M → Network → DeviceId → Node → Type 0) → Type 0
CorrectionEnds {C} {M} reading stands =
    (s : Scenario) (world : World C M) (notes : List Note) (device : DeviceId) (after : M) (bodies : List NoteBody)
    (cycle : ℕ) (verdict : Verdict) (old : Stands reading stands s world notes)
    → (a : Acts reading stands s world notes old device after bodies) → a.act ≡ acts.Correct cycle verdict
    → IsDueNow stands s.network device (moment_of s device world.now) after → ⊥
