-- A frame that waits is permanent.
use Rattle.std.specs.Prelude.{◌∷◌, List, [], ℕ}
use Rattle.{net_plan.specs.declared.ids.DeviceId.DeviceId, run_law.specs.scenario.Devices.channel_of_link}
use Rattle.{net_plan.specs.declared.ids.LinkId.LinkId, tte_units.specs.declared.units.Units.Units}
use Rattle.{net_plan.specs.declared.network.Network.Network, sync_state.specs.declared.state.State.TheVariants.Joining}
use Rattle.tte_units.specs.declared.frames.pcf.Pcf.{Pcf}
use Rattle.run_law.specs.declared.{note.NoteBody.NoteBody, steps.{Moment.Moment, Ripe.Ripe}}
use Rattle.run_law.specs.machines.{Answers.{IsPermanenceOutcomeAt, after_permanence, called}, Nodes.{Node, ripening}}
use Rattle.run_law.specs.machines.Calls.{IsHearing, MayCall, MayRipen}
use Rattle.run_law.specs.declared.judgement.Judgement.TheVariants as judgements
use Rattle.run_law.specs.declared.judgement.Why.TheVariants as whys
use Rattle.run_law.specs.declared.note.NoteBody.TheVariants as kinds
use Rattle.run_law.specs.declared.steps.Ripe.TheVariants as ripe

-- what becomes of it, as records, the first of which has this number
abbrev pub ripe_bodies : ℕ → DeviceId → LinkId → ℕ → Units → Ripe → List NoteBody
ripe_bodies number device link cause point ripe.Opened = kinds.Permanent device link cause point judgements.Opened ∷ []
ripe_bodies number device link cause point ripe.Joined = kinds.Permanent device link cause point judgements.Joined ∷ []
ripe_bodies number device link cause point ripe.Repeat = kinds.Permanent device link cause point judgements.Repeat ∷ []
ripe_bodies number device link cause point ripe.Within = kinds.Permanent device link cause point judgements.Within ∷ []
ripe_bodies number device link cause point ripe.Outside = kinds.Permanent device link cause point judgements.Outside ∷ []
ripe_bodies number device link cause point ripe.Integrates =
    kinds.Permanent device link cause point judgements.Integrates ∷ kinds.State device Joining number whys.Frame ∷ []
ripe_bodies number device link cause point ripe.Ignored = kinds.Permanent device link cause point judgements.Ignored ∷ []
ripe_bodies number device link cause point (ripe.Dropped reason) = kinds.Dropped device link cause reason ∷ []

-- what `ripen` ensures
abbrev pub HasRipened : {M : Type 0} → (M → Network → DeviceId → Node → Type 0) → Network → DeviceId → Moment → LinkId
    → Pcf → Units → Ripe → M → M → Type 0
HasRipened stands network device moment link frame point result old new =
    (node : Node) → stands old network device node → MayCall network device node moment ripening
    → IsHearing network device node → MayRipen network device node moment link frame point
    → IsPermanenceOutcomeAt network device node frame point result
    × stands new network device
    (called moment ripening (after_permanence node moment (channel_of_link network link) frame point result))
