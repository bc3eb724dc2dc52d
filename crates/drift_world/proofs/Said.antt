-- What a settled record says, and the body of its record.
use Rattle.drift_world.proofs.Words.{◌^◌, ◌≡◌, DeviceId, LinkId, changed_device, refl, ℕ}
use Rattle.run_law.specs.{declared.plain.bodies.PlainKind.PlainKind, plain.Bodies.body_of}
use Rattle.run_law.specs.declared.plain.bodies.PlainKind.TheVariants as said

-- by what is not an arrival no frame begins to wait
pub far_kind : (kind : PlainKind) → ((device : DeviceId) (link : LinkId) (cause clock : ℕ) → kind ≡ said.Arrived device link cause clock → ⊥)
    → changed_device (body_of kind) ≡ 2 ^ 32
far_kind (said.Arrived device link cause clock) other = absurd (other device link cause clock refl)
far_kind rest other = refl
