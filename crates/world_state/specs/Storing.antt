-- The frames that switches hold.
use Rattle.std.specs.Prelude.{◌&&◌, ◌==◌, ◌∷◌, ◌≡◌, Bool, IsPermutation, List, None, Option, Some, filter, not, ℕ}
use Rattle.{net_plan.specs.declared.ids.{DeviceId.DeviceId, VlId.VlId}, run_law.specs.declared.note.NoteBody.NoteBody}
use Rattle.world_state.specs.declared.contents.{Holding.Holding, Timed.Timed}
use Rattle.run_law.specs.declared.note.NoteBody.TheVariants as kinds

-- is it the frame of the virtual link that the switch holds?
abbrev pub is_held_of : DeviceId → VlId → Holding → Bool
is_held_of device vl h = h.device.0 == device.0 && h.vl.0 == vl.0

-- what is held with this frame, in place of the one that the switch held of the virtual link
abbrev pub stored_with : Holding → List Holding → List Holding
stored_with one held = one ∷ filter (λ h. not (is_held_of one.device one.vl h)) held

-- this frame is held, in place of the one that the switch held of the virtual link
abbrev pub IsHeldInstead : Holding → List Holding → List Holding → Type 0
IsHeldInstead one old new = IsPermutation (stored_with one old) new

-- the switch holds these octets, if there are any, by the record of this number
abbrev pub IsStoredFor : DeviceId → VlId → Option Timed → ℕ → List Holding → List Holding → Type 0
IsStoredFor device vl None number old new = new ≡ old
IsStoredFor device vl (Some octets) number old new =
    IsHeldInstead (record { device = device; vl = vl; number = number; octets = octets }) old new

-- what is held once the record of this number, with these octets, is given
abbrev pub IsStoredBy : NoteBody → Option Timed → ℕ → List Holding → List Holding → Type 0
IsStoredBy (kinds.Accepted device link cause vl cycle) octets number old new =
    IsStoredFor device vl octets number old new
IsStoredBy other octets number old new = new ≡ old
