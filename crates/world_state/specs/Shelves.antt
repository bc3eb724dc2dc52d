-- The frames that switches hold: each switch has a shelf of its own, with a place for each virtual link.
use Rattle.std.specs.{Option.option_map_or, Prelude.{slice_get, ℕ}}
use Rattle.std.specs.Prelude.{◌<◌, ◌≡◌, List, None, Option, Some, flat_map, length, option_and_then, option_to_list}
use Rattle.run_law.specs.{declared.note.NoteBody.NoteBody, records.Order.IsIn}
use Rattle.world_state.specs.declared.contents.{Holding.Holding, HoldSpot.HoldSpot}
use Rattle.run_law.specs.declared.note.NoteBody.TheVariants as kinds

-- a shelf: what stands at its places
abbrev pub Places : Type 0
Places = List (Option Holding)

-- the frames that are held, and the shelves of the devices
pub record Shelved : Type 0 where
  pub items : List Holding
  pub shelves : List Places

-- the frames of a shelf
abbrev pub frames_of : Places → List Holding
frames_of shelf = flat_map option_to_list shelf

-- the frames of all shelves
abbrev pub frames_in : List Places → List Holding
frames_in shelves = flat_map frames_of shelves

-- what stands at a place of a shelf
abbrev pub at_place : ℕ → Places → Option Holding
at_place place shelf = option_and_then (λ o. o) (slice_get shelf place)

-- the frame of a virtual link that a switch holds
abbrev pub frame_at : Shelved → HoldSpot → Option Holding
frame_at shelved spot = option_and_then (at_place spot.vl.0) (slice_get shelved.shelves spot.device.0)

-- how many places the shelf of a device has
abbrev pub places_of : Shelved → ℕ → ℕ
places_of shelved device = option_map_or (λ (s : Places). length s) (slice_get shelved.shelves device) 0

-- there is a place for the frame of the virtual link at the switch
abbrev pub HasPlace : Shelved → HoldSpot → Type 0
HasPlace shelved spot = spot.vl.0 < places_of shelved spot.device.0

-- there are more places, and nothing stands at those that are new
pub record IsLengthened (old new : Places) : Type 0 where
  pub frames : frames_of new ≡ frames_of old
  pub same : (place : ℕ) (h : Holding) → slice_get new place ≡ Some (Some h) → slice_get old place ≡ Some (Some h)

-- it is of this switch and virtual link
abbrev pub IsPlaced : ℕ → ℕ → Holding → Type 0
IsPlaced device vl h = (h.device.0 ≡ device) × (h.vl.0 ≡ vl)

-- what stands on the shelf of a device is of the device, and of the virtual link of its place
abbrev pub AreShelved : List Places → Type 0
AreShelved shelves = (k j : ℕ) (s : Places) (h : Holding) → slice_get shelves k ≡ Some s → slice_get s j ≡ Some (Some h)
    → IsPlaced k j h

-- it is held, by this switch and of this virtual link
pub record IsHeldAt (items : List Holding) (spot : HoldSpot) (h : Holding) : Type 0 where
  pub there : IsIn h items
  pub device : h.device ≡ spot.device
  pub vl : h.vl ≡ spot.vl

-- the switch holds no frame of the virtual link
abbrev pub NoneHeld : List Holding → HoldSpot → Type 0
NoneHeld items spot = (h : Holding) → IsIn h items → h.device ≡ spot.device → h.vl ≡ spot.vl → ⊥

-- where the frame stands that a switch takes by the record
abbrev pub spot_of : NoteBody → Option HoldSpot
spot_of (kinds.Accepted device link cause vl cycle) = Some (record { device = device; vl = vl })
spot_of other = None
