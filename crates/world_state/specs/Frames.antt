-- The frames that wait at devices: each device has a queue of its own.
use Rattle.std.specs.{Option.option_map_or, Prelude.{option_map, pos, slice_get, ℕ}}
use Rattle.std.specs.Prelude.{◌∷◌, ◌≡◌, ◌≤ℤ◌, IsPermutation, List, None, Option, Some, flat_map, map, option_and_then}
use Rattle.{net_plan.specs.declared.ids.DeviceId.DeviceId, world_state.specs.declared.contents.Waits.Waits}
use Rattle.{run_law.specs.declared.note.NoteBody.NoteBody, world_state.specs.declared.queue.{DueAt.DueAt, Entry.Entry}}
use Rattle.{run_law.specs.records.Order.{IsBefore, IsIn}, world_state.specs.queue.{Places.first_entry, Queues.Queue}}
use Rattle.{tte_units.specs.Amount.amount, world_state.specs.Ripening.ripe_numbers}
use Rattle.run_law.specs.declared.note.NoteBody.TheVariants as kinds

-- the frames that wait, and the queues of the devices
pub record Waiting : Type 0 where
  pub items : List Waits
  pub queues : List (Queue Waits)

-- the frames of a queue
abbrev pub frames_of : Queue Waits → List Waits
frames_of q = map (λ (e : Entry Waits). e.content) q.entries

-- the frames of all queues
abbrev pub frames_in : List (Queue Waits) → List Waits
frames_in queues = flat_map frames_of queues

-- the first frame of a queue
abbrev pub first_frame : Queue Waits → Option Waits
first_frame q = option_map (λ (e : Entry Waits). e.content) (first_entry q.entries)

-- the first of the frames that wait at a device
abbrev pub first_of : Waiting → ℕ → Option Waits
first_of waiting device = option_and_then first_frame (slice_get waiting.queues device)

-- how many more may wait at a device before more room is taken
abbrev pub room_of : Waiting → ℕ → ℕ
room_of waiting device = option_map_or (λ (q : Queue Waits). q.room) (slice_get waiting.queues device) 0

-- its place in the queue of its device
abbrev pub queue_place : Waits → DueAt
queue_place w = record { at = amount w.point; rank = 0; device = w.frame.members.0; link = w.link.0; cause = w.cause }

-- what is in the queue of a device is a frame that waits at it, at its place
pub record IsQueued (device : ℕ) (e : Entry Waits) : Type 0 where
  pub own : e.content.device.0 ≡ device
  pub place : e.place ≡ queue_place e.content
  pub begun : pos 0 ≤ℤ e.content.point.0

-- so it is in each queue
abbrev pub AreQueued : List (Queue Waits) → Type 0
AreQueued queues = (k : ℕ) (q : Queue Waits) (e : Entry Waits) → slice_get queues k ≡ Some q → IsIn e q.entries
    → IsQueued k e

-- it waits at the device, and none that waits there is before it
pub record IsFirstAt (items : List Waits) (device : ℕ) (w : Waits) : Type 0 where
  pub there : IsIn w items
  pub own : w.device.0 ≡ device
  pub begun : (v : Waits) → IsIn v items → v.device.0 ≡ device → pos 0 ≤ℤ v.point.0
  pub none : (v : Waits) → IsIn v items → v.device.0 ≡ device → IsBefore (ripe_numbers v) (ripe_numbers w) → ⊥

-- no frame waits at the device
abbrev pub NoneAt : List Waits → ℕ → Type 0
NoneAt items device = (v : Waits) → IsIn v items → v.device.0 ≡ device → ⊥

-- one more waits, where there is one
abbrev pub IsOneMore : Option Waits → List Waits → List Waits → Type 0
IsOneMore None old new = new ≡ old
IsOneMore (Some one) old new = IsPermutation (one ∷ old) new

-- the device at which the frame of a record may wait
abbrev pub waiter_of : NoteBody → Option DeviceId
waiter_of (kinds.Arrived device link cause clock) = Some device
waiter_of other = None
