-- The causes of records, and where a chain of causes begins.
use Rattle.std.specs.Prelude.{◌∷◌, ◌≡◌, List, None, Option, Some, [], ℕ}
use Rattle.net_plan.specs.declared.ids.DeviceId.{DeviceId}
use Rattle.run_law.specs.{declared.note.NoteBody.NoteBody, records.Happenings.{Happening, numbered, time_of}}
use Rattle.run_law.specs.declared.note.NoteBody.TheVariants as notes

-- the number of the record that a record comes from, or 0
abbrev pub cause_of : NoteBody → ℕ
cause_of (notes.Arrived device link cause clock) = cause
cause_of (notes.Permanent device link cause point verdict) = cause
cause_of (notes.State device state cause why) = cause
cause_of (notes.Left device link cause clock) = cause
cause_of (notes.Lost device link cause) = cause
cause_of (notes.TtSent device link cause vl cycle) = cause
cause_of (notes.Accepted device link cause vl cycle) = cause
cause_of (notes.Delivered device link cause vl cycle) = cause
cause_of (notes.Dropped device link cause reason) = cause
cause_of other = 0

-- the device that a record is of; that of an event is of none
abbrev pub device_of : NoteBody → Option DeviceId
device_of (notes.Event line what) = None
device_of (notes.Arrived device link cause clock) = Some device
device_of (notes.Permanent device link cause point verdict) = Some device
device_of (notes.Compressed device opened at cycle members verdict) = Some device
device_of (notes.Sent device cycle) = Some device
device_of (notes.Corrected device cycle by adjustment) = Some device
device_of (notes.State device state cause why) = Some device
device_of (notes.Left device link cause clock) = Some device
device_of (notes.Lost device link cause) = Some device
device_of (notes.TtSent device link cause vl cycle) = Some device
device_of (notes.Accepted device link cause vl cycle) = Some device
device_of (notes.Delivered device link cause vl cycle) = Some device
device_of (notes.Dropped device link cause reason) = Some device
device_of (notes.Clock device reading adjustment state) = Some device

-- each record of the chain but the last comes from the next
abbrev pub IsChain : List Happening → Happening → List Happening → Type 0
IsChain hs h [] = Unit {0}
IsChain hs h (g ∷ gs) = (numbered hs (cause_of h.note.body) ≡ Some g) × IsChain hs g gs

-- the last of a record and these
abbrev pub last_from : Happening → List Happening → Happening
last_from h [] = h
last_from h (g ∷ gs) = last_from g gs

-- the record's chain of causes goes back to the first
pub record GoesBackTo (hs : List Happening) (h first : Happening) : Type 0 where
  pub causes : List Happening
  pub chain : IsChain hs h causes
  pub begins : first ≡ last_from h causes

-- the record with the number `cause` is of this time
pub record IsOfThisTime (hs : List Happening) (t cause : ℕ) (h : Happening) : Type 0 where
  pub there : numbered hs cause ≡ Some h
  pub same_time : time_of h ≡ t
