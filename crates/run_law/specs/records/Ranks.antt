-- The order of the records: by time, then by kind, then by device, link and cause. Where a place has further
-- numbers behind these, they part records that no run has at one place.
use Rattle.std.specs.{Option.option_map_or, Prelude.{◌∷◌, List, [], negsuc, pos, ℕ, ℤ}}
use Rattle.tte_units.specs.Amount.{amount}
use Rattle.run_law.specs.declared.note.NoteBody.TheVariants.{Accepted, Arrived, Clock, Compressed, Corrected, Delivered}
use Rattle.run_law.specs.declared.note.NoteBody.TheVariants.{Dropped, Event, Left, Lost, Permanent, Sent, State, TtSent}
use Rattle.run_law.specs.{declared.note.NoteBody.NoteBody, records.Happenings.{Happening, time_of}}

-- the kinds of record at one time: an effect at the instant of its cause has the higher rank
abbrev pub rank : NoteBody → ℕ
rank (Event line what) = 1
rank (Arrived device link cause clock) = 2
rank (Permanent device link cause point verdict) = 3
rank (Compressed device opened at cycle members verdict) = 4
rank (Sent device cycle) = 5
rank (Corrected device cycle by adjustment) = 6
rank (State device state cause why) = 7
rank (Left device link cause clock) = 8
rank (Lost device link cause) = 9
rank (TtSent device link cause vl cycle) = 10
rank (Accepted device link cause vl cycle) = 11
rank (Delivered device link cause vl cycle) = 12
rank (Dropped device link cause reason) = 13
rank (Clock device reading adjustment state) = 14

-- the members of a record's frame, as a number
abbrev pub members_in : Happening → ℕ
members_in h = option_map_or (λ frame. frame.members.0) h.frame 0

-- 1 for a number below 0, and else 0
abbrev pub sign : ℤ → ℕ
sign (pos n) = 0
sign (negsuc n) = 1

-- the place among the records of one time and kind; `members` are those of the frame
abbrev pub key : ℕ → NoteBody → List ℕ
key members (Event line what) = line ∷ []
key members (Arrived device link cause clock) = device.0 ∷ link.0 ∷ cause ∷ []
key members (Permanent device link cause point verdict) = device.0 ∷ amount point ∷ members ∷ link.0 ∷ cause ∷ []
key members (Compressed device opened at cycle of_masters verdict) =
    device.0 ∷ amount opened ∷ amount at ∷ cycle ∷ of_masters.0 ∷ sign opened.0 ∷ sign at.0 ∷ []
key members (Sent device cycle) = device.0 ∷ cycle ∷ []
key members (Corrected device cycle by adjustment) = device.0 ∷ []
key members (State device state cause why) = device.0 ∷ cause ∷ []
key members (Left device link cause clock) = device.0 ∷ link.0 ∷ cause ∷ []
key members (Lost device link cause) = device.0 ∷ link.0 ∷ cause ∷ []
key members (TtSent device link cause vl cycle) = device.0 ∷ link.0 ∷ cause ∷ vl.0 ∷ cycle ∷ []
key members (Accepted device link cause vl cycle) = device.0 ∷ link.0 ∷ cause ∷ []
key members (Delivered device link cause vl cycle) = device.0 ∷ link.0 ∷ cause ∷ []
key members (Dropped device link cause reason) = device.0 ∷ link.0 ∷ cause ∷ []
key members (Clock device reading adjustment state) = device.0 ∷ []

-- where a record of this body, whose frame has these members, stands in the order if it is of this time
abbrev pub place_at : ℕ → ℕ → NoteBody → List ℕ
place_at time members body = time ∷ rank body ∷ key members body

-- where a record stands in the order
abbrev pub place_of : Happening → List ℕ
place_of h = place_at (time_of h) (members_in h) h.note.body
