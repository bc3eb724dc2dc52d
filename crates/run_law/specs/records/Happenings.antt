-- The records of a run with the frames that they are of. A record shows its frame by its cause, so the frames
-- are found from the first record to the last.
use Rattle.std.specs.Option.{option_map_or}
use Rattle.std.specs.Prelude.{if◌then◌else◌, ◌++◌, ◌==◌, ◌∷◌, Err, List, None, Ok, Option, Result, Some, [], filter}
use Rattle.std.specs.Prelude.{fold, nat_le, nat_lt, option_and_then, option_map, slice_get, suc, zero, ℕ}
use Rattle.{net_plan.specs.declared.event.What.TheVariants.Send, pcf_codec.specs.declared.refusal.PcfRefusal.PcfRefusal}
use Rattle.{net_plan.specs.declared.network.Network.Network, run_law.specs.declared.note.{Note.Note, NoteBody.NoteBody}}
use Rattle.{pcf_codec.specs.Decoding.decoded, tte_units.specs.{Amount.amount, declared.frames.pcf.Pcf.Pcf}}
use Rattle.run_law.specs.records.Frames.{dispatched_frame, integration_frame, tt_frame}
use Rattle.run_law.specs.declared.note.NoteBody.TheVariants as notes

-- a record, the protocol control frame that it is of, and the octets of the frame of a `send` event or of a
-- time-triggered frame
pub record Happening : Type 0 where
  pub note : Note
  pub frame : Option Pcf
  pub octets : List ℕ

-- the record of this number, from 1; 0 is the number of none
abbrev pub numbered : List Happening → ℕ → Option Happening
numbered hs zero = None
numbered hs (suc before) = slice_get hs before

-- the frame of the record of this number
abbrev pub frame_from : List Happening → ℕ → Option Pcf
frame_from hs number = option_and_then (λ h. h.frame) (numbered hs number)

-- the octets of the record of this number
abbrev pub octets_from : List Happening → ℕ → List ℕ
octets_from hs number = option_map_or (λ h. h.octets) (numbered hs number) []

-- the frame that was decoded, if one was
abbrev pub frame_in : Result Pcf PcfRefusal → Option Pcf
frame_in (Ok frame) = Some frame
frame_in (Err refusal) = None

-- the frame with this transparent clock
abbrev pub with_clock : ℕ → Pcf → Pcf
with_clock clock frame = record frame { clock = clock }

-- the protocol control frame of a record, given those before it
abbrev pub frame_by : Network → List Happening → NoteBody → Option Pcf
frame_by network before (notes.Event line (Send link octets)) = frame_in (decoded octets)
frame_by network before (notes.Sent device cycle) = Some (dispatched_frame network device cycle)
frame_by network before (notes.Compressed device opened at cycle members verdict) =
    Some (integration_frame network device cycle members)
frame_by network before (notes.Left device link cause clock) = option_map (with_clock clock) (frame_from before cause)
frame_by network before (notes.Arrived device link cause clock) =
    option_map (with_clock clock) (frame_from before cause)
frame_by network before (notes.Permanent device link cause point verdict) = frame_from before cause
frame_by network before other = None

-- the octets of a record, given those before it
abbrev pub octets_by : Network → List Happening → NoteBody → List ℕ
octets_by network before (notes.Event line (Send link octets)) = octets
octets_by network before (notes.TtSent device link cause vl cycle) =
    if cause == 0 then tt_frame network vl cycle else octets_from before cause
octets_by network before (notes.Accepted device link cause vl cycle) = octets_from before cause
octets_by network before (notes.Delivered device link cause vl cycle) = octets_from before cause
octets_by network before other = []

-- a record with its frame, given those before it
abbrev pub happening : Network → List Happening → Note → Happening
happening network before note = record {
  note = note;
  frame = frame_by network before note.body;
  octets = octets_by network before note.body;
}

-- the records with their frames
abbrev pub happenings : Network → List Note → List Happening
happenings network ns = fold (λ before note. before ++ happening network before note ∷ []) [] ns

-- the world time of a record
abbrev pub time_of : Happening → ℕ
time_of h = amount h.note.time

-- the records before a time
abbrev pub earlier : ℕ → List Happening → List Happening
earlier t hs = filter (λ h. nat_lt (time_of h) t) hs

-- the records up to a time, those of this time included
abbrev pub up_to : ℕ → List Happening → List Happening
up_to t hs = filter (λ h. nat_le (time_of h) t) hs
