-- What is kept of records.
use Rattle.std.specs.Prelude.{if◌then◌else◌, ◌==◌, Bool, Err, List, Ok, Result, false, map, true, ℕ}
use Rattle.audit_sweep.specs.declared.records.kept.{Kept.Kept, KeptRecord.KeptRecord, Sending.Sending}
use Rattle.{device_rules.specs.Headings.heading_of, run_law.specs.records.Happenings.{Happening, time_of}}
use Rattle.{net_plan.specs.declared.event.What.What, pcf_codec.specs.declared.refusal.PcfRefusal.PcfRefusal}
use Rattle.pcf_codec.specs.{Decoding.decoded, EtherType.pcf_type, Fields.field}
use Rattle.tte_units.specs.declared.frames.pcf.Pcf.{Pcf}
use Rattle.run_law.specs.declared.{judgement.Judgement.{Judgement, TheVariants.Integrates}, note.NoteBody.NoteBody}
use Rattle.audit_sweep.specs.declared.records.kept.Kept.TheVariants as kept
use Rattle.audit_sweep.specs.declared.records.kept.Sending.TheVariants as sendings
use Rattle.net_plan.specs.declared.event.What.TheVariants as events
use Rattle.run_law.specs.declared.note.NoteBody.TheVariants as notes

-- what octets with the EtherType of control frames are
abbrev pub control_sending : Result Pcf PcfRefusal → Sending
control_sending (Ok frame) = sendings.Control
control_sending (Err refusal) = sendings.Refused refusal

-- what the octets of a `send` event are
abbrev pub sending_of : List ℕ → Sending
sending_of octets = if field 12 2 octets == pcf_type then control_sending (decoded octets) else sendings.Timed

-- does the verdict tell the device the time?
abbrev pub tells_time : Judgement → Bool
tells_time Integrates = true
tells_time other = false

-- what is kept of an event
abbrev pub kept_of_event : What → Kept
kept_of_event (events.On device) = kept.On device
kept_of_event (events.Send link octets) = kept.Send link (sending_of octets)
kept_of_event other = kept.Other

-- what is kept of what a record says
abbrev pub kept_of : NoteBody → Kept
kept_of (notes.Event line what) = kept_of_event what
kept_of (notes.Arrived device link cause clock) = kept.Arrived device link clock
kept_of (notes.Permanent device link cause point verdict) = kept.Permanent device (tells_time verdict)
kept_of (notes.Compressed device opened at cycle members verdict) = kept.Compressed device (tells_time verdict)
kept_of (notes.Sent device cycle) = kept.Sent device
kept_of (notes.Corrected device cycle by adjustment) = kept.Corrected device
kept_of (notes.Left device link cause clock) = kept.Left device link
kept_of (notes.TtSent device link cause vl cycle) = kept.TtSent device link
kept_of (notes.Accepted device link cause vl cycle) = kept.Accepted device vl cycle
kept_of (notes.Delivered device link cause vl cycle) = kept.Delivered device link vl
kept_of other = kept.Other

-- what is kept of a record
abbrev pub record_of : Happening → KeptRecord
record_of h = record {
  time = time_of h;
  kept = kept_of h.note.body;
  frame = h.frame;
  heading = heading_of h.octets;
}

-- and of each of them, in their order
abbrev pub records_of : List Happening → List KeptRecord
records_of hs = map record_of hs
