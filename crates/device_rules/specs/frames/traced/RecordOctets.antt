-- The octets of a record's frame, by the record's kind.
use Rattle.std.specs.Prelude.{List, None, Option, Some, option_and_then, option_map, ℕ}
use Rattle.net_plan.specs.declared.{event.What.TheVariants.Send, network.Network.Network}
use Rattle.pcf_codec.specs.Encoded.{encoded}
use Rattle.{run_law.specs.declared.note.Note.Note, tte_units.specs.declared.frames.pcf.Pcf.Pcf}
use Rattle.run_law.specs.{declared.note.NoteBody.NoteBody, records.Happenings.{Happening, happenings, numbered}}
use Rattle.run_law.specs.declared.note.NoteBody.TheVariants as notes

-- the octets that a record of this body shows, given its control frame, if it is of one, and its octets.
-- A control frame that a device dispatches, emits, gives to a link or takes is spelt with zero padding; that of a
-- record of leaving or of arrival has the record's transparent clock. A `send` event has its own octets, padding and
-- all, and a time-triggered frame has those that its sender made
abbrev pub shown : NoteBody → Option Pcf → List ℕ → Option (List ℕ)
shown (notes.Event line (Send link given)) frame octets = Some octets
shown (notes.Sent device cycle) frame octets = option_map encoded frame
shown (notes.Compressed device opened at cycle members verdict) frame octets = option_map encoded frame
shown (notes.Left device link cause clock) frame octets = option_map encoded frame
shown (notes.Arrived device link cause clock) frame octets = option_map encoded frame
shown (notes.TtSent device link cause vl cycle) frame octets = Some octets
shown (notes.Accepted device link cause vl cycle) frame octets = Some octets
shown (notes.Delivered device link cause vl cycle) frame octets = Some octets
shown other frame octets = None

-- the octets of a record, if its kind has any
abbrev pub record_octets : Happening → Option (List ℕ)
record_octets h = shown h.note.body h.frame h.octets

-- the octets of the record of this number, if there is one and its kind has any
abbrev pub octets_of : Network → List Note → ℕ → Option (List ℕ)
octets_of network notes number = option_and_then record_octets (numbered (happenings network notes) number)
