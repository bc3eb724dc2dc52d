-- What a record says of no event, as the body of the record.
use Rattle.run_law.specs.declared.note.NoteBody.TheVariants as kinds
use Rattle.run_law.specs.declared.note.NoteBody.{NoteBody}
use Rattle.run_law.specs.declared.plain.{apart.EventOrPlain.EventOrPlain, bodies.PlainKind.PlainKind}
use Rattle.run_law.specs.declared.plain.bodies.PlainKind.TheVariants as said
use Rattle.run_law.specs.declared.plain.apart.EventOrPlain.TheVariants as parts

-- the body of the record that says this
abbrev pub body_of : PlainKind → NoteBody
body_of (said.Arrived device link cause clock) = kinds.Arrived device link cause clock
body_of (said.Permanent device link cause point verdict) = kinds.Permanent device link cause point verdict
body_of (said.Compressed device opened at cycle members verdict) =
    kinds.Compressed device opened at cycle members verdict
body_of (said.Sent device cycle) = kinds.Sent device cycle
body_of (said.Corrected device cycle by adjustment) = kinds.Corrected device cycle by adjustment
body_of (said.State device state cause why) = kinds.State device state cause why
body_of (said.Left device link cause clock) = kinds.Left device link cause clock
body_of (said.Lost device link cause) = kinds.Lost device link cause
body_of (said.TtSent device link cause vl cycle) = kinds.TtSent device link cause vl cycle
body_of (said.Accepted device link cause vl cycle) = kinds.Accepted device link cause vl cycle
body_of (said.Delivered device link cause vl cycle) = kinds.Delivered device link cause vl cycle
body_of (said.Dropped device link cause reason) = kinds.Dropped device link cause reason
body_of (said.Clock device reading adjustment state) = kinds.Clock device reading adjustment state

-- the body that says this
abbrev pub said_body : EventOrPlain → NoteBody
said_body (parts.Event line what) = kinds.Event line what.now
said_body (parts.Plain kind) = body_of kind
