-- The line of a record: words with single spaces between them, the first two its number and its time.
--
--     event L TEXT                                                    an event, that of line L of the trace
--     arrived DEVICE LINK CAUSE clock T                               a protocol control frame arrives
--     permanent DEVICE LINK CAUSE point P VERDICT                     it is permanent
--     compressed DEVICE opened P at Q cycle C members M VERDICT       the frame of a collection is sent
--     sent DEVICE cycle C                                             a master sends its frame
--     corrected DEVICE cycle C by V adj A                             a device corrects its clock
--     state DEVICE STATE CAUSE WHY                                    a device changes its state
--     left DEVICE LINK CAUSE clock T                                  a protocol control frame leaves a device
--     lost DEVICE LINK CAUSE                                          a frame meets a cut way
--     ttsent DEVICE LINK CAUSE vl VL cycle C                          a time-triggered frame is dispatched
--     accepted DEVICE LINK CAUSE vl VL cycle C                        a switch takes it
--     delivered DEVICE LINK CAUSE vl VL cycle C                       an end system takes it
--     dropped DEVICE LINK CAUSE REASON                                a frame is dropped
--     clock DEVICE reading R adj A state STATE                        a device's clock at the end
--
-- DEVICE, LINK and VL are names, and CAUSE is a record's number or 0. M has eight hexadecimal digits; the
-- other numbers are decimal.
use Rattle.std.specs.{Fmt.signed_decimal, List.join_with_byte}
use Rattle.std.specs.Prelude.{◌++◌, ◌+◌, ◌∷◌, List, [], codes, decimal, map, ℕ}
use Rattle.net_plan.specs.{Belonging.{device_name, link_name, vl_name}, declared.ids.{DeviceId.DeviceId, LinkId.LinkId}}
use Rattle.net_plan.specs.declared.{ids.VlId.VlId, network.Network.Network}
use Rattle.run_law.specs.declared.note.{Note.Note, NoteBody.NoteBody}
use Rattle.run_law.specs.declared.note.NoteBody.TheVariants.{Accepted, Arrived, Clock, Compressed, Corrected, Delivered}
use Rattle.run_law.specs.declared.note.NoteBody.TheVariants.{Dropped, Event, Left, Lost, Permanent, Sent, State, TtSent}
use Rattle.trace_text.specs.{EventLine.{longest_text, what_words}, Steps.{Words, space}}
use Rattle.report_text.specs.NoteWords.{judgement_text, members_text, reason_words, state_text, why_text}

-- where a frame is and what it comes from: the device, the link and the cause
abbrev pub passage_words : Network → DeviceId → LinkId → ℕ → Words
passage_words network device link cause = device_name network device ∷ link_name network link ∷ decimal cause ∷ []

-- which time-triggered frame it is: that of a virtual link in a cycle
abbrev pub stream_words : Network → VlId → ℕ → Words
stream_words network vl cycle = codes "vl" ∷ vl_name network vl ∷ codes "cycle" ∷ decimal cycle ∷ []

-- what a record says, behind its number and its time; an event's words are those of its line without the time
abbrev pub body_words : Network → NoteBody → Words
body_words network (Event line what) = codes "event" ∷ decimal line ∷ what_words network what
body_words network (Compressed device opened at cycle members verdict) =
    codes "compressed" ∷ device_name network device ∷ codes "opened" ∷ signed_decimal opened.0
    ∷ codes "at" ∷ signed_decimal at.0
    ∷ codes "cycle" ∷ decimal cycle ∷ codes "members" ∷ members_text members ∷ judgement_text verdict ∷ []
body_words network (Sent device cycle) = codes "sent" ∷ device_name network device ∷ codes "cycle" ∷ decimal cycle ∷ []
body_words network (Corrected device cycle by adjustment) =
    codes "corrected" ∷ device_name network device ∷ codes "cycle" ∷ decimal cycle
    ∷ codes "by" ∷ signed_decimal by.0 ∷ codes "adj" ∷ signed_decimal adjustment.0 ∷ []
body_words network (State device state cause why) =
    codes "state" ∷ device_name network device ∷ state_text state ∷ decimal cause ∷ why_text why ∷ []
body_words network (Clock device reading adjustment state) =
    codes "clock" ∷ device_name network device ∷ codes "reading" ∷ signed_decimal reading.0
    ∷ codes "adj" ∷ signed_decimal adjustment.0 ∷ codes "state" ∷ state_text state ∷ []
body_words network (Arrived device link cause clock) =
    codes "arrived" ∷ (passage_words network device link cause ++ codes "clock" ∷ decimal clock ∷ [])
body_words network (Permanent device link cause point verdict) =
    codes "permanent" ∷ (passage_words network device link cause
    ++ codes "point" ∷ signed_decimal point.0 ∷ judgement_text verdict ∷ [])
body_words network (Left device link cause clock) =
    codes "left" ∷ (passage_words network device link cause ++ codes "clock" ∷ decimal clock ∷ [])
body_words network (Lost device link cause) = codes "lost" ∷ passage_words network device link cause
body_words network (TtSent device link cause vl cycle) =
    codes "ttsent" ∷ (passage_words network device link cause ++ stream_words network vl cycle)
body_words network (Accepted device link cause vl cycle) =
    codes "accepted" ∷ (passage_words network device link cause ++ stream_words network vl cycle)
body_words network (Delivered device link cause vl cycle) =
    codes "delivered" ∷ (passage_words network device link cause ++ stream_words network vl cycle)
body_words network (Dropped device link cause reason) =
    codes "dropped" ∷ (passage_words network device link cause ++ reason_words reason)

-- its text
unfoldable pub body_text : Network → NoteBody → List ℕ
body_text network body = join_with_byte space (body_words network body)

-- how many octets that text has at most: where it has an event's longest text
abbrev pub longest_body : ℕ
longest_body = 6 + 20 + 1 + longest_text

-- a record's text
abbrev pub note_text : Network → Note → List ℕ
note_text network note =
    decimal note.number ++ codes " " ++ signed_decimal note.time.0 ++ codes " " ++ body_text network note.body

-- its line
abbrev pub note_line : Network → Note → List ℕ
note_line network note = note_text network note ++ codes "\n"

-- the report of records: the line of each
abbrev pub report_of : Network → List Note → List (List ℕ)
report_of network notes = map (note_line network) notes
