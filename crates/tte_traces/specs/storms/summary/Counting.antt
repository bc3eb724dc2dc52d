-- Which records are of which kind, and how many there are of each.
use Rattle.std.specs.Prelude.{◌+◌, ◌≤◌, Bool, List, bytes_eq, codes, false, filter, length, true, ℕ}
use Rattle.run_law.specs.declared.{judgement.Reason.Reason, note.{Note.Note, NoteBody.NoteBody}}
use Rattle.tte_traces.specs.declared.storms.summary.{counted.Counted.Counted, counts.{Counts.Counts, Drops.Drops}}
use Rattle.run_law.specs.declared.judgement.Reason.TheVariants as reasons
use Rattle.run_law.specs.declared.note.NoteBody.TheVariants as notes
use Rattle.tte_traces.specs.declared.storms.summary.counted.Counted.TheVariants as lines

-- the word of a record's kind
abbrev pub kind_word : NoteBody → List ℕ
kind_word (notes.Event line what) = codes "event"
kind_word (notes.Arrived device link cause clock) = codes "arrived"
kind_word (notes.Permanent device link cause point verdict) = codes "permanent"
kind_word (notes.Compressed device opened at cycle members verdict) = codes "compressed"
kind_word (notes.Sent device cycle) = codes "sent"
kind_word (notes.Corrected device cycle by adjustment) = codes "corrected"
kind_word (notes.State device state cause why) = codes "state"
kind_word (notes.Left device link cause clock) = codes "left"
kind_word (notes.Lost device link cause) = codes "lost"
kind_word (notes.TtSent device link cause vl cycle) = codes "ttsent"
kind_word (notes.Accepted device link cause vl cycle) = codes "accepted"
kind_word (notes.Delivered device link cause vl cycle) = codes "delivered"
kind_word (notes.Dropped device link cause reason) = codes "dropped"
kind_word (notes.Clock device reading adjustment state) = codes "clock"

-- the word for why a frame is dropped; all frames that are refused have one
abbrev pub drop_word : Reason → List ℕ
drop_word reasons.Off = codes "off"
drop_word reasons.ColdStart = codes "coldstart"
drop_word reasons.Domain = codes "domain"
drop_word reasons.Member = codes "member"
drop_word reasons.Old = codes "old"
drop_word reasons.Gate = codes "gate"
drop_word reasons.Cycle = codes "cycle"
drop_word reasons.Unsynchronised = codes "unsynchronised"
drop_word reasons.Unknown = codes "unknown"
drop_word reasons.Length = codes "length"
drop_word reasons.Early = codes "early"
drop_word reasons.Late = codes "late"
drop_word reasons.Repeat = codes "repeat"
drop_word (reasons.RefusedLength size) = codes "refused"
drop_word reasons.RefusedEtherType = codes "refused"
drop_word (reasons.RefusedReserved offset) = codes "refused"
drop_word (reasons.RefusedKind octet) = codes "refused"

-- is the record of the kind of this word?
abbrev pub is_of_kind : List ℕ → NoteBody → Bool
is_of_kind word body = bytes_eq word (kind_word body)

-- is it that of a drop for the reason of this word?
abbrev pub is_drop_for : List ℕ → NoteBody → Bool
is_drop_for word (notes.Dropped device link cause reason) = bytes_eq word (drop_word reason)
is_drop_for word other = false

-- which line of a summary counts the record
abbrev pub counted_as : NoteBody → Counted
counted_as (notes.Compressed device opened at cycle members verdict) = lines.Compressed
counted_as (notes.Corrected device cycle by adjustment) = lines.Corrected
counted_as (notes.Lost device link cause) = lines.Lost
counted_as (notes.TtSent device link cause vl cycle) = lines.TtSent
counted_as (notes.Accepted device link cause vl cycle) = lines.Accepted
counted_as (notes.Delivered device link cause vl cycle) = lines.Delivered
counted_as (notes.Dropped device link cause reason) = lines.Dropped reason
counted_as other = lines.Unlisted

-- how many of the records are such
abbrev pub count_where : (NoteBody → Bool) → List Note → ℕ
count_where is notes = length (filter (λ n. is n.body) notes)

-- how many frames are dropped for the reason of this word
abbrev pub drops_for : List ℕ → List Note → ℕ
drops_for word notes = count_where (is_drop_for word) notes

-- how many frames are dropped for each reason
unfoldable pub drops_of : List Note → Drops
drops_of notes = record {
  off = drops_for (codes "off") notes;
  refused = drops_for (codes "refused") notes;
  cold_start = drops_for (codes "coldstart") notes;
  domain = drops_for (codes "domain") notes;
  member = drops_for (codes "member") notes;
  too_old = drops_for (codes "old") notes;
  gate = drops_for (codes "gate") notes;
  cycle = drops_for (codes "cycle") notes;
  unsynchronised = drops_for (codes "unsynchronised") notes;
  unknown = drops_for (codes "unknown") notes;
  wrong_length = drops_for (codes "length") notes;
  early = drops_for (codes "early") notes;
  late = drops_for (codes "late") notes;
  repeated = drops_for (codes "repeat") notes;
}

-- how many of the records are of the kind of this word
abbrev pub records_of : List ℕ → List Note → ℕ
records_of word notes = count_where (is_of_kind word) notes

-- how many records there are, how many of each kind, and how many frames are dropped for each reason
unfoldable pub counts_of : List Note → Counts
counts_of notes = record {
  records = length notes;
  compressed = records_of (codes "compressed") notes;
  corrected = records_of (codes "corrected") notes;
  lost = records_of (codes "lost") notes;
  tt_sent = records_of (codes "ttsent") notes;
  accepted = records_of (codes "accepted") notes;
  delivered = records_of (codes "delivered") notes;
  dropped = drops_of notes;
}

-- how many frames are dropped
abbrev pub all_drops : Drops → ℕ
all_drops d =
    d.off + d.refused + d.cold_start + d.domain + d.member + d.too_old + d.gate + d.cycle + d.unsynchronised
    + d.unknown + d.wrong_length + d.early + d.late + d.repeated

-- one more, where it is so
abbrev pub raised : Bool → ℕ → ℕ
raised true n = n + 1
raised false n = n

-- the count of this word, with the drop for the reason
abbrev pub with_reason : Reason → List ℕ → ℕ → ℕ
with_reason reason word n = raised (bytes_eq word (drop_word reason)) n

-- the drops with one more, for the reason
abbrev pub with_drop : Reason → Drops → Drops
with_drop reason d = record {
  off = with_reason reason (codes "off") d.off;
  refused = with_reason reason (codes "refused") d.refused;
  cold_start = with_reason reason (codes "coldstart") d.cold_start;
  domain = with_reason reason (codes "domain") d.domain;
  member = with_reason reason (codes "member") d.member;
  too_old = with_reason reason (codes "old") d.too_old;
  gate = with_reason reason (codes "gate") d.gate;
  cycle = with_reason reason (codes "cycle") d.cycle;
  unsynchronised = with_reason reason (codes "unsynchronised") d.unsynchronised;
  unknown = with_reason reason (codes "unknown") d.unknown;
  wrong_length = with_reason reason (codes "length") d.wrong_length;
  early = with_reason reason (codes "early") d.early;
  late = with_reason reason (codes "late") d.late;
  repeated = with_reason reason (codes "repeat") d.repeated;
}

-- the counts of the kinds are together at most that of all records
abbrev pub AreWithinRecords : Counts → Type 0
AreWithinRecords c =
    c.compressed + c.corrected + c.lost + c.tt_sent + c.accepted + c.delivered + all_drops c.dropped ≤ c.records
