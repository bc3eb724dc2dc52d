-- Counts go on by the next record.
use Rattle.{run_law.specs.declared.note.{Note.Note, NoteBody.NoteBody}, std.{proofs.lemmas.List.Elements.filter-append, specs.Prelude.{codes, if◌then◌else◌}}}
use Rattle.std.proofs.Common.{◌++◌, ◌+◌, ◌∙◌, ◌∷◌, ◌≡◌, Bool, List, [], ap, arith, false, filter, length, length-append, refl, sym, true, ℕ}
use Rattle.tte_traces.specs.{declared.storms.summary.{counted.Counted.Counted, counts.{Counts.Counts, Drops.Drops}}, storms.summary.Counting.with_drop}
use Rattle.tte_traces.specs.storms.summary.Counting.{count_where, counted_as, counts_of, drops_for, drops_of, is_drop_for, is_of_kind, raised, records_of}
use Rattle.run_law.specs.declared.note.NoteBody.TheVariants as notes
use Rattle.tte_traces.specs.declared.storms.summary.counted.Counted.TheVariants as lines

raised_by : (b : Bool) (n : ℕ) (note : Note) → n + length (if b then note ∷ [] else []) ≡ raised b n
raised_by true n note = refl
raised_by false n note = omega arith

-- the count of those that are so goes on
grown : (is : NoteBody → Bool) (notes : List Note) (note : Note) → count_where is (notes ++ note ∷ []) ≡ raised (is note.body) (count_where is notes)
grown is notes note =
    ap length (filter-append (λ (n : Note). is n.body) notes (note ∷ []))
    ∙ length-append (filter (λ (n : Note). is n.body) notes) (filter (λ (n : Note). is n.body) (note ∷ []))
    ∙ raised_by (is note.body) (count_where is notes) note

-- the drops with that of the record
abbrev pub drops_with : NoteBody → Drops → Drops
drops_with body d = record {
  off = raised (is_drop_for (codes "off") body) d.off;
  refused = raised (is_drop_for (codes "refused") body) d.refused;
  cold_start = raised (is_drop_for (codes "coldstart") body) d.cold_start;
  domain = raised (is_drop_for (codes "domain") body) d.domain;
  member = raised (is_drop_for (codes "member") body) d.member;
  too_old = raised (is_drop_for (codes "old") body) d.too_old;
  gate = raised (is_drop_for (codes "gate") body) d.gate;
  cycle = raised (is_drop_for (codes "cycle") body) d.cycle;
  unsynchronised = raised (is_drop_for (codes "unsynchronised") body) d.unsynchronised;
  unknown = raised (is_drop_for (codes "unknown") body) d.unknown;
  wrong_length = raised (is_drop_for (codes "length") body) d.wrong_length;
  early = raised (is_drop_for (codes "early") body) d.early;
  late = raised (is_drop_for (codes "late") body) d.late;
  repeated = raised (is_drop_for (codes "repeat") body) d.repeated;
}

-- the counts with that of the record
abbrev pub counts_with : NoteBody → Counts → Counts
counts_with body c = record {
  records = c.records + 1;
  compressed = raised (is_of_kind (codes "compressed") body) c.compressed;
  corrected = raised (is_of_kind (codes "corrected") body) c.corrected;
  lost = raised (is_of_kind (codes "lost") body) c.lost;
  tt_sent = raised (is_of_kind (codes "ttsent") body) c.tt_sent;
  accepted = raised (is_of_kind (codes "accepted") body) c.accepted;
  delivered = raised (is_of_kind (codes "delivered") body) c.delivered;
  dropped = drops_with body c.dropped;
}

-- the drops, by the count for each word
drops_by : (List ℕ → ℕ) → Drops
drops_by count = record {
  off = count (codes "off");
  refused = count (codes "refused");
  cold_start = count (codes "coldstart");
  domain = count (codes "domain");
  member = count (codes "member");
  too_old = count (codes "old");
  gate = count (codes "gate");
  cycle = count (codes "cycle");
  unsynchronised = count (codes "unsynchronised");
  unknown = count (codes "unknown");
  wrong_length = count (codes "length");
  early = count (codes "early");
  late = count (codes "late");
  repeated = count (codes "repeat");
}

same_drops : (f g : List ℕ → ℕ) → ((word : List ℕ) → f word ≡ g word) → drops_by f ≡ drops_by g
unfolding drops_by
same_drops f g same =
    rw (
      same (codes "off"),
      same (codes "refused"),
      same (codes "coldstart"),
      same (codes "domain"),
      same (codes "member"),
      same (codes "old"),
      same (codes "gate"),
      same (codes "cycle"),
      same (codes "unsynchronised"),
      same (codes "unknown"),
      same (codes "length"),
      same (codes "early"),
      same (codes "late"),
      same (codes "repeat"),
    ) refl

-- the drops go on
drops_grow : (notes : List Note) (note : Note) → drops_of (notes ++ note ∷ []) ≡ drops_with note.body (drops_of notes)
unfolding drops_of drops_by
drops_grow notes note =
    same_drops (λ (word : List ℕ). drops_for word (notes ++ note ∷ [])) (λ (word : List ℕ). raised (is_drop_for word note.body) (drops_for word notes))
    (λ (word : List ℕ). grown (is_drop_for word) notes note)

counts_by : ℕ → (List ℕ → ℕ) → Drops → Counts
counts_by all count drops = record {
  records = all;
  compressed = count (codes "compressed");
  corrected = count (codes "corrected");
  lost = count (codes "lost");
  tt_sent = count (codes "ttsent");
  accepted = count (codes "accepted");
  delivered = count (codes "delivered");
  dropped = drops;
}

same_counts : (n m : ℕ) (f g : List ℕ → ℕ) (d e : Drops) → n ≡ m → ((word : List ℕ) → f word ≡ g word) → d ≡ e → counts_by n f d ≡ counts_by m g e
unfolding counts_by
same_counts n m f g d e all same drops =
    rw (
      all,
      drops,
      same (codes "compressed"),
      same (codes "corrected"),
      same (codes "lost"),
      same (codes "ttsent"),
      same (codes "accepted"),
      same (codes "delivered"),
    ) refl

-- the counts go on
pub counts_grow : (notes : List Note) (note : Note) → counts_of (notes ++ note ∷ []) ≡ counts_with note.body (counts_of notes)
unfolding counts_of counts_by
counts_grow notes note =
    same_counts (length (notes ++ note ∷ [])) (length notes + 1) (λ (word : List ℕ). records_of word (notes ++ note ∷ []))
    (λ (word : List ℕ). raised (is_of_kind word note.body) (records_of word notes)) (drops_of (notes ++ note ∷ [])) (drops_with note.body (drops_of notes))
    (length-append notes (note ∷ [])) (λ (word : List ℕ). grown (is_of_kind word) notes note) (drops_grow notes note)

-- where the counts become those with the record, they are its
counted_one : (old new : Counts) (note : Note) → new ≡ counts_with note.body old → (notes : List Note) → old ≡ counts_of notes
    → new ≡ counts_of (notes ++ note ∷ [])
counted_one old new note is notes so_far = is ∙ ap (counts_with note.body) so_far ∙ sym (counts_grow notes note)

-- these counts
abbrev pub the_counts : ℕ → ℕ → ℕ → ℕ → ℕ → ℕ → ℕ → Drops → Counts
the_counts all compressed corrected lost tt_sent accepted delivered dropped = record {
  records = all;
  compressed = compressed;
  corrected = corrected;
  lost = lost;
  tt_sent = tt_sent;
  accepted = accepted;
  delivered = delivered;
  dropped = dropped;
}

-- the counts with one more that this line counts
abbrev pub counts_and : Counted → Counts → Counts
counts_and lines.Compressed c = the_counts (c.records + 1) (c.compressed + 1) c.corrected c.lost c.tt_sent c.accepted c.delivered c.dropped
counts_and lines.Corrected c = the_counts (c.records + 1) c.compressed (c.corrected + 1) c.lost c.tt_sent c.accepted c.delivered c.dropped
counts_and lines.Lost c = the_counts (c.records + 1) c.compressed c.corrected (c.lost + 1) c.tt_sent c.accepted c.delivered c.dropped
counts_and lines.TtSent c = the_counts (c.records + 1) c.compressed c.corrected c.lost (c.tt_sent + 1) c.accepted c.delivered c.dropped
counts_and lines.Accepted c = the_counts (c.records + 1) c.compressed c.corrected c.lost c.tt_sent (c.accepted + 1) c.delivered c.dropped
counts_and lines.Delivered c = the_counts (c.records + 1) c.compressed c.corrected c.lost c.tt_sent c.accepted (c.delivered + 1) c.dropped
counts_and (lines.Dropped reason) c = the_counts (c.records + 1) c.compressed c.corrected c.lost c.tt_sent c.accepted c.delivered (with_drop reason c.dropped)
counts_and lines.Unlisted c = the_counts (c.records + 1) c.compressed c.corrected c.lost c.tt_sent c.accepted c.delivered c.dropped

-- they are those with the record that it counts
counts_line : (counted : Counted) (body : NoteBody) (c : Counts) → counted ≡ counted_as body → counts_and counted c ≡ counts_with body c
counts_line counted (notes.Event line what) c e = ap (λ k. counts_and k c) e
counts_line counted body c e = ap (λ k. counts_and k c) e

-- where the counts become those with one more that the record's line counts, they are the record's
pub added : (old new : Counts) (counted : Counted) (note : Note) → new ≡ counts_and counted old → counted ≡ counted_as note.body → (notes : List Note)
    → old ≡ counts_of notes → new ≡ counts_of (notes ++ note ∷ [])
added old new counted note is line notes so_far = counted_one old new note (is ∙ counts_line counted note.body old line) notes so_far
