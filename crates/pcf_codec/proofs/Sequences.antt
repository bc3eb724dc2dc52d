-- The frames of a stream, in pieces.
use Rattle.std.proofs.lemmas.Bool.{cases_lt, le-ltb, lt-ltb}
use Rattle.pcf_codec.proofs.Spellings.{is_spelling}
use Rattle.tte_units.specs.declared.frames.pcf.Pcf.{Pcf}
use Rattle.pcf_codec.specs.{Decoding.decoded, Sequence.{IsLongestFront, IsRefusedFrame, IsUnfinished, SpellsAll}, declared.refusal.PcfRefusal.PcfRefusal}
use Rattle.pcf_codec.specs.{Reading.{Reading, Reads, fed, holding, judgement_of, reading_of, refused, taken_of, waiting}, Spelling.{Spells, pcf_length}}
use Rattle.std.proofs.Common.{◌*◌, ◌++◌, ◌+◌, ◌-◌, ◌∙◌, ◌∷◌, ◌≡◌, ◌≤◌, Err, List, Ok, Result, [], ap, append_assoc, arith, drop, inl, inr, length}
use Rattle.std.proofs.{Common.{length-append, length-drop, length-take, refl, sym, take, ℕ}, lemmas.List.{append-nil, drop-append-le, nil_from_length}}
use Rattle.std.proofs.Math.Seq.{drop-append_seam}

-- a sequence has sixty octets a frame
pub length-spelling : (octets : List ℕ) (ps : List Pcf) → SpellsAll octets ps → length octets ≡ 60 * length ps
length-spelling octets [] s = ap length s
length-spelling octets (p ∷ ps) (front, behind, cut, one, all) =
    omega (arith, ap length cut, length-append front behind, one.size, length-spelling behind ps all)

-- one more frame
pub spells_more : (front held : List ℕ) (ps : List Pcf) (p : Pcf) → SpellsAll front ps → Spells held p → SpellsAll (front ++ held) (ps ++ p ∷ [])
spells_more front held [] p s one = rw s (held, [], sym (append-nil held), one, refl)
spells_more front held (q ∷ ps) p (first, behind, cut, one, all) last =
    (first, behind ++ held, rw cut (append_assoc first behind held), one, spells_more behind held ps p all last)

-- an unfinished frame ends the longest front
pub longest_before : (octets front rest : List ℕ) (ps : List Pcf) → octets ≡ front ++ rest → SpellsAll front ps → IsUnfinished rest
    → IsLongestFront octets ps rest
longest_before octets front rest ps cut s short = record {
  front = front;
  cut = cut;
  spells = s;
  longest = λ other behind qs c o.
      let a = length-spelling front ps s in
      let b = length-spelling other qs o in
      omega (arith, ap length cut, ap length c, length-append front rest, length-append other behind, short);
}

-- the last of a sequence's frames stands behind the others
last_spells : (front rest : List ℕ) (ps qs : List Pcf) → length front ≡ 60 * length ps → length rest ≡ 60 → length qs ≡ length ps + 1
    → SpellsAll (front ++ rest) qs → (q : Pcf) × Spells rest q
last_spells front rest ps [] f r n s = absurd (omega arith)
last_spells front rest [] (q ∷ qs) f r n (first, behind, cut, one, all) =
    let cut' : rest ≡ first ++ behind = rw (nil_from_length front (omega arith)) at cut in
    let nothing = nil_from_length behind (omega (arith, ap length cut', length-append first behind, one.size)) in
    let whole = cut' ∙ (rw nothing (append-nil first)) in
    (q, rw whole one)
last_spells front rest (p ∷ ps) (q ∷ qs) f r n (first, behind, cut, one, all) =
    let seam : drop pcf_length (first ++ behind) ≡ behind = rw one.size at (drop-append_seam first behind) in
    let same = sym seam ∙ ap (drop pcf_length) (sym cut) ∙ drop-append-le pcf_length front rest (omega arith) in
    last_spells (drop pcf_length front) rest ps qs (omega (arith, length-drop pcf_length front)) r (omega arith)
    (rw same at all)

-- a whole frame's octets that spell nothing end the longest front
longest_refused : (octets front rest : List ℕ) (ps : List Pcf) (e : PcfRefusal) → octets ≡ front ++ rest → SpellsAll front ps → IsRefusedFrame rest e
    → IsLongestFront octets ps rest
longest_refused octets front rest ps e cut s (size, bad) = record {
  front = front;
  cut = cut;
  spells = s;
  longest = λ other behind qs c o.
      let a = length-spelling front ps s in
      let b = length-spelling other qs o in
      let sizes : 60 * length ps + 60 ≡ 60 * length qs + length behind =
      omega (arith, ap length cut, ap length c, length-append front rest, length-append other behind) in
      elim (cases_lt (length front) (length other)) [
        | inr le ↦ le
        | inl longer ↦
            let all : behind ≡ [] = nil_from_length behind (omega arith) in
            let whole : other ≡ front ++ rest = sym (append-nil other) ∙ sym (ap (λ xs. other ++ xs) all) ∙ sym c ∙
            cut in
            let last = last_spells front rest ps qs a size (omega arith) (rw (sym whole) o) in
            let good = is_spelling.spelt rest last.0 last.1 in
            let no : ⊥ = cc in
            absurd no
      ];
}

-- where a reader stands with the octets of a frame, behind the frames given
judged : (stream front octets : List ℕ) (given : List Pcf) → stream ≡ front ++ octets → SpellsAll front given → length octets ≤ pcf_length
    → Reads (reading_of octets) stream given
judged stream front octets given cut s most = elim (cases_lt (length octets) pcf_length) [
  | inl short ↦ rw (lt-ltb (length octets) pcf_length short) (longest_before stream front octets given cut s short, short)
  | inr long ↦ rw (le-ltb (length octets) pcf_length long) (told (decoded octets) refl (omega arith))
]
  where
    told : (r : Result Pcf PcfRefusal) → decoded octets ≡ r → length octets ≡ pcf_length → Reads (judgement_of r) stream given
    told (Ok p) d size =
        longest_before stream stream [] (given ++ p ∷ []) (sym (append-nil stream))
        (rw cut (spells_more front octets given p s (is_spelling.read octets p d))) (omega arith)
    told (Err e) d size = (octets, longest_refused stream front octets given e cut s (size, d), (size, d))

-- a piece carries the reading on
pub feeds : (r : Reading) (piece stream : List ℕ) (given : List Pcf) → Reads r stream given → Reads (fed r piece) (stream ++ taken_of r piece) given
feeds (holding held) piece stream given (l, short) =
    let octets = held ++ take (pcf_length - length held) piece in
    judged (stream ++ take (pcf_length - length held) piece) l.front octets given
    (rw l.cut (append_assoc l.front held (take (pcf_length - length held) piece)))
    l.spells
    (omega (arith, length-append held (take (pcf_length - length held) piece), length-take (pcf_length - length held) piece))
feeds (waiting p) piece stream given l = rw append-nil l
feeds (refused e) piece stream given l = rw append-nil l

pub starts : Reads (holding []) [] []
starts = (longest_before [] [] [] [] refl refl (omega arith), omega arith)
