-- The answer of `capture` for its source, packet by packet, and the lines of its packets.
use Rattle.std.{specs.{Fmt.decimal, Io.KnownBytes.Appends, Prelude.{◌==◌, IfSome, None, Option, Some, codes, nat_le}}}
use Rattle.std.proofs.{lemmas.{Bool.{Decides.nat_tests, and_parts, cases_lt, le-ltb, lt-ltb}, List.append-nil}}
use Rattle.std.proofs.Common
use Common.{◌*◌, ◌++◌, ◌+◌, ◌-◌, ◌<◌, ◌∙◌, ◌∷◌, ◌≡◌, ◌≤◌, Bool, Err, List, Ok, Result, [], ap, append_assoc, arith}
use Common.{false, inl, inr, length, refl, subst, suc, sym, true, zero, ℕ}
use Rattle.pcf_codec.{proofs.Spellings.is_spelling}
use Rattle.pcf_codec.specs.{Decoding.decoded, EtherType.{HasPcfType, pcf_type}, Fields.field}
use Rattle.pcf_codec.specs.{declared.refusal.PcfRefusal.PcfRefusal}
use Rattle.tte_forms.proofs.{Octets.{for_read, for_too_many}}
use Rattle.tte_forms.proofs.{Puts.{Ends-gives, PutsLines-fails, PutsLines-more, PutsLines-none}}
use Rattle.tte_forms.proofs.{frames.Frames.{Gives-behind, behind}}
use Rattle.tte_forms.specs.{Answering.{Answer, Answers, Ends, Gives, line_answer, with_line}}
use Rattle.tte_forms.specs.{Putting.{PutsLines, Shown}}
use Rattle.tte_forms.specs.{declared.status.Status.{Status, TheVariants.{CaptureRefused, Done, TooLong, WriteFault}}}
use Rattle.tte_forms.specs.{frames.FrameLine.refusal_text}
use Rattle.tte_io.specs.{Faults.next_count, Told.AppendsFront}
use Rattle.tte_observers.proofs.captures_lemmas.pcap_lemmas.{Heads.{finds_head, opened_short}}
use Rattle.tte_observers.proofs.captures_lemmas.pcap_lemmas.{Packets.{finds_packets, packet_stands}}
use Rattle.tte_observers.specs.captures.Answer.{capture_answer, capture_limit, found_answer, opened_answer}
use Rattle.tte_observers.specs.captures.Answer.{packets_answer}
use Rattle.tte_observers.specs.captures.CaptureLine
use CaptureLine.{has_pcf_type, head_refusal_line, no_frame_words, packet_line, packet_refusal_line, words_of}
use Rattle.tte_observers.specs.captures.Law
use Law.{HasPackets, IsFile, IsJudged, ShowsOctets, ShowsPackets, StandFrom, packet_lines, refused_behind, whole_answer}
use Rattle.tte_observers.specs.captures.pcap.{Layout.{IsHead, IsPacket, head_length, stamp_length}}
use Rattle.tte_observers.specs.captures.pcap.{Reading.{opened, packet_at}, ReadingLaw.{HasHeadFault, HasPacketFault}}
use Rattle.tte_observers.specs.declared.captures.pcap.{capture.{CaptureHead.CaptureHead, Packet.Packet}}
use Rattle.tte_observers.specs.declared.captures.pcap.{refusal.CaptureRefusal.CaptureRefusal}
use Rattle.tte_units.specs.declared.frames.pcf.Pcf.{Pcf}
use Rattle.tte_observers.specs.declared.captures.pcap.refusal.CaptureRefusal.TheVariants as reasons

-- ---- the answer of `capture` for a source

-- a header has its length
pub head_whole : (file : List ℕ) (head : CaptureHead) → opened file ≡ Ok head → head_length ≤ length file
head_whole file head is = elim (cases_lt (length file) head_length) [
  | inl short ↦ let refused = opened_short file short in let no : ⊥ = cc in absurd no
  | inr size ↦ size
]

pub capture_answer-fits : (file : List ℕ) → length file ≤ capture_limit → capture_answer file ≡ opened_answer file (opened file)
unfolding capture_answer
capture_answer-fits file short = rw (le-ltb capture_limit (length file) short) refl

capture_answer-long : (file : List ℕ) → capture_limit < length file → capture_answer file ≡ record { status = TooLong; lines = [] }
unfolding capture_answer
capture_answer-long file long = rw (lt-ltb capture_limit (length file) long) refl

pub answers-read : (left : Option (List ℕ)) (file : List ℕ) (status : Status) {old new : Shown}
    → IfSome left (λ all. file ≡ all) → length file ≤ capture_limit
    → Gives (opened_answer file (opened file)) status old new → Answers capture_answer left status old new
answers-read left file status {old} {new} all short g =
    for_read left file (λ xs. Gives (capture_answer xs) status old new) all
    (subst (λ a. Gives a status old new) (sym (capture_answer-fits file short)) g)

pub answers-long : (left : Option (List ℕ)) (status : Status) (old new : Shown) → IfSome left (λ all. capture_limit < length all)
    → Ends TooLong status old new → Answers capture_answer left status old new
answers-long left status old new long ends =
    for_too_many capture_limit left (λ xs. Gives (capture_answer xs) status old new) long
    (λ xs many. subst (λ a. Gives a status old new) (sym (capture_answer-long xs many))
    (Ends-gives TooLong status new (PutsLines-none old) ends))

-- ---- the answer for the packets of a capture, packet by packet

-- the answer behind a packet, from a place on
abbrev pub answer_behind : ℕ → ℕ → CaptureHead → List ℕ → ℕ → Answer
answer_behind n k head file to = packets_answer n (k + 1) head file to

pub packets_next : (n k : ℕ) (head : CaptureHead) (file : List ℕ) (at : ℕ)
    → packets_answer (suc n) k head file at ≡ found_answer k file (packet_at head file at)
    (answer_behind n k head file)
unfolding packets_answer
packets_next n k head file at = refl

-- the lines of the packets before a place were put, and the answer from it on is still to come
pub record IsShown (k : ℕ) (head : CaptureHead) (file : List ℕ) (at : ℕ) (old now : Shown) : Type 0 where
  pub done : List (List ℕ)
  pub puts : PutsLines done old now
  pub turns : ℕ
  pub enough : length file < at + turns
  pub rest : packets_answer (length file) 1 head file head_length ≡ behind done (packets_answer turns k head file at)

pub IsShown-none : (head : CaptureHead) (file : List ℕ) (s : Shown) → IsShown 1 head file head_length s s
IsShown-none head file s =
    record { done = []; puts = PutsLines-none s; turns = length file; enough = omega arith; rest = refl }

module _ (k : ℕ) (head : CaptureHead) (file : List ℕ) where
  -- what stands at a place decides the answer from it on
  decided : (at : ℕ) (old now : Shown) (r : Result (Option Packet) CaptureRefusal)
      (s : IsShown k head file at old now) → at ≤ length file → packet_at head file at ≡ r
      → packets_answer (length file) 1 head file head_length
      ≡ behind s.done (found_answer k file r (answer_behind (s.turns - 1) k head file))
  decided at old now r s within is =
      let more : s.turns ≡ suc (s.turns - 1) = omega (arith, s.enough, within) in
      s.rest
      ∙ ap (behind s.done) (ap (λ n. packets_answer n k head file at) more
      ∙ packets_next (s.turns - 1) k head file at
      ∙ ap (λ x. found_answer k file x
      (answer_behind (s.turns - 1) k head file)) is)

  pub IsShown-more : (at : ℕ) (p : Packet) (old now new : Shown) → IsShown k head file at old now → at ≤ length file
      → at + stamp_length ≤ p.to → packet_at head file at ≡ Ok (Some p)
      → Appends now.written new.written (packet_line k file p) → new.puts ≡ next_count now.puts
      → IsShown (k + 1) head file p.to old new
  IsShown-more at p old now new s within further is w c =
      let others = packets_answer (s.turns - 1) (k + 1) head file p.to in record {
        done = s.done ++ packet_line k file p ∷ [];
        puts = PutsLines-more (packet_line k file p) new s.puts w c;
        turns = s.turns - 1;
        enough = omega (arith, s.enough, within, further);
        rest =
            decided at old now (Ok (Some p)) s within is
            ∙ sym (ap (λ (ls : List (List ℕ)). record { status = others.status; lines = ls })
            (append_assoc s.done (packet_line k file p ∷ []) others.lines));
      }

  -- all packets were shown
  pub IsShown-all : (at : ℕ) (status : Status) (old now new : Shown) → IsShown k head file at old now
      → at ≤ length file → packet_at head file at ≡ Ok None → Ends Done status now new
      → Gives (packets_answer (length file) 1 head file head_length) status old new
  IsShown-all at status old now new s within is ends =
      let whole : packets_answer (length file) 1 head file head_length ≡ record { status = Done; lines = s.done } =
      decided at old now (Ok None) s within is
      ∙ ap (λ (ls : List (List ℕ)). record { status = Done; lines = ls }) (append-nil s.done) in
      subst (λ a. Gives a status old new) (sym whole) (Ends-gives Done status new s.puts ends)

  -- the put of a packet's line failed
  pub IsShown-fails : (at : ℕ) (p : Packet) (old now new : Shown) → IsShown k head file at old now → at ≤ length file
      → packet_at head file at ≡ Ok (Some p) → AppendsFront now.written new.written (packet_line k file p)
      → new.puts ≡ next_count now.puts
      → Gives (packets_answer (length file) 1 head file head_length) WriteFault old new
  IsShown-fails at p old now new s within is w c =
      let others = packets_answer (s.turns - 1) (k + 1) head file p.to in
      let fails = PutsLines-fails (packet_line k file p) others.lines new s.puts w c in
      subst (λ a. Gives a WriteFault old new)
      (sym (decided at old now (Ok (Some p)) s within is)) (inr (inl (refl, inl fails)))

  -- a packet is refused
  pub IsShown-refused : (at : ℕ) (e : CaptureRefusal) (status : Status) (old : Shown) {now new : Shown}
      → IsShown k head file at old now → at ≤ length file → packet_at head file at ≡ Err e
      → Gives (line_answer CaptureRefused (packet_refusal_line k e)) status now new
      → Gives (packets_answer (length file) 1 head file head_length) status old new
  IsShown-refused at e status old {now} {new} s within is g =
      subst (λ a. Gives a status old new) (sym (decided at old now (Err e) s within is))
      (Gives-behind (line_answer CaptureRefused (packet_refusal_line k e)) status s.puts g)

-- ---- the packets that stand in a file have their lines: octets

module _ (octets : List ℕ) where
  pub has_type : HasPcfType octets → has_pcf_type octets ≡ true
  has_type (size, is) =
      let long : nat_le 14 (length octets) ≡ true = grind (arith, nat_tests, size) in
      let same : (field 12 2 octets == pcf_type) ≡ true = grind (arith, nat_tests, is) in
      rw (long, same) refl

  told_type : (b : Bool) → has_pcf_type octets ≡ b → (HasPcfType octets → ⊥) → has_pcf_type octets ≡ false
  told_type false e other = e
  told_type true e other =
      let parts = and_parts (nat_le 14 (length octets)) (field 12 2 octets == pcf_type) e in
      absurd (other (grind (arith, nat_tests, parts.0), grind (arith, nat_tests, parts.1)))

  pub has_other_type : (HasPcfType octets → ⊥) → has_pcf_type octets ≡ false
  has_other_type other = told_type (has_pcf_type octets) refl other

  other_words : (r : Result Pcf PcfRefusal) → decoded octets ≡ r → (HasPcfType octets → ⊥)
      → words_of octets r ≡ codes "other " ++ decimal (length octets)
  other_words (Ok p) is other =
      let s = is_spelling.read octets p is in absurd (other (omega (arith, s.size), s.ethertype))
  other_words (Err e) is other = rw (has_other_type other) refl

  refused_words : (e : PcfRefusal) → HasPcfType octets → no_frame_words octets e ≡ codes "refused " ++ refusal_text e
  refused_words e type = rw (has_type type) refl

pub shows_octets : ShowsOctets
shows_octets = record {
  control = λ octets p s. ap (words_of octets) (is_spelling.spelt octets p s);
  refused = λ octets e type first. ap (words_of octets) (is_spelling.refused octets e first)
      ∙ refused_words octets e type;
  other = λ octets other. other_words octets (decoded octets) refl other;
}

-- ---- packets

-- packets that stand one behind another need room
takes_room : (head : CaptureHead) (file : List ℕ) (at : ℕ) (ps : List Packet) (to : ℕ) → StandFrom head file at ps to → at + 16 * length ps ≤ to
takes_room head file at [] to s = omega (arith, s)
takes_room head file at (p ∷ ps) to (i, s) = omega (arith, i.from, i.to, takes_room head file p.to ps to s)

-- packets that stand one behind another have their lines
packets_shown : (ps : List Packet) (n k : ℕ) (head : CaptureHead) (file : List ℕ) (at to : ℕ) → StandFrom head file at ps to
    → packets_answer (length ps + n) k head file at ≡ behind (packet_lines k file ps)
    (packets_answer n (k + length ps) head file to)
packets_shown [] n k head file at to s =
    let same : 0 + n ≡ n = omega arith in
    let here : k + 0 ≡ k = omega arith in
    rw (same, here, s) refl
packets_shown (p ∷ ps) n k head file at to (i, s) =
    let count : length (p ∷ ps) + n ≡ suc (length ps + n) = omega arith in
    let behind_it : k + 1 + length ps ≡ k + length (p ∷ ps) = omega arith in
    ap (λ m. packets_answer m k head file at) count
    ∙ packets_next (length ps + n) k head file at
    ∙ ap (λ r. found_answer k file r
    (answer_behind (length ps + n) k head file)) (packet_stands head file at p i)
    ∙ ap (with_line (packet_line k file p)) (packets_shown ps n (k + 1) head file p.to to s
    ∙ ap (λ m. behind (packet_lines (k + 1) file ps) (packets_answer n m head file to)) behind_it)

-- the answer for a file with a header, and packets up to a place
shown_up_to : {file : List ℕ} {head : CaptureHead} (ps : List Packet) (at : ℕ)
    (r : Result (Option Packet) CaptureRefusal) → IsFile file → IsHead file head
    → StandFrom head file head_length ps at → at ≤ length file → packet_at head file at ≡ r
    → capture_answer file ≡ behind (packet_lines 1 file ps)
    (found_answer (1 + length ps) file r (answer_behind (length file - length ps - 1) (1 + length ps) head file))
shown_up_to {file} {head} ps at r f h s within is =
    let room = takes_room head file head_length ps at s in
    let count : length file ≡ length ps + suc (length file - length ps - 1) = omega (arith, room, within) in
    capture_answer-fits file f.short
    ∙ ap (opened_answer file) ((finds_head.found file head f.octets).1 h)
    ∙ ap (λ m. packets_answer m 1 head file head_length) count
    ∙ packets_shown ps (suc (length file - length ps - 1)) 1 head file head_length at s
    ∙ ap (behind (packet_lines 1 file ps)) (packets_next (length file - length ps - 1) (1 + length ps) head file at
    ∙ ap (λ x. found_answer (1 + length ps) file x
    (answer_behind (length file - length ps - 1) (1 + length ps) head file)) is)

unopened : (file : List ℕ) (e : CaptureRefusal) → IsFile file → HasHeadFault file e → capture_answer file ≡ line_answer CaptureRefused (head_refusal_line e)
unopened file e f h = capture_answer-fits file f.short
    ∙ ap (opened_answer file) ((finds_head.refused file e f.octets).1 h)

whole : (file : List ℕ) (head : CaptureHead) (ps : List Packet) → IsFile file → IsHead file head
    → StandFrom head file head_length ps (length file) → capture_answer file ≡ whole_answer file ps
whole file head ps f h s =
    let within : length file ≤ length file = omega arith in
    shown_up_to ps (length file) (Ok None) f h s within ((finds_packets.ended head file (length file) within).1 refl)
    ∙ ap (λ (ls : List (List ℕ)). record { status = Done; lines = ls }) (append-nil (packet_lines 1 file ps))

-- a fault stands within the file
fault_within : (head : CaptureHead) (file : List ℕ) (at : ℕ) (e : CaptureRefusal) → HasPacketFault head file at e → at ≤ length file
fault_within head file at (reasons.PacketLength n) (stamp, is, long) = omega (arith, stamp)
fault_within head file at reasons.Cut (inl (more, short)) = omega (arith, more)
fault_within head file at reasons.Cut (inr (small, stamp, short)) = omega (arith, stamp)
fault_within head file at (reasons.Header n) h = absurd h
fault_within head file at reasons.Magic h = absurd h
fault_within head file at reasons.Version h = absurd h
fault_within head file at reasons.LinkType h = absurd h

refused : (file : List ℕ) (head : CaptureHead) (ps : List Packet) (at : ℕ) (e : CaptureRefusal) → IsFile file → IsHead file head
    → StandFrom head file head_length ps at → HasPacketFault head file at e → capture_answer file ≡ refused_behind file ps e
refused file head ps at e f h s bad =
    let within = fault_within head file at e bad in
    let number : 1 + length ps ≡ length ps + 1 = omega arith in
    let line_behind : List Packet → List ℕ → Answer = λ qs line. record { status = CaptureRefused; lines = packet_lines 1 file qs ++ line ∷ [] } in
    shown_up_to {file = file} {head = head} ps at (Err e) f h s within
    ((finds_packets.refused head file at e within).1 bad)
    ∙ ap (λ n. line_behind ps (packet_refusal_line n e)) number

-- ---- each file is judged

-- one more packet in front
one_more : (head : CaptureHead) (file : List ℕ) (at : ℕ) (p : Packet) → IsPacket head file at p → HasPackets head file p.to → HasPackets head file at
one_more head file at p i (ps, inl s) = (p ∷ ps, inl (i, s))
one_more head file at p i (ps, inr (behind, e, s, bad)) = (p ∷ ps, inr (behind, e, (i, s), bad))

packets_by : (turns : ℕ) (head : CaptureHead) (file : List ℕ) (at : ℕ) (r : Result (Option Packet) CaptureRefusal) → at ≤ length file
    → length file < at + turns → packet_at head file at ≡ r → HasPackets head file at
packets_by zero head file at r within few is = absurd (omega (arith, within, few))
packets_by (suc n) head file at (Ok None) within few is = ([], inl ((finds_packets.ended head file at within).0 is))
packets_by (suc n) head file at (Ok (Some p)) within few is =
    let i = (finds_packets.found head file at p within).0 is in
    let fewer : length file < p.to + n = omega (arith, i.from, i.to, few) in
    one_more head file at p i (packets_by n head file p.to (packet_at head file p.to) i.whole fewer refl)
packets_by (suc n) head file at (Err e) within few is = ([], inr (at, e, refl, (finds_packets.refused head file at e within).0 is))

judged_by : {file : List ℕ} (r : Result CaptureHead CaptureRefusal) → IsFile file → opened file ≡ r → IsJudged file
judged_by {file} (Ok head) f is =
    let h = (finds_head.found file head f.octets).0 is in
    let few : length file < head_length + length file = omega arith in
    inr (head, h, packets_by (length file) head file head_length (packet_at head file head_length) h.size few refl)
judged_by {file} (Err e) f is = inl (e, (finds_head.refused file e f.octets).0 is)

pub shows_packets : ShowsPackets
shows_packets =
    record { each = λ file f. judged_by (opened file) f refl; unopened = unopened; whole = whole; refused = refused }
