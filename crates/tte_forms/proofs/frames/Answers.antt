-- The answer of `show` for a source, and for a file that spells a sequence of frames.
use Rattle.pcf_codec.{proofs.Spellings.spelt_read, specs.{Decoding.decoded, Spelling.pcf_length}}
use Rattle.tte_forms.{specs.Putting.Shown}
use Rattle.tte_forms.proofs.{Octets.{for_read, for_too_many}, Puts.{Ends-gives, PutsLines-none}}
use Rattle.tte_forms.proofs.{frames.Frames.{behind, no_frame}}
use Rattle.tte_units.specs.declared.frames.pcf.Pcf.{Pcf}
use Rattle.{pcf_codec.{proofs.Sequences.length-spelling, specs.Sequence.{IsLongestFront, SpellsAll}}, std.proofs.Common.{refl, suc, sym, take, ℕ}}
use Rattle.{pcf_codec.specs.declared.refusal.PcfRefusal.PcfRefusal, std.proofs.lemmas.{Bool.{le-ltb, lt-ltb}, List.{append-nil, drop-drop, nil_from_length}}}
use Rattle.std.proofs.Common.{◌*◌, ◌++◌, ◌+◌, ◌-◌, ◌<◌, ◌∙◌, ◌∷◌, ◌≡◌, ◌≢◌, ◌≤◌, Err, List, [], ap, append_assoc, arith, drop, length, length-append}
use Rattle.{std.{proofs.Math.Seq.{drop-append_seam, take-append_seam}, specs.Prelude.{IfSome, Option}}, tte_forms.specs.frames.Law.{ShowsFrames, frame_lines}}
use Rattle.tte_forms.specs.{Answering.{Answers, Ends, Gives, with_line}, declared.status.Status.{Status, TheVariants.{Done, FrameRefused, TooLong}}}
use Rattle.tte_forms.specs.frames.{Answer.{file_limit, frame_at, frame_count, frames_answer, judgement_of, show_answer}, FrameLine.{frame_line, refusal_line}}

pub show_answer-fits : (octets : List ℕ) → length octets ≤ file_limit → show_answer octets ≡ frames_answer 0 (frame_count octets) octets
unfolding show_answer
show_answer-fits octets short = rw (le-ltb file_limit (length octets) short) refl

pub show_answer-long : (octets : List ℕ) → file_limit < length octets → show_answer octets ≡ record { status = TooLong; lines = [] }
unfolding show_answer
show_answer-long octets long = rw (lt-ltb file_limit (length octets) long) refl

pub answers-read : (left : Option (List ℕ)) (octets : List ℕ) (status : Status) (old new : Shown) → IfSome left (λ all. octets ≡ all)
    → length octets ≤ file_limit → Gives (frames_answer 0 (frame_count octets) octets) status old new → Answers show_answer left status old new
answers-read left octets status old new all short g =
    for_read left octets (λ xs. Gives (show_answer xs) status old new) all
    (rw (show_answer-fits octets short) g)

pub answers-long : (left : Option (List ℕ)) (status : Status) (old new : Shown) → IfSome left (λ all. file_limit < length all) → Ends TooLong status old new
    → Answers show_answer left status old new
answers-long left status old new long ends =
    for_too_many file_limit left (λ xs. Gives (show_answer xs) status old new) long
    (λ xs many. rw (show_answer-long xs many) (Ends-gives TooLong status new (PutsLines-none old) ends))

frames_answer-next : (k n : ℕ) (octets : List ℕ) → frames_answer k (suc n) octets ≡ judgement_of (k + 1) (decoded (frame_at k octets))
    (frames_answer (k + 1) n octets)
unfolding frames_answer
frames_answer-next k n octets = refl

-- a frame at the front
take-front : (first others : List ℕ) → length first ≡ pcf_length → take pcf_length (first ++ others) ≡ first
take-front first others size = rw size at (take-append_seam first others)

drop-front : (n : ℕ) (first others : List ℕ) → length first ≡ n → drop n (first ++ others) ≡ others
drop-front n first others size = rw size at (drop-append_seam first others)

-- frames that are spelt one after another have their lines
frames-spelt : (ps : List Pcf) (k m : ℕ) (octets front rest : List ℕ) → drop (k * pcf_length) octets ≡ front ++ rest → SpellsAll front ps
    → frames_answer k (length ps + m) octets ≡ behind (frame_lines (k + 1) ps) (frames_answer (k + length ps) m octets)
frames-spelt [] k m octets front rest cut s =
    let same : 0 + m ≡ m = omega arith in
    let here : k + 0 ≡ k = omega arith in
    rw (same, here) refl
frames-spelt (p ∷ ps) k m octets front rest cut (first, others, join, one, all) =
    let there = cut ∙ (rw join (append_assoc first others rest)) in
    let frame : frame_at k octets ≡ first = ap (take pcf_length) there ∙ take-front first (others ++ rest) one.size in
    let next : drop ((k + 1) * pcf_length) octets ≡ others ++ rest =
    ap (λ n. drop n octets) (omega arith) ∙ sym (drop-drop pcf_length (k * pcf_length) octets) ∙ ap (drop pcf_length)
    there ∙ drop-front pcf_length first
    (others ++ rest) one.size in
    let more = frames-spelt ps (k + 1) m octets others rest next all in
    let count : length (p ∷ ps) + m ≡ suc (length ps + m) = omega arith in
    let behind_it : k + 1 + length ps ≡ k + length (p ∷ ps) = omega arith in
    ap (λ n. frames_answer k n octets) count
    ∙ frames_answer-next k (length ps + m) octets
    ∙ (rw (ap decoded frame ∙ spelt_read first p one)
    (ap (with_line (frame_line (k + 1) p)) (more ∙ (rw behind_it))))

whole : (octets : List ℕ) (ps : List Pcf) → length octets ≤ file_limit → SpellsAll octets ps
    → show_answer octets ≡ record { status = Done; lines = frame_lines 1 ps }
whole octets ps short s =
    let size = length-spelling octets ps s in
    let count : frame_count octets ≡ length ps + 0 = omega arith in
    show_answer-fits octets short
    ∙ ap (λ n. frames_answer 0 n octets) count
    ∙ frames-spelt ps 0 0 octets octets [] (sym (append-nil octets)) s
    ∙ ap (behind (frame_lines 1 ps)) (no_frame (0 + length ps) octets 0 refl)
    ∙ (rw (append-nil (frame_lines 1 ps)))

refused : (octets rest : List ℕ) (ps : List Pcf) (e : PcfRefusal) → length octets ≤ file_limit → IsLongestFront octets ps rest
    → decoded (take pcf_length rest) ≡ Err e → (rest ≡ [] → ⊥)
    → show_answer octets ≡ record { status = FrameRefused; lines = frame_lines 1 ps ++ refusal_line (length ps + 1) e ∷ [] }
refused octets rest ps e short l bad some =
    let size = length-spelling l.front ps l.spells in
    let left : length rest ≢ 0 = λ z. some (nil_from_length rest z) in
    let all : length octets ≡ 60 * length ps + length rest = omega (arith, ap length l.cut, length-append l.front rest) in
    let count : frame_count octets ≡ length ps + suc (frame_count octets - length ps - 1) = omega arith in
    let there : drop ((0 + length ps) * pcf_length) octets ≡ rest =
    ap (drop ((0 + length ps) * pcf_length)) l.cut ∙ drop-front ((0 + length ps) * pcf_length) l.front rest (omega arith) in
    let read : decoded (frame_at (0 + length ps) octets) ≡ Err e =
    ap (λ xs. decoded (take pcf_length xs)) there ∙ bad in
    let others = frames_answer (0 + length ps + 1) (frame_count octets - length ps - 1) octets in
    let number : 0 + length ps + 1 ≡ length ps + 1 = omega arith in
    show_answer-fits octets short
    ∙ ap (λ n. frames_answer 0 n octets) count
    ∙ frames-spelt ps 0 (suc (frame_count octets - length ps - 1)) octets l.front rest l.cut l.spells
    ∙ ap (behind (frame_lines 1 ps)) (frames_answer-next (0 + length ps) (frame_count octets - length ps - 1) octets
    ∙ ap (λ r. judgement_of (0 + length ps + 1) r others) read)
    ∙ ap (λ n. record { status = FrameRefused; lines = frame_lines 1 ps ++ refusal_line n e ∷ [] }) number

pub shows_frames : ShowsFrames
shows_frames = record { whole = whole; refused = refused }
