-- The answer for the frames of a file, frame by frame.
use Rattle.{pcf_codec.specs.Decoding.decoded, std.{proofs.lemmas.List.append-nil, specs.Io.KnownBytes.Appends}, tte_io.specs.Faults.next_count}
use Rattle.{pcf_codec.specs.declared.refusal.PcfRefusal.PcfRefusal, tte_forms.specs.Putting.{PutsLines, Shown}, tte_units.specs.declared.frames.pcf.Pcf.Pcf}
use Rattle.std.proofs.Common.{◌++◌, ◌+◌, ◌-◌, ◌<◌, ◌∙◌, ◌∷◌, ◌≡◌, ◌≤◌, Err, List, Ok, [], ap, append_assoc, arith, inl, inr, refl, suc, sym}
use Rattle.{std.proofs.Common.{zero, ℕ}, tte_io.specs.Told.AppendsFront}
use Rattle.tte_forms.proofs.Puts.{Ends-gives, PutsLines-append, PutsLines-fails, PutsLines-more, PutsSome-behind}
use Rattle.tte_forms.proofs.Puts.{WriteFails-behind}
use Rattle.tte_forms.specs.{Answering.{Answer, Ends, Gives}, declared.status.Status.Status, frames.FrameLine.{frame_line, refusal_line}}
use Rattle.tte_forms.specs.{declared.status.Status.TheVariants.{Done, FrameRefused, WriteFault}, frames.Answer.{frame_at, frames_answer, judgement_of}}

-- an answer behind some lines
abbrev pub behind : List (List ℕ) → Answer → Answer
behind lines a = record { status = a.status; lines = lines ++ a.lines }

pub next_frame : (k n : ℕ) (octets : List ℕ) → k < n → frames_answer k (n - k) octets ≡ judgement_of (k + 1) (decoded (frame_at k octets))
    (frames_answer (k + 1) (n - (k + 1)) octets)
unfolding frames_answer
next_frame k n octets h = let more : n - k ≡ suc (n - (k + 1)) = omega arith in rw more refl

pub no_frame : (k : ℕ) (octets : List ℕ) (n : ℕ) → n ≡ 0 → frames_answer k n octets ≡ record { status = Done; lines = [] }
unfolding frames_answer
no_frame k octets zero e = refl
no_frame k octets (suc n) e = absurd (omega arith)

-- the lines of the first k of n frames were put, and the rest of the answer is still to come
pub record IsShown (n k : ℕ) (octets : List ℕ) (old now : Shown) : Type 0 where
  pub done : List (List ℕ)
  pub puts : PutsLines done old now
  pub rest : frames_answer 0 n octets ≡ behind done (frames_answer k (n - k) octets)

pub IsShown-more : {n k : ℕ} {octets : List ℕ} (p : Pcf) {old now : Shown} (new : Shown) → IsShown n k octets old now
    → k < n → decoded (frame_at k octets) ≡ Ok p → Appends now.written new.written (frame_line (k + 1) p)
    → new.puts ≡ next_count now.puts → IsShown n (k + 1) octets old new
IsShown-more {n} {k} {octets} p new s lt d w c = record {
  done = s.done ++ frame_line (k + 1) p ∷ [];
  puts = PutsLines-more (frame_line (k + 1) p) new s.puts w c;
  rest =
      s.rest
      ∙ ap (behind s.done) (next_frame k n octets lt ∙ ap (λ r. judgement_of (k + 1) r (frames_answer (k + 1) (n - (k + 1)) octets))
      d)
      ∙ sym (rw (append_assoc s.done (frame_line (k + 1) p ∷ []) (frames_answer (k + 1) (n - (k + 1)) octets).lines));
}

-- all frames were shown
pub IsShown-all : {n k : ℕ} {octets : List ℕ} (status : Status) {old now : Shown} (new : Shown)
    → IsShown n k octets old now → n ≤ k → Ends Done status now new → Gives (frames_answer 0 n octets) status old new
IsShown-all {n} {k} {octets} status {old} new s le ends =
    let whole =
    s.rest ∙ ap (behind s.done) (no_frame k octets (n - k) (omega arith)) ∙ (rw (append-nil s.done)) in
    rw whole (Ends-gives Done status new s.puts ends)

-- the put of a frame's line failed
pub IsShown-fails : {n k : ℕ} {octets : List ℕ} (p : Pcf) {old now : Shown} (new : Shown)
    → IsShown n k octets old now → k < n → decoded (frame_at k octets) ≡ Ok p
    → AppendsFront now.written new.written (frame_line (k + 1) p) → new.puts ≡ next_count now.puts
    → Gives (frames_answer 0 n octets) WriteFault old new
IsShown-fails {n} {k} {octets} p {old} new s lt d w c =
    let rest = frames_answer (k + 1) (n - (k + 1)) octets in
    let whole =
    s.rest ∙ ap (behind s.done) (next_frame k n octets lt ∙ ap (λ r. judgement_of (k + 1) r rest) d) in
    rw whole (inr (inl (refl, inl (PutsLines-fails (frame_line (k + 1) p) rest.lines new s.puts w c))))

-- an answer's lines behind those that were put
pub Gives-behind : {lines : List (List ℕ)} (a : Answer) (status : Status) {old now new : Shown}
    → PutsLines lines old now → Gives a status now new → Gives (behind lines a) status old new
Gives-behind a status p (inl g) = inl (g.0, PutsLines-append p g.1, g.2)
Gives-behind a status {new} p (inr (inl g)) = inr (inl (g.0, WriteFails-behind a.lines new p g.1))
Gives-behind a status {new} p (inr (inr g)) = inr (inr (g.0, PutsSome-behind a.lines new p g.1))

-- a frame is refused
pub IsShown-refused : {n k : ℕ} {octets : List ℕ} (e : PcfRefusal) (status : Status) {old now new : Shown}
    → IsShown n k octets old now → k < n → decoded (frame_at k octets) ≡ Err e
    → Gives (record { status = FrameRefused; lines = refusal_line (k + 1) e ∷ [] }) status now new
    → Gives (frames_answer 0 n octets) status old new
IsShown-refused {n} {k} {octets} e status {old} {new} s lt d g =
    let rest = frames_answer (k + 1) (n - (k + 1)) octets in
    let whole =
    s.rest ∙ ap (behind s.done) (next_frame k n octets lt ∙ (rw d)) in
    rw whole (Gives-behind _ status s.puts g)
