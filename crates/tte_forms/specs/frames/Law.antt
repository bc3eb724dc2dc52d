-- What the answer of `show` has to do with the sequence of frames that a file spells.
use Rattle.std.specs.Prelude.{◌++◌, ◌+◌, ◌∷◌, ◌≡◌, ◌≤◌, Err, List, [], length, take, ℕ}
use Rattle.{pcf_codec.specs.{Decoding.decoded, Spelling.pcf_length}, tte_units.specs.declared.frames.pcf.Pcf.Pcf}
use Rattle.pcf_codec.specs.{Sequence.{IsLongestFront, SpellsAll}, declared.refusal.PcfRefusal.PcfRefusal}
use Rattle.tte_forms.specs.{Answering.Answer, declared.status.Status.TheVariants.{Done, FrameRefused}}
use Rattle.tte_forms.specs.frames.{Answer.{file_limit, show_answer}, FrameLine.{frame_line, refusal_line}}

-- the lines of frames, numbered from k on
abbrev pub frame_lines : ℕ → List Pcf → List (List ℕ)
frame_lines k [] = []
frame_lines k (p ∷ ps) = frame_line k p ∷ frame_lines (k + 1) ps

-- the lines of the frames, and then the refusal of what stands behind them
abbrev pub refused_behind : List Pcf → PcfRefusal → Answer
refused_behind ps e = record { status = FrameRefused; lines = frame_lines 1 ps ++ refusal_line (length ps + 1) e ∷ [] }

-- a file shows the frames of the longest front that spells a sequence, and then the refusal of what stands behind it
pub record ShowsFrames : Type 0 where
  pub whole : (octets : List ℕ) (ps : List Pcf) → length octets ≤ file_limit → SpellsAll octets ps
      → show_answer octets ≡ record { status = Done; lines = frame_lines 1 ps }
  pub refused : (octets rest : List ℕ) (ps : List Pcf) (e : PcfRefusal)
      → length octets ≤ file_limit → IsLongestFront octets ps rest
      → decoded (take pcf_length rest) ≡ Err e → (rest ≡ [] → ⊥)
      → show_answer octets ≡ refused_behind ps e
