-- What `show` answers for the octets of a file.
use Rattle.std.specs.{Fork.slice_chunk, Int.div_ceil}
use Rattle.std.specs.Prelude.{if◌then◌else◌, ◌+◌, ◌∷◌, Err, List, Ok, Result, [], length, nat_lt, suc, zero, ℕ}
use Rattle.{pcf_codec.specs.{Decoding.decoded, Spelling.pcf_length}, tte_forms.specs.Statuses.IsFileStatus}
use Rattle.{pcf_codec.specs.declared.refusal.PcfRefusal.PcfRefusal, tte_units.specs.declared.frames.pcf.Pcf.Pcf}
use Rattle.tte_forms.specs.{Answering.{Answer, with_line}, frames.FrameLine.{frame_line, refusal_line}}
use Rattle.tte_forms.specs.declared.status.Status.{Status, TheVariants.{Done, FrameRefused, TooLong}}

-- how many octets a file has at most
abbrev pub file_limit : ℕ
file_limit = 262144

-- how many frames the octets are cut into; the last one may be unfinished
abbrev pub frame_count : List ℕ → ℕ
frame_count octets = div_ceil (length octets) pcf_length

-- the octets of a frame, by how many are before it
abbrev pub frame_at : ℕ → List ℕ → List ℕ
frame_at k octets = slice_chunk octets pcf_length k

-- the line of a frame before the answer for the others, or the refusal in its place
abbrev pub judgement_of : ℕ → Result Pcf PcfRefusal → Answer → Answer
judgement_of number (Ok p) others = with_line (frame_line number p) others
judgement_of number (Err e) others = record { status = FrameRefused; lines = refusal_line number e ∷ [] }

-- the answer for the n frames that come after k
unfoldable pub frames_answer : ℕ → ℕ → List ℕ → Answer
frames_answer k zero octets = record { status = Done; lines = [] }
frames_answer k (suc n) octets = judgement_of (k + 1) (decoded (frame_at k octets)) (frames_answer (k + 1) n octets)

-- the answer for a file
unfoldable pub show_answer : List ℕ → Answer
show_answer octets =
    if nat_lt file_limit (length octets)
    then record { status = TooLong; lines = [] }
    else frames_answer 0 (frame_count octets) octets

-- the statuses of `show`
abbrev pub IsShowStatus : Status → Type 0
IsShowStatus FrameRefused = Unit {0}
IsShowStatus other = IsFileStatus other
