-- A reader of the frames of a stream that comes in pieces.
use Rattle.std.specs.Prelude.{if◌then◌else◌, ◌++◌, ◌-◌, ◌∷◌, ◌≡◌, Err, List, None, Ok, Option, Result, Some, [], length}
use Rattle.std.specs.Prelude.{nat_lt, take, ℕ}
use Rattle.tte_units.specs.declared.frames.pcf.Pcf.{Pcf}
use Rattle.pcf_codec.specs.{Decoding.decoded, Sequence.{IsLongestFront, IsRefusedFrame, IsUnfinished}}
use Rattle.pcf_codec.specs.{Spelling.pcf_length, declared.refusal.PcfRefusal.{PcfRefusal, TheVariants.Length}}

-- what a reader stands at: octets of an unfinished frame, maybe none; a whole frame; a refusal
pub data Reading : Type 0 where
  holding : List ℕ → Reading
  waiting : Pcf → Reading
  refused : PcfRefusal → Reading

-- the octets of a piece that the reader takes: those up to the end of the frame
abbrev pub taken_of : Reading → List ℕ → List ℕ
taken_of (holding held) piece = take (pcf_length - length held) piece
taken_of (waiting p) piece = []
taken_of (refused e) piece = []

-- where the reader stands once it has judged a whole frame
abbrev pub judgement_of : Result Pcf PcfRefusal → Reading
judgement_of (Ok p) = waiting p
judgement_of (Err e) = refused e

-- where the reader stands with these octets of a frame, of which there are at most 60
abbrev pub reading_of : List ℕ → Reading
reading_of octets = if nat_lt (length octets) pcf_length then holding octets else judgement_of (decoded octets)

-- where the reader stands after a piece
abbrev pub fed : Reading → List ℕ → Reading
fed (holding held) piece = reading_of (held ++ taken_of (holding held) piece)
fed (waiting p) piece = waiting p
fed (refused e) piece = refused e

-- the answer to a piece after which the reader stands so: the count of octets taken, or the refusal
abbrev pub Answers : Reading → ℕ → Result ℕ PcfRefusal → Type 0
Answers (holding held) count result = result ≡ Ok count
Answers (waiting p) count result = result ≡ Ok count
Answers (refused e) count result = result ≡ Err e

-- the frame that waits
abbrev pub frame_of : Reading → Option Pcf
frame_of (holding held) = None
frame_of (waiting p) = Some p
frame_of (refused e) = None

-- where the reader stands once the frame that waits was taken
abbrev pub emptied : Reading → Reading
emptied (holding held) = holding held
emptied (waiting p) = holding []
emptied (refused e) = refused e

-- what the end of the stream gives: no refusal where no frame is unfinished
abbrev pub ended : Reading → Result (Unit {0}) PcfRefusal
ended (holding []) = Ok tt
ended (holding (x ∷ held)) = Err (Length (length (x ∷ held)))
ended (waiting p) = Ok tt
ended (refused e) = Err e

-- the reader took these octets of the stream and gave these frames
abbrev pub Reads : Reading → List ℕ → List Pcf → Type 0
Reads (holding held) stream given = IsLongestFront stream given held × IsUnfinished held
Reads (waiting p) stream given = IsLongestFront stream (given ++ p ∷ []) []
Reads (refused e) stream given = (rest : List ℕ) × IsLongestFront stream given rest × IsRefusedFrame rest e
