-- What a reader of lines shows of its two stores.
use Rattle.std.specs.Prelude.{Bool, Err, List, None, Ok, Result, Some, [], false, true, ℕ}
use Rattle.tte_io.specs.{ReaderState.LineReaderState, declared.lines.{LineTaken.LineTaken, Progress.Progress}}
use Rattle.tte_io.specs.declared.lines.Progress.TheVariants.{Taken, TooLong, Unfinished}
use Rattle.tte_io.specs.declared.lines.LineTaken.TheVariants as answer

-- the reader, by how far the stored line has come, by the octets ahead, and by whether the end was found
abbrev pub reader_state : Progress → List ℕ → List ℕ → Bool → LineReaderState
reader_state Unfinished line ahead ended =
    record { kept = line; ahead = ahead; text = None; long = false; ended = ended }
reader_state Taken line ahead ended =
    record { kept = []; ahead = ahead; text = Some line; long = false; ended = ended }
reader_state TooLong line ahead ended =
    record { kept = line; ahead = ahead; text = None; long = true; ended = ended }

-- how far the stored line has come, by the answer of a call
abbrev pub progress_after : {E : Type 0} → Result LineTaken E → Progress
progress_after (Ok answer.Whole) = Taken
progress_after (Ok answer.Long) = TooLong
progress_after (Ok answer.End) = Unfinished
progress_after (Err _) = Unfinished
