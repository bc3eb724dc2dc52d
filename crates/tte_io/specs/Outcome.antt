-- What comes of the octets to come, where a source tells them.
use Rattle.std.specs.Prelude.{◌++◌, ◌<◌, ◌∷◌, ◌≡◌, ◌≢◌, ◌≤◌, Bool, Err, List, None, Ok, Option, Result, Some, [], false}
use Rattle.std.specs.Prelude.{length, ℕ, ⊤}
use Rattle.tte_io.specs.Line.{behind_line, first_line, lf, line_limit}
use Rattle.tte_io.specs.{ReaderState.{LineReaderState, pending, to_come}, declared.lines.LineTaken.LineTaken}
use Rattle.tte_io.specs.declared.lines.LineTaken.TheVariants as taken

-- what comes of the octets to come: from those before the call, by its answer, to those after it; a line that is taken
-- has its LF, unless the end of the source was found
abbrev pub Outcome : {E : Type 0} → List ℕ → Result LineTaken E → LineReaderState → List ℕ → Type 0
Outcome octets (Ok taken.Whole) after rest =
    (octets ≢ []) × (length (first_line octets) ≤ line_limit) × (after.text ≡ Some (first_line octets))
    × (rest ≡ behind_line octets) × (after.ended ≡ false → octets ≡ first_line octets ++ lf ∷ rest)
Outcome octets (Ok taken.End) after rest = (octets ≡ []) × (rest ≡ [])
Outcome octets (Ok taken.Long) after rest = (line_limit < length (first_line octets)) × (rest ≡ octets)
Outcome octets (Err _) after rest = rest ≡ octets

-- what comes of the octets to come, where the source tells its octets
abbrev pub TellsOutcome : {E : Type 0} → List ℕ → Bool → Option (List ℕ) → LineReaderState → Option (List ℕ)
    → Result LineTaken E → Type 0
TellsOutcome before had_ended None after left_after result = ⊤
TellsOutcome before had_ended (Some left) after None result = ⊥
TellsOutcome before had_ended (Some left) after (Some rest) result =
    Outcome (to_come before had_ended left) result after (to_come (pending after) after.ended rest)
