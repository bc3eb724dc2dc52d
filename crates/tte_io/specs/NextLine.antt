-- What taking the next line reads, gives and keeps.
use Rattle.std.specs.{Io.KnownBytes.{Consumes, IsAtEnd}, Prelude.{length, true, ℕ}}
use Rattle.std.specs.Prelude.{◌++◌, ◌∷◌, ◌≡◌, ◌≢◌, ◌≤◌, ◌⊎◌, Bool, Err, List, None, Ok, Option, Result, Some, [], false}
use Rattle.tte_io.specs.{Line.{IsLine, IsTooLong, ahead_limit, lf}, ReaderState.{LineReaderState, at_end, pending}}
use Rattle.tte_io.specs.declared.lines.LineTaken.{LineTaken}
use Rattle.tte_io.specs.declared.lines.LineTaken.TheVariants as taken

-- the line is taken: it is given with its LF, or it is what was left when the source ended
pub record TakesLine (given : List ℕ) (after : LineReaderState) (left : Option (List ℕ)) : Type 0 where
  pub text : List ℕ
  pub line : IsLine text
  pub ended : ((given ≡ text ++ lf ∷ []) × (after.ended ≡ false))
      ⊎ ((given ≡ text) × (text ≢ []) × (after.ahead ≡ []) × (after.ended ≡ true) × IsAtEnd left)
  pub reader : after
      ≡ record { kept = []; ahead = after.ahead; text = Some text; long = false; ended = after.ended }

-- the source has ended, or had ended before, and no line is unfinished
pub record FindsEnd (had_ended : Bool) (given : List ℕ) (after : LineReaderState) (left : Option (List ℕ)) : Type
    0 where
  pub none : given ≡ []
  pub reader : after ≡ at_end
  pub end : (had_ended ≡ true) ⊎ IsAtEnd left

-- the line is too long, and stays
pub record FindsTooLong (given : List ℕ) (after : LineReaderState) : Type 0 where
  pub none : given ≡ []
  pub line : IsTooLong (pending after)
  pub reader : after ≡ record { kept = after.kept; ahead = after.ahead; text = None; long = true; ended = false }

-- a read failed, and the unfinished line stays
pub record KeepsLine (given : List ℕ) (after : LineReaderState) : Type 0 where
  pub none : given ≡ []
  pub line : IsLine after.kept
  pub reader : after ≡ record { kept = after.kept; ahead = []; text = None; long = false; ended = false }

-- the answer is that the source has ended
abbrev pub IsEnd : {E : Type 0} → Result LineTaken E → Type 0
IsEnd (Ok taken.Whole) = ⊥
IsEnd (Ok taken.End) = Unit {0}
IsEnd (Ok taken.Long) = ⊥
IsEnd (Err _) = ⊥

-- what is given, by the answer
abbrev pub Answers : {E : Type 0} → Bool → Result LineTaken E → List ℕ → LineReaderState → Option (List ℕ) → Type 0
Answers had_ended (Ok taken.Whole) given after left = TakesLine given after left
Answers had_ended (Ok taken.End) given after left = FindsEnd had_ended given after left
Answers had_ended (Ok taken.Long) given after left = FindsTooLong given after
Answers had_ended (Err _) given after left = KeepsLine given after

-- one call, from what is pending, whether the end of the source had been found, and what is left before it, to the
-- reader and what is left after it
pub record NextLine {E : Type 0} (before : List ℕ) (had_ended : Bool) (left_before : Option (List ℕ))
    (after : LineReaderState) (left_after : Option (List ℕ)) (result : Result LineTaken E) : Type 0 where
  -- what the last read of the call gave, and what those before it gave
  pub earlier : List ℕ
  pub last : List ℕ
  pub consumed : Consumes left_before left_after (earlier ++ last)
  pub last_size : length last ≤ ahead_limit
  -- it reads only where the end had not been found, and all that is pending is of one unfinished line
  pub needed : earlier ++ last ≢ [] → (had_ended ≡ false) × IsLine (before ++ earlier)
  -- and where it had been found, that is the answer
  pub ends : had_ended ≡ true → IsEnd result
  -- what the call gives
  pub given : List ℕ
  pub nothing_lost : before ++ (earlier ++ last) ≡ given ++ pending after
  pub answer : Answers had_ended result given after left_after
