-- The steps of taking a line.
use Rattle.std.specs.{Io.KnownBytes.Consumes, Prelude.{◌++◌, ◌∷◌, ◌≡◌, ◌≢◌, ◌≤◌, List, Option, [], length, ℕ}}
use Rattle.tte_io.specs.{Line.{IsLine, IsTooLong, ahead_limit, lf}, declared.taking.AheadStep.AheadStep}
use Rattle.tte_io.specs.declared.taking.AheadStep.TheVariants.{Ended, TooLong, Unfinished}

-- a read adds to what is ahead, and only where nothing is
pub record Fills (ahead : List ℕ) (left : Option (List ℕ)) (ahead_after : List ℕ)
    (left_after : Option (List ℕ)) : Type 0 where
  pub read : List ℕ
  pub consumed : Consumes left left_after read
  pub size : length read ≤ ahead_limit
  pub added : ahead_after ≡ ahead ++ read
  pub needed : read ≢ [] → ahead ≡ []

-- the octets ahead go into the line, up to an LF, unless they make it too long
abbrev pub Advances : List ℕ → List ℕ → AheadStep → List ℕ → List ℕ → Type 0
Advances line ahead Ended line_after ahead_after = IsLine line_after × (line ++ ahead ≡ line_after ++ lf ∷ ahead_after)
Advances line ahead Unfinished line_after ahead_after =
    IsLine line_after × (line_after ≡ line ++ ahead) × (ahead_after ≡ [])
Advances line ahead TooLong line_after ahead_after =
    IsTooLong (line ++ ahead) × (line_after ≡ line) × (ahead_after ≡ ahead)
