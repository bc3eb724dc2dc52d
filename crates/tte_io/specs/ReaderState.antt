-- What a reader of lines keeps.
use Rattle.std.specs.Prelude.{if◌then◌else◌, ◌++◌, ◌≡◌, Bool, List, None, Option, [], false, true, ℕ}
use Rattle.tte_io.specs.Line.{IsTooLong}

-- a reader of lines
pub record LineReaderState : Type 0 where
  -- the octets of a line whose end has not come
  pub kept : List ℕ
  -- the octets that were read behind them
  pub ahead : List ℕ
  -- the line, where the last call took one
  pub text : Option (List ℕ)
  -- whether a line was too long
  pub long : Bool
  -- whether the end of the source was found
  pub ended : Bool

-- the octets that were read and not given
abbrev pub pending : LineReaderState → List ℕ
pending r = r.kept ++ r.ahead

-- the octets to come: those pending, and those left in the source where its end was not found
abbrev pub to_come : List ℕ → Bool → List ℕ → List ℕ
to_come pending ended left = pending ++ (if ended then [] else left)

-- nothing was read, or all that was read was given
abbrev pub at_rest : LineReaderState
at_rest = record { kept = []; ahead = []; text = None; long = false; ended = false }

-- all was given, and the end of the source was found
abbrev pub at_end : LineReaderState
at_end = record { kept = []; ahead = []; text = None; long = false; ended = true }

-- a reader that found too long a line still has it
abbrev pub KeepsLongLine : LineReaderState → Type 0
KeepsLongLine r = r.long ≡ true → IsTooLong (pending r)

-- nothing is pending behind the end of the source
abbrev pub KeepsEnd : LineReaderState → Type 0
KeepsEnd r = r.ended ≡ true → pending r ≡ []
