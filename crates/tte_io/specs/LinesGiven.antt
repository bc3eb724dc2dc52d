-- What a reader of lines has given, over any number of calls.
use Rattle.std.specs.{Io.KnownBytes.Consumes, Prelude.{◌++◌, ◌+◌, ◌≡◌, ◌≤◌, List, Option, Result, Some, [], length, ℕ}}
use Rattle.tte_io.specs.{Line.ahead_limit, NextLine.NextLine, ReaderState.{LineReaderState, at_rest, pending}}
use Rattle.tte_io.specs.declared.{ends.SourceFailed.SourceFailed, lines.LineTaken.LineTaken}

-- since `first` was left in the source, the reader has read what it gave and what is pending
pub record HasGiven (first : Option (List ℕ)) (given : List ℕ) (reader : LineReaderState)
    (left : Option (List ℕ)) : Type 0 where
  pub read : List ℕ
  pub consumed : Consumes first left read
  pub same : read ≡ given ++ pending reader

-- a reader gives what it reads, in order
pub record GivesInOrder : Type 0 where
  -- at first it has given nothing
  pub begins : (left : Option (List ℕ)) → HasGiven left [] at_rest left
  -- what a call gives comes behind that
  pub goes_on : (first : Option (List ℕ)) (given : List ℕ) (before : LineReaderState) (left : Option (List ℕ))
      (after : LineReaderState) (left_after : Option (List ℕ)) (result : Result LineTaken SourceFailed)
      → HasGiven first given before left → (n : NextLine (pending before) before.ended left after left_after result)
      → HasGiven first (given ++ n.given) after left_after
  -- where no line is unfinished, little more was read than given
  pub few_ahead : (first : Option (List ℕ)) (given : List ℕ) (reader : LineReaderState) (left : Option (List ℕ))
      (h : HasGiven first given reader left)
      → reader.kept ≡ [] → length reader.ahead ≤ ahead_limit → length h.read ≤ length given + ahead_limit
  -- told octets are those given, those pending and those left
  pub told : (first given : List ℕ) (reader : LineReaderState) (left : List ℕ)
      → HasGiven (Some first) given reader (Some left) → first ≡ given ++ (pending reader ++ left)
