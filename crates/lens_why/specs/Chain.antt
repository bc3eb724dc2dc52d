-- The chain of causes of a record.
use Rattle.std.specs.Prelude.{◌≡◌, List, Some, ℕ}
use Rattle.run_law.specs.records.{Causes.{IsChain, cause_of, last_from}, Happenings.{Happening, numbered}}

-- the record of this number, its cause, its cause's cause and so on, none left out, up to a record without a cause
pub record IsWholeChain (hs : List Happening) (number : ℕ) (first : Happening) (causes : List Happening) : Type 0 where
  pub there : numbered hs number ≡ Some first
  pub chain : IsChain hs first causes
  pub ends : cause_of (last_from first causes).note.body ≡ 0
