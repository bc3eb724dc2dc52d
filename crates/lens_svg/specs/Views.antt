-- What of a run is drawn.
use Rattle.std.specs.Prelude.{suc, unwrap_or, zero, ℕ, Bool, List, None, Option, Some, false, slice_get, true}
use Rattle.lens_svg.specs.declared.layout.{Side.{Side, TheVariants.{Passed, Within}}, Span.Span}

-- of the records those whose numbers have this flag, and lanes for those devices whose places have one
pub record Choice : Type 0 where
  pub records : List Bool
  pub lanes : List Bool

-- a part of it, of that all records and devices, or those that are chosen, and the title
pub record View : Type 0 where
  pub span : Span
  pub kept : Option Choice
  pub title : List ℕ

-- the flag of the record of this number, from 1; 0 is the number of none
abbrev pub flag_at : List Bool → ℕ → Bool
flag_at flags zero = false
flag_at flags (suc before) = unwrap_or (slice_get flags before) false

-- the record of this number is one of them
abbrev pub is_kept : Option Choice → ℕ → Bool
is_kept None number = true
is_kept (Some choice) number = flag_at choice.records number

-- the device at this place has a lane
abbrev pub is_shown : Option Choice → ℕ → Bool
is_shown None place = true
is_shown (Some choice) place = unwrap_or (slice_get choice.lanes place) false

-- one that lies in the part is passed over where it is none of them
abbrev pub side_if : Bool → Side → Side
side_if false Within = Passed
side_if kept side = side
