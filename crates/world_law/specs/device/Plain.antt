-- Records without their numbers: all that a device's standing reads.
use Rattle.std.specs.Prelude.{List, map, ℕ}
use Rattle.run_law.specs.records.Happenings.{Happening}

-- the record with this number
abbrev pub with_number : ℕ → Happening → Happening
with_number k h = record h { note = record h.note { number = k } }

-- a record without its number
abbrev pub plain : Happening → Happening
plain h = record h { note = record h.note { number = 0 } }

-- records without their numbers
abbrev pub plains : List Happening → List Happening
plains hs = map plain hs
