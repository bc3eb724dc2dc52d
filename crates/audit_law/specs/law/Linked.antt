-- The causes of the records of a report.
use Rattle.std.specs.Prelude.{◌++◌, ◌∷◌, ◌≡◌, ◌⊎◌, List, Some}
use Rattle.run_law.specs.records.{Causes.cause_of, Happenings.{Happening, numbered}}

-- the record has no cause, or its cause is a record before it
abbrev pub HasCause : List Happening → Happening → Type 0
HasCause before h =
    (cause_of h.note.body ≡ 0) ⊎ ((cause : Happening) × (numbered before (cause_of h.note.body) ≡ Some cause))

-- each record has no cause or one before it
abbrev pub AreLinked : List Happening → Type 0
AreLinked hs = (before behind : List Happening) (h : Happening) → hs ≡ before ++ h ∷ behind → HasCause before h
