-- The places of records, in ascending order.
use Rattle.std.specs.{List.AllPairs, Prelude.{◌≡◌, List, map, ℕ}}
use Rattle.run_law.specs.records.{Happenings.Happening, Order.{IsBefore, IsIn}, Ranks.place_of}

-- each place is before those behind it
abbrev pub AreAscending : List (List ℕ) → Type 0
AreAscending places = AllPairs IsBefore places

-- these are the places of the records, each before those behind it
pub record ArePlacesOf (hs : List Happening) (places : List (List ℕ)) : Type 0 where
  pub same : places ≡ map place_of hs
  pub ascending : AreAscending places

-- a record stands at the place
abbrev pub HasRecordAt : List Happening → List ℕ → Type 0
HasRecordAt hs place = (h : Happening) × IsIn h hs × (place_of h ≡ place)
