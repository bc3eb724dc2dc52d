-- Reading the keys of one table, whose entries are the data of TOML at its place in the file.
use Rattle.std.specs.{List.list_any, Option.ok_or, Prelude.ℤ}
use Rattle.std.specs.Prelude.{◌&&◌, Bool, Err, List, None, Ok, Option, Some, bytes_eq, if◌then◌else◌, is_some, true, ℕ}
use Rattle.toml.specs.Data.{Data, Items, Members, as_array, as_integer, as_str, as_table, get, item, member, no_items}
use Rattle.toml.specs.Data.{no_members}
use Rattle.tte_units.specs.{Amount.units_of, declared.units.Units.Units}
use Rattle.net_file.specs.{KeyTexts.key_text, Numbering.Numbering, Values.number_within, declared.spots.Spot.Spot}
use Rattle.net_file.specs.{Steps.{◌>>=◌, Read, where_there}, declared.{keys.KeyName.KeyName, spots.TableSpot.TableSpot}}
use Rattle.net_file.specs.declared.refusal.FileRefusal.TheVariants.{Kind, Missing, Name, Range, Unknown}

-- a key of a table
abbrev pub spot : TableSpot → KeyName → Spot
spot at key = record { table = at.table; index = at.index; key = key }

-- the value of a key
unfoldable pub value_of : TableSpot → KeyName → Data → Read Data
value_of at key entries = ok_or (get (key_text key) entries) (Missing (spot at key))

-- a whole number, without regard to its range
unfoldable pub integer_of : TableSpot → KeyName → Data → Read ℤ
integer_of at key entries = do
  value ← value_of at key entries
  ok_or (as_integer value) (Kind (spot at key))

-- a whole number that means something
unfoldable pub number : {A : Type 0} → (ℤ → Option A) → TableSpot → KeyName → Data → Read A
number meaning at key entries = do
  number ← integer_of at key entries
  ok_or (meaning number) (Range (spot at key))

-- a whole number from low to high
unfoldable pub whole : ℕ → ℕ → TableSpot → KeyName → Data → Read ℕ
whole low high at key entries = number (number_within low high) at key entries

-- a text, without regard to what it says
unfoldable pub text_of : TableSpot → KeyName → Data → Read (List ℕ)
text_of at key entries = do
  value ← value_of at key entries
  ok_or (as_str value) (Kind (spot at key))

-- a text that means something
unfoldable pub word : {A : Type 0} → (List ℕ → Option A) → TableSpot → KeyName → Data → Read A
word meaning at key entries = do
  text ← text_of at key entries
  ok_or (meaning text) (Range (spot at key))

-- a number of units of time from low to high
unfoldable pub time : ℕ → ℕ → TableSpot → KeyName → Data → Read Units
time low high at key entries = do
  number ← whole low high at key entries
  Ok (units_of number)

-- a number of units of time from low to high, or none where the key is absent
unfoldable pub time_if_there : ℕ → ℕ → TableSpot → KeyName → Data → Read (Option Units)
time_if_there low high at key entries = where_there (get (key_text key) entries) (time low high at key entries)

-- the number of the thing that a text names
unfoldable pub named : Numbering → TableSpot → KeyName → Data → Read ℕ
named numbering at key entries = do
  text ← text_of at key entries
  ok_or (numbering text) (Name (spot at key))

-- the text is one of these keys
abbrev pub is_key_of : List KeyName → List ℕ → Bool
is_key_of keys text = list_any (λ key. bytes_eq (key_text key) text) keys

-- each key of the table is one of these
abbrev pub are_keys_of : List KeyName → Members → Bool
are_keys_of keys no_members = true
are_keys_of keys (member text value rest) = is_key_of keys text && are_keys_of keys rest

-- the keys of a table, where it is one
abbrev pub has_only : List KeyName → Option Members → Bool
has_only keys None = true
has_only keys (Some members) = are_keys_of keys members

-- a table has no key beyond these
unfoldable pub nothing_else : List KeyName → TableSpot → Data → Read (Unit {0})
nothing_else keys at entries = if has_only keys (as_table entries) then Ok tt else Err (Unknown at.table at.index)

-- each item of an array is a table
abbrev pub are_tables : Items → Bool
are_tables no_items = true
are_tables (item value rest) = is_some (as_table value) && are_tables rest

-- an array of tables, which is empty where it is absent
abbrev pub tables_in : Spot → Option Data → Read Items
tables_in spot None = Ok no_items
tables_in spot (Some value) = do
  items ← ok_or (as_array value) (Kind spot)
  if are_tables items then Ok items else Err (Kind spot)

unfoldable pub tables : TableSpot → KeyName → Data → Read Items
tables at key entries = tables_in (spot at key) (get (key_text key) entries)
