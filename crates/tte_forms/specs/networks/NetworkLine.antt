-- The lines about a network.
use Rattle.std.specs.{Fmt.decimal, Prelude.{◌++◌, ◌∷◌, ◌≡◌, List, [], codes, ℕ}}
use Rattle.net_file.specs.{KeyTexts.key_text, declared.refusal.FileRefusal.{FileRefusal, TheVariants.Unknown}}
use Rattle.net_file.specs.declared.refusal.FileRefusal.TheVariants.{Kind, Missing, Name, NotToml, OutOfMemory, Range}
use Rattle.net_file.specs.declared.spots.{Spot.Spot, TableName.{TableName, TheVariants.{Device, Link, Row, Top, Vl}}}
use Rattle.schedule_checker.specs.declared.refusal.RuleBroken.{RuleBroken}

-- the name of a table
abbrev pub table_text : TableName → List ℕ
table_text Top = codes "top"
table_text Device = codes "device"
table_text Link = codes "link"
table_text Vl = codes "vl"
table_text Row = codes "row"

-- a table and its place
abbrev pub place_text : TableName → ℕ → List ℕ
place_text table index = table_text table ++ codes " " ++ decimal index

-- a key's table, its place and the key
abbrev pub spot_text : Spot → List ℕ
spot_text spot = place_text spot.table spot.index ++ codes " " ++ key_text spot.key

-- why a text is no network; want of memory is no reason, and has no text
abbrev pub file_reason : FileRefusal → List ℕ
file_reason NotToml = codes "toml"
file_reason (Missing spot) = codes "missing " ++ spot_text spot
file_reason (Kind spot) = codes "kind " ++ spot_text spot
file_reason (Unknown table index) = codes "unknown " ++ place_text table index
file_reason (Range spot) = codes "range " ++ spot_text spot
file_reason (Name spot) = codes "name " ++ spot_text spot
file_reason OutOfMemory = codes ""

-- the rule that a network breaks, and where
abbrev pub rule_reason : RuleBroken → List ℕ
rule_reason told = codes "rule " ++ decimal told.number ++ codes " index " ++ decimal told.index

-- the line of a network that is refused for this reason
abbrev pub network_refusal_line : List ℕ → List ℕ
network_refusal_line reason = codes "refused network " ++ reason ++ codes "\n"

-- the lines are that of a network that is refused
abbrev pub IsRefusalText : List (List ℕ) → Type 0
IsRefusalText lines = (reason : List ℕ) × (lines ≡ network_refusal_line reason ∷ [])

-- the line of a network that is accepted
abbrev pub acceptance_line : ℕ → ℕ → List ℕ
acceptance_line beta gamma = codes "accepted beta " ++ decimal beta ++ codes " gamma " ++ decimal gamma ++ codes "\n"
