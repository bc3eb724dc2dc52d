-- The lines of a plan, which are those of a network file.
use Rattle.std.specs.{Fmt.decimal, Prelude.{◌++◌, List, codes, ℕ}}
use Rattle.net_file.specs.{KeyTexts.key_text, declared.{keys.KeyName.KeyName, spots.TableName.TableName}}
use Rattle.lens_plan.specs.declared.text.line.PlanLine.{PlanLine, TheVariants.{Empty, Head, Name, Number, Way}}
use Rattle.{tte_forms.specs.networks.NetworkLine.table_text, trace_text.specs.EventWords.way_text}
use Rattle.net_file.specs.declared.keys.KeyName.TheVariants as keys

-- the head of a block of the table
abbrev pub head_text : TableName → List ℕ
head_text table = codes "[[" ++ table_text table ++ codes "]]\n"

-- a key and a text in quotes
abbrev pub quoted_text : KeyName → List ℕ → List ℕ
quoted_text key text = key_text key ++ codes " = \"" ++ text ++ codes "\"\n"

-- a key and a number
abbrev pub number_text : KeyName → ℕ → List ℕ
number_text key n = key_text key ++ codes " = " ++ decimal n ++ codes "\n"

-- the line
abbrev pub plan_line : PlanLine → List ℕ
plan_line Empty = codes "\n"
plan_line (Head table) = head_text table
plan_line (Name key name) = quoted_text key name
plan_line (Number key n) = number_text key n
plan_line (Way way) = quoted_text keys.Way (way_text way)
