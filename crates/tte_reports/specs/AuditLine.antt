-- The lines about a report.
use Rattle.std.specs.{Fmt.decimal, Prelude.{◌++◌, List, codes, ℕ}}
use Rattle.tte_units.specs.{Amount.amount, declared.units.Units.Units}

-- the line of a report of so many records that is not refused
abbrev pub audited_line : ℕ → List ℕ
audited_line count = codes "audited records " ++ decimal count ++ codes "\n"

-- the line of a report that is refused at the record of this number
abbrev pub record_refusal_line : ℕ → List ℕ → List ℕ
record_refusal_line number reason = codes "refused record " ++ decimal number ++ codes " " ++ reason ++ codes "\n"

-- the line of a report in which a record of this time, in units, is lacking
abbrev pub lack_line : Units → List ℕ
lack_line time = codes "refused lacking " ++ decimal (amount time) ++ codes "\n"
