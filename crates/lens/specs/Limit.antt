-- How long a report may be.
use Rattle.std.specs.Prelude.{ℕ}

-- how many octets a report has at most of which anything is asked
abbrev pub report_limit : ℕ
report_limit = 268435456
