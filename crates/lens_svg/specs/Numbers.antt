-- Times and corrections as people read them.
use Rattle.std.specs.Prelude.{ℕ, ◌/◌, ◌%◌, ◌++◌, List, [], codes, decimal, pos, int_le, neg_ℤ, unsigned_abs, if◌then◌else◌}
use Rattle.tte_units.specs.declared.units.Units.{Units}

-- a number with three digits behind the point, of one with three more in whole numbers
abbrev pub thousandths : ℕ → List ℕ
thousandths n = decimal (n / 1000) ++ codes "." ++ decimal (n / 100 % 10) ++ decimal (n / 10 % 10) ++ decimal (n % 10)

-- a time in microseconds, with three digits behind the point
unfoldable pub micros_text : ℕ → List ℕ
micros_text time = thousandths (time / 65536)

-- the sign of a correction of 1 ns or more downwards
abbrev pub sign_text : Units → List ℕ
sign_text by = if int_le by.0 (neg_ℤ (pos 65536)) then codes "-" else []

-- a correction in whole nanoseconds, rounded towards 0
unfoldable pub nanos_text : Units → List ℕ
nanos_text by = sign_text by ++ decimal (unsigned_abs by.0 / 65536) ++ codes " ns"
