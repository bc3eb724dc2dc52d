use Rattle.std.specs.Prelude.{pos, unsigned_abs, ℕ}
use Rattle.tte_units.specs.declared.units.Units.{Units}

-- so many units
abbrev pub units_of : ℕ → Units
units_of n = record { 0 = pos n }

-- how many units these are, where they are not negative
abbrev pub amount : Units → ℕ
amount units = unsigned_abs units.0
