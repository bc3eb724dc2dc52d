-- Local clocks as whole numbers.
use Rattle.std.specs.Prelude.{None, Option, Some, ℤ}
use Rattle.tte_units.specs.declared.units.Units.{Units}

-- the whole number of the units, if there are such
abbrev pub local_of : Option Units → Option ℤ
local_of None = None
local_of (Some units) = Some units.0
