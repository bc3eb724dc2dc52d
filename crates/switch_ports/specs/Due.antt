-- The less of two readings that may be there.
use Rattle.std.specs.Prelude.{if◌then◌else◌, None, Option, Some, int_le}
use Rattle.tte_units.specs.declared.units.Units.{Units}

-- the less of a reading and one that may be there
abbrev pub less_of : Units → Option Units → Option Units
less_of a None = Some a
less_of a (Some b) = if int_le a.0 b.0 then Some a else Some b

-- the less of the two
abbrev pub least_of : Option Units → Option Units → Option Units
least_of None b = b
least_of (Some a) b = less_of a b
