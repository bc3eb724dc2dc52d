use Rattle.std.specs.Prelude.{None, Option, Some}
use Rattle.tte_units.specs.{Mean.mean_of, declared.units.Units.Units}

-- the mean of both deviations rounded down, or the one that is there
abbrev pub correction_of : Option Units → Option Units → Option Units
correction_of (Some a) (Some b) = Some (record { 0 = mean_of a.0 b.0 })
correction_of (Some a) None = Some a
correction_of None (Some b) = Some b
correction_of None None = None
