use Rattle.std.specs.Prelude.{◌*◌, ℕ}
use Rattle.tte_units.specs.declared.speed.Speed.{Speed, TheVariants.{Gbit1, Mbit100}}

-- the time of one octet, in units: 8 bits of 10 ns or of 1 ns
abbrev pub octet_time : Speed → ℕ
octet_time Mbit100 = 8 * 10 * 65536
octet_time Gbit1 = 8 * 1 * 65536
