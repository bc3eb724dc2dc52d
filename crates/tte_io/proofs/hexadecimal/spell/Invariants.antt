use Rattle.{hex.specs.Hex.encode_lower, std.proofs.Common.{◌*◌, ◌++◌, ◌≡◌, drop, take}}
use Rattle.tte_io.proofs.hexadecimal.spell.Given as goal

abbrev pub invariant-octets : goal.invariant-octets
invariant-octets l = take (2 * l.i) l.text ++ encode_lower (drop l.i l.octets) ≡ encode_lower l.octets
