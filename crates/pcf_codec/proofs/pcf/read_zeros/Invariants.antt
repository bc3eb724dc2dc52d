use Rattle.pcf_codec.proofs.Zeros.{Looks}
use Rattle.pcf_codec.proofs.pcf.read_zeros.Given as goal

abbrev pub invariant-loop-i : goal.invariant-loop-i
invariant-loop-i l = Looks l.i l.at l.count l.octets
