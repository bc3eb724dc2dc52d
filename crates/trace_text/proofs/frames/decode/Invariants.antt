use Rattle.trace_text.proofs.Lowering.{Deciphers}
use Rattle.trace_text.proofs.frames.decode.Given as goal

abbrev pub invariant-octets : goal.invariant-octets
invariant-octets l = Deciphers l.text l.octets l.i l.greatest
