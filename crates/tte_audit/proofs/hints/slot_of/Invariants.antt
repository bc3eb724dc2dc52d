use Rattle.std.specs.Prelude.{◌<◌}
use Rattle.tte_audit.proofs.hints.slot_of.Given as goal

abbrev pub invariant-octets : goal.invariant-octets
invariant-octets l = l.slot < 1024
