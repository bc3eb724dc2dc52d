use Rattle.std.proofs.Common.{◌≡◌, None, map, take}
use Rattle.device_rules.proofs.intake.none_taken.Given as goal

abbrev pub invariant-loop : goal.invariant-loop
invariant-loop l = l.taken.items ≡ map (λ vl. None) (take l.index l.network.vl)
