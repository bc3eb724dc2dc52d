use Rattle.switch_ports.proofs.Words.{◌≡◌, None, map, take}
use Rattle.switch_ports.proofs.departures.no_lasts.Given as goal

abbrev pub invariant-loop : goal.invariant-loop
invariant-loop l = l.lasts.items ≡ map (λ vl. None) (take l.index l.network.vl)
