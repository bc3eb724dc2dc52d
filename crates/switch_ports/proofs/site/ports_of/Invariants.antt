use Rattle.switch_ports.proofs.Words.{◌≡◌, map, port_of, take}
use Rattle.switch_ports.proofs.site.ports_of.Given as goal

abbrev pub invariant-loop-link : goal.invariant-loop-link
invariant-loop-link l = l.ports.items ≡ map (port_of l.network l.device) (take l.link-index l.network.link)
