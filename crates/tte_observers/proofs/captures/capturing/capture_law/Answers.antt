use Rattle.tte_observers.proofs.captures_lemmas.Packets.{shows_octets, shows_packets}
use Rattle.tte_observers.proofs.captures.capturing.capture_law.Goals as goal

pub returns-clause-octets : goal.returns-clause-octets
returns-clause-octets c = shows_octets

pub returns-clause-packets : goal.returns-clause-packets
returns-clause-packets c = shows_packets
