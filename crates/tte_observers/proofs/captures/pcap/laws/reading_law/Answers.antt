use Rattle.tte_observers.proofs.captures_lemmas.pcap_lemmas.{Heads.finds_head, Packets.finds_packets}
use Rattle.tte_observers.proofs.captures.pcap.laws.reading_law.Goals as goal

pub returns-clause-head : goal.returns-clause-head
returns-clause-head c = finds_head

pub returns-clause-packets : goal.returns-clause-packets
returns-clause-packets c = finds_packets
