use Rattle.tte_observers.proofs.captures_lemmas.pcap_lemmas.Packets.{reads_back}
use Rattle.tte_observers.proofs.captures.pcap.laws.round_trip_law.Goals as goal

pub returns : goal.returns
returns c = reads_back
