use Rattle.tte_observers.specs.captures.pcap.Writing.{head_octets}
use Rattle.tte_observers.proofs.captures.pcap.writing.put_head.Goals as goal

pub returns-clause-all : goal.returns-clause-all
unfolding head_octets
returns-clause-all g c = c.put.ensures.all

pub returns-clause-front : goal.returns-clause-front
unfolding head_octets
returns-clause-front g c = c.put.ensures.front
