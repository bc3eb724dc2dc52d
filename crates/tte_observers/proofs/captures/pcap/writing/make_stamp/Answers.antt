use Rattle.tte_observers.proofs.captures_lemmas.pcap_lemmas.Packets.{writes}
use Rattle.tte_observers.proofs.captures.pcap.writing.make_stamp.Goals as goal

pub returns : goal.returns
returns c =
    writes c.args.seconds c.args.micros c.args.length c.write_u32.new.buf c.write_u32-2.new.buf c.write_u32-3.new.buf c.write_u32-4.new.buf
    c.write_u32.ensures c.write_u32-2.ensures c.write_u32-3.ensures c.write_u32-4.ensures
