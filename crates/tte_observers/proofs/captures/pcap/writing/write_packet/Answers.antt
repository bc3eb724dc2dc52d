use Rattle.std.proofs.Common.{◌++◌, ◌+◌, ◌-◌, ◌∙◌, ◌≡◌, drop, length}
use borrow.Rule.Slice.PartMut.{post_of}
use Rattle.tte_observers.{proofs.captures_lemmas.pcap_lemmas.Packets.{length-stamp_octets, written_front}}
use Rattle.tte_observers.{specs.captures.pcap.Writing.stamp_octets}
use Rattle.tte_observers.proofs.captures.pcap.writing.write_packet.Goals as goal

pub returns-clause-front : goal.returns-clause-front
returns-clause-front c =
    let octets = c.args.octets.now in
    let stamp = stamp_octets c.args.seconds c.args.micros (length octets) in
    let first : c.copy_from_slice.new.self ≡ stamp = c.copy_from_slice.ensures.after ∙ c.make_stamp-stamp.ensures in
    rw (first, c.copy_from_slice-2.ensures.after)
    (written_front stamp octets c.args.room.now (post_of 16 (16 + length octets - 16) (stamp ++ drop 16 c.args.room.now))
    (length-stamp_octets c.args.seconds c.args.micros (length octets)))
