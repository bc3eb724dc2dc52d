use Rattle.tte_observers.proofs.captures_lemmas.wires_lemmas.{Puts.{one_failed, one_put}, Words.packet_at}
use Rattle.tte_observers.proofs.captures.wires.frames.put_frame.Goals as goal

-- if the casts of the seconds and of the rest do not compute: they are the numbers themselves, since the time is at most
-- 2^60, so the seconds are fewer than 2^32
pub returns-in-Ok : goal.returns-in-Ok
returns-in-Ok g c =
    one_put g.K.Sink (packet_at c.args.time c.args.octets.now) (tt {0}) c.args.out.now c.put_packet.new.out c.in-Ok.ensures.all c.put_packet.ensures.counted
    c.in-Ok.ensures.faults

pub returns-in-Err : goal.returns-in-Err
returns-in-Err g c =
    one_failed g.K.Sink (packet_at c.args.time c.args.octets.now) c.args.out.now c.put_packet.new.out c.in-Err.ensures.front c.put_packet.ensures.counted
    c.in-Err.ensures.faults
