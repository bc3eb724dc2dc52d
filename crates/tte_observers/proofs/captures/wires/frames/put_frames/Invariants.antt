use Rattle.tte_observers.proofs.captures_lemmas.wires_lemmas.Words.{Ok, PutsAll, map, packet_at, take}
use Rattle.tte_observers.proofs.captures.wires.frames.put_frames.Given as goal

abbrev pub invariant-frames : goal.invariant-frames
invariant-frames g l = PutsAll {T = Unit {0}} g.K.Sink (map (packet_at l.fn.time) (take l.frame-index l.fn.frames)) (Ok (tt {0})) l.fn.out l.out
