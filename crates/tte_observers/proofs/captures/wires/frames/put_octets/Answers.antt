use Rattle.tte_observers.proofs.captures_lemmas.wires_lemmas.{Spelt.{spelt_frame, spelt_octets}, Words.{ap, packet_at, sym}}
use Rattle.tte_observers.proofs.captures.wires.frames.put_octets.Goals as goal

pub returns-in-Ok : goal.returns-in-Ok
returns-in-Ok g c = (
  _,
  c.put_control.ensures,
  λ spelt is. ap (packet_at c.args.time) (spelt_frame c.args.octets.now c.in-Ok.frame (sym c.in-Ok.ensures) spelt is),
)

pub returns-in-Err : goal.returns-in-Err
returns-in-Err g c = (
  _,
  c.put_frame.ensures,
  λ spelt is. ap (packet_at c.args.time) (spelt_octets c.args.octets.now _ (sym c.in-Err.ensures) spelt is),
)
