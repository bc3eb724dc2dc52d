use Rattle.tte_observers.proofs.captures_lemmas.wires_lemmas.Words.{IsSpelt, ap, packet_at, subst, sym}
use Rattle.world_state.specs.{Views.signal_as}
use Rattle.tte_observers.proofs.captures.wires.frames.put_signal.Goals as goal

pub returns-in-Control : goal.returns-in-Control
returns-in-Control g c = (
  _,
  c.put_control.ensures,
  λ spelt is. ap (packet_at c.args.time) (sym (subst (λ s. IsSpelt (signal_as c.args.network.now s) spelt) c.in-Control.is is)),
)

pub returns-in-Timed : goal.returns-in-Timed
returns-in-Timed g c = (
  _,
  c.put_timed.ensures,
  λ spelt is. ap (packet_at c.args.time) (sym (subst (λ s. IsSpelt (signal_as c.args.network.now s) spelt) c.in-Timed.is is)),
)
