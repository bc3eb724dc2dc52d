use Rattle.tte_observers.proofs.captures_lemmas.wires_lemmas.Words.{Capture, ap, inl, inr, refl}
use Rattle.tte_observers.proofs.captures.wires.capture.Capture.pass_to.Goals as goal

pub returns-then-time-self : goal.returns-then-time-self
returns-then-time-self g c = inl (c.if-time-self.true, refl, refl, refl)

pub returns-in-Err : goal.returns-in-Err
returns-in-Err g c = inr (λ same. c.if-time-self.false same, c.in-Err.ensures.puts, tt {0})

pub returns : goal.returns
returns g c = inr (
  λ same. c.if-time-self.false same,
  c.in-Ok.ensures.puts,
  (ap (λ (s : Capture). record s { time = c.args.time }) c.in-Ok.ensures.same, c.in-Ok.ensures.none),
)
