use Rattle.tte_audit.proofs.{Telling.IsOfNoEvent, Words.{IsTextOf, rules, subst, sym}}
use Rattle.tte_audit.proofs.reading.read_event.Goals as goal

pub returns-in_err-event_line : goal.returns-in_err-event_line
returns-in_err-event_line c =
    let none : IsOfNoEvent c.args.network.now c.args.text.now = λ number time line w h. c.event_line.ensures.is number time line w h (search rules) in
    rw c.from_residual.ensures none

pub returns : goal.returns
returns c = subst (λ n. IsTextOf c.args.network.now n c.args.text.now) (sym c.into_note.ensures) c.in_ok-event_line.ensures.text
