use Rattle.tte_audit.proofs.{Telling.{none_read, with_none}, Words.{IsTextOf, subst, sym}}
use Rattle.tte_audit.proofs.reading.read_note.Goals as goal

pub returns-in-Some : goal.returns-in-Some
returns-in-Some c = subst (λ n. IsTextOf c.args.network.now n c.args.text.now) (sym c.note_in.ensures) c.in-Some.ensures.text

pub returns-in-None : goal.returns-in-None
returns-in-None c =
    with_none _ c.read_event.result
    (none_read c.args.network.now c.args.text.now (λ number time p h. c.plain_line.ensures.is number time p h c.in-None.is))
    c.read_event.ensures
