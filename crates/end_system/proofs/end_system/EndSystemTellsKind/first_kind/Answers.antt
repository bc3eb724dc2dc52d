use Rattle.end_system.{specs.Agendas.IsFirstDue}
use Rattle.end_system.proofs.{Tasks.{corrects_first, dispatches_first, none_is_due, sends_first}}
use Rattle.end_system.proofs.{Words.{◌∙◌, Some, ap, subst}}
use Rattle.end_system.proofs.end_system.EndSystemTellsKind.first_kind.Goals as goal

pub returns-in-Some-Sending : goal.returns-in-Some-Sending
returns-in-Some-Sending c = λ network device node st due.
    sends_first network device _ node _ c.args.reading.0 st.own st.sound st.agenda _
    (subst (IsFirstDue c.args.self.now.agenda c.args.reading.0) (c.in-Some-Sending.is ∙ ap Some c.in-Some-Sending.field-0-is) c.due.ensures)

pub returns-in-Some-Correction : goal.returns-in-Some-Correction
returns-in-Some-Correction c = λ network device node st due.
    corrects_first network device _ node _ c.args.reading.0 st.own st.sound st.agenda _
    (subst (IsFirstDue c.args.self.now.agenda c.args.reading.0) (c.in-Some-Correction.is ∙ ap Some c.in-Some-Correction.field-0-is) c.due.ensures)

pub returns-in-Some-Dispatch : goal.returns-in-Some-Dispatch
returns-in-Some-Dispatch c = λ network device node st due.
    let first = subst (IsFirstDue c.args.self.now.agenda c.args.reading.0) (c.in-Some-Dispatch.is ∙ ap Some c.in-Some-Dispatch.field-0-is) c.due.ensures in
    dispatches_first network device _ node _ c.args.reading.0 st.own st.sound st.agenda first.0 first.1 due

pub returns-in-None : goal.returns-in-None
returns-in-None c = λ network device node st due.
    absurd (none_is_due network device _ node _ c.args.reading.0 due.0 st.own st.agenda
    (subst (IsFirstDue c.args.self.now.agenda c.args.reading.0) c.in-None.is c.due.ensures) due.1 due.2)
