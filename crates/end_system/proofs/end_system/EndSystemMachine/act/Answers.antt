use Rattle.end_system.{proofs.{Tasks.none_is_due, Words.{◌∙◌, Some, ap, subst}}, specs.Agendas.IsFirstDue}
use Rattle.end_system.proofs.end_system.EndSystemMachine.act.Goals as goal

pub send-requires : goal.send-requires
send-requires c = (
  (c.requires.0, c.requires.1, c.requires.2, c.requires.3, c.requires.4.call),
  subst (IsFirstDue c.args.self.now.agenda c.args.moment.reading.0)
      (c.in-Some-Sending.is ∙ ap Some c.in-Some-Sending.field-0-is) c.due.ensures,
)

pub correct-requires : goal.correct-requires
correct-requires c = (
  (c.requires.0, c.requires.1, c.requires.2, c.requires.3, c.requires.4.call),
  subst (IsFirstDue c.args.self.now.agenda c.args.moment.reading.0)
      (c.in-Some-Correction.is ∙ ap Some c.in-Some-Correction.field-0-is) c.due.ensures,
)

pub dispatch-requires : goal.dispatch-requires
dispatch-requires c = (
  (c.requires.0, c.requires.1, c.requires.2, c.requires.3, c.requires.4.call),
  subst (IsFirstDue c.args.self.now.agenda c.args.moment.reading.0)
      (c.in-Some-Dispatch.is ∙ ap Some c.in-Some-Dispatch.field-0-is) c.due.ensures,
)

pub returns-in-None : goal.returns-in-None
returns-in-None c = λ network device node stands may due.
    absurd (none_is_due network device _ node _ c.args.moment.reading.0 due.0 stands.own stands.agenda
    (subst (IsFirstDue c.args.self.now.agenda c.args.moment.reading.0) c.in-None.is c.due.ensures) due.1 due.2)

pub returns-in-Some-Sending : goal.returns-in-Some-Sending
returns-in-Some-Sending c = λ network device node stands may due. c.send.ensures network device node stands may

pub returns-in-Some-Correction : goal.returns-in-Some-Correction
returns-in-Some-Correction c = λ network device node stands may due. c.correct.ensures network device node stands may

pub returns-in-Some-Dispatch : goal.returns-in-Some-Dispatch
returns-in-Some-Dispatch c = λ network device node stands may due. c.dispatch.ensures network device node stands may
