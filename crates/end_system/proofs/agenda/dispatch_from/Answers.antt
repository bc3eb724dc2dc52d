use Rattle.end_system.proofs.{Ripe.in_sync, Words.{◌∙◌, ap, sym}}
use Rattle.run_law.specs.device.States.{is_synchronised}
use Rattle.end_system.proofs.agenda.dispatch_from.Goals as goal

pub returns-then-is_synchronised-clause-next : goal.returns-then-is_synchronised-clause-next
returns-then-is_synchronised-clause-next c = λ network device is rows.
    c.first_behind.ensures.next network device c.args.sync.now is rows (sym c.adjustment.ensures)
    (in_sync c.args.sync.now (sym (c.is_synchronised.ensures ∙ ap is_synchronised c.state.ensures) ∙ c.if-is_synchronised.true))
