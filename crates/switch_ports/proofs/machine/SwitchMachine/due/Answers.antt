use Rattle.run_law.specs.machines.Tasks.{IsDueReading}
use Rattle.switch_ports.{proofs.{Pending.is_due, Words.{◌∙◌, ap, subst, sym}}, specs.Due.least_of}
use Rattle.switch_ports.proofs.machine.SwitchMachine.due.Goals as goal

pub returns : goal.returns
returns c network device node st =
    let clocked = c.least-clocked.ensures ∙ ap (least_of c.args.self.now.corrects_at) c.due.ensures in
    subst (IsDueReading network device node) (sym (c.least.ensures ∙ ap (least_of c.due-2.result) clocked))
    (is_due c.args.self.now network device node c.due-2.result st c.due-2.ensures.none c.due-2.ensures.least)
