use Rattle.switch_ports.proofs.WhichFirst.{corrects_first, dispatches_first, emits_first}
use Rattle.switch_ports.proofs.machine.SwitchTellsKind.first_kind.Goals as goal

pub returns-then-is_reached : goal.returns-then-is_reached
returns-then-is_reached c = λ network device node st due.
    emits_first c.args.self.now network device node c.args.reading.0 st c.due.result (c.is_reached.ensures.reached c.if-is_reached.true) c.due.ensures.least

pub returns-then-is_reached-2 : goal.returns-then-is_reached-2
returns-then-is_reached-2 c = λ network device node st due.
    corrects_first c.args.self.now network device node c.args.reading.0 st c.due.result
    (record { none = c.due.ensures.none; least = c.due.ensures.least; later = c.is_reached.ensures.later c.if-is_reached.false })
    (c.is_reached-2.ensures.reached c.if-is_reached-2.true)

pub returns : goal.returns
returns c = λ network device node st due.
    dispatches_first c.args.self.now network device node c.args.reading.0 st c.due.result
    (record { none = c.due.ensures.none; least = c.due.ensures.least; later = c.is_reached.ensures.later c.if-is_reached.false })
    (c.is_reached-2.ensures.later c.if-is_reached-2.false) due
