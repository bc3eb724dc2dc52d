use Rattle.fault_hypothesis.proofs.Keeping.{second_by}
use Rattle.fault_hypothesis.proofs.watch.Watch.breaks_second.Goals as goal

pub returns-in-Break : goal.returns-in-Break
returns-in-Break c = λ network admitted w.
    rw c.is_some.ensures (second_by admitted c.args.event.now c.in-Break.field-0 c.args.self.now.broken w.broken c.in-Break.is)
