use Rattle.std.proofs.Common.{◌∙◌}
use Rattle.fault_hypothesis.proofs.Keeping.{few_by, left_by_break}
use Rattle.fault_hypothesis.proofs.watch.Watch.leaves_too_few.Goals as goal

pub returns-in-Break : goal.returns-in-Break
returns-in-Break c = λ network admitted w.
    let left = left_by_break network admitted c.args.event.now c.in-Break.device c.args.self.now.broken w.broken c.in-Break.is in
    let count = c.sound_masters_beside.ensures
    ∙ (rw w.over left) in
    let by = few_by network admitted c.args.event.now c.in-Break.device c.sound_masters_beside.result count c.in-Break.is in
    rw (c.network.ensures.value ∙ w.over) by
