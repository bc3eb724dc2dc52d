use Rattle.std.proofs.Common.{◌∙◌}
use Rattle.world_state.proofs.Queues.{grown}
use Rattle.world_state.proofs.frames.Frames.grow.Goals as goal

pub invariant_of-self-then-is_err : goal.invariant_of-self-then-is_err
invariant_of-self-then-is_err c =
    (grown c.queues.self-inside.queues.items c.new.result _ c.push.ensures.items c.new.ensures c.queues.invariant.0).0

pub queues-preserved : goal.queues-preserved
queues-preserved c =
    let g = grown c.queues.self-inside.queues.items c.new.result _ c.push.ensures.items c.new.ensures c.queues.invariant.0 in
    (g.0, g.1 ∙ c.queues.invariant.1)
