use Rattle.{std.proofs.Common.{arith}, sync_state.proofs.PlanFacts.adjustment_fits}
use Rattle.sync_state.proofs.sync.Sync.joined_by.Goals as goal

pub overflow_sub-result : goal.overflow_sub-result
overflow_sub-result c =
    let plan = c.self.invariant in
    adjustment_fits c.args.frame.now.cycle _ _ _ _ c.expected_at.ensures (grind arith) plan.shortest plan.longest
    plan.earliest plan.latest c.requires.low c.requires.high
