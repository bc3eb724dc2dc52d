use Rattle.sync_state.proofs.PlanFacts.{expected_fits, start_fits}
use Rattle.sync_state.proofs.plan.SyncPlan.expected_at.Goals as goal

pub overflow_mul-result : goal.overflow_mul-result
overflow_mul-result c = start_fits c.args.cycle _ _ c.from.ensures c.requires.cycle c.requires.plan.shortest c.requires.plan.longest

pub overflow_add-result : goal.overflow_add-result
overflow_add-result c =
    let plan = c.requires.plan in
    expected_fits c.args.cycle _ _ _ c.from.ensures c.requires.cycle plan.shortest plan.longest plan.earliest plan.latest
