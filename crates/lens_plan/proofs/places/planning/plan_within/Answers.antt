use Rattle.lens_plan.{proofs.Plans.none_by_order, specs.places.There.AreThere}
use Rattle.std.proofs.Common.{subst, sym}
use Rattle.lens_plan.proofs.places.planning.plan_within.Goals as goal

pub returns-in-Err-place_all-clause-none : goal.returns-in-Err-place_all-clause-none
returns-in-Err-place_all-clause-none c =
    none_by_order c.args.network.now c.in-Err-place_all.why c.no_order.result c.requires.limits
    (subst (λ ts. AreThere c.args.network.now ts) (sym c.as_slice-3.ensures.value) c.in-Ok.ensures.are) c.in-Err-place_all.ensures.unplaced
    c.no_order.ensures
