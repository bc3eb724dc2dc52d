use Rattle.lens_plan.{proofs.PlannedRows.HoldsBelow, specs.joining.Served.Comes}
use Rattle.lens_plan.proofs.joining.served.enters_on.Given as goal

abbrev pub invariant-rows : goal.invariant-rows
invariant-rows l = HoldsBelow l.network (λ entry. ¬ Comes l.network l.vl l.channel l.device entry) l.number
