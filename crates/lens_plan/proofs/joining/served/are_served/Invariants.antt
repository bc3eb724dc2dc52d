use Rattle.lens_plan.proofs.PlannedRows.{FirstAreServed}
use Rattle.lens_plan.proofs.joining.served.are_served.Given as goal

abbrev pub invariant-messages : goal.invariant-messages
invariant-messages l = FirstAreServed l.network l.planned l.messages l.place
