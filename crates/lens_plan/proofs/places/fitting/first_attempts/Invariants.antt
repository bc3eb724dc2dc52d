use Rattle.lens_plan.specs.places.Fitting.{HavePlaces}
use Rattle.lens_plan.proofs.places.fitting.first_attempts.Given as goal

abbrev pub invariant-messages : goal.invariant-messages
invariant-messages l = HavePlaces l.network l.rows l.messages l.turn l.attempts.items
