use Rattle.lens_plan.specs.places.Best.{IsBestBelow}
use Rattle.lens_plan.proofs.places.best.best_below.Given as goal

abbrev pub invariant-phases : goal.invariant-phases
invariant-phases l = IsBestBelow l.trial l.phase l.best
