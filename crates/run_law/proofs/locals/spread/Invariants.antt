use Rattle.run_law.proofs.law.Ends.{AreEndsOf}
use Rattle.run_law.proofs.locals.spread.Given as goal

abbrev pub invariant-loop-local : goal.invariant-loop-local
invariant-loop-local l = AreEndsOf l.locals l.local-index l.least l.greatest
