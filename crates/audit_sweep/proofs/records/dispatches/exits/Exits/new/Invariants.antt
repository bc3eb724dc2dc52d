use Rattle.audit_sweep.proofs.records_lemmas.dispatches_lemmas.Dispatches.{AreFirstExits}
use Rattle.audit_sweep.proofs.records.dispatches.exits.Exits.new.Given as goal

abbrev pub invariant-loop-place : goal.invariant-loop-place
invariant-loop-place l = AreFirstExits l.network l.place l.exits
