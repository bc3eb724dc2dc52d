use Rattle.std.proofs.Common.{◌≡◌, [], length, ℕ}
use Rattle.audit_sweep.proofs.records_lemmas.dispatches_lemmas.Dispatches.{items_at}
use Rattle.audit_sweep.proofs.records.dispatches.exits.Exits.empty.Given as goal

abbrev pub invariant-loop : goal.invariant-loop
invariant-loop l = ((i : ℕ) → items_at l.links.items i ≡ []) × (length l.links.items ≡ l.counter)
