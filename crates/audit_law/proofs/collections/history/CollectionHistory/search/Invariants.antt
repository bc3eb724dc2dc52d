use Rattle.std.{proofs.Common.{◌-◌, ◌<◌, ◌≡◌, ◌≤◌, Some, length, ℕ}, specs.Prelude.{◌<ℤ◌, ◌≤ℤ◌, slice_get}}
use Rattle.audit_law.specs.{collections.Kept.kept_in, declared.collections.kept.KeptCluster.KeptCluster}
use Rattle.audit_law.proofs.collections.history.CollectionHistory.search.Given as goal

abbrev pub invariant-halves : goal.invariant-halves
invariant-halves l =
    (l.low ≤ l.high) × (l.high ≤ length (kept_in l.fn.self (Some l.fn.row)))
    × ((k : ℕ) (d : KeptCluster) → k < l.low → slice_get (kept_in l.fn.self (Some l.fn.row)) k ≡ Some d → d.opened <ℤ l.fn.opened)
    × ((k : ℕ) (d : KeptCluster) → l.high ≤ k → slice_get (kept_in l.fn.self (Some l.fn.row)) k ≡ Some d → l.fn.opened ≤ℤ d.opened)

abbrev pub decreases-halves : goal.decreases-halves
decreases-halves l = l.high - l.low
