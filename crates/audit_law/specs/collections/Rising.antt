-- Kept clusters in the order of their openings.
use Rattle.std.specs.Prelude.{◌<ℤ◌, ◌<◌, ◌≡◌, ◌≤ℤ◌, ◌≤◌, List, Some, length, slice_get, ℕ, ℤ}
use Rattle.audit_law.specs.declared.collections.kept.KeptCluster.{KeptCluster}

-- each opens after those before it
abbrev pub IsRising : List KeptCluster → Type 0
IsRising ks = (i j : ℕ) (c d : KeptCluster) → i < j → slice_get ks i ≡ Some c → slice_get ks j ≡ Some d
    → c.opened <ℤ d.opened

-- those before the place open before the reading, and the others do not
pub record IsPlaceFor (ks : List KeptCluster) (opened : ℤ) (place : ℕ) : Type 0 where
  pub within : place ≤ length ks
  pub before : (k : ℕ) (c : KeptCluster) → k < place → slice_get ks k ≡ Some c → c.opened <ℤ opened
  pub others : (k : ℕ) (c : KeptCluster) → place ≤ k → slice_get ks k ≡ Some c → opened ≤ℤ c.opened
