-- What a point does to a history.
use Rattle.std.specs.Prelude.{◌++◌, ◌+◌, ◌∷◌, ◌≡◌, List, Some, [], drop, length, take, ℕ, ℤ}
use Rattle.audit_law.specs.collections.{Gathered.EndsWith, Kept.{History, cluster_kept, kept_in}}
use Rattle.audit_law.specs.declared.collections.{gathering.{Gathering.Gathering, Row.Row}, kept.KeptCluster.KeptCluster}
use Rattle.compression.specs.{Clusters.Point, Collection.{joined, opening}}

-- the history keeps what it had, and only adds
pub record Grows (old new : History) : Type 0 where
  pub ow : new.ow ≡ old.ow
  pub calc : new.calc ≡ old.calc
  pub later_points : List ℤ
  pub counted : new.counted ≡ old.counted ++ later_points
  pub later : List KeptCluster
  pub closed : new.closed ≡ old.closed ++ later

-- the clusters of the gathering are the last that the history keeps: so many from this place
pub record Closes (old new : History) (g : Gathering) (from count : ℕ) : Type 0 where
  pub ends : (from + count) ≡ length new.closed
  pub kept : take count (drop from new.closed) ≡ kept_in old g.row

-- the point opens a cluster behind those of the gathering
pub record Opens (old new : History) (g : Gathering) (p : Point) (result : Gathering) : Type 0 where
  pub row : Row
  pub is : result.row ≡ Some row
  pub ends : EndsWith new row
  pub kept : kept_in new (Some row) ≡ kept_in old g.row ++ row.last ∷ []
  pub cluster : cluster_kept new.counted row.last ≡ opening old.ow p

-- the point joins the last cluster of the row
pub record Joins (old new : History) (before : Row) (reading : ℤ) (master : ℕ) (result : Gathering) : Type 0 where
  pub row : Row
  pub is : result.row ≡ Some row
  pub ends : EndsWith new row
  pub front : List KeptCluster
  pub were : kept_in old (Some before) ≡ front ++ before.last ∷ []
  pub are : kept_in new (Some row) ≡ front ++ row.last ∷ []
  pub cluster : cluster_kept new.counted row.last ≡ joined old.ow (cluster_kept old.counted before.last) reading master
