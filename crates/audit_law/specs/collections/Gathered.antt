-- What a gathering stands for in a history.
use Rattle.std.specs.Prelude.{◌+◌, ◌<◌, ◌≡◌, ◌≤◌, Contains, IfSome, List, length}
use Rattle.{audit_law.specs.collections.Kept.{History, IsCounted, clusters_in}, compression.specs.Emission.compressed}
use Rattle.audit_law.specs.declared.collections.gathering.{Gathering.Gathering, Row.Row}
use Rattle.compression.specs.{Clusters.{AreClusters, Cluster, Point}, declared.compressed.Compressed.Compressed}

-- the history has the clusters of the row
pub record HasRow (h : History) (row : Row) : Type 0 where
  pub closed : (row.from + row.count) ≤ length h.closed
  pub last : IsCounted h.counted row.last

-- the history has the clusters of the gathering
abbrev pub IsHeld : History → Gathering → Type 0
IsHeld h g = IfSome g.row (HasRow h)

-- the row has clusters up to the last of the history, and the points of its last cluster are the last that counted
pub record EndsWith (h : History) (row : Row) : Type 0 where
  pub closed : (row.from + row.count) ≡ length h.closed
  pub some : 0 < row.last.count
  pub counted : (row.last.from + row.last.count) ≡ length h.counted

-- nothing came to the history behind the gathering
abbrev pub IsLatest : History → Gathering → Type 0
IsLatest h g = IfSome g.row (EndsWith h)

-- the gathering stands for these points: its clusters are theirs
pub record Gathers (h : History) (g : Gathering) (points : List Point) : Type 0 where
  pub held : IsHeld h g
  pub are : AreClusters h.ow points (clusters_in h g)

-- the gathering stands for points
abbrev pub IsGathered : History → Gathering → Type 0
IsGathered h g = (points : List Point) × Gathers h g points

-- this is what is emitted for a cluster of the gathering
abbrev pub Sends : History → Gathering → Compressed → Type 0
Sends h g sent = (c : Cluster) × Contains (clusters_in h g) c × (sent ≡ compressed h.ow h.calc c)
