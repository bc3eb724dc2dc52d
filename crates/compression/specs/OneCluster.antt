-- Where the points of one cycle stand in one cluster.
use Rattle.std.specs.Prelude.{◌+ℤ◌, ◌≡◌, ◌≢◌, ◌≤ℤ◌, Contains, List, map, pos, ℕ, ℤ}
use Rattle.compression.specs.{Ascent.IsAscending, Clusters.{AreClusters, Cluster, Point}}

-- the points in the order of their readings
abbrev pub AreInOrder : List Point → Type 0
AreInOrder ps = IsAscending (map (λ p. p.reading) ps)

-- the point lies in the time of the cluster
pub record LiesIn (c : Cluster) (p : Point) : Type 0 where
  pub low : c.opened ≤ℤ p.reading
  pub high : p.reading ≤ℤ c.end

-- the cluster holds the point, which is of its cycle
abbrev pub Holds : Cluster → Point → Type 0
Holds c p = (p.cycle ≡ c.cycle) × LiesIn c p

-- the point is dropped: it lies in the time of a cluster of another cycle
abbrev pub IsDropped : List Cluster → Point → Type 0
IsDropped cs p = (c : Cluster) × Contains cs c × (p.cycle ≢ c.cycle) × LiesIn c p

-- a point of a cycle and of a master other than b, which is not dropped
pub record IsKept (ps : List Point) (cs : List Cluster) (b cycle : ℕ) (p : Point) : Type 0 where
  pub there : Contains ps p
  pub other : p.master ≢ b
  pub same : p.cycle ≡ cycle
  pub kept : ¬ IsDropped cs p

-- where those that are kept lie within one observation window of each other, one cluster holds them all, wherever the
-- points of b are
abbrev pub OneCluster : Type 0
OneCluster =
    (ow : ℤ) (ps : List Point) (cs : List Cluster) (b cycle : ℕ) → pos 0 ≤ℤ ow → AreInOrder ps → AreClusters ow ps cs
    → ((p q : Point) → IsKept ps cs b cycle p → IsKept ps cs b cycle q → p.reading ≤ℤ (q.reading +ℤ ow))
    → (p : Point) → IsKept ps cs b cycle p → (c : Cluster) × Contains cs c
    × ((q : Point) → IsKept ps cs b cycle q → Holds c q)

-- each point lies in the time of one cluster, and of no other
abbrev pub OneTime : Type 0
OneTime = (ow : ℤ) (ps : List Point) (cs : List Cluster) → pos 0 ≤ℤ ow → AreInOrder ps → AreClusters ow ps cs
    → (p : Point) → Contains ps p → (c : Cluster) × Contains cs c × LiesIn c p
    × ((d : Cluster) → Contains cs d → LiesIn d p → d ≡ c)

-- a list of points has one list of clusters
abbrev pub OneListOfClusters : Type 0
OneListOfClusters =
    (ow : ℤ) (ps : List Point) → (cs : List Cluster) × AreClusters ow ps cs
    × ((ds : List Cluster) → AreClusters ow ps ds → ds ≡ cs)
