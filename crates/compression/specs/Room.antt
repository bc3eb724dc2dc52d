-- Room for the point of each master.
use Rattle.std.specs.Prelude.{◌<◌, All, Contains, IsFalse, List, length, ℕ, ℤ}
use Rattle.compression.specs.{Clusters.{AreClusters, Cluster, Point}, Role.has_point_of}

-- where all points are of these masters, a cluster without a point of one of them has fewer points than there are
-- masters
abbrev pub RoomForEachMaster : Type 0
RoomForEachMaster =
    (ow : ℤ) (ps : List Point) (cs : List Cluster) (masters : List ℕ) → AreClusters ow ps cs
    → All (λ p. Contains masters p.master) ps
    → (c : Cluster) → Contains cs c → (m : ℕ) → Contains masters m → IsFalse (has_point_of c m)
    → length c.points < length masters
