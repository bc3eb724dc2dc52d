-- How a collector stands to the points that it has taken and what it has emitted.
use Rattle.std.specs.Prelude.{◌++◌, ◌<ℤ◌, ◌≡◌, All, List, drop, length, map, take}
use Rattle.compression.specs.{Clusters.{AreClusters, Cluster, Point}, Collecting.Collecting, Emission.compressed}
use Rattle.compression.specs.declared.compressed.Compressed.{Compressed}

-- the clusters of the points are those emitted, in their order, and those that wait; no later point can reach into one
-- emitted
pub record StandsForPoints (v : Collecting) (points : List Point) (emitted : List Compressed) : Type 0 where
  pub done : List Cluster
  pub clusters : AreClusters v.ow points (done ++ v.waiting)
  pub given : emitted ≡ map (compressed v.ow v.calc) done
  pub past : All (λ c. c.end <ℤ v.earliest) done

-- of the clusters of the points those emitted are the first, as they were emitted, and those that wait are the others
abbrev pub EmittedInOrder : Type 0
EmittedInOrder =
    (v : Collecting) (points : List Point) (emitted : List Compressed) (clusters : List Cluster)
    → StandsForPoints v points emitted → AreClusters v.ow points clusters
    → (emitted ≡ map (compressed v.ow v.calc) (take (length emitted) clusters))
    × (v.waiting ≡ drop (length emitted) clusters)
