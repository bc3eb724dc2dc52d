-- Points of a cluster.
use Rattle.std.{proofs.{Common.{◌*ℤ◌, ◌+ℤ◌, ◌∷◌, ◌≡◌, ◌≤ℤ◌, List, [], arith, length, pos, ℤ}, lemmas.Int.ints}, specs.List.Contains}
use Rattle.compression.{proofs.Growth.in_none, specs.Clusters.{AreClusters, Cluster, Point, end_of}}

pub ends_soon : (ow : ℤ) (o : Point) (ps : List Point) → pos 0 ≤ℤ ow → end_of ow o ps ≤ℤ (o.reading +ℤ (pos 2 *ℤ ow))
ends_soon ow o ps some = grind (arith, length, ints)

pub no_cluster : (ow : ℤ) (ps : List Point) (cs : List Cluster) (c : Cluster) → ps ≡ [] → AreClusters ow ps cs → Contains cs c → ⊥
no_cluster ow ps [] c none are at = in_none c at
no_cluster ow [] (d ∷ cs) c none are at = are
no_cluster ow (p ∷ ps) (d ∷ cs) c none are at = cc
