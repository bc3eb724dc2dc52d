-- Correction points, and the points of frames that wait.
use Rattle.{compression.proofs.ClusterFacts.{no_cluster as none_in}, run_law.proofs.Words.{◌≡◌, Contains, List, Some, State, [], refl, sym, ℕ, ℤ}}
use Rattle.compression.specs.Clusters.{AreClusters, Cluster}
use Rattle.sync_state.{proofs.VerdictLemmas.number_in, specs.Standing.point_in}

pub point_is : (state : State) (number cycle : ℕ) → point_in state number ≡ Some cycle → number ≡ cycle
point_is state number cycle next = sym (number_in state number cycle next)

-- no points make no cluster
pub no_cluster : (ow : ℤ) (clusters : List Cluster) (cluster : Cluster) → AreClusters ow [] clusters → Contains clusters cluster → ⊥
no_cluster ow clusters cluster are there = none_in ow [] clusters cluster refl are there
