-- Collections as points come.
use Rattle.{compression.specs.{Clusters.Cluster, Collection.joined_end}, std.proofs.{Common.{◌*ℤ◌, ◌+ℤ◌, ◌≡◌, ◌≤ℤ◌, arith, pos, ℤ}, lemmas.Int.ints}}

-- a point in the first window adds the second
pub joined_end-first : (ow : ℤ) (c : Cluster) (reading : ℤ) → reading ≤ℤ (c.opened +ℤ ow) → joined_end ow c reading ≡ c.opened +ℤ (pos 2 *ℤ ow)
joined_end-first ow c reading first = grind (arith, ints)
