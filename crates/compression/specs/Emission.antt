-- What a cluster emits.
use Rattle.std.specs.Prelude.{◌*ℤ◌, ◌+ℤ◌, pos, ℤ}
use Rattle.compression.specs.{Clusters.Cluster, Middle.{middle_of, relative}, declared.compressed.Compressed.Compressed}

-- the emission reading of a cluster: two observation windows, the time to calculate, and the middle of its points after
-- its opening
abbrev pub emission : ℤ → ℤ → Cluster → ℤ
emission ow calc c = c.opened +ℤ (pos 2 *ℤ ow) +ℤ calc +ℤ middle_of (relative c.points)

-- what is emitted for a cluster
abbrev pub compressed : ℤ → ℤ → Cluster → Compressed
compressed ow calc c = record {
  opened = record { 0 = c.opened };
  at = record { 0 = emission ow calc c };
  cycle = c.cycle;
  members = record { 0 = c.members };
}
