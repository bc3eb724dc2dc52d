-- What a history keeps, and the clusters that it stands for.
use Rattle.std.specs.Prelude.{◌++◌, ◌+◌, ◌<◌, ◌∷◌, ◌≤◌, List, None, Option, Some, [], drop, length, map, take, ℤ}
use Rattle.compression.specs.{Clusters.Cluster, Emission.emission, declared.compressed.Compressed.Compressed}
use Rattle.audit_law.specs.declared.collections.{emitted.Emitted.Emitted, gathering.{Gathering.Gathering, Row.Row}}
use Rattle.audit_law.specs.declared.collections.kept.KeptCluster.{KeptCluster}

-- the observation window, the time to calculate, the points that counted, and the clusters behind which others opened
pub record History : Type 0 where
  pub ow : ℤ
  pub calc : ℤ
  pub counted : List ℤ
  pub closed : List KeptCluster

-- the points of a cluster that is kept
abbrev pub points_kept : List ℤ → KeptCluster → List ℤ
points_kept counted k = take k.count (drop k.from counted)

-- a cluster that is kept
abbrev pub cluster_kept : List ℤ → KeptCluster → Cluster
cluster_kept counted k = record {
  opened = k.opened;
  end = k.end;
  cycle = k.cycle;
  points = points_kept counted k;
  members = k.members;
}

-- a row's clusters: those before the last, and the last
abbrev pub kept_in : History → Option Row → List KeptCluster
kept_in h None = []
kept_in h (Some row) = take row.count (drop row.from h.closed) ++ row.last ∷ []

-- the clusters of a gathering, in the order of their openings
abbrev pub clusters_in : History → Gathering → List Cluster
clusters_in h g = map (cluster_kept h.counted) (kept_in h g.row)

-- what is emitted for a cluster
abbrev pub emitted : ℤ → ℤ → Cluster → Emitted
emitted ow calc c = record { opened = c.opened; at = emission ow calc c; cycle = c.cycle; members = c.members }

-- the numbers of what was sent
abbrev pub as_emitted : Compressed → Emitted
as_emitted sent = record { opened = sent.opened.0; at = sent.at.0; cycle = sent.cycle; members = sent.members.0 }

-- what is emitted for the clusters of a gathering, in their order
abbrev pub emissions_in : History → Gathering → List Emitted
emissions_in h g = map (emitted h.ow h.calc) (clusters_in h g)

-- the cluster has points, and the history has them
pub record IsCounted (counted : List ℤ) (k : KeptCluster) : Type 0 where
  pub some : 0 < k.count
  pub within : (k.from + k.count) ≤ length counted
