-- What a collector keeps.
use Rattle.std.specs.Prelude.{◌++◌, ◌∷◌, List, [], map, ℤ}
use Rattle.tte_units.specs.Reading.{least_reading}
use Rattle.compression.specs.{Clusters.{Cluster, Point}, Collection.{joined, opening}, Emission.emission}

-- the observation window, the time to calculate, the least reading that the next point may have, and the clusters of
-- the points so far that are not emitted
pub record Collecting : Type 0 where
  pub ow : ℤ
  pub calc : ℤ
  pub earliest : ℤ
  pub waiting : List Cluster

-- a collector that has no points
abbrev pub fresh : ℤ → ℤ → Collecting
fresh ow calc = record { ow = ow; calc = calc; earliest = least_reading; waiting = [] }

-- a collector with the collection that a point opens
abbrev pub with_opened : Collecting → Point → Collecting
with_opened v p = record v { earliest = p.reading; waiting = v.waiting ++ opening v.ow p ∷ [] }

-- these collections, of which a point joins the last
abbrev pub last_joined : ℤ → Point → List Cluster → List Cluster
last_joined ow p [] = []
last_joined ow p (c ∷ []) = joined ow c p.reading p.master ∷ []
last_joined ow p (c ∷ d ∷ cs) = c ∷ last_joined ow p (d ∷ cs)

-- a collector whose last collection a point joins
abbrev pub with_joined : Collecting → Point → Collecting
with_joined v p = record v { earliest = p.reading; waiting = last_joined v.ow p v.waiting }

-- the emission readings of the clusters that wait
abbrev pub emissions : Collecting → List ℤ
emissions v = map (emission v.ow v.calc) v.waiting
