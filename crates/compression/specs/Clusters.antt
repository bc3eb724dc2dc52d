-- Clusters of permanence points.
use Rattle.std.specs.{List.list_any, Prelude.{if◌then◌else◌, int_le, int_lt, length, map, nat_le, pos, ℕ, ℤ, ⊤}}
use Rattle.std.specs.Prelude.{◌&&◌, ◌*ℤ◌, ◌++◌, ◌+ℤ◌, ◌==◌, ◌^◌, ◌∷◌, ◌≡◌, Bool, List, [], bit_or, filter, fold}

-- a permanence point, the master whose frame it is, and the frame's cycle
pub record Point : Type 0 where
  pub reading : ℤ
  pub master : ℕ
  pub cycle : ℕ

-- the point of a master's frame
abbrev pub point_at : ℤ → ℕ → ℕ → Point
point_at reading master cycle = record { reading = reading; master = master; cycle = cycle }

-- those of one cycle from one reading to another, both included
abbrev pub of_cycle_within : ℕ → ℤ → ℤ → List Point → List Point
of_cycle_within cycle from to ps = filter (λ q. q.cycle == cycle && (int_le from q.reading && int_le q.reading to)) ps

-- those beyond a reading
abbrev pub beyond : ℤ → List Point → List Point
beyond end ps = filter (λ q. int_lt end q.reading) ps

-- whether one of them is of this master
abbrev pub has_master : List Point → ℕ → Bool
has_master ps master = list_any (λ q. q.master == master) ps

-- these, and q where none of them is of its master
abbrev pub with_first : List Point → Point → List Point
with_first ps q = if has_master ps q.master then ps else ps ++ q ∷ []

-- the first point of each master, in order
abbrev pub firsts : List Point → List Point
firsts ps = fold with_first [] ps

-- their masters, each as a bit
abbrev pub members_of : List Point → ℕ
members_of ps = fold (λ members q. bit_or members (2 ^ q.master)) 0 ps

-- where the cluster that o opens ends: after one observation window, or after two where the first has points of its
-- cycle of two masters or more
abbrev pub end_of : ℤ → Point → List Point → ℤ
end_of ow o ps =
    let masters = length (firsts (of_cycle_within o.cycle o.reading (o.reading +ℤ ow) ps)) in
    if nat_le 2 masters then o.reading +ℤ (pos 2 *ℤ ow) else o.reading +ℤ ow

-- a cluster: from where to where it goes, its cycle, the points that count, and the masters that they are of
pub record Cluster : Type 0 where
  pub opened : ℤ
  pub end : ℤ
  pub cycle : ℕ
  pub points : List ℤ
  pub members : ℕ

-- the cluster that o opens among these points: of its cycle, those up to the end; the first of each master counts
abbrev pub cluster_of : ℤ → Point → List Point → Cluster
cluster_of ow o ps =
    let end = end_of ow o ps in
    let counted = firsts (of_cycle_within o.cycle o.reading end ps) in
    record {
      opened = o.reading;
      end = end;
      cycle = o.cycle;
      points = map (λ q. q.reading) counted;
      members = members_of counted;
    }

-- the clusters of a list of points: the first point opens one, and the first beyond its end opens the next
abbrev pub AreClusters : ℤ → List Point → List Cluster → Type 0
AreClusters ow [] [] = ⊤
AreClusters ow [] (c ∷ cs) = ⊥
AreClusters ow (o ∷ ps) [] = ⊥
AreClusters ow (o ∷ ps) (c ∷ cs) = (c ≡ cluster_of ow o (o ∷ ps)) × AreClusters ow (beyond c.end ps) cs
