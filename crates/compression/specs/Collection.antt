-- One collection as points come.
use Rattle.std.specs.Prelude.{if◌then◌else◌, ◌*ℤ◌, ◌++◌, ◌+ℤ◌, ◌<◌, ◌^◌, ◌∷◌, ◌≡◌, ◌≤ℤ◌, [], bit_or, false, int_le}
use Rattle.std.specs.Prelude.{length, pos, ℕ, ℤ}
use Rattle.tte_units.specs.Reading.{greatest_reading, least_reading}
use Rattle.compression.specs.{Ascent.MayFollow, Clusters.{Cluster, Point}, Role.has_point_of}

-- the collection that a point opens
abbrev pub opening : ℤ → Point → Cluster
opening ow p = record {
  opened = p.reading;
  end = p.reading +ℤ ow;
  cycle = p.cycle;
  points = p.reading
      ∷ [];
  members = 2 ^ p.master;
}

-- where a collection ends with the point of a further master: one that lies in the first window adds the second
abbrev pub joined_end : ℤ → Cluster → ℤ → ℤ
joined_end ow c reading = if int_le reading (c.opened +ℤ ow) then c.opened +ℤ (pos 2 *ℤ ow) else c.end

-- a collection with the point of a further master
abbrev pub joined : ℤ → Cluster → ℤ → ℕ → Cluster
joined ow c reading master =
    record c {
      end = joined_end ow c reading;
      points = c.points ++ reading
          ∷ [];
      members = bit_or c.members (2 ^ master);
    }

-- a collection that is open can take a point: its end can be told, and there is room for the point of a further master,
-- which is not below the last
pub record CanTake (c : Cluster) (reading : ℤ) (master : ℕ) : Type 0 where
  pub low : least_reading ≤ℤ c.opened
  pub high : c.opened ≤ℤ greatest_reading
  pub room : has_point_of c master ≡ false → length c.points < 8
  pub order : MayFollow c.points reading
