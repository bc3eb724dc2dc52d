-- What becomes of a point.
use Rattle.std.specs.{List.last_or, Prelude.{option_and_then, ℕ, ℤ}}
use Rattle.std.specs.Prelude.{◌==◌, ◌^◌, Bool, List, None, Option, Some, bit_and, if◌then◌else◌, int_lt, not}
use Rattle.compression.specs.{Clusters.{Cluster, Point}, declared.taken.Taken.Taken}
use Rattle.compression.specs.declared.taken.Taken.TheVariants.{Joined, Opened, OtherCycle, Repeat}

-- whether the cluster has a point of this master
abbrev pub has_point_of : Cluster → ℕ → Bool
has_point_of c master = not (bit_and c.members (2 ^ master) == 0)

-- the cluster that is open at a later reading: the last, up to its end
abbrev pub open_at : List Cluster → ℤ → Option Cluster
open_at cs reading = option_and_then (λ c. if int_lt c.end reading then None else Some c) (last_or None cs)

-- the role of a point in the cluster that is open, if one is: one of its cycle joins where it is the first of its
-- master
abbrev pub role_in : Option Cluster → Point → Taken
role_in None p = Opened
role_in (Some c) p = if p.cycle == c.cycle then (if has_point_of c p.master then Repeat else Joined) else OtherCycle

-- the role of a point that comes after the points of these clusters
abbrev pub role : List Cluster → Point → Taken
role cs p = role_in (open_at cs p.reading) p
