-- Granules of global time, and the floor of a local value in them.
use Rattle.std.specs.{Int.int_div_euclid, Prelude.{◌*ℤ◌, ◌*◌, ◌+ℤ◌, ◌<ℤ◌, ◌≤ℤ◌, pos, ℕ, ℤ}}
use Rattle.{net_plan.specs.declared.network.Network.Network, tte_units.specs.Amount.amount}

-- the least granule of a network: four times its precision
abbrev pub least_granule : Network → ℕ
least_granule network = 4 * amount network.precision

-- the value in granules, rounded down, also below 0
abbrev pub stamp_of : ℕ → ℤ → ℤ
stamp_of granule value = int_div_euclid value (pos granule)

-- so many granules are at most the value, and one more is above it
pub record IsFloor (granule : ℕ) (value stamp : ℤ) : Type 0 where
  pub least : (stamp *ℤ pos granule) ≤ℤ value
  pub most : value <ℤ ((stamp *ℤ pos granule) +ℤ pos granule)
