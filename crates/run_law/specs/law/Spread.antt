-- How far local clocks are apart.
use Rattle.std.specs.{List.{All, Contains}, Prelude.{◌+◌, ◌-ℤ◌, ◌^◌, ◌≡◌, ◌≤ℤ◌, ◌⊎◌, List, [], neg_ℤ, pos}}
use Rattle.tte_units.specs.declared.units.Units.{Units}

-- a local value in its range
pub record IsLocal (value : Units) : Type 0 where
  pub low : neg_ℤ (pos (2 ^ 61 + 2 ^ 58)) ≤ℤ value.0
  pub high : value.0 ≤ℤ pos (2 ^ 61 + 2 ^ 58)

-- the least and the greatest of these
pub record AreEnds (locals : List Units) (least greatest : Units) : Type 0 where
  pub least_there : Contains locals least
  pub greatest_there : Contains locals greatest
  pub bounds : All (λ l. (least.0 ≤ℤ l.0) × (l.0 ≤ℤ greatest.0)) locals

-- the greatest less the least
pub record IsApart (locals : List Units) (spread : Units) : Type 0 where
  pub least : Units
  pub greatest : Units
  pub ends : AreEnds locals least greatest
  pub apart : spread.0 ≡ (greatest.0 -ℤ least.0)

-- that, or 0 where there are none
abbrev pub IsSpread : List Units → Units → Type 0
IsSpread locals spread = ((locals ≡ []) × (spread.0 ≡ pos 0)) ⊎ IsApart locals spread
