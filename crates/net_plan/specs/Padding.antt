use Rattle.std.specs.Prelude.{◌++◌, ◌-◌, ◌≡◌, ◌≤◌, List, drop, length, replicate, ℕ}

-- an array of this size, whose first octets are in use and whose others are zero
pub record IsPadded (size : ℕ) (octets : List ℕ) (used : ℕ) : Type 0 where
  pub full : length octets ≡ size
  pub fits : used ≤ size
  pub zeros : drop used octets ≡ replicate (size - used) 0

-- these octets with zeros behind them, up to the size
abbrev pub padded : ℕ → List ℕ → List ℕ
padded size octets = octets ++ replicate (size - length octets) 0
