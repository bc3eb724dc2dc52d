use Rattle.std.specs.Prelude.{◌-ℤ◌, ◌<ℤ◌, ◌^◌, neg_ℤ, pos, ℤ}

-- what the local clock should have shown at the point, less what it showed: the point plus the adjustment
abbrev pub deviation_of : ℤ → ℤ → ℤ → ℤ
deviation_of expected point adjustment = (expected -ℤ point) -ℤ adjustment

-- it lies strictly between -2^61 and 2^61
abbrev pub IsSmall : ℤ → Type 0
IsSmall z = (neg_ℤ (pos (2 ^ 61)) <ℤ z) × (z <ℤ pos (2 ^ 61))
