use Rattle.std.specs.Prelude.{◌*◌, ◌+◌, ◌/◌, ◌^◌, ℕ}

-- the relative drift of two clocks of rates within rho over v, and four roundings of one unit
abbrev pub slip_of : ℕ → ℕ → ℕ
slip_of rho v = 2 * rho * v / 10 ^ 9 + 4
