-- The fields of a frame. All of them are big-endian (IEEE 802.3).
use Rattle.std.specs.Prelude.{List, drop, ℕ}
use Rattle.byteorder.specs.Endian.{big_number}

-- the number that n octets from an offset on spell, the greatest first
abbrev pub field : ℕ → ℕ → List ℕ → ℕ
field at n octets = big_number n (drop at octets)
