-- Numbers in decimal.
use Rattle.std.specs.{Option.{option_and_then, option_map}, Prelude.{nat_le, neg_ℤ, pos, ℕ, ℤ}, Str.Parse.digits_value}
use Rattle.std.specs.Prelude.{◌&&◌, ◌==◌, ◌^◌, ◌∷◌, List, None, Option, Some, [], bytes_eq, decimal, if◌then◌else◌}
use Rattle.tte_units.specs.{Amount.units_of, declared.{rates.Ppb.Ppb, units.Units.Units}}

-- the number whose decimal the text is, if there is one and it is at most this
abbrev pub number_up_to : ℕ → List ℕ → Option ℕ
number_up_to most text =
    let n = digits_value 10 text in
    if bytes_eq text (decimal n) && nat_le n most then Some n else None

-- the greatest time of a trace
abbrev pub latest : ℕ
latest = 2 ^ 60

-- a time in units
abbrev pub units_spelled : List ℕ → Option Units
units_spelled text = option_map units_of (number_up_to latest text)

-- the greatest magnitude of a rate, in parts per 10^9
abbrev pub fastest : ℕ
fastest = 1000000000

-- so many parts per 10^9
abbrev pub ppb_of : ℤ → Ppb
ppb_of z = record { 0 = z }

-- a rate below 0; there is no minus sign before 0
abbrev pub minus : ℕ → Option Ppb
minus n = if n == 0 then None else Some (ppb_of (neg_ℤ (pos n)))

-- a rate: a decimal, or a minus sign, which is ASCII's 45, and a decimal
abbrev pub rate_spelled : List ℕ → Option Ppb
rate_spelled [] = None
rate_spelled (first ∷ rest) =
    if first == 45 then option_and_then minus (number_up_to fastest rest)
    else option_map (λ n. ppb_of (pos n)) (number_up_to fastest (first ∷ rest))
