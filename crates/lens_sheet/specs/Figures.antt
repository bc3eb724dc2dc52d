-- How a number is shown: with three places behind the point, rounded to the nearest, and a half upwards.
use Rattle.std.specs.{Fmt.decimal, Prelude.{◌%◌, ◌*◌, ◌++◌, ◌+◌, ◌/◌, ◌<◌, ◌^◌, ◌≤◌, List, codes, ℕ}}

-- how many thousandths so many parts are, of which one has so many: the nearest number, and of two the upper one
abbrev pub thousandths : ℕ → ℕ → ℕ
thousandths parts one = (2 * 1000 * parts + one) / (2 * one)

-- the number of thousandths is the nearest to the parts, and of two the upper one
pub record IsNearest (parts one n : ℕ) : Type 0 where
  pub not_above : 2 * n * one ≤ 2 * 1000 * parts + one
  pub not_below : 2 * 1000 * parts + one < 2 * n * one + 2 * one

-- so many thousandths, with three places behind the point
unfoldable pub places_text : ℕ → List ℕ
places_text n =
    decimal (n / 1000)
    ++ (codes "." ++ (decimal (n / 100 % 10) ++ (decimal (n / 10 % 10) ++ decimal (n % 10))))

-- so many parts, of which one has so many
abbrev pub figure : ℕ → ℕ → List ℕ
figure parts one = places_text (thousandths parts one)

-- units of 2^-16 ns in microseconds
abbrev pub us : ℕ → List ℕ
us units = figure units (1000 * 2 ^ 16)

-- units of 2^-16 ns in nanoseconds
abbrev pub ns : ℕ → List ℕ
ns units = figure units (2 ^ 16)

-- units of 2^-16 ns in minutes
abbrev pub minutes : ℕ → List ℕ
minutes units = figure units (60 * 10 ^ 9 * 2 ^ 16)

-- parts of 10^9 in parts of 10^6
abbrev pub ppm : ℕ → List ℕ
ppm rate = figure rate 1000

-- so much of the whole in percent
abbrev pub percent : ℕ → ℕ → List ℕ
percent part whole = figure (100 * part) whole
