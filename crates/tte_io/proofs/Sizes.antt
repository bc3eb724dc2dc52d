-- How many digits a decimal has.
use Rattle.std.proofs.Common.{◌%◌, ◌+◌, ◌/◌, ◌<◌, ◌^◌, ◌∷◌, ◌≡◌, ◌≤◌, [], ap, arith, decimal, length, length-append, ℕ}
use Rattle.std.proofs.lemmas.Fmt.{decimal_digit, decimal_step, length-decimal-le}

-- one digit more than without the last
size_step : (n : ℕ) → 10 ≤ n → n < 2 ^ 64 → length (decimal n) ≡ 1 + length (decimal (n / 10))
size_step n some bound = omega (arith, ap length (decimal_step n some bound), length-append (decimal (n / 10)) ((48 + n % 10) ∷ []))

size_two : (n : ℕ) → 100 ≤ n → n < 2 ^ 64 → length (decimal n) ≡ 2 + length (decimal (n / 100))
size_two n some bound =
    let same : n / 10 / 10 ≡ n / 100 = omega arith in
    omega (
      arith,
      size_step n (omega arith) bound,
      size_step (n / 10) (omega arith) (omega arith),
      ap
          (λ k. length (decimal k)) same,
    )

size_four : (n : ℕ) → 10000 ≤ n → n < 2 ^ 64 → length (decimal n) ≡ 4 + length (decimal (n / 10000))
size_four n some bound =
    let same : n / 100 / 100 ≡ n / 10000 = omega arith in
    omega (
      arith,
      size_two n (omega arith) bound,
      size_two (n / 100) (omega arith) (omega arith),
      ap
          (λ k. length (decimal k)) same,
    )

pub size_eight : (n : ℕ) → 100000000 ≤ n → n < 2 ^ 64 → length (decimal n) ≡ 8 + length (decimal (n / 100000000))
size_eight n some bound =
    let same : n / 10000 / 10000 ≡ n / 100000000 = omega arith in
    omega (
      arith,
      size_four n (omega arith) bound,
      size_four (n / 10000) (omega arith) (omega arith),
      ap
          (λ k. length (decimal k)) same,
    )

pub size_sixteen : (n : ℕ) → 10000000000000000 ≤ n → n < 2 ^ 64 → length (decimal n) ≡ 16 + length (decimal (n / 10000000000000000))
size_sixteen n some bound =
    let same : n / 100000000 / 100000000 ≡ n / 10000000000000000 = omega arith in
    omega (
      arith,
      size_eight n (omega arith) bound,
      size_eight (n / 100000000) (omega arith) (omega arith),
      ap
          (λ k. length (decimal k)) same,
    )

pub is_one : (n : ℕ) → n < 10 → length (decimal n) ≡ 1
is_one n few = ap length (decimal_digit n few)

pub is_two : (n : ℕ) → 10 ≤ n → n < 100 → length (decimal n) ≡ 2
is_two n some few = omega (arith, size_step n some (omega arith), is_one (n / 10) (omega arith))

pub is_three : (n : ℕ) → 100 ≤ n → n < 1000 → length (decimal n) ≡ 3
is_three n some few = omega (arith, size_step n (omega arith) (omega arith), is_two (n / 10) (omega arith) (omega arith))

pub is_four : (n : ℕ) → 1000 ≤ n → n < 10000 → length (decimal n) ≡ 4
is_four n some few = omega (arith, size_step n (omega arith) (omega arith), is_three (n / 10) (omega arith) (omega arith))

pub is_five : (n : ℕ) → 10000 ≤ n → n < 100000 → length (decimal n) ≡ 5
is_five n some few = omega (arith, size_step n (omega arith) (omega arith), is_four (n / 10) (omega arith) (omega arith))

pub is_six : (n : ℕ) → 100000 ≤ n → n < 1000000 → length (decimal n) ≡ 6
is_six n some few = omega (arith, size_step n (omega arith) (omega arith), is_five (n / 10) (omega arith) (omega arith))

pub is_seven : (n : ℕ) → 1000000 ≤ n → n < 10000000 → length (decimal n) ≡ 7
is_seven n some few = omega (arith, size_step n (omega arith) (omega arith), is_six (n / 10) (omega arith) (omega arith))

pub is_eight : (n : ℕ) → 10000000 ≤ n → n < 100000000 → length (decimal n) ≡ 8
is_eight n some few = omega (arith, size_step n (omega arith) (omega arith), is_seven (n / 10) (omega arith) (omega arith))

-- a number of 64 bits has at most 20 digits
pub size_most : (n : ℕ) → n < 2 ^ 64 → length (decimal n) ≤ 20
size_most n bound = length-decimal-le 20 n (omega arith) (omega arith) bound
