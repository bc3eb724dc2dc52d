-- What is within its range.
use Rattle.{net_plan.specs.Ranges.IsWithin, std.proofs.lemmas.Int.ints, tte_units.specs.Amount.amount}
use Rattle.{std.proofs.Common.{◌≡◌, ◌≤ℤ◌, ◌≤◌, arith, pos, ℕ, ℤ}, tte_units.{proofs.general_lemmas.Integers.from_zero, specs.declared.units.Units.Units}}

number_most : (high n : ℕ) (z : ℤ) → z ≡ pos n → z ≤ℤ pos high → n ≤ high
number_most high n z e h = omega (arith, ints)

pub amount_most : {low high : ℕ} {u : Units} → IsWithin low high u → amount u ≤ high
amount_most {low} {high} {u} h = number_most high (amount u) u.0 (from_zero low u.0 h.least) h.most

-- a number in a range is its amount
pub its_amount : {low high : ℕ} {u : Units} → IsWithin low high u → u.0 ≡ pos (amount u)
its_amount {low} {u} h = from_zero low u.0 h.least
