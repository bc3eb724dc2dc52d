-- Units in a range, as whole numbers.
use Rattle.{net_plan.specs.Ranges.IsWithin, std.proofs.Common.{◌≡◌, ◌≤◌, arith, pos, ℕ}, tte_units.specs.{Amount.amount, declared.units.Units.Units}}
use Rattle.std.proofs.lemmas.Int.{ints}

pub amount_within : {low high : ℕ} {units : Units} → IsWithin low high units
    → (units.0 ≡ pos (amount units)) × (low ≤ amount units) × (amount units ≤ high)
amount_within h =
    (omega (arith, ints, h.least, h.most), omega (arith, ints, h.least, h.most), omega (arith, ints, h.least, h.most))
