-- Amounts of time.
use Rattle.{std.proofs.Common.{◌∙◌, ◌≡◌, ◌≤ℤ◌, ap, pos, ℕ}, tte_units.specs.{Amount.{amount, units_of}, declared.units.Units.Units}}
use Rattle.tte_units.proofs.general_lemmas.Integers.{whole}

pub units_are : (units : Units) (n : ℕ) → pos 0 ≤ℤ units.0 → amount units ≡ n → units ≡ units_of n
units_are units n begun same = rw (whole units.0 begun ∙ ap pos same)
