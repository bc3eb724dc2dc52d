-- Ranges of the numbers of the whole document.
use Rattle.{net_plan.specs.Ranges.IsWithin, std.specs.{Option.unwrap_or, Prelude.IfSome}, tte_units.specs.Amount.units_of}
use Rattle.{std.proofs.Common.{◌≡◌, ◌≤◌, ◌⊎◌, None, Option, Some, arith, inl, inr, refl, suc, zero, ℕ}, tte_units.specs.declared.units.Units.Units}

pub one_or_two : (n : ℕ) → 1 ≤ n → n ≤ 2 → (n ≡ 1) ⊎ (n ≡ 2)
one_or_two zero a b = absurd (omega arith)
one_or_two (suc zero) a b = inl refl
one_or_two (suc (suc zero)) a b = inr refl
one_or_two (suc (suc (suc n))) a b = absurd (omega arith)

-- an absent grain is 1
pub grain_within : (grain : Option Units) → IfSome grain (IsWithin 1 1048576) → IsWithin 1 1048576 (unwrap_or grain (units_of 1))
grain_within None h = record { least = omega arith; most = omega arith }
grain_within (Some u) h = h
