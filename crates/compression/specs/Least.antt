-- The least of numbers.
use Rattle.std.specs.Prelude.{◌≤ℤ◌, All, Contains, List, ℤ}

-- a number that is in the list, and than which none there is less
pub record IsLeast (least : ℤ) (xs : List ℤ) : Type 0 where
  pub there : Contains xs least
  pub bound : All (λ x. least ≤ℤ x) xs
