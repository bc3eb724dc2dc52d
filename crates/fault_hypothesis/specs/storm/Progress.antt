-- How far a storm is.
use Rattle.std.specs.Prelude.{ℕ}

-- the seed of the storm, its cycles, and how many events it gave
pub record Progress : Type 0 where
  pub seed : ℕ
  pub cycles : ℕ
  pub given : ℕ
