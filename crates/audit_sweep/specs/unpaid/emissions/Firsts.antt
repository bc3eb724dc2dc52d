-- The first time at which something is owed that is not paid.
use Rattle.std.specs.Prelude.{◌≤◌, MatchOption, Option, ℕ}

-- at this time, the first such, something is owed that is not paid
pub record IsFirstOf {O : Type 0} (Owes : O → ℕ → Type 0) (IsPaid : O → Type 0) (time : ℕ) : Type 0 where
  pub debt : O
  pub owed : Owes debt time
  pub unpaid : IsPaid debt → ⊥
  pub first : (other : O) (t : ℕ) → Owes other t → (IsPaid other → ⊥) → time ≤ t

-- this is the first such time; none where all that is owed is paid
abbrev pub TellsFirstOf : {O : Type 0} → (O → ℕ → Type 0) → (O → Type 0) → Option ℕ → Type 0
TellsFirstOf {O} Owes IsPaid first = MatchOption first ((o : O) (t : ℕ) → Owes o t → IsPaid o) (IsFirstOf Owes IsPaid)
