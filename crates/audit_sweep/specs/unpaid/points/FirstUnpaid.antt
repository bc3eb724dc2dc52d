-- The first of what is owed, in the order of time, that is not paid.
use Rattle.std.specs.Prelude.{◌+◌, ◌<◌, ◌≤◌, MatchOption, Option, ℕ}

-- all that is owed at times later than the first and earlier than the second is paid
abbrev pub ArePaid : {C : Type 0} → (Owes Paid : ℕ → C → Type 0) → ℕ → ℕ → Type 0
ArePaid {C} Owes Paid after before = (t : ℕ) (o : C) → after < t → t < before → Owes t o → Paid t o

-- at this time, later than `after` and up to `until`, something is owed that is not paid, and nothing before
pub record IsFirstUnpaid {C : Type 0} (Owes Paid : ℕ → C → Type 0) (after until time : ℕ) : Type 0 where
  pub later : after < time
  pub timely : time ≤ until
  pub what : C
  pub owes : Owes time what
  pub unpaid : Paid time what → ⊥
  pub paid_before : ArePaid Owes Paid after time

-- the first such time, or none where all is paid
abbrev pub TellsFirstUnpaid : {C : Type 0} → (Owes Paid : ℕ → C → Type 0) → ℕ → ℕ → Option ℕ → Type 0
TellsFirstUnpaid {C} Owes Paid after until result =
    MatchOption result (ArePaid Owes Paid after (until + 1)) (IsFirstUnpaid Owes Paid after until)
