-- What is due behind a run.
use Rattle.std.specs.Prelude.{List, ℕ}
use Rattle.run_law.specs.records.Order.{IsBefore}

-- given all of the list, nothing that is due and not before the mark is before the place
abbrev pub NoneDueBefore : {N : Type 0} → (N → List ℕ) → (List N → N → Type 0) → List ℕ → List N → List ℕ → Type 0
NoneDueBefore {N} place IsDue mark ns p =
    (y : N) → IsDue ns y → (IsBefore (place y) mark → ⊥) → IsBefore (place y) p → ⊥
