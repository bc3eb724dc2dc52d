-- What was passed on of what was put.
use Rattle.std.proofs.{Common.{◌++◌, ◌∙◌, ◌≡◌, ◌≤◌, List, Some, [], append-nil, drop, length, sym, take, ℕ}, lemmas.List.{take-append-drop, take-append-le}}
use Rattle.tte_io.specs.Told.{PassesSome}

module _ (passed written : List ℕ) (count : ℕ) (front : take count written ≡ passed) where
  -- no more of it
  pub passes_none : PassesSome (Some passed) (Some passed) (Some written)
  passes_none = record {
    more = [];
    grown = sym (append-nil passed);
    held = drop count written;
    front = sym (take-append-drop count written) ∙ (rw front);
  }

  -- all of it
  pub passes_all : PassesSome (Some passed) (Some written) (Some written)
  passes_all = record {
    more = drop count written;
    grown = sym (take-append-drop count written) ∙ (rw front);
    held = [];
    front = sym (append-nil written);
  }

-- no more of it, where more was put
pub passed_still : (written more : List ℕ) (count : ℕ) → count ≤ length written → take count (written ++ more) ≡ take count written
passed_still written more count within = take-append-le count written more within
