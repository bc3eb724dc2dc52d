-- What it is to be the run, for records of any kinds: each is due given those before it, and each that
-- is due is there.
use Rattle.std.specs.Prelude.{◌++◌, ◌∷◌, ◌≡◌, List, ℕ}
use Rattle.run_law.specs.records.Order.{AllBefore, IsBefore, IsIn, NoneBefore}

-- each record stands behind those before it, and is due given them
abbrev pub IsFounded : {N : Type 0} → (N → List ℕ) → (List N → N → Type 0) → List N → Type 0
IsFounded {N} place IsDue ns = (ps qs : List N) (x : N) → ns ≡ ps ++ x ∷ qs → AllBefore place ps (place x) × IsDue ps x

-- each record that is due before the mark, given those of the list before it, has one at its place
abbrev pub IsFull : {N : Type 0} → (N → List ℕ) → (List N → N → Type 0) → List ℕ → List N → Type 0
IsFull {N} place IsDue mark ns =
    (ps qs : List N) (x : N) → ns ≡ ps ++ qs → AllBefore place ps (place x) → NoneBefore place qs (place x)
    → IsDue ps x → IsBefore (place x) mark → (m : N) × IsIn m ns × (place m ≡ place x)

-- the list is the run up to the mark
pub record IsRun {N : Type 0} (place : N → List ℕ) (IsDue : List N → N → Type 0) (mark : List ℕ)
    (ns : List N) : Type 0 where
  pub founded : IsFounded place IsDue ns
  pub full : IsFull place IsDue mark ns
  pub within : AllBefore place ns mark

-- two records that are due at one place, given the same, are one
abbrev pub IsDetermined : {N : Type 0} → (N → List ℕ) → (List N → N → Type 0) → Type 0
IsDetermined {N} place IsDue = (ps : List N) (x y : N) → IsDue ps x → IsDue ps y → place x ≡ place y → x ≡ y

-- what is due before the later place, given a front of the list, is before the mark
pub record NothingDueUpTo {N : Type 0} (place : N → List ℕ) (IsDue : List N → N → Type 0) (mark : List ℕ) (ns : List N)
    (later : List ℕ) : Type 0 where
  pub gap : (ps qs : List N) (y : N) → ns ≡ ps ++ qs → AllBefore place ps (place y) → NoneBefore place qs (place y)
      → IsDue ps y → IsBefore (place y) later → IsBefore (place y) mark

-- the record is the next of a run: it stands behind all of it and is due given it, and no other is due before it
pub record IsNextOf {N : Type 0} (place : N → List ℕ) (IsDue : List N → N → Type 0) (mark : List ℕ) (ns : List N)
    (x : N) : Type 0 where
  pub behind_all : AllBefore place ns (place x)
  pub due : IsDue ns x
  pub first : NothingDueUpTo place IsDue mark ns (place x)
