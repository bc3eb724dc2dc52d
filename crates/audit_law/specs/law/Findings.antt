-- What may be found wrong with a list of records, of any kinds, of which it is asked whether it is the run.
use Rattle.std.specs.Prelude.{◌++◌, ◌+◌, ◌∷◌, ◌≡◌, List, length, ℕ}
use Rattle.run_law.specs.records.Order.{AllBefore, IsBefore, IsIn, NoneBefore}

-- the record stands behind those before it, is due given them, and is before the mark
pub record IsSound {N : Type 0} (place : N → List ℕ) (IsDue : List N → N → Type 0) (mark : List ℕ) (before : List N)
    (x : N) : Type 0 where
  pub behind_all : AllBefore place before (place x)
  pub due : IsDue before x
  pub within : IsBefore (place x) mark

-- each record of the list is sound
abbrev pub AreSound : {N : Type 0} → (N → List ℕ) → (List N → N → Type 0) → List ℕ → List N → Type 0
AreSound {N} place IsDue mark ns = (ps qs : List N) (x : N) → ns ≡ ps ++ x ∷ qs → IsSound place IsDue mark ps x

-- the record of this number, counted from 1, is the first that is not sound
pub record IsUnfoundedAt {N : Type 0} (place : N → List ℕ) (IsDue : List N → N → Type 0) (mark : List ℕ) (ns : List N)
    (n : ℕ) : Type 0 where
  pub before : List N
  pub record_there : N
  pub behind : List N
  pub parts : ns ≡ before ++ record_there ∷ behind
  pub number : n ≡ length before + 1
  pub sound_before : AreSound place IsDue mark before
  pub unsound : IsSound place IsDue mark before record_there → ⊥

-- a record is due given those of the list that stand before its place, and none of the list stands there
pub record IsLacking {N : Type 0} (place : N → List ℕ) (IsDue : List N → N → Type 0) (ns : List N)
    (x : N) : Type 0 where
  pub before : List N
  pub behind : List N
  pub parts : ns ≡ before ++ behind
  pub all_before : AllBefore place before (place x)
  pub none_before : NoneBefore place behind (place x)
  pub due : IsDue before x
  pub absent : (m : N) → IsIn m ns → place m ≡ place x → ⊥

-- no record that is due before the mark is lacking
abbrev pub LacksNothing : {N : Type 0} → (N → List ℕ) → (List N → N → Type 0) → List ℕ → List N → Type 0
LacksNothing {N} place IsDue mark ns = (x : N) → IsLacking place IsDue ns x → IsBefore (place x) mark → ⊥

-- a front of the list has a record due behind it, and before all that the list has left
pub record IsGap {N : Type 0} (place : N → List ℕ) (IsDue : List N → N → Type 0) (before behind : List N)
    (x : N) : Type 0 where
  pub all_before : AllBefore place before (place x)
  pub due : IsDue before x
  pub first : (m : N) → IsIn m behind → IsBefore (place x) (place m)
