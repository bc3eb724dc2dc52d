-- What a list of records owes: each record that is due answers a debt, which earlier records have made.
use Rattle.std.specs.Prelude.{◌++◌, ◌∷◌, ◌≡◌, List, [], ℕ}
use Rattle.run_law.specs.records.Order.{AllBefore, IsBefore, IsIn, NoneBefore}

-- the record is due given those of the list that stand before its place
pub record IsDueIn {N : Type 0} (place : N → List ℕ) (IsDue : List N → N → Type 0) (ns : List N) (x : N) : Type 0 where
  pub before : List N
  pub behind : List N
  pub parts : ns ≡ before ++ behind
  pub all_before : AllBefore place before (place x)
  pub none_before : NoneBefore place behind (place x)
  pub due : IsDue before x

-- the place is of the time
abbrev pub IsOfTime : ℕ → List ℕ → Type 0
IsOfTime t [] = ⊥
IsOfTime t (u ∷ rest) = u ≡ t

-- these are the debts of the list that are paid by what is due so (`IsDueSo`), a part of what is due: each such record
-- that is due before the mark pays one, each is to be paid by one that is due before the mark, both at the time at
-- which the debt falls due, and what pays one that is owed has one place
pub record AreDebts {N O : Type 0} (place : N → List ℕ) (IsDue IsDueSo : List N → N → Type 0) (mark : List ℕ)
    (ns : List N) (IsOwed : O → Type 0) (falls : (o : O) → IsOwed o → ℕ) (Pays : N → O → Type 0) : Type 0 where
  pub each : (x : N) → IsDueIn place IsDueSo ns x → IsBefore (place x) mark
      → (o : O) × (owed : IsOwed o) × Pays x o × IsOfTime (falls o owed) (place x)
  pub some : (o : O) (owed : IsOwed o)
      → (x : N) × IsDueIn place IsDueSo ns x × IsBefore (place x) mark × Pays x o × IsOfTime (falls o owed) (place x)
  pub one : (o : O) (x y : N) → IsOwed o → IsDueIn place IsDue ns x → IsDueIn place IsDue ns y → Pays x o → Pays y o
      → place x ≡ place y

-- what is due so is due
abbrev pub IsPartOf : {N : Type 0} → (List N → N → Type 0) → (List N → N → Type 0) → Type 0
IsPartOf {N} IsDueSo IsDue = (ps : List N) (x : N) → IsDueSo ps x → IsDue ps x

-- a record of the list pays the debt
abbrev pub IsPaid : {N O : Type 0} → List N → (N → O → Type 0) → O → Type 0
IsPaid {N} ns Pays o = (m : N) × IsIn m ns × Pays m o
