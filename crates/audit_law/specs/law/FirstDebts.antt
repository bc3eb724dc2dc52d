-- The first time at which a debt of a sort is not paid.
use Rattle.std.specs.Prelude.{◌+◌, ◌↔◌, ◌∷◌, ◌≡◌, ◌≤◌, ◌⊎◌, Bool, IsTrue, List, MatchOption, None, Option, Some, [], min, ℕ}
use Rattle.{audit_law.specs.law.{DebtLaws.IsFirstDebt, DueRecords.IsDue}, run_law.specs.records.Ranks.place_of}
use Rattle.audit_law.specs.law.{Debts.IsPaid, Findings.{AreSound, LacksNothing}, Owed.{Debt, IsOwed, Pays, falls_due}}
use Rattle.run_law.specs.{records.Happenings.Happening, scenario.Scenarios.Scenario}

-- at this time, the first such, a debt of the sort falls due that no record of the list pays
pub record IsFirstAmong (s : Scenario) (hs : List Happening) (until : ℕ) (IsOne : Debt → Type 0) (time : ℕ)
    : Type 0 where
  pub debt : Debt
  pub one : IsOne debt
  pub owed : IsOwed s hs until debt
  pub unpaid : IsPaid hs (Pays s) debt → ⊥
  pub at : time ≡ falls_due s hs until debt owed
  pub first : (other : Debt) (is : IsOwed s hs until other) → IsOne other → (IsPaid hs (Pays s) other → ⊥)
      → time ≤ falls_due s hs until other is

-- this is the first time at which a debt of the sort is not paid; none where each of it is
abbrev pub TellsFirst : Scenario → List Happening → ℕ → (Debt → Type 0) → Option ℕ → Type 0
TellsFirst s hs until IsOne first =
    MatchOption first ((o : Debt) → IsOne o → IsOwed s hs until o → IsPaid hs (Pays s) o)
    (IsFirstAmong s hs until IsOne)

-- the debt is owed and not paid, and this is when it falls due
pub record IsUnpaid (s : Scenario) (hs : List Happening) (until : ℕ) (debt : Debt) (time : ℕ) : Type 0 where
  pub owed : IsOwed s hs until debt
  pub unpaid : IsPaid hs (Pays s) debt → ⊥
  pub at : time ≡ falls_due s hs until debt owed

-- when the debt falls due, if it is owed and not paid
abbrev pub TellsUnpaid : Scenario → List Happening → ℕ → Debt → Option ℕ → Type 0
TellsUnpaid s hs until debt result =
    MatchOption result (IsOwed s hs until debt → IsPaid hs (Pays s) debt) (IsUnpaid s hs until debt)

-- the earlier of two times, as far as there are such
abbrev pub earlier_of : Option ℕ → Option ℕ → Option ℕ
earlier_of None b = b
earlier_of (Some t) None = Some t
earlier_of (Some t) (Some u) = Some (min t u)

-- this is the first time at which a debt is not paid of which this is true
abbrev pub TellsFirstSuch : Scenario → List Happening → ℕ → (Debt → Bool) → Option ℕ → Type 0
TellsFirstSuch s hs until is_one = TellsFirst s hs until (λ o. IsTrue (is_one o))

-- the first time of a sort that is two sorts together is the earlier of theirs
abbrev pub JoinedSortsLaw : Type 0
JoinedSortsLaw =
    (s : Scenario) (hs : List Happening) (until : ℕ) (first second both : Debt → Bool) (a b : Option ℕ)
    → ((o : Debt) → IsTrue (both o) ↔ IsTrue (first o) ⊎ IsTrue (second o)) → TellsFirstSuch s hs until first a
    → TellsFirstSuch s hs until second b → TellsFirstSuch s hs until both (earlier_of a b)

-- the first time at which any debt is not paid is that of the first debt that is not; where there is none, the list,
-- whose records are all sound, lacks nothing
abbrev pub FirstDebtLaw : Type 0
FirstDebtLaw =
    (s : Scenario) (hs : List Happening) (until : ℕ) (first : Option ℕ)
    → AreSound place_of (IsDue s) ((until + 1) ∷ []) hs → TellsFirst s hs until (λ o. Unit {0}) first
    → MatchOption first (LacksNothing place_of (IsDue s) ((until + 1) ∷ []) hs) (IsFirstDebt s hs until)
