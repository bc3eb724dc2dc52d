-- When debts fall due, and what pays them.
use Rattle.audit_sweep.proofs.unpaid_lemmas.Words.{◌↔◌, ◌∙◌, ◌≡◌, Happening, IsDue, IsFounded, IsIn, IsPaid, List, Scenario, Some, numbered, numbered_in}
use Rattle.audit_sweep.{proofs.unpaid_lemmas.Words.{place_of, subst, sym, ℕ}, specs.records.{places.Placing.HasRecordAt, wires.Signals.ShowsByCause}}
use Rattle.audit_law.proofs.law_lemmas.{Founded.{due_is_determined, founded_at}, Sound.{due_by_part, due_in, one_due}}
use Rattle.audit_law.specs.law.{DebtLaws.AreOwed, Debts.{IsDueIn, IsPartOf}}

-- a record that pays a debt that is owed is due by it
pub payer_due : {O : Type 0} (s : Scenario) {hs : List Happening} (until : ℕ)
    (IsDueSo : List Happening → Happening → Type 0) (IsOwed : O → Type 0) {falls : (o : O) → IsOwed o → ℕ}
    (Pays : Happening → O → Type 0) → IsPartOf IsDueSo (IsDue s) → AreOwed s hs until IsDueSo IsOwed falls Pays
    → IsFounded place_of (IsDue s) hs → (o : O) → IsOwed o → (m : Happening) → IsIn m hs → Pays m o
    → IsDueIn place_of IsDueSo hs m
payer_due s {hs} until IsDueSo IsOwed Pays part debts founded o owed m i pays =
    let x = debts.some o owed in
    let here = due_in place_of (IsDue s) hs m founded i in
    let there = due_by_part place_of (IsDue s) IsDueSo part x.1 in
    let same = debts.one o m x.0 owed here there pays x.3 in
    let one = one_due place_of (IsDue s) (due_is_determined s) here there same in
    subst (λ t. IsDueIn place_of IsDueSo hs t) (sym one) x.1

-- a record of a founded list shows its frame by those before it
pub shows_by_cause : (s : Scenario) (hs : List Happening) (n : ℕ) (h : Happening) → IsFounded place_of (IsDue s) hs → numbered hs n ≡ Some h
    → ShowsByCause s.network h
shows_by_cause s hs n h founded there =
    let at = founded_at s hs h founded (numbered_in hs n h there) in
    (at.front, at.due.same)

-- a debt that is owed is paid exactly where a record stands at the place of what is due by it
pub paid_at_place : {O : Type 0} (s : Scenario) {hs : List Happening} (until : ℕ)
    (IsDueSo : List Happening → Happening → Type 0) (IsOwed : O → Type 0) {falls : (o : O) → IsOwed o → ℕ}
    (Pays : Happening → O → Type 0) (p : List ℕ) → IsPartOf IsDueSo (IsDue s)
    → AreOwed s hs until IsDueSo IsOwed falls Pays → IsFounded place_of (IsDue s) hs → (o : O) → IsOwed o
    → ((x : Happening) → IsDueIn place_of IsDueSo hs x → Pays x o → place_of x ≡ p)
    → IsPaid hs Pays o ↔ HasRecordAt hs p
paid_at_place s {hs} until IsDueSo IsOwed Pays p part debts founded o owed places =
    let x = debts.some o owed in
    let there = due_by_part place_of (IsDue s) IsDueSo part x.1 in
    let at = places x.0 x.1 x.3 in (
      λ paid. (paid.0, paid.1, debts.one o paid.0 x.0 owed (due_in place_of (IsDue s) hs paid.0 founded paid.1) there paid.2 x.3 ∙ at),
      λ has.
          let one = one_due place_of (IsDue s) (due_is_determined s)
          (due_in place_of (IsDue s) hs has.0 founded has.1) there
          (has.2 ∙ sym at) in
          (has.0, has.1, subst (λ t. Pays t o) (sym one) x.3),
    )
