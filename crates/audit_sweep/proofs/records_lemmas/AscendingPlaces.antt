-- Rows of places in ascending order.
use Rattle.{audit_sweep.specs.records.places.Placing.{AreAscending, HasRecordAt}, std.specs.List.{Sorted.{IsPartitionPoint, IsPartitionedBy}, last_or}}
use Rattle.run_law.{proofs.{records.Order.{before_is, is_there}, runs.Places.{chain, never_self}}}
use Rattle.run_law.{specs.records.Order.{IsBefore, IsIn, is_before}}
use Rattle.{run_law.specs.records.{Happenings.Happening, Ranks.place_of}, std.{proofs.{Common.{true, zero, ℕ}, lemmas.Bool.cases_lt}, specs.Prelude.{slice_get, take}}}
use Rattle.std.proofs.Common.{◌++◌, ◌<◌, ◌∙◌, ◌∷◌, ◌≡◌, ◌≤◌, ◌⊎◌, List, None, Some, [], ap, arith, false, get_or, inl, inr, length, map, refl, subst, suc, sym}

-- ---- what is in a row

index_of : {X : Type 0} (x : X) (xs : List X) → IsIn x xs → (j : ℕ) × (j < length xs) × ((d : X) → get_or xs j d ≡ x)
index_of x [] i = absurd i
index_of x (y ∷ ys) (inl e) = (zero, omega arith, λ d. sym e)
index_of x (y ∷ ys) (inr i) = let r = index_of x ys i in (suc r.0, omega (arith, r.1), r.2)

pub in_map : (h : Happening) (hs : List Happening) → IsIn h hs → IsIn (place_of h) (map place_of hs)
in_map h [] i = absurd i
in_map h (x ∷ hs) (inl e) = inl (ap place_of e)
in_map h (x ∷ hs) (inr i) = inr (in_map h hs i)

pub of_map : (p : List ℕ) (hs : List Happening) → IsIn p (map place_of hs) → HasRecordAt hs p
of_map p [] i = absurd i
of_map p (x ∷ hs) (inl e) = (x, inl refl, sym e)
of_map p (x ∷ hs) (inr i) = let r = of_map p hs i in (r.0, inr r.1, r.2)

pub in_take : {X : Type 0} (n : ℕ) (xs : List X) (x : X) → IsIn x (take n xs) → IsIn x xs
in_take zero xs x i = absurd i
in_take (suc n) [] x i = absurd i
in_take (suc n) (y ∷ xs) x (inl e) = inl e
in_take (suc n) (y ∷ xs) x (inr i) = inr (in_take n xs x i)

-- ---- rows in ascending order

tail_ascends : (x : List ℕ) (xs : List (List ℕ)) → AreAscending (x ∷ xs) → AreAscending xs
tail_ascends x xs asc = λ i j d lt within. asc (suc i) (suc j) d (omega (arith, lt)) (omega (arith, within))

head_before : (x : List ℕ) (xs : List (List ℕ)) → AreAscending (x ∷ xs) → (y : List ℕ) → IsIn y xs → IsBefore x y
head_before x xs asc y i =
    let r = index_of y xs i in
    subst (λ q. IsBefore x q) (r.2 x) (asc zero (suc r.0) x (omega arith) (omega (arith, r.1)))

either : (q p : List ℕ) (ys : List (List ℕ)) → IsIn q (ys ++ p ∷ []) → IsIn q ys ⊎ (q ≡ p)
either q p [] (inl e) = inr e
either q p [] (inr i) = absurd i
either q p (y ∷ ys) (inl e) = inl (inl e)
either q p (y ∷ ys) (inr i) = elim (either q p ys i) [ inl l ↦ inl (inr l) | inr e ↦ inr e ]

headed : (x : List ℕ) (ys : List (List ℕ)) (j : ℕ) (d : List ℕ) → ((q : List ℕ) → IsIn q ys → IsBefore x q) → j < length ys → IsBefore x (get_or ys j d)
headed x [] j d each lt = absurd (omega (arith, lt))
headed x (y ∷ ys) zero d each lt = each y (inl refl)
headed x (y ∷ ys) (suc j) d each lt = headed x ys j d (λ q i. each q (inr i)) (omega (arith, lt))

ascends_cons : (x : List ℕ) (ys : List (List ℕ)) → ((q : List ℕ) → IsIn q ys → IsBefore x q) → AreAscending ys → AreAscending (x ∷ ys)
ascends_cons x ys each asc i zero d lt within = absurd (omega (arith, lt))
ascends_cons x ys each asc zero (suc j) d lt within = headed x ys j d each (omega (arith, within))
ascends_cons x ys each asc (suc i) (suc j) d lt within = asc i j d (omega (arith, lt)) (omega (arith, within))

-- one more place behind all
pub ascends_on : (xs : List (List ℕ)) (p : List ℕ) → AreAscending xs → ((q : List ℕ) → IsIn q xs → IsBefore q p) → AreAscending (xs ++ p ∷ [])
ascends_on [] p asc all = λ i j d lt within. absurd (omega (arith, lt, within))
ascends_on (x ∷ xs) p asc all =
    ascends_cons x (xs ++ p ∷ [])
    (λ q i.
    elim (either q p xs i) [
      | inl there ↦ head_before x xs asc q there
      | inr e ↦ subst (λ r. IsBefore x r) (sym e) (all x (inl refl))
    ])
    (ascends_on xs p (tail_ascends x xs asc) (λ q i. all q (inr i)))

-- ---- the last of a row

last_from : (x : List ℕ) (xs : List (List ℕ)) (last p : List ℕ) → AreAscending (x ∷ xs) → Some last ≡ last_or (Some x) xs → IsBefore last p
    → (q : List ℕ) → IsIn q (x ∷ xs) → IsBefore q p
last_from x [] last p asc e b q (inl s) =
    let one : last ≡ x = cc in
    subst (λ r. IsBefore r p) (one ∙ sym s) b
last_from x [] last p asc e b q (inr i) = absurd i
last_from x (y ∷ ys) last p asc e b q (inl s) =
    let first = head_before x (y ∷ ys) asc y (inl refl) in
    let then = last_from y ys last p (tail_ascends x (y ∷ ys) asc) e b y (inl refl) in
    subst (λ r. IsBefore r p) (sym s) (chain x y p first then)
last_from x (y ∷ ys) last p asc e b q (inr i) = last_from y ys last p (tail_ascends x (y ∷ ys) asc) e b q i

-- all are before what the last is before
pub all_by_last : (xs : List (List ℕ)) (last p : List ℕ) → AreAscending xs → Some last ≡ last_or None xs → IsBefore last p
    → (q : List ℕ) → IsIn q xs → IsBefore q p
all_by_last [] last p asc e b q i = absurd i
all_by_last (x ∷ xs) last p asc e b q i = last_from x xs last p asc e b q i

last_there : (x : List ℕ) (xs : List (List ℕ)) (last : List ℕ) → Some last ≡ last_or (Some x) xs → IsIn last (x ∷ xs)
last_there x [] last e = inl cc
last_there x (y ∷ ys) last e = inr (last_there y ys last e)

pub last_in : (xs : List (List ℕ)) (last : List ℕ) → Some last ≡ last_or None xs → IsIn last xs
last_in [] last e = absurd cc
last_in (x ∷ xs) last e = last_there x xs last e

pub none_last : (xs : List (List ℕ)) → None ≡ last_or None xs → xs ≡ []
none_last [] e = refl
none_last (x ∷ xs) e = absurd (some_last x xs e)
  where
    some_last : (y : List ℕ) (ys : List (List ℕ)) → None ≡ last_or (Some y) ys → ⊥
    some_last y [] e = absurd cc
    some_last y (z ∷ zs) e = some_last z zs e

-- ---- search

pub parted : (xs : List (List ℕ)) (p : List ℕ) → AreAscending xs → IsPartitionedBy (λ q. is_before q p) xs
parted xs p asc = λ i j d le within passes.
    elim (cases_lt i j) [
      | inl lt ↦
          before_is (get_or xs i d) p (chain (get_or xs i d) (get_or xs j d) p (asc i j d lt within) (is_there (get_or xs j d) p passes))
      | inr past ↦
          let same : i ≡ j = omega (arith, le, past) in
          ap (λ (k : ℕ). is_before (get_or xs k d) p) same ∙ passes
    ]

found_from : (xs : List (List ℕ)) (k : ℕ) (p : List ℕ) → k ≤ length xs → AreAscending xs
    → ((i : ℕ) (d : List ℕ) → 0 ≤ i → i < k → is_before (get_or xs i d) p ≡ true)
    → ((i : ℕ) (d : List ℕ) → k ≤ i → i < length xs → is_before (get_or xs i d) p ≡ false) → IsIn p xs → slice_get xs k ≡ Some p
found_from [] k p le asc here there i = absurd i
found_from (x ∷ xs) zero p le asc here there (inl e) = ap Some (sym e)
found_from (x ∷ xs) zero p le asc here there (inr i) =
    let no : is_before x p ≡ false = there zero x (omega arith) (omega arith) in
    let yes : is_before x p ≡ true = before_is x p (head_before x xs asc p i) in
    absurd cc
found_from (x ∷ xs) (suc k) p le asc here there (inl e) =
    let yes : is_before x p ≡ true = here zero x (omega arith) (omega arith) in
    absurd (never_self p (subst (λ q. IsBefore q p) (sym e) (is_there x p yes)))
found_from (x ∷ xs) (suc k) p le asc here there (inr i) =
    found_from xs k p (omega (arith, le)) (tail_ascends x xs asc)
    (λ j d a b. here (suc j) d (omega arith) (omega (arith, b)))
    (λ j d a b. there (suc j) d (omega (arith, a)) (omega (arith, b))) i

-- where a place stands in the row, it stands behind those before it
pub found_at : (xs : List (List ℕ)) (k : ℕ) (p : List ℕ) → k ≤ length xs → AreAscending xs
    → IsPartitionPoint (λ q. is_before q p ≡ true) (λ q. is_before q p ≡ false) xs k → IsIn p xs → slice_get xs k ≡ Some p
found_at xs k p le asc parts i = found_from xs k p le asc parts.0 parts.1 i
