-- The order of places, and what is in lists.
use Rattle.run_law.proofs.Words.{◌++◌, ◌+◌, ◌<◌, ◌∙◌, ◌∷◌, ◌≡◌, ◌≤◌, ◌⊎◌, IsBefore, IsIn, List, [], arith, inl, inr, refl, sym, ℕ}
use Rattle.std.proofs.lemmas.Bool.{cases_order}
pub use Rattle.run_law.specs.records.Order.{behind}

-- no place is before itself
pub never_self : (p : List ℕ) → IsBefore p p → ⊥
never_self [] b = b
never_self (x ∷ xs) (inl lt) = absurd (omega arith)
never_self (x ∷ xs) (inr b) = never_self xs b.1

-- what is before what is before a place is before it
pub chain : (p q r : List ℕ) → IsBefore p q → IsBefore q r → IsBefore p r
chain p q [] a b = b
chain p [] (z ∷ zs) a b = absurd a
chain [] (y ∷ ys) (z ∷ zs) a b = tt
chain (x ∷ xs) (y ∷ ys) (z ∷ zs) (inl a) (inl b) = inl (omega arith)
chain (x ∷ xs) (y ∷ ys) (z ∷ zs) (inl a) (inr b) = inl (omega (arith, b.0))
chain (x ∷ xs) (y ∷ ys) (z ∷ zs) (inr a) (inl b) = inl (omega (arith, a.0))
chain (x ∷ xs) (y ∷ ys) (z ∷ zs) (inr a) (inr b) = inr (a.0 ∙ b.0, chain xs ys zs a.1 b.1)

-- of two places one is before the other, or they are one
pub either_way : (p q : List ℕ) → IsBefore p q ⊎ ((p ≡ q) ⊎ IsBefore q p)
either_way [] [] = inr (inl refl)
either_way [] (y ∷ ys) = inl tt
either_way (x ∷ xs) [] = inr (inr tt)
either_way (x ∷ xs) (y ∷ ys) = grind (arith, cases_order, (either_way xs ys))

pub before_or_not : (p q : List ℕ) → IsBefore p q ⊎ (IsBefore p q → ⊥)
before_or_not p q = grind (arith, either_way, never_self, chain)

-- what is before the mark is before what is not
pub before_later : (p q mark : List ℕ) → IsBefore p mark → (IsBefore q mark → ⊥) → IsBefore p q
before_later p q mark b not = grind (arith, either_way, chain)

-- ---- times as marks

-- a place before a time is of an earlier time
pub earlier_time : (t a : ℕ) (rest : List ℕ) → IsBefore (t ∷ rest) (a ∷ []) → t < a
earlier_time t a rest (inl lt) = lt
earlier_time t a rest (inr h) = absurd h.1

-- what is before a time is before each later time
pub before_later_time : (p : List ℕ) (a b : ℕ) → a ≤ b → IsBefore p (a ∷ []) → IsBefore p (b ∷ [])
before_later_time [] a b le h = tt
before_later_time (x ∷ xs) a b le (inl lt) = inl (omega arith)
before_later_time (x ∷ xs) a b le (inr h) = absurd h.1

-- what is before a time is before each place of this time
pub before_of_time : (p : List ℕ) (a : ℕ) (rest : List ℕ) → IsBefore p (a ∷ []) → IsBefore p (a ∷ rest)
before_of_time [] a rest h = tt
before_of_time (x ∷ xs) a rest (inl lt) = inl lt
before_of_time (x ∷ xs) a rest (inr h) = absurd h.1

-- what is before a place of a time is before the next time
pub before_next_time : (p : List ℕ) (a : ℕ) (rest : List ℕ) → IsBefore p (a ∷ rest) → IsBefore p ((a + 1) ∷ [])
before_next_time [] a rest h = tt
before_next_time (x ∷ xs) a rest (inl lt) = inl (omega arith)
before_next_time (x ∷ xs) a rest (inr h) = inl (omega (arith, h.0))

-- ---- the place just behind another

pub before_behind : (p : List ℕ) → IsBefore p (behind p)
before_behind [] = tt
before_behind (x ∷ xs) = inr (refl, before_behind xs)

-- nothing is between a place and what is just behind it
pub nothing_between : (p q : List ℕ) → IsBefore p q → IsBefore q (behind p) → ⊥
nothing_between p [] a b = a
nothing_between [] (y ∷ []) a (inl b) = absurd (omega arith)
nothing_between [] (y ∷ []) a (inr b) = b.1
nothing_between [] (y ∷ z ∷ ys) a (inl b) = absurd (omega arith)
nothing_between [] (y ∷ z ∷ ys) a (inr b) = b.1
nothing_between (x ∷ xs) (y ∷ ys) (inl a) (inl b) = absurd (omega arith)
nothing_between (x ∷ xs) (y ∷ ys) (inl a) (inr b) = absurd (omega (arith, b.0))
nothing_between (x ∷ xs) (y ∷ ys) (inr a) (inl b) = absurd (omega (arith, a.0))
nothing_between (x ∷ xs) (y ∷ ys) (inr a) (inr b) = nothing_between xs ys a.1 b.1

-- ---- what is in a list

pub in_left : {N : Type 0} (x : N) (ls bs : List N) → IsIn x ls → IsIn x (ls ++ bs)
in_left x [] bs i = absurd i
in_left x (a ∷ ls) bs (inl e) = inl e
in_left x (a ∷ ls) bs (inr i) = inr (in_left x ls bs i)

pub in_right : {N : Type 0} (x : N) (ls bs : List N) → IsIn x bs → IsIn x (ls ++ bs)
in_right x [] bs i = i
in_right x (a ∷ ls) bs i = inr (in_right x ls bs i)

pub in_parts : {N : Type 0} (x : N) (ls bs : List N) → IsIn x (ls ++ bs) → IsIn x ls ⊎ IsIn x bs
in_parts x [] bs i = inr i
in_parts x (a ∷ ls) bs (inl e) = inl (inl e)
in_parts x (a ∷ ls) bs (inr i) = elim (in_parts x ls bs i) [ inl l ↦ inl (inr l) | inr r ↦ inr r ]

-- what is in a list has a part before it and one behind it
pub parted : {N : Type 0} (x : N) (ns : List N) → IsIn x ns → (ps : List N) × (qs : List N) × (ns ≡ ps ++ x ∷ qs)
parted x [] i = absurd i
parted x (n ∷ ns) (inl e) = ([], ns, rw (sym e))
parted x (n ∷ ns) (inr i) = let p = parted x ns i in (n ∷ p.0, p.1, rw p.2)
