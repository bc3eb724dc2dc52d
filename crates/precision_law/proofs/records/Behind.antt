-- What stands behind the last element of a kind.
use Rattle.std.proofs.{Common.get_or, lemmas.List.{get_or-append_right, length_push, Elements.All-get_or, Sums.suffix_len_is}}
use Rattle.run_law.proofs.records.Order.{all_of}
use Rattle.precision_law.proofs.words.{Runs.{IsIn, in_parts}, Std.{inr, length, length-append, not, not_from_true, refl, subst, suffix_len, sym, true, ℕ}}
use Rattle.precision_law.proofs.words.Std.{◌++◌, ◌+◌, ◌-◌, ◌∙◌, ◌∷◌, ◌≡◌, All, Bool, List, [], after_last, ap, append_assoc, arith, drop, drop_at, false, inl}

-- ---- the last of a kind

module _ {X : Type 0} (p : X → Bool) where
  pub after_last_at : (xs : List X) (y : X) (ys : List X) → p y ≡ true → All (λ x. not (p x) ≡ true) ys → after_last p (xs ++ y ∷ ys) ≡ ys
  after_last_at xs y ys here h =
      let whole = xs ++ y ∷ ys in
      let long = length-append xs (y ∷ ys) in
      let moved = sym (append_assoc xs (y ∷ []) ys) in
      let shown = λ (l : List X) (k : ℕ). not (p (get_or l k y)) in
      let first : length xs + 1 - 1 ≡ length xs = omega arith in
      let none : length xs - length xs ≡ 0 = omega arith in
      let suffix = suffix_len_is (λ x. not (p x)) whole (length xs + 1) y (omega arith) (λ k from to. rw moved
      (ap (λ x. not (p x)) (get_or-append_right (xs ++ y ∷ []) ys (length xs + 1) k y (length_push xs y) from)
      ∙ All-get_or (λ x. not (p x) ≡ true) ys (k - (length xs + 1)) y (omega arith) h)) (λ some. ap (shown whole) first
      ∙ ap (λ x. not (p x)) (get_or-append_right xs (y ∷ ys) (length xs) (length xs) y refl (omega arith))
      ∙ ap (shown (y ∷ ys)) none ∙ not_from_true _ here) in
      let n = length whole - suffix_len (λ x. not (p x)) whole in
      ap (drop n) moved ∙ drop_at (xs ++ y ∷ []) ys n (omega (arith, length_push xs y))

  pub after_last_none : (xs : List X) → All (λ x. not (p x) ≡ true) xs → after_last p xs ≡ xs
  after_last_none [] h = refl
  after_last_none (x ∷ xs) h =
      let suffix = suffix_len_is (λ x. not (p x)) (x ∷ xs) 0 x (omega arith) (λ k from to. All-get_or (λ x. not (p x) ≡ true) (x ∷ xs) k x to h)
      (λ some. absurd (omega arith)) in
      let none : length (x ∷ xs) - suffix_len (λ x. not (p x)) (x ∷ xs) ≡ 0 = omega arith in
      rw none

pub not_each : {X : Type 0} (p : X → Bool) (xs : List X) → ((x : X) → IsIn x xs → p x ≡ false) → All (λ x. not (p x) ≡ true) xs
not_each {X} p xs each = all_of (λ x. not (p x) ≡ true) xs (λ x i. ap not (each x i))

-- a list in which none is of the kind, or that parts at the last
pub data PartsAtLast {X : Type 0} (p : X → Bool) (xs : List X) : Type 0 where
  none : ((x : X) → IsIn x xs → p x ≡ false) → PartsAtLast p xs
  some : (front rest : List X) (last : X) → xs ≡ front ++ last ∷ rest → p last ≡ true → ((x : X) → IsIn x rest → p x ≡ false) → PartsAtLast p xs

parts_by : {X : Type 0} {p : X → Bool} (x : X) {xs : List X} (b : Bool) → p x ≡ b → PartsAtLast p xs
    → PartsAtLast p (x ∷ xs)
parts_by {X} x b e (some front rest last whole is all) =
    some (x ∷ front) rest last (rw whole) is all
parts_by x {xs} true e (none all) = some [] xs x refl e all
parts_by {p} x false e (none all) = none (λ y i. elim i [ inl same ↦ ap p same ∙ e | inr more ↦ all y more ])

pub parts_at_last : {X : Type 0} (p : X → Bool) (xs : List X) → PartsAtLast p xs
parts_at_last p [] = none (λ x i. absurd i)
parts_at_last p (x ∷ xs) = parts_by x (p x) refl (parts_at_last p xs)

-- what is not of the kind may be added behind the last that is
pub after_more : {X : Type 0} {p : X → Bool} {xs : List X} (ys : List X) → ((y : X) → IsIn y ys → p y ≡ false)
    → PartsAtLast p xs → after_last p (xs ++ ys) ≡ after_last p xs ++ ys
after_more {X} {p} {xs} ys quiet (none all) =
    after_last_none p (xs ++ ys) (not_each p (xs ++ ys) (λ x i. elim (in_parts x xs ys i) [ inl l ↦ all x l | inr r ↦ quiet x r ]))
    ∙ ap (λ zs. zs ++ ys) (sym (after_last_none p xs (not_each p xs all)))
after_more {X} {p} ys quiet (some front rest last whole hit all) =
    ap (λ zs. after_last p (zs ++ ys)) whole ∙ ap (after_last p) (append_assoc front (last ∷ rest) ys)
    ∙ after_last_at p front last (rest ++ ys) hit (not_each p (rest ++ ys) (λ x i. elim (in_parts x rest ys i) [ inl l ↦ all x l | inr r ↦ quiet x r ]))
    ∙ ap (λ zs. zs ++ ys) (sym (ap (after_last p) whole ∙ after_last_at p front last rest hit (not_each p rest all)))

-- what stands behind the last is a rest of the list, and none of it is of the kind
pub record IsBehindLast {X : Type 0} (p : X → Bool) (xs : List X) : Type 0 where
  pub front : List X
  pub whole : xs ≡ front ++ after_last p xs
  pub others : (x : X) → IsIn x (after_last p xs) → p x ≡ false

behind_by : {X : Type 0} {p : X → Bool} {xs : List X} → PartsAtLast p xs → IsBehindLast p xs
behind_by {X} {p} {xs} (none all) =
    let same = after_last_none p xs (not_each p xs all) in
    record { front = []; whole = sym same; others = λ x i. all x (subst (IsIn x) same i) }
behind_by {X} {p} {xs} (some front rest last whole is all) =
    let at = after_last_at p front last rest is (not_each p rest all) in
    let same : after_last p xs ≡ rest = ap (after_last p) whole ∙ at in
    record {
      front = front ++ last ∷ [];
      whole = whole ∙ sym (append_assoc front (last ∷ []) rest) ∙ ap (λ t. (front ++ last ∷ []) ++ t) (sym same);
      others = λ x i. all x (subst (IsIn x) same i);
    }

pub behind_last : {X : Type 0} (p : X → Bool) (xs : List X) → IsBehindLast p xs
behind_last p xs = behind_by (parts_at_last p xs)
