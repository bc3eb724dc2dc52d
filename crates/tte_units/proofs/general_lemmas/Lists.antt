-- Facts on lists.
use Rattle.std.proofs.Common.{◌%◌, ◌++◌, ◌<◌, ◌^◌, ◌∙◌, ◌∷◌, ◌≡◌, ◌≤◌, ◌⊎◌, Bool, List, None, Option, Some, [], ap, arith, cond, drop, false, filter}
use Rattle.std.proofs.Common.{get_or, if◌then◌else◌, inl, inr, length, length-append, not, refl, reverse, set, subst, suc, sym, take, true, zero, ℕ, ⊎_elim}
use Rattle.std.proofs.{Math.ListN.drop_of_length-le, lemmas.List.{Sums.position_or_len_is, append-nil, get_or-set_same, length-set, reverse-append}}
use Rattle.std.proofs.lemmas.{Bool.{both_ways, cases_Bool}, List.Elements.{All-append, All-cons, All-head, All-nil, All-tail, filter-append}}
use Rattle.{std.proofs.lemmas.{Cmp.nat_list_eq_equiv, Grind.common_steps}, tte_units.proofs.general_lemmas.Options.{more_by, of_by, same_by, some_or_none}}
use Rattle.std.{proofs.lemmas.Option.{get_or_from_slice_get, slice_get-get_or, slice_get_within}, specs.{Prelude.{find, slice_get, slice_set}, Str.bytes_eq}}
use Rattle.std.specs.List.{All, AllByRecursion, AllWithin, Any, Contains, HoldsAt, after_last, last_or, position, prefix_len, suffix_len}
use Rattle.std.specs.Option.{MatchOption, unwrap_or}

-- something stands at each place below the length
pub some_at : {X : Type 0} (xs : List X) (i : ℕ) → i < length xs → (x : X) × (slice_get xs i ≡ Some x)
some_at [] i lt = absurd (omega arith)
some_at (x ∷ xs) zero lt = (x, refl)
some_at (x ∷ xs) (suc i) lt = some_at xs i (omega arith)

-- what holds of all elements holds of the one at a place
pub in_all : {X : Type 0} (P : X → Type 0) (xs : List X) (i : ℕ) (x : X) → All P xs → slice_get xs i ≡ Some x → P x
in_all P xs i x all e = subst P (get_or_from_slice_get xs i x x e) (all i x (slice_get_within xs i x e))

-- the last is the one that is added
pub last_pushed : {X : Type 0} (o : Option X) (xs : List X) (x : X) → last_or o (xs ++ x ∷ []) ≡ Some x
last_pushed o [] x = refl
last_pushed o (y ∷ ys) x = last_pushed (Some y) ys x

pub got_within : {X : Type 0} (xs : List X) (k : ℕ) (x : X) → slice_get xs k ≡ Some x → k < length xs
got_within xs k x e = slice_get_within xs k x e

pub set_same : {X : Type 0} (xs : List X) (i : ℕ) (x : X) → i < length xs → slice_get (set xs i x) i ≡ Some x
set_same xs i x lt = slice_get-get_or (set xs i x) i x (omega (arith, length-set xs i x)) ∙ ap Some
    (get_or-set_same xs i x x lt)

pub none_in : {X : Type 0} (x : X) → Contains [] x → ⊥
none_in x (k, lt, at) = absurd (omega arith)

pub last_more : {X : Type 0} (o : Option X) (xs ys : List X) → last_or o (xs ++ ys) ≡ last_or (last_or o xs) ys
last_more o [] ys = refl
last_more o (x ∷ xs) ys = last_more (Some x) xs ys

pub set_other : {X : Type 0} (xs : List X) (i j : ℕ) (x : X) → (i ≡ j → ⊥) → slice_get (slice_set xs i x) j ≡ slice_get xs j
set_other [] i j x h = refl
set_other (y ∷ xs) zero zero x h = absurd (h refl)
set_other (y ∷ xs) zero (suc j) x h = refl
set_other (y ∷ xs) (suc i) zero x h = refl
set_other (y ∷ xs) (suc i) (suc j) x h = set_other xs i j x (λ e. h (ap suc e))

pub none_before : {X : Type 0} (xs behind : List X) (x : X) → [] ≡ xs ++ x ∷ behind → ⊥
none_before [] behind x e = absurd cc
none_before (y ∷ xs) behind x e = absurd cc

pub last_kept : {X : Type 0} (o : Option X) (xs : List X) → last_or o (xs ++ []) ≡ last_or o xs
last_kept o [] = refl
last_kept o (y ∷ xs) = last_kept (Some y) xs

-- links up to a place, and up to behind it
pub take_all : {X : Type 0} (xs : List X) (i : ℕ) → length xs ≤ i → take i xs ≡ xs
take_all [] zero h = refl
take_all [] (suc i) h = refl
take_all (x ∷ xs) zero h = absurd (omega arith)
take_all (x ∷ xs) (suc i) h = rw (take_all xs i (omega arith))

pub set_aside : {X : Type 0} (xs : List X) (i j : ℕ) (x : X) → (j ≡ i → ⊥) → slice_get (set xs i x) j ≡ slice_get xs j
set_aside [] i j x apart = refl
set_aside (y ∷ xs) zero zero x apart = absurd (apart refl)
set_aside (y ∷ xs) zero (suc j) x apart = refl
set_aside (y ∷ xs) (suc i) zero x apart = refl
set_aside (y ∷ xs) (suc i) (suc j) x apart = set_aside xs i j x (λ e. apart (rw e))

-- what holds of some element of the longer list holds of some before the last, or of the last
pub any_parts : {X : Type 0} (P : X → Type 0) (xs : List X) (y : X) → Any P (xs ++ y ∷ []) → Any P xs ⊎ P y
any_parts {X} P [] y (zero, x, within, at, holds) = inr (subst P (sym at) holds)
any_parts {X} P [] y (suc k, x, within, at, holds) = absurd (omega arith)
any_parts {X} P (z ∷ xs) y (zero, x, within, at, holds) = inl (zero, x, omega arith, at, holds)
any_parts {X} P (z ∷ xs) y (suc k, x, within, at, holds) =
    elim (any_parts P xs y (k, x, omega arith, at, holds)) [
      | inl a ↦ inl (suc a.0, a.1, omega (arith, a.2), a.3, a.4)
      | inr h ↦ inr h
    ]

pub any_behind : {X : Type 0} (P : X → Type 0) (x : X) (xs : List X) → Any P xs → Any P (x ∷ xs)
any_behind P x xs (k, y, within, at, holds) = (suc k, y, omega arith, at, holds)

-- the first element, or one behind it
pub any_first : {X : Type 0} (P : X → Type 0) (x : X) (xs : List X) → P x → Any P (x ∷ xs)
any_first P x xs holds = (zero, x, omega arith, refl, holds)

-- each period is a power of two
pub period_power : (p : ℕ) → Contains (1 ∷ 2 ∷ 4 ∷ 8 ∷ 16 ∷ 32 ∷ 64 ∷ []) p → (k : ℕ) × (p ≡ 2 ^ k)
period_power p has = at_place p has.0 has.1 has.2
  where
    at_place : (p k : ℕ) → k < 7 → get_or (1 ∷ 2 ∷ 4 ∷ 8 ∷ 16 ∷ 32 ∷ 64 ∷ []) k p ≡ p → (k : ℕ) × (p ≡ 2 ^ k)
    at_place p zero within at = (0, sym at)
    at_place p (suc zero) within at = (1, sym at)
    at_place p (suc (suc zero)) within at = (2, sym at)
    at_place p (suc (suc (suc zero))) within at = (3, sym at)
    at_place p (suc (suc (suc (suc zero)))) within at = (4, sym at)
    at_place p (suc (suc (suc (suc (suc zero))))) within at = (5, sym at)
    at_place p (suc (suc (suc (suc (suc (suc zero)))))) within at = (6, sym at)
    at_place p (suc (suc (suc (suc (suc (suc (suc k))))))) within at = absurd (omega arith)

-- each period divides 64
pub period_divides : (n p : ℕ) → Contains (1 ∷ 2 ∷ 4 ∷ 8 ∷ 16 ∷ 32 ∷ 64 ∷ []) p → n % 64 % p ≡ n % p
period_divides n p has = at_place n p has.0 has.1 has.2
  where
    at_place : (n p k : ℕ) → k < 7 → get_or (1 ∷ 2 ∷ 4 ∷ 8 ∷ 16 ∷ 32 ∷ 64 ∷ []) k p ≡ p → n % 64 % p ≡ n % p
    at_place n p zero within at = rw (← at) (omega arith)
    at_place n p (suc zero) within at = rw (← at) (omega arith)
    at_place n p (suc (suc zero)) within at = rw (← at) (omega arith)
    at_place n p (suc (suc (suc zero))) within at = rw (← at) (omega arith)
    at_place n p (suc (suc (suc (suc zero)))) within at = rw (← at) (omega arith)
    at_place n p (suc (suc (suc (suc (suc zero))))) within at = rw (← at) (omega arith)
    at_place n p (suc (suc (suc (suc (suc (suc zero)))))) within at = rw (← at) (omega arith)
    at_place n p (suc (suc (suc (suc (suc (suc (suc k))))))) within at = absurd (omega arith)

-- texts that a test tells apart differ
pub differ : (xs ys : List ℕ) → bytes_eq xs ys ≡ false → xs ≡ ys → ⊥
differ xs ys apart same = both_ways (bytes_eq xs ys) apart (ap (bytes_eq xs) (sym same) ∙ nat_list_eq_equiv.refl xs)

pub same_name : (name text : List ℕ) → Some name ≡ Some text → name ≡ text
same_name name text e = ap (λ o. unwrap_or o text) e

pub last_if : {X : Type 0} (b : Bool) (o : Option X) (x : X) (xs : List X) → last_or o (if b then x ∷ xs else xs) ≡ last_or (if b then Some x else o) xs
last_if true o x xs = refl
last_if false o x xs = refl

pub take_next : {X : Type 0} (xs : List X) (i : ℕ) (x : X) → slice_get xs i ≡ Some x → take (suc i) xs ≡ take i xs ++ x ∷ []
take_next [] i x e = absurd (grind arith)
take_next (y ∷ xs) zero x e = let h : y ≡ x = cc in ap (λ z. z ∷ []) h
take_next (y ∷ xs) (suc i) x e = rw (take_next xs i x e)

pub set_length : {X : Type 0} (xs : List X) (i : ℕ) (x : X) → length (slice_set xs i x) ≡ length xs
set_length [] i x = refl
set_length (y ∷ ys) zero x = omega arith
set_length (y ∷ ys) (suc i) x = let e = set_length ys i x in omega arith

pub got_at : {X : Type 0} (xs : List X) (i : ℕ) (x : X) → i < length xs → x ≡ get_or xs i x → slice_get xs i ≡ Some x
got_at xs i x lt e = slice_get-get_or xs i x lt ∙ (rw (sym e))

-- no list is without elements where one stands in it
pub none_stands : {X : Type 0} (xs : List X) (y : X) (ys : List X) → [] ≡ xs ++ y ∷ ys → ⊥
none_stands xs y ys e = omega (arith, ap length e, length-append xs (y ∷ ys))

pub take_more : {X : Type 0} (xs : List X) (i j : ℕ) (x : X) → j ≡ suc i → slice_get xs i ≡ Some x → take j xs ≡ take i xs ++ x ∷ []
take_more xs i j x e at = rw e (take_next xs i x at)

-- an element of a list with one more at its end
pub pushed : {X : Type 0} (xs : List X) (y x : X) (i : ℕ) → slice_get (xs ++ y ∷ []) i ≡ Some x → (slice_get xs i ≡ Some x) ⊎ ((i ≡ length xs) × (y ≡ x))
pushed [] y x zero h = inr (refl, grind arith)
pushed [] y x (suc i) h = absurd (grind arith)
pushed (z ∷ zs) y x zero h = inl h
pushed (z ∷ zs) y x (suc i) h = elim (pushed zs y x i h) [ inl g ↦ inl g | inr g ↦ inr (ap suc g.0, g.1) ]

pub append_none : {X : Type 0} (xs : List X) → xs ++ [] ≡ xs
append_none [] = refl
append_none (x ∷ xs) = rw (append_none xs)

pub find_same : {X : Type 0} (f : X → Bool) (xs zs : List X) (y : X) → find f xs ≡ Some y → find f (xs ++ zs) ≡ Some y
find_same f [] zs y e = absurd cc
find_same f (x ∷ xs) zs y e = same_by (f x) x y (find f xs) (find f (xs ++ zs)) e (find_same f xs zs y)

pub find_more : {X : Type 0} (f : X → Bool) (xs zs : List X) → find f xs ≡ None → find f (xs ++ zs) ≡ find f zs
find_more f [] zs e = refl
find_more f (x ∷ xs) zs e = more_by (f x) x (find f xs) (find f (xs ++ zs)) (find f zs) e (find_more f xs zs)

-- one more element is not found first
pub find_skips : {X : Type 0} (f : X → Bool) (xs : List X) (x : X) → (f x ≡ true → find f xs ≡ None → ⊥) → find f (xs ++ x ∷ []) ≡ find f xs
find_skips f xs x never = ⊎_elim
    (λ s. find_same f xs (x ∷ []) s.0 s.1 ∙ sym s.1)
    (λ none. find_more f xs (x ∷ []) none ∙ ⊎_elim
    (λ y. absurd (never y none))
    (λ n. rw n (sym none))
    (cases_Bool (f x)))
    (some_or_none (find f xs))

-- what is found is at a place and passes the test
pub find_at : {X : Type 0} (p : X → Bool) (xs : List X) (x : X) → find p xs ≡ Some x → (i : ℕ) × (slice_get xs i ≡ Some x) × (p x ≡ true)
find_at p [] x e = absurd cc
find_at {X} p (y ∷ xs) x e =
    elim (p y) as (λ b. p y ≡ b → cond b (Some y) (find p xs) ≡ Some x → (i : ℕ) × (slice_get (y ∷ xs) i ≡ Some x) × (p x ≡ true)) [
      | true ↦ λ at is. ((0, is, ap p (sym cc) ∙ at))
      | false ↦ λ at is. (let more = find_at p xs x is in (suc more.0, more.1, more.2))
    ] refl e

-- what is found passes the test
pub found_passes : {X : Type 0} (p : X → Bool) (xs : List X) (x : X) → find p xs ≡ Some x → p x ≡ true
found_passes p [] x e = absurd cc
found_passes {X} p (y ∷ xs) x e =
    elim (p y) as (λ b. p y ≡ b → cond b (Some y) (find p xs) ≡ Some x → p x ≡ true) [
      | true ↦ λ at is. (ap p (sym cc) ∙ at)
      | false ↦ λ at is. found_passes p xs x is
    ] refl e

pub filter_off : {X : Type 0} (p : X → Bool) (xs : List X) (x : X) → p x ≡ false → filter p (xs ++ x ∷ []) ≡ filter p xs
filter_off {X} p xs x is =
    filter-append p xs (x ∷ []) ∙ (rw is (append_nil (filter p xs)))
  where
    append_nil : (ys : List X) → ys ++ [] ≡ ys
    append_nil [] = refl
    append_nil (y ∷ ys) = rw (append_nil ys)

-- behind one of the kind there is nothing
pub after_one : {X : Type 0} (p : X → Bool) (xs : List X) (x : X) → p x ≡ true → after_last p (xs ++ x ∷ []) ≡ []
after_one {X} p xs x is =
    let test : X → Bool = λ y. not (p y) in
    let none : suffix_len test (xs ++ x ∷ []) ≡ 0 =
    ap (prefix_len test) (reverse-append xs (x ∷ [])) ∙ (rw is) in
    drop_of_length-le (xs ++ x ∷ []) (omega arith)

-- what a filter makes of one more that passes, or not
pub filter_on : {X : Type 0} (p : X → Bool) (xs : List X) (x : X) → p x ≡ true → filter p (xs ++ x ∷ []) ≡ filter p xs ++ x ∷ []
filter_on {X} p xs x is = filter-append p xs (x ∷ []) ∙ (rw is)

-- it is found where none was
pub find_new : {X : Type 0} (f : X → Bool) (xs : List X) (x : X) → f x ≡ true → find f xs ≡ None → find f (xs ++ x ∷ []) ≡ Some x
find_new f xs x t none = find_more f xs (x ∷ []) none ∙ (rw t)

pub all-push : {X : Type 0} (P : X → Type 0) (xs : List X) (x : X) → AllByRecursion P xs → P x → AllByRecursion P (xs ++ x ∷ [])
all-push P [] x all one = (one, tt)
all-push P (y ∷ ys) x all one = (all.0, all-push P ys x all.1 one)

pub find_of : {X : Type 0} (P : X → Type 0) (f : X → Bool) (xs : List X) (y : X) → All P xs → find f xs ≡ Some y → P y
find_of P f [] y all e = absurd cc
find_of P f (x ∷ xs) y all e = of_by P (f x) x y (find f xs) e (All-head P x xs all) (find_of P f xs y (All-tail P x xs all))

pub any_of : {X : Type 0} (P : X → Type 0) (x : X) (xs : List X) → Any P (x ∷ xs) → P x ⊎ Any P xs
any_of P x xs (zero, y, within, at, holds) = inl (subst P (sym at) holds)
any_of P x xs (suc k, y, within, at, holds) = inr (k, y, omega arith, at, holds)

-- nothing holds of an element of no list
pub any_none : {X : Type 0} (P : X → Type 0) → Any P [] → ⊥
any_none P (k, x, within, at, holds) = omega arith

pub drop-front : {X : Type 0} (xs ys : List X) → drop (length xs) (xs ++ ys) ≡ ys
drop-front [] ys = refl
drop-front (x ∷ xs) ys = drop-front xs ys

pub no_front : {N : Type 0} (ps qs : List N) → [] ≡ ps ++ qs → ps ≡ []
no_front [] qs e = refl
no_front (p ∷ ps) qs e = absurd cc

-- two lists are one where each is a front of the other
pub fronts : {N : Type 0} (xs ys more rest : List N) → ys ≡ xs ++ more → xs ≡ ys ++ rest → xs ≡ ys
fronts xs ys [] rest a b = sym (a ∙ append-nil xs)
fronts xs ys (m ∷ more) rest a b = absurd (omega (arith, ap length a, length-append xs (m ∷ more), ap length b, length-append ys rest))

pub all_turned : {X : Type 0} (P : X → Type 0) (xs : List X) → All P xs → All P (reverse xs)
all_turned P [] h = h
all_turned P (x ∷ xs) h =
    subst (All P) (sym (reverse-append (x ∷ []) xs))
    (All-append P (reverse xs) (x ∷ []) (all_turned P xs (All-tail P x xs h)) (All-cons P x [] (All-head P x xs h) (All-nil P)))

-- what a search tells is the place of the first that passes
pub searched : {X : Type 0} (p : X → Bool) (xs : List X) (r : Option ℕ) → MatchOption r (AllWithin (λ x. p x ≡ false) xs 0 (length xs))
    (λ i. (i < length xs) × HoldsAt (λ x. p x ≡ true) xs i × AllWithin (λ x. p x ≡ false) xs 0 i) → r ≡ position p xs
searched {X} p [] None h = refl
searched {X} p [] (Some i) h = absurd (omega (arith, h.0))
searched {X} p (x ∷ xs) None h =
    let at =
    position_or_len_is p (x ∷ xs) (length (x ∷ xs)) x (omega arith) (λ k lt. h k x (omega arith) lt)
    (λ lt. absurd (omega arith)) in
    grind (arith, common_steps)
searched {X} p (x ∷ xs) (Some i) h =
    let at = position_or_len_is p (x ∷ xs) i x (omega (arith, h.0)) (λ k lt. h.2 k x (omega arith) lt) (λ lt. h.1 x) in
    grind (arith, common_steps)
