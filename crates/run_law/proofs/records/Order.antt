-- Records, their numbers and places, and places one before another.
use Rattle.std.{specs.List.{after_last, fold, list_any, prefix_len, suffix_len}}
use Rattle.std.proofs.{Common.{◌||◌, All, arith, drop, filter, length-append, reverse, zero-add}}
use Rattle.std.proofs.lemmas.Bool.{and_from, and_parts, cond-true, eq-eqb, lt-ltb, ltb-true, or_cases, or_left}
use Rattle.std.proofs.lemmas.Bool.{or_right}
use Rattle.std.proofs.lemmas.List.{Elements.{All-cons, All-head, All-nil, All-tail}, length-map, length-reverse}
use Rattle.std.proofs.lemmas.List.{reverse-append}
use Rattle.compression.proofs.Growth.{in_cases, in_none}
use Rattle.run_law.{specs.records.Order.is_before}
use Rattle.run_law.proofs.{runs.{NetworkRuns.{one_more, same_notes}, Places.{earlier_time, in_parts}}}
use Rattle.run_law.proofs.Words
use Words.{if◌then◌else◌, ◌&&◌, ◌++◌, ◌+◌, ◌-◌, ◌<◌, ◌==◌, ◌∙◌, ◌∷◌, ◌≡◌, ◌≤◌, ◌⊎◌, Bool, Contains, Happening, IsBefore}
use Words.{IsIn, List, Network, None, Note, Option, Some, [], ap, append-nil, append_assoc, cases_lt, cons_option}
use Words.{earlier, eqb-true, false, filter_map, happening, happenings, inl, inr, key, le-ltb, length, members_in}
use Words.{nat_lt, not, numbered, place_of, rank, refl, slice_get, suc, sym, time_of, true, zero, ℕ}
use Rattle.tte_units.proofs.general_lemmas.Lists.{all_turned}

-- ---- records, their numbers and their places

pub none_numbered : (number : ℕ) (g : Happening) → numbered [] number ≡ Some g → ⊥
none_numbered zero g e = cc
none_numbered (suc before) g e = cc

-- a record is earlier exactly where its time is
pub from_earlier : (t : ℕ) (hs : List Happening) (h : Happening) → IsIn h (earlier t hs) → IsIn h hs × (time_of h < t)
from_earlier t [] h i = absurd i
from_earlier t (x ∷ hs) h i =
    elim (cases_lt (time_of x) t) [
      | inl lt ↦ elim (rw (lt-ltb (time_of x) t lt) at i) [
        | inl same ↦ (inl same, rw same lt)
        | inr more ↦ let it = from_earlier t hs h more in (inr it.0, it.1)
      ]
      | inr ge ↦ let it =
          from_earlier t hs h (rw (le-ltb (time_of x) t ge) at i) in (inr it.0, it.1)
    ]

pub is_earlier : (t : ℕ) (hs : List Happening) (h : Happening) → IsIn h hs → time_of h < t → IsIn h (earlier t hs)
is_earlier t [] h i lt = i
is_earlier t (x ∷ hs) h (inl same) lt =
    let early : nat_lt (time_of x) t ≡ true = rw (sym same) (lt-ltb (time_of h) t lt) in
    rw early (inl same)
is_earlier t (x ∷ hs) h (inr i) lt =
    elim (nat_lt (time_of x) t) as (λ b. IsIn h (if b then x ∷ earlier t hs else earlier t hs))
    [ true ↦ inr (is_earlier t hs h i lt) | false ↦ is_earlier t hs h i lt ]

-- there are as many records with their frames as records
pub as_many : (network : Network) (ns : List Note) → length (happenings network ns) ≡ length ns
as_many network ns = sym (length-map (happenings network ns) (λ h. h.note)) ∙ ap length (same_notes network ns)

pub happenings_on : (network : Network) (notes rest : List Note) → (hs : List Happening) × (happenings network (notes ++ rest) ≡ happenings network notes ++ hs)
happenings_on network notes [] = ([], ap (happenings network) (append-nil notes) ∙ sym (append-nil (happenings network notes)))
happenings_on network notes (m ∷ rest) = grind (arith, happening, happenings, append_assoc, one_more, (happenings_on network (notes ++ m ∷ []) rest))

-- and what is before the time is of an earlier one
pub soon : (y : Happening) (u : ℕ) → IsBefore (place_of y) (u ∷ []) → time_of y < u
soon y u b = earlier_time (time_of y) u (rank y.note.body ∷ key (members_in y) y.note.body) b

pub fold_parts : {A : Type 0} (f : A → Happening → A) (a : A) (xs ys : List Happening) → fold f a (xs ++ ys) ≡ fold f (fold f a xs) ys
fold_parts f a [] ys = refl
fold_parts f a (x ∷ xs) ys = fold_parts f (f a x) xs ys

-- ---- places one before another, and records in a list

-- a place that is before another is of no later time
pub time_before : (u t : ℕ) (ks ls : List ℕ) → IsBefore (u ∷ ks) (t ∷ ls) → u ≤ t
time_before u t ks ls (inl lt) = omega arith
time_before u t ks ls (inr b) = omega (arith, b.0)

-- the test of what comes before
pub before_is : (p q : List ℕ) → IsBefore p q → is_before p q ≡ true
before_is p [] b = absurd b
before_is [] (y ∷ ys) b = refl
before_is (x ∷ xs) (y ∷ ys) (inl lt) = or_left (nat_lt x y) (x == y && is_before xs ys) (lt-ltb x y lt)
before_is (x ∷ xs) (y ∷ ys) (inr b) =
    or_right (nat_lt x y) (x == y && is_before xs ys) (and_from (x == y) (is_before xs ys) (eq-eqb x y b.0) (before_is xs ys b.1))

-- two tests that agree on a list keep the same of it
pub same_kept : {X : Type 0} (p q : X → Bool) (xs : List X) → ((x : X) → IsIn x xs → p x ≡ q x) → filter p xs ≡ filter q xs
same_kept p q [] same = refl
same_kept {X} p q (x ∷ xs) same =
    rw (same x (inl refl))
    (rw (same_kept p q xs (λ y i. same y (inr i))))

pub is_there : (p q : List ℕ) → is_before p q ≡ true → IsBefore p q
is_there p [] e = absurd cc
is_there [] (y ∷ ys) e = tt
is_there (x ∷ xs) (y ∷ ys) e =
    elim (or_cases (nat_lt x y) (x == y && is_before xs ys) e) [
      | inl lt ↦ inl (ltb-true x y lt)
      | inr more ↦ let parts = and_parts (x == y) (is_before xs ys) more in inr (eqb-true x y parts.0, is_there xs ys parts.1)
    ]

pub in_drop : {X : Type 0} (n : ℕ) (xs : List X) (x : X) → IsIn x (drop n xs) → IsIn x xs
in_drop zero xs x i = i
in_drop (suc n) [] x i = i
in_drop (suc n) (y ∷ xs) x i = inr (in_drop n xs x i)

-- what is in a list by its place is in it
pub contained : {X : Type 0} (xs : List X) (x : X) → Contains xs x → IsIn x xs
contained [] x at = absurd (in_none x at)
contained (y ∷ xs) x at = elim (in_cases y x xs at) [ inl same ↦ inl (sym same) | inr more ↦ inr (contained xs x more) ]

-- and where one does, some does
pub in_any : {X : Type 0} (p : X → Bool) (xs : List X) (x : X) → IsIn x xs → p x ≡ true → list_any p xs ≡ true
in_any p [] x i e = absurd i
in_any p (y ∷ xs) x (inl same) e = or_left (p y) (list_any p xs) (ap p (sym same) ∙ e)
in_any p (y ∷ xs) x (inr more) e = or_right (p y) (list_any p xs) (in_any p xs x more e)

-- a filter keeps what passes its test
pub all_kept : {X : Type 0} (p : X → Bool) (xs : List X) → ((x : X) → IsIn x xs → p x ≡ true) → filter p xs ≡ xs
all_kept p [] all = refl
all_kept {X} p (x ∷ xs) all =
    rw (all x (inl refl)) (rw (all_kept p xs (λ y i. all y (inr i))))

-- where some element passes, one is there that does
pub any_in : {X : Type 0} (p : X → Bool) (xs : List X) → list_any p xs ≡ true → (x : X) × IsIn x xs × (p x ≡ true)
any_in p [] e = absurd cc
any_in {X} p (x ∷ xs) e = elim (p x) as (λ b. p x ≡ b → (b || list_any p xs) ≡ true → (y : X) × IsIn y (x ∷ xs) × (p y ≡ true)) [
  | true ↦ λ at some. (x, inl refl, at)
  | false ↦ λ at some. (let r = any_in p xs some in (r.0, inr r.1, r.2))
] refl e

-- what holds of each element holds of all
pub all_of : {X : Type 0} (P : X → Type 0) (xs : List X) → ((x : X) → IsIn x xs → P x) → All P xs
all_of P [] each = All-nil P
all_of P (x ∷ xs) each = All-cons P x xs (each x (inl refl)) (all_of P xs (λ y i. each y (inr i)))

-- an element that is made of one of the list
pub given_of : {X Y : Type 0} (f : X → Option Y) (xs : List X) (y : Y) → IsIn y (filter_map f xs) → (x : X) × IsIn x xs × (f x ≡ Some y)
given_of f [] y i = absurd i
given_of {X} {Y} f (x ∷ xs) y i =
    let later : IsIn y (filter_map f xs) → (z : X) × IsIn z (x ∷ xs) × (f z ≡ Some y) = λ j.
    (let r = given_of f xs y j in (r.0, inr r.1, r.2)) in
    elim (f x) as (λ o. f x ≡ o → IsIn y (cons_option o (filter_map f xs)) → (z : X) × IsIn z (x ∷ xs) × (f z ≡ Some y)) [
      | None ↦ λ e j. later j
      | Some w ↦ λ e j. elim j [ inl same ↦ (x, inl refl, e ∙ (rw (sym same))) | inr more ↦ later more ]
    ] refl i

-- what makes nothing of each makes nothing
pub makes_none : {X Y : Type 0} (f : X → Option Y) (xs : List X) → ((x : X) → IsIn x xs → f x ≡ None) → filter_map f xs ≡ []
makes_none f [] quiet = refl
makes_none f (x ∷ xs) quiet = rw (quiet x (inl refl)) (makes_none f xs (λ y i. quiet y (inr i)))

-- one of a lower rank, and of no later time, is before it
pub ahead : (t u a b : ℕ) (xs ys : List ℕ) → t ≤ u → a < b → IsBefore (t ∷ a ∷ xs) (u ∷ b ∷ ys)
ahead t u a b xs ys le low = elim (cases_lt t u) [ inl lt ↦ inl lt | inr ge ↦ inr (omega arith, inl low) ]

-- of two permanences of one device, the first in the order has no greater amount, or an earlier time
pub place_order : (t u d a b : ℕ) (xs ys : List ℕ) → IsBefore (t ∷ 3 ∷ d ∷ a ∷ xs) (u ∷ 3 ∷ d ∷ b ∷ ys) → (t < u) ⊎ (a ≤ b)
place_order t u d a b xs ys (inl lt) = inl lt
place_order t u d a b xs ys (inr (same, inl lt)) = absurd (omega arith)
place_order t u d a b xs ys (inr (same, inr (e, inl lt))) = absurd (omega arith)
place_order t u d a b xs ys (inr (same, inr (e, inr (f, inl lt)))) = inr (omega arith)
place_order t u d a b xs ys (inr (same, inr (e, inr (f, inr more)))) = inr (omega (arith, more.0))

pub contains : {X : Type 0} (xs : List X) (x : X) → IsIn x xs → Contains xs x
contains [] x there = absurd there
contains (y ∷ xs) x (inl e) = (0, omega arith, sym e)
contains (y ∷ xs) x (inr rest) = let c = contains xs x rest in (suc c.0, omega arith, c.2)

-- what a filter keeps passes its test
pub has_passed : {X : Type 0} (p : X → Bool) (xs : List X) (x : X) → IsIn x (filter p xs) → p x ≡ true
has_passed p [] x i = absurd i
has_passed p (y ∷ xs) x i =
    elim (p y) as (λ b. p y ≡ b → IsIn x (if b then y ∷ filter p xs else filter p xs) → p x ≡ true) [
      | true ↦ λ e j. elim j [ inl same ↦ ap p same ∙ e | inr more ↦ has_passed p xs x more ]
      | false ↦ λ e j. has_passed p xs x j
    ] refl i

-- where none passes, no test does
pub none_any : {X : Type 0} (p : X → Bool) (xs : List X) → ((x : X) → IsIn x xs → p x ≡ false) → list_any p xs ≡ false
none_any p [] none = refl
none_any p (x ∷ xs) none = (rw (none x (inl refl)) (none_any p xs (λ y i. none y (inr i))))

pub prefix_more : {X : Type 0} (p : X → Bool) (xs ys : List X) → All (λ x. p x ≡ true) xs → prefix_len p (xs ++ ys) ≡ length xs + prefix_len p ys
prefix_more p [] ys h = sym (zero-add _)
prefix_more p (x ∷ xs) ys h =
    let more = prefix_more p xs ys (All-tail (λ y. p y ≡ true) x xs h) in
    cond-true (p x) _ 0 (All-head (λ y. p y ≡ true) x xs h) ∙ omega arith

pub suffix_more : {X : Type 0} (p : X → Bool) (xs ys : List X) → All (λ x. p x ≡ true) ys → suffix_len p (xs ++ ys) ≡ length ys + suffix_len p xs
suffix_more p xs ys h =
    ap (prefix_len p) (reverse-append xs ys)
    ∙ prefix_more p (reverse ys) (reverse xs) (all_turned (λ x. p x ≡ true) ys h)
    ∙ (rw (length-reverse ys))

pub drop_more : {X : Type 0} (n : ℕ) (xs ys : List X) → n ≤ length xs → drop n (xs ++ ys) ≡ drop n xs ++ ys
drop_more zero xs ys le = refl
drop_more (suc n) [] ys le = absurd (omega arith)
drop_more (suc n) (x ∷ xs) ys le = drop_more n xs ys (omega arith)

-- what is of no such kind may be added behind the last that is
pub after_more : {X : Type 0} (p : X → Bool) (xs ys : List X) → ((y : X) → IsIn y ys → p y ≡ false) → after_last p (xs ++ ys) ≡ after_last p xs ++ ys
after_more {X} p xs ys quiet =
    let test : X → Bool = λ x. not (p x) in
    let more = suffix_more test xs ys (all_of (λ x. test x ≡ true) ys (λ x i. ap not (quiet x i))) in
    let n = length xs - suffix_len test xs in
    let same : length (xs ++ ys) - suffix_len test (xs ++ ys) ≡ n = omega (arith, length-append xs ys) in
    rw same (drop_more n xs ys (omega arith))

pub index_of : {X : Type 0} (x : X) (xs : List X) → IsIn x xs → (i : ℕ) × (slice_get xs i ≡ Some x)
index_of x [] i = absurd i
index_of x (y ∷ ys) (inl e) = (zero, ap Some (sym e))
index_of x (y ∷ ys) (inr i) = let rest = index_of x ys i in (suc rest.0, rest.1)

pub in_reverse : {X : Type 0} (xs : List X) (x : X) → IsIn x (reverse xs) → IsIn x xs
in_reverse [] x i = i
in_reverse {X} (y ∷ ys) x i =
    elim (in_parts x (reverse ys) (y ∷ []) (rw (reverse-append (y ∷ []) ys) at i)) [
      | inl front ↦ inr (in_reverse ys x front)
      | inr (inl e) ↦ inl e
      | inr (inr none) ↦ absurd none
    ]

pub prefix_same : {X : Type 0} (p q : X → Bool) (xs : List X) → ((x : X) → IsIn x xs → p x ≡ q x) → prefix_len p xs ≡ prefix_len q xs
prefix_same p q [] same = refl
prefix_same p q (x ∷ xs) same =
    rw (same x (inl refl))
    (rw (prefix_same p q xs (λ y i. same y (inr i))))

-- what stands behind the last that passes is the same by a test that agrees on the list
pub after_same : {X : Type 0} (p q : X → Bool) (xs : List X) → ((x : X) → IsIn x xs → p x ≡ q x) → after_last p xs ≡ after_last q xs
after_same p q xs same =
    rw (prefix_same (λ x. not (p x)) (λ x. not (q x)) (reverse xs) (λ x i. ap not (same x (in_reverse xs x i))))

-- what is made of an element is there
pub is_given : {X Y : Type 0} (f : X → Option Y) (xs : List X) (x : X) (y : Y) → IsIn x xs → f x ≡ Some y → IsIn y (filter_map f xs)
is_given f [] x y i e = absurd i
is_given {X} {Y} f (z ∷ xs) x y (inl same) e = rw (ap f (sym same) ∙ e) (inl refl)
is_given f (z ∷ xs) x y (inr more) e = grind (arith, filter_map, cons_option, (is_given f xs x y more e))
