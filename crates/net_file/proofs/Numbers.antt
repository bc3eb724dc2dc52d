-- How a numbering grows by a name.
use Rattle.{indexmap.specs.IndexMap.insert_entry, std.{proofs.{Common.{take, true, ℕ}, lemmas.Bool.false≢true}, specs.Prelude.{IfSome, bytes_eq}}}
use Rattle.{net_file.specs.Numbering.{IsBelow, Numbering, first_of, with_name}, std.proofs.lemmas.List.{length-map, length-take, map-append, take_more}}
use Rattle.std.proofs.Common.{◌++◌, ◌+◌, ◌<◌, ◌∷◌, ◌≡◌, Bool, Bor, List, None, Option, Some, [], ap, arith, cond, false, get_or, length, map, refl, suc}
use Rattle.std.specs.{List.position_from, Map.lookup, Option.option_or}

abbrev pub Entries : Type 0
Entries = List (Bor (List ℕ) × ℕ)

abbrev pub lookup_text : List ℕ → Entries → Option ℕ
lookup_text text es = lookup (λ name. bytes_eq text name.now) es

abbrev is_missing : Option ℕ → Bool
is_missing None = true
is_missing (Some n) = false

missed : (b : Bool) (x : ℕ) (o : Option ℕ) → cond b (Some x) o ≡ None → (b ≡ false) × (o ≡ None)
missed true x o h = absurd (false≢true (ap is_missing h))
missed false x o h = (refl, h)

through : (b : Bool) (x : ℕ) (o p : Option ℕ) → cond b (Some x) (option_or o p) ≡ option_or (cond b (Some x) o) p
through true x o p = refl
through false x o p = refl

-- what is found after a new name is put in
pub found_after : (eq : Bor (List ℕ) → Bor (List ℕ) → Bool) → ((a b : Bor (List ℕ)) → eq a b ≡ bytes_eq a.now b.now)
    → (es : Entries) (k : Bor (List ℕ)) (v : ℕ) (text : List ℕ) → lookup_text k.now es ≡ None → lookup_text text (insert_entry eq es k v) ≡ option_or
    (lookup_text text es) (cond (bytes_eq text k.now) (Some v) None)
found_after eq same [] k v text h = refl
found_after eq same (e ∷ es) k v text h =
    let m = missed (bytes_eq k.now e.0.now) e.1 (lookup_text k.now es) h in
    rw (same k e.0, m.0, found_after eq same es k v text m.1)
    (through (bytes_eq text e.0.now) e.1 (lookup_text text es) (cond (bytes_eq text k.now) (Some v) None))

position_last : (t : List ℕ → Bool) (s : ℕ) (xs : List (List ℕ)) (x : List ℕ) → position_from t s (xs ++ x ∷ []) ≡ option_or (position_from t s xs)
    (cond (t x) (Some (s + length xs)) None)
position_last t s [] x = let e : s + 0 ≡ s = omega arith in rw e refl
position_last t s (y ∷ ys) x =
    let e : s + 1 + length ys ≡ s + length (y ∷ ys) = omega arith in
    rw (position_last t (s + 1) ys x, e) (through (t y) s (position_from t (s + 1) ys) (cond (t x) (Some (s + length (y ∷ ys))) None))

first_of_last : (names : List (List ℕ)) (name text : List ℕ) → first_of (names ++ name ∷ []) text ≡ with_name (first_of names) name (length names) text
first_of_last names name text =
    let e : 0 + length names ≡ length names = omega arith in
    rw e at (position_last (bytes_eq text) 0 names name)

-- the numbering of the names of some things and the next
pub first_of_more : {X : Type 0} (f : X → List ℕ) (xs : List X) (i : ℕ) (d : X) → i < length xs
    → first_of (map f (take (i + 1) xs)) ≡ with_name (first_of (map f (take i xs))) (f (get_or xs i d)) i
first_of_more f xs i d h j text =
    let count : length (map f (take i xs)) ≡ i = omega (arith, length-map (take i xs) f, length-take i xs) in
    let step : first_of (map f (take (i + 1) xs)) text ≡ with_name (first_of (map f (take i xs))) (f (get_or xs i d)) i text =
    rw (take_more xs i d h, map-append f (take i xs) (get_or xs i d ∷ []))
    (rw count at (first_of_last (map f (take i xs)) (f (get_or xs i d)) text)) in
    step j

below_case : (b : Bool) (s n : ℕ) (o : Option ℕ) → IfSome o (λ i. i < s + 1 + n) → IfSome (cond b (Some s) o) (λ i. i < s + suc n)
below_case true s n o h = omega arith
below_case false s n o h = let e : s + 1 + n ≡ s + suc n = omega arith in rw e at h

position_below : (t : List ℕ → Bool) (s : ℕ) (xs : List (List ℕ)) → IfSome (position_from t s xs) (λ i. i < s + length xs)
position_below t s [] = tt
position_below t s (x ∷ xs) = below_case (t x) s (length xs) (position_from t (s + 1) xs) (position_below t (s + 1) xs)

-- the numbers of the names of some things are below their count
pub names_below : {X : Type 0} (f : X → List ℕ) (xs : List X) (count : ℕ) (numbers : Numbering) → numbers ≡ first_of (map f xs) → count ≡ length xs
    → IsBelow count numbers
names_below f xs count numbers same sized text =
    let e : 0 + length (map f xs) ≡ count = omega (arith, length-map xs f) in
    rw same (rw e at (position_below (bytes_eq text) 0 (map f xs)))
