-- Points in rising order, and where their middle lies.
use Rattle.std.{specs.{List.last_or, Prelude.{All, int_le, slice_get}}}
use Rattle.std.proofs.{lemmas.{Bool.cases_lt, Int.ints, List.Elements.{All-head, All-tail}, Option.slice_get-get_or}}
use Rattle.std.proofs.Common
use Common.{◌++◌, ◌+ℤ◌, ◌+◌, ◌-ℤ◌, ◌-◌, ◌<ℤ◌, ◌<◌, ◌^◌, ◌∙◌, ◌∷◌, ◌≡◌, ◌≢◌, ◌≤ℤ◌, ◌≤◌, FitsSigned, IsTrue, List, None}
use Common.{Some, [], ap, arith, get_or, inl, inr, length, map, pos, refl, subst, suc, sym, w64, zero, ℕ, ℤ}
use Rattle.compression.specs.{Ascent.{IsAscending, MayFollow, last_from, offset_at, spread}}
use Rattle.compression.specs.Middle
use Middle.{AllButOne, LiesWithin, MiddleAmongOthers, MiddleFromFirstToLast, last_but_one, middle_of, relative}
use Rattle.tte_units.{proofs.Means.mean_of-floor, specs.Mean.{IsMean, mean_of}}

-- ---- lists in rising order, and their first and last elements

at_length : {X : Type 0} (x : X) (xs : List X) → slice_get (x ∷ xs) (length xs) ≡ last_or (Some x) xs
at_length x [] = refl
at_length x (y ∷ ys) = at_length y ys

-- the element at the last place is the last
pub slice_get-last : {X : Type 0} (xs : List X) → slice_get xs (length xs - 1) ≡ last_or None xs
slice_get-last [] = refl
slice_get-last (x ∷ xs) =
    let e : length (x ∷ xs) - 1 ≡ length xs = omega arith in
    rw e (at_length x xs)

-- an element that is read at the last place is the last
pub last_or-read : {X : Type 0} (xs : List X) (x : X) → 0 < length xs → x ≡ get_or xs (length xs - 1) x → last_or None xs ≡ Some x
last_or-read xs x some read =
    sym (slice_get-last xs) ∙ slice_get-get_or xs (length xs - 1) x (omega arith) ∙ ap Some (sym read)

-- a number that is not below the last keeps the order
pub IsAscending-push : (ps : List ℤ) (p : ℤ) → IsAscending ps → MayFollow ps p → IsAscending (ps ++ p ∷ [])
IsAscending-push [] p up may = tt
IsAscending-push (q ∷ []) p up may = (may, tt)
IsAscending-push (q ∷ r ∷ rs) p up may = (up.0, IsAscending-push (r ∷ rs) p up.1 may)

-- to compare with the last is to ask whether the number may follow
pub MayFollow-last : (ps : List ℤ) (q p : ℤ) → last_or None ps ≡ Some q → (IsTrue (int_le q p) → MayFollow ps p) × (MayFollow ps p → IsTrue (int_le q p))
MayFollow-last ps q p e = (λ h. rw e (grind (arith, ints)), λ may. grind (arith, ints))

-- the first number of a rising list is the least
first_least : (p : ℤ) (ps : List ℤ) (i : ℕ) → IsAscending (p ∷ ps) → i < length (p ∷ ps) → p ≤ℤ get_or (p ∷ ps) i (pos 0)
first_least p ps zero up within = omega (arith, ints)
first_least p [] (suc i) up within = absurd (omega arith)
first_least p (q ∷ qs) (suc i) up within =
    let least = first_least q qs i up.1 (omega arith) in
    omega (arith, ints, up.0)

-- and the last the greatest
last_greatest : (p : ℤ) (ps : List ℤ) (i : ℕ) → IsAscending (p ∷ ps) → i < length (p ∷ ps) → get_or (p ∷ ps) i (pos 0) ≤ℤ last_from p ps
last_greatest p [] zero up within = omega (arith, ints)
last_greatest p [] (suc i) up within = absurd (omega arith)
last_greatest p (q ∷ qs) zero up within =
    let more = last_greatest q qs zero up.1 (omega arith) in
    omega (arith, ints, up.0)
last_greatest p (q ∷ qs) (suc i) up within = last_greatest q qs i up.1 (omega arith)

-- the offsets of a rising list go from 0 to its spread
pub offset_at-within : (ps : List ℤ) (i : ℕ) → IsAscending ps → i < length ps → (pos 0 ≤ℤ offset_at ps i) × (offset_at ps i ≤ℤ spread ps)
offset_at-within [] i up within = absurd (omega arith)
offset_at-within (p ∷ ps) i up within =
    let low = first_least p ps i up within in
    let high = last_greatest p ps i up within in
    (omega (arith, ints), omega (arith, ints))

-- what the difference of two i64 is that are close enough
pub offset_fits : (ps : List ℤ) (i : ℕ) → IsAscending ps → i < length ps → spread ps <ℤ pos (2 ^ 60) → FitsSigned w64 (offset_at ps i)
offset_fits ps i up within near =
    let o = offset_at-within ps i up within in
    grind (arith, ints, o.0, o.1)

-- ---- what the middle of a list of points is by their places

only_mean : {s m : ℤ} → IsMean s s m → m ≡ s
only_mean h = omega (arith, ints, h.least, h.most)

-- the mean of a number with itself
pub mean_of-same : (s : ℤ) → mean_of s s ≡ s
mean_of-same s = only_mean (mean_of-floor s s)

-- the mean of the first and the last, where there are fewer than three
pub middle_of-ends : (ps : List ℤ) (last : ℕ) → length ps ≡ last + 1 → last < 2 → mean_of (offset_at ps 0) (offset_at ps last) ≡ middle_of (relative ps)
middle_of-ends [] last len few = absurd (omega arith)
middle_of-ends (a ∷ []) last len few =
    let e : last ≡ 0 = omega arith in
    rw e (mean_of-same (a -ℤ a))
middle_of-ends (a ∷ b ∷ []) last len few =
    let e : last ≡ 1 = omega arith in
    rw e refl
middle_of-ends (a ∷ b ∷ c ∷ more) last len few = absurd (omega arith)

last_but_one-at : (p e f : ℤ) (more : List ℤ) → get_or (e ∷ f ∷ more) (length more) (pos 0) -ℤ p ≡ last_but_one (e -ℤ p) (f -ℤ p) (map (λ q. q -ℤ p) more)
last_but_one-at p e f [] = refl
last_but_one-at p e f (g ∷ gs) = last_but_one-at p f g gs

-- the mean of the second and the last but one, where there are three or more
pub middle_of-inner : (ps : List ℤ) (last : ℕ) → length ps ≡ last + 1 → 2 ≤ last → mean_of (offset_at ps 1) (offset_at ps (last - 1)) ≡ middle_of (relative ps)
middle_of-inner [] last len many = absurd (omega arith)
middle_of-inner (a ∷ []) last len many = absurd (omega arith)
middle_of-inner (a ∷ b ∷ []) last len many = absurd (omega arith)
middle_of-inner (a ∷ b ∷ c ∷ []) last len many =
    let e : last - 1 ≡ 1 = omega arith in
    rw e (mean_of-same (b -ℤ a))
middle_of-inner (a ∷ b ∷ c ∷ d ∷ []) last len many =
    let e : last - 1 ≡ 2 = omega arith in
    rw e
middle_of-inner (a ∷ b ∷ c ∷ d ∷ e ∷ []) last len many =
    let at : last - 1 ≡ 3 = omega arith in
    rw at
middle_of-inner (a ∷ b ∷ c ∷ d ∷ e ∷ f ∷ more) last len many =
    let at : last - 1 ≡ suc (suc (suc (suc (length more)))) = omega arith in
    rw at (ap (mean_of (b -ℤ a)) (last_but_one-at a e f more))

-- a list that is not empty has a length of its last place and one more
pub length-some : {X : Type 0} (xs : List X) → xs ≢ [] → length xs ≡ (length xs - 1) + 1
length-some [] some = absurd (some refl)
length-some (x ∷ xs) some = omega arith

between : {a b m : ℤ} (s : ℤ) → IsMean a b m → (pos 0 ≤ℤ a) × (a ≤ℤ s) → (pos 0 ≤ℤ b) × (b ≤ℤ s)
    → (pos 0 ≤ℤ m) × (m ≤ℤ s)
between s mean from to =
    (omega (arith, ints, mean.least, mean.most, from.0, to.0), omega (arith, ints, mean.least, mean.most, from.1, to.1))

mean_of-within : (ps : List ℤ) (i j : ℕ) → IsAscending ps → i < length ps → j < length ps → (pos 0 ≤ℤ mean_of (offset_at ps i) (offset_at ps j))
    × (mean_of (offset_at ps i) (offset_at ps j) ≤ℤ spread ps)
mean_of-within ps i j up inside within =
    between (spread ps) (mean_of-floor (offset_at ps i) (offset_at ps j))
    (offset_at-within ps i up inside) (offset_at-within ps j up within)

-- a middle lies among the points
pub middle_of-within : (ps : List ℤ) → ps ≢ [] → IsAscending ps → (pos 0 ≤ℤ middle_of (relative ps)) × (middle_of (relative ps) ≤ℤ spread ps)
middle_of-within ps some up =
    let last = length ps - 1 in
    let len = length-some ps some in
    let Within : ℤ → Type 0 = λ m. (pos 0 ≤ℤ m) × (m ≤ℤ spread ps) in
    elim (cases_lt last 2) [
      | inl few ↦ subst Within (middle_of-ends ps last len few) (mean_of-within ps 0 last up (omega arith) (omega arith))
      | inr many ↦ subst Within (middle_of-inner ps last len many) (mean_of-within ps 1 (last - 1) up (omega arith) (omega arith))
    ]

-- ---- where the middle of points lies

-- the second of three or more
second : (low high a b c : ℤ) (more : List ℤ) → IsAscending (a ∷ b ∷ c ∷ more) → AllButOne (LiesWithin low high) (a ∷ b ∷ c ∷ more) → LiesWithin low high b
second low high a b c more up (inl all) = All-head (LiesWithin low high) b (c ∷ more) all
second low high a b c more up (inr (p, inl all)) =
    let q = All-head (LiesWithin low high) c more all in
    (omega (arith, ints, p.0, up.0), omega (arith, ints, q.1, up.1.0))
second low high a b c more up (inr (p, inr (q, rest))) = q

but_one : (P : ℤ → Type 0) (xs : List ℤ) → All P xs → AllButOne P xs
but_one P [] all = tt
but_one P (x ∷ xs) all = inl (All-tail P x xs all)

-- the last but one
last_but : (low high a b c : ℤ) (more : List ℤ) → IsAscending (a ∷ b ∷ c ∷ more) → AllButOne (LiesWithin low high) (a ∷ b ∷ c ∷ more)
    → LiesWithin low high (get_or (a ∷ b ∷ c ∷ more) (suc (length more)) (pos 0))
last_but low high a b c [] up all = second low high a b c [] up all
last_but low high a b c (d ∷ ds) up (inl all) = last_but low high b c d ds up.1 (but_one (LiesWithin low high) (b ∷ c ∷ d ∷ ds) all)
last_but low high a b c (d ∷ ds) up (inr rest) = last_but low high b c d ds up.1 rest.1

-- a mean of two numbers that lie within bounds
mean_within : (low high p b d : ℤ) {m : ℤ} → IsMean (b -ℤ p) (d -ℤ p) m → LiesWithin low high b
    → LiesWithin low high d → LiesWithin low high (p +ℤ m)
mean_within low high p b d mean from to =
    (omega (arith, ints, mean.least, mean.most, from.0, to.0), omega (arith, ints, mean.least, mean.most, from.1, to.1))

pub middle_among_others : MiddleAmongOthers
middle_among_others [] low high many up all = absurd (omega arith)
middle_among_others (a ∷ []) low high many up all = absurd (omega arith)
middle_among_others (a ∷ b ∷ []) low high many up all = absurd (omega arith)
middle_among_others (a ∷ b ∷ c ∷ more) low high many up all =
    let ps = a ∷ b ∷ c ∷ more in
    let last = suc (suc (length more)) in
    let at : last - 1 ≡ suc (length more) = omega arith in
    let inner = middle_of-inner ps last (omega arith) (omega arith) in
    let d = get_or ps (suc (length more)) (pos 0) in
    let is : mean_of (b -ℤ a) (d -ℤ a) ≡ middle_of (relative ps) = sym (rw at) ∙ inner in
    rw is at (mean_within low high a b d (mean_of-floor (b -ℤ a) (d -ℤ a)) (second low high a b c more up all)
    (last_but low high a b c more up all))

pub middle_from_first_to_last : MiddleFromFirstToLast
middle_from_first_to_last p ps up =
    let within = middle_of-within (p ∷ ps) (λ e. cc) up in
    (omega (arith, ints, within.0), omega (arith, ints, within.1))
