-- The points that count in a cluster, and their middle.
use Rattle.compression.proofs.Growth.{in_filter}
use Rattle.tte_units.proofs.general_lemmas.{Integers.int_le-is, Lists.all-push, Naturals.{or_half, or_parity}}
use Rattle.precision_law.proofs.words.Plans.{AllButOne, AreClusters, Cluster, IsAscending, LiesWithin, Ordered, Ordered-beyond, Point, all-filter, beyond}
use Rattle.precision_law.proofs.words.Plans.{cluster_of, counts, end_of, end_of-least, firsts, firsts-start, from_beyond, has_master, held-start, in_cases}
use Rattle.precision_law.proofs.words.Plans.{in_head, in_none, in_tail, mean_of-floor, members_of, members_of-clear, members_of-set, middle_among_others}
use Rattle.precision_law.proofs.words.{Plans.{middle_of, of_cycle_within, relative, with_first, with_first-new, with_first-old}, Runs.{IsIn, in_parts}}
use Rattle.precision_law.proofs.words.Std.{◌&&◌, ◌*ℤ◌, ◌++◌, ◌+ℤ◌, ◌+◌, ◌-ℤ◌, ◌/◌, ◌==◌, ◌^◌, ◌∙◌, ◌∷◌, ◌≡◌, ◌≤ℤ◌, ◌≤◌, ◌⊎◌, All, All-cons, All-nil}
use Rattle.precision_law.proofs.words.Std.{AllByRecursion, Bool, Contains, List, [], and_le_r, and_parts, and_pow, ap, arith, bit_at, bit_or, cases_Bool}
use Rattle.precision_law.proofs.words.Std.{count_ones, eqb-false, eqb-true, false, filter, fold, inl, inr, int_le, ints, length, map, ones_le_self, ones_step}
use Rattle.precision_law.proofs.words.Std.{or_cases, or_disjoint, or_parts, pos, pow-suc, pow_pos, refl, subst, suc, sym, true, zero, ℕ, ℤ}

-- ---- lists

pub all_by : {X : Type 0} (P : X → Type 0) (xs : List X) → ((x : X) → IsIn x xs → P x) → AllByRecursion P xs
all_by P [] each = tt
all_by P (x ∷ xs) each = (each x (inl refl), all_by P xs (λ y i. each y (inr i)))

pub in_all : {X : Type 0} (P : X → Type 0) (xs : List X) (x : X) → AllByRecursion P xs → IsIn x xs → P x
in_all P [] x all i = absurd i
in_all P (y ∷ xs) x all (inl same) = subst P (sym same) all.0
in_all P (y ∷ xs) x all (inr more) = in_all P xs x all.1 more

-- ---- the first points of each master

-- points of which no two are of one master
abbrev pub Apart : List Point → Type 0
Apart [] = Unit {0}
Apart (p ∷ ps) = AllByRecursion (λ q. q.master ≡ p.master → ⊥) ps × Apart ps

apart_push : (xs : List Point) (x : Point) → Apart xs → has_master xs x.master ≡ false → Apart (xs ++ x ∷ [])
apart_push [] x apart none = (tt, tt)
apart_push (p ∷ ps) x apart none =
    let parts = or_parts (p.master == x.master) (has_master ps x.master) none in (
      all-push (λ q. q.master ≡ p.master → ⊥) ps x apart.0 (λ e. eqb-false p.master x.master parts.0 (sym e)),
      apart_push
          ps x apart.1 parts.1,
    )

fold_apart : (acc xs : List Point) → Apart acc → Apart (fold with_first acc xs)
fold_apart acc [] apart = apart
fold_apart acc (x ∷ xs) apart =
    elim (cases_Bool (has_master acc x.master)) [
      | inl old ↦ rw (with_first-old acc x old) (fold_apart acc xs apart)
      | inr new ↦ rw (with_first-new acc x new) (fold_apart (acc ++ x ∷ []) xs (apart_push acc x apart new))
    ]

pub firsts_apart : (xs : List Point) → Apart (firsts xs)
firsts_apart xs = fold_apart [] xs tt

ordered_push : (xs : List Point) (x : Point) → Ordered xs → ((a : Point) → IsIn a xs → a.reading ≤ℤ x.reading) → Ordered (xs ++ x ∷ [])
ordered_push [] x up below = (tt, tt)
ordered_push (p ∷ ps) x up below = (
  all-push (λ q. p.reading ≤ℤ q.reading) ps x up.0 (below p (inl refl)),
  ordered_push ps x up.1
      (λ a i. below a (inr i)),
)

fold_ordered : (acc xs : List Point) → Ordered acc → Ordered xs → ((a x : Point) → IsIn a acc → IsIn x xs → a.reading ≤ℤ x.reading)
    → Ordered (fold with_first acc xs)
fold_ordered acc [] up more below = up
fold_ordered acc (x ∷ xs) up more below =
    elim (cases_Bool (has_master acc x.master)) [
      | inl old ↦ rw (with_first-old acc x old) (fold_ordered acc xs up more.1 (λ a y i j. below a y i (inr j)))
      | inr new ↦
          rw (with_first-new acc x new) (fold_ordered (acc ++ x ∷ []) xs
          (ordered_push acc x up (λ a i. below a x i (inl refl))) more.1
          (λ a y i j. elim (in_parts a acc (x ∷ []) i) [
            | inl l ↦ below a y l (inr j)
            | inr (inl same) ↦ rw same (in_all (λ q. x.reading ≤ℤ q.reading) xs y more.0 j)
            | inr (inr none) ↦ absurd none
          ]))
    ]

pub firsts_ordered : (xs : List Point) → Ordered xs → Ordered (firsts xs)
firsts_ordered xs up = fold_ordered [] xs tt up (λ a x i j. absurd i)

pub ordered_filter : (test : Point → Bool) (ps : List Point) → Ordered ps → Ordered (filter test ps)
ordered_filter test [] up = tt
ordered_filter test (p ∷ ps) up = grind (arith, cases_Bool, all-filter, (ordered_filter test ps up.1))

pub firsts_in : (xs : List Point) (q : Point) → IsIn q (firsts xs) → Contains xs q
firsts_in xs q i =
    let c = counts [] xs in
    (in_all (λ p. Contains xs p × (has_master [] p.master ≡ false)) c.more q c.each (subst (IsIn q) c.is i)).0

-- the point of a master that has one
pub has_one : (ps : List Point) (m : ℕ) → has_master ps m ≡ true → (q : Point) × IsIn q ps × (q.master ≡ m)
has_one [] m has = absurd cc
has_one (p ∷ ps) m has = elim (or_cases (p.master == m) (has_master ps m) has) [
  | inl e ↦ (p, inl refl, eqb-true p.master m e)
  | inr more ↦ let r = has_one ps m more in (r.0, inr r.1, r.2)
]

pub ascending_from : (ps : List Point) → Ordered ps → IsAscending (map (λ p. p.reading) ps)
ascending_from (p ∷ q ∷ qs) up = (up.0.0, ascending_from (q ∷ qs) up.1)
ascending_from ps up = tt

-- ---- the middle of points of which those of one master may be anywhere

lies_all : (low high : ℤ) (ps : List Point) → ((p : Point) → IsIn p ps → LiesWithin low high p.reading) → All (LiesWithin low high) (map (λ p. p.reading) ps)
lies_all low high [] each = All-nil (LiesWithin low high)
lies_all low high (p ∷ ps) each =
    All-cons (LiesWithin low high) p.reading (map (λ p. p.reading) ps) (each p (inl refl)) (lies_all low high ps (λ q i. each q (inr i)))

pub all_but_one : (low high : ℤ) (Bad : Point → Type 0) (ps : List Point) → Apart ps → ((p : Point) → IsIn p ps → LiesWithin low high p.reading ⊎ Bad p)
    → ((p q : Point) → IsIn p ps → IsIn q ps → Bad p → Bad q → p.master ≡ q.master) → AllButOne (LiesWithin low high) (map (λ p. p.reading) ps)
all_but_one low high Bad [] apart each same = tt
all_but_one low high Bad (p ∷ ps) apart each same = elim (each p (inl refl)) [
  | inl lies ↦ inr (lies, all_but_one low high Bad ps apart.1 (λ q i. each q (inr i)) (λ q r i j. same q r (inr i) (inr j)))
  | inr bad ↦ inl (lies_all low high ps (λ q i. elim (each q (inr i)) [
    | inl lies ↦ lies
    | inr also ↦ absurd (in_all (λ r. r.master ≡ p.master → ⊥) ps q apart.0 i (same q p (inr i) (inl refl) also bad))
  ]))
]

-- a point near which all but those lie is at most a window away from the middle
pub middle_near : (ow : ℤ) (Bad : Point → Type 0) (k o : Point) (more : List Point) → pos 0 ≤ℤ ow → Ordered (o ∷ more) → Apart (o ∷ more) → IsIn k (o ∷ more)
    → ((p : Point) → IsIn p (o ∷ more) → LiesWithin (k.reading -ℤ ow) (k.reading +ℤ ow) p.reading ⊎ Bad p)
    → ((p q : Point) → IsIn p (o ∷ more) → IsIn q (o ∷ more) → Bad p → Bad q → p.master ≡ q.master)
    → ((p : Point) → IsIn p (o ∷ more) → p.reading ≤ℤ (o.reading +ℤ (pos 2 *ℤ ow)))
    → LiesWithin (k.reading -ℤ ow) (k.reading +ℤ ow) (o.reading +ℤ middle_of (relative (map (λ p. p.reading) (o ∷ more))))
middle_near ow Bad k o [] some up apart i each same short = grind (arith, ints)
middle_near ow Bad k o (b ∷ []) some up apart i each same short =
    let m = mean_of-floor (o.reading -ℤ o.reading) (b.reading -ℤ o.reading) in
    let near = short b (inr (inl refl)) in
    elim i [
      | inl e ↦ (let at : k.reading ≡ o.reading = rw e in (omega (arith, ints), omega (arith, ints)))
      | inr (inl e) ↦ (let at : k.reading ≡ b.reading = rw e in (omega (arith, ints), omega (arith, ints)))
      | inr (inr none) ↦ absurd none
    ]
middle_near ow Bad k o (b ∷ c ∷ rest) some up apart i each same short =
    middle_among_others (map (λ p. p.reading) (o ∷ b ∷ c ∷ rest)) (k.reading -ℤ ow) (k.reading +ℤ ow) (omega arith) (ascending_from (o ∷ b ∷ c ∷ rest) up)
    (all_but_one (k.reading -ℤ ow) (k.reading +ℤ ow) Bad (o ∷ b ∷ c ∷ rest) apart each same)

-- ---- a cluster by its opener

-- a cluster is that of one of the points and others
pub record IsClusterOf (ow : ℤ) (ps : List Point) (c : Cluster) : Type 0 where
  pub first : Point
  pub rest : List Point
  pub there : Contains ps first
  pub others : (x : Point) → Contains rest x → Contains ps x
  pub ordered : Ordered ps → Ordered (first ∷ rest)
  pub is : c ≡ cluster_of ow first (first ∷ rest)

pub cluster_from : (ow : ℤ) (ps : List Point) (cs : List Cluster) (c : Cluster) → AreClusters ow ps cs → Contains cs c → IsClusterOf ow ps c
cluster_from ow [] [] c are at = absurd (in_none c at)
cluster_from ow (o ∷ ps) (d ∷ cs) c are at =
    elim (in_cases d c cs at) [
      | inl same ↦ record { first = o; rest = ps; there = in_head o ps; others = λ x i. in_tail o x ps i; ordered = λ up. up; is = sym same ∙ are.0 }
      | inr later ↦
          let more = cluster_from ow (beyond d.end ps) cs c are.1 later in
          record {
            first = more.first;
            rest = more.rest;
            there = in_tail o more.first ps (from_beyond d.end ps more.first more.there).0;
            others = λ x i. in_tail o x ps (from_beyond d.end ps x (more.others x i)).0;
            ordered = λ up. more.ordered (Ordered-beyond d.end ps up.1);
            is = more.is;
          }
    ]
cluster_from ow ps cs c are at = absurd are

-- where the points are in order, so are those
pub record IsOpenedBy (ow : ℤ) (ps : List Point) (c : Cluster) : Type 0 where
  pub first : Point
  pub rest : List Point
  pub there : Contains ps first
  pub others : (x : Point) → Contains rest x → Contains ps x
  pub is : c ≡ cluster_of ow first (first ∷ rest)
  pub up : Ordered (first ∷ rest)

pub opened_by : (ow : ℤ) (ps : List Point) (cs : List Cluster) (c : Cluster) → Ordered ps → AreClusters ow ps cs → Contains cs c → IsOpenedBy ow ps c
opened_by ow ps cs c up are at =
    let k = cluster_from ow ps cs c are at in
    record { first = k.first; rest = k.rest; there = k.there; others = k.others; is = k.is; up = k.ordered up }

-- ---- what counts in a cluster

-- the point counts in the cluster that opens with o
pub record CountsIn (ow : ℤ) (o : Point) (rest : List Point) (q : Point) : Type 0 where
  pub there : Contains (o ∷ rest) q
  pub of_cycle : q.cycle ≡ o.cycle
  pub from : o.reading ≤ℤ q.reading
  pub to : q.reading ≤ℤ end_of ow o (o ∷ rest)

-- the first points of its masters: the opener, and more
pub record HasFirsts (ow : ℤ) (o : Point) (rest : List Point) : Type 0 where
  pub more : List Point
  pub are : firsts (of_cycle_within o.cycle o.reading (end_of ow o (o ∷ rest)) (o ∷ rest)) ≡ o ∷ more
  pub each : (q : Point) → IsIn q (o ∷ more) → CountsIn ow o rest q
  pub differ : Apart (o ∷ more)
  pub ordered : Ordered (o ∷ rest) → Ordered (o ∷ more)

pub has_firsts : (ow : ℤ) (o : Point) (rest : List Point) → pos 0 ≤ℤ ow → HasFirsts ow o rest
has_firsts ow o rest some =
    let end = end_of ow o (o ∷ rest) in
    let held = of_cycle_within o.cycle o.reading end (o ∷ rest) in
    let test = λ (x : Point). x.cycle == o.cycle && (int_le o.reading x.reading && int_le x.reading end) in
    let start = firsts-start o (of_cycle_within o.cycle o.reading end rest) in
    let are : firsts held ≡ o ∷ start.0 = ap firsts
    (held-start o end rest (omega (arith, ints, end_of-least ow o (o ∷ rest) some))) ∙ start.1 in
    record {
      more = start.0;
      are = are;
      each = λ q i.
          let kept = in_filter test (o ∷ rest) q (firsts_in held q (subst (IsIn q) (sym are) i)) in
          let both = and_parts (q.cycle == o.cycle) (int_le o.reading q.reading && int_le q.reading end) kept.1 in
          let bounds = and_parts (int_le o.reading q.reading) (int_le q.reading end) both.1 in
          record {
            there = kept.0;
            of_cycle = eqb-true q.cycle o.cycle both.0;
            from = int_le-is o.reading q.reading bounds.0;
            to = int_le-is q.reading end bounds.1;
          };
      differ = subst Apart are (firsts_apart held);
      ordered = λ up. subst Ordered are (firsts_ordered held (ordered_filter test (o ∷ rest) up));
    }

-- ---- how many

or_zero : (n : ℕ) → bit_or n 0 ≡ n
or_zero n = omega (arith, or_disjoint n 0 (omega (arith, and_le_r n 0)))

-- one more bit makes at most one more
ones_or : (k n : ℕ) → count_ones (bit_or n (2 ^ k)) ≤ count_ones n + 1
ones_or zero n = omega (arith, ones_step (bit_or n 1), ones_step n, ap count_ones (or_half n 1 ∙ or_zero (n / 2)), or_parity n 1)
ones_or (suc k) n = grind (arith, pow-suc, bit_or, or_half, ones_step, count_ones, or_parity, (ones_or k (n / 2)))

ones_fold : (a : ℕ) (qs : List Point) → count_ones (fold (λ members q. bit_or members (2 ^ q.master)) a qs) ≤ count_ones a + length qs
ones_fold a [] = omega arith
ones_fold a (q ∷ qs) = (let more = ones_fold (bit_or a (2 ^ q.master)) qs in let one = ones_or q.master a in
    omega arith)

-- there are not more members than points
pub few_members : (qs : List Point) → count_ones (members_of qs) ≤ length qs
few_members qs = (let all = ones_fold 0 qs in let none = ones_le_self 0 in omega arith)

-- ---- members and points

pub member_has : (qs : List Point) (i : ℕ) → bit_at (members_of qs) i ≡ 1 → has_master qs i ≡ true
member_has qs i set =
    elim (cases_Bool (has_master qs i)) [
      | inl has ↦ has
      | inr none ↦ (let clear = members_of-clear qs i none in let and = and_pow (members_of qs) i in let same = rw set at
          and in absurd (omega (arith, pow_pos i)))
    ]

pub has_is_member : (qs : List Point) (i : ℕ) → has_master qs i ≡ true → bit_at (members_of qs) i ≡ 1
has_is_member qs i has = grind (arith, bit_at, members_of, members_of-set, and_pow)
