-- The points and members of clusters, as points are added.
use Rattle.std.proofs.Common
use Common.{◌&&◌, ◌*ℤ◌, ◌++◌, ◌+ℤ◌, ◌+◌, ◌<ℤ◌, ◌<◌, ◌^◌, ◌∙◌, ◌∷◌, ◌≡◌, ◌≢◌, ◌≤ℤ◌, ◌≤◌, ◌⊎◌, Bool, List, [], ap, arith}
use Common.{cond, false, inl, inr, length, map, max, not, pos, refl, subst, suc, sym, true, zero, ℕ, ℤ}
use Rattle.std.proofs.lemmas.{Int.ints}
use Rattle.std.proofs.lemmas.{Nat.{Bits.{and_pow, bit_at-pow_other, bit_at-pow_same, bit_at-zero, bit_at_or}, pow_pos}}
use Rattle.std.proofs.lemmas.Bool.{and_from, and_left, and_right, cases_Bool, cases_eq, cases_lt, eq-eqb, eqb-false}
use Rattle.std.proofs.lemmas.Bool.{le-leb, lt-leb, ne_eqb, or_left, or_parts, or_right}
use Rattle.std.proofs.lemmas.List.{Elements.{All-contains, All-from_recursion, filter-append, recursion_from_All}}
use Rattle.std.proofs.lemmas.List.{Folds.list_any-append, Sums.fold-append, append-nil, append_assoc, length-append}
use Rattle.std.proofs.lemmas.List.{length-map, map-append}
use Rattle.std.specs.{Int.bit_at, List.AllByRecursion}
use Rattle.std.specs.{Prelude.{◌==◌, Contains, bit_and, bit_or, filter, fold, int_le, int_lt}}
use Rattle.compression.specs.{Collection.{joined, joined_end, opening}, OneCluster.AreInOrder, Role.has_point_of}
use Rattle.compression.specs.{Room.RoomForEachMaster}
use Rattle.compression.specs.Clusters
use Clusters.{AreClusters, Cluster, Point, beyond, cluster_of, end_of, firsts, has_master, members_of, of_cycle_within}
use Clusters.{with_first}
use Rattle.tte_units.proofs.general_lemmas.Integers.{int_le-from, int_lt-from, not_less}

-- ---- elements of lists, of filters and of lists in order

pub in_head : {X : Type 0} (x : X) (xs : List X) → Contains (x ∷ xs) x
in_head x xs = (0, omega arith, refl)

pub in_tail : {X : Type 0} (x y : X) (xs : List X) → Contains xs y → Contains (x ∷ xs) y
in_tail x y xs at = (suc at.0, omega (arith, at.1), at.2)

pub in_none : {X : Type 0} (y : X) → Contains [] y → ⊥
in_none y at = omega (arith, at.1)

pub in_cases : {X : Type 0} (x y : X) (xs : List X) → Contains (x ∷ xs) y → (x ≡ y) ⊎ Contains xs y
in_cases x y xs (zero, lt, e) = inl e
in_cases x y xs (suc k, lt, e) = inr (k, omega arith, e)

-- what holds of each element holds of one
pub all_at : {X : Type 0} (P : X → Type 0) (xs : List X) (x : X) → AllByRecursion P xs → Contains xs x → P x
all_at P xs x all at = All-contains P xs x (All-from_recursion P xs all) at

-- an element of a filter, and one that passes it
pub in_filter : {X : Type 0} (test : X → Bool) (xs : List X) (y : X) → Contains (filter test xs) y → Contains xs y × (test y ≡ true)
in_filter test [] y at = absurd (in_none y at)
in_filter test (x ∷ xs) y at =
    elim (cases_Bool (test x)) [
      | inl pass ↦
          elim (in_cases x y (filter test xs) (rw pass at at)) [
            | inl e ↦ (subst (Contains (x ∷ xs)) e (in_head x xs), ap test (sym e) ∙ pass)
            | inr here ↦ let rest = in_filter test xs y here in (in_tail x y xs rest.0, rest.1)
          ]
      | inr fail ↦ let rest = in_filter test xs y (rw fail at at) in (in_tail x y xs rest.0, rest.1)
    ]

pub in_filter_from : {X : Type 0} (test : X → Bool) (xs : List X) (y : X) → Contains xs y → test y ≡ true → Contains (filter test xs) y
in_filter_from test [] y at passes = absurd (in_none y at)
in_filter_from test (x ∷ xs) y at passes =
    elim (in_cases x y xs at) [
      | inl e ↦ rw (ap test e ∙ passes) (subst (Contains (x ∷ filter test xs)) e (in_head x (filter test xs)))
      | inr here ↦
          elim (cases_Bool (test x)) [
            | inl pass ↦ rw pass (in_tail x y (filter test xs) (in_filter_from test xs y here passes))
            | inr fail ↦ rw fail (in_filter_from test xs y here passes)
          ]
    ]

-- each point is at or after the ones before it
abbrev pub Ordered : List Point → Type 0
Ordered [] = Unit {0}
Ordered (p ∷ ps) = AllByRecursion (λ q. p.reading ≤ℤ q.reading) ps × Ordered ps

all_above : (low : ℤ) (p : Point) (ps : List Point) → low ≤ℤ p.reading → AreInOrder (p ∷ ps) → AllByRecursion (λ q. low ≤ℤ q.reading) ps
all_above low p [] le up = tt
all_above low p (q ∷ qs) le up = (omega (arith, ints, up.0), all_above low q qs (omega (arith, ints, up.0)) up.1)

in_order_tail : (p : Point) (ps : List Point) → AreInOrder (p ∷ ps) → AreInOrder ps
in_order_tail p [] up = tt
in_order_tail p (q ∷ qs) up = up.1

pub Ordered-from : (ps : List Point) → AreInOrder ps → Ordered ps
Ordered-from [] up = tt
Ordered-from (p ∷ ps) up = (all_above p.reading p ps (omega (arith, ints)) up, Ordered-from ps (in_order_tail p ps up))

pub all-filter : {X : Type 0} (P : X → Type 0) (test : X → Bool) (xs : List X) → AllByRecursion P xs → AllByRecursion P (filter test xs)
all-filter P test [] all = tt
all-filter P test (x ∷ xs) all = grind (arith, cases_Bool, (all-filter P test xs all.1))

-- those beyond an end are in order too, and beyond it
pub Ordered-beyond : (end : ℤ) (ps : List Point) → Ordered ps → Ordered (beyond end ps)
Ordered-beyond end [] up = tt
Ordered-beyond end (p ∷ ps) up = grind (arith, cases_Bool, all-filter, (Ordered-beyond end ps up.1))

pub all-beyond : (low end : ℤ) (ps : List Point) → AllByRecursion (λ q. low <ℤ q.reading) ps → AllByRecursion (λ q. low <ℤ q.reading) (beyond end ps)
all-beyond low end ps all = all-filter (λ q. low <ℤ q.reading) (λ q. int_lt end q.reading) ps all

pub beyond-all : (end : ℤ) (ps : List Point) → AllByRecursion (λ q. end <ℤ q.reading) (beyond end ps)
beyond-all end [] = tt
beyond-all end (p ∷ ps) = grind (arith, cases_Bool, ints, (beyond-all end ps))

pub in_beyond : (end : ℤ) (ps : List Point) (p : Point) → Contains ps p → end <ℤ p.reading → Contains (beyond end ps) p
in_beyond end ps p at past = in_filter_from (λ q. int_lt end q.reading) ps p at (int_lt-from end p.reading past)

pub from_beyond : (end : ℤ) (ps : List Point) (p : Point) → Contains (beyond end ps) p → Contains ps p × (end <ℤ p.reading)
from_beyond end ps p at =
    let parts = in_filter (λ q. int_lt end q.reading) ps p at in
    (parts.0, grind (arith, ints, parts.1))

pub length-beyond : (end : ℤ) (ps : List Point) → length (beyond end ps) ≤ length ps
length-beyond end [] = omega arith
length-beyond end (p ∷ ps) = grind (arith, cases_Bool, (length-beyond end ps))

-- ---- the first point of each master, and the members that they make

-- one more point at the end
firsts-push : (xs : List Point) (p : Point) → firsts (xs ++ p ∷ []) ≡ with_first (firsts xs) p
firsts-push xs p = fold-append with_first [] xs (p ∷ [])

pub with_first-old : (xs : List Point) (p : Point) → has_master xs p.master ≡ true → with_first xs p ≡ xs
with_first-old xs p e = rw e refl

pub with_first-new : (xs : List Point) (p : Point) → has_master xs p.master ≡ false → with_first xs p ≡ xs ++ p ∷ []
with_first-new xs p e = rw e refl

-- what counts so far stays in front; what follows are points of masters that have none there
pub record Counts (acc xs : List Point) : Type 0 where
  pub more : List Point
  pub is : fold with_first acc xs ≡ acc ++ more
  pub each : AllByRecursion (λ q. Contains xs q × (has_master acc q.master ≡ false)) more

also_in : (x : Point) (acc acc' xs : List Point) → ((m : ℕ) → has_master acc' m ≡ false → has_master acc m ≡ false) → (qs : List Point)
    → AllByRecursion (λ q. Contains xs q × (has_master acc' q.master ≡ false)) qs
    → AllByRecursion (λ q. Contains (x ∷ xs) q × (has_master acc q.master ≡ false)) qs
also_in x acc acc' xs fewer [] all = tt
also_in x acc acc' xs fewer (q ∷ qs) all = ((in_tail x q xs all.0.0, fewer q.master all.0.1), also_in x acc acc' xs fewer qs all.1)

fewer_masters : (acc : List Point) (x : Point) (m : ℕ) → has_master (acc ++ x ∷ []) m ≡ false → has_master acc m ≡ false
fewer_masters acc x m none = (or_parts (has_master acc m) (has_master (x ∷ []) m) (sym (list_any-append (λ q. q.master == m) acc (x ∷ [])) ∙ none)).0

pub counts : (acc xs : List Point) → Counts acc xs
counts acc [] = record { more = []; is = sym (append-nil acc); each = tt }
counts acc (x ∷ xs) =
    elim (cases_Bool (has_master acc x.master)) [
      | inl old ↦
          let rest = counts acc xs in
          record {
            more = rest.more;
            is = rw (with_first-old acc x old) rest.is;
            each = also_in x acc acc xs (λ m none. none) rest.more rest.each;
          }
      | inr new ↦
          let rest = counts (acc ++ x ∷ []) xs in
          record {
            more = x ∷ rest.more;
            is = rw (with_first-new acc x new) (rest.is ∙ append_assoc acc (x ∷ []) rest.more);
            each = ((in_head x xs, new), also_in x acc (acc ++ x ∷ []) xs (λ m none. fewer_masters acc x m none) rest.more rest.each);
          }
    ]

-- the first point counts
pub firsts-start : (o : Point) (xs : List Point) → (more : List Point) × (firsts (o ∷ xs) ≡ o ∷ more)
firsts-start o xs = let c = counts (o ∷ []) xs in (c.more, c.is)

-- a master of which a point counts already, and one of which a point comes
has_more : (acc more : List Point) (m : ℕ) → has_master acc m ≡ true → has_master (acc ++ more) m ≡ true
has_more acc more m has = list_any-append (λ q. q.master == m) acc more ∙ or_left (has_master acc m) (has_master more m) has

has_with_first : (acc : List Point) (x : Point) → has_master (with_first acc x) x.master ≡ true
has_with_first acc x = grind (arith, cases_Bool, with_first-old, with_first-new, list_any-append, or_right, or_left, eq-eqb)

has_fold : (acc xs : List Point) (y : Point) → Contains xs y → has_master (fold with_first acc xs) y.master ≡ true
has_fold acc [] y at = absurd (in_none y at)
has_fold acc (x ∷ xs) y at =
    elim (in_cases x y xs at) [
      | inl e ↦
          let rest = counts (with_first acc x) xs in
          rw (sym e) (rw rest.is (has_more (with_first acc x) rest.more x.master (has_with_first acc x)))
      | inr here ↦ has_fold (with_first acc x) xs y here
    ]

-- each point's master has one that counts
pub firsts-has : (xs : List Point) (y : Point) → Contains xs y → has_master (firsts xs) y.master ≡ true
firsts-has xs y at = has_fold [] xs y at

bit_of-at_most : (b : Bool) → cond b 1 0 ≤ 1
bit_of-at_most true = omega arith
bit_of-at_most false = omega arith

bit_at-fold : (a : ℕ) (xs : List Point) (m : ℕ) → bit_at (fold (λ members q. bit_or members (2 ^ q.master)) a xs) m ≡ max (bit_at a m)
    (cond (has_master xs m) 1 0)
bit_at-fold a [] m = omega arith
bit_at-fold a (x ∷ xs) m =
    grind (
      arith,
      max,
      cond,
      bit_at_or,
      bit_of-at_most,
      cases_eq,
      bit_at-pow_same,
      eq-eqb,
      bit_at-pow_other,
      ne_eqb,
      (bit_at-fold (bit_or a (2 ^ x.master)) xs m),
    )

-- the bit of a master that has no point is clear
pub members_of-clear : (xs : List Point) (m : ℕ) → has_master xs m ≡ false → bit_and (members_of xs) (2 ^ m) ≡ 0
members_of-clear xs m e = grind (arith, max, cond, bit_at-fold, bit_at-zero, and_pow)

-- and that of one that has is set
pub members_of-set : (xs : List Point) (m : ℕ) → has_master xs m ≡ true → bit_and (members_of xs) (2 ^ m) ≡ 0 → ⊥
members_of-set xs m e zero_is = grind (arith, max, cond, bit_at-fold, bit_at-zero, and_pow, pow_pos)

-- so the set of members tells whether a master has a point
has_point_of-is : (c : Cluster) (xs : List Point) (m : ℕ) → c.members ≡ members_of xs → has_point_of c m ≡ has_master xs m
has_point_of-is c xs m e = grind (arith, cases_Bool, not, ne_eqb, members_of-set, eq-eqb, members_of-clear)

members_of-push : (xs : List Point) (p : Point) → members_of (xs ++ p ∷ []) ≡ bit_or (members_of xs) (2 ^ p.master)
members_of-push xs p = fold-append (λ members q. bit_or members (2 ^ q.master)) 0 xs (p ∷ [])

-- ---- the points that lie in an interval, as points are added

pub int_le-false : (a b : ℤ) → b <ℤ a → int_le a b ≡ false
int_le-false a b h = grind (arith, ints)

pub int_lt-false : (a b : ℤ) → b ≤ℤ a → int_lt a b ≡ false
int_lt-false a b h = grind (arith, ints)

-- a filter of one more element that passes, and of one that does not
filter-push_in : (test : Point → Bool) (ps : List Point) (p : Point) → test p ≡ true → filter test (ps ++ p ∷ []) ≡ filter test ps ++ p ∷ []
filter-push_in test ps p e = filter-append test ps (p ∷ []) ∙ (rw e)

filter-push_out : (test : Point → Bool) (ps : List Point) (p : Point) → test p ≡ false → filter test (ps ++ p ∷ []) ≡ filter test ps
filter-push_out test ps p e = filter-append test ps (p ∷ []) ∙ (rw e (append-nil (filter test ps)))

module _ (cycle : ℕ) (from to : ℤ) (ps : List Point) (p : Point) where
  -- a point of the cycle in the interval
  held-push_in : p.cycle ≡ cycle → from ≤ℤ p.reading → p.reading ≤ℤ to
      → of_cycle_within cycle from to (ps ++ p ∷ []) ≡ of_cycle_within cycle from to ps ++ p ∷ []
  held-push_in same low high = grind (arith, and_from, eq-eqb, int_le-from, filter-push_in)

  -- one beyond it
  pub held-push_beyond : to <ℤ p.reading → of_cycle_within cycle from to (ps ++ p ∷ [])
      ≡ of_cycle_within cycle from to ps
  held-push_beyond past = grind (arith, and_right, int_le-false, filter-push_out)

  -- one of another cycle
  held-push_other : p.cycle ≢ cycle → of_cycle_within cycle from to (ps ++ p ∷ [])
      ≡ of_cycle_within cycle from to ps
  held-push_other other = grind (arith, and_left, ne_eqb, filter-push_out)

-- the first, of its own cycle
pub held-start : (o : Point) (to : ℤ) (ps : List Point) → o.reading ≤ℤ to → of_cycle_within o.cycle o.reading to (o ∷ ps) ≡ o
    ∷ of_cycle_within o.cycle o.reading to ps
held-start o to ps within = grind (arith, and_from, eq-eqb, int_le-from, ints, cond)

beyond-push_in : (end : ℤ) (ps : List Point) (p : Point) → p.reading ≤ℤ end → beyond end (ps ++ p ∷ []) ≡ beyond end ps
beyond-push_in end ps p within = filter-push_out (λ q. int_lt end q.reading) ps p (int_lt-false end p.reading within)

pub beyond-push_out : (end : ℤ) (ps : List Point) (p : Point) → end <ℤ p.reading → beyond end (ps ++ p ∷ []) ≡ beyond end ps ++ p ∷ []
beyond-push_out end ps p past = filter-push_in (λ q. int_lt end q.reading) ps p (int_lt-from end p.reading past)

-- where none lies beyond an end, the first does not, nor one of the others
pub beyond-none : (end : ℤ) (q : Point) (qs : List Point) → beyond end (q ∷ qs) ≡ [] → (q.reading ≤ℤ end) × (beyond end qs ≡ [])
beyond-none end q qs none = grind (arith, cases_Bool, not_less)

-- and none lies beyond a later end
beyond-later : (end later : ℤ) (ps : List Point) → end ≤ℤ later → beyond end ps ≡ [] → beyond later ps ≡ []
beyond-later end later [] le none = refl
beyond-later end later (q ∷ qs) le none =
    let parts = beyond-none end q qs none in
    rw (int_lt-false later q.reading (omega (arith, ints, parts.0))) (beyond-later end later qs le parts.1)

-- where none lies beyond the first of two ends, the intervals up to them hold the same
held-same : (cycle : ℕ) (from end later : ℤ) (ps : List Point) → end ≤ℤ later → beyond end ps ≡ [] → of_cycle_within cycle from later ps ≡ of_cycle_within
    cycle from end ps
held-same cycle from end later [] le none = refl
held-same cycle from end later (q ∷ qs) le none =
    let parts = beyond-none end q qs none in
    rw (
      int_le-from q.reading end parts.0,
      int_le-from q.reading later (omega (arith, ints, parts.0)),
      held-same cycle
          from end later qs le parts.1,
    ) refl

-- ---- what one more point does to the clusters of a list

-- the points that count in the cluster that o opens, and those of its first window
abbrev pub counted : ℤ → Point → List Point → List Point
counted to o ps = firsts (of_cycle_within o.cycle o.reading to ps)

abbrev pub window_end : ℤ → Point → ℤ
window_end ow o = o.reading +ℤ ow

abbrev pub extended_end : ℤ → Point → ℤ
extended_end ow o = o.reading +ℤ (pos 2 *ℤ ow)

-- the end by the number of masters in the first window
pub end_of-one : (ow : ℤ) (o : Point) (ps : List Point) → length (counted (window_end ow o) o ps) < 2 → end_of ow o ps ≡ window_end ow o
end_of-one ow o ps few = rw (lt-leb 2 (length (counted (window_end ow o) o ps)) few) refl

pub end_of-two : (ow : ℤ) (o : Point) (ps : List Point) → 2 ≤ length (counted (window_end ow o) o ps) → end_of ow o ps ≡ extended_end ow o
end_of-two ow o ps many = rw (le-leb 2 (length (counted (window_end ow o) o ps)) many) refl

-- a point with which the first window stays as it was leaves the end
pub end_of-same : (ow : ℤ) (o : Point) (ps qs : List Point) → counted (window_end ow o) o qs ≡ counted (window_end ow o) o ps → end_of ow o qs ≡ end_of ow o ps
end_of-same ow o ps qs e = rw (ap length e)

-- the cluster of an opener by its end and what counts
abbrev pub cluster_by : Point → ℤ → List Point → Cluster
cluster_by o end counts = record { opened = o.reading; end = end; cycle = o.cycle; points = map (λ q. q.reading) counts; members = members_of counts }

pub end_of-least : (ow : ℤ) (o : Point) (ps : List Point) → pos 0 ≤ℤ ow → window_end ow o ≤ℤ end_of ow o ps
end_of-least ow o ps some = grind (arith, cases_Bool, length, ints)

-- a point beyond the end changes nothing
pub cluster_of-beyond : (ow : ℤ) (o : Point) (ps : List Point) (p : Point) → pos 0 ≤ℤ ow → end_of ow o ps <ℤ p.reading
    → cluster_of ow o (ps ++ p ∷ []) ≡ cluster_of ow o ps
cluster_of-beyond ow o ps p some past = grind (arith, end_of-least, held-push_beyond, ints, end_of-same)

-- nor does one of another cycle
pub cluster_of-other : (ow : ℤ) (o : Point) (ps : List Point) (p : Point) → p.cycle ≢ o.cycle → cluster_of ow o (ps ++ p ∷ []) ≡ cluster_of ow o ps
cluster_of-other ow o ps p other = grind (arith, held-push_other, end_of-same)

pub end_of-most : (ow : ℤ) (o : Point) (ps : List Point) → pos 0 ≤ℤ ow → end_of ow o ps ≤ℤ extended_end ow o
end_of-most ow o ps some = grind (arith, cases_Bool, length, ints)

-- a point of the opener's cycle that comes to a cluster beyond which there is none yet
pub record Comes (ow : ℤ) (o : Point) (ps : List Point) (p : Point) : Type 0 where
  pub some : pos 0 ≤ℤ ow
  pub none : beyond (end_of ow o ps) ps ≡ []
  pub same : p.cycle ≡ o.cycle
  pub low : o.reading ≤ℤ p.reading
  pub high : p.reading ≤ℤ end_of ow o ps
  pub starts : (more : List Point) × (counted (window_end ow o) o ps ≡ o ∷ more)

module _ (ow : ℤ) (o : Point) (ps : List Point) (p : Point) where
  -- what counts up to an end that is not before the cluster's
  counted-push : Comes ow o ps p → (end : ℤ) → end_of ow o ps ≤ℤ end
      → counted end o (ps ++ p ∷ []) ≡ with_first (counted (end_of ow o ps) o ps) p
  counted-push comes end le = grind (arith, held-push_in, ints, held-same, firsts-push)

  -- what counts in the first window with a point that lies in it, and with one that does not
  window-push_in : Comes ow o ps p → p.reading ≤ℤ window_end ow o
      → counted (window_end ow o) o (ps ++ p ∷ []) ≡ with_first (counted (window_end ow o) o ps) p
  window-push_in comes first =
      search (arith, held-push_in, firsts-push)

  window-push_out : window_end ow o <ℤ p.reading → counted (window_end ow o) o (ps ++ p ∷ [])
      ≡ counted (window_end ow o) o ps
  window-push_out past = ap firsts (held-push_beyond o.cycle o.reading (window_end ow o) ps p past)

length-with_first : (xs : List Point) (p : Point) → length xs ≤ length (with_first xs p)
length-with_first xs p = grind (arith, cases_Bool, with_first-old, with_first-new, length-append)

-- where the first window has one master, the cluster has no more
one_window : (ow : ℤ) (o : Point) (ps : List Point) → length (counted (window_end ow o) o ps) < 2 → counted (end_of ow o ps) o ps ≡ counted (window_end ow o) o
    ps
one_window ow o ps few = rw (end_of-one ow o ps few)

-- the end with the point of a master that has none there
end_of-joined : {ow : ℤ} {o : Point} {ps : List Point} {p : Point} → Comes ow o ps p
    → has_master (counted (end_of ow o ps) o ps) p.master ≡ false
    → end_of ow o (ps ++ p ∷ []) ≡ joined_end ow (cluster_of ow o ps) p.reading
end_of-joined comes new =
    grind (
      arith,
      cases_Bool,
      ints,
      window-push_in,
      length,
      cases_lt,
      one_window,
      with_first-new,
      length-append,
      length-with_first,
      end_of-two,
      end_of-same,
      window-push_out,
    )

-- the end with the point of a master that has one there
end_of-repeat : {ow : ℤ} {o : Point} {ps : List Point} {p : Point} → Comes ow o ps p
    → has_master (counted (end_of ow o ps) o ps) p.master ≡ true → end_of ow o (ps ++ p ∷ []) ≡ end_of ow o ps
end_of-repeat comes old =
    grind (arith, cases_Bool, ints, window-push_in, cases_lt, length, one_window, end_of-same, with_first-old, length-with_first, end_of-two, window-push_out)

joined_end-later : (ow : ℤ) (o : Point) (ps : List Point) (reading : ℤ) → pos 0 ≤ℤ ow → end_of ow o ps ≤ℤ joined_end ow (cluster_of ow o ps) reading
joined_end-later ow o ps reading some = grind (arith, end_of-most, cases_Bool, ints)

abbrev pub cluster_with : Point → ℤ → List ℤ → ℕ → Cluster
cluster_with o end points members = record { opened = o.reading; end = end; cycle = o.cycle; points = points; members = members }

cluster_by-push : (o : Point) (end : ℤ) (counts : List Point) (p : Point) → cluster_by o end (counts ++ p ∷ []) ≡ cluster_with o end
    (map (λ q. q.reading) counts ++ p.reading ∷ []) (bit_or (members_of counts) (2 ^ p.master))
cluster_by-push o end counts p =
    rw (map-append (λ q. q.reading) counts (p ∷ []))
    (rw (members_of-push counts p))

-- the cluster with a point that joins
pub cluster_of-joined : {ow : ℤ} {o : Point} {ps : List Point} {p : Point} → Comes ow o ps p
    → has_point_of (cluster_of ow o ps) p.master ≡ false
    → cluster_of ow o (ps ++ p ∷ []) ≡ joined ow (cluster_of ow o ps) p.reading p.master
cluster_of-joined {ow} {o} {ps} {p} comes new =
    let counts = counted (end_of ow o ps) o ps in
    let end = joined_end ow (cluster_of ow o ps) p.reading in
    let fresh = sym (has_point_of-is (cluster_of ow o ps) counts p.master refl) ∙ new in
    rw (end_of-joined comes fresh)
    (ap (cluster_by o end) (counted-push ow o ps p comes end (joined_end-later ow o ps p.reading comes.some) ∙
    with_first-new counts p fresh)
    ∙ cluster_by-push o end counts p)

-- the cluster with a point that repeats
pub cluster_of-repeat : {ow : ℤ} {o : Point} {ps : List Point} {p : Point} → Comes ow o ps p
    → has_point_of (cluster_of ow o ps) p.master ≡ true → cluster_of ow o (ps ++ p ∷ []) ≡ cluster_of ow o ps
cluster_of-repeat {ow} {o} {ps} {p} comes old =
    let counts = counted (end_of ow o ps) o ps in
    let end = end_of ow o ps in
    let there = sym (has_point_of-is (cluster_of ow o ps) counts p.master refl) ∙ old in
    rw (end_of-repeat comes there)
    (ap (cluster_by o end) (counted-push ow o ps p comes end (omega (arith, ints)) ∙ with_first-old counts p there))

alone : (p : Point) (to : ℤ) → p.reading ≤ℤ to → counted to p (p ∷ []) ≡ p ∷ []
alone p to within = ap firsts (held-start p to [] within)

-- the cluster that one point opens
pub cluster_of-alone : (ow : ℤ) (p : Point) → pos 0 ≤ℤ ow → cluster_of ow p (p ∷ []) ≡ opening ow p
cluster_of-alone ow p some = grind (arith, ints, length, alone, end_of-one)

-- the first point counts in the first window
pub window-starts : (ow : ℤ) (o : Point) (ps : List Point) → pos 0 ≤ℤ ow → (more : List Point) × (counted (window_end ow o) o (o ∷ ps) ≡ o ∷ more)
window-starts ow o ps some =
    let start = firsts-start o (of_cycle_within o.cycle o.reading (window_end ow o) ps) in
    (start.0, ap firsts (held-start o (window_end ow o) ps (omega (arith, ints))) ∙ start.1)

-- the same, of a point that may be of another cycle
abbrev pub Comes' : ℤ → Point → List Point → Point → Type 0
Comes' ow o ps p = p.cycle ≡ o.cycle → Comes ow o ps p

no_clusters : (ow : ℤ) (ps : List Point) → AreClusters ow ps [] → ps ≡ []
no_clusters ow [] are = refl
no_clusters ow (o ∷ ps) are = absurd are

-- a point that comes after all clusters opens another
pub AreClusters-opened : (ow : ℤ) (ps : List Point) (cs : List Cluster) (p : Point) → pos 0 ≤ℤ ow → AreClusters ow ps cs
    → AllByRecursion (λ c. c.end <ℤ p.reading) cs → AreClusters ow (ps ++ p ∷ []) (cs ++ opening ow p ∷ [])
AreClusters-opened ow [] [] p some are past = (sym (cluster_of-alone ow p some), tt)
AreClusters-opened ow [] (c ∷ cs) p some are past = absurd are
AreClusters-opened ow (o ∷ ps) [] p some are past = absurd are
AreClusters-opened ow (o ∷ ps) (c ∷ cs) p some are past =
    let rest = AreClusters-opened ow (beyond c.end ps) cs p some are.1 past.1 in (
      are.0 ∙ sym (cluster_of-beyond ow o (o ∷ ps) p some (rw are.0 at past.0)),
      rw (beyond-push_out c.end ps p past.0) rest,
    )

-- the cluster that is open, with a point that is not beyond it
pub record Grows (ow : ℤ) (c d : Cluster) (p : Point) : Type 0 where
  pub other : p.cycle ≢ c.cycle → d ≡ c
  pub repeat : p.cycle ≡ c.cycle → has_point_of c p.master ≡ true → d ≡ c
  pub joins : p.cycle ≡ c.cycle → has_point_of c p.master ≡ false → d ≡ joined ow c p.reading p.master

grows_whole : {ow : ℤ} (o : Point) (ps : List Point) {d : Cluster} {p : Point} → Comes' ow o ps p
    → Grows ow (cluster_of ow o ps) d p → d ≡ cluster_of ow o (ps ++ p ∷ [])
grows_whole o ps comes grows =
    grind (arith, cases_eq, cases_Bool, cluster_of-repeat, cluster_of-joined, cluster_of-other)

cluster_of-grows : {ow : ℤ} (o : Point) (ps : List Point) {c d : Cluster} {p : Point} → pos 0 ≤ℤ ow
    → c ≡ cluster_of ow o (o ∷ ps) → beyond c.end ps ≡ [] → c.opened ≤ℤ p.reading → p.reading ≤ℤ c.end
    → Grows ow c d p → d ≡ cluster_of ow o ((o ∷ ps) ++ p ∷ [])
cluster_of-grows {ow} o ps {d} {p} some is none low high grows =
    let least = end_of-least ow o (o ∷ ps) some in
    let none' : beyond (end_of ow o (o ∷ ps)) ps ≡ [] = rw is at none in
    let start = int_lt-false (end_of ow o (o ∷ ps)) o.reading (omega (arith, ints)) in
    let comes : Comes' ow o (o ∷ ps) p = grind (arith, window-starts) in
    grows_whole o (o ∷ ps) comes (rw is at grows)

-- a point that is not beyond the last cluster
pub AreClusters-within : {ow : ℤ} (ps : List Point) (cs : List Cluster) {c d : Cluster} {p : Point} → pos 0 ≤ℤ ow
    → AreClusters ow ps (cs ++ c ∷ []) → AllByRecursion (λ k. k.end <ℤ p.reading) cs → c.opened ≤ℤ p.reading
    → p.reading ≤ℤ c.end → c.end ≤ℤ d.end → Grows ow c d p → AreClusters ow (ps ++ p ∷ []) (cs ++ d ∷ [])
AreClusters-within [] [] some are past low high longer grows = absurd are
AreClusters-within [] (k ∷ cs) some are past low high longer grows = absurd are
AreClusters-within (o ∷ ps) [] some are past low high longer grows =
    grind (arith, no_clusters, beyond-push_in, ints, beyond-later, cluster_of-grows)
AreClusters-within {ow} (o ∷ ps) (k ∷ cs) {d} {p} some are past low high longer grows =
    let rest = AreClusters-within (beyond k.end ps) cs some are.1 past.1 low high longer grows in (
      are.0 ∙ sym (cluster_of-beyond ow o (o ∷ ps) p some (rw are.0 at past.0)),
      rw (beyond-push_out k.end ps p past.0) rest,
    )

-- ---- a cluster has one point of a master at most

-- a list without one element
record Without (x : ℕ) (ys : List ℕ) : Type 0 where
  pub rest : List ℕ
  pub shorter : length ys ≡ suc (length rest)
  pub others : (z : ℕ) → Contains ys z → z ≢ x → Contains rest z

without : (x : ℕ) (ys : List ℕ) → Contains ys x → Without x ys
without x [] at = absurd (in_none x at)
without x (y ∷ ys) at =
    elim (in_cases y x ys at) [
      | inl e ↦ record { rest = ys; shorter = refl; others = λ z in_z apart. other e z apart (in_cases y z ys in_z) }
      | inr here ↦
          let less = without x ys here in
          record { rest = y ∷ less.rest; shorter = ap suc less.shorter; others = λ z in_z apart. kept less z apart (in_cases y z ys in_z) }
    ]
  where
    other : y ≡ x → (z : ℕ) → z ≢ x → (y ≡ z) ⊎ Contains ys z → Contains ys z
    other e z apart (inl f) = absurd (apart (sym f ∙ e))
    other e z apart (inr g) = g

    kept : (less : Without x ys) (z : ℕ) → z ≢ x → (y ≡ z) ⊎ Contains ys z → Contains (y ∷ less.rest) z
    kept less z apart (inl f) = subst (Contains (y ∷ less.rest)) f (in_head y less.rest)
    kept less z apart (inr g) = in_tail y z less.rest (less.others z g apart)

-- the masters that have no point among those that count, and at least as many as are left
record Left (masters : List ℕ) (counts : List Point) : Type 0 where
  pub rest : List ℕ
  pub total : length counts + length rest ≡ length masters
  pub each : (m : ℕ) → Contains masters m → has_master counts m ≡ false → Contains rest m

left_after : {masters : List ℕ} (acc xs : List Point) → Left masters acc
    → AllByRecursion (λ p. Contains masters p.master) xs → Left masters (fold with_first acc xs)
left_after acc [] l all = l
left_after {masters} acc (x ∷ xs) l all =
    elim (cases_Bool (has_master acc x.master)) [
      | inl old ↦ rw (with_first-old acc x old) (left_after acc xs l all.1)
      | inr new ↦ rw (with_first-new acc x new) (left_after (acc ++ x ∷ []) xs (one_more new) all.1)
    ]
  where
    one_more : has_master acc x.master ≡ false → Left masters (acc ++ x ∷ [])
    one_more new =
        let less = without x.master l.rest (l.each x.master all.0 new) in
        record {
          rest = less.rest;
          total = rw length-append (omega (arith, l.total, less.shorter));
          each = grind (arith, or_parts, list_any-append, less.others, eqb-false);
        }

-- what counts of a list whose points are of these masters
few_count : (masters : List ℕ) (xs : List Point) → AllByRecursion (λ p. Contains masters p.master) xs → (m : ℕ) → Contains masters m
    → has_master (firsts xs) m ≡ false → length (firsts xs) < length masters
few_count masters xs all m at none =
    let start : Left masters [] = record { rest = masters; total = omega arith; each = λ k in_k free. in_k } in
    let l = left_after [] xs start all in
    some_left l.rest (l.each m at none) l.total
  where
    some_left : (rest : List ℕ) → Contains rest m → length (firsts xs) + length rest ≡ length masters → length (firsts xs) < length masters
    some_left [] here total = absurd (in_none m here)
    some_left (r ∷ rs) here total = omega arith

room : (ow : ℤ) (ps : List Point) (cs : List Cluster) (masters : List ℕ) → AreClusters ow ps cs → AllByRecursion (λ p. Contains masters p.master) ps
    → (c : Cluster) → Contains cs c → (m : ℕ) → Contains masters m → has_point_of c m ≡ false → length c.points < length masters
room ow [] [] masters are all c at m in_m free = absurd (in_none c at)
room ow [] (k ∷ ks) masters are all c at m in_m free = absurd are
room ow (o ∷ ps) [] masters are all c at m in_m free = absurd are
room ow (o ∷ ps) (k ∷ ks) masters are all c at m in_m free =
    elim (in_cases k c ks at) [
      | inl e ↦
          let L = o ∷ ps in
          let is = sym e ∙ are.0 in
          let none = sym (has_point_of-is (cluster_of ow o L) (counted (end_of ow o L) o L) m refl) ∙ (rw is at free) in
          let held = all-filter (λ p. Contains masters p.master)
          (λ q. q.cycle == o.cycle && (int_le o.reading q.reading && int_le q.reading (end_of ow o L))) L all in
          let few = few_count masters (of_cycle_within o.cycle o.reading (end_of ow o L) L) held m in_m none in
          rw is (rw length-map few)
      | inr here ↦ room ow (beyond k.end ps) ks masters are.1 (rest k.end) c here m in_m free
    ]
  where
    rest : (end : ℤ) → AllByRecursion (λ p. Contains masters p.master) (beyond end ps)
    rest end = all-filter (λ p. Contains masters p.master) _ ps all.1

pub room_for_each_master : RoomForEachMaster
room_for_each_master ow ps cs masters are all c at m in_m free =
    room ow ps cs masters are (recursion_from_All (λ p. Contains masters p.master) ps all) c at m in_m free
