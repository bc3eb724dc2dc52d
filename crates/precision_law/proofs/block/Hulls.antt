-- The hull of a cycle.
use Rattle.precision_law.proofs.words.Laws.{Follows, Hull, IsDispatch, IsInHull, View, first_dispatch, hull_of, hull_over, is_dispatch, last_dispatch, widened}
use Rattle.precision_law.proofs.words.{Plans.{DeviceId, int_le-true}, Runs.{Happening, IsIn, NoteBody, in_filter, is_broken, time_of}}
use Rattle.precision_law.proofs.words.Std.{◌∷◌, ◌≡◌, ◌≤ℤ◌, ◌≤◌, List, None, Option, Some, [], and_parts, ap, arith, clamps, eq-eqb, eqb-true, false, filter}
use Rattle.precision_law.proofs.words.Std.{fold, inl, inr, int_le, ints, not, not-true, not_from_false, option_and_then, pos, refl, subst, suc, true, ℕ, ℤ}
use Rattle.std.proofs.lemmas.Option.{none-some}
use Rattle.run_law.proofs.records.{Members.in_kept, Order.has_passed}
use Rattle.tte_units.proofs.general_lemmas.Integers.{int_le-is}
use Rattle.run_law.specs.declared.note.NoteBody.TheVariants as notes

-- ---- widening

-- the hull is there, and the instant lies in it
abbrev HasIn : ℤ → Option Hull → Type 0
HasIn t None = ⊥
HasIn t (Some w) = (w.least ≤ℤ t) × (t ≤ℤ w.greatest)

-- a widened hull has the instant by which it is, and those that it had
widened_has : (o : Option Hull) (t : ℤ) → HasIn t (widened o t)
widened_has None t = (omega (arith, ints), omega (arith, ints))
widened_has (Some w) t = (omega (arith, ints, clamps), omega (arith, ints, clamps))

widened_keeps : (o : Option Hull) (t u : ℤ) → HasIn u o → HasIn u (widened o t)
widened_keeps None t u has = absurd has
widened_keeps (Some w) t u has = (omega (arith, ints, clamps, has.0), omega (arith, ints, clamps, has.1))

abbrev pub over : Option Hull → List Happening → Option Hull
over o hs = fold (λ hull h. widened hull (pos (time_of h))) o hs

over_keeps : (o : Option Hull) (hs : List Happening) (u : ℤ) → HasIn u o → HasIn u (over o hs)
over_keeps o [] u has = has
over_keeps o (h ∷ hs) u has = over_keeps (widened o (pos (time_of h))) hs u (widened_keeps o (pos (time_of h)) u has)

-- the hull of records has the time of each
over_has : (o : Option Hull) (hs : List Happening) (h : Happening) → IsIn h hs → HasIn (pos (time_of h)) (over o hs)
over_has o [] h i = absurd i
over_has o (g ∷ hs) h (inl same) =
    rw same (over_keeps _ hs _ (widened_has o (pos (time_of g))))
over_has o (g ∷ hs) h (inr more) = over_has (widened o (pos (time_of g))) hs h more

-- the hull, if it is there, lies between these
abbrev LiesBetween : ℤ → ℤ → Option Hull → Type 0
LiesBetween a b None = Unit {0}
LiesBetween a b (Some w) = (a ≤ℤ w.least) × (w.greatest ≤ℤ b) × (w.least ≤ℤ w.greatest)

widened_between : (a b t : ℤ) (o : Option Hull) → a ≤ℤ t → t ≤ℤ b → LiesBetween a b o → LiesBetween a b (widened o t)
widened_between a b t None low high at = (low, high, omega (arith, ints))
widened_between a b t (Some w) low high at =
    (omega (arith, ints, clamps), omega (arith, ints, clamps), omega (arith, ints, clamps))

over_between : (a b : ℤ) (o : Option Hull) (hs : List Happening) → ((h : Happening) → IsIn h hs → (a ≤ℤ pos (time_of h)) × (pos (time_of h) ≤ℤ b))
    → LiesBetween a b o → LiesBetween a b (over o hs)
over_between a b o [] each at = at
over_between a b o (h ∷ hs) each at =
    let here = each h (inl refl) in
    over_between a b (widened o (pos (time_of h))) hs (λ g i. each g (inr i)) (widened_between a b (pos (time_of h)) o here.0 here.1 at)

-- ---- dispatches

-- what is tested to be a dispatch
pub record IsTested (v : View) (before : Hull) (cycle : ℕ) (h : Happening) (body : NoteBody) : Type 0 where
  pub device : DeviceId
  pub is : body ≡ notes.Sent device cycle
  pub good : is_broken v.scenario device v.until ≡ false
  pub low : first_dispatch v.sizes before ≤ℤ pos (time_of h)
  pub high : pos (time_of h) ≤ℤ last_dispatch v.sizes before

pub tested : (v : View) (before : Hull) (cycle : ℕ) (h : Happening) (body : NoteBody) → is_dispatch v before cycle h body ≡ true
    → IsTested v before cycle h body
tested v before cycle h (notes.Sent device of_cycle) e =
    grind (arith, int_le, first_dispatch, time_of, last_dispatch, and_parts, not, is_broken, eqb-true, not-true, int_le-is)
tested v before cycle h other e = absurd cc

-- the dispatch of a good master in time passes the test
passes_test : {v : View} (before : Hull) {cycle : ℕ} {h : Happening} {device : DeviceId}
    → IsDispatch v h device cycle → first_dispatch v.sizes before ≤ℤ pos (time_of h)
    → pos (time_of h) ≤ℤ last_dispatch v.sizes before → is_dispatch v before cycle h h.note.body ≡ true
passes_test before dispatch low high =
    grind (arith, not, is_broken, not_from_false, eq-eqb, int_le, first_dispatch, time_of, int_le-true, last_dispatch, is_dispatch)

-- ---- hulls

-- a dispatch of the next cycle in time lies in the hull of its cycle
pub in_hull : {v : View} (cycle : ℕ) (before : Hull) {h : Happening} {device : DeviceId}
    → hull_of v cycle ≡ Some before → IsDispatch v h device (suc cycle)
    → first_dispatch v.sizes before ≤ℤ pos (time_of h) → pos (time_of h) ≤ℤ last_dispatch v.sizes before
    → IsInHull v (suc cycle) (time_of h)
in_hull {v} cycle before {h} is_before dispatch low high =
    let test = λ (g : Happening). is_dispatch v before (suc cycle) g g.note.body in
    let i = in_kept test v.records h dispatch.there (passes_test before dispatch low high) in
    let same = ap (λ o. option_and_then (λ before. hull_over (filter (λ h. is_dispatch v before
    (suc cycle) h h.note.body) v.records)) o) is_before in
    of_hull (hull_over (filter test v.records)) same (over_has None (filter test v.records) h i)
  where
    of_hull : (o : Option Hull) → hull_of v (suc cycle) ≡ o → HasIn (pos (time_of h)) o → IsInHull v (suc cycle) (time_of h)
    of_hull None same has = absurd has
    of_hull (Some w) same has = record { hull = w; is = same; least = has.0; most = has.1 }

-- the hull of a cycle follows one of the cycle before
pub record HasBefore (v : View) (cycle : ℕ) (hull : Hull) : Type 0 where
  pub before : Hull
  pub is_before : hull_of v cycle ≡ Some before
  pub follows : Follows v.sizes before hull
  pub begun : hull.least ≤ℤ pos v.until

pub has_before : (v : View) (cycle : ℕ) (hull : Hull) → ((h : Happening) → IsIn h v.records → time_of h ≤ v.until) → hull_of v (suc cycle) ≡ Some hull
    → HasBefore v cycle hull
has_before v cycle hull in_run is = by (hull_of v cycle) refl is
  where
    by : (o : Option Hull) → hull_of v cycle ≡ o
        → option_and_then (λ before. hull_over (filter (λ h. is_dispatch v before (suc cycle) h h.note.body) v.records)) o ≡ Some hull → HasBefore v cycle hull
    by None e s = absurd (none-some hull s)
    by (Some before) e s =
        let test = λ (g : Happening). is_dispatch v before (suc cycle) g g.note.body in
        let tests = λ (h : Happening) (i : IsIn h (filter test v.records)). tested v before (suc cycle) h h.note.body (has_passed test v.records h i) in
        let bounds = subst (LiesBetween (first_dispatch v.sizes before) (last_dispatch v.sizes before)) s
        (over_between _ _ None (filter test v.records) (λ h i. ((tests h i).low, (tests h i).high)) tt) in
        let run = subst (LiesBetween (first_dispatch v.sizes before) (pos v.until)) s
        (over_between _ _ None (filter test v.records) (λ h i. ((tests h i).low, omega (arith, ints, in_run h (in_filter test v.records h i)))) tt) in
        record {
          before = before;
          is_before = e;
          follows = record { least = bounds.0; most = bounds.1; ordered = bounds.2 };
          begun = omega (arith, ints, run.1, run.2);
        }
