-- The records of a run in the order of their times, and those up to an earlier time.
use Rattle.precision_law.proofs.{Plain.le_by}
use Rattle.precision_law.proofs.words.{Laws.Covers}
use Rattle.precision_law.proofs.words.Runs
use Runs.{Happening, IsBefore, IsDue, IsFounded, IsIn, IsRun, IsSplit, Scenario, behind_first, chain, earlier}
use Runs.{front_founded, in_filter, in_front_of, in_left, in_parts, key, members_in, none_kept, place_of, rank, split}
use Runs.{time_of}
use Rattle.precision_law.proofs.words.Std
use Std.{◌++◌, ◌+◌, ◌<◌, ◌∙◌, ◌∷◌, ◌≡◌, ◌≤◌, List, Option, Some, [], ap, append-nil, append_assoc, arith, cases_lt}
use Std.{false, filter, filter-append, inl, inr, last_or, le-ltb, lt-ltb, nat_lt, not, refl, subst, sym, ℕ}
use Rattle.run_law.proofs.records.{Members.in_kept}
use Rattle.run_law.proofs.records.{Order.{all_kept, from_earlier, has_passed, is_earlier, soon, time_before}}

-- ---- the records of a run in the order of their times: order

-- no record is of an earlier time than one before it
abbrev pub AreSorted : List Happening → Type 0
AreSorted [] = Unit {0}
AreSorted (h ∷ hs) = ((g : Happening) → IsIn g hs → time_of h ≤ time_of g) × AreSorted hs

-- what is founded behind some records is sorted
sorted_behind : (s : Scenario) (ps qs : List Happening) → IsFounded place_of (IsDue s) (ps ++ qs) → AreSorted qs
sorted_behind s ps [] founded = tt
sorted_behind s ps (q ∷ qs) founded = (
  λ g i. time_before (time_of q) (time_of g) (rank q.note.body ∷ key (members_in q) q.note.body) (rank g.note.body ∷ key (members_in g) g.note.body)
      (behind_first place_of (IsDue s) ps qs q g founded i),
  sorted_behind s (ps ++ q ∷ []) qs (subst (IsFounded place_of (IsDue s)) (sym (append_assoc ps (q ∷ []) qs)) founded),
)

-- the records of a run are
pub sorted : (s : Scenario) (hs : List Happening) → IsFounded place_of (IsDue s) hs → AreSorted hs
sorted s hs founded = sorted_behind s [] hs founded

-- ---- earlier records

-- records that are not before t add no earlier ones
pub earlier_front : (t : ℕ) (front rest : List Happening) → ((h : Happening) → IsIn h rest → t ≤ time_of h) → earlier t front ≡ earlier t (front ++ rest)
earlier_front t front rest late = grind (arith, nat_lt, time_of, earlier, none_kept, le-ltb, append-nil, filter-append)

-- the records from u on and before t
abbrev pub between : ℕ → ℕ → List Happening → List Happening
between u t hs = filter (λ h. not (nat_lt (time_of h) u)) (earlier t hs)

pub in_between : (u t : ℕ) (hs : List Happening) (h : Happening) → IsIn h (between u t hs) → IsIn h hs × (u ≤ time_of h) × (time_of h < t)
in_between u t hs h i =
    let back = from_earlier t hs h (in_filter (λ x. not (nat_lt (time_of x) u)) (earlier t hs) h i) in
    let late = has_passed (λ x. not (nat_lt (time_of x) u)) (earlier t hs) h i in (
      back.0,
      le_by (λ lt. (let e = lt-ltb (time_of h) u lt in absurd cc)),
      back.1,
    )

pub is_between : (u t : ℕ) (hs : List Happening) (h : Happening) → IsIn h hs → u ≤ time_of h → time_of h < t → IsIn h (between u t hs)
is_between u t hs h i late early = in_kept (λ x. not (nat_lt (time_of x) u)) (earlier t hs) h (is_earlier t hs h i early) (rw (le-ltb (time_of h) u late) refl)

-- where the first record is not before u, none is
none_earlier : (u : ℕ) (h : Happening) (hs : List Happening) → AreSorted (h ∷ hs) → u ≤ time_of h → earlier u (h ∷ hs) ≡ []
none_earlier u h hs order le = grind (arith, none_kept, nat_lt, time_of, le-ltb)

-- the records before t are those before u and those between
pub earlier_parts : (u t : ℕ) (hs : List Happening) → AreSorted hs → u ≤ t → earlier t hs ≡ earlier u hs ++ between u t hs
earlier_parts u t [] order le = refl
earlier_parts u t (h ∷ hs) order le =
    elim (cases_lt (time_of h) u) [
      | inl lt ↦ rw (lt-ltb (time_of h) t (omega arith), lt-ltb (time_of h) u lt)
          (ap (λ gs. h ∷ gs) (earlier_parts u t hs order.1 le))
      | inr ge ↦
          let none = none_earlier u h hs order ge in
          let all = all_kept (λ x. not (nat_lt (time_of x) u)) (earlier t (h ∷ hs)) (λ x i.
          let late : nat_lt (time_of x) u ≡ false = elim (from_earlier t (h ∷ hs) x i).0 [
            | inl same ↦ rw same (le-ltb (time_of h) u ge)
            | inr more ↦ (le-ltb (time_of x) u (omega arith))
          ] in rw late refl) in
          sym all ∙ ap (λ gs. gs ++ between u t (h ∷ hs)) (sym none)
    ]

-- ---- the last of a list

-- the last of a list that has some is in it
pub last_some : {X : Type 0} (o : Option X) (x : X) (xs : List X) → (y : X) × (last_or o (x ∷ xs) ≡ Some y) × IsIn y (x ∷ xs)
last_some o x [] = (x, refl, inl refl)
last_some o x (y ∷ ys) = let r = last_some (Some x) y ys in (r.0, r.1, inr r.2)

-- ---- a run up to an earlier time

-- the records of a run before an earlier place are the run up to this place
pub cut_run : {N : Type 0} {place : N → List ℕ} (IsDue : List N → N → Type 0) {mark p : List ℕ} {ns : List N}
    (at : IsSplit place ns p) → ((q : List ℕ) → IsBefore q p → IsBefore q mark) → IsRun place IsDue mark ns
    → IsRun place IsDue p at.front
cut_run {N} {place} IsDue {p} {ns} at up run = record {
  founded = front_founded place IsDue at.front at.rest (subst (IsFounded place IsDue) at.whole run.founded);
  full = λ ps qs x e before none due here.
      let whole = at.whole ∙ ap (λ t. t ++ at.rest) e ∙ append_assoc ps qs at.rest in
      let found = run.full ps (qs ++ at.rest) x whole before (λ n i lt. elim (in_parts n qs at.rest i) [
        | inl l ↦ none n l lt
        | inr r ↦ at.none n r (chain (place n) (place x) p lt here)
      ]) due (up (place x) here) in
      (found.0, in_front_of at found.0 found.1 (rw found.2 here), found.2);
  within = at.before;
}

-- what is before the time behind one is before each mark that covers it
pub before_cover : (mark : List ℕ) (until t : ℕ) (q : List ℕ) → Covers mark until → t ≤ until → IsBefore q ((t + 1) ∷ []) → IsBefore q mark
before_cover mark until t [] covers le before = some_mark mark (covers [])
  where
    some_mark : (m : List ℕ) → IsBefore (until ∷ []) m → IsBefore [] m
    some_mark [] b = b
    some_mark (x ∷ xs) b = tt
before_cover mark until t (x ∷ xs) covers le before =
    elim (cases_lt x until) [
      | inl lt ↦ chain (x ∷ xs) (until ∷ []) mark (inl lt) (covers [])
      | inr ge ↦ (let same : until ≡ x = omega arith in rw same at (covers xs))
    ]

-- the records up to a time
pub record IsCutAt (s : Scenario) (hs : List Happening) (t : ℕ) : Type 0 where
  pub front : List Happening
  pub run : IsRun place_of (IsDue s) ((t + 1) ∷ []) front
  pub same : earlier (t + 1) hs ≡ front
  pub inside : (h : Happening) → IsIn h front → IsIn h hs
  pub has : (h : Happening) → IsIn h hs → time_of h ≤ t → IsIn h front
  pub early : (u : ℕ) → u ≤ t + 1 → earlier u front ≡ earlier u hs

-- a record of an earlier time is before the time
sooner : (h : Happening) (u : ℕ) → time_of h < u → IsBefore (place_of h) (u ∷ [])
sooner h u lt = inl lt

pub cut_at : (s : Scenario) {mark : List ℕ} {hs : List Happening} (until t : ℕ) → IsRun place_of (IsDue s) mark hs
    → Covers mark until → t ≤ until → IsCutAt s hs t
cut_at s {mark} {hs} until t run covers le =
    let at = split place_of (IsDue s) hs ((t + 1) ∷ []) run.founded in
    let keeps : (u : ℕ) → u ≤ t + 1 → earlier u at.front ≡ earlier u hs = λ u within.
    earlier_front u at.front at.rest (λ h i. le_by (λ lt. at.none h i (sooner h (t + 1) (omega arith)))) ∙ ap
    (earlier u) (sym at.whole) in
    let all = all_kept (λ h. nat_lt (time_of h) (t + 1)) at.front (λ h i. lt-ltb (time_of h) (t + 1) (soon h (t + 1) (at.before h i))) in
    record {
      front = at.front;
      run = cut_run (IsDue s) at (λ q b. before_cover
          mark until t q covers le b) run;
      same = sym (keeps (t + 1) (omega arith)) ∙ all;
      inside = λ h i. subst (IsIn h) (sym at.whole) (in_left h at.front at.rest i);
      has = λ h i early. in_front_of at h i
          (sooner h (t + 1) (omega arith));
      early = keeps;
    }
