-- Settings at a time, and clocks by the steps of their rate: what they read, and when they reach a value.
use Rattle.std.proofs.{Math.Nat.mul-le-mul_left}
use Rattle.std.proofs.Common
use Common.{if◌then◌else◌, ◌++◌, ◌+◌, ◌-◌, ◌<ℤ◌, ◌<◌, ◌^◌, ◌∙◌, ◌∷◌, ◌≡◌, ◌≤ℤ◌, ◌≤◌, List, None, Option, Some, [], ap}
use Common.{arith, false, inl, inr, length, nat_le, pos, refl, subst, suc, sym, true, unsigned_abs, zero, ℕ, ℤ}
use Rattle.std.proofs.lemmas.{Bool.{cases_lt, le-leb, leb-false, leb-true, lt-leb}, Int.ints}
use Rattle.std.proofs.lemmas.{List.{Elements.filter_map-append, get_or_default}}
use Rattle.std.specs.{Prelude.{drop, filter, filter_map, option_map, slice_index_or, unwrap_or}}
use Rattle.std.specs.List.{All, AllWithin, Sorted.{IsNonDecreasingBy, IsPartitionPoint, IsPartitionedBy}, cons_option}
use Rattle.std.specs.List.{last_or}
use Rattle.audit_law.specs.{declared.events.settings.{Setting.Setting, Settings.Settings}}
use Rattle.audit_law.specs.events.{Beginnings.IsSought, Reaches.IsFirstReach}
use Rattle.audit_law.specs.events.{Settings.{IsSetBy, change_to, changes_by, later_than, value_at}}
use Rattle.audit_law.specs.events.Clocks
use Clocks.{AreClocks, GoOn, HasReached, IsReadable, IsShortOf, clocks_after, clocks_reading, reading_then}
use Rattle.drift_clock.{proofs.Drifts.rounded-mono}
use Rattle.drift_clock.specs.{Counts.{gain, rounded}, RateSteps.{IsHistory, RateStep, up_to}}
use Rattle.drift_clock.specs.{Readings.{reading_at, value_after}}
use Rattle.drift_clock.specs.{Segment.{Segment, segment_count, segment_reading, stepped_segment}}
use Rattle.drift_clock.specs.{SegmentLaws.keeps_count}
use Rattle.net_plan.specs.declared.event.{Event.Event, What.What}
use Rattle.tte_units.{proofs.general_lemmas.Lists.append_none, specs.Amount.amount}

-- ---- the value of a setting at a time

-- ---- where the changes up to a time end

-- changes in order are parted by a time
pub parted : {V : Type 0} (changes : List (Setting V)) (time : ℕ) → IsNonDecreasingBy (λ c. c.from) changes → IsPartitionedBy (λ c. nat_le c.from time) changes
parted changes time order i j d le within last = grind (arith, leb-true, le-leb)

pub part_at : {V : Type 0} (changes : List (Setting V)) (time place : ℕ)
    → IsPartitionPoint (λ c. nat_le c.from time ≡ true) (λ c. nat_le c.from time ≡ false) changes place
    → IsPartitionPoint (λ c. c.from ≤ time) (λ c. time < c.from) changes place
part_at changes time place h = grind (arith, leb-true, leb-false)

-- the place before one that is not the first
pub next_of : (count : ℕ) → (count ≡ 0 → ⊥) → count ≡ (count - 1) + 1
next_of zero some = absurd (some refl)
next_of (suc k) some = omega arith

pub below : (count n : ℕ) → count ≡ (count - 1) + 1 → count ≤ n → count - 1 < n
below count n next bound = omega arith

-- ---- the value there

-- later changes change nothing
pub value_before : {V : Type 0} (v : V) (changes : List (Setting V)) (time : ℕ)
    → AllWithin (λ c. time < c.from) changes 0 (length changes) → value_at v changes time ≡ v
value_before v [] time late = refl
value_before v (c ∷ cs) time late =
    let first = lt-leb c.from time (late 0 c (omega arith) (omega arith)) in
    rw first
    (value_before v cs time (λ k d low high. late (suc k) d (omega arith) (omega arith)))

-- the last change up to the time counts
pub value_found : {V : Type 0} (v : V) (changes : List (Setting V)) (time place : ℕ) (d : Setting V) → place < length changes
    → IsPartitionPoint (λ c. c.from ≤ time) (λ c. time < c.from) changes (place + 1) → value_at v changes time ≡ (slice_index_or changes place d).value
value_found v [] time place d within h = absurd (omega arith)
value_found v (c ∷ cs) time zero d within h =
    let first = le-leb c.from time (h.0 0 c (omega arith) (omega arith)) in
    rw first
    (value_before c.value cs time (λ k e low high. h.1 (suc k) e (omega arith) (omega arith)))
value_found v (c ∷ cs) time (suc k) d within h =
    let first = le-leb c.from time (h.0 0 c (omega arith) (omega arith)) in
    rw first
    (value_found c.value cs time k d (omega arith) (
      λ i e low high. h.0 (suc i) e (omega arith) (omega arith),
      λ i e low high. h.1 (suc i) e (omega arith) (omega arith),
    ))

-- the changes behind that place are the later ones
all_later : {V : Type 0} (changes : List (Setting V)) (time : ℕ) → AllWithin (λ c. time < c.from) changes 0 (length changes)
    → changes ≡ later_than time changes
all_later [] time late = refl
all_later {V} (c ∷ cs) time late =
    let first = le-leb (suc time) c.from (let l = late 0 c (omega arith) (omega arith) in omega arith) in
    ap (λ l. c ∷ l) (all_later cs time (λ k d low high. late (suc k) d (omega arith) (omega arith)))
    ∙ sym (ap (λ b. if b then c ∷ later_than time cs else later_than time cs) first)

pub later_found : {V : Type 0} (changes : List (Setting V)) (time place : ℕ)
    → IsPartitionPoint (λ c. c.from ≤ time) (λ c. time < c.from) changes place → drop place changes ≡ later_than time changes
later_found [] time zero h = refl
later_found [] time (suc k) h = refl
later_found (c ∷ cs) time zero h = all_later (c ∷ cs) time h.1
later_found (c ∷ cs) time (suc k) h =
    let first = lt-leb (suc time) c.from (let l = h.0 0 c (omega arith) (omega arith) in omega arith) in
    later_found cs time k (
      λ i e low high. h.0 (suc i) e (omega arith) (omega arith),
      λ i e low high. h.1 (suc i) e (omega arith) (omega arith),
    )
    ∙ sym (rw first)

-- ---- a setting by events

one_change : {V : Type 0} (t time : ℕ) (v : V) (m : Option V) (cs : List (Setting V))
    → value_at v (cons_option (option_map (change_to time) m) cs) t ≡ value_at (if nat_le time t then unwrap_or m v else v) cs t
one_change t time v (Some w) cs = refl
one_change t time v None cs = grind (arith, nat_le)

module _ {V : Type 0} (setting : What → Option V) (initial : V) (t : ℕ) where
  -- the last value set, where `o` was set before
  last_from : (events : List Event) (o : Option V) → unwrap_or
      (last_or o (filter_map (λ e. setting e.what) (filter (λ e. nat_le (amount e.time) t) events))) initial
      ≡ value_at (unwrap_or o initial) (changes_by setting events) t
  last_from [] o = refl
  last_from (e ∷ es) o =
      let rest = filter (λ e. nat_le (amount e.time) t) es in
      (elim (nat_le (amount e.time) t) as
      (λ b. unwrap_or (last_or o (filter_map (λ e. setting e.what) (if b then e ∷ rest else rest))) initial
      ≡ value_at (if b then unwrap_or (setting e.what) (unwrap_or o initial) else unwrap_or o initial)
      (changes_by setting es) t) [
        | true ↦ elim (setting e.what) as
            (λ m. unwrap_or (last_or o (cons_option m (filter_map (λ e. setting e.what) rest))) initial
            ≡ value_at (unwrap_or m (unwrap_or o initial)) (changes_by setting es) t) [
              | Some w ↦ last_from es (Some w)
              | None ↦ last_from es o
            ]
        | false ↦ last_from es o
      ])
      ∙ sym (one_change t (amount e.time) (unwrap_or o initial) (setting e.what) (changes_by setting es))

  -- the last value that the events set is that of their changes
  pub last_is : (events : List Event) → unwrap_or
      (last_or None (filter_map (λ e. setting e.what) (filter (λ e. nat_le (amount e.time) t) events))) initial
      ≡ value_at initial (changes_by setting events) t
  last_is events = last_from events None

-- ---- one event more

set_by : {V : Type 0} (setting : What → Option V) (events : List Event) (event : Event) (m : Option V) → setting event.what ≡ m
    → changes_by setting (events ++ event ∷ []) ≡ changes_by setting events ++ cons_option (option_map (change_to (amount event.time)) m) []
set_by {V} setting events event m is =
    filter_map-append (λ e. option_map (change_to (amount e.time)) (setting e.what)) events (event ∷ [])
    ∙ ap (λ o. changes_by setting events ++ cons_option (option_map (change_to (amount event.time)) o) []) is

module _ {V : Type 0} (setting : What → Option V) (initial : V) (events : List Event) (event : Event) where
  -- an event that sets the value
  pub set_more : (v : V) {old : Settings V} (new : Settings V) → setting event.what ≡ Some v
      → new.initial ≡ old.initial → new.changes.items ≡ old.changes.items ++ change_to (amount event.time) v ∷ []
      → IsSetBy setting initial events old → IsSetBy setting initial (events ++ event ∷ []) new
  set_more v new is first more h = record {
    first = first ∙ h.first;
    changes = more ∙ ap (λ l. l ++ change_to (amount event.time) v ∷ []) h.changes ∙ sym
        (set_by setting events event (Some v) is);
  }

  -- an event that does not
  pub set_stays : {settings : Settings V} → setting event.what ≡ None → IsSetBy setting initial events settings
      → IsSetBy setting initial (events ++ event ∷ []) settings
  set_stays is h = record {
    first = h.first;
    changes = h.changes ∙ sym (set_by setting events event None is ∙ append_none (changes_by setting events));
  }

-- ---- the clocks that the steps of a rate leave

-- steps in the order of time, from a time on and up to 2^60, each to a slow rate
abbrev pub StepsFrom : ℕ → ℕ → List RateStep → Type 0
StepsFrom rho least [] = Unit {0}
StepsFrom rho least (s ∷ steps) = (least ≤ s.at) × (s.at ≤ 2 ^ 60) × (unsigned_abs s.rate ≤ rho) × StepsFrom rho s.at steps

pub steps_sooner : (rho least more : ℕ) (steps : List RateStep) → least ≤ more → StepsFrom rho more steps → StepsFrom rho least steps
steps_sooner rho least more [] le h = tt
steps_sooner rho least more (s ∷ steps) le h = (omega (arith, h.0), h.1, h.2, h.3)

-- ---- their order

clocks_from : (rho least : ℕ) (clock : Segment) (steps : List RateStep) → StepsFrom rho least steps → All (λ c. least ≤ c.from) (clocks_after clock steps)
clocks_from rho least clock [] h k d lt = absurd (omega arith)
clocks_from rho least clock (s ∷ steps) h zero d lt = h.0
clocks_from rho least clock (s ∷ steps) h (suc k) d lt =
    let behind = clocks_from rho s.at (stepped_segment clock s.at s.rate) steps h.3 k d (omega arith) in
    omega (arith, h.0)

clocks_sorted : (rho least : ℕ) (clock : Segment) (steps : List RateStep) → StepsFrom rho least steps
    → IsNonDecreasingBy (λ c. c.from) (clocks_after clock steps)
clocks_sorted rho least clock [] h i j d le lt = absurd (omega arith)
clocks_sorted rho least clock (s ∷ steps) h zero zero d le lt = omega arith
clocks_sorted rho least clock (s ∷ steps) h zero (suc j) d le lt =
    clocks_from rho s.at (stepped_segment clock s.at s.rate) steps h.3 j d (omega arith)
clocks_sorted rho least clock (s ∷ steps) h (suc i) zero d le lt = absurd (omega arith)
clocks_sorted rho least clock (s ∷ steps) h (suc i) (suc j) d le lt =
    clocks_sorted rho s.at (stepped_segment clock s.at s.rate) steps h.3 i j d (omega arith) (omega arith)

clocks_readable : (rho least : ℕ) (clock : Segment) (steps : List RateStep) → StepsFrom rho least steps → All IsReadable (clocks_after clock steps)
clocks_readable rho least clock [] h k d lt = absurd (omega arith)
clocks_readable rho least clock (s ∷ steps) h zero d lt = record { stepped = omega arith; limit = h.1 }
clocks_readable rho least clock (s ∷ steps) h (suc k) d lt =
    clocks_readable rho s.at (stepped_segment clock s.at s.rate) steps h.3 k d (omega arith)

clocks_go_on : (clock : Segment) (steps : List RateStep) → GoOn clock (clocks_after clock steps)
clocks_go_on clock [] = tt
clocks_go_on clock (s ∷ steps) =
    (ap (rounded clock.grain) (keeps_count clock s.at s.rate), clocks_go_on (stepped_segment clock s.at s.rate) steps)

pub are_clocks : (rho least : ℕ) (clock : Segment) (steps : List RateStep) → clock.at ≡ 0 → StepsFrom rho least steps
    → AreClocks clock (clocks_after clock steps)
are_clocks rho least clock steps begins h = record {
  begins = begins;
  in_order = clocks_sorted rho least clock steps h;
  each = clocks_readable rho least clock steps h;
  go_on = clocks_go_on clock steps;
}

-- steps up to a time
abbrev pub StepsUpTo : ℕ → List RateStep → Type 0
StepsUpTo bound [] = Unit {0}
StepsUpTo bound (s ∷ steps) = (s.at ≤ bound) × StepsUpTo bound steps

pub clocks_up_to : (bound : ℕ) (clock : Segment) (steps : List RateStep) → StepsUpTo bound steps → All (λ c. c.from ≤ bound) (clocks_after clock steps)
clocks_up_to bound clock [] h k d lt = absurd (omega arith)
clocks_up_to bound clock (s ∷ steps) h zero d lt = h.0
clocks_up_to bound clock (s ∷ steps) h (suc k) d lt = clocks_up_to bound (stepped_segment clock s.at s.rate) steps h.1 k
    d (omega arith)

-- ---- the clock at a time

none_up_to : (rho least t : ℕ) (steps : List RateStep) → StepsFrom rho least steps → t < least → up_to t steps ≡ []
none_up_to rho least t [] h lt = refl
none_up_to rho least t (s ∷ steps) h lt =
    rw (lt-leb s.at t (omega (arith, h.0)))
    (none_up_to rho s.at t steps h.3 (omega (arith, h.0)))

clocks_late : (rho least t : ℕ) (clock : Segment) (steps : List RateStep) → StepsFrom rho least steps → t < least
    → AllWithin (λ c. t < c.from) (clocks_after clock steps) 0 (length (clocks_after clock steps))
clocks_late rho least t clock steps h lt k d low high = let from = clocks_from rho least clock steps h k d high in
    omega arith

-- what the steps up to a time make of the clock
pub clock_value : (rho least t : ℕ) (clock : Segment) (steps : List RateStep) → StepsFrom rho least steps
    → value_at clock (clocks_after clock steps) t ≡ value_after stepped_segment clock (up_to t steps)
clock_value rho least t clock [] h = refl
clock_value rho least t clock (s ∷ steps) h =
    let next = stepped_segment clock s.at s.rate in
    elim (cases_lt t s.at) [
      | inl lt ↦
          value_before clock (clocks_after clock (s ∷ steps)) t (clocks_late rho s.at t clock (s ∷ steps) (omega arith, h.1, h.2, h.3) lt)
          ∙ ap (value_after stepped_segment clock) (sym (none_up_to rho s.at t (s ∷ steps) (omega arith, h.1, h.2, h.3) lt))
      | inr le ↦
          ap (λ b. value_at (if b then next else clock) (clocks_after next steps) t) (le-leb s.at t le)
          ∙ clock_value rho s.at t next steps h.3
          ∙ sym (rw (le-leb s.at t le))
    ]

-- and so what it reads
pub clock_reads : (rho least t : ℕ) (clock : Segment) (steps : List RateStep) → StepsFrom rho least steps
    → clocks_reading clock (clocks_after clock steps) t ≡ reading_at stepped_segment segment_reading clock steps t
clock_reads rho least t clock steps h = rw (clock_value rho least t clock steps h)

-- it can be read then
pub value_ready : (clock : Segment) (changes : List (Setting Segment)) (t : ℕ) → clock.at ≤ t → All IsReadable changes → (value_at clock changes t).at ≤ t
value_ready clock [] t begun each = begun
value_ready clock (c ∷ cs) t begun each =
    let rest : All IsReadable cs = λ k d lt. each (suc k) d (omega arith) in
    let first = each 0 c (omega arith) in
    elim (cases_lt t c.from) [
      | inl lt ↦ subst (λ b. (value_at (if b then c.value else clock) cs t).at ≤ t) (sym (lt-leb c.from t lt)) (value_ready clock cs t begun rest)
      | inr le ↦ subst (λ b. (value_at (if b then c.value else clock) cs t).at ≤ t) (sym (le-leb c.from t le))
          (value_ready c.value cs t (let low = first.stepped in omega (arith, low, le)) rest)
    ]

-- after the last change the last clock stands
pub value_last : (t : ℕ) (clock : Segment) (steps : List RateStep) → All (λ c. c.from ≤ t) (clocks_after clock steps)
    → value_at clock (clocks_after clock steps) t ≡ value_after stepped_segment clock steps
value_last t clock [] all = refl
value_last t clock (s ∷ steps) all =
    let next = stepped_segment clock s.at s.rate in
    let first = all 0 (change_to s.at next) (omega arith) in
    ap (λ b. value_at (if b then next else clock) (clocks_after next steps) t) (le-leb s.at t first)
    ∙ value_last t next steps (λ k d lt. all (suc k) d (omega arith))

-- one step more
pub clocks_more : (clock : Segment) (steps : List RateStep) (s : RateStep) → clocks_after clock (steps ++ s ∷ []) ≡ clocks_after clock steps
    ++ change_to s.at (stepped_segment (value_after stepped_segment clock steps) s.at s.rate) ∷ []
clocks_more clock [] s = refl
clocks_more clock (x ∷ steps) s =
    rw (clocks_more (stepped_segment clock x.at x.rate) steps s)

-- ---- a history

steps_at : (rho least : ℕ) (steps : List RateStep) → StepsFrom rho least steps → All (λ s. least ≤ s.at) steps
steps_at rho least [] h k d lt = absurd (omega arith)
steps_at rho least (s ∷ steps) h zero d lt = h.0
steps_at rho least (s ∷ steps) h (suc k) d lt = let behind = steps_at rho s.at steps h.3 k d (omega arith) in
    omega (arith, h.0)

steps_sorted : (rho least : ℕ) (steps : List RateStep) → StepsFrom rho least steps → IsNonDecreasingBy (λ s. s.at) steps
steps_sorted rho least [] h i j d le lt = absurd (omega arith)
steps_sorted rho least (s ∷ steps) h zero zero d le lt = omega arith
steps_sorted rho least (s ∷ steps) h zero (suc j) d le lt = steps_at rho s.at steps h.3 j d (omega arith)
steps_sorted rho least (s ∷ steps) h (suc i) zero d le lt = absurd (omega arith)
steps_sorted rho least (s ∷ steps) h (suc i) (suc j) d le lt =
    steps_sorted rho s.at steps h.3 i j d (omega arith) (omega arith)

steps_slow : (rho least : ℕ) (steps : List RateStep) → StepsFrom rho least steps → All (λ s. unsigned_abs s.rate ≤ rho) steps
steps_slow rho least [] h k d lt = absurd (omega arith)
steps_slow rho least (s ∷ steps) h zero d lt = h.2
steps_slow rho least (s ∷ steps) h (suc k) d lt = steps_slow rho s.at steps h.3 k d (omega arith)

pub steps_history : (rho least : ℕ) (steps : List RateStep) → StepsFrom rho least steps → IsHistory rho steps
steps_history rho least steps h = record { in_order = steps_sorted rho least steps h; within = steps_slow rho least steps h }

-- ---- when a clock first reaches a value, over the steps of its rate

-- ---- what is left behind a time

behind_late : (c : Setting Segment) (cs : List (Setting Segment)) (t : ℕ) → IsNonDecreasingBy (λ x. x.from) (c ∷ cs) → t < c.from
    → AllWithin (λ x. t < x.from) (c ∷ cs) 0 (length (c ∷ cs))
behind_late c cs t order lt k d low high = let first = order 0 k d (omega arith) high in omega arith

pub tail_order : (c : Setting Segment) (cs : List (Setting Segment)) → IsNonDecreasingBy (λ x. x.from) (c ∷ cs) → IsNonDecreasingBy (λ x. x.from) cs
tail_order c cs order i j d le lt = order (suc i) (suc j) d (omega arith) (omega arith)

-- the value at a later time, from the value at the first
pub value_split : (v : Segment) (changes : List (Setting Segment)) (from t : ℕ) → from ≤ t → IsNonDecreasingBy (λ c. c.from) changes
    → value_at v changes t ≡ value_at (value_at v changes from) (later_than from changes) t
value_split v [] from t le order = refl
value_split v (c ∷ cs) from t le order = elim (cases_lt from c.from) [
  | inl lt ↦
      let late = behind_late c cs from order lt in
      ap (λ w. value_at w (c ∷ cs) t) (sym (value_before v (c ∷ cs) from late))
      ∙ ap (λ l. value_at (value_at v (c ∷ cs) from) l t) (all_later (c ∷ cs) from late)
  | inr ge ↦
      let now = le-leb c.from from ge in
      let then_too = le-leb c.from t (omega arith) in
      let gone = lt-leb (suc from) c.from (omega arith) in
      rw then_too
      (value_split c.value cs from t le (tail_order c cs order)
      ∙ sym (ap (λ b. value_at (value_at (if b then c.value else v) cs from) (later_than from cs) t) now)
      ∙ sym (rw gone))
]

-- what is later is in order, can be read, is later, and goes on from the clock
pub record IsLeft (clock : Segment) (start : ℕ) (later : List (Setting Segment)) : Type 0 where
  pub order : IsNonDecreasingBy (λ c. c.from) later
  pub each : All IsReadable later
  pub after : All (λ c. start ≤ c.from) later
  pub go_on : GoOn clock later

pub left_behind : (v : Segment) (changes : List (Setting Segment)) (from : ℕ) → IsNonDecreasingBy (λ c. c.from) changes → All IsReadable changes
    → GoOn v changes → IsLeft (value_at v changes from) from (later_than from changes)
left_behind v [] from order each on = record {
  order = order;
  each = each;
  after =
      λ k d lt. absurd (omega arith);
  go_on = tt;
}
left_behind v (c ∷ cs) from order each on = elim (cases_lt from c.from) [
  | inl lt ↦
      let late = behind_late c cs from order lt in
      rw (value_before v (c ∷ cs) from late) (subst (IsLeft v from) (all_later (c ∷ cs) from late)
      (record {
        order = order;
        each = each;
        after = λ k d within. let l = late k d (omega arith) within in
            omega arith;
        go_on = on;
      }))
  | inr ge ↦
      let now = le-leb c.from from ge in
      let gone = lt-leb (suc from) c.from (omega arith) in
      rw now (rw gone (left_behind c.value cs from (tail_order c cs order) (λ k d lt. each (suc k) d (omega arith))
      on.1))
]

left_tail : {clock : Segment} {start : ℕ} (c : Setting Segment) (cs : List (Setting Segment))
    → IsLeft clock start (c ∷ cs) → IsLeft c.value c.from cs
left_tail c cs left = record {
  order = tail_order c cs left.order;
  each = λ k d lt. left.each (suc k) d (omega arith);
  after = λ k d lt. left.order 0 (suc k) d (omega arith) (omega arith);
  go_on = left.go_on.1;
}

-- the clock stays until the next change
steady : {clock : Segment} (c : Setting Segment) (cs : List (Setting Segment)) {start : ℕ} (x : ℕ)
    → IsLeft clock start (c ∷ cs) → x < c.from → value_at clock (c ∷ cs) x ≡ clock
steady {clock} c cs x left lt = value_before clock (c ∷ cs) x (behind_late c cs x left.order lt)

-- ---- readings never fall

rounded_rises : (grain a b : ℕ) → a ≤ b → rounded grain a ≤ rounded grain b
rounded_rises zero a b le = omega arith
rounded_rises (suc g) a b le = rounded-mono (suc g) a b (omega arith) le

reads_on : (clock : Segment) (s t : ℕ) → s ≤ t → segment_reading clock s ≤ segment_reading clock t
reads_on clock s t le =
    let more : s - clock.at ≤ t - clock.at = omega arith in
    let gained = mul-le-mul_left (gain clock.rate) more in
    rounded_rises clock.grain (segment_count clock s) (segment_count clock t) (omega arith)

-- from a clock on, over its later changes
reads_more : (clock : Segment) (start : ℕ) (later : List (Setting Segment)) (t : ℕ) → IsLeft clock start later → start ≤ t
    → segment_reading clock start ≤ clocks_reading clock later t
reads_more clock start [] t left le = reads_on clock start t le
reads_more clock start (c ∷ cs) t left le = elim (cases_lt t c.from) [
  | inl lt ↦ rw (steady c cs t left lt) (reads_on clock start t le)
  | inr ge ↦
      let first = reads_on clock start c.from (left.after 0 c (omega arith)) in
      let same = left.go_on.0 in
      let rest = reads_more c.value c.from cs t (left_tail c cs left) ge in
      subst (λ b. segment_reading clock start ≤ segment_reading (value_at (if b then c.value else clock) cs t) t) (sym (le-leb c.from t ge))
      (omega (arith, first, same, rest))
]

reads_above : (clock : Segment) (start : ℕ) (later : List (Setting Segment)) → IsLeft clock start later
    → All (λ c. segment_reading clock start ≤ reading_then c) later
reads_above clock start [] left k d lt = absurd (omega arith)
reads_above clock start (c ∷ cs) left zero d lt =
    let first = reads_on clock start c.from (left.after 0 c (omega arith)) in
    let same = left.go_on.0 in
    omega arith
reads_above clock start (c ∷ cs) left (suc k) d lt =
    let first = reads_on clock start c.from (left.after 0 c (omega arith)) in
    let same = left.go_on.0 in
    let rest = reads_above c.value c.from cs (left_tail c cs left) k d (omega arith) in
    omega arith

pub rising : (clock : Segment) (start : ℕ) (later : List (Setting Segment)) → IsLeft clock start later → IsNonDecreasingBy reading_then later
rising clock start [] left i j d le lt = absurd (omega arith)
rising clock start (c ∷ cs) left zero zero d le lt = omega arith
rising clock start (c ∷ cs) left zero (suc j) d le lt =
    reads_above c.value c.from cs (left_tail c cs left) j d (omega arith)
rising clock start (c ∷ cs) left (suc i) zero d le lt = absurd (omega arith)
rising clock start (c ∷ cs) left (suc i) (suc j) d le lt =
    rising c.value c.from cs (left_tail c cs left) i j d (omega arith) (omega arith)

-- ---- the search by halves

-- the changes below `low` read less than the goal, those from `high` on at least the goal
pub record IsHalved (goal : ℤ) (changes : List (Setting Segment)) (low high : ℕ) : Type 0 where
  pub within : low ≤ high
  pub bound : high ≤ length changes
  pub short : AllWithin (IsShortOf goal) changes 0 low
  pub reached : AllWithin (HasReached goal) changes high (length changes)

pub halves_begin : (goal : ℤ) (changes : List (Setting Segment)) → IsHalved goal changes 0 (length changes)
halves_begin goal changes = record {
  within = omega arith;
  bound = omega arith;
  short = λ k d low high. absurd (omega arith);
  reached = λ k d low high. absurd (omega arith);
}

module _ {goal : ℤ} {changes : List (Setting Segment)} {low high : ℕ} (middle : ℕ) (c d : Setting Segment)
    (order : IsNonDecreasingBy reading_then changes) (h : IsHalved goal changes low high) where
  pub halves_up : middle < high → c ≡ slice_index_or changes middle d → IsShortOf goal c
      → IsHalved goal changes (middle + 1) high
  halves_up below is less =
      let bound = h.bound in
      let inside : middle < length changes = omega arith in
      record {
        within = omega arith;
        bound = bound;
        short = λ k e from upto.
            let here = is ∙ get_or_default changes middle d e inside in
            let last = subst (IsShortOf goal) here less in
            let up = order k middle e (omega (arith, upto)) inside in
            omega (arith, ints);
        reached = h.reached;
      }

  pub halves_down : low ≤ middle → middle < high → c ≡ slice_index_or changes middle d → HasReached goal c
      → IsHalved goal changes low middle
  halves_down above below is more =
      let bound = h.bound in
      let inside : middle < length changes = omega arith in
      record {
        within = above;
        bound = omega arith;
        short = h.short;
        reached = λ k e from upto.
            let here = is ∙ get_or_default changes middle d e inside in
            let first = subst (HasReached goal) here more in
            let up = order middle k e from upto in
            omega (arith, ints);
      }

pub halves_end : {goal : ℤ} {changes : List (Setting Segment)} {low high : ℕ} → IsHalved goal changes low high
    → high ≤ low → IsPartitionPoint (IsShortOf goal) (HasReached goal) changes low
halves_end h done =
    (h.short, λ k d from upto. h.reached k d (omega arith) upto)

-- ---- the clock that reaches the goal

-- the clock as the last of so many changes leaves it, or else as it is at first
abbrev pub set_last : Setting Segment → List (Setting Segment) → ℕ → Setting Segment
set_last first later zero = first
set_last first later (suc k) = slice_index_or later k first

set_last_behind : (first c : Setting Segment) (cs : List (Setting Segment)) (k : ℕ) → k ≤ length cs → set_last first (c ∷ cs) (suc k) ≡ set_last c cs k
set_last_behind first c cs zero le = refl
set_last_behind first c cs (suc k) le = get_or_default cs k first c (omega arith)

-- readings below the goal up to a time leave the first reach from then on
pub reached_later : (r s : ℕ → ℕ) (from later : ℕ) (goal : ℤ) (until : ℕ) (result : Option ℕ) → from ≤ later
    → ((x : ℕ) → from ≤ x → x < later → pos (s x) <ℤ goal) → ((x : ℕ) → later ≤ x → r x ≡ s x) → IsFirstReach r later goal until result
    → IsFirstReach s from goal until result
reached_later r s from later goal until None le before same none = λ x after upto. elim (cases_lt x later) [
  | inl lt ↦ before x after lt
  | inr ge ↦ rw (same x ge) at (none x ge upto)
]
reached_later r s from later goal until (Some time) le before same found =
    let here = found.0.from_on in
    let after : later ≤ time = omega (arith, ints) in (
      record {
        from_on = omega (arith, ints);
        reached = rw (same time after) at found.0.reached;
        not_before = λ x from_x lt. elim (cases_lt x later) [
          | inl less ↦ before x (omega (arith, ints)) less
          | inr ge ↦ rw (same x ge) at (found.0.not_before x (omega (arith, ints)) lt)
        ];
      },
      found.1,
    )

-- a goal that the next change has reached is first reached as the clock goes on up to it
reached_first : {clock : Segment} {start : ℕ} (c : Setting Segment) (cs : List (Setting Segment)) (goal : ℤ)
    (until : ℕ) (result : Option ℕ) → IsLeft clock start (c ∷ cs) → HasReached goal c
    → IsFirstReach (segment_reading clock) start goal until result
    → IsFirstReach (clocks_reading clock (c ∷ cs)) start goal until result
reached_first c cs goal until None left more none = λ x after upto. elim (cases_lt x c.from) [
  | inl lt ↦ rw (steady c cs x left lt) (none x after upto)
  | inr ge ↦
      let less = none c.from (left.after 0 c (omega arith)) (omega arith) in
      let same = left.go_on.0 in
      absurd (omega (arith, ints))
]
reached_first {clock} {start} c cs goal until (Some time) left more found =
    let same = left.go_on.0 in
    let sooner = left.after 0 c (omega arith) in
    let upto : time ≤ c.from = elim (cases_lt c.from time) [
      | inl lt ↦
          let less = found.0.not_before c.from (omega (arith, ints)) (omega (arith, ints)) in
          absurd (omega (arith, ints))
      | inr le ↦ le
    ] in (
      record {
        from_on = found.0.from_on;
        reached = elim (cases_lt time c.from) [
          | inl lt ↦ rw (steady c cs time left lt) found.0.reached
          | inr ge ↦
              let up = reads_more c.value c.from cs time (left_tail c cs left) ge in
              subst (λ b. goal ≤ℤ pos (segment_reading (value_at (if b then c.value else clock) cs time) time)) (sym (le-leb c.from time ge))
              (omega (arith, ints, more, up))
        ];
        not_before = λ x from_x lt.
            rw (steady c cs x left (omega (arith, ints, lt, upto))) (found.0.not_before x from_x lt);
      },
      found.1,
    )

-- the one before that place
pub set_last_at : (first c : Setting Segment) (later : List (Setting Segment)) (count : ℕ) → count ≤ length later → (count ≡ 0 → ⊥)
    → c ≡ slice_index_or later (count - 1) c → c ≡ set_last first later count
set_last_at first c later zero bound some is = absurd (some refl)
set_last_at first c later (suc k) bound some is =
    let place : suc k - 1 ≡ k = omega arith in
    is ∙ ap (λ n. slice_index_or later n c) place ∙ get_or_default later k c first (omega arith)

-- a goal that is not reached before the next change is first reached behind it
reached_behind : {clock : Segment} {start : ℕ} (c : Setting Segment) (cs : List (Setting Segment)) (goal : ℤ)
    (until : ℕ) (result : Option ℕ) → IsLeft clock start (c ∷ cs) → IsShortOf goal c
    → IsFirstReach (clocks_reading c.value cs) c.from goal until result
    → IsFirstReach (clocks_reading clock (c ∷ cs)) start goal until result
reached_behind {clock} {start} c cs goal until result left less found =
    let reading = clocks_reading clock (c ∷ cs) in
    let sooner = left.after 0 c (omega arith) in
    let before : (x : ℕ) → start ≤ x → x < c.from → pos (reading x) <ℤ goal =
    λ x after lt.
    let up = reads_on clock x c.from (omega arith) in
    let same = left.go_on.0 in
    rw (steady c cs x left lt) (omega (arith, ints))
    in
    let behind : (x : ℕ) → c.from ≤ x → clocks_reading c.value cs x ≡ reading x =
    λ x ge. ap (λ b. segment_reading (value_at (if b then c.value else clock) cs x) x) (sym (le-leb c.from x ge)) in
    reached_later (clocks_reading c.value cs) reading start c.from goal until result sooner before behind found

pub reached_set_last : (first : Setting Segment) (later : List (Setting Segment)) (goal : ℤ) (count : ℕ) (until : ℕ) (result : Option ℕ)
    → IsLeft first.value first.from later → count ≤ length later → IsPartitionPoint (IsShortOf goal) (HasReached goal) later count
    → IsFirstReach (segment_reading (set_last first later count).value) (set_last first later count).from goal until result
    → IsFirstReach (clocks_reading first.value later) first.from goal until result
reached_set_last first [] goal zero until result left bound part found = found
reached_set_last first [] goal (suc k) until result left bound part found = absurd (omega arith)
reached_set_last first (c ∷ cs) goal zero until result left bound part found =
    reached_first c cs goal until result left (part.1 0 c (omega arith) (omega arith)) found
reached_set_last first (c ∷ cs) goal (suc k) until result left bound part found =
    reached_behind c cs goal until result left (part.0 0 c (omega arith) (omega arith))
    (reached_set_last c cs goal k until result (left_tail c cs left) (omega arith) (
      λ i e low high. part.0 (suc i) e (omega arith) (omega arith),
      λ i e low high. part.1 (suc i) e (omega arith) (omega arith),
    )
    (rw (set_last_behind first c cs k (omega (arith, bound))) at found))

module _ (initial : Segment) (changes : List (Setting Segment)) (from : ℕ) where
  -- what is left of the clocks from a time on
  pub left_of : AreClocks initial changes → IsLeft (value_at initial changes from) from (later_than from changes)
  left_of are = left_behind initial changes from are.in_order are.each are.go_on

  -- the first reach is that of the clock which the changes that read less set last
  pub first_of_last : (goal : ℤ) (count : ℕ) → AreClocks initial changes → count ≤ length (later_than from changes)
      → IsPartitionPoint (IsShortOf goal) (HasReached goal) (later_than from changes) count → (last : Setting Segment)
      → last ≡ set_last (change_to from (value_at initial changes from)) (later_than from changes) count
      → (until : ℕ) (result : Option ℕ) → IsFirstReach (segment_reading last.value) last.from goal until result
      → IsFirstReach (clocks_reading initial changes) from goal until result
  first_of_last goal count are bound part last is until result found =
      let first = change_to from (value_at initial changes from) in
      let later = later_than from changes in
      reached_later (clocks_reading first.value later) (clocks_reading initial changes) from from goal until result
      (omega arith)
      (λ x after before. absurd (omega arith))
      (λ x after. rw (sym (value_split initial changes from x after are.in_order)))
      (reached_set_last first later goal count until result (left_of are) bound part
      (rw is at found))

  -- it can be read
  pub last_readable : (count : ℕ) → AreClocks initial changes → from ≤ 2 ^ 60
      → count ≤ length (later_than from changes) → IsReadable
      (set_last (change_to from (value_at initial changes from)) (later_than from changes) count)
  last_readable zero are limit bound =
      record { stepped = value_ready initial changes from (let b = are.begins in omega arith) are.each; limit = limit }
  last_readable (suc k) are limit bound =
      (left_of are).each k (change_to from (value_at initial changes from)) (omega arith)

-- ---- what was sought

-- a reach of the goal is one of the value, over the same readings
pub reach_of_value : (r s : ℕ → ℕ) (from : ℕ) (value goal : ℤ) (until : ℕ) (result : Option ℕ) → ((x : ℕ) → r x ≡ s x) → IsSought value goal
    → IsFirstReach r from goal until result → IsFirstReach s from value until result
reach_of_value r s from value goal until None same (inl low) none = λ x after before.
    let short = none x after before in absurd (omega (arith, ints, low.1))
reach_of_value r s from value goal until None same (inr is) none = grind (arith, ints)
reach_of_value r s from value goal until (Some time) same (inl low) found = grind (arith, ints)
reach_of_value r s from value goal until (Some time) same (inr is) found = grind (arith, ints)
