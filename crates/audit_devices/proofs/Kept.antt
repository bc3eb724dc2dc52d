-- What is shown and kept of a device goes on by one more record, and lasts while the same is shown.
use Rattle.std.proofs.{Common.{◌/◌, div-mul-le_self, get_or, negsuc}}
use Rattle.std.proofs.{Math.{ListN.get_or-append, Seq.get_or-append_seam}}
use Rattle.std.proofs.lemmas.{Bool.{eq-eqb, le-leb, leb-false, leb-true, lt-ltb, ltb-false, ltb-true}, Int.ints}
use Rattle.std.proofs.lemmas.{Nat.le-div, Option.slice_get-get_or}
use Rattle.std.proofs.lemmas.List.{Elements.{filter-append, filter_map-append}, Folds.list_any-append, Sums.fold-append}
use Rattle.std.proofs.lemmas.List.{append-nil}
use Rattle.std.specs.{Int.int_div_euclid}
use Rattle.std.specs.{Prelude.{◌-ℤ◌, ◌<ℤ◌, ◌≤ℤ◌, IfSome, MatchOption, fold, int_le, int_lt, nat_le, option_map}}
use Rattle.audit_devices.proofs.{Tells.{Tells, adjustment_by, changes_by, cycle_by, joins_by, state_by, tells}}
use Rattle.audit_devices.proofs.Words
use Words.{if◌then◌else◌, ◌&&◌, ◌++◌, ◌+ℤ◌, ◌+◌, ◌-◌, ◌<◌, ◌==◌, ◌||◌, ◌∙◌, ◌∷◌, ◌≡◌, ◌≤◌, ◌⊎◌, Bool, Carried, Corrects}
use Words.{DeviceId, Effect, Entry, Happening, Hearing, Hears, History, IsIn, IsInRange, IsPartitionPoint}
use Words.{IsPartitionedBy, Joins, Keeps, List, Network, None, NoneLater, NoteBody, Nothing, Option, Scenario, Shown}
use Words.{Shows, Some, Summarizes, Summary, Turns, Units, [], ap, arith, cases_lt, changes_adjustment, cons_option}
use Words.{effect_by, effect_of, false, filter, filter_map, got_within, heard_at, heard_by_then, hearing_by, inl, inr}
use Words.{is_before, is_joined_by, last_or, length, length-append, members_in, nat_lt, ne_eqb, option_map_or, place_of}
use Words.{points_by, pos, records_before, refl, silence, slice_get, subject_of, subst, suc, sym, take, time_at}
use Words.{time_of, true, zero, ℕ, ℤ}
use Rattle.audit_devices.specs.{Following.{changed_to, joined_to}}
use Rattle.audit_devices.specs.{Keeping.{IsInOrder, IsOfRecord, last_shown, latest_of, shown_before}}
use Rattle.audit_devices.specs.{Lasting.{IsUpTo, Lasts, end_of}}
use Rattle.audit_devices.specs.{Showing.{IsAfter, IsSteady, last_change, last_joining, points_from}}
use Rattle.audit_law.specs.law.CorrectionNumbers.{heard_since_point, next_number, points_come}
use Rattle.run_law.proofs.{records.Order.{after_more, after_same, all_kept, before_is, is_there, same_kept}}
use Rattle.run_law.proofs.{runs.Places.{chain, in_left, in_parts, in_right}}
use Rattle.run_law.specs.{control.Corrections.{correction_value, cycle_after, integration_cycle, recorded_cycle}}
use Rattle.run_law.specs.{records.{Happenings.earlier, Order.{AllBefore, IsBefore}, Ranks.{key, rank}}}
use Rattle.run_law.specs.device.{Standpoints.natural}
use Rattle.run_law.specs.device.States
use States.{adjustment_after, adjustment_at_hearing, adjustment_with, cycle_in, has_joined_at, joined_adjustment}
use States.{state_after, state_with}
use Rattle.sync_state.{proofs.membership_lemmas.SummaryLemmas.silence_summarizes, specs.declared.state.State.State}
use Rattle.tte_units.proofs.general_lemmas.{Bools.{no_more, no_more as none_more, none_shorter}}
use Rattle.tte_units.proofs.general_lemmas.{Integers.{int_le-false, int_le-from, int_le-is, int_lt-from, not_below}}
use Rattle.tte_units.proofs.general_lemmas.{Lists.{after_one, filter_off, filter_on, last_pushed}}
use Rattle.tte_units.proofs.general_lemmas.{Naturals.{eqb_same, goes_on}}
use Rattle.run_law.specs.declared.note.NoteBody.TheVariants as notes

-- ---- more correction points have come where a clock shows more

-- a number that is not negative
whole : (z : ℤ) → pos 0 ≤ℤ z → (n : ℕ) × (z ≡ pos n)
whole (pos n) le = (n, refl)
whole (negsuc n) le = absurd (omega (arith, ints, le))

quotients : (a b n : ℕ) → 0 < n → a ≤ b → a / n ≤ b / n
quotients a b n some le = le-div (a / n) b n some (omega (arith, div-mul-le_self a n, le))

-- the quotient does not fall
quotient_on : (a b c : ℤ) → pos 0 <ℤ c → pos 0 ≤ℤ a → a ≤ℤ b → natural (int_div_euclid a c) ≤ natural (int_div_euclid b c)
quotient_on a b c some low le = grind (arith, whole, ints, quotients)

come_on : (p q r : Bool) (m n : ℕ) → (q ≡ true → r ≡ true) → (q ≡ true → m ≤ n) → (if p && q then m + 1 else 0) ≤ (if p && r then n + 1 else 0)
come_on false q r m n more le = omega arith
come_on true false r m n more le = omega arith
come_on true true true m n more le = omega (arith, le refl)
come_on true true false m n more le = absurd (cc (more refl))

points_on : {network : Network} (cycle : ℕ) (at_change a b : ℤ) → IsInRange network → a ≤ℤ b
    → points_from network cycle at_change a ≤ points_from network cycle at_change b
points_on {network} cycle at_change a b range le =
    let first : ℤ = correction_value network cycle in
    come_on (int_lt at_change first) (int_le first a) (int_le first b) (natural (int_div_euclid (a -ℤ first) network.cycle.0))
    (natural (int_div_euclid (b -ℤ first) network.cycle.0)) (λ e. int_le-from first b (omega (arith, ints, int_le-is first a e, le)))
    (λ e. quotient_on (a -ℤ first) (b -ℤ first) network.cycle.0 (omega (arith, ints, range.cycle.least)) (omega (arith, ints, int_le-is first a e))
    (omega (arith, ints, le)))

pub points_mono : {network : Network} (shown : Shown) (a b : ℕ) → IsInRange network → a ≤ b
    → points_by network shown a ≤ points_by network shown b
points_mono shown a b range le =
    points_on shown.cycle shown.at_change (pos a +ℤ shown.adjustment) (pos b +ℤ shown.adjustment) range
    (omega (arith, ints, le))

-- ---- how the count is found

counted : (p q : Bool) (n m : ℕ) → p ≡ true → q ≡ true → n ≡ m → n + 1 ≡ (if p && q then m + 1 else 0)
counted true true n m a b e = ap (λ k. k + 1) e
counted true false n m a b e = absurd cc
counted false q n m a b e = absurd cc

not_counted : (p q : Bool) (m : ℕ) → (p && q) ≡ false → 0 ≡ (if p && q then m + 1 else 0)
not_counted p q m e = sym (ap (λ (b : Bool). if b then m + 1 else 0) e)

module _ (network : Network) (shown : Shown) (before : ℕ) (first : ℤ) where
  -- where the clock was below the first correction point's value, and is not now
  pub then_comes : (n r : ℕ) → first ≡ correction_value network shown.cycle → shown.at_change <ℤ first
      → first ≤ℤ (pos before +ℤ shown.adjustment) → pos n ≡ ((pos before +ℤ shown.adjustment) -ℤ first)
      → r ≡ natural (int_div_euclid (pos n) network.cycle.0) → r + 1 ≡ points_by network shown before
  then_comes n r is below reached apart value = grind (arith, counted, int_lt-from, int_le-from)

  -- where it has passed that value at the change
  pub has_passed : first ≡ correction_value network shown.cycle → first ≤ℤ shown.at_change
      → 0 ≡ points_by network shown before
  has_passed is passed = grind (arith, not_below, not_counted)

  -- where it has not come to it
  pub not_come : first ≡ correction_value network shown.cycle → (pos before +ℤ shown.adjustment) <ℤ first
      → 0 ≡ points_by network shown before
  not_come is below =
      let v : ℤ = correction_value network shown.cycle in
      let local : ℤ = pos before +ℤ shown.adjustment in
      let no = subst (λ (z : ℤ). int_le z local ≡ false) is (int_le-false first local below) in
      not_counted (int_lt shown.at_change v) (int_le v local) (natural (int_div_euclid (local -ℤ v) network.cycle.0))
      (ap (λ (b : Bool). int_lt shown.at_change v && b) no ∙ none_shorter (int_lt shown.at_change v))

-- ---- what tests tell

pub le_denied : (a b : ℤ) → int_le a b ≡ false → b <ℤ a
le_denied a b e = grind (arith, ints)

-- ---- what the records show of a device, with one more record

-- the records, and one more
abbrev pub with_one : List Happening → Happening → List Happening
with_one hs h = hs ++ h ∷ []

-- what the record tells, where its effect is this
abbrev pub TellsAs : Scenario → DeviceId → Happening → Effect → Type 0
TellsAs s device h e =
    Tells s device (cycle_in h) (λ old. state_with device old h.note.body) (λ old. adjustment_with s device (cycle_in h) old h.note.body)
    (λ next. cycle_after device next h h.note.body) (is_joined_by device h.note.body) (changes_adjustment device h.note.body)
    (hearing_by s.network device h h.note.body) e

pub told : (s : Scenario) (device : DeviceId) (h : Happening) (e : Effect) → effect_of s.network device h ≡ e → TellsAs s device h e
told s device h e is = subst (TellsAs s device h) is (tells s device h h.note.body)

-- ---- one more record, by what it tells

module _ {s : Scenario} (hs : List Happening) {device : DeviceId} (h : Happening) {e : Effect}
    (t : TellsAs s device h e) where
  pub state_on : state_by (state_after s hs device) e ≡ state_after s (with_one hs h) device
  state_on = sym (t.state_is (state_after s hs device)) ∙ sym (fold-append _ _ hs (h ∷ []))

  pub adjustment_on : adjustment_by s device (adjustment_after s hs device) e
      ≡ adjustment_after s (with_one hs h) device
  adjustment_on = sym (t.adjustment_is (adjustment_after s hs device)) ∙ sym (fold-append _ _ hs (h ∷ []))

  pub cycle_on : cycle_by (recorded_cycle hs device) e ≡ recorded_cycle (with_one hs h) device
  cycle_on = sym (t.cycle_is (recorded_cycle hs device)) ∙ sym (fold-append _ _ hs (h ∷ []))

  pub integrated_on : (if joins_by e then Some (cycle_in h) else integration_cycle hs device)
      ≡ integration_cycle (with_one hs h) device
  integrated_on =
      ap (λ (b : Bool). if b then Some (cycle_in h) else integration_cycle hs device) (sym t.joins_is) ∙ sym
      (fold-append _ _ hs (h ∷ []))

  pub joined_on : (if joins_by e then Some (time_of h) else last_joining hs device)
      ≡ last_joining (with_one hs h) device
  joined_on = ap (λ (b : Bool). if b then Some (time_of h) else last_joining hs device) (sym t.joins_is) ∙ sym
      (fold-append _ _ hs (h ∷ []))

changed_at_once : (hs : List Happening) (device : DeviceId) (h : Happening) → changes_adjustment device h.note.body ≡ true
    → time_of h ≡ last_change (with_one hs h) device
changed_at_once hs device h is = grind (arith, changes_adjustment, option_map_or, time_of, last_or, filter_on, last_pushed, filter)

pub unchanged : (hs : List Happening) (device : DeviceId) (h : Happening) → changes_adjustment device h.note.body ≡ false
    → last_change hs device ≡ last_change (with_one hs h) device
unchanged hs device h is =
    let test : Happening → Bool = λ x. changes_adjustment device x.note.body in
    sym (ap (λ (xs : List Happening). option_map_or time_of (last_or None xs) 0) (filter_off test hs h is))

-- what is heard where a record of no change is added
abbrev pub kept_where : Scenario → DeviceId → Shown → ℕ → Happening → Bool
kept_where s device shown points h = points == points_by s.network shown (s.reading device (time_of h - 1))

pub heard_on : (s : Scenario) (hs : List Happening) (device : DeviceId) (h : Happening) (shown : Shown) (points : ℕ)
    → changes_adjustment device h.note.body ≡ false → heard_at s (with_one hs h) device shown points
    ≡ heard_at s hs device shown points
    ++ filter_map (λ x. hearing_by s.network device x x.note.body) (if kept_where s device shown points h then h ∷ [] else [])
heard_on s hs device h shown points same = grind (arith, changes_adjustment, hearing_by, after_more, filter_map, filter, filter-append, filter_map-append)

module _ (s : Scenario) (hs : List Happening) (device : DeviceId) (h : Happening) (shown : Shown) (points : ℕ) where
  -- nothing more is heard by a record that tells nothing heard
  heard_same : changes_adjustment device h.note.body ≡ false → hearing_by s.network device h h.note.body ≡ None
      → heard_at s (with_one hs h) device shown points ≡ heard_at s hs device shown points
  heard_same same none = grind (arith, hearing_by, heard_on, heard_at, append-nil, filter_map, cons_option)

  -- nothing is heard since a change
  heard_none : changes_adjustment device h.note.body ≡ true → heard_at s (with_one hs h) device shown points ≡ []
  heard_none is = grind (arith, changes_adjustment, hearing_by, filter_map, filter, after_one)

module _ {s : Scenario} (hs : List Happening) {device : DeviceId} (h : Happening) {e : Effect} (t : ℕ)
    (told : TellsAs s device h e) where
  has_joined_on : has_joined_at (with_one hs h) device t
      ≡ (has_joined_at hs device t || (time_of h == t && joins_by e))
  has_joined_on = grind (arith, list_any-append, time_of, is_joined_by)

  -- no frame tells it the time at this time by a record that tells it of none
  pub not_joined : joins_by e ≡ false → has_joined_at (with_one hs h) device t ≡ has_joined_at hs device t
  not_joined none =
      has_joined_on
      ∙ ap (λ (b : Bool). has_joined_at hs device t || (time_of h == t && b)) none
      ∙ none_more (has_joined_at hs device t) (time_of h == t)

none_earlier : (hs : List Happening) (device : DeviceId) (t : ℕ) → ((x : Happening) → IsIn x hs → time_of x < t) → has_joined_at hs device t ≡ false
none_earlier [] device t each = refl
none_earlier (x ∷ hs) device t each = grind (arith, is_joined_by, ne_eqb, time_of, (none_earlier hs device t (λ y i. each y (inr i))))

-- at the time of a record by which one does, it is that of the last that does
joined_last : {s : Scenario} (hs : List Happening) {device : DeviceId} (h : Happening) {e : Effect} (t : ℕ)
    → TellsAs s device h e → joins_by e ≡ true → NoneLater (time_of h) hs → time_of h ≤ t
    → has_joined_at (with_one hs h) device t ≡ (time_of h == t)
joined_last hs {device} h t told joins late le =
    has_joined_on hs h t told
    ∙ ap (λ (b : Bool). has_joined_at hs device t || (time_of h == t && b)) joins
    ∙ elim (cases_lt (time_of h) t) [
      | inl lt ↦
          ap (λ (b : Bool). b || (time_of h == t && true)) (none_earlier hs device t (λ x i. omega (arith, lt, late x i)))
          ∙ whole (time_of h == t)
      | inr ge ↦
          let here : (time_of h == t) ≡ true = eq-eqb (time_of h) t (omega (arith, le, ge)) in
          ap (λ (b : Bool). has_joined_at hs device t || (b && true)) here ∙ always (has_joined_at hs device t) ∙ sym here
    ]
  where
    whole : (b : Bool) → (b && true) ≡ b
    whole true = refl
    whole false = refl

    always : (b : Bool) → (b || true) ≡ true
    always true = refl
    always false = refl

module _ (t : ℕ) (hs : List Happening) (h : Happening) (later : NoneLater t (with_one hs h)) where
  pub front_later : NoneLater t hs
  front_later x i = later x (in_left x hs (h ∷ []) i)

  pub one_later : time_of h ≤ t
  one_later = later h (in_right h hs (h ∷ []) (inl refl))

-- ---- the steps

module _ (s : Scenario) (hs : List Happening) (device : DeviceId) (h : Happening) (shown : Shown) where
  -- a record that shows nothing, or a state, of the device
  pub turned : (state : State) → effect_of s.network device h ≡ Turns state → Shows s hs device shown
      → Shows s (hs ++ h ∷ []) device (record shown { state = state })
  turned state is sh =
      let t = told s device h (Turns state) is in
      record {
        state = state_on hs h t;
        adjustment = sh.adjustment ∙ ap (λ (u : Units). u.0) (adjustment_on hs h t);
        cycle = sh.cycle ∙ cycle_on hs h t;
        integrated = sh.integrated ∙ integrated_on hs h t;
        changed = sh.changed ∙ unchanged hs device h t.changes_is;
        at_change = sh.at_change ∙ ap (λ (c : ℕ). pos (s.reading device c) +ℤ shown.adjustment)
            (unchanged hs device h t.changes_is);
        joined = sh.joined ∙ joined_on hs h t;
        joined_at = λ u later. not_joined hs h u t refl ∙ sh.joined_at u (front_later u hs h later);
        heard = subst (Summarizes shown.heard) (sym (heard_same s hs device h shown shown.come t.changes_is
            t.hears_is)) sh.heard;
        no_more = λ points more. heard_same s hs device h shown points t.changes_is t.hears_is ∙ sh.no_more points more;
        come = λ u later. sh.come u (front_later u hs h later);
      }

  pub quiet : effect_of s.network device h ≡ Nothing → Shows s hs device shown → Shows s (hs ++ h ∷ []) device shown
  quiet is sh =
      let t = told s device h Nothing is in
      record {
        state = sh.state ∙ state_on hs h t;
        adjustment = sh.adjustment ∙ ap (λ (u : Units). u.0) (adjustment_on hs h t);
        cycle = sh.cycle ∙ cycle_on hs h t;
        integrated = sh.integrated ∙ integrated_on hs h t;
        changed = sh.changed ∙ unchanged hs device h t.changes_is;
        at_change = sh.at_change ∙ ap (λ (c : ℕ). pos (s.reading device c) +ℤ shown.adjustment)
            (unchanged hs device h t.changes_is);
        joined = sh.joined ∙ joined_on hs h t;
        joined_at = λ u later. not_joined hs h u t refl ∙ sh.joined_at u (front_later u hs h later);
        heard = subst (Summarizes shown.heard) (sym (heard_same s hs device h shown shown.come t.changes_is
            t.hears_is)) sh.heard;
        no_more = λ points more. heard_same s hs device h shown points t.changes_is t.hears_is ∙ sh.no_more points more;
        come = λ u later. sh.come u (front_later u hs h later);
      }

  pub corrected : (cycle : ℕ) (adjustment : Units) (t reading : ℕ)
      → effect_of s.network device h ≡ Corrects cycle adjustment → t ≡ time_of h
      → reading ≡ s.reading device (time_of h) → Summarizes silence [] → Shows s hs device shown
      → Shows s (hs ++ h ∷ []) device (changed_to shown adjustment.0 (cycle + 1) t reading)
  corrected cycle adjustment time reading is at reads none sh =
      let t = told s device h (Corrects cycle adjustment) is in
      let new = changed_to shown adjustment.0 (cycle + 1) time reading in
      let last = changed_at_once hs device h t.changes_is in
      record {
        state = sh.state ∙ state_on hs h t;
        adjustment = ap (λ (u : Units). u.0) (adjustment_on hs h t);
        cycle = cycle_on hs h t;
        integrated = sh.integrated ∙ integrated_on hs h t;
        changed = at ∙ last;
        at_change = ap (λ r. pos r +ℤ adjustment.0) (reads ∙ ap (s.reading device) last);
        joined = sh.joined ∙ joined_on hs h t;
        joined_at = λ u later.
            not_joined hs h u t refl ∙ sh.joined_at u (front_later u hs h later);
        heard = subst (Summarizes silence) (sym (heard_none s hs device h new 0 t.changes_is)) none;
        no_more = λ points more. heard_none s hs device h new points t.changes_is;
        come = λ u later. omega arith;
      }

  pub joined : (cycle own : ℕ) (point : Units) (t reading : ℕ) → effect_of s.network device h ≡ Joins cycle own point
      → NoneLater (time_of h) hs → t ≡ time_of h → reading ≡ s.reading device (time_of h) → Summarizes silence []
      → Shows s hs device shown → Shows s (hs ++ h ∷ []) device
      (joined_to shown (joined_adjustment s device own point).0 cycle t reading)
  joined cycle own point time reading is late at reads none sh =
      let e : Effect = Joins cycle own point in
      let t = told s device h e is in
      let adjustment : ℤ = (joined_adjustment s device own point).0 in
      let new = joined_to shown adjustment cycle time reading in
      let last = changed_at_once hs device h t.changes_is in
      record {
        state = state_on hs h t;
        adjustment = ap (λ (u : Units). u.0) (adjustment_on hs h t);
        cycle = cycle_on hs h t;
        integrated = ap (λ (n : ℕ). Some n) t.frame_is ∙ integrated_on hs h t;
        changed = at ∙ last;
        at_change = ap (λ r. pos r +ℤ adjustment) (reads ∙ ap (s.reading device) last);
        joined = ap (λ (n : ℕ). Some n) at ∙ joined_on hs h t;
        joined_at = λ u later.
            joined_last hs h u t refl late (one_later u hs h later) ∙ ap (λ (n : ℕ). n == u) (sym at);
        heard = subst (Summarizes silence) (sym (heard_none s hs device h new 0 t.changes_is)) none;
        no_more = λ points more. heard_none s hs device h new points t.changes_is;
        come = λ u later. omega arith;
      }

-- ---- what is shown with one more record by which the device hears a frame

module _ (s : Scenario) (hs : List Happening) (device : DeviceId) (h : Happening) (shown : Shown) (hearing : Hearing)
    (points : ℕ) where
  -- it is heard where so many points have come
  heard_there : TellsAs s device h (Hears hearing.channel hearing.frame hearing.within)
      → points ≡ points_by s.network shown (s.reading device (time_of h - 1))
      → heard_at s (hs ++ h ∷ []) device shown points ≡ heard_at s hs device shown points ++ hearing ∷ []
  heard_there t is = grind (arith, hearing_by, kept_where, eqb_same, heard_on, heard_at, filter_map, cons_option)

  -- and nowhere else
  heard_else : (more : ℕ) → TellsAs s device h (Hears hearing.channel hearing.frame hearing.within)
      → points ≡ points_by s.network shown (s.reading device (time_of h - 1)) → points < more
      → heard_at s (hs ++ h ∷ []) device shown more ≡ heard_at s hs device shown more
  heard_else more t is lt = grind (arith, hearing_by, kept_where, goes_on, heard_on, heard_at, filter_map, append-nil)

-- what is kept of what was heard where so many points had come
pub kept_then : {s : Scenario} {hs : List Happening} {device : DeviceId} {shown : Shown} (points : ℕ)
    → Shows s hs device shown → shown.come ≤ points → Summarizes silence []
    → Summarizes (heard_by_then shown points) (heard_at s hs device shown points)
kept_then {s} {hs} {device} {shown} points sh from none =
    elim (cases_lt shown.come points) [
      | inl lt ↦
          subst (λ (b : Bool). Summarizes (if b then shown.heard else silence) (heard_at s hs device shown points)) (sym (goes_on points shown.come lt))
          (subst (Summarizes silence) (sym (sh.no_more points lt)) none)
      | inr ge ↦
          let e : shown.come ≡ points = omega (arith, from, ge) in
          subst (λ n. Summarizes (if n == shown.come then shown.heard else silence) (heard_at s hs device shown n)) e
          (subst (λ (b : Bool). Summarizes (if b then shown.heard else silence) (heard_at s hs device shown shown.come)) (sym (eqb_same shown.come)) sh.heard)
    ]

-- what is shown of a device that has heard one more frame
abbrev pub heard_to : Shown → ℕ → Summary → Shown
heard_to shown points heard = record shown { heard = heard; come = points }

pub heard_one : {s : Scenario} {hs : List Happening} {device : DeviceId} (h : Happening) {shown : Shown}
    (hearing : Hearing) (points : ℕ) (heard : Summary) → effect_of s.network device h
    ≡ Hears hearing.channel hearing.frame hearing.within
    → points ≡ points_by s.network shown (s.reading device (time_of h - 1)) → IsInRange s.network → IsSteady s device
    → NoneLater (time_of h) hs → Summarizes silence [] →
    ((before : List Hearing) → Summarizes (heard_by_then shown points) before
    → Summarizes heard (before ++ hearing ∷ [])) → Shows s hs device shown
    → Shows s (hs ++ h ∷ []) device (heard_to shown points heard)
heard_one {s} {hs} {device} h {shown} hearing points heard is number range steady late none hears sh =
    let e : Effect = Hears hearing.channel hearing.frame hearing.within in
    let t = told s device h e is in
    let from : shown.come ≤ points = omega (arith, sh.come (time_of h) late, number) in
    let before = kept_then points sh from none in
    record {
      state = sh.state ∙ state_on hs h t;
      adjustment = sh.adjustment ∙ ap (λ (u : Units). u.0) (adjustment_on hs h t);
      cycle = sh.cycle ∙ cycle_on hs h t;
      integrated = sh.integrated ∙ integrated_on hs h t;
      changed = sh.changed ∙ unchanged hs device h t.changes_is;
      at_change = sh.at_change ∙ ap (λ (c : ℕ). pos (s.reading device c) +ℤ shown.adjustment) (unchanged hs device h t.changes_is);
      joined = sh.joined ∙ joined_on hs h t;
      joined_at = λ u later. not_joined hs h u t refl ∙ sh.joined_at u (front_later u hs h later);
      heard =
          subst (Summarizes heard) (sym (heard_there s hs device h shown hearing points t number))
          (hears (heard_at s hs device shown points) before);
      no_more = λ more lt. heard_else s hs device h shown hearing points more t number lt ∙ sh.no_more more (omega (arith, from, lt));
      come = λ u later.
          let after = one_later u hs h later in
          omega (
            arith,
            number,
            points_mono shown (s.reading device (time_of h - 1)) (s.reading device (u - 1)) range
                (steady.never_falls (time_of h - 1) (u - 1) (omega (arith, after))),
          );
    }

-- ---- what is read of what is shown: the correction points that have come, and what was heard since the last

-- the records show this of the device's adjustment and of its correction points
pub record ShowsPoints (s : Scenario) (es : List Happening) (device : DeviceId) (shown : Shown) : Type 0 where
  pub adjustment : shown.adjustment ≡ (adjustment_after s es device).0
  pub cycle : shown.cycle ≡ recorded_cycle es device
  pub at_change : shown.at_change ≡ (pos (s.reading device (last_change es device)) +ℤ shown.adjustment)

module _ (s : Scenario) (hs : List Happening) (device : DeviceId) (shown : Shown) where
  -- so many correction points have come
  pub points_are : (t by : ℕ) → ShowsPoints s (earlier t hs) device shown
      → points_come s hs device t by ≡ points_by s.network shown (s.reading device (by - 1))
  points_are t by is = grind arith

  pub points_shown : Shows s hs device shown → ShowsPoints s hs device shown
  points_shown sh = record { adjustment = sh.adjustment; cycle = sh.cycle; at_change = sh.at_change }

-- ---- records that change nothing count for nothing

fold_by : {X B : Type 0} (f : B → X → B) (p : X → Bool) (a : B) (x : X) (xs : List X) → (b : Bool)
    → ((c : B) → fold f c (filter p xs) ≡ fold f c xs) → (b ≡ false → f a x ≡ a) → fold f a (if b then x ∷ filter p xs else filter p xs) ≡ fold f a (x ∷ xs)
fold_by f p a x xs true more still = more (f a x)
fold_by {X} {B} f p a x xs false more still = more a ∙ ap (λ (c : B). fold f c xs) (sym (still refl))

fold_through : {X B : Type 0} (f : B → X → B) (p : X → Bool) (a : B) (xs : List X) → ((x : X) → IsIn x xs → p x ≡ false → (b : B) → f b x ≡ b)
    → fold f a (filter p xs) ≡ fold f a xs
fold_through f p a [] still = refl
fold_through f p a (x ∷ xs) still = fold_by f p a x xs (p x) (λ c. fold_through f p c xs (λ y i. still y (inr i))) (λ e. still x (inl refl) e a)

filter_by : {X : Type 0} (q p : X → Bool) (x : X) (xs : List X) → (b : Bool) → filter q (filter p xs) ≡ filter q xs → (b ≡ false → q x ≡ false)
    → filter q (if b then x ∷ filter p xs else filter p xs) ≡ filter q (x ∷ xs)
filter_by {X} q p x xs true more still = ap (λ (ys : List X). if q x then x ∷ ys else ys) more
filter_by {X} q p x xs false more still = more ∙ ap (λ (b : Bool). if b then x ∷ filter q xs else filter q xs) (sym (still refl))

filter_through : {X : Type 0} (q p : X → Bool) (xs : List X) → ((x : X) → IsIn x xs → p x ≡ false → q x ≡ false) → filter q (filter p xs) ≡ filter q xs
filter_through q p [] still = refl
filter_through q p (x ∷ xs) still = filter_by q p x xs (p x) (filter_through q p xs (λ y i. still y (inr i))) (still x (inl refl))

cycle_still : (e : Effect) (next : ℕ) → changes_by e ≡ false → cycle_by next e ≡ next
cycle_still Nothing next same = refl
cycle_still (Joins cycle own point) next same = absurd cc
cycle_still (Hears channel frame within) next same = refl
cycle_still (Corrects cycle adjustment) next same = absurd cc
cycle_still (Turns state) next same = refl

adjustment_still : (s : Scenario) (device : DeviceId) (e : Effect) (old : Units) → changes_by e ≡ false → adjustment_by s device old e ≡ old
adjustment_still s device Nothing old same = refl
adjustment_still s device (Joins cycle own point) old same = absurd cc
adjustment_still s device (Hears channel frame within) old same = refl
adjustment_still s device (Corrects cycle adjustment) old same = absurd cc
adjustment_still s device (Turns state) old same = refl

-- a record that is not earlier changes nothing
still_then : {hs : List Happening} {device : DeviceId} {t : ℕ} → IsAfter hs device t → (h : Happening) → IsIn h hs
    → nat_lt (time_of h) t ≡ false → changes_adjustment device h.note.body ≡ false
still_then {t} after h i late = after.unchanged h i (omega (arith, ltb-false (time_of h) t late, after.none_later h i))

pub points_earlier : {s : Scenario} {hs : List Happening} {device : DeviceId} {shown : Shown} {t : ℕ}
    → IsAfter hs device t → Shows s hs device shown → ShowsPoints s (earlier t hs) device shown
points_earlier after sh =
    grind (
      arith,
      nat_lt,
      time_of,
      filter_through,
      changes_adjustment,
      still_then,
      option_map_or,
      last_or,
      fold_through,
      tells,
      adjustment_still,
      effect_of,
      cycle_still,
    )

since_same : {hs : List Happening} {device : DeviceId} {t : ℕ} → IsAfter hs device t → (h : Happening) → IsIn h hs
    → (nat_lt (time_of h) t && changes_adjustment device h.note.body) ≡ changes_adjustment device h.note.body
since_same after h i = grind (arith, nat_lt, time_of, changes_adjustment, still_then)

module _ (s : Scenario) (hs : List Happening) (device : DeviceId) (shown : Shown) (t : ℕ) where
  -- what was heard since the last correction point is what was heard where so many have come
  pub heard_are : IsAfter hs device t → Shows s hs device shown
      → heard_since_point s hs device t ≡ heard_at s hs device shown
      (points_by s.network shown (s.reading device (t - 1)))
  heard_are after sh =
      grind (arith, points_earlier, hearing_by, changes_adjustment, points_by, filter_map, filter, time_of, after_same, nat_lt, since_same, same_kept, points_are)

  pub heard_since_is : IsAfter hs device t → Shows s hs device shown
      → Summarizes (heard_by_then shown (points_by s.network shown (s.reading device (t - 1))))
      (heard_since_point s hs device t)
  heard_since_is after sh =
      let points = points_by s.network shown (s.reading device (t - 1)) in
      subst (Summarizes (heard_by_then shown points)) (sym (heard_are after sh))
      (kept_then points sh (sh.come t after.none_later) silence_summarizes)

  pub number_is : Shows s (earlier t hs) device shown → shown.cycle + points_by s.network shown
      (s.reading device (t - 1)) ≡ next_number s hs device t
  number_is sh = grind (arith, points_by, points_are, points_shown)

  -- ---- when a frame is heard

  -- the adjustment at a hearing is that after these records, where only frames that told the time changed it at the time
  pub hearing_adjustment : NoneLater t hs → ((h : Happening) → IsIn h hs → time_of h ≡ t
      → is_joined_by device h.note.body ≡ changes_adjustment device h.note.body) → Shows s hs device shown
      → shown.adjustment ≡ (adjustment_at_hearing s hs device t).0
  hearing_adjustment late only sh =
      let test : Happening → Bool = λ h. nat_lt (time_of h) t || is_joined_by device h.note.body in
      sh.adjustment
      ∙ ap (λ (u : Units). u.0)
      (sym (fold_through _ test _ hs
      (λ h i fails old.
      let parts = neither (nat_lt (time_of h) t) (is_joined_by device h.note.body) fails in
      let t' = tells s device h h.note.body in
      let same : changes_adjustment device h.note.body ≡ false =
      sym (only h i (omega (arith, ltb-false (time_of h) t parts.0, late h i))) ∙ parts.1 in
      t'.adjustment_is old ∙ adjustment_still s device (effect_of s.network device h) old (sym t'.changes_is ∙ same))))
    where
      neither : (a b : Bool) → (a || b) ≡ false → (a ≡ false) × (b ≡ false)
      neither true b e = absurd cc
      neither false b e = (refl, e)

-- ---- lists whose elements that pass a test are the first

pub in_index : {X : Type 0} (xs : List X) (i : ℕ) (d : X) → i < length xs → IsIn (get_or xs i d) xs
in_index [] i d lt = absurd (omega (arith, lt))
in_index (x ∷ xs) zero d lt = inl refl
in_index (x ∷ xs) (suc i) d lt = inr (in_index xs i d (omega (arith, lt)))

-- the elements up to such a point are those that pass
front_kept : {X : Type 0} (p : X → Bool) (xs : List X) (i : ℕ) → i ≤ length xs → ((k : ℕ) (d : X) → 0 ≤ k → k < i → p (get_or xs k d) ≡ true)
    → ((k : ℕ) (d : X) → i ≤ k → k < length xs → p (get_or xs k d) ≡ false) → filter p xs ≡ take i xs
front_kept p [] zero le here there = refl
front_kept p [] (suc i) le here there = absurd (omega (arith, le))
front_kept {X} p (x ∷ xs) zero le here there =
    ap (λ (b : Bool). if b then x ∷ filter p xs else filter p xs) (there zero x (omega arith) (omega arith))
    ∙ front_kept p xs zero (omega arith) (λ k d a b. absurd (omega (arith, b))) (λ k d a b. there (suc k) d (omega arith) (omega (arith, b)))
front_kept {X} p (x ∷ xs) (suc i) le here there =
    ap (λ (b : Bool). if b then x ∷ filter p xs else filter p xs) (here zero x (omega arith) (omega arith))
    ∙ ap (λ (t : List X). x ∷ t)
    (front_kept p xs i (omega (arith, le)) (λ k d a b. here (suc k) d (omega arith) (omega (arith, b))) (λ k d a b.
    there (suc k) d (omega (arith, a)) (omega (arith, b))))

pub kept_front : {X : Type 0} (p : X → Bool) (xs : List X) (i : ℕ) → i ≤ length xs
    → IsPartitionPoint (λ x. p x ≡ true) (λ x. p x ≡ false) xs i → filter p xs ≡ take i xs
kept_front p xs i le parts = front_kept p xs i le parts.0 parts.1

-- one more element, before which all pass where it passes
pub parted_on : {X : Type 0} (p : X → Bool) (xs : List X) (x : X) → IsPartitionedBy p xs → (p x ≡ true → (y : X) → IsIn y xs → p y ≡ true)
    → IsPartitionedBy p (xs ++ x ∷ [])
parted_on {X} p xs x old all i j d le lt passes =
    let long = length-append xs (x ∷ []) in
    elim (cases_lt j (length xs)) [
      | inl inside ↦
          let at_j = get_or-append xs (x ∷ []) d j inside in
          let at_i = get_or-append xs (x ∷ []) d i (omega (arith, le, inside)) in
          ap p at_i ∙ old i j d le inside (sym (ap p at_j) ∙ passes)
      | inr past ↦
          let last : j ≡ length xs = omega (arith, past, lt, long) in
          let at_last = get_or-append_seam xs x [] d in
          let is : p x ≡ true = sym (ap p at_last) ∙ ap (λ (k : ℕ). p (get_or (xs ++ x ∷ []) k d)) (sym last) ∙ passes in
          elim (cases_lt i (length xs)) [
            | inl inside ↦ ap p (get_or-append xs (x ∷ []) d i inside) ∙ all is (get_or xs i d) (in_index xs i d inside)
            | inr beyond ↦
                let same : i ≡ j = omega (arith, le, beyond, last) in
                ap (λ (k : ℕ). p (get_or (xs ++ x ∷ []) k d)) same ∙ passes
          ]
    ]

either : (b : Bool) → (b ≡ true) ⊎ (b ≡ false)
either true = inl refl
either false = inr refl

-- the last element, where it passes, is the last of those that pass
pub last_kept : {X : Type 0} (p : X → Bool) (xs : List X) (o q : Option X) (e : X) → (o ≡ Some e → q ≡ Some e) → p e ≡ true → last_or o xs ≡ Some e
    → last_or q (filter p xs) ≡ Some e
last_kept p [] o q e from passes last = from last
last_kept {X} p (x ∷ xs) o q e from passes last = elim (either (p x)) [
  | inl passed ↦
      subst (λ (b : Bool). last_or q (if b then x ∷ filter p xs else filter p xs) ≡ Some e) (sym passed)
      (last_kept p xs (Some x) (Some x) e (λ same. same) passes last)
  | inr failed ↦
      subst (λ (b : Bool). last_or q (if b then x ∷ filter p xs else filter p xs) ≡ Some e) (sym failed)
      (last_kept p xs (Some x) q e (λ same. absurd cc) passes last)
]

-- ---- what is kept goes on by one more record: the test of places

pub test_chain : (p q r : List ℕ) → is_before p q ≡ true → is_before q r ≡ true → is_before p r ≡ true
test_chain p q r a b = before_is p r (chain p q r (is_there p q a) (is_there q r b))

not_later : (t u r q : ℕ) (ks ls : List ℕ) → IsBefore (u ∷ r ∷ ks) (t ∷ q ∷ ls) → u ≤ t
not_later t u r q ks ls (inl lt) = omega (arith, lt)
not_later t u r q ks ls (inr b) = omega (arith, b.0)

pub none_later : (hs : List Happening) (h : Happening) → AllBefore place_of hs (place_of h) → NoneLater (time_of h) hs
none_later hs h all x i =
    not_later (time_of h) (time_of x) (rank x.note.body) (rank h.note.body) (key (members_in x) x.note.body) (key (members_in h) h.note.body) (all x i)

-- ---- what a record shows nothing of

apart : (d other : DeviceId) (x : Effect) → (Some other ≡ Some d → ⊥) → (if d.0 == other.0 then x else Nothing) ≡ Nothing
apart d other x not =
    let mk : ℕ → Option DeviceId = λ n. Some (record { 0 = n }) in
    ap (λ (b : Bool). if b then x else Nothing) (ne_eqb d.0 other.0 (λ e. not (sym (ap mk e))))

pub nothing_of : (network : Network) (d : DeviceId) (carried : Carried) (body : NoteBody) → (subject_of body ≡ Some d → ⊥)
    → effect_by network d carried body ≡ Nothing
nothing_of network d carried (notes.Permanent other link cause point verdict) not = apart d other _ not
nothing_of network d carried (notes.Compressed other opened at cycle members verdict) not = apart d other _ not
nothing_of network d carried (notes.Corrected other cycle by adjustment) not = apart d other _ not
nothing_of network d carried (notes.State other state cause why) not = apart d other _ not
nothing_of network d carried body not = refl

-- a device that the record shows nothing of
pub kept_still : {s : Scenario} {hs : List Happening} {d : DeviceId} (h : Happening) {history : History}
    → effect_of s.network d h ≡ Nothing → Keeps s hs d history → Keeps s (hs ++ h ∷ []) d history
kept_still {s} {hs} {d} h {history} nothing keeps = record {
  latest = quiet s hs d h (latest_of history) nothing keeps.latest;
  before = λ place. by_place place (keeps.before place) (is_before (place_of h) place) refl;
  places = λ e i. let old = keeps.places e i in record { h = old.h; there = in_left old.h hs (h ∷ []) old.there; place = old.place };
  order = keeps.order;
}
  where
    by_place : (place : List ℕ) → Shows s (records_before place hs) d (shown_before place history) → (b : Bool)
        → is_before (place_of h) place ≡ b → Shows s (records_before place (hs ++ h ∷ [])) d (shown_before place history)
    by_place place old true e =
        subst (λ xs. Shows s xs d (shown_before place history)) (sym (filter_on (λ x. is_before (place_of x) place) hs h e))
        (quiet s (records_before place hs) d h (shown_before place history) nothing old)
    by_place place old false e =
        subst (λ xs. Shows s xs d (shown_before place history)) (sym (filter_off (λ x. is_before (place_of x) place) hs h e)) old

-- ---- a device that it shows something of

abbrev entry_of : Happening → Shown → Entry
entry_of h shown = record { place = place_of h; shown = shown }

pub kept_on : {s : Scenario} {hs : List Happening} {d : DeviceId} (h : Happening) {old : History} (new : History)
    {shown : Shown} → AllBefore place_of hs (place_of h) → new.first ≡ old.first
    → new.entries.items ≡ old.entries.items ++ record { place = place_of h; shown = shown } ∷ []
    → Shows s (hs ++ h ∷ []) d shown → Keeps s hs d old → Keeps s (hs ++ h ∷ []) d new
kept_on {s} {hs} {d} h {old} new {shown} all first items shows keeps = record {
  latest = subst (Shows s (hs ++ h ∷ []) d) (sym (ap (last_shown new.first) items ∙ newest (old.entries.items))) shows;
  before = λ place. by_place place (is_before (place_of h) place) refl;
  places = λ e i. by_entry e (in_parts e old.entries.items (entry_of h shown ∷ []) (subst (IsIn e) items i));
  order = λ place.
      let test : Entry → Bool = λ e. is_before e.place place in
      subst (IsPartitionedBy test) (sym items) (parted_on test old.entries.items (entry_of h shown) (keeps.order place) (ordered place));
}
  where
    newest : (es : List Entry) → last_shown new.first (es ++ entry_of h shown ∷ []) ≡ shown
    newest es = ap (λ (o : Option Entry). option_map_or (λ (e : Entry). e.shown) o new.first) (last_pushed None es (entry_of h shown))

    by_place : (place : List ℕ) → (b : Bool) → is_before (place_of h) place ≡ b → Shows s (records_before place (hs ++ h ∷ [])) d (shown_before place new)
    by_place place true e =
        let test : Entry → Bool = λ x. is_before x.place place in
        let records : Happening → Bool = λ x. is_before (place_of x) place in
        let whole = filter_on records hs h e
        ∙ ap (λ (xs : List Happening). xs ++ h ∷ []) (all_kept records hs (λ x i.
        test_chain (place_of x) (place_of h) place (before_is (place_of x) (place_of h) (all x i)) e)) in
        let last = ap (λ xs. last_shown new.first (filter test xs)) items
        ∙ ap (last_shown new.first) (filter_on test old.entries.items (entry_of h shown) e)
        ∙ newest (filter test old.entries.items) in
        subst (λ xs. Shows s xs d (shown_before place new)) (sym whole) (subst (Shows s (hs ++ h ∷ []) d) (sym last) shows)
    by_place place false e =
        let test : Entry → Bool = λ x. is_before x.place place in
        let records : Happening → Bool = λ x. is_before (place_of x) place in
        let last = ap (λ xs. last_shown new.first (filter test xs)) items
        ∙ ap (last_shown new.first) (filter_off test old.entries.items (entry_of h shown) e)
        ∙ ap (λ x. last_shown x (filter test old.entries.items)) first in
        subst (λ xs. Shows s xs d (shown_before place new)) (sym (filter_off records hs h e))
        (subst (Shows s (records_before place hs) d) (sym last) (keeps.before place))

    by_entry : (e : Entry) → IsIn e old.entries.items ⊎ IsIn e (entry_of h shown ∷ []) → IsOfRecord (hs ++ h ∷ []) e
    by_entry e (inl there) =
        let r = keeps.places e there in
        record { h = r.h; there = in_left r.h hs (h ∷ []) r.there; place = r.place }
    by_entry e (inr (inl same)) = record { h = h; there = in_right h hs (h ∷ []) (inl refl); place = ap (λ (x : Entry). x.place) same }
    by_entry e (inr (inr none)) = absurd none

    ordered : (place : List ℕ) → is_before (place_of h) place ≡ true → (y : Entry) → IsIn y old.entries.items → is_before y.place place ≡ true
    ordered place passes y i =
        let r = keeps.places y i in
        ap (λ p. is_before p place) r.place
        ∙ test_chain (place_of r.h) (place_of h) place (before_is (place_of r.h) (place_of h) (all r.h r.there)) passes

-- ---- how long the same is shown

-- a place is before all records of a later time than the first exactly where it is of an earlier time
pub by_time : (place : List ℕ) (t : ℕ) → 0 < t → is_before place (t ∷ []) ≡ nat_lt (time_at place) t
by_time [] t lt = sym (lt-ltb 0 t lt)
by_time (x ∷ xs) t lt = no_more (nat_lt x t) (x == t)

-- the entries before a time that is none later than that of the entry behind the point are those up to the point
pub front_at : (items : List Entry) (time point t : ℕ) → ((place : List ℕ) → IsPartitionedBy (λ e. is_before e.place place) items)
    → point ≤ length items → IsPartitionPoint (λ e. nat_le (time_at e.place) time ≡ true) (λ e. nat_le (time_at e.place) time ≡ false) items point
    → time < t → ((e : Entry) → slice_get items point ≡ Some e → t ≤ time_at e.place) → filter (λ e. is_before e.place (t ∷ [])) items ≡ take point items
front_at items time point t order bound parts lt next =
    kept_front (λ e. is_before e.place (t ∷ [])) items point bound (
      λ k d some here.
          let e = get_or items k d in
          let early = leb-true (time_at e.place) time (parts.0 k d some here) in
          by_time e.place t (omega (arith, lt)) ∙ lt-ltb (time_at e.place) t (omega (arith, early, lt)),
      λ k d from there. behind k d from there (is_before (get_or items k d).place (t ∷ [])) refl,
    )
  where
    behind : (k : ℕ) (d : Entry) → point ≤ k → k < length items → (b : Bool) → is_before (get_or items k d).place (t ∷ []) ≡ b
        → is_before (get_or items k d).place (t ∷ []) ≡ false
    behind k d from there false e = e
    behind k d from there true e =
        let passes = order (t ∷ []) point k d from there e in
        let first = get_or items point d in
        let early = ltb-true (time_at first.place) t (sym (by_time first.place t (omega (arith, lt))) ∙ passes) in
        let late = next first (slice_get-get_or items point d (omega (arith, from, there))) in
        absurd (omega (arith, early, late))

lasting : (history : History) (time point : ℕ) (next : Option ℕ) → IsInOrder history → point ≤ length history.entries.items
    → IsPartitionPoint (λ e. nat_le (time_at e.place) time ≡ true) (λ e. nat_le (time_at e.place) time ≡ false) history.entries.items point
    → ((t : ℕ) (e : Entry) → IsUpTo next t → slice_get history.entries.items point ≡ Some e → t ≤ time_at e.place)
    → ((e : Entry) → slice_get history.entries.items point ≡ Some e → time < time_at e.place) → Lasts history time next
lasting history time point next order bound parts up later t lt le =
    let items = history.entries.items in
    let there = front_at items time point t order bound parts lt (λ e is. up t e le is) in
    let here = front_at items time point (time + 1) order bound parts (omega arith) (λ e is. let after = later e is in omega (arith, after)) in
    ap (last_shown history.first) (there ∙ sym here)

-- what stands behind the point is later
pub later_at : (items : List Entry) (time point : ℕ) (e : Entry)
    → IsPartitionPoint (λ e. nat_le (time_at e.place) time ≡ true) (λ e. nat_le (time_at e.place) time ≡ false) items point
    → slice_get items point ≡ Some e → time < time_at e.place
later_at items time point e parts is = grind (arith, got_within, get_or, slice_get-get_or, time_at, leb-false)

abbrev IsParted : List Entry → ℕ → ℕ → Type 0
IsParted items time point = IsPartitionPoint (λ e. nat_le (time_at e.place) time ≡ true) (λ e. nat_le (time_at e.place) time ≡ false) items point

-- the time of the entry behind the point, if there is one, is later, and up to it the same is shown
pub later_behind : (items : List Entry) (time point : ℕ) → IsParted items time point → (o : Option Entry) → slice_get items point ≡ o
    → IfSome (option_map (λ (e : Entry). time_at e.place) o) (λ next. time < next)
later_behind items time point parts None none = tt
later_behind items time point parts (Some e) is = later_at items time point e parts is

pub lasting_to : (history : History) (time point : ℕ) → IsInOrder history → point ≤ length history.entries.items
    → IsParted history.entries.items time point → (o : Option Entry) → slice_get history.entries.items point ≡ o
    → Lasts history time (option_map (λ (e : Entry). time_at e.place) o)
lasting_to history time point order bound parts None none =
    lasting history time point None order bound parts (λ t e up is. let no : None ≡ Some e = sym none ∙ is in absurd cc)
    (λ e is. later_at history.entries.items time point e parts is)
lasting_to history time point order bound parts (Some x) found =
    lasting history time point (Some (time_at x.place)) order bound parts
    (λ t e up is.
    let same : Some x ≡ Some e = sym found ∙ is in
    let one : x ≡ e = cc in
    let times = ap (λ (y : Entry). time_at y.place) one in
    omega (arith, up, times))
    (λ e is. later_at history.entries.items time point e parts is)

-- the entries up to a time are the first
pub ordered_by : (items : List Entry) (time : ℕ) → ((place : List ℕ) → IsPartitionedBy (λ e. is_before e.place place) items)
    → IsPartitionedBy (λ e. nat_le (time_at e.place) time) items
ordered_by items time order i j d le lt passes =
    let up : nat_le (time_at (get_or items j d).place) time ≡ true = passes in
    let early = leb-true (time_at (get_or items j d).place) time up in
    let before = by_time (get_or items j d).place (time + 1) (omega arith) ∙ lt-ltb (time_at (get_or items j d).place) (time + 1) (omega (arith, early)) in
    let first = order ((time + 1) ∷ []) i j d le lt before in
    let is = ltb-true (time_at (get_or items i d).place) (time + 1) (sym (by_time (get_or items i d).place (time + 1) (omega arith)) ∙ first) in
    le-leb (time_at (get_or items i d).place) time (omega (arith, is))

-- ---- up to the next time, or the last one

pub end_near : (next : Option ℕ) (until : ℕ) → end_of next until ≤ until
end_near None until = omega arith
end_near (Some n) until = omega arith

pub end_later : (next : Option ℕ) (until after : ℕ) → after < until → MatchOption next (Unit {0}) (λ n. after < n) → after < end_of next until
end_later None until after lt later = lt
end_later (Some n) until after lt later = omega (arith, lt, later)

pub up_to_end : (next : Option ℕ) (until t : ℕ) → t ≤ end_of next until → IsUpTo next t
up_to_end None until t le = tt
up_to_end (Some n) until t le = omega (arith, le)
