-- What a device's clock was last set to, and by what frame, fixes how it stands since then.
use Rattle.net_plan.proofs.SameIds.{one_device}
use Rattle.precision_law.proofs.{Plain.higher_before, clocks.Readings.{reach_is_sharp, reach_is_there}}
use Rattle.precision_law.proofs.records.{Points.{setting_is, sorted_parts}}
use Rattle.precision_law.proofs.records.{Times.{AreSorted, between, earlier_parts, in_between, is_between, last_some}}
use Rattle.precision_law.proofs.records.{Views.{in_order, steady}}
use Rattle.precision_law.proofs.words.Laws
use Laws.{AdjustmentIsLast, ClocksHaveReached, ClocksReachSharply, IsView, NextCycleIsOfLast, SettingsStay, TimeStays}
use Laws.{View, adjustment_left, cycle_set, epoch_time, has_time, is_correction, last_setting, next_of, state_left}
use Rattle.precision_law.proofs.words.Plans
use Plans.{DeviceId, Integrating, Joining, State, Units, adjustment_at_start, amount, state_at_start}
use Rattle.precision_law.proofs.words.Runs
use Runs.{ChangesState, Happening, Integrates, IsCaused, IsDue, IsFounded, IsIn, NoteBody, Scenario, Why}
use Runs.{adjustment_before, adjustment_with, behind_first, changed_at, changes_adjustment, cycle_after, cycle_in}
use Runs.{earlier, founded_at, in_filter, in_left, in_parts, in_right, is_joined_by, is_synchronised, never_self}
use Runs.{numbered_in, place_of, rank, same_some, start_of, state_after, state_with, time_of}
use Rattle.precision_law.proofs.words.Std
use Std.{if◌then◌else◌, ◌++◌, ◌+◌, ◌-ℤ◌, ◌<ℤ◌, ◌<◌, ◌==◌, ◌∙◌, ◌∷◌, ◌≡◌, ◌≤◌, Bool, List, None, Option, Some, [], ap}
use Std.{append-nil, append_assoc, arith, both_ways, eq-eqb, false, false_from_ne_true, filter, filter-append, fold}
use Std.{fold-append, inl, inr, ints, last_or, lt-ltb, nat_lt, negsuc, option_map_or, pos, refl, subst, sym, true, ℕ, ℤ}
use Rattle.run_law.proofs.{control.Verdicts.cycle_stays, device.States.{adjustment_kept, joined_changes}}
use Rattle.run_law.proofs.{records.{Members.in_kept, Order.{from_earlier, is_earlier}}}
use Rattle.tte_units.proofs.general_lemmas.Lists.{last_more}
use Rattle.run_law.specs.declared.judgement.Why.TheVariants as whys
use Rattle.run_law.specs.declared.note.NoteBody.TheVariants as notes

-- ---- what a device's clock was last set to fixes since then

-- where each element that passes the test sets a value and no other does, the last such element sets it
pub fold_last : {X V : Type 0} (f : V → X → V) (g : X → V) (test : X → Bool) (o : Option X) (initial : V) (xs : List X)
    → ((v : V) (x : X) → test x ≡ true → f v x ≡ g x) → ((v : V) (x : X) → test x ≡ false → f v x ≡ v) → fold f (option_map_or g o initial) xs ≡ option_map_or g
    (last_or o (filter test xs)) initial
fold_last f g test o initial [] hit miss = refl
fold_last {X} {V} f g test o initial (x ∷ xs) hit miss =
    grind (arith, fold, option_map_or, last_or, filter, (fold_last f g test (Some x) initial xs hit miss), (fold_last f g test o initial xs hit miss))

-- ---- adjustments

-- what a record that changes the adjustment makes of it does not depend on what it was
pub adjustment_set : (s : Scenario) (device : DeviceId) (cycle : ℕ) (old other : Units) (body : NoteBody) → changes_adjustment device body ≡ true
    → adjustment_with s device cycle old body ≡ adjustment_with s device cycle other body
adjustment_set s device cycle old other (notes.Corrected d number by adjustment) e = rw e refl
adjustment_set s device cycle old other (notes.Permanent d link cause point Integrates) e = rw e refl
adjustment_set s device cycle old other (notes.Compressed d opened own of_cycle members Integrates) e = rw e refl
adjustment_set s device cycle old other body e = absurd cc

pub adjustment_is_last : AdjustmentIsLast
adjustment_is_last s hs device =
    fold_last (λ a h. adjustment_with s device (cycle_in h) a h.note.body)
    (λ h. adjustment_with s device (cycle_in h) (adjustment_at_start (start_of s.network device)) h.note.body)
    (λ h. changes_adjustment device h.note.body) None (adjustment_at_start (start_of s.network device)) hs
    (λ a h e. adjustment_set s device (cycle_in h) a (adjustment_at_start (start_of s.network device)) h.note.body e)
    (λ a h e. adjustment_kept s device (cycle_in h) a h.note.body e)

-- ---- numbers

-- the number behind a record
abbrev number_by : Happening → ℕ
number_by h = if is_correction h.note.body then cycle_set h h.note.body + 1 else cycle_set h h.note.body

number_set : (device : DeviceId) (old : ℕ) (h : Happening) (body : NoteBody) → changes_adjustment device body ≡ true
    → cycle_after device old h body ≡ (if is_correction body then cycle_set h body + 1 else cycle_set h body)
number_set device old h (notes.Corrected d number by adjustment) e = rw e refl
number_set device old h (notes.Permanent d link cause point Integrates) e = rw e refl
number_set device old h (notes.Compressed d opened own of_cycle members Integrates) e = rw e refl
number_set device old h body e = absurd cc

pub next_cycle_is_of_last : NextCycleIsOfLast
next_cycle_is_of_last hs device =
    fold_last (λ n h. cycle_after device n h h.note.body) number_by (λ h. changes_adjustment device h.note.body) None 1
    hs
    (λ n h e. number_set device n h h.note.body e) (λ n h e. cycle_stays device n h h.note.body e)
    ∙ elim (last_setting hs device) as (λ o. option_map_or number_by o 1 ≡ next_of o) [ None ↦ refl | Some h ↦ refl ]

-- ---- settings stay

-- the time of the last of some records
abbrev time_of_last : Option Happening → ℤ
time_of_last o = option_map_or (λ h. pos (time_of h)) o (negsuc 0)

-- what is behind the last setting sets nothing
no_setting : (u : ℕ) (device : DeviceId) (xs ys : List Happening) → ((h : Happening) → IsIn h ys → u ≤ time_of h)
    → time_of_last (last_or None (xs ++ ys)) <ℤ pos u → ys ≡ []
no_setting u device xs [] late early = refl
no_setting u device xs (y ∷ ys) late early =
    let last = last_some (last_or None xs) y ys in
    absurd (omega (arith, ints, ap time_of_last (last_more None xs (y ∷ ys) ∙ last.1), late last.0 last.2))

-- the records between the last setting and t set nothing
pub none_between : {v : View} (device : DeviceId) (u t : ℕ) → IsView v → u ≤ t
    → epoch_time (earlier t v.records) device <ℤ pos u → filter (λ h. changes_adjustment device h.note.body)
    (between u t v.records) ≡ []
none_between {v} device u t is le early =
    let sets = λ (h : Happening). changes_adjustment device h.note.body in
    let moved = ap (filter sets) (earlier_parts u t v.records (in_order is) le) ∙ filter-append sets
    (earlier u v.records) (between u t v.records) in
    no_setting u device (filter sets (earlier u v.records)) (filter sets (between u t v.records))
    (λ h i. (in_between u t v.records h (in_filter sets (between u t v.records) h i)).1)
    (rw moved at early)

pub settings_stay : SettingsStay
settings_stay v device u t is le early =
    let sets = λ (h : Happening). changes_adjustment device h.note.body in
    let none = none_between device u t is le early in
    let same = ap (filter sets) (earlier_parts u t v.records (in_order is) le) ∙ filter-append sets
    (earlier u v.records) (between u t v.records) ∙ ap
    (λ hs. filter sets (earlier u v.records) ++ hs) none ∙ append-nil (filter sets (earlier u v.records)) in
    ap (last_or None) (sym same)

-- a record between sets no clock that was set before
pub sets_none : {v : View} (device : DeviceId) (from t : ℕ) → IsView v → from ≤ t
    → epoch_time (earlier t v.records) device <ℤ pos from → (h : Happening) → IsIn h v.records → from ≤ time_of h
    → time_of h < t → changes_adjustment device h.note.body ≡ false
sets_none {v} device from t is le old h i late early =
    false_from_ne_true (changes_adjustment device h.note.body) (λ sets.
    let kept = in_kept (λ x. changes_adjustment device x.note.body) (between from t v.records) h
    (is_between from t v.records h i late early) sets
    in
    absurd (subst (IsIn h) (none_between device from t is le old) kept))

-- so does the adjustment
pub adjustment_stays : {v : View} (device : DeviceId) (u t : ℕ) → IsView v → u ≤ t
    → epoch_time (earlier t v.records) device <ℤ pos u → adjustment_before v.scenario v.records device u
    ≡ adjustment_before v.scenario v.records device t
adjustment_stays {v} device u t is le early =
    adjustment_is_last v.scenario (earlier u v.records) device ∙ ap (λ o. option_map_or
    (λ h. adjustment_with v.scenario device (cycle_in h) (adjustment_at_start (start_of v.scenario.network device)) h.note.body) o
    (adjustment_at_start (start_of v.scenario.network device))) (settings_stay v device u t is le early)
    ∙ sym (adjustment_is_last v.scenario (earlier t v.records) device)

-- ---- the common time stays

-- the record leaves no device in a state that passes the test which was not in one
abbrev pub Keeps : (State → Bool) → DeviceId → NoteBody → Type 0
Keeps p device body = (old : State) → p (state_with device old body) ≡ true → p old ≡ true

-- where each of them does so, a device that passes behind them passed before
pub kept_by_all : (p : State → Bool) (device : DeviceId) (hs : List Happening) → ((h : Happening) → IsIn h hs → Keeps p device h.note.body) → (old : State)
    → p (fold (λ state h. state_with device state h.note.body) old hs) ≡ true → p old ≡ true
kept_by_all p device [] each old e = e
kept_by_all p device (h ∷ hs) each old e = each h (inl refl) old (kept_by_all p device hs (λ g i. each g (inr i)) (state_with device old h.note.body) e)

-- a state that is another device's leaves this one's
pub kept_if : (p : State → Bool) (b : Bool) (state old : State) → (b ≡ true → p state ≡ true → ⊥) → p (if b then state else old) ≡ true → p old ≡ true
kept_if p true state old never e = absurd (never refl e)
kept_if p false state old never e = e

module _ (p : State → Bool) (out : p Integrating ≡ false) (s : Scenario) (ps : List Happening) where
  -- where nothing sets the device's clock at a time, its state changes to integrating alone
  no_change : (t : ℕ) (device : DeviceId) (state : State) (cause : ℕ) (why : Why)
      → ((h : Happening) → IsIn h ps → time_of h ≡ t → changes_adjustment device h.note.body ≡ false)
      → ChangesState s ps device t state cause why → p state ≡ true → ⊥
  no_change t device state cause whys.Frame none c e =
      let h = c.1.0 in
      both_ways (changes_adjustment device h.note.body) (none h (numbered_in ps cause h c.1.1.there) c.1.1.same_time)
      (joined_changes device h.note.body c.1.2)
  no_change t device state cause whys.Correction none c e =
      grind (arith, numbered_in, both_ways, changes_adjustment, eq-eqb)
  no_change t device state cause why none c e = both_ways (p state) (ap p c.0 ∙ out) e

  -- nor does any other record
  pub keeps : (time : Units) (device : DeviceId) (body : NoteBody) → changes_adjustment device body ≡ false
      → ((h : Happening) → IsIn h ps → time_of h ≡ amount time → changes_adjustment device h.note.body ≡ false)
      → IsCaused s ps time body → Keeps p device body
  keeps time device (notes.State other state cause why) e none c old timed =
      kept_if p (device.0 == other.0) state old (λ same is.
      let here = rw (one_device device other same) at c in
      no_change (amount time) device state cause why none here is) timed
  keeps time device (notes.Permanent other link cause point Integrates) e none c old timed =
      (let at = rw e at timed in at)
  keeps time device (notes.Compressed other opened own cycle members Integrates) e none c old timed =
      (let at = rw e at timed in at)
  keeps time device body e none c old timed = timed

-- a device whose state passes the test has passed it since its clock was last set
pub state_stays : (p : State → Bool) → p Integrating ≡ false → {v : View} (device : DeviceId) (u t : ℕ) → IsView v
    → u ≤ t → epoch_time (earlier t v.records) device <ℤ pos u → p (state_left v device t) ≡ true
    → p (state_left v device u) ≡ true
state_stays p out {v} device u t is le early timed =
    let unset = sets_none device u t is le early in
    let whole = rw (earlier_parts u t v.records (in_order is) le) at timed in
    let apart = fold-append (λ state h. state_with device state h.note.body)
    (state_at_start (start_of v.scenario.network device))
    (earlier u v.records) (between u t v.records) in
    kept_by_all p device (between u t v.records) (λ h i.
    let there = in_between u t v.records h i in
    let at = founded_at v.scenario v.records h is.run.founded there.0 in
    keeps p out v.scenario at.front h.note.time device h.note.body (unset h there.0 there.1 there.2) (λ g j same.
    let in_all : IsIn g v.records = subst (IsIn g) (sym at.whole) (in_left g at.front (h ∷ at.rest) j) in
    unset g in_all (omega (arith, there.1)) (omega (arith, there.2))) at.due.cause)
    (state_after v.scenario (earlier u v.records) device) (rw apart at whole)

pub time_stays : TimeStays
time_stays v device u t is le early timed = state_stays has_time refl device u t is le early timed

-- ---- reaching

pub clocks_reach_sharply : ClocksReachSharply
clocks_reach_sharply v device value t is reaches =
    reach_is_sharp v.sizes (v.scenario.reading device) (changed_at v.records device t) (value -ℤ adjustment_left v device t) t (steady v is device)
    (omega (arith, ints, reaches.below)) reaches.reach

pub clocks_have_reached : ClocksHaveReached
clocks_have_reached v device value x t is le lt below above =
    let reading = v.scenario.reading device in
    let r = reach_is_there v.sizes reading (changed_at v.records device t) x (value -ℤ adjustment_left v device t) t (steady v is device) le lt
    (omega (arith, ints)) (omega (arith, ints)) in
    let u = r.0 in
    let early : epoch_time (earlier t v.records) device <ℤ pos u =
    elim (last_setting (earlier t v.records) device) as (λ o. option_map_or time_of o 0 ≤ x → time_of_last o <ℤ pos u) [
      | None ↦ λ set. omega (arith, ints)
      | Some h ↦ λ set. omega (arith, ints, r.1)
    ] le in
    let same_last = settings_stay v device u t is r.2 early in
    let same_time : changed_at v.records device u ≡ changed_at v.records device t = rw same_last in
    let same_adjustment : adjustment_left v device u ≡ adjustment_left v device t =
    ap (λ a. a.0) (adjustment_stays device u t is r.2 early) in
    let low = (steady v is device).never_falls (changed_at v.records device t) x le in (
      u,
      r.1,
      r.2,
      record {
        below = rw (same_time, same_adjustment) (omega (arith, ints));
        reach =
            rw (same_time, same_adjustment) r.3;
      },
    )

-- ---- a device whose clock was last set by a frame that told it the time is still joining

-- where no correction of the device comes at a time, no change of state synchronises it
no_correction : (s : Scenario) (ps : List Happening) (t : ℕ) (device : DeviceId) (state : State) (cause : ℕ) (why : Why)
    → ((h : Happening) (cycle : ℕ) (by adjustment : Units) → IsIn h ps → time_of h ≡ t → h.note.body ≡ notes.Corrected device cycle by adjustment → ⊥)
    → ChangesState s ps device t state cause why → is_synchronised state ≡ true → ⊥
no_correction s ps t device state cause whys.Correction none c e = none c.2.3 c.2.0 c.2.1 c.2.2 (numbered_in ps cause c.2.3 c.2.4.there) c.2.4.same_time c.2.5
no_correction s ps t device state cause why none c e = both_ways (is_synchronised state) (ap is_synchronised c.0) e

-- nor does any other record
keeps_unsynchronised : (s : Scenario) (ps : List Happening) (time : Units) (device : DeviceId) (body : NoteBody)
    → ((h : Happening) (cycle : ℕ) (by adjustment : Units) → IsIn h ps → time_of h ≡ amount time → h.note.body ≡ notes.Corrected device cycle by adjustment → ⊥)
    → IsCaused s ps time body → Keeps is_synchronised device body
keeps_unsynchronised s ps time device (notes.State other state cause why) none c old e =
    kept_if is_synchronised (device.0 == other.0) state old (λ same at.
    let here = rw (one_device device other same) at c in
    no_correction s ps (amount time) device state cause why none here at) e
keeps_unsynchronised s ps time device (notes.Permanent other link cause point Integrates) none c old e =
    kept_if is_synchronised (device.0 == other.0) Joining old (λ same at. both_ways (is_synchronised Joining) refl at) e
keeps_unsynchronised s ps time device (notes.Compressed other opened own cycle members Integrates) none c old e =
    kept_if is_synchronised (device.0 == other.0) Joining old (λ same at. both_ways (is_synchronised Joining) refl at) e
keeps_unsynchronised s ps time device body none c old e = e

-- the rank of a joining is below that of a correction
joining_rank : (device : DeviceId) (body : NoteBody) → is_joined_by device body ≡ true → rank body < 6
joining_rank device (notes.Permanent other link cause point Integrates) e = omega arith
joining_rank device (notes.Compressed other opened own cycle members Integrates) e = omega arith
joining_rank device body e = absurd cc

-- a joining leaves the device joining
pub joins_state : (device : DeviceId) (old : State) (body : NoteBody) → is_joined_by device body ≡ true → state_with device old body ≡ Joining
joins_state device old (notes.Permanent other link cause point Integrates) e = rw e refl
joins_state device old (notes.Compressed other opened own cycle members Integrates) e = rw e refl
joins_state device old body e = absurd cc

module _ (v : View) (device : DeviceId) (t : ℕ) (front rest : List Happening) (h x : Happening) where
  -- behind the last setting before a time nothing sets the clock before it
  none_behind : IsView v → last_setting (earlier t v.records) device ≡ Some h → v.records ≡ front ++ h ∷ rest
      → IsIn x rest → time_of x < t → changes_adjustment device x.note.body ≡ true → ⊥
  none_behind is e whole i early changes =
      let sets = λ (g : Happening). changes_adjustment device g.note.body in
      let before = earlier t (front ++ h ∷ []) in
      let parts = ap (λ hs. filter sets (earlier t hs))
      (whole ∙ sym (append_assoc front (h ∷ []) rest)) ∙ ap (filter sets)
      (filter-append (λ g. nat_lt (time_of g) t) (front ++ h ∷ []) rest) ∙ filter-append sets before (earlier t rest) in
      by (filter sets before) (filter sets (earlier t rest))
      (in_kept sets (earlier t rest) x (is_earlier t rest x i early) changes)
      (sym (ap (last_or None) parts) ∙ e) (λ y j. from_earlier t rest y (in_filter sets (earlier t rest) y j))
    where
      by : (us bs : List Happening) → IsIn x bs → last_or None (us ++ bs) ≡ Some h
          → ((y : Happening) → IsIn y bs → IsIn y rest × (time_of y < t)) → ⊥
      by us [] j last back = absurd j
      by us (b ∷ bs) j last back =
          let found = last_some (last_or None us) b bs in
          let same =
          same_some (last_or None (us ++ b ∷ bs)) found.0 h (last_more None us (b ∷ bs) ∙ found.1) last in
          let there : IsIn h rest = rw same at (back found.0 found.2).0 in
          never_self (place_of h) (behind_first place_of (IsDue v.scenario) front rest h h
          (subst (IsFounded place_of (IsDue v.scenario)) whole is.run.founded)
          there)

  -- no correction of the device comes at the time of a joining that is the last setting
  no_correction_then : (cycle : ℕ) (by adjustment : Units) → IsView v
      → last_setting (earlier t v.records) device ≡ Some h → time_of h < t → is_joined_by device h.note.body ≡ true
      → v.records ≡ front ++ h ∷ rest → IsIn x v.records → time_of x ≡ time_of h
      → x.note.body ≡ notes.Corrected device cycle by adjustment → ⊥
  no_correction_then cycle by adjustment is e early joined whole i same body =
      let changes : changes_adjustment device x.note.body ≡ true =
      ap (changes_adjustment device) body ∙ (eq-eqb device.0 device.0 refl) in
      elim (in_parts x front (h ∷ rest) (subst (IsIn x) whole i)) [
        | inl before ↦
            let low : rank h.note.body < rank x.note.body =
            omega (arith, ap rank body, joining_rank device h.note.body joined) in
            let sooner = higher_before x h ((is.run.founded front rest h whole).0 x before) low in
            omega arith
        | inr (inl one) ↦ (let wrong : is_joined_by device h.note.body ≡ false = rw (sym one)
            (ap (is_joined_by device) body) in both_ways (is_joined_by device h.note.body) wrong joined)
        | inr (inr later) ↦ none_behind is e whole later (omega arith) changes
      ]

-- a device that a joining set last is not synchronised
pub joiner_waits : {v : View} (device : DeviceId) (t : ℕ) (h : Happening) → IsView v
    → last_setting (earlier t v.records) device ≡ Some h → is_joined_by device h.note.body ≡ true
    → is_synchronised (state_left v device t) ≡ false
joiner_waits {v} device t h is e joined =
    false_from_ne_true (is_synchronised (state_left v device t)) (λ at.
    let setting = setting_is v device t h e in
    let w = time_of h in
    let time : epoch_time (earlier t v.records) device ≡ pos w = rw e in
    let still = state_stays is_synchronised refl device (w + 1) t is (omega (arith, setting.early))
    (omega (arith, ints)) at in
    let found = founded_at v.scenario v.records h is.run.founded setting.there in
    let here = lt-ltb w (w + 1) (omega arith) in
    let parts = ap (earlier (w + 1)) found.whole ∙ filter-append (λ g. nat_lt (time_of g) (w + 1)) found.front
    (h ∷ found.rest) ∙ ap
    (λ b. earlier (w + 1) found.front ++ (if b then h ∷ earlier (w + 1) found.rest else earlier (w + 1) found.rest))
    here in
    let step = λ (state : State) (g : Happening). state_with device state g.note.body in
    let whole = rw parts at still in
    let apart = fold-append step (state_at_start (start_of v.scenario.network device)) (earlier (w + 1) found.front) (h ∷ earlier (w + 1) found.rest) in
    let old = state_after v.scenario (earlier (w + 1) found.front) device in
    let each : (g : Happening) → IsIn g (earlier (w + 1) found.rest) → Keeps is_synchronised device g.note.body = λ g i.
    let back = from_earlier (w + 1) found.rest g i in
    let in_all : IsIn g v.records = subst (IsIn g) (sym found.whole) (in_right g found.front (h ∷ found.rest) (inr back.0)) in
    let at_g = founded_at v.scenario v.records g is.run.founded in_all in
    let order = sorted_parts found.front found.rest h (subst AreSorted found.whole (in_order is)) in
    let same : time_of g ≡ w = (let up = order.1 g back.0 in omega (arith, back.1)) in
    keeps_unsynchronised v.scenario at_g.front g.note.time device g.note.body (λ x cycle by adjustment j at body.
    no_correction_then v device t found.front found.rest h x cycle by adjustment is e setting.early joined found.whole
    (subst (IsIn x) (sym at_g.whole) (in_left x at_g.front (g ∷ at_g.rest) j)) (omega arith) body) at_g.due.cause in
    let now = kept_by_all is_synchronised device (earlier (w + 1) found.rest) each (step old h) (rw apart at whole) in
    both_ways (is_synchronised (step old h)) (ap is_synchronised (joins_state device old h.note.body joined)) now)
