-- How a device comes to the common time, and keeps it from record to record.
use Rattle.precision_law.proofs.{block.Onward.{hull_ordered, last_of}, clocks.Epochs.joins_state}
use Rattle.precision_law.proofs.{emission.SoundMaster.cm_is}
use Rattle.precision_law.proofs.{faults.Turned.{not_turned_on_then, on_not_turned_on, timed_not_off}}
use Rattle.precision_law.proofs.hearing.GoodFrames.{ComesDown, comes_down, firm_member, no_end_cm, sent_in_time}
use Rattle.run_law.proofs.records.Order.{ahead}
use Rattle.precision_law.proofs.{law.{OnTime.corrects_by, Precision.{block_ends, later_end}}}
use Rattle.precision_law.proofs.{records.Times.{AreSorted, between, earlier_parts, in_between}}
use Rattle.precision_law.proofs.{traffic_lemmas.spans.Spans.turned_on_by, trips.SoundChannel.sound_is_whole}
use Rattle.precision_law.proofs.words.{Blocks.{few_cycles, looking_by}}
use Rattle.precision_law.proofs.words.Clocks
use Clocks.{any_in, before_of, before_place, due_there, earlier_before, has_before, in_earlier, in_order, next_note}
use Clocks.{point_timed, room, same_device, setting_is, sorted_parts, within_run}
use Rattle.precision_law.proofs.words.Laws
use Laws.{BlockIsOver, BlocksGoSo, HasTimeAt, Hull, IsClique, IsEmission, IsGood, IsGoodEnd, IsInBlock, IsView}
use Laws.{IsWholeFrom, PointsHaveCome, SendsOn, SoundMasterSends, View, has_time, hull_of, last_setting, state_left}
use Rattle.precision_law.proofs.words.Plans
use Plans.{Channel, DeviceId, Integrating, IsDeviceOf, Joining, Members, Off, State, SyncPlan, Synchronised, Units}
use Plans.{count_of, device_at, state_at_start}
use Rattle.precision_law.proofs.words.Runs
use Runs.{ChangesState, Happening, Integrates, IsCaused, IsDue, IsFounded, IsFoundedAt, IsIn, NoteBody, Why, by_number}
use Runs.{earlier, founded_at, front_founded, happening, has_joined_at, heard_as, in_front_of, in_left, in_right}
use Runs.{is_joined_by, is_off, is_turned_on_at, key, last_cycle, members_in, numbered_in, observation_window, place_of}
use Runs.{plan_of, rank, split, start_of, state_after, state_at_hearing, state_before, state_with, time_of}
use Rattle.precision_law.proofs.words.Std
use Std.{if◌then◌else◌, ◌&&◌, ◌++◌, ◌+ℤ◌, ◌+◌, ◌<◌, ◌==◌, ◌∙◌, ◌∷◌, ◌≡◌, ◌≤ℤ◌, ◌≤◌, ◌⊎◌, Bool, List, None, Option, Some}
use Std.{[], and_parts, ap, arith, both_ways, eq-eqb, eqb-true, false, false_from_ne_true, filter-append, fold}
use Std.{fold-append, inl, inr, ints, le-leb, lt-ltb, nat_lt, negsuc, option_map_or, pos, refl, subst, suc, sym, true}
use Std.{ℕ, ℤ}
use Rattle.net_plan.specs.declared.event.What.TheVariants as events
use Rattle.run_law.specs.declared.judgement.Why.TheVariants as whys
use Rattle.run_law.specs.declared.note.NoteBody.TheVariants as notes

-- ---- what holds of a device's state, carried from record to record: over records

-- where it holds before the record, it holds behind it
abbrev pub Carries : (State → Type 0) → DeviceId → NoteBody → Type 0
Carries P device body = (old : State) → P old → P (state_with device old body)

-- where each record carries it on, all do
fold_carries : (P : State → Type 0) (device : DeviceId) (hs : List Happening)
    → ((h : Happening) → IsIn h hs → Carries P device h.note.body) → (old : State) → P old
    → P (fold (λ state h. state_with device state h.note.body) old hs)
fold_carries P device [] each old p = p
fold_carries P device (h ∷ hs) each old p =
    fold_carries P device hs (λ g i. each g (inr i)) (state_with device old h.note.body) (each h (inl refl) old p)

-- each record from x on and before y carries it on
abbrev pub AllCarry : (State → Type 0) → View → DeviceId → ℕ → ℕ → Type 0
AllCarry P v device x y =
    (h : Happening) → IsIn h v.records → x ≤ time_of h → time_of h < y → Carries P device h.note.body

-- so what holds at x holds at y
pub carried_between : (P : State → Type 0) {v : View} (device : DeviceId) (x y : ℕ) → IsView v → x ≤ y
    → AllCarry P v device x y → P (state_left v device x) → P (state_left v device y)
carried_between P {v} device x y is le each p =
    let step = λ (state : State) (h : Happening). state_with device state h.note.body in
    let hs = between x y v.records in
    let apart = fold-append step (state_at_start (start_of v.scenario.network device)) (earlier x v.records) hs in
    let same : state_left v device y ≡ fold step (state_left v device x) hs =
    ap (λ gs. state_after v.scenario gs device) (earlier_parts x y v.records (in_order is) le)
    ∙ apart in
    subst P (sym same) (fold_carries P device hs (λ h i.
    let there = in_between x y v.records h i in
    each h there.0 there.1 there.2) (state_left v device x) p)

-- and what a record brings about, the later ones carry on
pub carried_behind : (P : State → Type 0) {v : View} (device : DeviceId) (g : Happening) (y : ℕ) → IsView v
    → IsIn g v.records → time_of g < y → AllCarry P v device (time_of g) y
    → ((old : State) → P (state_with device old g.note.body)) → P (state_left v device y)
carried_behind P {v} device g y is i lt each brings =
    let s = v.scenario in
    let found = founded_at s v.records g is.run.founded i in
    let test = λ (h : Happening). nat_lt (time_of h) y in
    let parts = ap (earlier y) found.whole ∙ filter-append test found.front (g ∷ found.rest) ∙ ap
    (λ b. earlier y found.front ++ (if b then g ∷ earlier y found.rest else earlier y found.rest))
    (lt-ltb (time_of g) y lt) in
    let step = λ (state : State) (h : Happening). state_with device state h.note.body in
    let before = state_after s (earlier y found.front) device in
    let apart = fold-append step (state_at_start (start_of s.network device)) (earlier y found.front)
    (g ∷ earlier y found.rest) in
    let same : state_left v device y ≡ fold step (step before g) (earlier y found.rest) =
    rw parts apart in
    let order = sorted_parts found.front found.rest g (subst AreSorted found.whole (in_order is)) in
    subst P (sym same) (fold_carries P device (earlier y found.rest) (λ h j.
    let back = in_earlier y found.rest h j in
    let there : IsIn h v.records = subst (IsIn h) (sym found.whole)
    (in_right h found.front (g ∷ found.rest) (inr back.0)) in
    each h there (order.1 h back.0) back.1) (step before g) (brings before))

-- ---- over one record

-- by the record, which stands behind those of `found`, the device's state changes
pub record IsChange (v : View) (device : DeviceId) (h : Happening) (state : State) (cause : ℕ)
    (why : Why) : Type 0 where
  pub is : h.note.body ≡ notes.State device state cause why
  pub found : IsFoundedAt v.scenario v.records h
  pub changes : ChangesState v.scenario found.front device (time_of h) state cause why

holds_if : (P : State → Type 0) (b : Bool) (new old : State) → (b ≡ true → P new) → P old → P (if b then new else old)
holds_if P true new old now p = now refl
holds_if P false new old now p = p

carries_by : (P : State → Type 0) {v : View} (device : DeviceId) (h : Happening) (body : NoteBody) → IsView v
    → IsIn h v.records → h.note.body ≡ body → (is_joined_by device body ≡ true → P Joining)
    → ((state : State) (cause : ℕ) (why : Why) → IsChange v device h state cause why → P state)
    → Carries P device body
carries_by P {v} device h (notes.State other state cause why) is i body told changed old p =
    holds_if P (device.0 == other.0) state old (λ own.
    let found = founded_at v.scenario v.records h is.run.founded i in
    let same = same_device device other own in
    let is_own = body ∙ ap (λ d. notes.State d state cause why) same in
    changed state cause why (record {
      is = is_own;
      found = found;
      changes = subst (IsCaused v.scenario found.front h.note.time) is_own found.due.cause;
    })) p
carries_by P device h (notes.Permanent other link cause point Integrates) is i body told changed old p =
    holds_if P (device.0 == other.0) Joining old told p
carries_by P device h (notes.Compressed other opened own cycle members Integrates) is i body told changed old p =
    holds_if P (device.0 == other.0) Joining old told p
carries_by P device h body is i same told changed old p = p

-- a record carries it on, if it holds of a joiner where the record makes one, and of each state to which the record
-- changes the device's
pub carries : (P : State → Type 0) {v : View} (device : DeviceId) (h : Happening) → IsView v → IsIn h v.records
    → (is_joined_by device h.note.body ≡ true → P Joining)
    → ((state : State) (cause : ℕ) (why : Why) → IsChange v device h state cause why → P state)
    → Carries P device h.note.body
carries P device h is i told changed = carries_by P device h h.note.body is i refl told changed

-- ---- the common time stays with a device from which no correction point takes it

-- from z on no correction point takes the common time from the device
abbrev pub KeepsFrom : View → DeviceId → ℕ → Type 0
KeepsFrom v device z =
    (h : Happening) (state : State) (cause : ℕ) (why : Why) → IsIn h v.records → z ≤ time_of h
    → h.note.body ≡ notes.State device state cause why → IsClique why → ⊥

-- a device in this state is on
abbrev pub IsOn : State → Type 0
IsOn state = is_off state ≡ false

-- one in this state has the common time
abbrev pub IsTimed : State → Type 0
IsTimed state = has_time state ≡ true

-- one in this state has had its first correction
abbrev pub IsSynchronised : State → Type 0
IsSynchronised state = state ≡ Synchronised

joins_timed : (device : DeviceId) (old : State) (body : NoteBody) → is_joined_by device body ≡ true
    → IsTimed (state_with device old body)
joins_timed device old body joined = ap has_time (joins_state device old body joined)

module _ (v : View) (device : DeviceId) (is : IsView v) where
  -- ---- on

  changes_on : (front : List Happening) (t : ℕ) (state : State) (cause : ℕ) (why : Why)
      → ChangesState v.scenario front device t state cause why → IsOn state
  changes_on front t state cause whys.On c = ap is_off c.0
  changes_on front t state cause whys.Frame c = ap is_off c.0
  changes_on front t state cause whys.Correction c = ap is_off c.0
  changes_on front t state cause whys.SyncClique c = ap is_off c.0
  changes_on front t state cause whys.AsyncClique c = ap is_off c.0

  -- a device that is on stays so
  pub stays_on : (x y : ℕ) → x ≤ y → IsOn (state_left v device x) → IsOn (state_left v device y)
  stays_on x y le on =
      carried_between IsOn device x y is le (λ h i from to.
      carries IsOn device h is i (λ told. refl) (λ state cause why c. changes_on c.found.front
      (time_of h) state cause why c.changes)) on

  -- ---- with the common time

  -- what turns it on comes when it is turned on
  turned_then : (h : Happening) (state : State) (cause : ℕ) → IsChange v device h state cause whys.On
      → is_turned_on_at v.scenario device (time_of h) ≡ true
  turned_then h state cause change =
      let c = change.changes in
      let g = c.2.1 in
      let at = founded_at v.scenario change.found.front g change.found.founded
      (numbered_in change.found.front cause g c.2.2.there) in
      let caused : IsCaused v.scenario at.front g.note.time (notes.Event c.2.0 (events.On device)) =
      subst (IsCaused v.scenario at.front g.note.time) c.2.3 at.due.cause in
      ap (is_turned_on_at v.scenario device) (sym c.2.2.same_time) ∙ turned_on_by v.scenario device
      caused

  -- no frame tells the time a device that has it
  pub not_told : (h : Happening) → IsIn h v.records → IsTimed (state_left v device (time_of h))
      → is_joined_by device h.note.body ≡ false
  not_told h i timed =
      let s = v.scenario in
      let t = time_of h in
      let found = founded_at s v.records h is.run.founded i in
      let same = earlier_before (before_of is found) in
      let left = rw (sym same) at timed in
      let off = on_not_turned_on device t is (timed_not_off (state_left v device t) timed) in
      false_from_ne_true (is_joined_by device h.note.body) (λ joined.
      apart (is_turned_on_at s device t) (state_after s (earlier t found.front) device) off left
      (looking_by s found.front h.note.time device h.note.body joined found.due.cause))
    where
      apart : (b : Bool) (state : State) → b ≡ false → has_time state ≡ true
          → (if b then Integrating else state) ≡ Integrating → ⊥
      apart true state off timed e = absurd cc
      apart false state off timed e = both_ways (has_time state) (ap has_time e) timed

  module _ (z : ℕ) (never : KeepsFrom v device z) where
    changes_timed : (h : Happening) (state : State) (cause : ℕ) (why : Why) → IsIn h v.records
        → z ≤ time_of h → IsChange v device h state cause why
        → is_turned_on_at v.scenario device (time_of h) ≡ false → IsTimed state
    changes_timed h state cause whys.On i from c off = absurd (both_ways _ off (turned_then h state cause c))
    changes_timed h state cause whys.Frame i from c off = ap has_time c.changes.0
    changes_timed h state cause whys.Correction i from c off = ap has_time c.changes.0
    changes_timed h state cause whys.SyncClique i from c off =
        absurd (never h state cause whys.SyncClique i from c.is tt)
    changes_timed h state cause whys.AsyncClique i from c off =
        absurd (never h state cause whys.AsyncClique i from c.is tt)

    -- once it is on, all records leave it the common time
    timed_carry : (x y : ℕ) → z ≤ x → IsOn (state_left v device x) → AllCarry IsTimed v device x y
    timed_carry x y late on h i from to =
        let off = on_not_turned_on device (time_of h) is (stays_on x (time_of h) from on) in
        carries IsTimed device h is i (λ told. refl) (λ state cause why c. changes_timed h state cause why i
        (omega arith) c off)

    -- the common time stays
    pub time_stays_on : (x y : ℕ) → z ≤ x → x ≤ y → IsTimed (state_left v device x) → IsTimed (state_left v device y)
    time_stays_on x y late le timed =
        carried_between IsTimed device x y is le (timed_carry x y late (timed_not_off (state_left v device x) timed))
        timed

    -- a frame that tells a device the time leaves it with the time
    pub told_has_time : (g : Happening) (x y : ℕ) → z ≤ x → IsIn g v.records → is_joined_by device g.note.body ≡ true
        → IsOn (state_left v device x) → x ≤ time_of g → time_of g < y → IsTimed (state_left v device y)
    told_has_time g x y late i joined on from to =
        let on_then = stays_on x (time_of g) from on in
        carried_behind IsTimed device g y is i to (timed_carry (time_of g) y (omega arith) on_then)
        (λ old. joins_timed device old g.note.body joined)

    -- ---- synchronised

    changes_synchronised : (h : Happening) (state : State) (cause : ℕ) (why : Why) → IsIn h v.records
        → z ≤ time_of h → IsChange v device h state cause why
        → IsTimed (state_left v device (time_of h)) → IsSynchronised state
    changes_synchronised h state cause whys.On i from c timed =
        let off = on_not_turned_on device (time_of h) is (timed_not_off (state_left v device (time_of h)) timed) in
        absurd (both_ways _ off (turned_then h state cause c))
    changes_synchronised h state cause whys.Frame i from c timed =
        let told = c.changes.1 in
        let g = told.0 in
        let there : IsIn g v.records =
        subst (IsIn g) (sym c.found.whole) (in_left g c.found.front (h ∷ c.found.rest)
        (numbered_in c.found.front cause g told.1.there)) in
        let same = rw (sym told.1.same_time) at timed in
        absurd (both_ways _ (not_told g there same) told.2)
    changes_synchronised h state cause whys.Correction i from c timed = c.changes.0
    changes_synchronised h state cause whys.SyncClique i from c timed =
        absurd (never h state cause whys.SyncClique i from c.is tt)
    changes_synchronised h state cause whys.AsyncClique i from c timed =
        absurd (never h state cause whys.AsyncClique i from c.is tt)

    -- once it has the time, all records leave it synchronised
    synchronised_carry : (x y : ℕ) → z ≤ x → IsTimed (state_left v device x) → AllCarry IsSynchronised v device x y
    synchronised_carry x y late timed h i from to =
        let then_timed = time_stays_on x (time_of h) late from timed in
        carries IsSynchronised device h is i (λ told. absurd (both_ways _ (not_told h i then_timed) told))
        (λ state cause why c. changes_synchronised h state cause why i (omega arith) c then_timed)

    -- a synchronised device stays so
    pub stays_synchronised : (x y : ℕ) → z ≤ x → x ≤ y → IsSynchronised (state_left v device x)
        → IsSynchronised (state_left v device y)
    stays_synchronised x y late le synchronised =
        carried_between IsSynchronised device x y is le (synchronised_carry x y late (ap has_time synchronised))
        synchronised

    -- and is so behind a record that makes it so
    pub becomes_synchronised : (g : Happening) (y : ℕ) → z ≤ time_of g → IsIn g v.records
        → IsTimed (state_left v device (time_of g))
        → time_of g < y
        → ((old : State) → IsSynchronised (state_with device old g.note.body)) → IsSynchronised (state_left v device y)
    becomes_synchronised g y late i timed to brings =
        carried_behind IsSynchronised device g y is i to (synchronised_carry (time_of g) y late timed) brings

-- ---- a device that has the common time when a block begins is synchronised when it is over

-- a device that has the common time is joining or synchronised
timed_cases : (state : State) → has_time state ≡ true → (state ≡ Joining) ⊎ (state ≡ Synchronised)
timed_cases Off e = absurd cc
timed_cases Integrating e = absurd cc
timed_cases Joining e = inl refl
timed_cases Synchronised e = inr refl

module _ (v : View) (device : DeviceId) (is : IsView v) (z : ℕ) (never : KeepsFrom v device z) where
  -- a record that leaves the device synchronised
  record MakesSynchronised (t : ℕ) : Type 0 where
    pub g : Happening
    pub there : IsIn g v.records
    pub at : time_of g ≡ t
    pub makes : (old : State) → IsSynchronised (state_with device old g.note.body)

  -- the first correction of a joiner has one of its state beside it
  first_corrected : (h : Happening) (cycle : ℕ) (by adjustment : Units) → IsIn h v.records
      → h.note.body ≡ notes.Corrected device cycle by adjustment → state_left v device (time_of h) ≡ Joining
      → MakesSynchronised (time_of h)
  first_corrected h cycle by adjustment i body joining =
      let s = v.scenario in
      let t = time_of h in
      let number = h.note.number in
      let rest = device.0 ∷ number ∷ [] in
      let at = split place_of (IsDue s) v.records (t ∷ 7 ∷ rest) is.run.founded in
      let six : rank h.note.body ≡ 6 = ap rank body in
      let sooner =
      ahead t t (rank h.note.body) 7 (key (members_in h) h.note.body) rest (omega arith) (omega arith) in
      let founded = front_founded place_of (IsDue s) at.front at.rest
      (subst (IsFounded place_of (IsDue s)) at.whole is.run.founded) in
      let found = by_number s at.front h founded (in_front_of at h i sooner) in
      let off = not_turned_on_then device t is (ap has_time joining) in
      let before : state_before s at.front device t ≡ Joining =
      rw off
      (ap (λ hs. state_after s hs device) (earlier_before
      (before_place v t (7 ∷ rest) at)) ∙ joining) in
      let state = notes.State device Synchronised number whys.Correction in
      let changes : ChangesState s at.front device t Synchronised number whys.Correction =
      (refl, before, (cycle, by, adjustment, h, record { there = found; same_time = refl }, body)) in
      record {
        g = happening s.network at.front (next_note at.front t state);
        there = due_there t state at is (within_run is h i) refl changes;
        at = refl;
        makes = λ old. rw (eq-eqb device.0 device.0 refl);
      }

  -- behind a correction it is synchronised
  corrected_then : (h : Happening) (cycle : ℕ) (by adjustment : Units) (y : ℕ) → z ≤ time_of h → IsIn h v.records
      → h.note.body ≡ notes.Corrected device cycle by adjustment → time_of h < y
      → IsSynchronised (state_left v device y)
  corrected_then h cycle by adjustment y late i body to =
      let s = v.scenario in
      let t = time_of h in
      let found = founded_at s v.records h is.run.founded i in
      let cause : IsCaused s found.front h.note.time (notes.Corrected device cycle by adjustment) =
      subst (IsCaused s found.front h.note.time) body found.due.cause in
      let timed = point_timed (before_of is found) cause.corrected in
      elim (timed_cases (state_left v device t) timed) [
        | inl joining ↦
            let m = first_corrected h cycle by adjustment i body joining in
            let timed_m = rw (sym m.at) at timed in
            becomes_synchronised v device is z never m.g y (omega (arith, m.at)) m.there timed_m
            (omega (arith, m.at)) m.makes
        | inr synchronised ↦ stays_synchronised v device is z never t y late (omega arith) synchronised
      ]

  -- what set the clock last in the block corrected it
  set_then : (x y : ℕ) (o : Option Happening) → z ≤ x → last_setting (earlier y v.records) device ≡ o
      → pos x ≤ℤ option_map_or (λ h. pos (time_of h)) o (negsuc 0) → has_time (state_left v device x) ≡ true
      → IsSynchronised (state_left v device y)
  set_then x y None soon e late timed = absurd (omega (arith, ints))
  set_then x y (Some h) soon e late timed =
      let at = setting_is v device y h e in
      let from : x ≤ time_of h = omega (arith, ints) in
      let told = not_told v device is h at.there (time_stays_on v device is z never x (time_of h) soon from timed) in
      let c = corrects_by device h.note.body at.sets told in
      corrected_then h c.cycle c.by c.adjustment y (omega arith) at.there c.is at.early

  -- a device that has the common time when a block begins is synchronised when it is over
  pub synchronised_by : PointsHaveCome → (n : ℕ) (over : BlockIsOver v n) → z ≤ over.before.next
      → HasTimeAt v device over.before.next
      → IsSynchronised (state_left v device over.next)
  synchronised_by come n over soon has =
      let x = over.before.next in
      let y = over.next in
      let ends = block_ends v n y over.before.hull over.before.is_hull over.is_over in
      let le : x ≤ y = omega (arith, ints, later_end n over.before is) in
      let new = come v n over device is (record {
        good = has.good;
        timed = time_stays_on v device is z never x y soon le has.timed;
      }) in
      set_then x y (last_setting (earlier y v.records) device) soon refl new has.timed

-- ---- a device that is on when the dispatches of a cycle begin has the common time when the cycle's block is over

-- a device that is on and has not the common time looks for it
looks_by : (state : State) → is_off state ≡ false → has_time state ≡ false → state ≡ Integrating
looks_by Off on untimed = absurd cc
looks_by Integrating on untimed = refl
looks_by state on untimed = absurd cc

-- such a device integrates by a frame of enough members, and of a cycle that frames may name
integrates_by : (plan : SyncPlan) (precision : ℤ) (state : State) (adjustment point : ℤ) (cycle : ℕ) (members : Members)
    → state ≡ Integrating → plan.threshold ≤ count_of members → cycle ≤ last_cycle
    → heard_as plan precision state adjustment point cycle members ≡ Integrates
integrates_by plan precision Integrating adjustment point cycle members looks enough few =
    rw (le-leb plan.threshold (count_of members) enough, le-leb cycle last_cycle few) refl
integrates_by plan precision state adjustment point cycle members looks enough few = absurd cc

-- a frame that the device hears at q, which tells it the time where it looks for it
pub record TellsAt (v : View) (device : DeviceId) (q : ℕ) : Type 0 where
  pub front : List Happening
  pub before : earlier q front ≡ earlier q v.records
  pub inside : (g : Happening) → IsIn g front → IsIn g v.records
  pub h : Happening
  pub there : IsIn h v.records
  pub at : time_of h ≡ q
  pub tells : state_at_hearing v.scenario front device q ≡ Integrating → is_joined_by device h.note.body ≡ true

module _ (v : View) (device : DeviceId) (is : IsView v) (z : ℕ) (never : KeepsFrom v device z) where
  -- it looks for the time where it hears, if no frame has told it the time by then
  looks_then : (q : ℕ) (front : List Happening) → earlier q front ≡ earlier q v.records
      → has_joined_at front device q ≡ false
      → IsOn (state_left v device q) → state_left v device q ≡ Integrating
      → state_at_hearing v.scenario front device q ≡ Integrating
  looks_then q front before none on looks =
      let s = v.scenario in
      rw none
      (ap (λ b. if b then Integrating else state_after s (earlier q front) device)
      (on_not_turned_on device q is on)
      ∙ ap (λ hs. state_after s hs device) before
      ∙ looks)

  module _ (x q y : ℕ) (late : z ≤ x) (on : IsOn (state_left v device x)) (from : x ≤ q) (to : q < y)
      (f : TellsAt v device q) where
    -- where a frame has told it the time by then, it has it from then on
    told_before : has_joined_at f.front device q ≡ true → IsTimed (state_left v device y)
    told_before joined =
        let g = any_in (λ h. time_of h == q && is_joined_by device h.note.body) f.front joined in
        let both = and_parts (time_of g.0 == q) (is_joined_by device g.0.note.body) g.2 in
        let at = eqb-true (time_of g.0) q both.0 in
        told_has_time v device is z never g.0 x y late (f.inside g.0 g.1) both.1 on (omega arith)
        (omega arith)

    -- and else the frame does
    told_now : has_joined_at f.front device q ≡ false → IsOn (state_left v device q)
        → state_left v device q ≡ Integrating → IsTimed (state_left v device y)
    told_now none on_then looks =
        told_has_time v device is z never f.h x y late f.there (f.tells
        (looks_then q f.front f.before none on_then looks)) on
        (omega (arith, f.at)) (omega (arith, f.at))

    -- a device that is on when it hears such a frame has the common time behind it
    pub told_by : IsTimed (state_left v device y)
    told_by =
        let on_then = stays_on v device is x q from on in
        elim (has_time (state_left v device q)) as (λ b. has_time (state_left v device q) ≡ b → IsTimed
        (state_left v device y)) [
          | true ↦ λ timed. time_stays_on v device is z never q y (omega arith) (omega arith) timed
          | false ↦ λ untimed.
              let looks = looks_by (state_left v device q) on_then untimed in
              elim (has_joined_at f.front device q) as
              (λ b. has_joined_at f.front device q ≡ b → IsTimed (state_left v device y)) [
                | true ↦ λ joined. told_before joined
                | false ↦ λ none. told_now none on_then looks
              ] refl
        ] refl

  -- what comes down to it is such a frame
  comes_tells : (channel : Channel) (n : ℕ) (first : Happening) (members : Members)
      (c : ComesDown v channel n device first members)
      → v.scenario.network.sync_threshold ≤ count_of members → suc n ≤ last_cycle → TellsAt v device c.q
  comes_tells channel n first members c enough few =
      let s = v.scenario in
      let enough_then : s.network.sync_threshold ≤ count_of c.frame.members =
      rw c.of_members enough in
      let few_then : c.frame.cycle ≤ last_cycle = rw c.of_cycle few in
      record {
        front = c.place.front;
        before = earlier_before (before_place v c.q _ c.place);
        inside = λ g i. subst (IsIn g) (sym c.place.whole) (in_left g c.place.front c.place.rest i);
        h = c.ripe.h;
        there = c.ripe.there;
        at = c.ripe.time;
        tells = λ state.
            (let judged = integrates_by (plan_of s.network device) (observation_window s.network)
            (state_at_hearing s c.place.front device c.q) _ c.point c.frame.cycle c.frame.members state enough_then
            few_then in
            let body = c.ripe.is
            ∙ ap (λ j. notes.Permanent device c.link c.arrival.note.number (record { 0 = c.point }) j)
            judged in
            ap (is_joined_by device) body ∙ eq-eqb device.0 device.0 refl);
      }

  -- and so is what a compression master sends, to itself
  sent_tells : (n : ℕ) (first : Happening) (members : Members) → IsEmission v first device (suc n) members
      → v.scenario.network.sync_threshold ≤ count_of members → suc n ≤ last_cycle → TellsAt v device (time_of first)
  sent_tells n first members e enough few =
      let s = v.scenario in
      let found = founded_at s v.records first is.run.founded e.there in
      let emits = subst (IsCaused s found.front first.note.time) e.is found.due.cause in
      record {
        front = found.front;
        before = earlier_before (before_of is found);
        inside = λ g i. subst (IsIn g) (sym found.whole) (in_left g found.front (first ∷ found.rest) i);
        h = first;
        there = e.there;
        at = refl;
        tells = λ state.
            (let judged = integrates_by (plan_of s.network device) (observation_window s.network)
            (state_at_hearing s found.front device (time_of first)) _ e.at.0 (suc n) members state enough few in
            let body = e.is
            ∙ ap (λ j. notes.Compressed device e.opened e.at (suc n) members j) (emits.heard ∙ judged) in
            ap (is_joined_by device) body ∙ eq-eqb device.0 device.0 refl);
      }

  -- what is on when the dispatches of the block's cycle begin, on a channel that is whole then and whose compression
  -- master sends the frame, has the time when the block is over
  pub has_time_on : BlocksGoSo → (channel : Channel) (n : ℕ) (over : BlockIsOver v n) (x : ℕ) (hull : Hull) → z ≤ x
      → IsGood v device → IsDeviceOf v.scenario.network channel device → hull_of v (suc n) ≡ Some hull
      → (so : SendsOn v channel n hull) → (device ≡ so.cm → ⊥) → IsWholeFrom v channel (time_of so.first)
      → IsOn (state_left v device x) → pos x ≤ℤ (hull.least +ℤ pos 1) → IsTimed (state_left v device over.next)
  has_time_on goes channel n over x hull late good member at so other intact on early =
      let s = v.scenario in
      let last = last_of over is in
      let t = last.last in
      let block : IsInBlock v n t = record {
        before = over.before;
        next = over.next;
        is_over = over.is_over;
        from = last.from;
        to = omega (arith, last.is_last);
        in_run = omega (arith, last.is_last, over.in_run);
      } in
      let ordered = hull_ordered n over.before is in
      let w = time_of so.first in
      let space = room is in
      let timed = sent_in_time over.before so.first is at so.near in
      let soon = timed.soon in
      let le : w + v.sizes.dmax + v.sizes.path ≤ t = omega (arith, ints, last.at) in
      let from : x ≤ w = omega (arith, ints, so.near.least) in
      let on_then : (u : ℕ) → w ≤ u → u + v.sizes.path ≤ w + v.sizes.dmax
      → is_off (state_before s v.records device u) ≡ false = λ u ge short.
      (let on_u = stays_on v device is x u (omega arith) on in
      rw (on_not_turned_on device u is on_u)
      on_u) in
      let few = few_cycles (suc n) hull is at (has_before v n hull (within_run is) at).begun in
      let c = comes_down v channel n t block is device so.cm member good so.is_cm so.first so.members so.emission
      timed goes intact other le on_then in
      told_by x c.q over.next late on (omega (arith, c.from)) (omega (arith, c.soon, last.is_last))
      (comes_tells channel n so.first so.members c so.enough few)

  -- so it has where it is that compression master
  pub has_time_itself : (channel : Channel) (n : ℕ) (over : BlockIsOver v n) (x : ℕ) (hull : Hull) → z ≤ x
      → hull_of v (suc n) ≡ Some hull → (so : SendsOn v channel n hull) → so.cm ≡ device
      → IsOn (state_left v device x) → pos x ≤ℤ (hull.least +ℤ pos 1) → IsTimed (state_left v device over.next)
  has_time_itself channel n over x hull late at so same on early =
      let last = last_of over is in
      let w = time_of so.first in
      let space = room is in
      let timed = sent_in_time over.before so.first is at so.near in
      let soon = timed.soon in
      let ordered = hull_ordered n over.before is in
      let from : x ≤ w = omega (arith, ints, so.near.least) in
      let few = few_cycles (suc n) hull is at (has_before v n hull (within_run is) at).begun in
      let e = rw same at so.emission in
      told_by x w over.next late on from (omega (arith, ints, last.at, last.is_last))
      (sent_tells n so.first so.members e so.enough few)

  -- so it has on the sound channel, where it is an end system
  pub has_time_by : SoundMasterSends → BlocksGoSo → (n : ℕ) (over : BlockIsOver v n) (x : ℕ) → z ≤ x
      → IsGoodEnd v device
      → IsOn (state_left v device x)
      → ((hull : Hull) → hull_of v (suc n) ≡ Some hull → pos x ≤ℤ (hull.least +ℤ pos 1))
      → IsTimed (state_left v device over.next)
  has_time_by sends goes n over x late end on early =
      let s = v.scenario in
      let last = last_of over is in
      let block : IsInBlock v n last.last = record {
        before = over.before;
        next = over.next;
        is_over = over.is_over;
        from = last.from;
        to = omega (arith, last.is_last);
        in_run = omega (arith, last.is_last, over.in_run);
      } in
      let ordered = hull_ordered n over.before is in
      let sent = sends v n last.last block is (omega (arith, ints, last.at)) in
      let so = sent.2 in
      let other : device ≡ so.cm → ⊥ = λ same.
      no_end_cm (device_at s.network device)
      (rw same (cm_is v v.channel so.cm so.is_cm).one) end.end in
      has_time_on goes v.channel n over x sent.0 late end.good (firm_member (inl end)) sent.1 so other
      (sound_is_whole (time_of so.first) is) on (early sent.0 sent.1)
