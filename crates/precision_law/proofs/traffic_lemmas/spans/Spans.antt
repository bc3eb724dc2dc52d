-- The span of a cycle: how synchronised devices stay so there, and when their clocks reach values.
use Rattle.std.proofs.{Common.{suc-mul, unsigned_abs}, Math.Nat.mul-le-mul_right}
use Rattle.std.proofs.{lemmas.{List.{Elements.filter-append, append-nil}, Map.Keys.any_passes_from_place}}
use Rattle.net_plan.specs.declared.event.What.TheVariants.{On}
use Rattle.precision_law.proofs.{block.Onward.set_before as changed_before}
use Rattle.precision_law.proofs.{clocks.Epochs.{clocks_have_reached, joiner_waits, state_stays}}
use Rattle.precision_law.proofs.{law.Precision.{new_shows, old_shows, set_shows}, records.Points.point_timed}
use Rattle.precision_law.proofs.{sizes.Instants.{instants_are_in_order, set_clocks_stay_at_correction}}
use Rattle.precision_law.proofs.traffic_lemmas.{ports.Cycles.hulls_grow}
use Rattle.precision_law.proofs.traffic_lemmas.Words
use Words.{if◌then◌else◌, ◌*◌, ◌++◌, ◌+ℤ◌, ◌+◌, ◌-◌, ◌<ℤ◌, ◌<◌, ◌==◌, ◌∙◌, ◌∷◌, ◌≡◌, ◌≤ℤ◌, ◌≤◌, ◌⊎◌, Bool, BringsBlocks}
use Words.{ChangesState, ComesTo, Corrected, DeviceId, Happening, Integrates, Integrating, IsBefore, IsCaused, IsDue}
use Words.{IsFounded, IsFoundedAt, IsIn, IsInBlock, IsInSchedule, IsInSpan, IsOldAt, IsTimedAt, IsView, Judgement, List}
use Words.{None, NoteBody, Option, Scenario, Some, Stands, State, Synchronised, TimedAreNotTurnedOn, Units, View, Why}
use Words.{[], adjustment_left, adjustment_stays, amount, ap, append_assoc, arith, before_narrow, before_of}
use Words.{begins_late, behind_first, between, block_ends, both_ways, by_lt_z, cases_lt, changes_adjustment}
use Words.{clocks_reach_sharply, earlier, earlier_before, earlier_parts, epoch_time, eq-eqb, false, false_from_ne_true}
use Words.{filter, fold, fold-append, follows_before, founded_at, has_before, has_time, hull_of, in_between, in_filter}
use Words.{in_left, in_order, inl, inr, ints, is_joined_by, is_synchronised, is_turned_on_at, last_correction, last_in}
use Words.{last_or, last_setting, le-ltb, lt-ltb, nat_lt, negsuc, none_kept, numbered_in, one_device, option_map_or}
use Words.{place_of, pos, refl, room, setting_is, shown_at, split, start_of, state_after, state_at_start, state_left}
use Words.{state_with, subst, suc, sym, time_of, true, within_run, zero, ℕ, ℤ}
use Rattle.precision_law.specs.{BlockLaws.{AreBeforeCorrections, BlocksGoSo}, Blocks.HasTimeAt}
use Rattle.precision_law.specs.{Hulls.{IsNarrow, first_correction, start_hull}, Standings.ShowsIn}
use Rattle.precision_law.specs.traffic.Spans
use Spans.{IsReachedInSpan, ReachesInSpan, SynchronisedKeepTime, SynchronisedStaySo, ValuesAreReached}
use Spans.{ValuesAreReachedInSpans}
use Rattle.run_law.{specs.{control.{Corrections.ComesToCorrection, Permanence.ripe_as}, runs.DueRecords.IsEventRecord}}
use Rattle.run_law.proofs.{control.Verdicts.looking_by, device.States.is_in, law.FirstDeliveries.front_founded}
use Rattle.run_law.proofs.{records.Order.{all_kept, soon}}
use Rattle.sync_state.specs.declared.answers.Verdict.{TheVariants.{AsyncClique, SyncClique}, Verdict}
use Rattle.tte_units.proofs.general_lemmas.{Integers.whole, Options.one}
use Rattle.run_law.specs.declared.judgement.Judgement.TheVariants as judgements
use Rattle.run_law.specs.declared.judgement.Why.TheVariants as whys
use Rattle.run_law.specs.declared.note.NoteBody.TheVariants as notes
use Rattle.run_law.specs.declared.steps.Ripe.TheVariants as ripe

-- ---- the clock of a synchronised device was last set by a correction: the earlier records

-- the records of earlier times are founded
pub earlier_founded : {v : View} (t : ℕ) → IsView v → IsFounded place_of (IsDue v.scenario) (earlier t v.records)
earlier_founded {v} t is =
    let at = split place_of (IsDue v.scenario) v.records (t ∷ []) is.run.founded in
    let none = none_kept (λ h. nat_lt (time_of h) t) at.rest (λ h i. elim (cases_lt (time_of h) t) [
      | inl lt ↦ absurd (at.none h i (inl lt))
      | inr ge ↦ le-ltb (time_of h) t ge
    ]) in
    let all = all_kept (λ h. nat_lt (time_of h) t) at.front (λ h i. lt-ltb (time_of h) t (soon h t (at.before h i))) in
    let same = sym all ∙ sym (append-nil (earlier t at.front)) ∙ ap (λ gs. earlier t at.front ++ gs)
    (sym none) ∙ sym (filter-append (λ h. nat_lt (time_of h) t) at.front at.rest) ∙ ap (earlier t) (sym at.whole) in
    let founded = front_founded place_of (IsDue v.scenario) at.front at.rest (subst (IsFounded place_of (IsDue v.scenario)) at.whole is.run.founded) in
    subst (IsFounded place_of (IsDue v.scenario)) same founded

-- ---- the last of the settings

-- each record stands before those behind it
abbrev pub AreInPlaces : List Happening → Type 0
AreInPlaces [] = Unit {0}
AreInPlaces (h ∷ hs) = ((g : Happening) → IsIn g hs → IsBefore (place_of h) (place_of g)) × AreInPlaces hs

-- the records of a founded list do
pub in_places : (s : Scenario) (ps qs : List Happening) → IsFounded place_of (IsDue s) (ps ++ qs) → AreInPlaces qs
in_places s ps [] founded = tt
in_places s ps (q ∷ qs) founded = (
  λ g i. behind_first place_of (IsDue s) ps qs q g founded i,
  in_places s (ps ++ q ∷ []) qs (subst (IsFounded place_of (IsDue s)) (sym (append_assoc ps (q ∷ []) qs)) founded),
)

-- of the records that pass a test none is behind the last
pub last_of : (p : Happening → Bool) (o : Option Happening) (xs : List Happening) (h g : Happening) → AreInPlaces xs → last_or o (filter p xs) ≡ Some h
    → IsIn g xs → p g ≡ true → (g ≡ h) ⊎ IsBefore (place_of g) (place_of h)
last_of p o [] h g order e i hit = absurd i
last_of p o (x ∷ xs) h g order e i hit =
    elim (p x) as (λ b. p x ≡ b → last_or o (if b then x ∷ filter p xs else filter p xs) ≡ Some h → (g ≡ h) ⊎ IsBefore (place_of g) (place_of h)) [
      | true ↦ λ at is. elim i [
        | inl same ↦ elim (last_in (Some x) (filter p xs) h is) [
          | inl one ↦ (inl (same ∙ cc))
          | inr more ↦ inr (rw same (order.0 h (in_filter p xs h more)))
        ]
        | inr more ↦ last_of p (Some x) xs h g order.1 is more hit
      ]
      | false ↦ λ at is. elim i [
        | inl same ↦ absurd (both_ways _ at (ap p (sym same) ∙ hit))
        | inr more ↦ last_of p o xs h g order.1 is more hit
      ]
    ] refl e

-- ---- the last setting of a synchronised device

-- it is no joining
not_joined : {v : View} (device : DeviceId) (t : ℕ) (h : Happening) → IsView v → state_left v device t ≡ Synchronised
    → last_setting (earlier t v.records) device ≡ Some h → is_joined_by device h.note.body ≡ false
not_joined {v} device t h is timed last =
    false_from_ne_true (is_joined_by device h.note.body)
    (λ joined. both_ways (is_synchronised (state_left v device t)) (joiner_waits device t h is last joined)
    (ap is_synchronised timed))

-- it is a correction of the device's clock
pub record IsCorrection (device : DeviceId) (body : NoteBody) : Type 0 where
  pub cycle : ℕ
  pub by : Units
  pub adjustment : Units
  pub is : body ≡ notes.Corrected device cycle by adjustment

-- what sets the clock and is no joining is a correction
is_correction_by : (device : DeviceId) (body : NoteBody) → changes_adjustment device body ≡ true → is_joined_by device body ≡ false → IsCorrection device body
is_correction_by device (notes.Corrected d cycle by adjustment) sets not =
    let same = one_device device d sets in
    record { cycle = cycle; by = by; adjustment = adjustment; is = rw same }
is_correction_by device body sets not = absurd (both_ways _ not sets)

pub last_is_correction : {v : View} (device : DeviceId) (t : ℕ) (h : Happening) → IsView v
    → state_left v device t ≡ Synchronised → last_setting (earlier t v.records) device ≡ Some h
    → IsCorrection device h.note.body
last_is_correction {v} device t h is timed last =
    is_correction_by device h.note.body (setting_is v device t h last).sets (not_joined device t h is timed last)

-- ---- the span of a cycle: what clocks show there, and when they reach a value of the schedule: devices with the time

-- a synchronised device has the common time
pub has_time_at : {v : View} {device : DeviceId} {t : ℕ} → IsTimedAt v device t → HasTimeAt v device t
has_time_at timed = grind (arith, state_left, has_time)

-- a synchronised device whose clock was set in the block was corrected, not before the first correction
pub corrected_late : {v : View} {n t : ℕ} (block : IsInBlock v n t) {device : DeviceId} (o : Option Happening)
    → BlocksGoSo → IsView v → IsTimedAt v device t → last_setting (earlier t v.records) device ≡ o
    → pos block.before.next ≤ℤ option_map_or (λ h. pos (time_of h)) o (negsuc 0)
    → (first_correction v.sizes block.before.hull +ℤ pos v.sizes.reach) <ℤ pos t
corrected_late block None goes is timed e late = absurd (omega (arith, ints))
corrected_late {v} {n} {t} block {device} (Some h) goes is timed e late =
    let at = setting_is v device t h e in
    let set = last_is_correction device t h is timed.synchronised e in
    let found = founded_at v.scenario v.records h is.run.founded at.there in
    let cause : IsCaused v.scenario found.front h.note.time (notes.Corrected device set.cycle set.by set.adjustment) = subst
    (IsCaused v.scenario found.front h.note.time) set.is found.due.cause in
    let split = before_of is found in
    let has : HasTimeAt v device (time_of h) = record {
      good = timed.good;
      timed = point_timed split cause.corrected;
    } in
    let comes : ComesTo v (time_of h) device set.cycle (Corrected set.by) = record { front = found.front; split = split; point = cause.corrected } in
    let here : IsInBlock v n (time_of h) = record {
      before = block.before;
      next = block.next;
      is_over = block.is_over;
      from = omega (arith, ints);
      to = omega (arith, at.early, block.to);
      in_run = omega (arith, at.early, block.in_run);
    } in
    let so = goes v n (time_of h) here is in
    let old = so.old_alone device set.cycle (Corrected set.by) has comes (λ e. cc) in
    let point = so.points device set.cycle (Corrected set.by) has old comes in
    omega (arith, ints, point.not_early, at.early)

pub synchronised_keep_time : BringsBlocks → SynchronisedKeepTime
synchronised_keep_time brings v n t span device is timed =
    let old =
    by_lt_z (epoch_time (earlier t v.records) device) (pos span.block.before.next)
    (λ lt. lt)
    (λ late. (let after = corrected_late span.block (last_setting (earlier t v.records) device) brings.goes is
    timed refl
    late in absurd (omega (arith, ints, span.early)))) in
    record { old = old; shows = old_shows span.block is (omega arith) (has_time_at timed) old }

-- ---- reaching

-- a clock that was set before the block reaches the value in no other cycle
same_cycle : {v : View} (n : ℕ) {k value t : ℕ} (block : IsInBlock v k t) {shown : ℤ} → IsView v → 1 ≤ n
    → IsInSchedule v.sizes value → ShowsIn v.sizes shown k block.before.hull t
    → pos (n * v.sizes.cycle + value) ≤ℤ shown → shown ≤ℤ
    (pos (n * v.sizes.cycle + value) +ℤ pos (2 * v.sizes.grain)) → k ≡ n
same_cycle {v} n {k} {t} block {shown} is begun within shows least most =
    let space = room is in
    let ends = block_ends v k block.next block.before.hull block.before.is_hull block.is_over in
    let narrow = before_narrow block.before in
    elim (cases_lt k n) [
      | inl lt ↦
          let more : suc k * v.sizes.cycle ≤ n * v.sizes.cycle = mul-le-mul_right v.sizes.cycle (omega arith) in
          let one = suc-mul k v.sizes.cycle in
          absurd (omega (arith, ints, shows.most, block.to, within.begins, space.eight_errors, space.errors.reach_is))
      | inr ge ↦ elim (cases_lt n k) [
        | inl lt ↦ absurd (by k block shows lt)
        | inr le ↦ omega arith
      ]
    ]
  where
    by : (k : ℕ) (block : IsInBlock v k t) → ShowsIn v.sizes shown k block.before.hull t → n < k → ⊥
    by zero block shows lt = absurd (omega arith)
    by (suc j) block shows lt =
        let space = room is in
        let late = begins_late j block.before is in
        let more : suc n * v.sizes.cycle ≤ suc j * v.sizes.cycle = mul-le-mul_right v.sizes.cycle (omega arith) in
        let one = suc-mul n v.sizes.cycle in
        absurd (omega (arith, ints, shows.least, block.from, within.ends, space.eight_errors, space.errors.reach_is))

pub values_are_reached_in_spans : BringsBlocks → ValuesAreReachedInSpans
values_are_reached_in_spans brings v n value t device is timed in_run begun within reaches =
    let covered = brings.cover v t is in_run in
    let k = covered.0 in
    let block = covered.1 in
    let space = room is in
    let sharp = clocks_reach_sharply v device (pos (n * v.sizes.cycle + value)) t is reaches in
    let least : pos (n * v.sizes.cycle + value) ≤ℤ shown_at v device t = omega (arith, ints, sharp.least) in
    let most : shown_at v device t ≤ℤ (pos (n * v.sizes.cycle + value) +ℤ pos (2 * v.sizes.grain)) = omega (arith, ints, sharp.most) in
    let has = has_time_at timed in
    let ends = block_ends v k block.next block.before.hull block.before.is_hull block.is_over in
    let narrow = before_narrow block.before in
    by_lt_z (epoch_time (earlier t v.records) device) (pos block.before.next)
    (λ old.
    let shows = old_shows block is (omega arith) has old in
    let same = same_cycle n block is begun within shows least most in
    let whole : n * v.sizes.cycle ≡ k * v.sizes.cycle = rw (sym same) in
    let not_late : pos t ≤ℤ ((block.before.hull.greatest +ℤ pos value) +ℤ pos v.sizes.reach) = omega
    (arith, ints, shows.least, space.errors.reach_is) in
    let here : IsReachedInSpan v k value t = record {
      span = record { block = block; early = omega (arith, ints, within.ends, space.eight_errors) };
      not_early = omega (arith, ints, shows.most, space.errors.reach_is);
      not_late = not_late;
    } in
    rw same at here)
    (λ late.
    let each = λ (w : ℕ) (from : block.before.next ≤ w) (less : w < t). brings.goes v k w (record {
      before = block.before;
      next = block.next;
      is_over = block.is_over;
      from = from;
      to = omega (arith, block.to);
      in_run = omega (arith, block.in_run);
    }) is in
    let set = new_shows block each is (omega arith) has (last_setting (earlier t v.records) device) refl late in
    let shows = set_shows block is set in
    let after = corrected_late block (last_setting (earlier t v.records) device) brings.goes is timed refl late in
    let near = set_clocks_stay_at_correction v.sizes (shown_at v device t) (suc k) t block.before.hull set.hull space narrow
    (follows_before k block.before.hull set.hull is block.before.is_hull set.is_hull)
    (omega (arith, ints)) (omega (arith, ints, block.to)) shows in
    absurd (elim (cases_lt k n) [
      | inl lt ↦ (let more : suc k * v.sizes.cycle ≤ n * v.sizes.cycle = mul-le-mul_right v.sizes.cycle (omega arith) in
          omega (
            arith,
            ints,
            near.most,
            within.begins,
            space.eight_errors,
            space.errors.reach_is,
            space.errors.clock_is,
          ))
      | inr ge ↦ (let more = mul-le-mul_right v.sizes.cycle ge in
          let one = suc-mul k v.sizes.cycle in
          omega (
            arith,
            ints,
            near.least,
            within.ends,
            space.eight_errors,
            space.errors.reach_is,
            space.errors.clock_is,
          ))
    ]))

-- ---- a synchronised device stays so in the span of a cycle: who joins

-- the judgement that is an integration
pub ripe_integrates : (j : Judgement) → ripe.Integrates ≡ ripe_as j → Integrates ≡ j
ripe_integrates judgements.Opened e = absurd cc
ripe_integrates judgements.Joined e = absurd cc
ripe_integrates judgements.Repeat e = absurd cc
ripe_integrates judgements.Within e = absurd cc
ripe_integrates judgements.Outside e = absurd cc
ripe_integrates judgements.Integrates e = refl
ripe_integrates judgements.Ignored e = absurd cc

-- ---- who is turned on

-- the device of an `on` event's record is turned on at its time
pub turned_on_by : (s : Scenario) {time : Units} {line : ℕ} (device : DeviceId)
    → IsEventRecord s.events time line (On device) → is_turned_on_at s device (amount time) ≡ true
turned_on_by s device r = grind (arith, eq-eqb, amount, any_passes_from_place)

-- ---- an instant at which nothing changes

-- the device's correction point does not come at the instant
abbrev HasNoPoint : View → DeviceId → ℕ → Type 0
HasNoPoint v device t =
    (front : List Happening) (cycle : ℕ) (verdict : Verdict) → AreBeforeCorrections v t front → ComesToCorrection v.scenario front device t cycle verdict → ⊥

-- the record leaves the device's clock and its state
record Leaves (device : DeviceId) (body : NoteBody) : Type 0 where
  pub clock : changes_adjustment device body ≡ false
  pub state : state_with device Synchronised body ≡ Synchronised

-- no frame tells a synchronised device the time
pub no_joining : {v : View} (device : DeviceId) (h : Happening) → IsView v → IsIn h v.records
    → state_left v device (time_of h) ≡ Synchronised → is_turned_on_at v.scenario device (time_of h) ≡ false
    → is_joined_by device h.note.body ≡ false
no_joining {v} device h is i timed not_on =
    let s = v.scenario in
    let found = founded_at s v.records h is.run.founded i in
    let same = earlier_before (before_of is found) in
    false_from_ne_true (is_joined_by device h.note.body) (λ joined.
    let was = looking_by s found.front h.note.time device h.note.body joined found.due.cause in
    let left : state_after s (earlier (time_of h) found.front) device ≡ Synchronised = rw same timed in
    apart (is_turned_on_at s device (time_of h)) (state_after s (earlier (time_of h) found.front) device) not_on left was)
  where
    apart : (b : Bool) (state : State) → b ≡ false → state ≡ Synchronised → (if b then Integrating else state) ≡ Integrating → ⊥
    apart true state off is e = cc
    apart false state off is e = cc

-- no correction of the device comes where its point does not
no_correction : {v : View} (device : DeviceId) (h : Happening) (cycle : ℕ) (by adjustment : Units) → IsView v
    → IsIn h v.records → HasNoPoint v device (time_of h) → h.note.body ≡ notes.Corrected device cycle by adjustment
    → ⊥
no_correction {v} device h cycle by adjustment is i none body =
    let found = founded_at v.scenario v.records h is.run.founded i in
    let caused : IsCaused v.scenario found.front h.note.time (notes.Corrected device cycle by adjustment) = subst (IsCaused v.scenario found.front h.note.time)
    body found.due.cause in
    none found.front cycle (Corrected by) (before_of is found) caused.corrected

-- the state of the device does not change
no_change : {v : View} (device : DeviceId) {h : Happening} (state : State) (cause : ℕ) (why : Why) → IsView v
    → IsIn h v.records → state_left v device (time_of h) ≡ Synchronised
    → is_turned_on_at v.scenario device (time_of h) ≡ false → HasNoPoint v device (time_of h)
    → (found : IsFoundedAt v.scenario v.records h) → ChangesState v.scenario found.front device
    (time_of h) state cause why → ⊥
no_change {v} device state cause whys.On is i timed not_on none found c =
    let g = c.2.1 in
    let j = numbered_in found.front cause g c.2.2.there in
    let at = founded_at v.scenario found.front g found.founded j in
    let caused : IsCaused v.scenario at.front g.note.time (notes.Event c.2.0 (On device)) = subst (IsCaused v.scenario at.front g.note.time) c.2.3 at.due.cause
    in
    let on = turned_on_by v.scenario device caused in
    both_ways _ not_on (ap (is_turned_on_at v.scenario device) (sym c.2.2.same_time) ∙ on)
no_change {v} device {h} state cause whys.Frame is i timed not_on none found c =
    let g = c.1.0 in
    let j = numbered_in found.front cause g c.1.1.there in
    let in_all : IsIn g v.records = subst (IsIn g) (sym found.whole) (in_left g found.front (h ∷ found.rest) j) in
    let same = c.1.1.same_time in
    both_ways _ (no_joining device g is in_all (rw same timed)
    (rw same not_on)) c.1.2
no_change {v} device {h} state cause whys.Correction is i timed not_on none found c =
    let g = c.2.3 in
    let j = numbered_in found.front cause g c.2.4.there in
    let in_all : IsIn g v.records = subst (IsIn g) (sym found.whole) (in_left g found.front (h ∷ found.rest) j) in
    no_correction device g c.2.0 c.2.1 c.2.2 is in_all (subst (HasNoPoint v device) (sym c.2.4.same_time) none) c.2.5
no_change device state cause whys.SyncClique is i timed not_on none found c =
    none found.front c.2.0 SyncClique (before_of is found) c.2.1
no_change device state cause whys.AsyncClique is i timed not_on none found c =
    none found.front c.2.0 AsyncClique (before_of is found) c.2.1

-- no record of the instant changes anything of the device
leaves_by : {v : View} (device : DeviceId) (h : Happening) (body : NoteBody) → IsView v → IsIn h v.records
    → state_left v device (time_of h) ≡ Synchronised → is_turned_on_at v.scenario device (time_of h) ≡ false
    → HasNoPoint v device (time_of h) → h.note.body ≡ body → is_joined_by device body ≡ false → Leaves device body
leaves_by {v} device h (notes.State other state cause why) is i timed not_on none body joined =
    record { clock = refl; state = by (device.0 == other.0) refl }
  where
    by : (b : Bool) → (device.0 == other.0) ≡ b → (if b then state else Synchronised) ≡ Synchronised
    by false e = refl
    by true e =
        let found = founded_at v.scenario v.records h is.run.founded i in
        let caused : ChangesState v.scenario found.front other (time_of h) state cause why = subst (IsCaused v.scenario found.front h.note.time) body
        found.due.cause in
        let own = rw (one_device device other e) at caused in
        absurd (no_change device state cause why is i timed not_on none found own)
leaves_by device h (notes.Corrected other cycle by adjustment) is i timed not_on none body joined =
    record {
      clock = false_from_ne_true (device.0 == other.0)
          (λ e. no_correction device h cycle by adjustment is i none
          (body ∙ ap (λ d. notes.Corrected d cycle by adjustment) (one_device device other e)));
      state = refl;
    }
leaves_by device h (notes.Permanent other link cause point Integrates) is i timed not_on none body joined =
    record { clock = joined; state = rw joined refl }
leaves_by device h (notes.Compressed other opened at cycle members Integrates) is i timed not_on none body joined =
    record { clock = joined; state = rw joined refl }
leaves_by device h body is i timed not_on none same joined = record { clock = refl; state = refl }

-- ---- from an instant to the next

-- where each of them leaves the device, all do
fold_leaves : (device : DeviceId) (hs : List Happening) → ((h : Happening) → IsIn h hs → Leaves device h.note.body) → (old : State) → old ≡ Synchronised
    → fold (λ state h. state_with device state h.note.body) old hs ≡ Synchronised
fold_leaves device [] each old e = e
fold_leaves device (h ∷ hs) each old e =
    fold_leaves device hs (λ g i. each g (inr i)) (state_with device old h.note.body) (rw e
    (each h (inl refl)).state)

-- the device stands as before at the next instant
pub stands_on : {v : View} (device : DeviceId) (t : ℕ) → IsView v → state_left v device t ≡ Synchronised
    → is_turned_on_at v.scenario device t ≡ false → HasNoPoint v device t
    → (state_left v device (t + 1) ≡ Synchronised) × (last_setting (earlier (t + 1) v.records) device
    ≡ last_setting (earlier t v.records) device)
stands_on {v} device t is timed not_on none =
    let sets = λ (h : Happening). changes_adjustment device h.note.body in
    let hs = between t (t + 1) v.records in
    let parts = earlier_parts t (t + 1) v.records (in_order is) (omega arith) in
    let each : (h : Happening) → IsIn h hs → Leaves device h.note.body = λ h i.
    let there = in_between t (t + 1) v.records h i in
    let same : time_of h ≡ t = omega (arith, there.1, there.2) in
    let here = rw (sym same) at timed in
    let off = rw (sym same) at not_on in
    let no_point = subst (HasNoPoint v device) (sym same) none in
    leaves_by device h h.note.body is there.0 here off no_point refl (no_joining device h is there.0 here off) in
    let none_sets = none_kept sets hs (λ h i. (each h i).clock) in
    let apart = fold-append (λ state h. state_with device state h.note.body)
    (state_at_start (start_of v.scenario.network device))
    (earlier t v.records) hs in (
      rw parts (apart ∙ fold_leaves device hs each (state_left v device t) timed),
      ap (last_or None) (ap (filter sets) parts ∙ filter-append sets (earlier t v.records) hs
          ∙ ap (λ xs. filter sets (earlier t v.records) ++ xs) none_sets ∙ append-nil
          (filter sets (earlier t v.records))),
    )

-- ---- in a span

-- after so many instants
stays_for : BringsBlocks → TimedAreNotTurnedOn → {v : View} {n u t : ℕ} (more : ℕ) (span : IsInSpan v n t)
    {device : DeviceId} → IsView v → span.block.before.next ≤ u → u + more ≤ t → IsTimedAt v device u
    → IsOldAt v span.block.before.next device u → IsTimedAt v device (u + more)
    × IsOldAt v span.block.before.next device (u + more)
stays_for brings never {v} {u} zero span {device} is from le timed old =
    let same : u ≡ u + zero = omega arith in
    (subst (IsTimedAt v device) same timed, subst (IsOldAt v span.block.before.next device) same old)
stays_for brings never {v} {n} {u} (suc more) span {device} is from le timed old =
    let x = u + more in
    let here = stays_for brings never more span is from (omega arith) timed old in
    let block : IsInBlock v n x = record {
      before = span.block.before;
      next = span.block.next;
      is_over = span.block.is_over;
      from = omega arith;
      to = omega (arith, span.block.to);
      in_run = omega (arith, span.block.in_run);
    } in
    let none : HasNoPoint v device x = λ front cycle verdict split point.
    let comes : ComesTo v x device cycle verdict = record { front = front; split = split; point = point } in
    let at = (brings.goes v n x block is).points device cycle verdict (has_time_at here.0) here.1 comes in
    absurd (omega (arith, ints, at.not_early, span.early)) in
    let next = stands_on device x is here.0.synchronised (never v device x is (has_time_at here.0).timed) none in
    let same : x + 1 ≡ u + suc more = omega arith in (
      subst (IsTimedAt v device) same (record { good = timed.good; synchronised = next.0 }),
      subst (IsOldAt v span.block.before.next device) same
          (rw next.1 here.1),
    )

pub synchronised_stay_so : BringsBlocks → TimedAreNotTurnedOn → SynchronisedStaySo
synchronised_stay_so brings never v n u t span device is from le timed old =
    let same : u + (t - u) ≡ t = omega arith in
    let there = stays_for brings never (t - u) span is from (omega arith) timed old in
    (subst (IsTimedAt v device) same there.0, subst (IsOldAt v span.block.before.next device) same there.1)

-- ---- a device that is synchronised when the span of a cycle begins reaches each value of the schedule there

-- ---- the beginning of a span

-- it is soon behind the hull
pub begins_soon : {v : View} (n : ℕ) (stands : Stands v (suc n)) → IsView v
    → pos stands.next ≤ℤ (stands.hull.least +ℤ pos (v.sizes.correction + v.sizes.spread + 3 * v.sizes.reach + 1))
begins_soon {v} n stands is =
    let over = stands.is_over in
    let there = stands.narrow n (omega arith) in
    let same = one (hull_of v n) there.0 over.0 there.1 over.1 in
    let narrow : IsNarrow v.sizes over.0 = subst (IsNarrow v.sizes) same there.2 in
    let order = instants_are_in_order v.sizes over.0 stands.hull (room is) narrow
    (follows_before n over.0 stands.hull is over.1 stands.is_hull) in
    omega (arith, ints, over.2, order.last_not_late)

-- a later cycle's hull lies behind time 0
pub hull_behind : {v : View} (n : ℕ) (stands : Stands v (suc n)) → IsView v
    → (pos 0 <ℤ stands.hull.least) × (stands.hull.least ≤ℤ stands.hull.greatest)
hull_behind {v} n stands is =
    let grow = hulls_grow 0 (suc n) (start_hull v.sizes) stands.hull is (omega arith) refl stands.is_hull in
    let space = room is in
    let has = has_before v n stands.hull (within_run is) stands.is_hull in (
      omega (arith, ints, space.many_errors, space.many_starts, space.errors.reach_is, space.errors.clock_is),
      has.follows.ordered,
    )

-- all that the records before a time have set was set before it
pub set_before : (v : View) (device : DeviceId) (t : ℕ) (o : Option Happening) → last_setting (earlier t v.records) device ≡ o
    → option_map_or (λ h. pos (time_of h)) o (negsuc 0) <ℤ pos t
set_before v device t None e = omega (arith, ints)
set_before v device t (Some h) e = (let at = setting_is v device t h e in omega (arith, ints, at.early))

-- ---- reaching

-- the same, where the last time of the value and the end of the span are numbers
reached_by : BringsBlocks → TimedAreNotTurnedOn → {v : View} (c : ℕ) {value : ℕ} (t next : ℕ)
    (before : Stands v (suc c)) {device : DeviceId} → IsView v → IsTimedAt v device before.next → 1 ≤ suc c
    → IsInSchedule v.sizes value → ((before.hull.greatest +ℤ pos value) +ℤ pos v.sizes.reach) ≤ℤ pos v.until
    → ((before.hull.greatest +ℤ pos value) +ℤ pos v.sizes.reach) ≡ pos t
    → (last_correction v.sizes before.hull +ℤ pos 1) ≡ pos next → ReachesInSpan v (suc c) value device
reached_by brings never {v} c {value} t next before {device} is timed begun within in_run t_is next_is =
    let n = suc c in
    let space = room is in
    let narrow = before_narrow before in
    let soon = begins_soon c before is in
    let behind = hull_behind c before is in
    let span_at : (x : ℕ) → before.next ≤ x → x ≤ t → IsInSpan v n x = λ x from to. record {
      block = record {
        before = before;
        next = next;
        is_over = (before.hull, before.is_hull, sym next_is);
        from = from;
        to = omega (arith, ints, within.ends, space.eight_errors);
        in_run = omega (arith, ints);
      };
      early = omega (arith, ints, within.ends, space.eight_errors);
    } in
    let later : before.next ≤ t = omega (arith, ints, behind.1, within.begins, space.eight_errors) in
    let in_time : t ≤ v.until = omega (arith, ints) in
    let old = set_before v device before.next (last_setting (earlier before.next v.records) device) refl in
    let stays : (x : ℕ) (from : before.next ≤ x) (to : x ≤ t) → IsTimedAt v device x × IsOldAt v before.next device x = λ x from to.
    synchronised_stay_so brings never v n before.next x (span_at x from to) device is (omega arith) from timed old in
    let first = span_at before.next (omega arith) later in
    let begin = synchronised_keep_time brings v n before.next first device is timed in
    let final = span_at t later (omega arith) in
    let there = stays t later (omega arith) in
    let at_end = synchronised_keep_time brings v n t final device is there.0 in
    let same : adjustment_left v device before.next ≡ adjustment_left v device t = ap (λ a. a.0)
    (adjustment_stays device before.next t is later there.1) in
    let changed = changed_before (last_setting (earlier t v.records) device) before.next there.1 in
    let lt : before.next < t = omega (arith, ints, behind.1, within.begins, space.eight_errors) in
    let below : (pos (v.scenario.reading device before.next) +ℤ adjustment_left v device t) <ℤ pos (n * v.sizes.cycle + value) =
    omega (arith, ints, begin.shows.most, within.begins, space.eight_errors, space.errors.reach_is) in
    let above : pos (n * v.sizes.cycle + value) ≤ℤ (pos (v.scenario.reading device t) +ℤ adjustment_left v device t) =
    omega (arith, ints, at_end.shows.least, space.errors.reach_is) in
    let found = clocks_have_reached v device (pos (n * v.sizes.cycle + value)) before.next t is changed lt below above in
    let u = found.0 in
    let here = stays u (omega (arith, found.1)) found.2 in
    record {
      at = u;
      in_span = values_are_reached_in_spans brings v n value u device is here.0 (omega (arith, found.2)) begun within
          found.3;
      timed = here.0;
      reached = found.3;
    }

pub values_are_reached : BringsBlocks → TimedAreNotTurnedOn → ValuesAreReached
values_are_reached brings never v zero value before device is timed begun within in_run = absurd (omega arith)
values_are_reached brings never v (suc c) value before device is timed begun within in_run =
    let behind = hull_behind c before is in
    let last : ℤ = (before.hull.greatest +ℤ pos value) +ℤ pos v.sizes.reach in
    let end = last_correction v.sizes before.hull +ℤ pos 1 in
    reached_by brings never c (unsigned_abs last) (unsigned_abs end) before is timed begun within in_run
    (whole last (omega (arith, ints, behind.0, behind.1))) (whole end (omega (arith, ints, behind.0, behind.1)))

-- ---- since when a synchronised device has been so: backwards

-- the record leaves no device synchronised that was not
abbrev pub Keeps : DeviceId → NoteBody → Type 0
Keeps device body = (old : State) → state_with device old body ≡ Synchronised → old ≡ Synchronised

-- where each record leaves none synchronised that was not, all do
pub kept_by_all : (device : DeviceId) (hs : List Happening) → ((h : Happening) → IsIn h hs → Keeps device h.note.body) → (old : State)
    → fold (λ state h. state_with device state h.note.body) old hs ≡ Synchronised → old ≡ Synchronised
kept_by_all device [] each old e = e
kept_by_all device (h ∷ hs) each old e = each h (inl refl) old (kept_by_all device hs (λ g i. each g (inr i)) (state_with device old h.note.body) e)

-- a state that is another device's leaves this one's
pub kept_if : (b : Bool) (state old : State) → (b ≡ true → state ≡ Synchronised → ⊥) → (if b then state else old) ≡ Synchronised → old ≡ Synchronised
kept_if true state old never e = absurd (never refl e)
kept_if false state old never e = e

-- a device that is synchronised before t has been so since its clock was last set
pub synchronised_stays : {v : View} (device : DeviceId) (u t : ℕ) → IsView v → u ≤ t
    → epoch_time (earlier t v.records) device <ℤ pos u → state_left v device t ≡ Synchronised
    → state_left v device u ≡ Synchronised
synchronised_stays {v} device u t is le early timed =
    is_in (state_left v device u) (state_stays is_synchronised refl device u t is le early (ap is_synchronised timed))
