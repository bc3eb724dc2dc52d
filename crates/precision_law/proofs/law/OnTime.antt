-- The clocks of synchronised devices keep near ideal clocks and world time, and reach values on time.
use Rattle.precision_law.{specs.WorldTime.{ClocksKeepWorldTime, IsNearTime}}
use Rattle.precision_law.proofs.{sizes.Few.not_before}
use Rattle.precision_law.proofs.words.{Plans.{Channel, Corrected, DeviceId, Synchronised, Units}}
use Rattle.precision_law.proofs.words.Blocks
use Blocks.{all_in_hulls, before_narrow, block_ends, corrections_go_on, earlier_in_block, follows_before}
use Blocks.{from_to_of_cut, from_to_of_run, hull_is_from_to, hulls_are_narrow, known_dispatch, new_shows}
use Blocks.{not_integrating, old_shows, set_shows, timed_of, up_to_is, view_of, view_with}
use Rattle.precision_law.proofs.words.Clocks
use Clocks.{IsCutAt, before_of, clocks_reach_sharply, has_before, instants_are_in_order, joiner_waits, one_more}
use Clocks.{point_timed, reaches_by, room, same_device, set_clocks_stay_at_correction, setting_is, settings_stay}
use Clocks.{time_stays, within_run}
use Rattle.precision_law.proofs.words.Laws
use Laws.{AreFromTo, BlocksCover, BlocksGoSo, ClocksKeepTheSpan, ClocksKeepTheirCycles, ComesTo, HasTimeAt, HaveRoom}
use Laws.{Hull, IsBehindCorrections, IsBetweenIdeals, IsInBlock, IsNarrow, IsNotBefore, IsView, KeepsCycle}
use Laws.{OneChannelIsSound, ShowsIn, Sizes, Stands, ValuesAreReachedOnTime, View, adjustment_left, cycle_set}
use Laws.{epoch_cycle, epoch_time, first_correction, hull_of, last_setting, start_hull, state_left}
use Rattle.precision_law.proofs.words.Runs
use Runs.{Happening, IsCaused, NoteBody, Reaches, Scenario, adjustment_after, changes_adjustment, cycle_in, earlier}
use Runs.{founded_at, happenings, is_broken, is_joined_by, is_synchronised, is_turned_on_at, same_some, state_after}
use Runs.{time_of}
use Rattle.precision_law.proofs.words.Std
use Std.{◌*◌, ◌+ℤ◌, ◌+◌, ◌-◌, ◌<ℤ◌, ◌<◌, ◌∙◌, ◌≡◌, ◌≤ℤ◌, ◌≤◌, List, None, Option, Some, ap, arith, both_ways, by_lt_z}
use Std.{cases_lt, false, false_from_ne_true, inl, inr, ints, mul-le-mul_right, negsuc, option_map_or, pos, refl, subst}
use Std.{suc, sym, true, zero, ℕ, ℤ}
use Rattle.run_law.specs.declared.note.NoteBody.TheVariants as notes

-- ---- the clocks of synchronised devices reach the values of the schedule on time

-- ---- a synchronised device's clock was corrected last

-- the record corrects the device's clock
pub record CorrectsClock (device : DeviceId) (body : NoteBody) : Type 0 where
  pub cycle : ℕ
  pub by : Units
  pub adjustment : Units
  pub is : body ≡ notes.Corrected device cycle by adjustment

-- what sets the clock and is no joining does
pub corrects_by : (device : DeviceId) (body : NoteBody) → changes_adjustment device body ≡ true → is_joined_by device body ≡ false → CorrectsClock device body
corrects_by device (notes.Corrected other cycle by adjustment) sets none =
    record {
      cycle = cycle;
      by = by;
      adjustment = adjustment;
      is = rw (same_device device other sets);
    }
corrects_by device body sets none = absurd (both_ways _ none sets)

-- the record that set a synchronised device's clock last corrected it
pub last_corrects : {v : View} (device : DeviceId) (t : ℕ) (h : Happening) → IsView v
    → state_left v device t ≡ Synchronised → last_setting (earlier t v.records) device ≡ Some h
    → CorrectsClock device h.note.body
last_corrects {v} device t h is synchronised last =
    corrects_by device h.note.body (setting_is v device t h last).sets (false_from_ne_true (is_joined_by device h.note.body)
    (λ joined. both_ways (is_synchronised (state_left v device t)) (joiner_waits device t h is last joined)
    (ap is_synchronised synchronised)))

-- one whose clock was set in the block was corrected there, not before the first correction
pub corrected_late : {v : View} {n t : ℕ} (block : IsInBlock v n t) {device : DeviceId} (o : Option Happening)
    → BlocksGoSo → IsView v → HasTimeAt v device t → state_left v device t ≡ Synchronised
    → last_setting (earlier t v.records) device ≡ o → pos block.before.next ≤ℤ option_map_or (λ h. pos (time_of h)) o
    (negsuc 0) → (first_correction v.sizes block.before.hull +ℤ pos v.sizes.reach) <ℤ pos t
corrected_late block None goes is has synchronised e late = absurd (omega (arith, ints))
corrected_late {v} {n} {t} block {device} (Some h) goes is has synchronised e late =
    let at = setting_is v device t h e in
    let set = last_corrects device t h is synchronised e in
    let found = founded_at v.scenario v.records h is.run.founded at.there in
    let cause = subst (IsCaused v.scenario found.front h.note.time) set.is found.due.cause in
    let split = before_of is found in
    let then_has : HasTimeAt v device (time_of h) = record {
      good = has.good;
      timed = point_timed split cause.corrected;
    } in
    let comes : ComesTo v (time_of h) device set.cycle (Corrected set.by) = record { front = found.front; split = split; point = cause.corrected } in
    let here = earlier_in_block _ _ _ _ block (omega (arith, ints)) (omega arith) in
    let so = goes v n (time_of h) here is in
    let old = so.old_alone device set.cycle (Corrected set.by) then_has comes (λ e. cc) in
    omega (arith, ints, (so.points device set.cycle (Corrected set.by) then_has old comes).not_early, at.early)

-- ---- reaching

-- the value lies so in a cycle
pub record IsInCycle (v : View) (value : ℕ) : Type 0 where
  pub begins : v.sizes.correction + v.sizes.dmax + 4 * v.sizes.precision ≤ value
  pub ends : value + 4 * v.sizes.precision ≤ v.sizes.cycle

-- behind the end of a cycle's block its hull lies a correction back
pub begins_late : {v : View} (n : ℕ) (stands : Stands v (suc n)) → IsView v
    → ((stands.hull.greatest +ℤ pos (v.sizes.correction + v.sizes.reach)) +ℤ pos 1) ≤ℤ pos stands.next
begins_late {v} n stands is =
    let there = stands.narrow n (omega arith) in
    let order = instants_are_in_order v.sizes there.0 stands.hull (room is) there.2
    (follows_before n there.0 stands.hull is there.1 stands.is_hull) in
    omega (arith, ints, block_ends v n stands.next there.0 there.1 stands.is_over, order.last_not_early)

-- the instant lies so far from the hull of the cycle
pub record IsReachedFrom (v : View) (n value t : ℕ) : Type 0 where
  pub hull : Hull
  pub is_hull : hull_of v n ≡ Some hull
  pub narrow : IsNarrow v.sizes hull
  pub not_early : (hull.least +ℤ pos value) ≤ℤ (pos t +ℤ pos v.sizes.reach)
  pub not_late : pos t ≤ℤ ((hull.greatest +ℤ pos value) +ℤ pos v.sizes.reach)

module _ (v : View) (is : IsView v) (n value t : ℕ) (within : IsInCycle v value) (shown : ℤ) (least : pos (n * v.sizes.cycle + value) ≤ℤ shown)
    (most : shown ≤ℤ (pos (n * v.sizes.cycle + value) +ℤ pos (2 * v.sizes.grain))) where
  -- a clock that was set before the block reaches the value in no earlier cycle
  never_before : (k : ℕ) (block : IsInBlock v k t) → ShowsIn v.sizes shown k block.before.hull t → n < k → ⊥
  never_before zero block shows lt = omega arith
  never_before (suc j) block shows lt =
      let more : suc n * v.sizes.cycle ≤ suc j * v.sizes.cycle = mul-le-mul_right v.sizes.cycle (omega arith) in
      omega (
        arith,
        ints,
        one_more n v.sizes.cycle,
        shows.least,
        block.from,
        begins_late j block.before is,
        within.ends,
        room is,
      )

  -- nor in a later one
  same_cycle : (k : ℕ) (block : IsInBlock v k t) → ShowsIn v.sizes shown k block.before.hull t → k ≡ n
  same_cycle k block shows = elim (cases_lt k n) [
    | inl lt ↦
        let space = room is in
        let ends = block_ends v k block.next block.before.hull block.before.is_hull block.is_over in
        let more : suc k * v.sizes.cycle ≤ n * v.sizes.cycle = mul-le-mul_right v.sizes.cycle (omega arith) in
        absurd (omega (
          arith,
          ints,
          one_more k v.sizes.cycle,
          shows.most,
          block.to,
          before_narrow block.before,
          within.begins,
        ))
    | inr ge ↦ elim (cases_lt n k) [ inl lt ↦ absurd (never_before k block shows lt) | inr le ↦ omega arith ]
  ]

  old_reaches : (k : ℕ) (block : IsInBlock v k t) → ShowsIn v.sizes shown k block.before.hull t → IsReachedFrom v n value t
  old_reaches k block shows =
      let space = room is in
      let same = same_cycle k block shows in
      let whole : n * v.sizes.cycle ≡ k * v.sizes.cycle = rw (sym same) in
      record {
        hull = block.before.hull;
        is_hull = rw same at block.before.is_hull;
        narrow = before_narrow block.before;
        not_early = omega (arith, ints, shows.most, space.errors.reach_is);
        not_late = omega (arith, ints, shows.least, space.errors.reach_is);
      }

  -- one that was set in the block reaches none there
  new_reaches_none : (k : ℕ) (block : IsInBlock v k t) (hull : Hull) → hull_of v (suc k) ≡ Some hull → ShowsIn v.sizes shown (suc k) hull t
      → (first_correction v.sizes block.before.hull +ℤ pos v.sizes.reach) <ℤ pos t → ⊥
  new_reaches_none k block hull is_hull shows after =
      let space = room is in
      let near = set_clocks_stay_at_correction v.sizes shown (suc k) t block.before.hull hull space (before_narrow block.before)
      (follows_before k block.before.hull hull is block.before.is_hull is_hull)
      (omega (arith, ints)) (omega (
        arith,
        ints,
        block_ends v k block.next block.before.hull block.before.is_hull
            block.is_over,
        block.to,
      )) shows in
      elim (cases_lt k n) [
        | inl lt ↦
            let more : suc k * v.sizes.cycle ≤ n * v.sizes.cycle = mul-le-mul_right v.sizes.cycle (omega arith) in
            omega (arith, ints, near.most, within.begins)
        | inr ge ↦
            let more = mul-le-mul_right v.sizes.cycle ge in
            omega (arith, ints, one_more k v.sizes.cycle, near.least, within.ends)
      ]

pub value_reached : BlocksCover → BlocksGoSo → {v : View} (n : ℕ) {value t : ℕ} {device : DeviceId} → IsView v
    → HasTimeAt v device t → state_left v device t ≡ Synchronised → t ≤ v.until → IsInCycle v value
    → Reaches v.scenario v.records device (pos (n * v.sizes.cycle + value)) t → IsReachedFrom v n value t
value_reached cover goes {v} n {value} {t} {device} is has synchronised in_run within reaches =
    let covered = cover v t is in_run in
    let k = covered.0 in
    let block = covered.1 in
    let shown = pos (v.scenario.reading device t) +ℤ adjustment_left v device t in
    let sharp = clocks_reach_sharply v device (pos (n * v.sizes.cycle + value)) t is reaches in
    let least : pos (n * v.sizes.cycle + value) ≤ℤ shown = omega (arith, ints, sharp.least) in
    let most : shown ≤ℤ (pos (n * v.sizes.cycle + value) +ℤ pos (2 * v.sizes.grain)) = omega (arith, ints, sharp.most) in
    by_lt_z (epoch_time (earlier t v.records) device) (pos block.before.next)
    (λ old. old_reaches v is n value t within shown least most k block (old_shows block is (omega arith) has old))
    (λ late.
    let set = new_shows block (λ w from lt. goes v k w (earlier_in_block _ _ _ _ block from (omega arith))
    is) is (omega arith) has
    (last_setting (earlier t v.records) device) refl late in
    absurd (new_reaches_none v is n value t within shown least most k block set.hull set.is_hull
    (set_shows block is set)
    (corrected_late block (last_setting (earlier t v.records) device) goes is has synchronised refl late)))

-- ---- in a run

pub values_are_reached_on_time : OneChannelIsSound → BlocksCover → BlocksGoSo → ValuesAreReachedOnTime
values_are_reached_on_time sound cover goes s mark ns until beta up is_beta t cycle value device le step within reaches =
    let hs = happenings s.network ns in
    let channel = sound s t up.lawful in
    let at = view_with t channel.0 beta up is_beta le channel.1 in
    let v = view_of s t channel.0 beta at.cut.front in
    let same = sym (at.cut.early t (omega arith)) in
    let synchronised : state_left v device t ≡ Synchronised =
    rw same at (not_integrating (is_turned_on_at s device t) (state_after s (earlier t hs) device)
    step.synchronised) in
    let has : HasTimeAt v device t = record { good = step.correct; timed = timed_of (state_left v device t) synchronised } in
    let from = value_reached cover goes cycle at.is has synchronised (omega arith)
    (record { begins = within.begins; ends = within.ends })
    (reaches_by at.cut.front same reaches) in
    record {
      first = from.hull.least;
      last = from.hull.greatest;
      dispatches = from_to_of_run cycle from.hull.least from.hull.greatest at.cut
          (hull_is_from_to cover goes at.is cycle from.hull from.is_hull);
      narrow = from.narrow;
      not_early = from.not_early;
      not_late = from.not_late;
    }

-- ---- in the span of a cycle the clocks keep between the ideal clocks of that cycle: one hull

-- the first and the last dispatch of a cycle are one
one_span : (s : Scenario) (hs : List Happening) (t cycle : ℕ) (first last least greatest : ℤ) → AreFromTo s hs t cycle first last
    → AreFromTo s hs t cycle least greatest → (first ≡ least) × (last ≡ greatest)
one_span s hs t zero first last least greatest a b = (a.0 ∙ sym b.0, a.1 ∙ sym b.1)
one_span s hs t (suc c) first last least greatest a b = grind (arith, ints)

-- ---- the block of the span

-- the last correction of this cycle comes before the instant
abbrev ComesBefore : View → ℕ → ℕ → Type 0
ComesBefore v t c =
    (first : ℤ) × (last : ℤ) × AreFromTo v.scenario v.records v.until c first last
    × (((last +ℤ pos (v.sizes.cycle + v.sizes.correction)) +ℤ pos (2 * v.sizes.reach)) <ℤ pos t)

-- where it does, the block is not that of the cycle, nor of an earlier one
not_earlier : BlocksCover → BlocksGoSo → {v : View} {k : ℕ} (c : ℕ) (block : IsInBlock v k v.until) → IsView v
    → ComesBefore v v.until c → k ≤ c → ⊥
not_earlier cover goes {v} {k} c block is before le =
    elim (cases_lt k c) [
      | inr ge ↦
          let same : c ≡ k = omega arith in
          let at = one_span v.scenario v.records v.until k before.0 before.1 block.before.hull.least block.before.hull.greatest
          (rw (sym same) before.2)
          (hull_is_from_to cover goes is k block.before.hull block.before.is_hull) in
          omega (arith, ints, block_ends v k block.next block.before.hull block.before.is_hull block.is_over, block.to, before.3, at.1)
      | inl lt ↦ by c lt before.2 before.3
    ]
  where
    by : (c : ℕ) → k < c → AreFromTo v.scenario v.records v.until c before.0 before.1
        → ((before.1 +ℤ pos (v.sizes.cycle + v.sizes.correction)) +ℤ pos (2 * v.sizes.reach)) <ℤ pos v.until → ⊥
    by zero lt lie after = omega arith
    by (suc d) lt lie after =
        let own = lie.is_latest in
        let inside = all_in_hulls cover goes
        is {h = lie.latest} {device = own.master} {cycle = suc d} (record { there = own.there; is = own.is; good = own.correct }) in
        let known = (known_dispatch v k (v.until + 1) block.before (λ u from less. goes v k u
        (earlier_in_block _ _ _ _ block from (omega arith)) is) lie.latest own.master (suc d) (record { there = own.there; is = own.is; good = own.correct })
        (omega (arith, own.by_then))).0 in
        let same : suc d ≡ suc k = omega arith in
        let follows = follows_before k _ _ is block.before.is_hull
        (subst (λ x. hull_of v x ≡ Some inside.hull) same inside.is) in
        omega (arith, ints, block_ends v k block.next _ block.before.is_hull block.is_over, before_narrow block.before, room is)

-- where the first correction behind a cycle does not come before, the block is that behind the cycle, or an earlier one
not_later : BlocksCover → BlocksGoSo → {v : View} (k cycle : ℕ) (first last : ℤ) (block : IsInBlock v k v.until)
    → IsView v → AreFromTo v.scenario v.records v.until cycle first last
    → (pos v.until +ℤ pos v.sizes.reach) ≤ℤ (first +ℤ pos (v.sizes.cycle + v.sizes.correction)) → cycle < k → ⊥
not_later cover goes zero cycle first last block is lie early lt = omega arith
not_later cover goes {v} (suc j) cycle first last block is lie early lt =
    let stands = block.before in
    let one = stands.narrow cycle (omega arith) in
    let there = stands.narrow j (omega arith) in
    let at = one_span v.scenario v.records v.until cycle first last one.0.least one.0.greatest lie
    (hull_is_from_to cover goes is cycle one.0 one.1) in
    let gap : cycle + (j - cycle) ≡ j = omega arith in
    let low = corrections_go_on cycle (j - cycle) stands _ _ is (omega arith) one.1
    (subst (λ x. hull_of v x ≡ Some there.0) (sym gap) there.1) in
    omega (
      arith,
      ints,
      begins_late j stands is,
      follows_before j there.0 stands.hull is there.1 stands.is_hull,
      block.from,
      at.0,
    )

-- ---- in the span

span_shows : BlocksCover → BlocksGoSo → {v : View} (cycle : ℕ) (first last : ℤ) {device : DeviceId} → IsView v
    → AreFromTo v.scenario v.records v.until cycle first last → ((c : ℕ) → cycle ≡ suc c → ComesBefore v v.until c)
    → (pos v.until +ℤ pos v.sizes.reach) ≤ℤ (first +ℤ pos (v.sizes.cycle + v.sizes.correction))
    → HasTimeAt v device v.until → state_left v device v.until ≡ Synchronised
    → (hull : Hull) × (first ≡ hull.least) × (last ≡ hull.greatest)
    × ShowsIn v.sizes (pos (v.scenario.reading device v.until) +ℤ adjustment_left v device v.until) cycle hull v.until
span_shows cover goes {v} cycle first last {device} is lie behind early has synchronised =
    let covered = cover v v.until is (omega arith) in
    let k = covered.0 in
    let block = covered.1 in
    let low : cycle ≤ k = elim (cases_lt k cycle) [ inr ge ↦ ge | inl lt ↦ absurd (earlier_not cycle lt behind) ] in
    let high : k ≤ cycle = elim (cases_lt cycle
    k) [ inr ge ↦ ge | inl lt ↦ absurd (not_later cover goes k cycle first last block is lie early lt) ] in
    let same : k ≡ cycle = omega arith in
    let hull = block.before.hull in
    let at_hull = rw same at (hull_is_from_to cover goes is k hull block.before.is_hull) in
    let at = one_span v.scenario v.records v.until cycle first last hull.least hull.greatest lie at_hull in
    let shows = by_lt_z
    (epoch_time (earlier v.until v.records) device) (pos block.before.next)
    (λ old. old_shows block is (omega arith) has old)
    (λ late. (let after = corrected_late block (last_setting (earlier v.until v.records) device) goes is has
    synchronised refl
    late in absurd (omega (arith, ints, at.0)))) in (
      hull,
      at.0,
      at.1,
      rw same at shows,
    )
  where
    earlier_not : (cycle : ℕ) → (cover v v.until is (omega arith)).0 < cycle → ((c : ℕ) → cycle ≡ suc c → ComesBefore v v.until c) → ⊥
    earlier_not zero lt behind = omega arith
    earlier_not (suc c) lt behind =
        not_earlier cover goes c (cover v v.until is (omega arith)).1 is (behind c refl) (omega arith)

-- ---- in a run

pub clocks_keep_the_span : OneChannelIsSound → BlocksCover → BlocksGoSo → ClocksKeepTheSpan
clocks_keep_the_span sound cover goes s mark ns until beta up is_beta t cycle first last device le lie behind early step =
    let hs = happenings s.network ns in
    let channel = sound s t up.lawful in
    let at = view_with t channel.0 beta up is_beta le channel.1 in
    let v = view_of s t channel.0 beta at.cut.front in
    let same = sym (at.cut.early t (omega arith)) in
    let synchronised : state_left v device t ≡ Synchronised =
    rw same at (not_integrating (is_turned_on_at s device t) (state_after s (earlier t hs) device)
    step.synchronised) in
    let has : HasTimeAt v device t = record { good = step.correct; timed = timed_of (state_left v device t) synchronised } in
    let shown = span_shows cover goes cycle first last at.is (from_to_of_cut cycle first last at.cut lie)
    (comes cycle behind at.cut) early has
    synchronised in
    let whole : IsBetweenIdeals s.network beta cycle first last t (pos (s.reading device t) +ℤ adjustment_left v device t) = record {
      least = omega (arith, ints, shown.2, shown.3.least);
      most = omega (arith, ints, shown.1, shown.3.most);
    } in
    rw same whole
  where
    comes : (n : ℕ) → IsBehindCorrections s (happenings s.network ns) beta t n → (cut : IsCutAt s (happenings s.network ns) t) → (c : ℕ) → n ≡ suc c
        → ComesBefore (view_of s t (sound s t up.lawful).0 beta cut.front) t c
    comes zero b cut c e = absurd (omega arith)
    comes (suc d) b cut c e =
        let one : d ≡ c = omega arith in
        (b.0, b.1, rw one at (from_to_of_cut d b.0 b.1 cut b.2), b.3)

-- ---- the clock of a synchronised device keeps between the ideal clocks of a cycle: of a view

-- the value is that of a clock which was set for the cycle, in its hull
pub record ShowsCycle (v : View) (t cycle : ℕ) (shown : ℤ) : Type 0 where
  pub hull : Hull
  pub is_hull : hull_of v cycle ≡ Some hull
  pub narrow : IsNarrow v.sizes hull
  pub shows : ShowsIn v.sizes shown cycle hull t

joined_cycle : (device : DeviceId) (h : Happening) (body : NoteBody) → is_joined_by device body ≡ true → cycle_set h body ≡ cycle_in h
joined_cycle device h (notes.Corrected other cycle by adjustment) joined = absurd cc
joined_cycle device h body joined = refl

module _ (goes : BlocksGoSo) {v : View} {n t : ℕ} (u : ℕ) (device : DeviceId) (block : IsInBlock v n t)
    (is : IsView v) where
  -- a clock that was set in the block was set for the block's cycle
  set_for : u ≤ t + 1 → HasTimeAt v device u → (o : Option Happening) → last_setting (earlier u v.records) device ≡ o
      → pos block.before.next ≤ℤ option_map_or (λ h. pos (time_of h)) o (negsuc 0)
      → option_map_or (λ h. cycle_set h h.note.body) o 0 ≡ suc n
  set_for most has None e late = absurd (omega (arith, ints))
  set_for most has (Some h) e late =
      let at = setting_is v device u h e in
      let from : block.before.next ≤ time_of h = omega (arith, ints) in
      let here = earlier_in_block _ _ _ _ block from (omega arith) in
      let so = goes v n (time_of h) here is in
      elim (is_joined_by device h.note.body) as (λ b. is_joined_by device h.note.body ≡ b → cycle_set h h.note.body
      ≡ suc n) [
        | true ↦ λ joined. joined_cycle device h h.note.body joined
            ∙ (so.joins h device at.there joined has.good refl).of_cycle
        | false ↦ λ none.
            let c = corrects_by device h.note.body at.sets none in
            let found = founded_at v.scenario v.records h is.run.founded at.there in
            let cause = subst (IsCaused v.scenario found.front h.note.time) c.is found.due.cause in
            let split = before_of is found in
            let then_has : HasTimeAt v device (time_of h) = record {
              good = has.good;
              timed = point_timed split cause.corrected;
            } in
            let comes : ComesTo v (time_of h) device c.cycle (Corrected c.by) =
            record { front = found.front; split = split; point = cause.corrected } in
            let old = so.old_alone device c.cycle (Corrected c.by) then_has comes (λ z. cc) in
            ap (cycle_set h) c.is ∙ (so.points device c.cycle (Corrected c.by) then_has old comes).of_cycle
      ] refl

  -- each clock of a block shows the cycle for which it was last set
  pub shows_cycle : t ≤ u → u ≤ t + 1 → HasTimeAt v device u
      → ShowsCycle v t (epoch_cycle (earlier u v.records) device)
      (pos (v.scenario.reading device t) +ℤ adjustment_left v device u)
  shows_cycle le most has =
      let before = block.before in
      let shown = pos (v.scenario.reading device t) +ℤ adjustment_left v device u in
      by_lt_z
      (epoch_time (earlier u v.records) device) (pos before.next)
      (λ old.
      let from : before.next ≤ u = omega (arith, block.from) in
      let set = before.clocks device
      (record { good = has.good; timed = (time_stays v device before.next u is from old has.timed) }) in
      let index : epoch_cycle (earlier u v.records) device ≡ n =
      rw (sym (settings_stay v device before.next u is from old)) set.index in
      let here : ShowsCycle v t n shown = record {
        hull = before.hull;
        is_hull = before.is_hull;
        narrow = before_narrow before;
        shows = old_shows block is le has old;
      } in
      rw index here)
      (λ late.
      let set = new_shows block (λ w from lt. goes v n w (earlier_in_block _ _ _ _ block from (omega arith))
      is) is most has
      (last_setting (earlier u v.records) device) refl late in
      let here : ShowsCycle v t (suc n) shown = record {
        hull = set.hull;
        is_hull = set.is_hull;
        narrow = hulls_are_narrow goes v n before set.hull is set.is_hull;
        shows = set_shows block is set;
      } in
      rw (set_for most has (last_setting (earlier u v.records) device) refl late) here)

-- ---- of a run

keeps_by : BlocksCover → BlocksGoSo → {s : Scenario} {hs : List Happening} {t : ℕ} (channel : Channel) (path : ℕ)
    (cut : IsCutAt s hs t) {cycle : ℕ} {shown : ℤ} → IsView (view_of s t channel path cut.front)
    → ShowsCycle (view_of s t channel path cut.front) t cycle shown → KeepsCycle s hs path t cycle shown
keeps_by cover goes channel path cut {cycle} is c = record {
  first = c.hull.least;
  last = c.hull.greatest;
  dispatches =
      from_to_of_run cycle c.hull.least c.hull.greatest cut (hull_is_from_to cover goes is cycle c.hull c.is_hull);
  narrow = c.narrow;
  between = record { least = omega (arith, ints, c.shows.least); most = omega (arith, ints, c.shows.most) };
}

pub clocks_keep_their_cycles : OneChannelIsSound → BlocksCover → BlocksGoSo → ClocksKeepTheirCycles
clocks_keep_their_cycles sound cover goes s mark ns until beta up is_beta t device le =
    let hs = happenings s.network ns in
    let same = up_to_is t hs in (
      λ step. rw same (keeps (t + 1) (omega arith) (omega arith) step.correct
          (rw same at step.synchronised)),
      λ step. keeps t (omega arith) (omega arith) step.correct
          (not_integrating (is_turned_on_at s device t) (state_after s (earlier t hs) device) step.synchronised),
    )
  where
    keeps : (u : ℕ) → t ≤ u → u ≤ t + 1 → is_broken s device t ≡ false → state_after s (earlier u (happenings s.network ns)) device ≡ Synchronised
        → KeepsCycle s (happenings s.network ns) beta t (epoch_cycle (earlier u (happenings s.network ns)) device)
        (pos (s.reading device t) +ℤ (adjustment_after s (earlier u (happenings s.network ns)) device).0)
    keeps u from to correct synchronised =
        let hs = happenings s.network ns in
        let channel = sound s t up.lawful in
        let at = view_with t channel.0 beta up is_beta le channel.1 in
        let v = view_of s t channel.0 beta at.cut.front in
        let block = cover v t at.is (omega arith) in
        let same = sym (at.cut.early u to) in
        let timed = timed_of _ (rw same at synchronised) in
        let shows = shows_cycle goes u device block.1 at.is from to (record { good = correct; timed = timed }) in
        rw same (keeps_by cover goes channel.0 beta at.cut at.is shows)

-- ---- the clock of a synchronised device keeps near world time, but for an error a cycle

-- a hull is not behind its cycle's time, but for the errors of the cycles
not_behind : {v : View} (n : ℕ) (hull : Hull) → IsView v → hull_of v n ≡ Some hull
    → hull.greatest ≤ℤ pos (n * v.sizes.cycle + n * v.sizes.reach)
not_behind {v} zero hull is e =
    omega (arith, ints, ap (λ w. w.greatest) (same_some (hull_of v zero) (start_hull v.sizes) hull refl e))
not_behind {v} (suc c) hull is e =
    let has = has_before v c hull (within_run is) e in
    let low = not_behind c has.before is has.is_before in
    omega (arith, ints, has.follows.most, one_more c v.sizes.cycle, one_more c v.sizes.reach)

module _ {s : Sizes} (cycle t : ℕ) (hull : Hull) (shown : ℤ) (space : HaveRoom s) where
  -- a clock that was set in such a hull is not far behind the time
  behind_by : hull.greatest ≤ℤ pos (cycle * s.cycle + cycle * s.reach) → ShowsIn s shown cycle hull t
      → pos t ≤ℤ (shown +ℤ pos ((cycle + 1) * s.reach))
  behind_by high shows = omega (arith, ints, shows.least, space.errors.reach_is)

  -- nor far ahead of it
  ahead_by : IsNotBefore s cycle hull → ShowsIn s shown cycle hull t
      → shown ≤ℤ (pos t +ℤ pos (s.settled + (cycle + 1) * s.reach))
  ahead_by low shows = omega (arith, ints, shows.most, space.errors.reach_is)

pub clocks_keep_world_time : OneChannelIsSound → BlocksCover → BlocksGoSo → ClocksKeepWorldTime
clocks_keep_world_time sound cover goes s mark ns until beta up is_beta t device le step =
    let hs = happenings s.network ns in
    let channel = sound s t up.lawful in
    let at = view_with t channel.0 beta up is_beta le channel.1 in
    let v = view_of s t channel.0 beta at.cut.front in
    let block = cover v t at.is (omega arith) in
    let same = up_to_is t hs ∙ sym (at.cut.early (t + 1) (omega arith)) in
    let left : state_after s (earlier (t + 1) at.cut.front) device ≡ Synchronised =
    rw same at step.synchronised in
    let c = shows_cycle goes (t + 1) device block.1 at.is (omega arith) (omega arith)
    (record { good = step.correct; timed = timed_of _ left }) in
    let cycle = epoch_cycle (earlier (t + 1) at.cut.front) device in
    let space = room at.is in
    let near : IsNearTime s.network beta cycle t (pos (s.reading device t) +ℤ
    (adjustment_after s (earlier (t + 1) at.cut.front) device).0) = record {
      least = behind_by cycle t c.hull _ space (not_behind cycle c.hull at.is c.is_hull) c.shows;
      most = ahead_by cycle t c.hull _ space (not_before cycle c.hull at.is c.is_hull) c.shows;
    } in
    rw same near
