-- The lines of a trace that are stamped: by whom, by what, and the order that their stamps tell.
use Rattle.std.proofs.Common
use Common.{if◌then◌else◌, ◌&&◌, ◌*◌, ◌++◌, ◌+ℤ◌, ◌+◌, ◌-ℤ◌, ◌<◌, ◌^◌, ◌∙◌, ◌∷◌, ◌≡◌, ◌≤ℤ◌, ◌≤◌, Bool, IfSome, List}
use Common.{None, Option, Some, [], ap, append_assoc, arith, false, inl, inr, le-leb, leb-true, nat_le, not, pos, refl}
use Common.{subst, suc, sym, true, zero, ℕ, ℤ}
use Rattle.std.proofs.lemmas.{Bool.{and_parts, cases_lt, false_from_ne_true}, Int.{by_lt_z, ints}}
use Rattle.std.proofs.lemmas.{List.Elements.All-contains}
use Rattle.net_plan.{proofs.Trees.{beta_exists, rules_give_trees}}
use Rattle.net_plan.specs.{Bounds.{IsBeta, beta_at}, Places.device_at, Ranges.{IsDeviceInRange, IsInRange, IsWithin}}
use Rattle.net_plan.specs.declared.{event.Event.Event, ids.DeviceId.DeviceId, network.Network.Network}
use Rattle.net_plan.specs.declared.{tables.Device.Device}
use Rattle.precision_law.proofs.{Plain.{reached, some_if}, block.Instants.{has_start, none_at_start}}
use Rattle.precision_law.proofs.{clocks.Readings.clocks_are_steady, falls_lemmas.Views.never_fall}
use Rattle.precision_law.proofs.{law.{Precision.{timed_of, up_to_is}, Whole.cycles_kept}, records.Views.room_of}
use Rattle.precision_law.specs.{Dispatches.AreFromTo, Epochs.epoch_cycle, IdealClocks.ideal_error, Precision.IsRunUpTo}
use Rattle.precision_law.specs.{Sizes.{HaveRoom, Sizes, sizes_of}}
use Rattle.run_law.proofs.{device.States.is_in, law.FirstDeliveries.in_filter, plain_lemmas.Same.not_true}
use Rattle.run_law.proofs.{records.{Members.in_kept, Order.{any_in, contains, has_passed, in_any}}}
use Rattle.run_law.proofs.{runs.Places.{in_left, in_parts, in_right, parted}, scenario.Devices.in_turn}
use Rattle.sync_state.proofs.VerdictLemmas.{up_state}
use Rattle.run_law.specs.{declared.note.Note.Note}
use Rattle.run_law.specs.{law.{FirstLaws.{IsEventInRange, IsLawful}, Safety.{IsInStep, IsInStepBefore}}}
use Rattle.run_law.specs.{records.{Happenings.{Happening, earlier, happenings, up_to}, Order.IsIn}}
use Rattle.run_law.specs.{runs.DueRecords.IsScenarioRun}
use Rattle.run_law.specs.device.{LocalClocks.local}
use Rattle.run_law.specs.device.{States.{adjustment_after, is_synchronised, state_after, state_before}}
use Rattle.run_law.specs.scenario.{Devices.start_of, Hypothesis.{AreWithinHypothesis, breaks_at}}
use Rattle.run_law.specs.scenario.{Scenarios.{Scenario, events_up_to, is_broken, is_turned_on_at}}
use Rattle.schedule_tables.{proofs.Margins.{margins, shape_rules}, specs.declared.rule.Rule.TheVariants.Masters}
use Rattle.sync_state.{specs.{Standing.adjustment_at_start, declared.state.State.TheVariants.Synchronised}}
use Rattle.tte_observers.{proofs.stamps_lemmas.granules_lemmas.Floors.{floors_near, stamp_of-floor}}
use Rattle.tte_observers.specs.stamps.granules.{Granules.{IsFloor, stamp_of}}
use Rattle.tte_observers.specs.stamps.granules.{Laws.{IsRunInGranules, StampsAgree, StampsAreOfLocals, StampsTellOrder}}
use Rattle.tte_observers.specs.stamps.granules.{Lines.{IsLineOf, Line, scenario_at}}
use Rattle.tte_observers.specs.stamps.granules.{Stamps.{shown_at, stamp_at, stamps}}
use Rattle.tte_units.{proofs.general_lemmas.Lists.in_all, specs.{Amount.amount, declared.units.Units.Units}}
use Rattle.run_law.specs.declared.outside.Outside.TheVariants as outside

-- ---- who stamps a line, and by what

-- the device is correct and synchronised when the line's event comes
abbrev pub IsReady : Network → Line → DeviceId → Type 0
IsReady network line device = IsInStepBefore (scenario_at network line) line.records device line.time

-- such a device stamps the line
ready_stamps : (network : Network) (line : Line) {device : DeviceId} → IsReady network line device
    → stamps network line device ≡ true
ready_stamps network line {device} ready =
    ap (λ (b : Bool). not b && is_synchronised (state_before (scenario_at network line) line.records device line.time)) ready.correct
    ∙ ap is_synchronised ready.synchronised

-- and no other
stamps_ready : (network : Network) (line : Line) (device : DeviceId) → stamps network line device ≡ true → IsReady network line device
stamps_ready network line device e =
    let broken = is_broken (scenario_at network line) device line.time in
    let state = state_before (scenario_at network line) line.records device line.time in
    let both = and_parts (not broken) (is_synchronised state) e in
    record { correct = not_true broken both.0; synchronised = is_in state both.1 }

-- what a stamp is
pub record IsStamped (granule : ℕ) (network : Network) (line : Line) (device : DeviceId) (stamp : ℤ) : Type 0 where
  pub ready : IsReady network line device
  pub is : stamp ≡ stamp_of granule (shown_at network line device)

pub stamped : (granule : ℕ) (network : Network) (line : Line) (device : DeviceId) (stamp : ℤ) → stamp_at granule network line device ≡ Some stamp
    → IsStamped granule network line device stamp
stamped granule network line device stamp e =
    let both = some_if (stamps network line device) (stamp_of granule (shown_at network line device)) stamp e in
    record { ready = stamps_ready network line device both.0; is = sym both.1 }

-- the stamp of what the local clock shows
pub of_locals : StampsAreOfLocals
of_locals granule network line device None shown = none (stamps network line device) refl
  where
    none : (b : Bool) → stamps network line device ≡ b → None ≡ stamp_at granule network line device
    none true e = absurd (shown (stamps_ready network line device e))
    none false e = sym (ap (λ (b : Bool). if b then Some (stamp_of granule (shown_at network line device)) else None) e)
of_locals granule network line device (Some l) shown =
    ap (λ x. Some (stamp_of granule x)) shown.1
    ∙ sym (ap (λ (b : Bool). if b then Some (stamp_of granule (shown_at network line device)) else None)
    (ready_stamps network line shown.0))

-- ---- what the events of a run tell at a line of its trace: the times of events

-- none is before time 0
begun : (s : Scenario) → IsLawful s → (event : Event) → IsIn event s.events → pos 0 ≤ℤ event.time.0
begun s lawful event i = (All-contains IsEventInRange s.events event lawful.events (contains s.events event i)).time

-- none is behind the last cycle
in_time : {s : Scenario} → IsLawful s → (event : Event) → IsIn event s.events
    → amount event.time ≤ 2 ^ 20 * amount s.network.cycle
in_time {s} lawful event i =
    let parts = parted event s.events i in
    by_lt_z {P = amount event.time ≤ 2 ^ 20 * amount s.network.cycle} (pos (2 ^ 20 * amount s.network.cycle)) event.time.0
    (λ late. absurd (lawful.within parts.0 parts.1 event parts.2 outside.Late late)) (λ le. omega (arith, ints, le, begun s lawful event i))

-- nor any behind it
pub behind_later : (network : Network) (all front rest : List Event) (last : Event) → all ≡ (front ++ last ∷ []) ++ rest → AreWithinHypothesis network all
    → ((e : Event) → IsIn e all → pos 0 ≤ℤ e.time.0) → (e : Event) → IsIn e rest → amount last.time ≤ amount e.time
behind_later network all front [] last same within begun e i = absurd i
behind_later network all front (x ∷ rest) last same within begun e i =
    let at_last = begun last (subst (IsIn last) (sym same) (in_left last (front ++ last ∷ []) (x ∷ rest) (in_right last front (last ∷ []) (inl refl)))) in
    let at_x = begun x (subst (IsIn x) (sym same) (in_right x (front ++ last ∷ []) (x ∷ rest) (inl refl))) in
    let turn = in_turn network front last x (within (front ++ last ∷ []) rest x same) at_last at_x in
    elim i [
      | inl first ↦ subst (λ (d : Event). amount last.time ≤ amount d.time) (sym first) turn
      | inr more ↦
          let next = behind_later network all (front ++ last ∷ []) rest x (same ∙ sym (append_assoc (front ++ last ∷ []) (x ∷ []) rest)) within begun e more in
          omega (arith, turn, next)
    ]

-- ---- at a line

module _ (s : Scenario) (mark : List ℕ) (hs : List Happening) (line : Line) (lawful : IsLawful s) (of : IsLineOf s mark hs line) where
  -- its time is in the first 2^20 cycles
  pub line_in_time : line.time ≤ 2 ^ 20 * amount s.network.cycle
  line_in_time =
      let there : IsIn of.event line.befallen = subst (IsIn of.event) (sym of.befallen) (in_right of.event of.before (of.event ∷ []) (inl refl)) in
      let short = in_time lawful of.event (subst (IsIn of.event) (sym of.trace) (in_left of.event line.befallen of.behind there)) in
      omega (arith, short, of.time)

  -- no event behind it is earlier
  later : (e : Event) → IsIn e of.behind → line.time ≤ amount e.time
  later e i =
      let trace = subst (λ (l : List Event). s.events ≡ l ++ of.behind) of.befallen of.trace in
      let le = behind_later s.network s.events of.before of.behind of.event trace lawful.within (begun s lawful) e i in
      omega (arith, le, of.time)

  -- a device that is not broken at it was not broken before
  pub unbroken : (device : DeviceId) (u : ℕ) → u < line.time → is_broken (scenario_at s.network line) device line.time ≡ false → is_broken s device u ≡ false
  unbroken device u lt correct = false_from_ne_true (is_broken s device u) (λ broken.
      let breaks = λ (e : Event). breaks_at device.0 e.what in
      let by_then = λ (e : Event). nat_le (amount e.time) u in
      let found = any_in breaks (events_up_to s u) broken in
      let early = leb-true (amount found.0.time) u (has_passed by_then s.events found.0 found.1) in
      elim (in_parts found.0 line.befallen of.behind (subst (IsIn found.0) of.trace (in_filter by_then s.events found.0 found.1))) [
        | inl before ↦
            let kept = in_kept (λ (e : Event). nat_le (amount e.time) line.time) line.befallen found.0 before
            (le-leb (amount found.0.time) line.time (omega (arith, early, lt))) in
            let wrong = in_any breaks (events_up_to (scenario_at s.network line) line.time) found.0 kept found.2 in
            absurd cc
        | inr after ↦ (let le = later found.0 after in absurd (omega (arith, le, early, lt)))
      ])

-- ---- what a device shows that stamps a line, and what it showed just before: at time 0

-- a start is from 0 to settled
start_within : {s : Scenario} (device : DeviceId) (u : Units) → IsLawful s → start_of s.network device ≡ Some u
    → (pos 0 ≤ℤ u.0) × (u.0 ≤ℤ s.network.settled.0)
start_within {s} device u lawful e =
    let n = s.network in
    let from = reached (λ (d : Device). d.start) (device_at n device) u e in
    let known : IsDeviceInRange from.0 = in_all IsDeviceInRange n.device device.0 from.0 lawful.range.devices from.1 in
    let within : IsWithin 0 (2 ^ 40) u = subst (λ (o : Option Units). IfSome o (IsWithin 0 (2 ^ 40))) from.2 known.start in
    let settled = in_all (λ d. IfSome d.start (λ start. start.0 ≤ℤ n.settled.0)) n.device device.0 from.0 ((lawful.rules Masters 4).starts refl) from.1 in
    (within.least, subst (λ (o : Option Units). IfSome o (λ start. start.0 ≤ℤ n.settled.0)) from.2 settled)

-- ---- before a line

-- the device is in step at the instant, and what it shows a unit later is little more
pub record IsJustBefore (s : Scenario) (hs : List Happening) (device : DeviceId) (u : ℕ) (shown : ℤ) : Type 0 where
  pub in_step : IsInStep s hs device u
  pub least : local s hs device u ≤ℤ shown
  pub most : shown ≤ℤ (local s hs device u +ℤ pos (2 * amount s.network.grain + 1))

module _ (s : Scenario) (mark : List ℕ) (hs : List Happening) (line : Line) (device : DeviceId) (lawful : IsLawful s) (of : IsLineOf s mark hs line)
    (ready : IsReady s.network line device) where
  -- the records of earlier times leave it synchronised
  left : state_after s (earlier line.time line.records) device ≡ Synchronised
  left = up_state (is_turned_on_at (scenario_at s.network line) device line.time) (state_after s (earlier line.time line.records) device) ready.synchronised

  -- at time 0 it shows its start
  pub at_start : line.time ≡ 0 → (pos 0 ≤ℤ shown_at s.network line device) × (shown_at s.network line device ≤ℤ s.network.settled.0)
  at_start now =
      let none : earlier line.time line.records ≡ [] = ap (λ x. earlier x line.records) now ∙ none_at_start line.records in
      let start = has_start (start_of s.network device) (timed_of _ (subst (λ gs. state_after s gs device ≡ Synchronised) none left)) in
      let known = start_within device start.0 lawful start.1 in
      let reads : line.reading device line.time ≡ 0 = of.reads device line.time (omega arith) ∙ ap (s.reading device) now ∙ lawful.begins device in
      let shown : shown_at s.network line device ≡ (pos 0 +ℤ start.0.0) =
      ap (λ x. pos x +ℤ (adjustment_after s (earlier line.time line.records) device).0) reads
      ∙ ap (λ gs. pos 0 +ℤ (adjustment_after s gs device).0) none ∙ ap (λ o. pos 0 +ℤ (adjustment_at_start o).0) start.1 in
      (omega (arith, ints, shown, known.0), omega (arith, ints, shown, known.1))

  -- and a unit before a later line it is in step
  pub just_before : (u : ℕ) → line.time ≡ u + 1 → IsJustBefore s hs device u (shown_at s.network line device)
  just_before u next =
      let same : earlier line.time line.records ≡ up_to u hs = of.records ∙ ap (λ x. earlier x hs) next ∙ sym (up_to_is u hs) in
      let reads : line.reading device line.time ≡ s.reading device (u + 1) = of.reads device line.time (omega arith) ∙ ap (s.reading device) next in
      let shown : shown_at s.network line device ≡ (pos (s.reading device (u + 1)) +ℤ (adjustment_after s (up_to u hs) device).0) =
      ap (λ x. pos x +ℤ (adjustment_after s (earlier line.time line.records) device).0) reads
      ∙ ap (λ gs. pos (s.reading device (u + 1)) +ℤ (adjustment_after s gs device).0) same in
      let steady = clocks_are_steady s 0 device lawful in
      record {
        in_step = record {
          correct = unbroken s mark hs line lawful of device u (omega (arith, next)) ready.correct;
          synchronised = subst (λ gs. state_after s gs device ≡ Synchronised) same left;
        };
        least = omega (arith, ints, shown, steady.never_falls u (u + 1) (omega arith));
        most = omega (arith, ints, shown, steady.steps u);
      }

-- ---- clocks are not behind time 0

-- the last dispatch of a cycle has come
last_has_come : (s : Scenario) (hs : List Happening) (t cycle : ℕ) (first last : ℤ) → AreFromTo s hs t cycle first last → last ≤ℤ pos t
last_has_come s hs t zero first last at = omega (arith, ints, at.1)
last_has_come s hs t (suc c) first last at = omega (arith, ints, at.last_is, at.is_latest.by_then)

above_zero : (cycles t error : ℕ) (last shown : ℤ) → ((pos cycles +ℤ pos t) -ℤ last) ≤ℤ (shown +ℤ pos error) → last ≤ℤ pos t → pos 0 ≤ℤ (shown +ℤ pos error)
above_zero cycles t error last shown least come = omega (arith, ints, least, come)

-- a clock in step shows at least 0, but for its error
pub not_behind : {s : Scenario} {mark : List ℕ} {ns : List Note} {u : ℕ} (path : ℕ) {device : DeviceId}
    → IsRunUpTo s mark ns u → IsBeta s.network (pos path) → IsInStep s (happenings s.network ns) device u
    → pos 0 ≤ℤ (local s (happenings s.network ns) device u +ℤ pos (ideal_error s.network path))
not_behind {s} {mark} {ns} {u} path {device} up beta step =
    let hs = happenings s.network ns in
    let cycle = epoch_cycle (up_to u hs) device in
    let keeps = (cycles_kept s mark ns u path up beta u device (omega arith)).0 step in
    above_zero (cycle * amount s.network.cycle) u (ideal_error s.network path) keeps.last (local s hs device u) keeps.between.least
    (last_has_come s hs u cycle keeps.first keeps.last keeps.dispatches)

-- ---- all this is little against the precision

small_sizes : {n : Sizes} → HaveRoom n → (2 * n.grain + 1 ≤ n.precision) × (n.settled ≤ n.precision)
    × (n.clock + n.drift ≤ n.precision)
small_sizes room =
    (omega (arith, room, room.errors), omega (arith, room, room.errors), omega (arith, room, room.errors))

pub record AreSmall (n : Network) (path : ℕ) : Type 0 where
  pub step : pos (2 * amount n.grain + 1) ≤ℤ n.precision.0
  pub start : n.settled.0 ≤ℤ n.precision.0
  pub error : pos (ideal_error n path) ≤ℤ n.precision.0

pub are_small : {n : Network} (path : ℕ) → IsInRange n → HaveRoom (sizes_of n path) → AreSmall n path
are_small path range room =
    let small = small_sizes room in
    let least = range.precision.least in
    let start = range.settled.least in
    record { step = omega (arith, ints, small.0, least); start = omega (arith, ints, small.1, least, start); error = omega (arith, ints, small.2, least) }

-- ---- stamps of one line agree, and stamps that are far apart tell the order of their lines: a run

-- its path error, against which all is little
record HasSizes (s : Scenario) : Type 0 where
  pub path : ℕ
  pub beta : IsBeta s.network (pos path)
  pub small : AreSmall s.network path

has_sizes : {s : Scenario} → IsLawful s → HasSizes s
has_sizes {s} lawful =
    let n = s.network in
    let beta = (beta_exists n (rules_give_trees n (shape_rules n lawful.rules))).1 in
    let path = beta_at n beta.jitter beta.links in
    let is = subst (IsBeta n) beta.value beta in
    record {
      path = path;
      beta = is;
      small = are_small path lawful.range (room_of lawful.rules
          (margins rules_give_trees n path lawful.range lawful.rules is));
    }

-- it goes as far as just before a line
run_before : {s : Scenario} {mark : List ℕ} (ns : List Note) {line : Line} (u : ℕ) → IsLawful s
    → IsScenarioRun s mark ns → IsLineOf s mark (happenings s.network ns) line → line.time ≡ u + 1
    → IsRunUpTo s mark ns u
run_before {s} {mark} ns {line} u lawful run of next =
    let short = line_in_time s mark (happenings s.network ns) line lawful of in
    record { lawful = lawful; run = run; covers = λ more. of.covers (u ∷ more) (inl (omega (arith, next))); short = omega (arith, short, next) }

-- ---- two lines

-- what is within some precisions is within a granule
within : (granule : ℕ) (x y p : ℤ) (size : ℕ) → p ≡ pos size → 4 * size ≤ granule → x ≤ℤ (y +ℤ (p +ℤ p)) → x ≤ℤ (y +ℤ pos granule)
within granule x y p size is fine le = omega (arith, ints, is, fine, le)

-- what a device shows at a line is at most a granule above what one shows at a line that is not earlier
near : (granule : ℕ) (s : Scenario) (mark : List ℕ) (ns : List Note) (line later : Line) (d e : DeviceId) → IsRunInGranules granule s mark ns
    → IsLineOf s mark (happenings s.network ns) line → IsLineOf s mark (happenings s.network ns) later
    → IsReady s.network line d → IsReady s.network later e → line.time ≤ later.time → shown_at s.network line d ≤ℤ (shown_at s.network later e +ℤ pos granule)
near granule s mark ns line later d e in_run of too one other le =
    let least = in_run.lawful.range.precision.least in
    within granule (shown_at s.network line d) (shown_at s.network later e) s.network.precision.0 (amount s.network.precision)
    (omega (arith, ints, least)) in_run.fine (by line.time later.time refl refl)
  where
    by : (t u : ℕ) → line.time ≡ t → later.time ≡ u
        → shown_at s.network line d ≤ℤ (shown_at s.network later e +ℤ (s.network.precision.0 +ℤ s.network.precision.0))
    by zero zero now behind =
        let hs = happenings s.network ns in
        let least = in_run.lawful.range.precision.least in
        let small = (has_sizes in_run.lawful).small in
        let first = (at_start s mark hs line d in_run.lawful of one now).1 in
        let second = (at_start s mark hs later e in_run.lawful too other behind).0 in
        omega (arith, ints, first, second, small.start, least)
    by zero (suc u) now behind =
        let hs = happenings s.network ns in
        let sizes = has_sizes in_run.lawful in
        let small = sizes.small in
        let next : later.time ≡ u + 1 = omega (arith, behind) in
        let first = (at_start s mark hs line d in_run.lawful of one now).1 in
        let second = just_before s mark hs later e in_run.lawful too other u next in
        let up = run_before ns u in_run.lawful in_run.run too next in
        let above = not_behind sizes.path up sizes.beta second.in_step in
        omega (arith, ints, first, second.least, above, small.start, small.error)
    by (suc w) zero now behind = absurd (omega (arith, now, behind, le))
    by (suc w) (suc u) now behind =
        let hs = happenings s.network ns in
        let small = (has_sizes in_run.lawful).small in
        let next : later.time ≡ u + 1 = omega (arith, behind) in
        let first = just_before s mark hs line d in_run.lawful of one w (omega (arith, now)) in
        let second = just_before s mark hs later e in_run.lawful too other u next in
        let up = run_before ns u in_run.lawful in_run.run too next in
        let fall = never_fall s mark ns u up w u d e (local s hs d w) (local s hs e u) (omega (arith, now, behind, le)) (omega arith)
        (inl (first.in_step, refl)) (inl (second.in_step, refl)) in
        omega (arith, ints, first.most, second.least, fall, small.step)

-- ---- the laws

module _ (granule : ℕ) (s : Scenario) (mark : List ℕ) (ns : List Note) where
  -- a stamp is the floor of what its device shows
  floor_of : (line : Line) (device : DeviceId) (stamp : ℤ) → IsRunInGranules granule s mark ns
      → stamp ≡ stamp_of granule (shown_at s.network line device)
      → IsFloor granule (shown_at s.network line device) stamp
  floor_of line device stamp in_run is =
      let least = in_run.lawful.range.precision.least in
      let some : 1 ≤ granule = omega (arith, ints, least, in_run.fine) in
      subst (IsFloor granule (shown_at s.network line device)) (sym is)
      (stamp_of-floor granule (shown_at s.network line device) some)

  -- a stamp of a line is at most one more than one of a line that is not earlier
  stamps_near : {line later : Line} (d e : DeviceId) (stamp other : ℤ) → IsRunInGranules granule s mark ns
      → IsLineOf s mark (happenings s.network ns) line → IsLineOf s mark (happenings s.network ns) later
      → stamp_at granule s.network line d ≡ Some stamp → stamp_at granule s.network later e ≡ Some other
      → line.time ≤ later.time → stamp ≤ℤ (other +ℤ pos 1)
  stamps_near {line} {later} d e stamp other in_run of too first second le =
      let one = stamped granule s.network line d stamp first in
      let two = stamped granule s.network later e other second in
      floors_near (floor_of line d stamp in_run one.is)
      (floor_of later e other in_run two.is) (near granule s mark ns line later d e in_run of too one.ready two.ready
      le)

pub agree : StampsAgree
agree granule s mark ns line d e stamp other in_run of one two = (
  stamps_near granule s mark ns d e stamp other in_run of of one two (omega arith),
  stamps_near granule s mark ns e d other stamp in_run of of two one (omega arith),
)

pub tell_order : StampsTellOrder
tell_order granule s mark ns line later d e stamp more in_run of too one two apart = elim (cases_lt line.time later.time) [
  | inl lt ↦ lt
  | inr ge ↦
      let near = stamps_near granule s mark ns e d more stamp in_run too of two one ge in
      absurd (omega (arith, ints, near, apart))
]
