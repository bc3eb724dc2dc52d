-- Where no device is broken, the compression master of a channel that is whole sends its frame, whatever its state.
use Rattle.precision_law.proofs.block.Dispatched.{IsEarly, early_point, old_early}
use Rattle.precision_law.proofs.{compression.Frames.record_point, emission.SoundMaster.{channel_cm, cm_is, emits}}
use Rattle.precision_law.proofs.block.{Instants.{has_corrected, has_lost, known_dispatch, narrow_at}}
use Rattle.precision_law.proofs.block.{Onward.hull_ordered}
use Rattle.precision_law.proofs.emission.Aimed.{IsAimed, no_point_fault, taken_by_old}
use Rattle.precision_law.proofs.trips.Gates.{has_it}
use Rattle.precision_law.proofs.words.Blocks.{AreUpTo, GivesPoint, bases_are_in_hulls, before_narrow, earlier_in_block}
use Rattle.precision_law.proofs.words.Blocks.{early_show}
use Rattle.precision_law.proofs.words.Clocks.{adjustment_stays, any_in, emission_shows, frames_come_first, has_before}
use Rattle.precision_law.proofs.words.Clocks.{in_any, natural_of, room, same_device, same_kept, steady, within_run}
use Rattle.precision_law.proofs.words.Laws.{BlockGoesSo, BlocksGoSo, HasTimeAt, Hull, IsEmission, IsGood, IsInBlock}
use Rattle.precision_law.proofs.words.Laws.{IsInHull, IsView, IsWholeFrom, View, adjustment_left, first_correction}
use Rattle.precision_law.proofs.words.Laws.{hull_of, is_correction, last_dispatch, state_left}
use Rattle.precision_law.proofs.words.Plans.{Channel, Corrected, DeviceId, Integrating, IsCmOf, Joining, Masters}
use Rattle.precision_law.proofs.words.Plans.{Members, Network, Off, Point, State, SyncPlan, Synchronised, Taken}
use Rattle.precision_law.proofs.words.Plans.{count_of}
use Rattle.precision_law.proofs.words.Runs.{observation_window, plan_of, ChangesState, Cycle, Gate, Happening}
use Rattle.precision_law.proofs.words.Runs.{Integrates, IsCaused, IsCollectedOrDropped, IsIn, NoteBody, Reason, Why}
use Rattle.precision_law.proofs.words.Runs.{adjustment_at_hearing, changes_adjustment}
use Rattle.precision_law.proofs.words.Runs.{earlier, ends_stretch, first_reason, founded_at, has_joined_at, heard_as}
use Rattle.precision_law.proofs.words.Runs.{heard_by_schedule, heard_enough, in_left, is_broken, is_cm, is_joined_by}
use Rattle.precision_law.proofs.words.Runs.{is_synchronised, is_turned_on_at, last_cycle, numbered_in, point_fault}
use Rattle.precision_law.proofs.words.Runs.{ripe_as, ripe_by_role, same_some, state_after, state_at_hearing, time_of}
use Rattle.precision_law.proofs.words.Std.{◌&&◌, ◌*◌, ◌+ℤ◌, ◌+◌, ◌<◌, ◌==◌, ◌||◌, ◌∙◌, ◌∷◌, ◌≡◌, ◌≤ℤ◌, ◌≤◌}
use Rattle.precision_law.proofs.words.Std.{if◌then◌else◌, [], Bool, List, MatchBool-at_true, None, Option, Some}
use Rattle.precision_law.proofs.words.Std.{and_parts, ap, arith, both_ways, cases_Bool, cases_lt, eq-eqb, false}
use Rattle.precision_law.proofs.words.Std.{false_from_ne_true, inl, inr, ints, le-leb, leb-true, list_any}
use Rattle.precision_law.proofs.words.Std.{lt-ltb, nat_le, nat_lt, not, pos, refl, subst, suc, sym, true, zero, ℕ, ℤ}
use Rattle.precision_law.specs.SoundEmissions.{SendsOn}
use Rattle.run_law.proofs.runs.SameSteps.{never_dropped}
use Rattle.run_law.specs.declared.judgement.Why.TheVariants as whys
use Rattle.run_law.specs.declared.note.NoteBody.TheVariants as notes

-- no device is broken up to the end of the view
abbrev pub AreAllGood : View → Type 0
AreAllGood v = (device : DeviceId) → IsGood v device

-- ---- how it stands when it takes a frame

-- who is not synchronised finds no fault with a frame
fine_unsynchronised : (s a b : Bool) (p q : Reason) → s ≡ false
    → first_reason ((s && a, p) ∷ (s && not b, q) ∷ []) ≡ None
fine_unsynchronised false a b p q e = refl
fine_unsynchronised true a b p q e = absurd cc

in_step_by : (joined turned : Bool) (state : State)
    → is_synchronised (if joined then Joining else (if turned then Integrating else state)) ≡ true
    → (joined ≡ false) × (is_synchronised state ≡ true)
in_step_by false false state e = (refl, e)
in_step_by false true state e = absurd cc
in_step_by true turned state e = absurd cc

-- who hears as a synchronised device was one before, and no frame has told it the time at this instant
in_step : {v : View} (device : DeviceId) {q : ℕ} {hs : List Happening} → AreUpTo v q hs
    → is_synchronised (state_at_hearing v.scenario hs device q) ≡ true
    → (has_joined_at hs device q ≡ false) × (is_synchronised (state_left v device q) ≡ true)
in_step {v} device {q} {hs} up so =
    let parts = in_step_by (has_joined_at hs device q) (is_turned_on_at v.scenario device q)
    (state_after v.scenario (earlier q hs) device) so in
    (parts.0, rw (sym up.all) parts.1)

or_not : (a b : Bool) → (a ≡ false → b ≡ false) → (a || b) ≡ a
or_not true b quiet = refl
or_not false b quiet = quiet refl

-- so it hears with the adjustment that it had before
adjusts_as : {v : View} (device : DeviceId) {q : ℕ} {hs : List Happening} → AreUpTo v q hs
    → has_joined_at hs device q ≡ false → (adjustment_at_hearing v.scenario hs device q).0
    ≡ adjustment_left v device q
adjusts_as {v} device {q} {hs} up none =
    let quiet : (h : Happening) → IsIn h hs → q ≤ time_of h → is_joined_by device h.note.body ≡ false = λ h i ge.
    false_from_ne_true (is_joined_by device h.note.body) (λ joins.
    (let to = up.to h i in
    let at = eq-eqb (time_of h) q (omega arith) in
    both_ways (has_joined_at hs device q) none (in_any (λ g. time_of g == q && is_joined_by device
    g.note.body) hs h i
    (rw at joins)))) in
    let kept =
    same_kept (λ h. nat_lt (time_of h) q || is_joined_by device h.note.body) (λ h. nat_lt (time_of h) q) hs
    (λ h i. or_not (nat_lt (time_of h) q) (is_joined_by device h.note.body) (λ not_early.
    elim (cases_lt (time_of h) q) [
      | inl early ↦ absurd (both_ways (nat_lt (time_of h) q) not_early
          (lt-ltb (time_of h) q early))
      | inr ge ↦ quiet h i ge
    ])) in
    rw (kept ∙ up.all)

-- ---- points of other cycles

-- hulls of later cycles begin no earlier
pub leasts_grow : {v : View} (c n : ℕ) (a b : Hull) → IsView v → c ≤ n → hull_of v c ≡ Some a → hull_of v n ≡ Some b
    → a.least ≤ℤ b.least
leasts_grow {v} c zero a b is le one two =
    let same : c ≡ zero = omega arith in
    let equal = same_some (hull_of v zero) a b (rw same at one) two in
    omega (arith, ints, ap (λ h. h.least) equal)
leasts_grow {v} c (suc n) a b is le one two =
    elim (cases_lt c (suc n)) [
      | inl lt ↦
          let has = has_before v n b (within_run is) two in
          let more = leasts_grow c n a has.before is (omega arith) one has.is_before in
          omega (arith, ints, has.follows.least, room is)
      | inr ge ↦
          let same : c ≡ suc n = omega arith in
          let equal = same_some (hull_of v (suc n)) a b (rw same at one) two in
          omega (arith, ints, ap (λ h. h.least) equal)
    ]

-- ---- joinings

-- at a compression master no permanence tells the time
never_tells : (taken : Taken) → ripe_as Integrates ≡ ripe_by_role taken → ⊥
never_tells taken e = grind (arith, ripe_by_role, ripe_as)

no_telling : (network : Network) (points : List Point) (point : Point) (o : Option Reason)
    → IsCollectedOrDropped network points point o (ripe_as Integrates) → ⊥
no_telling network points point None so = never_tells so.taken so.becomes
no_telling network points point (Some reason) so = never_dropped Integrates reason so

-- a frame that tells the time has enough members
enough_by : (plan : SyncPlan) (precision : ℤ) (state : State) (adjustment point : ℤ) (cycle : ℕ) (members : Members)
    → Integrates ≡ heard_as plan precision state adjustment point cycle members → plan.threshold ≤ count_of members
enough_by plan precision Integrating adjustment point cycle members e =
    leb-true plan.threshold (count_of members) (enough_of (nat_le plan.threshold (count_of members))
    (nat_le cycle last_cycle) e)
  where
    enough_of : (a b : Bool) → Integrates ≡ heard_enough (a && b) → a ≡ true
    enough_of true b e = refl
    enough_of false b e = absurd cc
enough_by plan precision Off adjustment point cycle members e = absurd cc
enough_by plan precision Joining adjustment point cycle members e = absurd (never_by _ e)
  where
    never_by : (b : Bool) → Integrates ≡ heard_by_schedule b → ⊥
    never_by true e = cc
    never_by false e = cc
enough_by plan precision Synchronised adjustment point cycle members e = absurd (never_by _ e)
  where
    never_by : (b : Bool) → Integrates ≡ heard_by_schedule b → ⊥
    never_by true e = cc
    never_by false e = cc

-- ---- a compression master before the correction points of a block

not_on : (device other : DeviceId) (state : State) (cause : ℕ) (why : Why)
    → ends_stretch device (notes.State other state cause why) ≡ true
    → (why ≡ whys.On → ⊥) × ((device.0 == other.0) ≡ true)
not_on device other state cause whys.On e = absurd cc
not_on device other state cause whys.Frame e = (λ wrong. cc, e)
not_on device other state cause whys.Correction e = (λ wrong. cc, e)
not_on device other state cause whys.SyncClique e = (λ wrong. cc, e)
not_on device other state cause whys.AsyncClique e = (λ wrong. cc, e)

-- a frame tells the device the time at this instant
record IsTold (v : View) (device : DeviceId) (u : ℕ) : Type 0 where
  pub g : Happening
  pub there : IsIn g v.records
  pub at : time_of g ≡ u
  pub joined : is_joined_by device g.note.body ≡ true

-- the frame of the block's cycle is sent
abbrev pub IsFrameSent : View → Channel → ℕ → Type 0
IsFrameSent v channel n = (hull : Hull) × (hull_of v (suc n) ≡ Some hull) × SendsOn v channel n hull

module _ (goes : BlocksGoSo) (v : View) (n t : ℕ) (block : IsInBlock v n t) (cm : DeviceId) (by : ℕ) (is : IsView v)
    (all : AreAllGood v)
    (one : is_cm v.scenario.network cm ≡ true) (early : IsEarly v n t block by) where
  -- it finds no fault with a frame of the block's cycle
  fine : (q : ℕ) (hs : List Happening) (point : ℤ) → AreUpTo v q hs → q ≤ by
      → IsAimed v block.before.hull block.before.next cm point q
      → point_fault v.scenario.network (state_at_hearing v.scenario hs cm q)
      (adjustment_at_hearing v.scenario hs cm q).0 point (suc n) ≡ None
  fine q hs point up le aimed =
      let network = v.scenario.network in
      let next = block.before.next in
      let state = state_at_hearing v.scenario hs cm q in
      let adjustment = (adjustment_at_hearing v.scenario hs cm q).0 in
      elim (cases_Bool (is_synchronised state)) [
        | inr not_so ↦ fine_unsynchronised (is_synchronised state) _ _ Gate Cycle not_so
        | inl so ↦
            let step = in_step cm up so in
            let has : HasTimeAt v cm q = record { good = all cm; timed = has_it (state_left v cm q) step.1 } in
            let old = old_early goes v n t block cm by q is early (all cm) (omega arith) step.1 in
            let value = taken_by_old block is (omega (arith, early.1)) has old aimed in
            let same = adjusts_as cm up step.0
            ∙ sym (ap (λ a. a.0) (adjustment_stays cm next q is (omega (arith, aimed.late)) old)) in
            no_point_fault state adjustment point is
            (rw same value)
      ]

  went : (u : ℕ) → block.before.next ≤ u → u < by + 1 → BlockGoesSo v n block.before.next u block.before.hull
  went u from lt = goes v n u (earlier_in_block _ _ _ _ block from (omega (arith, early.1))) is

  -- what lies so near before one is of the block's cycle
  alike : (point : ℤ) (q : ℕ) (k : Happening) (o : Point) → q ≤ by
      → IsAimed v block.before.hull block.before.next cm point q
      → IsIn k v.records → time_of k ≤ by → GivesPoint cm k o → o.reading ≤ℤ point
      → point ≤ℤ (o.reading +ℤ pos (2 * v.sizes.precision))
      → o.cycle ≡ suc n
  alike point q k o le aimed i to g low high =
      elim (record_point by is i to one g) [
        | inr bad ↦ absurd (both_ways (is_broken v.scenario bad.master v.until) (all bad.master) bad.bad)
        | inl good ↦
            let known = known_dispatch v n (by + 1) block.before went good.first good.master o.cycle good.dispatch
            (omega (arith, good.before)) in
            elim (cases_lt o.cycle (suc n)) [
              | inr ge ↦ omega (arith, known.0)
              | inl lt ↦
                  let w = known.1 in
                  let narrow = narrow_at o.cycle block.before w.hull (omega arith) w.is in
                  let least = leasts_grow o.cycle n w.hull block.before.hull is
                  (omega arith) w.is block.before.is_hull in
                  let clock = steady v is cm in
                  let x = good.ripe in
                  let space = room is in
                  let apart : x + 4 * v.sizes.precision ≤ q =
                  omega (arith, ints, w.most, good.in_time.not_late, aimed.low, aimed.not_early)
                  in
                  let slow = clock.slow x (x + 4 * v.sizes.precision) (omega arith) (omega (arith, space.cycles)) in
                  let more = clock.never_falls (x + 4 * v.sizes.precision) q apart in
                  absurd (omega (arith, ints, good.least, aimed.most))
            ]
      ]

  -- its state changes there only by a frame that tells it the time
  told_by : (h : Happening) (state : State) (cause : ℕ) (why : Why) → IsIn h v.records → block.before.next ≤ time_of h
      → time_of h ≤ by
      → h.note.body ≡ notes.State cm state cause why → (why ≡ whys.On → ⊥) → IsTold v cm (time_of h)
  told_by h state cause whys.On i from le body other = absurd (other refl)
  told_by h state cause whys.Frame i from le body other =
      let at = founded_at v.scenario v.records h is.run.founded i in
      let c : ChangesState v.scenario at.front cm (time_of h) state cause whys.Frame =
      subst (IsCaused v.scenario at.front h.note.time) body at.due.cause in
      let g = c.1.0 in
      record {
        g = g;
        there = subst (IsIn g) (sym at.whole) (in_left g at.front (h ∷ at.rest)
            (numbered_in at.front cause g c.1.1.there));
        at = c.1.1.same_time;
        joined = c.1.2;
      }
  told_by h state cause whys.Correction i from le body other =
      let at = founded_at v.scenario v.records h is.run.founded i in
      let c : ChangesState v.scenario at.front cm (time_of h) state cause whys.Correction =
      subst (IsCaused v.scenario at.front h.note.time) body at.due.cause in
      let g = c.2.3 in
      let there : IsIn g v.records = subst (IsIn g) (sym at.whole) (in_left g at.front (h ∷ at.rest)
      (numbered_in at.front cause g c.2.4.there)) in
      let same = c.2.4.same_time in
      let sets = ap (changes_adjustment cm) c.2.5 ∙ eq-eqb cm.0 cm.0 refl in
      let corrected = has_corrected cm g is (all cm) there sets (ap is_correction c.2.5) in
      absurd (early_point goes v n t block cm by (time_of g) corrected.cycle (Corrected corrected.by) is early
      (omega arith)
      (omega arith) corrected.point)
  told_by h state cause whys.SyncClique i from le body other =
      let lost = has_lost cm h state cause whys.SyncClique is (all cm) i body tt in
      absurd (early_point goes v n t block cm by (time_of h) lost.cycle lost.verdict is early from le lost.point)
  told_by h state cause whys.AsyncClique i from le body other =
      let lost = has_lost cm h state cause whys.AsyncClique is (all cm) i body tt in
      absurd (early_point goes v n t block cm by (time_of h) lost.cycle lost.verdict is early from le lost.point)

  -- so what ends its stretch there is such a frame
  told : (h : Happening) (body : NoteBody) → IsIn h v.records → block.before.next ≤ time_of h → time_of h ≤ by
      → h.note.body ≡ body
      → ends_stretch cm body ≡ true → IsTold v cm (time_of h)
  told h (notes.State other state cause why) i from le same e =
      let parts = not_on cm other state cause why e in
      told_by h state cause why i from le (same ∙ ap (λ d. notes.State d state cause why)
      (same_device cm other parts.1)) parts.0
  told h body i from le same e = record { g = h; there = i; at = refl; joined = ap (is_joined_by cm) same ∙ e }

  -- and that is its own, of the block's cycle
  sent_by : (channel : Channel) → IsCmOf v.scenario.network channel cm → (g : Happening) (body : NoteBody)
      → IsIn g v.records
      → block.before.next ≤ time_of g → time_of g ≤ by → g.note.body ≡ body → is_joined_by cm body ≡ true
      → IsFrameSent v channel n
  sent_by channel of_channel g (notes.Permanent other link cause point Integrates) i from le same e =
      let at = founded_at v.scenario v.records g is.run.founded i in
      let body = same ∙ ap (λ d. notes.Permanent d link cause point Integrates) (same_device cm other e) in
      let ripens = subst (IsCaused v.scenario at.front g.note.time) body at.due.cause in
      absurd (no_telling _ _ _ _ (MatchBool-at_true _ _ one ripens.becomes))
  sent_by channel of_channel g (notes.Compressed other opened own cycle members Integrates) i from le same e =
      let at = founded_at v.scenario v.records g is.run.founded i in
      let body = same ∙ ap (λ d. notes.Compressed d opened own cycle members Integrates)
      (same_device cm other e) in
      let emits_so = subst (IsCaused v.scenario at.front g.note.time) body at.due.cause in
      let enough =
      enough_by (plan_of v.scenario.network cm) (observation_window v.scenario.network)
      (state_at_hearing v.scenario at.front cm (time_of g))
      (adjustment_at_hearing v.scenario at.front cm (time_of g)).0 own.0 cycle members emits_so.heard in
      let shows = emission_shows g cm opened own cycle members Integrates is i body in
      let joined = ap (is_joined_by cm) same ∙ e in
      let joins = (went (time_of g) from (omega arith)).joins g cm i joined (all cm) refl in
      let of_cycle = shows.0 ∙ joins.of_cycle in
      let emission : IsEmission v g cm (suc n) members =
      rw (sym of_cycle) (record
      { there = i; opened = opened; at = own; verdict = Integrates; is = body }) in
      let base = bases_are_in_hulls v g cm (suc n) members is emission
      (λ h d m dispatch lt. (known_dispatch v n (by + 1) block.before went h d m dispatch (omega arith)).1)
      (inl (omega (arith, (is.lawful.rules Masters 2).threshold_least refl))) in (
        base.hull,
        base.is,
        record {
          cm = cm;
          is_cm = of_channel;
          first = g;
          members = members;
          emission = emission;
          enough = enough;
          near = record { least = base.least; most = base.most };
        },
      )
  sent_by channel of_channel g body i from le same e = absurd cc

-- ---- the law

-- the compression master of a channel that is whole from the dispatches of the block's cycle on sends its frame
pub whole_master_sends : BlocksGoSo → {v : View} (channel : Channel) {n t : ℕ} (block : IsInBlock v n t) → IsView v
    → AreAllGood v → ((u : ℕ) → IsInHull v (suc n) u → IsWholeFrom v channel u)
    → (first_correction v.sizes block.before.hull +ℤ pos v.sizes.reach) ≤ℤ pos t → IsFrameSent v channel n
whole_master_sends goes {v} channel {n} {t} block is all whole late =
    let before = block.before in
    let next = before.next in
    let space = room is in
    let natural = natural_of (last_dispatch v.sizes before.hull +ℤ pos
    (v.sizes.dmax + v.sizes.compression + v.sizes.base + v.sizes.path + v.sizes.precision)) 0
    (omega (arith, ints, early_show n before is, hull_ordered n before is)) in
    let by = natural.0 in
    let first = frames_come_first v.sizes before.hull space (before_narrow before) in
    let early : IsEarly v n t block by = (
      omega (arith, ints, natural.1),
      omega
          (arith, ints, natural.1),
    ) in
    let cm = channel_cm channel is in
    let one = (cm_is v channel cm.0 cm.1).one in
    let test = λ (h : Happening). nat_le next (time_of h) && (nat_le (time_of h) by && is_joined_by cm.0 h.note.body) in
    elim (cases_Bool (list_any test v.records)) [
      | inl hit ↦
          let g = any_in test v.records hit in
          let outer = and_parts (nat_le next (time_of g.0)) (nat_le (time_of g.0) by && is_joined_by cm.0 g.0.note.body)
          g.2 in
          let inner = and_parts (nat_le (time_of g.0) by) (is_joined_by cm.0 g.0.note.body) outer.1 in
          sent_by goes v n t block cm.0 by is all one early channel cm.1 g.0 g.0.note.body g.1
          (leb-true next (time_of g.0) outer.0)
          (leb-true (time_of g.0) by inner.0) refl inner.1
      | inr none ↦ emits goes v channel n t block cm.0 by is (record {
        of_channel = cm.1;
        good = all cm.0;
        to = early.1;
        late = late;
        over = omega (arith, ints, natural.1);
        whole = whole;
        fine = fine goes v n t block cm.0 by is all one early;
        alike = alike goes v n t block cm.0 by is all one early;
        quiet = λ h i from le. false_from_ne_true (ends_stretch cm.0 h.note.body) (λ ends.
            (let x = told goes v n t block cm.0 by is all one early h h.note.body i from le refl ends in
            let same = x.at in
            both_ways (list_any test v.records) none (in_any test v.records x.g x.there
            (rw (le-leb next (time_of x.g) (omega arith))
            (ap (λ b. b && is_joined_by cm.0 x.g.note.body)
            (le-leb (time_of x.g) by (omega arith)) ∙ x.joined)))));
      })
    ]
