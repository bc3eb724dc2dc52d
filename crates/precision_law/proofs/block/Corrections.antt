-- What each instant of a block brings, and how old devices correct their clocks in it.
use Rattle.precision_law.proofs.words.Blocks
use Blocks.{FramesGoSo, HasDispatched, HasPoint, IsGoodHearing, IsLate, IsSetInBlock, WentSo, before_narrow, block_ends}
use Blocks.{cleared_from, corrections_go_on, earlier_in_block, expected_is, expected_late, follows_before, good_hearing}
use Blocks.{had_time, has_corrected, has_dispatched, high_by, in_part, int_lt-is, joiner_integrates, joining_of_setting}
use Blocks.{joins, late_from, low_by, members_by, near_hull, new_shows, not_turned_on_then, old_number, old_point}
use Blocks.{old_shows, set_by_joining, set_shows}
use Rattle.precision_law.proofs.words.Clocks
use Clocks.{IsHearingOf, IsSetting, adjustment_stays, best_is_heard, clocks_reach_sharply, earlier_before, hearing_of}
use Clocks.{hears_by, in_hull, instants_are_in_order, int_le-is, joiner_waits, next_cycle_is_of_last, one_frame_sets}
use Clocks.{one_more, point_is, reaches_whole, room, same_adjustment, same_cleared, same_next, set_clocks_show}
use Clocks.{setting_is, settings_stay, sizes_are, steady, synchronised_has_time, two_frames_anchor}
use Rattle.precision_law.proofs.words.Laws
use Laws.{AreBeforeCorrections, BlockGoesSo, BlocksGoSo, ComesTo, CorrectsSo, DispatchesSo, HasTimeAt, HearsBy, Hull}
use Laws.{IsAnchored, IsDispatch, IsInBlock, IsInHull, IsNearHull, IsOldAt, IsPointOf, IsSetFor, IsSharedCorrection}
use Laws.{IsView, JoinsSo, ShowsIn, Stands, View, adjustment_left, base_of, cycle_set, epoch_time, first_correction}
use Laws.{has_time, hull_of, is_correction, last_setting, next_of, setting, state_left}
use Rattle.precision_law.proofs.words.Plans
use Plans.{A, B, Channel, Cleared, Corrected, DeviceId, HasVerdict, HeardFrame, Hearing, IsAtIntegration, IsBestOf}
use Plans.{IsMean, Joining, Masters, Standing, State, Summarizes, Summary, Units, Verdict, amount, best_on}
use Plans.{correction_of, count_of, deviation_by, deviation_on, expected_at, mean_of-floor, within_on}
use Rattle.precision_law.proofs.words.Runs
use Runs.{Happening, Integrates, IsIn, Within, adjustment_before, adjustment_with, changed_at, correction_value}
use Runs.{cycle_in, earlier, expected_by, had_come, has_cleared, heard_since, in_left, integration_cycle}
use Runs.{is_integration_cycle, is_joined_by, is_synchronised, local_at_change, next_cycle, plan_of, recorded_cycle}
use Runs.{same_some, standing_before, state_after, state_before, time_of}
use Rattle.precision_law.proofs.words.Std
use Std.{if◌then◌else◌, ◌*◌, ◌+ℤ◌, ◌+◌, ◌-ℤ◌, ◌-◌, ◌<ℤ◌, ◌<◌, ◌∙◌, ◌≡◌, ◌≤ℤ◌, ◌≤◌, Bool, List, None, Option, Some}
use Std.{and_parts, ap, arith, by_lt_z, cases_lt, false, inl, inr, int_le, int_lt, ints, leb-true, mul-le-mul_right}
use Std.{nat_le, negsuc, option_and_then, option_map_or, pos, refl, subst, suc, sym, true, zero, ℕ, ℤ}

-- ---- how an old device corrects its clock in a block: by frames of the block's cycle, by whose bases the clock is anchored

-- ---- how late an old device heard what it corrects by

module _ (v : View) (k t : ℕ) (block : IsInBlock v (suc k) t) (device : DeviceId) (is : IsView v) (has : HasTimeAt v device t)
    (old : IsOldAt v block.before.next device t) (w : Hull) (at_w : hull_of v k ≡ Some w) where
  -- its clock stands as it was set before the block
  last : last_setting (earlier block.before.next v.records) device ≡ last_setting (earlier t v.records) device
  last = settings_stay v device block.before.next t is block.from old

  set : IsSetFor v (suc k) block.before.hull block.before.next device
  set = block.before.clocks device (had_time block.before.next is block.from old has)

  -- a joiner's clock comes to its correction point after the first corrections of the cycle
  cleared_late : (q : ℕ) (h : Happening) → q ≤ t → last_setting (earlier t v.records) device ≡ Some h → is_correction h.note.body ≡ false
      → has_cleared v.scenario v.records device t q ≡ true → first_correction v.sizes w ≤ℤ pos q
  cleared_late q h le e joined cleared =
      let s = v.scenario in
      let before = block.before in
      let reading = s.reading device in
      let space = room is in
      let integrates = joiner_integrates (earlier t v.records) device h e (setting_is v device t h e).sets joined in
      let recorded : recorded_cycle (earlier t v.records) device ≡ suc k = integrates.1 ∙ sym (set_by_joining h h.note.body joined)
      ∙ ap (λ (x : Option Happening). option_map_or (λ g. cycle_set g g.note.body) x 0) (sym (last ∙ e)) ∙ set.index in
      let value = correction_value s.network (recorded_cycle (earlier t v.records) device) in
      let come = (and_parts (is_integration_cycle (earlier t v.records) device) (had_come s v.records device value t q) cleared).1 in
      let both = and_parts (int_lt (local_at_change s v.records device t) value)
      (int_le value (pos (reading (q - 1)) +ℤ (adjustment_before s v.records device t).0)) come in
      let below = int_lt-is (local_at_change s v.records device t) value both.0 in
      let above = int_le-is value (pos (reading (q - 1)) +ℤ (adjustment_before s v.records device t).0) both.1 in
      let same_time : changed_at v.records device before.next ≡ changed_at v.records device t =
      ap (λ o. option_map_or time_of o 0) last in
      let same_a = ap (λ (a : Units). a.0) (adjustment_stays device before.next t is block.from old) in
      let behind : changed_at v.records device t < q - 1 = elim (cases_lt (changed_at v.records device t) (q - 1)) [
        | inl lt ↦ lt
        | inr ge ↦ (let up = (steady v is device).never_falls (q - 1) (changed_at v.records device t) ge in
            absurd (omega (arith, ints)))
      ] in
      let shows = set_clocks_show v.sizes reading (adjustment_left v device t) (suc k) before.hull set.set_at (q - 1) (steady v is device)
      (omega (arith, set.since))
      (omega (
        arith,
        ints,
        block_ends v (suc k) block.next _ before.is_hull block.is_over,
        before_narrow before,
        set.not_before,
        block.to,
      ))
      (rw (sym same_a) set.anchored) in
      let product = ap (λ x. recorded_cycle (earlier t v.records) device * x) (sym (sizes_are is).cycle) ∙ ap (λ c. c * v.sizes.cycle) recorded in
      let follows = follows_before k w before.hull is at_w before.is_hull in
      omega (arith, ints, shows.most, (sizes_are is).correction, follows.least, space.errors.reach_is)

  -- what it heard since its last correction point came behind the first corrections of the cycle before
  late_by : (front : List Happening) (hearing : Hearing) → (split : AreBeforeCorrections v t front) → (heard : IsHearingOf v device t front hearing)
      → (o : Option Happening) → last_setting (earlier t v.records) device ≡ o → first_correction v.sizes w ≤ℤ pos (time_of heard.h)
  late_by front hearing split heard None e =
      let index : 0 ≡ suc k = ap (λ (x : Option Happening). option_map_or (λ g. cycle_set g g.note.body) x 0) (sym (last ∙ e)) ∙ set.index in
      absurd (omega arith)
  late_by front hearing split heard (Some x) e =
      let next = block.before.next in
      let here = setting_is v device t x e in
      elim (block.before.points w k refl at_w device (had_time next is block.from old has)).how [
        | inl corrected ↦
            let time = ap (λ (o : Option Happening). option_map_or (λ g. pos (time_of g)) o (negsuc 0)) (last ∙ e) in
            omega (arith, ints, corrected.1, heard.since x (in_part x split here.there here.early) here.early here.sets)
        | inr joined ↦
            let not_corrected = sym (ap (λ o. option_map_or (λ g. is_correction g.note.body) o false) (last ∙ e)) ∙
            joined.0 in
            let integrates = joiner_integrates (earlier t v.records) device x e here.sets not_corrected in
            let then_cleared = heard.cleared
            (same_cleared device t split ∙ cleared_from device next t t is block.from block.from old integrates.0 joined.1) in
            cleared_late (time_of heard.h) x (split.only heard.h heard.there) e not_corrected
            (sym (same_cleared device (time_of heard.h) split) ∙ then_cleared)
      ]

-- so it came behind the first corrections of all earlier cycles
pub heard_late : {v : View} (n : ℕ) {t : ℕ} (block : IsInBlock v n t) {device : DeviceId} → IsView v
    → HasTimeAt v device t → IsOldAt v block.before.next device t → {front : List Happening} {hearing : Hearing}
    → AreBeforeCorrections v t front → (heard : IsHearingOf v device t front hearing) → IsLate v n (time_of heard.h)
heard_late zero block is has old split heard k w le at = absurd (omega arith)
heard_late {v} (suc c) {t} block {device} is has old {front} {hearing} split heard k w le at =
    let there = block.before.narrow c (omega arith) in
    let gap : k + (c - k) ≡ c = omega arith in
    let late = late_by v c t block device is has old there.0 there.1 front hearing split heard (last_setting (earlier t v.records) device) refl in
    let on = corrections_go_on k (c - k) block.before w _ is
    (omega arith) at (subst (λ x. hull_of v x ≡ Some there.0) (sym gap) there.1) in
    omega (arith, ints)

-- ---- the deviation of a channel

-- the deviation that the channel shows is that by a frame of the block
pub record IsByFrame (v : View) (n t : ℕ) (before : Stands v n) (device : DeviceId) (channel : Channel) (dev : Units) : Type 0 where
  pub h : Happening
  pub point : ℤ
  pub heard : IsGoodHearing v n before device channel point h
  pub near : IsNearHull v.sizes heard.hull (base_of v.sizes (time_of heard.emission))
  pub by_then : time_of h ≤ t
  pub is : dev.0 ≡ (setting v.sizes (suc n) (expected_by v.scenario.network device) point -ℤ adjustment_left v device t)

deviation_if : (b : Bool) (x dev : Units) → (if b then Some x else None) ≡ Some dev → (b ≡ true) × (x ≡ dev)
deviation_if true x dev e = (refl, cc)
deviation_if false x dev e = absurd cc

-- a deviation that is there is by a frame of three members or more that was heard within
pub is_by_frame : FramesGoSo → {v : View} {n t : ℕ} (block : IsInBlock v n t) {device : DeviceId} → IsView v
    → WentSo v n block.before t → HasTimeAt v device t → IsOldAt v block.before.next device t
    → {front : List Happening} {summary : Summary} → AreBeforeCorrections v t front
    → Summarizes summary (heard_since v.scenario front device t)
    → (channel : Channel) (dev : Units) (o : Option HeardFrame) → best_on channel summary ≡ o → option_and_then
    (λ frame. if nat_le v.scenario.network.sync_threshold (count_of frame.members) then Some (deviation_by
    (standing_before v.scenario front device t) frame) else None) o ≡ Some dev
    → IsByFrame v n t block.before device channel dev
is_by_frame laws block is went has old split sums channel dev None best e = absurd cc
is_by_frame laws {v} {n} {t} block {device} is went has old {front} split sums channel dev (Some frame) best e =
    let s = v.scenario in
    let both = deviation_if (nat_le s.network.sync_threshold (count_of frame.members)) (deviation_by (standing_before s front device t) frame) dev e in
    let is_best = subst (IsBestOf (heard_since s front device t) channel) best (sums.best channel) in
    let hearing = within_on channel frame in
    let heard = hearing_of device hearing is split (best_is_heard is_best) in
    let h = heard.h in
    let in_all : IsIn h v.records = subst (IsIn h) (sym split.whole) (in_left h front split.rest heard.there) in
    let this = hears_by v device h hearing h.note.body in_all refl heard.shows in
    let hears = subst (λ j. HearsBy v device channel frame.point.0 j h) (this.judges.inside refl) this.hears in
    let members : count_of frame.members ≡ count_of (members_by h) =
    ap (λ m. count_of (record { 0 = m })) (sym this.members) in
    let many = leb-true s.network.sync_threshold (count_of frame.members) both.0 in
    let enough : 3 ≤ count_of (members_by h) = omega (arith, (is.lawful.rules Masters 2).threshold_least refl) in
    let by_then = split.only h heard.there in
    let g = good_hearing laws v n t block.before is went device channel frame.point.0 h by_then Within tt hears
    (heard_late n block is has old split heard) (λ c cm f. laws.three v c cm _ (members_by h) is f enough) in
    let number : next_cycle s front device t ≡ suc n =
    same_next device split ∙ old_number t device block.before is block.from has old in
    let left = ap (λ (a : Units). a.0) (same_adjustment device split) in
    let moved = ap (λ c. expected_at (plan_of s.network device) c -ℤ frame.point.0) number ∙ expected_is device
    (suc n) frame.point.0 is in
    record {
      h = h;
      point = frame.point.0;
      heard = g;
      near = near_hull laws v n t block.before is went device channel frame.point.0 h by_then g (inl enough);
      by_then = by_then;
      is = ap (λ u. u.0) (sym both.1) ∙ ap (λ z. z -ℤ (adjustment_before s front device t).0) moved
          ∙ ap (λ a. setting v.sizes (suc n) (expected_by s.network device) frame.point.0 -ℤ a) left;
    }

-- ---- corrections

-- which deviation is given first does not matter
pub turned : (a b : Option Units) → correction_of a b ≡ correction_of b a
turned None None = refl
turned None (Some b) = refl
turned (Some a) None = refl
turned (Some a) (Some b) = ap (λ (z : ℤ). let u : Units = record { 0 = z } in Some u) (omega (arith, ints, mean_of-floor a.0 b.0, mean_of-floor b.0 a.0))

module _ (v : View) (n t : ℕ) (before : Stands v n) (is : IsView v) (device : DeviceId) where
  -- a clock that two frames set, the one heard first being given first, is anchored by both
  two_anchor : (c d : Channel) (a b by : Units) → (x : IsByFrame v n t before device c a) → (y : IsByFrame v n t before device d b) → time_of x.h ≤ time_of y.h
      → IsMean a.0 b.0 by.0 → IsAnchored v.sizes (pos (v.scenario.reading device (time_of y.h)) +ℤ (adjustment_left v device t +ℤ by.0)) (suc n)
      (low_by v.sizes (base_of v.sizes (time_of x.heard.emission)) (base_of v.sizes (time_of y.heard.emission)))
      (high_by v.sizes (base_of v.sizes (time_of x.heard.emission)) (base_of v.sizes (time_of y.heard.emission))) (time_of y.h)
  two_anchor c d a b by x y le mean =
      let space = room is in
      let expected = expected_by v.scenario.network device in
      let hull = x.heard.hull in
      let order = instants_are_in_order v.sizes before.hull hull space (before_narrow before) (follows_before n _ _ is before.is_hull x.heard.is_hull) in
      let floor = mean_of-floor (setting v.sizes (suc n) expected x.point) (setting v.sizes (suc n) expected y.point) in
      let both = two_frames_anchor v.sizes (v.scenario.reading device) (base_of v.sizes (time_of x.heard.emission)) (base_of v.sizes (time_of y.heard.emission))
      (time_of x.h) (time_of y.h) x.point y.point expected (suc n) (steady v is device) le
      (omega (arith, ints, y.heard.not_late, x.heard.not_early)) x.heard.timely y.heard.timely in
      record { least = omega (arith, ints, both.least, x.is, y.is); most = omega (arith, ints, both.most, x.is, y.is) }

  -- what two deviations correct, which need not be of two frames
  shared_two : (c d : Channel) (a b by : Units) → (x : IsByFrame v n t before device c a) → IsByFrame v n t before device d b → IsMean a.0 b.0 by.0
      → IsSharedCorrection v n t x.heard.hull (base_of v.sizes (time_of x.heard.emission)) device by
  shared_two c d a b by x y mean =
      let other = base_of v.sizes (time_of y.heard.emission) in
      let near = subst (λ w. IsNearHull v.sizes w other) (same_some _ _ _ y.heard.is_hull x.heard.is_hull) y.near in
      elim (cases_lt (time_of y.h) (time_of x.h)) [
        | inr le ↦ record {
          other = other;
          near = near;
          set_at = time_of y.h;
          not_before = omega (arith, ints, x.heard.not_early);
          not_behind = y.by_then;
          anchored = two_anchor c d a b by x y le mean;
        }
        | inl lt ↦
            let z = two_anchor d c b a by y x (omega arith) (record {
              least = omega (arith, ints, mean.least);
              most =
                  omega (arith, ints, mean.most);
            }) in
            record {
              other = other;
              near = near;
              set_at = time_of x.h;
              not_before = x.heard.not_early;
              not_behind = x.by_then;
              anchored = record { least = omega (arith, ints, z.least); most = omega (arith, ints, z.most) };
            }
      ]

  -- what the deviations of the channels correct
  pub shared_by : (c d : Channel) (a by : Units) (o : Option Units) → (x : IsByFrame v n t before device c a)
      → ((b : Units) → o ≡ Some b → IsByFrame v n t before device d b) → correction_of (Some a) o ≡ Some by
      → IsSharedCorrection v n t x.heard.hull (base_of v.sizes (time_of x.heard.emission)) device by
  shared_by c d a by None x other e =
      let same : a.0 ≡ by.0 = ap (λ (o : Option Units). option_map_or (λ u. u.0) o (pos 0)) e in
      shared_two c c a a by x x (record { least = omega (arith, ints); most = omega (arith, ints) })
  shared_by c d a by (Some b) x other e =
      shared_two c d a b by x (other b refl)
      (subst (IsMean a.0 b.0) (ap (λ (o : Option Units). option_map_or (λ u. u.0) o (pos 0)) e) (mean_of-floor a.0 b.0))

  -- so the correction sets the clock in the hull
  corrects_first : (c d : Channel) (a by : Units) (o : Option Units) → IsByFrame v n t before device c a
      → ((b : Units) → o ≡ Some b → IsByFrame v n t before device d b) → correction_of (Some a) o ≡ Some by → CorrectsSo v n t device by
  corrects_first c d a by o x other e =
      let z = shared_by c d a by o x other e in
      let errors = (room is).errors in
      record {
        hull = x.heard.hull;
        is_hull = x.heard.is_hull;
        set_at = z.set_at;
        not_before = z.not_before;
        not_behind = z.not_behind;
        anchored = record { least = omega (arith, ints, z.anchored, z.near, x.near); most = omega (arith, ints, z.anchored, z.near, x.near) };
      }

  pub corrects_by : (c d : Channel) (by : Units) (a b : Option Units) → ((dev : Units) → a ≡ Some dev → IsByFrame v n t before device c dev)
      → ((dev : Units) → b ≡ Some dev → IsByFrame v n t before device d dev) → correction_of a b ≡ Some by → CorrectsSo v n t device by
  corrects_by c d by None None one other e = absurd cc
  corrects_by c d by None (Some b) one other e = corrects_first d c b by None (other b refl) one e
  corrects_by c d by (Some a) o one other e = corrects_first c d a by o (one a refl) other e

-- ---- what each instant of a block brings: by induction over the instants

-- more cycles are longer
longer : (c d length : ℕ) → c ≤ d → c * length ≤ d * length
longer c d length le = mul-le-mul_right length le

-- a clock that was set before the block is past the correction of its cycle
past_correction : {v : View} (n : ℕ) {t : ℕ} (block : IsInBlock v n t) {shown : ℤ} → IsView v
    → ShowsIn v.sizes shown n block.before.hull t → 1 ≤ n → pos (n * v.sizes.cycle + v.sizes.correction) ≤ℤ shown
past_correction zero block is shows some = absurd (omega arith)
past_correction {v} (suc c) block is shows some =
    let before = block.before in
    let one = before.narrow c (omega arith) in
    let space = room is in
    let order = instants_are_in_order v.sizes one.0 before.hull space one.2
    (follows_before c one.0 before.hull is one.1 before.is_hull) in
    omega (arith, ints, block_ends v c before.next one.0 one.1 before.is_over, order.last_not_early, block.from, shows.least, space.errors.reach_is)

module _ (v : View) (n t : ℕ) (block : IsInBlock v n t) (is : IsView v) where
  -- ---- dispatches

  -- it is not yet at the cycle behind the block's
  before_next_cycle : (shown : ℤ) → ShowsIn v.sizes shown n block.before.hull t → shown <ℤ pos (suc (suc n) * v.sizes.cycle)
  before_next_cycle shown shows =
      let before = block.before in
      let ends = block_ends v n block.next before.hull before.is_hull block.is_over in
      let product : suc (suc n) * v.sizes.cycle ≡ n * v.sizes.cycle + 2 * v.sizes.cycle = omega arith in
      omega (arith, ints, block.to, shows.most, before_narrow before, room is)

  -- nor is one that was set in the block
  new_before_next : (hull : Hull) (shown : ℤ) → hull_of v (suc n) ≡ Some hull → ShowsIn v.sizes shown (suc n) hull t
      → shown <ℤ pos (suc (suc n) * v.sizes.cycle)
  new_before_next hull shown is_hull shows =
      let before = block.before in
      let space = room is in
      let order = instants_are_in_order v.sizes before.hull hull space (before_narrow before) (follows_before n _ _ is before.is_hull is_hull) in
      let product : suc (suc n) * v.sizes.cycle ≡ suc n * v.sizes.cycle + v.sizes.cycle = omega arith in
      omega (
        arith,
        ints,
        block_ends v n block.next before.hull before.is_hull block.is_over,
        block.to,
        order.last_not_late,
        shows.most,
      )

  -- the cycle of a dispatch by an old clock
  old_cycle : (cycle : ℕ) (shown : ℤ) → ShowsIn v.sizes shown n block.before.hull t → 1 ≤ cycle → pos (cycle * v.sizes.cycle) ≤ℤ shown
      → shown ≤ℤ (pos (cycle * v.sizes.cycle) +ℤ pos (2 * v.sizes.grain)) → cycle ≡ suc n
  old_cycle cycle shown shows begun least most =
      let top = before_next_cycle shown shows in
      let at_most : cycle ≤ suc n = elim (cases_lt (suc n) cycle) [
        | inr le ↦ le
        | inl lt ↦ (let more = longer (suc (suc n)) cycle v.sizes.cycle (omega arith) in absurd (omega (arith, ints)))
      ] in
      let at_least : suc n ≤ cycle = elim (cases_lt cycle (suc n)) [
        | inr ge ↦ ge
        | inl lt ↦
            let past = past_correction n block is shows (omega arith) in
            absurd (omega (arith, ints, longer cycle n v.sizes.cycle (omega (arith, lt)), room is))
      ] in
      omega arith

  -- a clock that was set in the block dispatches nothing
  new_dispatches_none : (cycle : ℕ) (device : DeviceId) → HasDispatched v device cycle t → IsSetInBlock v n t device (adjustment_left v device t) → ⊥
  new_dispatches_none cycle device has set =
      let top = new_before_next _ _ set.is_hull (set_shows block is set) in
      elim (cases_lt (suc n) cycle) [
        | inl lt ↦ (let more = longer (suc (suc n)) cycle v.sizes.cycle (omega arith) in omega (arith, ints, has.least))
        | inr le ↦ (let less = longer cycle (suc n) v.sizes.cycle le in omega (arith, ints, set.ahead, has.most))
      ]

  -- ---- correction points of old devices

  points_so : (device : DeviceId) (cycle : ℕ) (verdict : Verdict) → HasTimeAt v device t → IsOldAt v block.before.next device t
      → ComesTo v t device cycle verdict → IsPointOf v n t block.before.hull cycle
  points_so device cycle verdict has old comes =
      let space = room is in
      let number = point_is (state_before v.scenario comes.front device t) (next_cycle v.scenario comes.front device t) cycle comes.point.next
      ∙ same_next device comes.split ∙ old_number t device block.before is block.from has old in
      let value = correction_value v.scenario.network cycle in
      let sharp = clocks_reach_sharply v device value t is (reaches_whole comes.split comes.point.reached) in
      let shows = old_shows block is (omega arith) has old in
      let sizes = sizes_are is in
      let product = ap (λ (x : ℕ). cycle * x) (sym (sizes_are is).cycle) ∙ ap (λ c. c * v.sizes.cycle) number ∙ one_more n v.sizes.cycle in
      record { of_cycle = number; not_early = omega (arith, ints); not_late = omega (arith, ints) }

module _ (v : View) (n t : ℕ) (block : IsInBlock v n t) (is : IsView v) (went : WentSo v n block.before t) where
  -- a clock that was not set before the block was set in it
  set_within : (device : DeviceId) → HasTimeAt v device t → pos block.before.next ≤ℤ epoch_time (earlier t v.records) device
      → IsSetInBlock v n t device (adjustment_left v device t)
  set_within device has late =
      new_shows block (λ w from lt. went w from lt) is (omega arith) has (last_setting (earlier t v.records) device) refl late

  dispatches_so : (h : Happening) (device : DeviceId) (cycle : ℕ) → IsDispatch v h device cycle → time_of h ≡ t
      → DispatchesSo v n block.before.next t device cycle
  dispatches_so h device cycle dispatch at =
      let before = block.before in
      let shown = pos (v.scenario.reading device t) +ℤ adjustment_left v device t in
      let has = subst (HasDispatched v device cycle) at (has_dispatched is dispatch) in
      let timed : HasTimeAt v device t = record { good = dispatch.good; timed = synchronised_has_time (state_left v device t) has.synchronised } in
      by_lt_z {P = DispatchesSo v n before.next t device cycle} (epoch_time (earlier t v.records) device) (pos before.next)
      (λ old.
      let shows = old_shows block is (omega arith) timed old in
      let same = old_cycle v n t block is cycle shown shows has.begun has.least has.most in
      let product = ap (λ c. c * v.sizes.cycle) same ∙ one_more n v.sizes.cycle in
      let errors = (room is).errors in
      let inside = in_hull n before.hull before.is_hull (subst (IsDispatch v h device) same dispatch)
      (omega (arith, ints, shows.most, has.least, errors.reach_is))
      (omega (arith, ints, shows.least, has.most, errors.reach_is)) in
      record { of_cycle = same; old = old; inside = subst (IsInHull v (suc n)) at inside })
      (λ late. absurd (new_dispatches_none v n t block is cycle device has (set_within device timed late)))

  -- a good device joins by a frame of the block's cycle
  joins_so : FramesGoSo → (h : Happening) (device : DeviceId) → IsIn h v.records → is_joined_by device h.note.body ≡ true → time_of h ≡ t
      → JoinsSo v n t block.before.hull device h
  joins_so laws h device i joined at =
      let space = room is in
      let join = joins h device is i joined in
      let enough : 3 ≤ count_of (members_by h) = omega (arith, (is.lawful.rules Masters 2).threshold_least refl, join.enough) in
      let to : time_of h ≤ t = omega arith in
      let late = late_from n (time_of h) block.before is (omega (arith, block.from)) in
      let frame = good_hearing laws v n t block.before is went device join.channel join.point h to Integrates tt join.hears late
      (λ e cm f. laws.three v e cm _ (members_by h) is f enough) in
      let near = near_hull laws v n t block.before is went device join.channel join.point h to frame (inl enough) in
      let reading = v.scenario.reading device in
      let expected = expected_by v.scenario.network device in
      let anchored = one_frame_sets v.sizes reading frame.hull (base_of v.sizes (time_of frame.emission)) (time_of h) join.point expected (suc n) space near
      frame.timely in
      let adjusts : (adjustment_with v.scenario device (cycle_in h) (record { 0 = pos 0 }) h.note.body).0 ≡ setting v.sizes (suc n) expected join.point =
      join.sets (record { 0 = pos 0 }) ∙ expected_is device (cycle_in h) join.point is
      ∙ ap (λ c. setting v.sizes c expected join.point) frame.of_cycle in
      let read : reading (time_of h) ≡ reading t = ap reading at in
      record {
        of_cycle = frame.of_cycle;
        enough = enough;
        hull = frame.hull;
        is_hull = frame.is_hull;
        not_early = subst (λ u. frame.hull.least ≤ℤ pos u) at frame.not_early;
        not_late = rw (sym at) frame.not_late;
        anchored = record { least = omega (arith, ints, anchored.least); most = omega (arith, ints, anchored.most) };
        ahead = omega (arith, ints, frame.timely.least, expected_late device is);
      }

  -- the frames of the block correct an old device
  corrects_so : FramesGoSo → (device : DeviceId) (cycle : ℕ) (by : Units) → HasTimeAt v device t → IsOldAt v block.before.next device t
      → ComesTo v t device cycle (Corrected by) → CorrectsSo v n t device by
  corrects_so laws device cycle by has old comes =
      let summary = comes.point.summary in
      let stand = standing_before v.scenario comes.front device t in
      let frame = λ (channel : Channel) (dev : Units). is_by_frame laws block is went has old comes.split comes.point.heard
      channel dev (best_on channel summary) refl in
      corrects_by v n t block.before is device A B by (deviation_on stand summary A) (deviation_on stand summary B) (frame A) (frame B) comes.point.comes.3

-- ---- devices whose clocks were set in the block

-- a verdict that does not clear is not one of a joiner at its integration cycle
verdict_regular : {s : Standing} (heard : Summary) (verdict : Verdict) → HasVerdict s heard verdict
    → (verdict ≡ Cleared → ⊥) → IsAtIntegration s → ⊥
verdict_regular heard Cleared has not_cleared at = not_cleared refl
verdict_regular heard verdict has not_cleared at = has.0 at

-- a state with the time that is not synchronised is joining
joining_is : (state : State) → has_time state ≡ true → is_synchronised state ≡ false → state ≡ Joining
joining_is Joining e other = refl
joining_is state e other = absurd cc

module _ (v : View) (n t : ℕ) (block : IsInBlock v n t) (is : IsView v) (went : WentSo v n block.before t) (device : DeviceId) (cycle : ℕ)
    (verdict : Verdict) (p : HasPoint v t device cycle verdict) where
  -- the correction number of one whose clock a record of the block corrected, or told the time
  number_late : (o : Option Happening) → last_setting (earlier t v.records) device ≡ o
      → pos block.before.next ≤ℤ option_map_or (λ h. pos (time_of h)) o (negsuc 0) → suc (suc n) ≤ next_cycle v.scenario p.comes.front device t
  number_late None e late = absurd (omega (arith, ints))
  number_late (Some h) e late = by (is_correction h.note.body) refl (has_cleared v.scenario v.records device t t) refl
    where
      recorded : ℕ
      recorded = recorded_cycle (earlier t v.records) device

      set : IsSetting v device t h
      set = setting_is v device t h e

      so : BlockGoesSo v n block.before.next (time_of h) block.before.hull
      so = went (time_of h) (omega (arith, ints)) set.early

      next : (c : Bool) → has_cleared v.scenario v.records device t t ≡ c
          → next_cycle v.scenario p.comes.front device t ≡ (if c then recorded + 1 else recorded)
      next c clears = same_next device p.comes.split ∙ ap (λ x. if x then recorded + 1 else recorded) clears

      at_least : (c : Bool) (r : ℕ) → r ≤ (if c then r + 1 else r)
      at_least true r = omega arith
      at_least false r = omega arith

      by : (b : Bool) → is_correction h.note.body ≡ b → (c : Bool) → has_cleared v.scenario v.records device t t ≡ c
          → suc (suc n) ≤ next_cycle v.scenario p.comes.front device t
      by true corrected c clears =
          let here = has_corrected device h is p.has.good set.there set.sets corrected in
          let of_cycle = (old_point so here.point).1.of_cycle in
          let shown = next_cycle_is_of_last (earlier t v.records) device ∙ ap next_of e
          ∙ ap (λ b. if b then cycle_set h h.note.body + 1 else cycle_set h h.note.body) corrected in
          omega (arith, next c clears, at_least c recorded, ap (cycle_set h) here.is)
      by false joined c clears =
          let integrates = joiner_integrates (earlier t v.records) device h e set.sets joined in
          let joins_it = joining_of_setting device h.note.body set.sets joined in
          let of_cycle = (so.joins h device set.there joins_it p.has.good refl).of_cycle in
          waits c clears joins_it integrates.1 integrates.2 of_cycle
        where
          waits : (c : Bool) → has_cleared v.scenario v.records device t t ≡ c → is_joined_by device h.note.body ≡ true → recorded ≡ cycle_in h
              → integration_cycle (earlier t v.records) device ≡ Some (cycle_in h) → cycle_in h ≡ suc n
              → suc (suc n) ≤ next_cycle v.scenario p.comes.front device t
          waits true clears joins_it recorded_is integrates of_cycle = omega (arith, next true clears)
          waits false clears joins_it recorded_is integrates of_cycle =
              let s = v.scenario in
              let front = p.comes.front in
              let es = earlier_before p.comes.split in
              let same_state : state_before s front device t ≡ state_left v device t =
              rw (not_turned_on_then device t is p.has.timed)
              (ap (λ hs. state_after s hs device) es) in
              let joining = joining_is (state_left v device t) p.has.timed (joiner_waits device t h is e joins_it) in
              let number : integration_cycle (earlier t front) device ≡ Some (next_cycle s front device t) =
              ap (λ hs. integration_cycle hs device) es ∙ integrates
              ∙ ap (λ (x : ℕ). Some x) (sym recorded_is ∙ sym (next false clears)) in
              absurd (verdict_regular _ _ p.comes.point.comes p.not_cleared (record { joining = same_state ∙ joining; cycle = number }))

  -- such a device comes to no correction point in the block
  old_alone_so : IsOldAt v block.before.next device t
  old_alone_so =
      by_lt_z (epoch_time (earlier t v.records) device) (pos block.before.next) (λ old. old) (λ late.
      let s = v.scenario in
      let front = p.comes.front in
      let set = set_within v n t block is went device p.has late in
      let top = new_before_next v n t block is set.hull _ set.is_hull (set_shows block is set) in
      let number = number_late (last_setting (earlier t v.records) device) refl late in
      let same = point_is (state_before s front device t) (next_cycle s front device t) cycle p.comes.point.next in
      let value = correction_value s.network cycle in
      let sharp = clocks_reach_sharply v device value t is (reaches_whole p.comes.split p.comes.point.reached) in
      let product : cycle * amount s.network.cycle ≡ cycle * v.sizes.cycle = rw (sym (sizes_are is).cycle) in
      absurd (omega (arith, ints, sharp.least, longer (suc (suc n)) cycle v.sizes.cycle (omega (arith, same, number)))))

-- ---- the induction

goes_by : FramesGoSo → (v : View) {n : ℕ} (fuel t : ℕ) (block : IsInBlock v n t) → IsView v
    → t < block.before.next + fuel → BlockGoesSo v n block.before.next t block.before.hull
goes_by laws v zero t block is short = absurd (omega (arith, block.from))
goes_by laws v {n} (suc fuel) t block is short =
    let went : WentSo v n block.before t =
    λ u from lt. goes_by laws _ fuel u (earlier_in_block _ _ _ _ block from (omega arith)) is (omega arith) in
    record {
      dispatches = dispatches_so v n t block is went;
      joins = λ h device i joined good at. joins_so v n t block is went laws h device i joined at;
      points = points_so v n t block is;
      corrects = corrects_so v n t block is went laws;
      old_alone = λ device cycle verdict has comes not_cleared.
          old_alone_so v n t block is went device cycle verdict (record { has = has; comes = comes; not_cleared = not_cleared });
    }

pub blocks_go_so : FramesGoSo → BlocksGoSo
blocks_go_so laws v n t block is = goes_by laws v (t + 1) t block is (omega arith)
