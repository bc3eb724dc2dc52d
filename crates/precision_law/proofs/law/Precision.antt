-- The precision: in the blocks, which cover the run, clocks of good devices with the common time are near.
use Rattle.precision_law.proofs.words.Clocks
use Clocks.{IsCutAt, adjustment_is_last, adjustment_set, adjustment_stays, before_of, clocks_of_one_cycle}
use Clocks.{clocks_of_two_cycles, corrections_come_first, cut_at, has_before, instants_are_in_order, joined_changes}
use Clocks.{point_timed, room, same_adjustment, same_device, same_kept, set_clocks_show, set_clocks_stay_at_correction}
use Clocks.{setting_is, sizes_are, steady, time_stays, within_run}
use Rattle.precision_law.proofs.words.Laws
use Laws.{AreNear, BlockGoesSo, BlockIsOver, BlocksCover, BlocksGoSo, ClocksAgreeInBlocks, ClocksStayTogether, ComesTo}
use Laws.{DispatchesStayNear, FirmDevicesCorrect, Follows, HasTimeAt, Hull, HullsAreNarrow, IsAnchoredIn, IsClique}
use Laws.{IsFirm, IsFirstCorrection, IsFixedByPoints, IsGood, IsInBlock, IsNarrow, IsOldAt, IsOverBefore, IsRunUpTo}
use Laws.{IsSound, IsView, JoinersComeIn, OneChannelIsSound, ShowsIn, Stands, StandsAtStart, StandsOn, TimeIsKept, View}
use Laws.{adjustment_left, epoch_time, has_time, hull_of, last_correction, last_setting, set_adjustment, sizes_of}
use Laws.{start_hull, state_left}
use Rattle.precision_law.proofs.words.Plans
use Plans.{AsyncClique, Channel, Cleared, Corrected, DeviceId, IsBeta, State, SyncClique, Synchronised, Units, Verdict}
use Plans.{adjustment_at_start, beta_at, beta_exists, rules_give_trees, shape_rules}
use Rattle.precision_law.proofs.words.Runs
use Runs.{AreClose, ChangesState, ComesToCorrection, Happening, IsCaused, IsIn, IsInStep, IsInStepBefore, Note}
use Runs.{NoteBody, Scenario, Why, adjustment_after, adjustment_with, changes_adjustment, cycle_in, earlier, founded_at}
use Runs.{happenings, is_broken, is_joined_by, is_turned_on_at, same_some, standing_before, start_of, state_after}
use Runs.{time_of, up_to}
use Rattle.precision_law.proofs.words.Std
use Std.{◌*◌, ◌+ℤ◌, ◌+◌, ◌<ℤ◌, ◌<◌, ◌∙◌, ◌≡◌, ◌≤ℤ◌, ◌≤◌, ◌⊎◌, List, None, Option, Some, ap, arith, by_lt_z, cases_lt}
use Std.{false, inl, inr, ints, le-leb, le-ltb, lt-leb, lt-ltb, nat_le, nat_lt, negsuc, option_map_or, pos, refl, subst}
use Std.{suc, sym, true, zero, ℕ, ℤ}
use Rattle.sync_state.proofs.VerdictLemmas.{by_points, up_state}
use Rattle.run_law.specs.declared.judgement.Why.TheVariants as whys
use Rattle.run_law.specs.declared.note.NoteBody.TheVariants as notes

-- ---- what a device that joins comes to by its first correction

-- a correction is by what was heard
fixed_by_points : {s : Scenario} {mark : List ℕ} {ns : List Note} {until : ℕ} → IsRunUpTo s mark ns until
    → {device : DeviceId} {h : Happening} (f : IsFirstCorrection s (happenings s.network ns) device h)
    → IsFixedByPoints s f.front (time_of h) device f.adjustment
fixed_by_points {s} up {device} {h} f =
    let due = (up.run.founded f.front f.rest h f.whole).1 in
    let caused : IsCaused s f.front h.note.time (notes.Corrected device f.cycle f.by f.adjustment) = subst (IsCaused s f.front h.note.time) f.is due.cause in
    let standing = standing_before s f.front device (time_of h) in
    let point = caused.corrected in
    record {
      heard = point.summary;
      sums = point.heard;
      from_any =
          λ other. rw (sym caused.sum) at (by_points standing point.summary f.by other point.comes);
    }

pub joiners_come_in : ClocksStayTogether → DispatchesStayNear → JoinersComeIn
joiners_come_in together near s mark ns until up device h le f =
    let agree = together s mark ns until up in
    record {
      fixed = fixed_by_points up f;
      near = λ cycle g other own same_master theirs. (near s mark ns until up cycle g other own theirs, near s mark ns until up cycle other g theirs own);
      after = λ t e from to own theirs. agree.after t device e to own theirs;
      before = λ t e from to own theirs. agree.before t device e to own theirs;
    }

-- ---- in a block the clocks of any two good devices with the common time are near: the hulls of a block

-- the hull of the cycle before a block is narrow
pub before_narrow : {v : View} {n : ℕ} (stands : Stands v n) → IsNarrow v.sizes stands.hull
before_narrow {v} {n} stands =
    let there = stands.narrow n (omega arith) in
    subst (IsNarrow v.sizes) (same_some (hull_of v n) there.0 stands.hull there.1 stands.is_hull) there.2

-- a block is over behind the last correction
pub block_ends : (v : View) (n next : ℕ) (hull : Hull) → hull_of v n ≡ Some hull → IsOverBefore v (suc n) next
    → pos next ≡ (last_correction v.sizes hull +ℤ pos 1)
block_ends v n next hull is over = rw (same_some (hull_of v n) over.0 hull over.1 is) at over.2

-- the hull of the block's cycle follows the one before
pub follows_before : {v : View} (n : ℕ) (before hull : Hull) → IsView v → hull_of v n ≡ Some before
    → hull_of v (suc n) ≡ Some hull → Follows v.sizes before hull
follows_before {v} n before hull is is_before is_hull =
    let has = has_before v n hull (within_run is) is_hull in
    rw (same_some (hull_of v n) has.before before has.is_before is_before) at has.follows

-- ---- what a clock shows

-- it shows what a clock shows that was set for the cycle before the block, or for its cycle
abbrev ShowsOneOf : View → ℕ → Hull → ℕ → ℤ → Type 0
ShowsOneOf v n before t shown = ShowsIn v.sizes shown n before t ⊎ ((hull : Hull) × (hull_of v (suc n) ≡ Some hull) × ShowsIn v.sizes shown (suc n) hull t)

-- a clock that was set before the block
pub old_shows : {v : View} {n t u : ℕ} {d : DeviceId} (block : IsInBlock v n t) → IsView v → t ≤ u → HasTimeAt v d u
    → IsOldAt v block.before.next d u → ShowsIn v.sizes
    (pos (v.scenario.reading d t) +ℤ adjustment_left v d u) n block.before.hull t
old_shows {v} {n} {t} {u} {d} block is le has old =
    let before = block.before in
    let from : before.next ≤ u = omega (arith, block.from) in
    let set = before.clocks d (record { good = has.good; timed = (time_stays v d before.next u is from old has.timed) }) in
    let same : adjustment_left v d before.next ≡ adjustment_left v d u =
    ap (λ a. a.0) (adjustment_stays d before.next u is from old) in
    let anchored = rw same at set.anchored in
    set_clocks_show v.sizes (v.scenario.reading d) (adjustment_left v d u) n before.hull set.set_at t (steady _ is d)
    (omega arith) (omega (arith, ints, block_ends v n block.next _ before.is_hull block.is_over, before_narrow before, room is)) anchored

-- a clock was set at r in the block, within the hull of its cycle
pub record IsSetInBlock (v : View) (n t : ℕ) (d : DeviceId) (adjustment : ℤ) : Type 0 where
  pub hull : Hull
  pub is_hull : hull_of v (suc n) ≡ Some hull
  pub set_at : ℕ
  pub not_before : hull.least ≤ℤ pos set_at
  pub not_behind : set_at ≤ t
  pub anchored : IsAnchoredIn v.sizes (v.scenario.reading d) adjustment (suc n) hull set_at
  pub ahead : pos (suc n * v.sizes.cycle + 2 * v.sizes.grain) <ℤ (pos (v.scenario.reading d t) +ℤ adjustment)

-- an earlier time of the block
abbrev pub earlier_in_block : (v : View) (n t w : ℕ) (block : IsInBlock v n t) → block.before.next ≤ w → w ≤ t → IsInBlock v n w
earlier_in_block v n t w block from to = record {
  before = block.before;
  next = block.next;
  is_over = block.is_over;
  from = from;
  to = omega (arith, block.to);
  in_run = omega (arith, block.in_run);
}

-- what the record sets, by what it says
pub set_by : {v : View} {n t : ℕ} (d : DeviceId) (block : IsInBlock v n t) (h : Happening) (body : NoteBody)
    → BlockGoesSo v n block.before.next (time_of h) block.before.hull → IsView v → IsGood v d
    → block.before.next ≤ time_of h → time_of h ≤ t → IsIn h v.records → h.note.body ≡ body
    → changes_adjustment d body ≡ true → IsSetInBlock v n t d
    (adjustment_with v.scenario d (cycle_in h) (adjustment_at_start (start_of v.scenario.network d)) body).0
set_by {v} {n} {t} d block h (notes.Corrected e number by adjustment) so is good from to i body sets =
    let found = founded_at v.scenario v.records h is.run.founded i in
    let cause = subst (λ x. IsCaused v.scenario found.front h.note.time (notes.Corrected x number by adjustment))
    (same_device d e sets)
    (subst (IsCaused v.scenario found.front h.note.time) body found.due.cause) in
    let split = before_of is found in
    let has : HasTimeAt v d (time_of h) = record { good = good; timed = point_timed split cause.corrected } in
    let comes : ComesTo v (time_of h) d number (Corrected by) = record { front = found.front; split = split; point = cause.corrected } in
    let old = so.old_alone d number (Corrected by) has comes (λ e. cc) in
    let set = so.corrects d number by has old comes in
    let left = ap (λ (a : Units). a.0) (same_adjustment d split) in
    let sum : (adjustment_left v d (time_of h) +ℤ by.0) ≡ adjustment.0 = ap (λ z. z +ℤ by.0) (sym left) ∙ sym cause.sum in
    let shows : (adjustment_with v.scenario d (cycle_in h) (adjustment_at_start (start_of v.scenario.network d)) (notes.Corrected e number by adjustment)).0 ≡
    adjustment.0 = rw sets refl in
    let before = block.before in
    let space = room is in
    let point = so.points d number (Corrected by) has old comes in
    let follows = follows_before n before.hull set.hull is before.is_hull set.is_hull in
    let order = instants_are_in_order v.sizes before.hull set.hull space (before_narrow before) follows in
    let shown_then = set_clocks_show v.sizes (v.scenario.reading d) (adjustment_left v d (time_of h) +ℤ by.0) (suc n) set.hull set.set_at (time_of h)
    (steady v is d) set.not_behind (omega (arith, ints, point.not_late, order.last_not_late, set.not_before))
    set.anchored in
    let near = set_clocks_stay_at_correction v.sizes (pos (v.scenario.reading d (time_of h)) +ℤ (adjustment_left v d (time_of h) +ℤ by.0)) (suc n) (time_of h)
    before.hull set.hull space (before_narrow before) follows (omega (arith, ints)) (omega (arith, ints)) shown_then in
    record {
      hull = set.hull;
      is_hull = set.is_hull;
      set_at = set.set_at;
      not_before = set.not_before;
      not_behind = omega (arith, set.not_behind);
      ahead = omega (arith, ints, near.least, (steady v is d).never_falls (time_of h) t to, sum, shows, space);
      anchored = rw (sym (sum ∙ sym shows)) set.anchored;
    }
set_by {v} {n} {t} d block h body so is good from to i same sets =
    let at : is_joined_by d h.note.body ≡ true = ap (is_joined_by d) same ∙ sets in
    let join = so.joins h d i at good refl in
    let changes : changes_adjustment d h.note.body ≡ true = joined_changes d h.note.body at in
    let one = adjustment_set v.scenario d (cycle_in h) (record { 0 = pos 0 }) (adjustment_at_start (start_of v.scenario.network d)) h.note.body changes in
    let shows = one ∙ ap (adjustment_with v.scenario d (cycle_in h) (adjustment_at_start (start_of v.scenario.network d))) same in
    record {
      hull = join.hull;
      is_hull = join.is_hull;
      set_at = time_of h;
      not_before = join.not_early;
      not_behind = to;
      ahead = omega (arith, ints, join.ahead, ap (λ (a : Units). a.0) shows, (steady v is d).never_falls (time_of h) t to);
      anchored = rw (sym shows) join.anchored;
    }

-- a clock that was set in the block
pub new_shows : {v : View} {n t u : ℕ} {d : DeviceId} (block : IsInBlock v n t)
    → ((w : ℕ) → block.before.next ≤ w → w < u → BlockGoesSo v n block.before.next w block.before.hull) → IsView v
    → u ≤ t + 1 → HasTimeAt v d u → (o : Option Happening) → last_setting (earlier u v.records) d ≡ o
    → pos block.before.next ≤ℤ option_map_or (λ h. pos (time_of h)) o (negsuc 0)
    → IsSetInBlock v n t d (adjustment_left v d u)
new_shows block goes is le has None e late = absurd (omega (arith, ints))
new_shows {v} {n} {t} {u} {d} block goes is le has (Some h) e late =
    let at = setting_is v d u h e in
    let set = set_by d block h h.note.body (goes (time_of h) (omega (arith, ints)) at.early) is has.good
    (omega (arith, ints))
    (omega (arith, at.early)) at.there refl at.sets in
    let last = adjustment_is_last v.scenario (earlier u v.records) d ∙ ap (set_adjustment v.scenario d) e in
    subst (IsSetInBlock v n t d) (sym (ap (λ a. a.0) last)) set

-- what it shows
pub set_shows : {v : View} {n t : ℕ} {d : DeviceId} {adjustment : ℤ} (block : IsInBlock v n t) → IsView v
    → (set : IsSetInBlock v n t d adjustment) → ShowsIn v.sizes (pos (v.scenario.reading d t) +ℤ adjustment)
    (suc n) set.hull t
set_shows {v} {n} {t} {d} {adjustment} block is set =
    let before = block.before in
    let space = room is in
    let order = instants_are_in_order v.sizes before.hull set.hull space (before_narrow before)
    (follows_before n _ _ is before.is_hull set.is_hull) in
    set_clocks_show v.sizes (v.scenario.reading d) adjustment (suc n) set.hull set.set_at t (steady v is d) set.not_behind
    (omega (
      arith,
      ints,
      block_ends v n block.next _ before.is_hull block.is_over,
      block.to,
      order.last_not_late,
      set.not_before,
    )) set.anchored

-- each clock shows one of the two
shows_one : {v : View} {n t u : ℕ} {d : DeviceId} (block : IsInBlock v n t) → BlocksGoSo → IsView v → t ≤ u
    → u ≤ t + 1 → HasTimeAt v d u → ShowsOneOf v n block.before.hull t
    (pos (v.scenario.reading d t) +ℤ adjustment_left v d u)
shows_one {v} {n} {t} {u} {d} block goes is le most has =
    by_lt_z (epoch_time (earlier u v.records) d)
    (pos block.before.next) (λ old. inl (old_shows block is le has old)) (λ late.
    let set = new_shows block (λ w from lt. goes v n w
    (earlier_in_block v n t w block from (omega arith)) is) is most has
    (last_setting (earlier u v.records) d) refl late in
    inr (set.hull, set.is_hull, set_shows block is set))

-- two values are near the other way round
turned : (v : View) {x y : ℤ} → AreNear v.sizes x y → AreNear v.sizes y x
turned v near = record { one = near.other; other = near.one }

near_each : {v : View} {n t : ℕ} {x y : ℤ} (before : Stands v n) → HullsAreNarrow → IsView v
    → ShowsOneOf v n before.hull t x → ShowsOneOf v n before.hull t y → AreNear v.sizes x y
near_each {v} {n} {t} {x} {y} before halve is (inl a) (inl b) =
    clocks_of_one_cycle v.sizes x y n before.hull t (room is) (before_narrow before) a b
near_each {v} {n} {t} {x} {y} before halve is (inl a) (inr b) =
    clocks_of_two_cycles v.sizes x y n before.hull b.0 t (room is) (before_narrow before)
    (follows_before n before.hull b.0 is before.is_hull b.1) a b.2
near_each {v} {n} {t} {x} {y} before halve is (inr a) (inl b) =
    turned v (clocks_of_two_cycles v.sizes y x n before.hull a.0 t (room is) (before_narrow before)
    (follows_before n before.hull a.0 is before.is_hull a.1) b a.2)
near_each {v} {n} {t} {x} {y} before halve is (inr a) (inr b) =
    let same = same_some (hull_of v (suc n)) b.0 a.0 b.1 a.1 in
    clocks_of_one_cycle v.sizes x y (suc n) a.0 t (room is) (halve v n before a.0 is a.1) a.2
    (rw same at b.2)

pub clocks_agree_in_blocks : BlocksGoSo → HullsAreNarrow → ClocksAgreeInBlocks
clocks_agree_in_blocks goes halve v n t u d e block is le most one other =
    let near = near_each block.before halve is (shows_one block goes is le most one)
    (shows_one block goes is le most other) in
    record { one = omega (arith, ints, near.one, sizes_are is); other = omega (arith, ints, near.other, sizes_are is) }

-- ---- the blocks cover the run

-- the last correction comes behind the block before, so it is not before time 0
pub later_end : {v : View} (n : ℕ) (stands : Stands v n) → IsView v
    → pos stands.next ≤ℤ last_correction v.sizes stands.hull
later_end {v} zero stands is =
    let same = same_some (hull_of v zero) (start_hull v.sizes) stands.hull refl stands.is_hull in
    omega (arith, ints, stands.is_over, ap (λ w. w.greatest) same)
later_end {v} (suc c) stands is =
    let one = stands.narrow c (omega arith) in
    let follows = follows_before c one.0 stands.hull is one.1 stands.is_hull in
    omega (arith, ints, block_ends v c stands.next _ one.1 stands.is_over, corrections_come_first v.sizes one.0 stands.hull (room is) one.2 follows)

-- the natural number behind an instant
pub record IsBehind (z : ℤ) (next : ℕ) : Type 0 where
  pub behind : pos next ≡ (z +ℤ pos 1)

pub behind_of : (z : ℤ) (least : ℕ) → pos least ≤ℤ z → (next : ℕ) × IsBehind z next
behind_of (pos n) least le = (n + 1, record { behind = omega (arith, ints) })
behind_of (negsuc n) least le = absurd (omega (arith, ints))

-- from a block that is over the next ones reach each later time
reach_from : StandsOn → {v : View} (t fuel n : ℕ) (stands : Stands v n) → IsView v → t ≤ v.until → stands.next ≤ t
    → t < stands.next + fuel → (m : ℕ) × IsInBlock v m t × (n ≤ m)
reach_from on t zero n stands is in_run from short = absurd (omega arith)
reach_from on {v} t (suc fuel) n stands is in_run from short =
    let later = later_end n stands is in
    let next = behind_of (last_correction v.sizes stands.hull) stands.next later in
    let over : IsOverBefore v (suc n) next.0 = (stands.hull, stands.is_hull, next.1.behind) in
    elim (cases_lt t next.0) [
      | inl lt ↦ (n, record { before = stands; next = next.0; is_over = over; from = from; to = lt; in_run = in_run }, omega arith)
      | inr ge ↦
          let done : BlockIsOver v n = record {
            before = stands;
            next = next.0;
            is_over = over;
            in_run =
                omega arith;
          } in
          let more = on v n is done in
          let same : more.next ≡ next.0 = omega (arith, ints, block_ends v n more.next stands.hull stands.is_hull more.is_over, next.1.behind) in
          let grows : stands.next < next.0 = omega (arith, ints, next.1.behind) in
          let found = reach_from on t fuel (suc n) more is in_run (omega arith)
          (omega arith) in
          let above = found.2 in
          (found.0, found.1, omega arith)
    ]

-- each time behind a block lies in that of a later cycle
pub later_block : StandsOn → {v : View} {n : ℕ} (t : ℕ) (stands : Stands v n) → IsView v → t ≤ v.until
    → stands.next ≤ t → (m : ℕ) × IsInBlock v m t × (n ≤ m)
later_block on {n} t stands is in_run from = reach_from on t (t + 1) n stands is in_run from (omega arith)

pub blocks_cover : StandsAtStart → StandsOn → BlocksCover
blocks_cover start on v t is in_run =
    let first = start v is in
    let zero_next = first.is_over in
    let found = reach_from on t (t + 1) 0 first is in_run (omega arith) (omega arith) in
    (found.0, found.1)

-- ---- the precision, from what blocks bring: the view up to a time

-- the view of a run up to a time, with a channel that is sound then
pub record IsViewOf (s : Scenario) (hs : List Happening) (t : ℕ) (channel : Channel) : Type 0 where
  pub cut : IsCutAt s hs t
  pub path : ℕ
  pub is : IsView (record { scenario = s; until = t; records = cut.front; sizes = sizes_of s.network path; channel = channel })

pub view_at : {s : Scenario} {mark : List ℕ} {ns : List Note} {until : ℕ} (t : ℕ) (channel : Channel)
    → IsRunUpTo s mark ns until → t ≤ until → IsSound s t channel → IsViewOf s (happenings s.network ns) t channel
view_at {s} {until} t channel up le sound =
    let n = s.network in
    let cut = cut_at s until t up.run up.covers le in
    let beta = (beta_exists n (rules_give_trees n (shape_rules n up.lawful.rules))).1 in
    record {
      cut = cut;
      path = beta_at n beta.jitter beta.links;
      is = record { lawful = up.lawful; run = cut.run; short = omega arith; beta = subst (IsBeta n) beta.value beta; sizes = refl; sound = sound };
    }

-- the view itself
abbrev pub view_of : (s : Scenario) (hs : List Happening) (t : ℕ) (channel : Channel) → IsViewOf s hs t channel → View
view_of s hs t channel at = record { scenario = s; until = t; records = at.cut.front; sizes = sizes_of s.network at.path; channel = channel }

-- ---- the records up to a time are those before the next

pub up_to_is : (t : ℕ) (hs : List Happening) → up_to t hs ≡ earlier (t + 1) hs
up_to_is t hs = grind (arith, same_kept, nat_le, time_of, nat_lt, cases_lt, le-leb, lt-ltb, lt-leb, le-ltb)

-- ---- clocks stay together

-- a synchronised device has the time
pub timed_of : (state : State) → state ≡ Synchronised → has_time state ≡ true
timed_of state e = rw e refl

pub clocks_stay_together : OneChannelIsSound → BlocksCover → ClocksAgreeInBlocks → ClocksStayTogether
clocks_stay_together sound cover agree s mark ns until up =
    let hs = happenings s.network ns in
    record {
      after = λ t d e le one other.
          let same = up_to_is t hs in
          let left : (x : DeviceId) → IsInStep s hs x t → state_after s (earlier (t + 1) hs) x ≡ Synchronised = λ x step.
          rw same at step.synchronised in
          rw same (close t (t + 1) d e le (omega arith) (omega arith) one.correct other.correct (left d one)
          (left e other));
      before = λ t d e le one other.
          let left : (x : DeviceId) → IsInStepBefore s hs x t → state_after s (earlier t hs) x ≡ Synchronised = λ x step.
          up_state (is_turned_on_at s x t) (state_after s (earlier t hs) x) step.synchronised in
          close t t d e le (omega arith) (omega arith) one.correct other.correct (left d one) (left e other);
    }
  where
    close : (t u : ℕ) (d e : DeviceId) → t ≤ until → t ≤ u → u ≤ t + 1 → is_broken s d t ≡ false → is_broken s e t ≡ false
        → state_after s (earlier u (happenings s.network ns)) d ≡ Synchronised → state_after s (earlier u (happenings s.network ns)) e ≡ Synchronised
        → AreClose s.network (pos (s.reading d t) +ℤ (adjustment_after s (earlier u (happenings s.network ns)) d).0)
        (pos (s.reading e t) +ℤ (adjustment_after s (earlier u (happenings s.network ns)) e).0)
    close t u d e le from to good good' one other =
        let channel = sound s t up.lawful in
        let at = view_at t channel.0 up le channel.1 in
        let v = view_of s (happenings s.network ns) t channel.0 at in
        let block = cover v t at.is (omega arith) in
        let same = sym (at.cut.early u to) in
        let timed : (x : DeviceId) → state_after s (earlier u (happenings s.network ns)) x ≡ Synchronised → has_time (state_left v x u) ≡ true = λ x left.
        timed_of _ (rw same at left) in
        rw same (agree v block.0 t u d e block.1 at.is from to (record { good = good; timed = timed d one })
        (record { good = good'; timed = timed e other }))

-- ---- the time is kept

-- the clique of a correction point
pub record IsCliquePoint (s : Scenario) (ps : List Happening) (t : ℕ) (device : DeviceId) : Type 0 where
  pub cycle : ℕ
  pub verdict : Verdict
  pub point : ComesToCorrection s ps device t cycle verdict
  pub not_corrected : (by : Units) → verdict ≡ Corrected by → ⊥
  pub not_cleared : verdict ≡ Cleared → ⊥

pub clique_point : (s : Scenario) (ps : List Happening) (t : ℕ) (device : DeviceId) (state : State) (cause : ℕ) (why : Why) → IsClique why
    → ChangesState s ps device t state cause why → IsCliquePoint s ps t device
clique_point s ps t device state cause whys.SyncClique clique c =
    record { cycle = c.2.0; verdict = SyncClique; point = c.2.1; not_corrected = λ by e. cc; not_cleared = λ e. cc }
clique_point s ps t device state cause whys.AsyncClique clique c =
    record { cycle = c.2.0; verdict = AsyncClique; point = c.2.1; not_corrected = λ by e. cc; not_cleared = λ e. cc }
clique_point s ps t device state cause why clique c = absurd clique

-- no firm device comes to a clique
pub no_clique : BlocksCover → BlocksGoSo → FirmDevicesCorrect
    → {v : View} (h : Happening) (device : DeviceId) (state : State) (cause : ℕ) (why : Why) → IsView v
    → IsIn h v.records → h.note.body ≡ notes.State device state cause why → IsClique why
    → (is_broken v.scenario device (time_of h) ≡ false → IsGood v device × IsFirm v device) → ⊥
no_clique cover goes correct {v} h device state cause why is i body clique firm =
    let s = v.scenario in
    let t = time_of h in
    let block = cover v t is (within_run is h i) in
    let found = founded_at s v.records h is.run.founded i in
    let point = clique_point s found.front t device state cause why clique (subst (IsCaused s found.front h.note.time) body found.due.cause) in
    let split = before_of is found in
    let so = firm point.point.correct in
    let has : HasTimeAt v device t = record {
      good = so.0;
      timed = point_timed split point.point;
    } in
    let comes : ComesTo v t device point.cycle point.verdict = record { front = found.front; split = split; point = point.point } in
    let old = (goes v block.0 t block.1 is).old_alone device point.cycle point.verdict has comes point.not_cleared in
    let in_time = (goes v block.0 t block.1 is).points device point.cycle point.verdict has old comes in
    let share = correct v block.0 t block.1 is in_time.not_early in
    let verdict = share.2.each t block.1 device point.cycle point.verdict so.1 has old comes in
    point.not_corrected verdict.0 verdict.1

-- so in each run none does
never_lost : BlocksCover → BlocksGoSo → FirmDevicesCorrect
    → {s : Scenario} {mark : List ℕ} {ns : List Note} {until : ℕ} (h : Happening) (device : DeviceId) (state : State)
    (cause : ℕ) (why : Why) (channel : Channel) → IsRunUpTo s mark ns until → IsIn h (happenings s.network ns)
    → time_of h ≤ until → h.note.body ≡ notes.State device state cause why → IsClique why
    → IsSound s (time_of h) channel → ((v : View) → v.scenario ≡ s → v.until ≡ time_of h → v.channel ≡ channel
    → is_broken s device (time_of h) ≡ false → IsFirm v device) → ⊥
never_lost cover goes correct {s} {ns} h device state cause why channel up i le body clique sound firm =
    let t = time_of h in
    let at = view_at t channel up le sound in
    let v = view_of s (happenings s.network ns) t channel at in
    no_clique cover goes correct h device state cause why at.is (at.cut.has h i (omega arith)) body clique
    (λ good. (good, firm v refl refl refl good))

pub time_is_kept : OneChannelIsSound → BlocksCover → BlocksGoSo → FirmDevicesCorrect → TimeIsKept
time_is_kept sound cover goes correct s mark ns until up h device state cause why i le body clique = (
  λ end.
      let channel = sound s (time_of h) up.lawful in
      never_lost cover goes correct h device state cause why _ up i le body clique channel.1
      (λ v same at of good. inl (record {
        end = rw same end;
        good =
            rw at (rw same good);
      })),
  λ channel switch quiet.
      never_lost cover goes correct h device state cause why channel up i le body clique quiet (λ v same at of good. inr
      (rw of (rw same switch))),
)
