-- How near to one another the dispatches of a cycle lie, also those of a master that breaks later.
use Rattle.precision_law.proofs.{block.Dispatched.masters_dispatch}
use Rattle.precision_law.proofs.words.Blocks
use Blocks.{IsReachedBy, all_in_hulls, before_narrow, block_ends, block_of, earlier_in_block, follows_before}
use Blocks.{has_dispatched, high_by, hull_lies, in_next, low_by, new_shows, shared_near, start_near, synchronised_is}
use Blocks.{view_of, view_with}
use Rattle.precision_law.proofs.words.Clocks
use Clocks.{adjustment_stays, anchored_clocks_reach, anchored_clocks_show, enough_masters, good_is_correct}
use Clocks.{instants_are_in_order, le_by, natural_of, one_more, room, shared_clocks_halve, short_by_reading}
use Clocks.{starts_stay_together, state_stays, steady, synchronised_has_time, within_run}
use Rattle.precision_law.proofs.words.Laws
use Laws.{AreShared, BlocksCover, BlocksGoSo, DispatchesHalve, DispatchesStayNear, HasTimeAt, IsAnchored, IsDispatch}
use Laws.{IsDispatchOf, IsFirstMaster, IsGood, IsInBlock, IsInHull, IsOldAt, IsReachedNear, IsRunUpTo, IsView}
use Laws.{OneChannelIsSound, Stands, View, adjustment_left, epoch_time, hull_of, last_dispatch, last_setting, sizes_of}
use Laws.{start_hull, state_left}
use Rattle.precision_law.proofs.words.Plans
use Plans.{Channel, DeviceId, IsBeta, Masters, Units, amount, beta_at, beta_exists, none, rules_give_trees, shape_rules}
use Rattle.precision_law.proofs.words.Runs
use Runs.{Happening, IsCaused, IsIn, Note, Scenario, adjustment_after, earlier, founded_at, happenings, is_broken}
use Runs.{is_end, is_synchronised, same_some, state_after, time_of}
use Rattle.precision_law.proofs.words.Std
use Std.{◌*◌, ◌+ℤ◌, ◌+◌, ◌-ℤ◌, ◌<ℤ◌, ◌<◌, ◌∙◌, ◌≡◌, ◌≤ℤ◌, ◌≤◌, List, ap, arith, by_lt_z, cases_lt, false, inl, inr}
use Std.{ints, ones_le_self, pos, refl, subst, suc, sym, true, zero, ℕ, ℤ}
use Rattle.precision_law.proofs.block.Halving as halving

-- ---- two dispatches of one cycle, of which the master of the first may break before the second

-- once the block of a later cycle is over, each good master that began on has dispatched the frame of the cycle
pub first_dispatched : BlocksCover → BlocksGoSo → {v : View} (m : ℕ) (stands : Stands v (suc m)) {device : DeviceId}
    → IsView v → IsFirstMaster v device → (h : Happening) × IsDispatch v h device (suc m)
first_dispatched cover goes {v} m stands {device} is first =
    let lie = hull_lies cover goes is m stands.hull stands.is_hull in
    let own = lie.is_earliest in
    let b = block_of cover goes is {h = lie.earliest} {device = own.master} {cycle = suc m} (record { there = own.there; is = own.is; good = own.correct }) in
    let same : b.n ≡ m = omega (arith, b.of_cycle) in
    let before : Stands v m = subst (Stands v) same b.block.before in
    let follows = follows_before m before.hull stands.hull is before.is_hull stands.is_hull in
    let ends = block_ends v m stands.next before.hull before.is_hull stands.is_over in
    let space = room is in
    let x = natural_of (last_dispatch v.sizes before.hull) (time_of lie.earliest) (omega (arith, ints, lie.first_is)) in
    let at = in_next before x.0 is (omega (arith, ints, x.1)) (omega (arith, ints, x.1))
    (omega (arith, ints, x.1, stands.in_run)) in
    let sent = masters_dispatch goes v m x.0 (halving.block_of v m before x.0 at) device is (omega (arith, ints, x.1)) first in
    (sent.0, sent.1)

-- ---- two views

-- two dispatches of the cycle behind n, each in a view at its time: the records of the first are the earlier ones of the second
pub record AreTwo (s : Scenario) (hs : List Happening) (path n : ℕ) (g h : Happening) (one other : DeviceId) : Type 0 where
  pub c : Channel
  pub d : Channel
  pub front : List Happening
  pub more : List Happening
  pub is : IsView (view_of s (time_of g) c path front)
  pub longer : IsView (view_of s (time_of h) d path more)
  pub first : IsDispatch (view_of s (time_of g) c path front) g one (suc n)
  pub second : IsDispatch (view_of s (time_of h) d path more) h other (suc n)
  pub le : time_of g ≤ time_of h
  pub early : (x : ℕ) → x ≤ time_of g → earlier x front ≡ earlier x more
  pub inside : (e : Happening) → IsIn e front → IsIn e more
  pub of_run : (e : Happening) → IsIn e front → IsIn e hs

module _ {s : Scenario} {hs : List Happening} {path n : ℕ} {g h : Happening} {one other : DeviceId} where
  abbrev pub first_view : AreTwo s hs path n g h one other → View
  first_view two = view_of s (time_of g) two.c path two.front

  abbrev pub second_view : AreTwo s hs path n g h one other → View
  second_view two = view_of s (time_of h) two.d path two.more

-- what the clock of the second dispatch is at the first
pub record IsSetBefore (v : View) (n u : ℕ) (other : DeviceId) (next : ℕ) : Type 0 where
  pub good : IsGood v other
  pub synchronised : is_synchronised (state_left v other v.until) ≡ true
  pub old : IsOldAt v next other v.until
  pub least : pos (suc n * v.sizes.cycle) ≤ℤ (pos (v.scenario.reading other u) +ℤ adjustment_left v other v.until)
  pub most : (pos (v.scenario.reading other u) +ℤ adjustment_left v other v.until) ≤ℤ (pos (suc n * v.sizes.cycle) +ℤ pos (2 * v.sizes.grain))

module _ (cover : BlocksCover) (goes : BlocksGoSo) (s : Scenario) (hs : List Happening) (path : ℕ) (g h : Happening) (one other : DeviceId) where
  -- a good master that began on shows that the clock of the second dispatch was set before the first
  set_early_by : (m : ℕ) (two : AreTwo s hs path (suc m) g h one other) (block : IsInBlock (first_view two) (suc m) (time_of g))
      (later : IsInBlock (second_view two) (suc m) (time_of h)) (k : DeviceId) → IsFirstMaster (second_view two) k → time_of g < later.before.next → ⊥
  set_early_by m two block later k first lt =
      let v = first_view two in
      let v' = second_view two in
      let good = good_is_correct v' k (time_of g) first.good two.le in
      let sent = first_dispatched cover goes m block.before {device = k} two.is (record { master = first.master; on = first.on; good = good }) in
      let e = sent.0 in
      let a = all_in_hulls cover goes two.is sent.1 in
      let b = all_in_hulls cover goes two.longer {h = e} {device = k} {cycle = suc m} (record { there = two.inside e sent.1.there; is = sent.1.is; good = first.good }) in
      let top = ap (λ x. x.greatest) (same_some (hull_of v (suc m)) a.hull block.before.hull a.is
      block.before.is_hull) in
      let bottom = ap (λ x. x.least) (same_some (hull_of v' (suc m)) b.hull later.before.hull b.is
      later.before.is_hull) in
      let prior = later.before.narrow m (omega arith) in
      let ends = block_ends v' m later.before.next prior.0 prior.1 later.before.is_over in
      let space = room two.is in
      let order = instants_are_in_order v.sizes prior.0 later.before.hull space prior.2 (follows_before m _ _ two.longer prior.1 later.before.is_hull) in
      let own = all_in_hulls cover goes two.is two.first in
      let follows = follows_before (suc m) block.before.hull own.hull two.is block.before.is_hull own.is in
      omega (arith, ints, before_narrow block.before)

  -- so it was
  set_early : (n : ℕ) (two : AreTwo s hs path n g h one other) (block : IsInBlock (first_view two) n (time_of g))
      (later : IsInBlock (second_view two) n (time_of h)) → later.before.next ≤ time_of g
  set_early zero two block later = (let start : later.before.next ≡ 0 = later.before.is_over in omega arith)
  set_early (suc m) two block later = le_by (λ lt.
      let enough = enough_masters (second_view two) none two.longer (λ k i first member. absurd (set_early_by m two block later k first lt)) in
      omega (arith, (two.longer.lawful.rules Masters 2).threshold_least refl, ones_le_self 0))

  pub set_before : (n : ℕ) (two : AreTwo s hs path n g h one other) (block : IsInBlock (first_view two) n (time_of g))
      (later : IsInBlock (second_view two) n (time_of h)) → IsSetBefore (first_view two) n (time_of h) other block.before.next
  set_before n two block later =
      let v = first_view two in
      let v' = second_view two in
      let w = time_of g in
      let u = time_of h in
      let has = has_dispatched two.longer two.second in
      let old' = ((goes v' n u later two.longer).dispatches h other (suc n) two.second refl).old in
      let set : epoch_time (earlier u two.more) other <ℤ pos w = omega (arith, ints, set_early n two block later) in
      let same = ap (λ es. (adjustment_after s es other).0) (two.early w (omega arith)) ∙ ap (λ (a : Units). a.0)
      (adjustment_stays other w u two.longer two.le set) in
      let synchronised = ap (λ es. is_synchronised (state_after s es other)) (two.early w (omega arith))
      ∙ state_stays is_synchronised refl other w u two.longer two.le set has.synchronised in
      let good = good_is_correct v' other w two.second.good two.le in
      let timed : HasTimeAt v other w = record { good = good; timed = synchronised_has_time (state_left v other w) synchronised } in
      let least = subst (λ z. pos (suc n * v.sizes.cycle) ≤ℤ (pos (s.reading other u) +ℤ z)) (sym same) has.least in
      let most = subst (λ z. (pos (s.reading other u) +ℤ z) ≤ℤ (pos (suc n * v.sizes.cycle) +ℤ pos (2 * v.sizes.grain))) (sym same) has.most in
      let old : IsOldAt v block.before.next other w =
      by_lt_z {P = IsOldAt v block.before.next other w} (epoch_time (earlier w two.front) other) (pos block.before.next)
      (λ lt. lt)
      (λ late.
      let new = new_shows {u = w} block (λ x from less. goes v n x (earlier_in_block _ _ _ _ block from (omega arith)) two.is) two.is
      (omega arith) timed (last_setting (earlier w two.front) other) refl late in
      absurd (omega (arith, ints, new.ahead, (steady v two.is other).never_falls w u two.le))) in
      record { good = good; synchronised = synchronised; old = old; least = least; most = most }

-- ---- how near to one another all dispatches of a cycle lie, those of a master that breaks later among them

-- ---- a clock that reaches the next cycle later

-- what a clock is that shares a frame, and was set before the block
record IsSharing (v : View) (n w u : ℕ) (before : Stands v n) (device : DeviceId) : Type 0 where
  pub good : IsGood v device
  pub end : is_end v.scenario.network device ≡ true
  pub synchronised : is_synchronised (state_left v device w) ≡ true
  pub from : before.next ≤ w
  pub le : w ≤ u
  pub old : IsOldAt v before.next device w
  pub least : pos (suc n * v.sizes.cycle) ≤ℤ (pos (v.scenario.reading device u) +ℤ adjustment_left v device w)
  pub most : (pos (v.scenario.reading device u) +ℤ adjustment_left v device w) ≤ℤ (pos (suc n * v.sizes.cycle) +ℤ pos (2 * v.sizes.grain))

later_near : {v : View} {n w u : ℕ} {before : Stands v n} {device : DeviceId}
    (share : AreShared v n before.hull before.next) → IsView v → IsSharing v n w u before device
    → IsReachedBy v n u before.hull share.shared
later_near {v} {n} {w} {u} {before} {device} share is at =
    let reading = v.scenario.reading device in
    let still = state_stays is_synchronised refl device before.next w is at.from at.old at.synchronised in
    let by = share.each device (record { end = at.end; good = at.good }) (synchronised_is (state_left v device before.next) still) in
    let same = ap (λ (a : Units). a.0) (adjustment_stays device before.next w is at.from at.old) in
    let low = low_by v.sizes share.shared by.other in
    let high = high_by v.sizes share.shared by.other in
    let anchored = subst (λ a. IsAnchored v.sizes (pos (reading by.set_at) +ℤ a) n low high by.set_at) same by.anchored in
    let product = one_more n v.sizes.cycle in
    let first : by.set_at ≤ u = omega (arith, by.not_behind) in
    let short : reading u + v.sizes.drift < reading by.set_at + 2 * v.sizes.cycle =
    (let a = anchored.least in let m = at.most in let near = share.near.most in let far = by.near.most in let begun = by.not_before in let narrow =
    before_narrow before in
    omega (arith, ints, room is)) in
    let within = short_by_reading v.sizes reading by.set_at u (steady v is device) first short in
    let shows = anchored_clocks_show v.sizes reading (adjustment_left v device w) n low high by.set_at u
    (steady v is device) first (omega arith)
    anchored in
    record {
      other = by.other;
      near = by.near;
      reached = anchored_clocks_reach v.sizes (pos (reading u) +ℤ adjustment_left v device w) n low high v.sizes.cycle u shows
          (omega (arith, ints, at.least)) (omega (arith, ints, at.most));
    }

-- ---- two dispatches

-- they lie at most so far apart
pub record AreWithin (w u : ℕ) (twice : ℤ) : Type 0 where
  pub one : pos (2 * u) ≤ℤ (pos (2 * w) +ℤ twice)
  pub other : pos (2 * w) ≤ℤ (pos (2 * u) +ℤ twice)

-- a dispatch of the first cycle is near the start
start_at : BlocksGoSo → {v : View} {g : Happening} {one : DeviceId} → IsView v → IsDispatch v g one 1
    → IsInHull v 1 (time_of g) → IsInBlock v 0 (time_of g)
    → IsReachedNear v.sizes (pos 0 -ℤ pos (2 * v.sizes.settled)) (pos 0) v.sizes.cycle (time_of g)
start_at goes {v} {g} {one} is sent own block =
    let old = subst (λ x. epoch_time (earlier (time_of g) v.records) one <ℤ pos x) block.before.is_over
    ((goes v 0 (time_of g) block is).dispatches g one 1 sent refl).old in
    let follows = follows_before 0 (start_hull v.sizes) own.hull is refl own.is in
    start_near is sent.good (has_dispatched is sent) old (omega (arith, ints, own.most, follows.most))

module _ (cover : BlocksCover) (goes : BlocksGoSo) (s : Scenario) (hs : List Happening) (path : ℕ) (g h : Happening) (one other : DeviceId) where
  -- those of a later cycle
  halve_two : (m : ℕ) (two : AreTwo s hs path (suc m) g h one other) (block : IsInBlock (first_view two) (suc m) (time_of g))
      → IsInBlock (second_view two) (suc m) (time_of h)
      → AreWithin (time_of g) (time_of h) ((block.before.hull.greatest -ℤ block.before.hull.least) +ℤ pos (first_view two).sizes.settled)
  halve_two m two block later =
      let v = first_view two in
      let n = suc m in
      let before = block.before in
      let set = set_before cover goes s hs path g h one other n two block later in
      let share = before.shared (omega arith) in
      let own = all_in_hulls cover goes two.is two.first in
      let late : pos (time_of g) ≤ℤ last_dispatch v.sizes before.hull =
      omega (arith, ints, own.most, (follows_before n _ _ two.is before.is_hull own.is).most) in
      let old = ((goes v n (time_of g) block two.is).dispatches g one (suc n) two.first refl).old in
      let x = shared_near before share two.is two.first.good (has_dispatched two.is two.first) block.from old late in
      let y = later_near {w = time_of g} {u = time_of h} {before = before} {device = other} share two.is (record {
        good = set.good;
        end = (has_dispatched two.longer two.second).end;
        synchronised = set.synchronised;
        from = block.from;
        le = two.le;
        old = set.old;
        least = set.least;
        most = set.most;
      }) in
      let space = room two.is in
      record {
        one = shared_clocks_halve v.sizes before.hull share.shared y.other x.other (time_of h) (time_of g) space y.near x.near y.reached x.reached;
        other = shared_clocks_halve v.sizes before.hull share.shared x.other y.other (time_of g) (time_of h) space x.near y.near x.reached y.reached;
      }

  -- those of the first cycle
  start_two : (two : AreTwo s hs path 0 g h one other) → IsInBlock (first_view two) 0 (time_of g) → IsInBlock (second_view two) 0 (time_of h)
      → AreWithin (time_of g) (time_of h) (pos (2 * (first_view two).sizes.spread))
  start_two two block later =
      let v = first_view two in
      let v' = second_view two in
      let x = start_at goes two.is two.first (all_in_hulls cover goes two.is two.first) block in
      let y = start_at goes two.longer two.second (all_in_hulls cover goes two.longer two.second) later in
      let a = starts_stay_together v.sizes (time_of g) (time_of h) (room two.is) x y in
      record {
        one = omega (arith, ints, starts_stay_together v.sizes (time_of h) (time_of g) (room two.is) y x);
        other = omega (arith, ints);
      }

-- ---- in a run

-- a dispatch is of a master that is correct then
sends_correct : {s : Scenario} {mark : List ℕ} {ns : List Note} {until cycle : ℕ} → IsRunUpTo s mark ns until
    → {h : Happening} (d : IsDispatchOf (happenings s.network ns) until cycle h)
    → is_broken s d.master (time_of h) ≡ false
sends_correct {s} {ns} up {h} d =
    let found = founded_at s (happenings s.network ns) h up.run.founded d.there in
    (subst (IsCaused s found.front h.note.time) d.is found.due.cause).up.correct

-- the views at a dispatch and at a later one
two_of : OneChannelIsSound → {s : Scenario} {mark : List ℕ} {ns : List Note} {until : ℕ} (path n : ℕ)
    (up : IsRunUpTo s mark ns until) → IsBeta s.network (pos path)
    → {g h : Happening} (a : IsDispatchOf (happenings s.network ns) until (suc n) g)
    (b : IsDispatchOf (happenings s.network ns) until (suc n) h) → time_of g ≤ time_of h
    → AreTwo s (happenings s.network ns) path n g h a.master b.master
two_of sound {s} path n up beta {g} {h} a b le =
    let c = sound s (time_of g) up.lawful in
    let d = sound s (time_of h) up.lawful in
    let x = view_with (time_of g) c.0 path up beta a.by_then c.1 in
    let y = view_with (time_of h) d.0 path up beta b.by_then d.1 in
    record {
      c = c.0;
      d = d.0;
      front = x.cut.front;
      more = y.cut.front;
      is = x.is;
      longer = y.is;
      first = record { there = x.cut.has g a.there (omega arith); is = a.is; good = sends_correct up a };
      second = record { there = y.cut.has h b.there (omega arith); is = b.is; good = sends_correct up b };
      le = le;
      early = λ t within. x.cut.early t (omega arith) ∙ sym (y.cut.early t (omega arith));
      inside = λ e i.
          y.cut.has e (x.cut.inside e i) (omega (arith, within_run x.is e i));
      of_run = x.cut.inside;
    }

-- the cycle is 1, or behind a later one; so the dispatches lie so far apart, and in the hull of the cycle before
record AreApart (s : Scenario) (hs : List Happening) (until k : ℕ) (g h : Happening) : Type 0 where
  pub near : AreWithin (time_of g) (time_of h) (pos (2 * (sizes_of s.network 0).spread))
  pub halves : (first last : ℤ) → 1 ≤ k → ((e : Happening) → IsDispatchOf hs until k e → (first ≤ℤ pos (time_of e)) × (pos (time_of e) ≤ℤ last))
      → AreWithin (time_of g) (time_of h) ((last -ℤ first) +ℤ pos (amount s.network.settled))

apart_by : BlocksCover → BlocksGoSo → {s : Scenario} {hs : List Happening} {path : ℕ} (until k : ℕ) {g h : Happening}
    {one other : DeviceId} (two : AreTwo s hs path k g h one other) → time_of g ≤ until
    → IsInBlock (first_view two) k (time_of g) → IsInBlock (second_view two) k (time_of h) → AreApart s hs until k g h
apart_by cover goes {s} {hs} {path} until zero {g} {h} {one} {other} two to block later =
    record {
      near = start_two cover goes s hs path g h one other two block later;
      halves =
          λ first last begun lie. absurd (omega arith);
    }
apart_by cover goes {s} {hs} {path} until (suc m) {g} {h} {one} {other} two to block later =
    let v = first_view two in
    let half = halve_two cover goes s hs path g h one other m two block later in
    let hull = block.before.hull in
    let narrow = before_narrow block.before in
    let spread_is = (room two.is).errors.spread_is in
    record {
      near = record { one = omega (arith, ints, half.one); other = omega (arith, ints, half.other) };
      halves = λ first last begun lie.
          let ends = hull_lies cover goes two.is m hull block.before.is_hull in
          let a = ends.is_earliest in
          let b = ends.is_latest in
          let low = (lie ends.earliest (record { there = two.of_run ends.earliest a.there; master = a.master; is = a.is; by_then = omega arith })).0 in
          let high = (lie ends.latest (record { there = two.of_run ends.latest b.there; master = b.master; is = b.is; by_then = omega arith })).1 in
          record { one = omega (arith, ints, half.one); other = omega (arith, ints, half.other) };
    }

module _ (sound : OneChannelIsSound) (cover : BlocksCover) (goes : BlocksGoSo) where
  apart : {s : Scenario} {mark : List ℕ} {ns : List Note} {until : ℕ} (k : ℕ) → IsRunUpTo s mark ns until
      → {g h : Happening} → IsDispatchOf (happenings s.network ns) until (suc k) g
      → IsDispatchOf (happenings s.network ns) until (suc k) h → time_of g ≤ time_of h
      → AreApart s (happenings s.network ns) until k g h
  apart {s} {until} k up {g} {h} a b le =
      let n = s.network in
      let beta = (beta_exists n (rules_give_trees n (shape_rules n up.lawful.rules))).1 in
      let path = beta_at n beta.jitter beta.links in
      let two = two_of sound path k up (subst (IsBeta n) beta.value beta) a b le in
      let first = block_of cover goes two.is two.first in
      let second = block_of cover goes two.longer two.second in
      let at : first.n ≡ k = omega (arith, first.of_cycle) in
      let too : second.n ≡ k = omega (arith, second.of_cycle) in
      apart_by cover goes until k two a.by_then
      (rw at at first.block)
      (rw too at second.block)

  pub dispatches_stay_near : DispatchesStayNear
  dispatches_stay_near s mark ns until up zero g h a b =
      let found = founded_at s (happenings s.network ns) g up.run.founded a.there in
      let begun = (subst (IsCaused s found.front g.note.time) a.is found.due.cause).begun in
      absurd (omega arith)
  dispatches_stay_near s mark ns until up (suc k) g h a b =
      elim (cases_lt (time_of h) (time_of g)) [
        | inr le ↦ (let near = (apart k up a b le).near.other in omega (arith, ints))
        | inl lt ↦ (let near = (apart k up b a (omega arith)).near.one in omega (arith, ints))
      ]

  pub dispatches_halve : DispatchesHalve
  dispatches_halve s mark ns until up cycle first last begun lie g h a b =
      elim (cases_lt (time_of h) (time_of g)) [
        | inr le ↦ ((apart cycle up a b le).halves first last begun lie).other
        | inl lt ↦ ((apart cycle up b a (omega arith)).halves first last begun lie).one
      ]
