-- What clocks show in the views of a run, and by how much at most it is above what is shown later.
use Rattle.precision_law.{specs.falls.Laws.{ClocksDoNotFallBack, ShowsInStep}}
use Rattle.precision_law.proofs.{law.Whole.{blocks_known, near}, records.RunViews.IsViewWith}
use Rattle.precision_law.proofs.words.{Clocks.{good_is_correct, one_channel_is_sound, one_more, room, sizes_are}}
use Rattle.precision_law.proofs.words.Blocks
use Blocks.{all_in_hulls, before_narrow, block_ends, corrections_go_on, earlier_in_block, follows_before, hull_lies}
use Blocks.{new_shows, not_integrating, old_shows, set_shows, timed_of, up_to_is, view_of, view_with}
use Rattle.precision_law.proofs.words.Laws
use Laws.{BlocksCover, BlocksGoSo, HasTimeAt, Hull, IsDispatchOf, IsInBlock, IsView, ShowsIn, Stands, View}
use Laws.{adjustment_left, epoch_time, hull_of, last_correction, last_setting, start_hull}
use Rattle.precision_law.proofs.words.Plans
use Plans.{Channel, DeviceId, IsBeta, Synchronised, beta_at, beta_exists, rules_give_trees, shape_rules}
use Rattle.precision_law.proofs.words.Runs
use Runs.{Happening, Scenario, adjustment_after, earlier, happenings, is_broken, is_turned_on_at, same_some}
use Runs.{state_after, time_of}
use Rattle.precision_law.proofs.words.Std
use Std.{◌*◌, ◌+ℤ◌, ◌+◌, ◌-◌, ◌<◌, ◌∙◌, ◌≡◌, ◌≤ℤ◌, ◌≤◌, ◌⊎◌, List, Some, ap, arith, by_lt_z, cases_lt, false, inl, inr}
use Std.{ints, mul-le-mul_right, pos, refl, subst, suc, sym, zero, ℕ, ℤ}
use Rattle.schedule_tables.specs.Margins.{dispatch_spread}

-- ---- what a clock shows in a block, and how the hulls of two views of one run lie: what a clock of a block shows

-- what a clock shows that was set in the block
pub record IsNewShown (v : View) (n t : ℕ) (shown : ℤ) : Type 0 where
  pub hull : Hull
  pub is_hull : hull_of v (suc n) ≡ Some hull
  pub shows : ShowsIn v.sizes shown (suc n) hull t
  pub ahead : pos (suc n * v.sizes.cycle) ≤ℤ shown

-- what a clock shows in the block
pub record IsShown (v : View) (n t : ℕ) (shown : ℤ) : Type 0 where
  pub block : IsInBlock v n t
  pub how : ShowsIn v.sizes shown n block.before.hull t ⊎ IsNewShown v n t shown

pub is_shown : BlocksGoSo → {v : View} {n t u : ℕ} {d : DeviceId} (block : IsInBlock v n t) → IsView v → t ≤ u
    → u ≤ t + 1 → HasTimeAt v d u → IsShown v n t (pos (v.scenario.reading d t) +ℤ adjustment_left v d u)
is_shown goes {v} {n} {t} {u} {d} block is le most has = record {
  block = block;
  how =
      by_lt_z (epoch_time (earlier u v.records) d) (pos block.before.next)
      (λ old. inl (old_shows block is le has old))
      (λ late.
      let set = new_shows block (λ w from lt. goes v n w
      (earlier_in_block v n t w block from (omega arith)) is) is most has
      (last_setting (earlier u v.records) d) refl late in
      inr (record {
        hull = set.hull;
        is_hull = set.is_hull;
        shows = set_shows block is set;
        ahead = omega (arith, ints, set.ahead);
      }));
}

-- up to the end of its block it shows at most this
pub most_shown : {v : View} {n t : ℕ} {shown : ℤ} → IsView v → IsShown v n t shown
    → shown ≤ℤ pos (suc n * v.sizes.cycle + v.sizes.correction + v.sizes.precision)
most_shown {v} {n} is s =
    let before = s.block.before in
    let ends = block_ends v n s.block.next before.hull before.is_hull s.block.is_over in
    let narrow = before_narrow before in
    let space = room is in
    let more = one_more n v.sizes.cycle in
    let to = s.block.to in
    elim s.how [
      | inl old ↦ omega (arith, ints, old.most)
      | inr new ↦
          let follows = follows_before n before.hull new.hull is before.is_hull new.is_hull in
          omega (arith, ints, new.shows.most, follows.least)
    ]

-- from the beginning of its block on, at least this
pub least_shown : {v : View} (m : ℕ) {t : ℕ} {shown : ℤ} → IsView v → IsShown v (suc m) t shown
    → pos (suc m * v.sizes.cycle + v.sizes.correction) ≤ℤ shown
least_shown {v} m is s =
    let before = s.block.before in
    let prior = before.narrow m (omega arith) in
    let begins = block_ends v m before.next prior.0 prior.1 before.is_over in
    let follows = follows_before m prior.0 before.hull is prior.1 before.is_hull in
    let space = room is in
    let more = one_more (suc m) v.sizes.cycle in
    let from = s.block.from in
    elim s.how [
      | inl old ↦ omega (arith, ints, follows.most, old.least)
      | inr new ↦ omega (arith, ints, new.ahead)
    ]

-- ---- the precision of the network

pub in_network : {v : View} (x y : ℤ) → IsView v → x ≤ℤ (y +ℤ pos v.sizes.precision)
    → x ≤ℤ (y +ℤ v.scenario.network.precision.0)
in_network x y is le = omega (arith, ints, sizes_are is)

-- ---- two views of a run

-- those of the records up to a time and up to a later one
pub record AreViews (s : Scenario) (hs : List Happening) (path x y : ℕ) : Type 0 where
  pub c : Channel
  pub d : Channel
  pub a : IsViewWith s hs x c path
  pub b : IsViewWith s hs y d path
  pub le : x ≤ y

-- the dispatches of a cycle lie near one another
abbrev pub AreNearIn : Scenario → List Happening → ℕ → Type 0
AreNearIn s hs until =
    (cycle : ℕ) (g h : Happening) → IsDispatchOf hs until cycle g → IsDispatchOf hs until cycle h → time_of g ≤ time_of h + dispatch_spread s.network

module _ {s : Scenario} {hs : List Happening} {path x y : ℕ} where
  abbrev pub first_of : AreViews s hs path x y → View
  first_of two = view_of s x two.c path two.a.cut.front

  abbrev pub second_of : AreViews s hs path x y → View
  second_of two = view_of s y two.d path two.b.cut.front

module _ (cover : BlocksCover) (goes : BlocksGoSo) (s : Scenario) (hs : List Happening) (path x y until : ℕ) where
  -- the last dispatch of a cycle in the later view is near the first in the earlier one
  pub near_hulls : AreNearIn s hs until → y ≤ until → (two : AreViews s hs path x y) (n : ℕ) (hull other : Hull) → hull_of (first_of two) n ≡ Some hull
      → hull_of (second_of two) n ≡ Some other → other.greatest ≤ℤ (hull.least +ℤ pos (first_of two).sizes.spread)
  near_hulls near most two zero hull other is are =
      let v = first_of two in
      let w = second_of two in
      let one = same_some (hull_of v zero) (start_hull v.sizes) hull refl is in
      let too = same_some (hull_of w zero) (start_hull w.sizes) other refl are in
      let space = room two.a.is in
      omega (arith, ints, ap (λ z. z.least) one, ap (λ z. z.greatest) too, space.errors.spread_is)
  near_hulls near most two (suc c) hull other is are =
      let one = hull_lies cover goes two.a.is c hull is in
      let too = hull_lies cover goes two.b.is c other are in
      let g = too.is_latest in
      let h = one.is_earliest in
      let le = two.le in
      let apart = near (suc c) too.latest one.earliest
      (record {
        there = two.b.cut.inside too.latest g.there;
        master = g.master;
        is = g.is;
        by_then =
            omega (arith, g.by_then);
      })
      (record {
        there = two.a.cut.inside one.earliest h.there;
        master = h.master;
        is = h.is;
        by_then =
            omega (arith, h.by_then);
      }) in
      omega (arith, ints, one.first_is, too.last_is)

  -- no later dispatch of a cycle whose block is over in the earlier view comes in the later one
  pub no_later_hull : AreNearIn s hs until → y ≤ until → (two : AreViews s hs path x y) (n : ℕ) (hull other : Hull) → hull_of (first_of two) n ≡ Some hull
      → hull_of (second_of two) n ≡ Some other → hull.least ≤ℤ hull.greatest → last_correction (first_of two).sizes hull ≤ℤ pos x
      → other.greatest ≤ℤ hull.greatest
  no_later_hull near most two zero hull other is are ordered behind =
      let v = first_of two in
      let w = second_of two in
      let one = same_some (hull_of v zero) (start_hull v.sizes) hull refl is in
      let too = same_some (hull_of w zero) (start_hull w.sizes) other refl are in
      omega (arith, ints, ap (λ z. z.greatest) one, ap (λ z. z.greatest) too)
  no_later_hull near most two (suc c) hull other is are ordered behind =
      let v = first_of two in
      let space = room two.a.is in
      let too = hull_lies cover goes two.b.is c other are in
      let g = too.is_latest in
      let close = near_hulls near most two (suc c) hull other is are in
      let early : time_of too.latest ≤ x = omega (arith, ints, too.last_is) in
      let inside = all_in_hulls cover goes two.a.is (record {
        there = two.a.cut.has too.latest (two.b.cut.inside too.latest g.there) early;
        is = g.is;
        good = good_is_correct (second_of two) g.master x g.correct two.le;
      }) in
      let same = same_some (hull_of v (suc c)) inside.hull hull inside.is is in
      omega (arith, ints, inside.most, ap (λ z. z.greatest) same, too.last_is)

-- ---- what a clock shows is at most the precision above what any clock shows later

-- the hull of an earlier cycle is not behind itself either
ordered_before : {v : View} {k : ℕ} (stands : Stands v k) (j : ℕ) (hull : Hull) → IsView v → j ≤ k
    → hull_of v j ≡ Some hull → hull.least ≤ℤ hull.greatest
ordered_before {v} stands zero hull view le is =
    let same = same_some (hull_of v zero) (start_hull v.sizes) hull refl is in
    omega (arith, ints, ap (λ z. z.least) same, ap (λ z. z.greatest) same)
ordered_before stands (suc i) hull view le is =
    let prior = stands.narrow i (omega arith) in (follows_before i prior.0 hull view prior.1 is).ordered

module _ (cover : BlocksCover) (goes : BlocksGoSo) (s : Scenario) (hs : List Happening) (path x y until : ℕ)
    (near_in : AreNearIn s hs until) (most : y ≤ until) (two : AreViews s hs path x y) where
  -- in the block of one cycle
  same_block : (n : ℕ) (shown later : ℤ) → IsShown (first_of two) n x shown → IsShown (second_of two) n y later
      → shown ≤ℤ (later +ℤ pos (first_of two).sizes.precision)
  same_block n shown later one other =
      let v = first_of two in
      let w = second_of two in
      let le = two.le in
      let space = room two.a.is in
      let before = one.block.before in
      let after = other.block.before in
      let close = near_hulls cover goes s hs path x y until near_in most two n before.hull after.hull before.is_hull after.is_hull in
      let more = one_more n v.sizes.cycle in
      elim one.how [
        | inl old ↦
            elim other.how [
              | inl too ↦ omega (arith, ints, old.most, too.least)
              | inr new ↦ (let follows = follows_before n after.hull new.hull two.b.is after.is_hull new.is_hull in
                  omega (arith, ints, old.most, new.shows.least, follows.most))
            ]
        | inr set ↦
            elim other.how [
              | inl too ↦ (let follows = follows_before n before.hull set.hull two.a.is before.is_hull set.is_hull in
                  omega (arith, ints, set.shows.most, too.least, follows.least))
              | inr new ↦ (let both = near_hulls cover goes s hs path x y until near_in most two (suc n) set.hull new.hull set.is_hull new.is_hull in
                  omega (arith, ints, set.shows.most, new.shows.least))
            ]
      ]

  -- the block of the later time is not an earlier one
  not_back : (j n : ℕ) (block : IsInBlock (first_of two) (suc j) x) (later : IsInBlock (second_of two) n y) → n ≤ j → n < j ⊎ (n ≡ j) → ⊥
  not_back j n block later le (inl lt) =
      let v = first_of two in
      let w = second_of two in
      let order = two.le in
      let space = room two.a.is in
      let before = block.before in
      let here = before.narrow n (omega arith) in
      let next = before.narrow (suc n) (omega arith) in
      let there = before.narrow j (omega arith) in
      let close = near_hulls cover goes s hs path x y until near_in most two n here.0 later.before.hull here.1 later.before.is_hull in
      let follows = follows_before n here.0 next.0 two.a.is here.1 next.1 in
      let gap : suc n + (j - suc n) ≡ j = omega arith in
      let low = corrections_go_on (suc n) (j - suc n) before next.0 there.0 two.a.is (omega arith) next.1
      (rw gap there.1) in
      let begins = block_ends v j before.next there.0 there.1 before.is_over in
      let ends = block_ends w n later.next later.before.hull later.before.is_hull later.is_over in
      let ordered = ordered_before before j there.0 two.a.is (omega arith) there.1 in
      omega (arith, ints, follows.least, block.from, later.to)
  not_back j n block later le (inr same) =
      let v = first_of two in
      let w = second_of two in
      let order = two.le in
      let before = block.before in
      let there = before.narrow j (omega arith) in
      let begins = block_ends v j before.next there.0 there.1 before.is_over in
      let ends = block_ends w n later.next later.before.hull later.before.is_hull later.is_over in
      let ordered = ordered_before before j there.0 two.a.is (omega arith) there.1 in
      let from = block.from in
      let none = no_later_hull cover goes s hs path x y until near_in most two n there.0 later.before.hull
      (subst (λ z. hull_of v z ≡ Some there.0) (sym same) there.1) later.before.is_hull ordered (omega (arith, ints)) in
      omega (arith, ints, later.to)

  -- in blocks of any two cycles
  falls : (k n : ℕ) (shown later : ℤ) → IsShown (first_of two) k x shown → IsShown (second_of two) n y later
      → shown ≤ℤ (later +ℤ pos (first_of two).sizes.precision)
  falls k n shown later one other =
      elim (cases_lt n k) [
        | inl lt ↦ absurd (back k shown one lt)
        | inr ge ↦
            elim (cases_lt k n) [
              | inl lt ↦ ahead n later other lt
              | inr le ↦
                  let same : n ≡ k = omega arith in
                  same_block k shown later one (rw same at other)
            ]
      ]
    where
      back : (k : ℕ) (shown : ℤ) → IsShown (first_of two) k x shown → n < k → ⊥
      back zero shown one lt = omega arith
      back (suc j) shown one lt = not_back j n one.block other.block (omega arith) (elim (cases_lt n j) [
        | inl less ↦ inl less
        | inr ge ↦ inr (omega arith)
      ])

      ahead : (n : ℕ) (later : ℤ) → IsShown (second_of two) n y later → k < n → shown ≤ℤ (later +ℤ pos (first_of two).sizes.precision)
      ahead zero later other lt = absurd (omega arith)
      ahead (suc m) later other lt =
          let v = first_of two in
          let a = most_shown two.a.is one in
          let b = least_shown m two.b.is other in
          let product : suc k * v.sizes.cycle ≤ suc m * v.sizes.cycle = mul-le-mul_right v.sizes.cycle (omega arith) in
          omega (arith, ints)

-- ---- in a run

-- a clock that shows this, in a block of the view
record IsBlockOf (v : View) (t : ℕ) (shown : ℤ) : Type 0 where
  pub n : ℕ
  pub is : IsShown v n t shown

left_in : {s : Scenario} {hs : List Happening} {t : ℕ} (u : ℕ) {channel : Channel} {path : ℕ} (device : DeviceId)
    (at : IsViewWith s hs t channel path) → t ≤ u → u ≤ t + 1 → is_broken s device t ≡ false
    → state_after s (earlier u hs) device ≡ Synchronised → IsBlockOf (view_of s t channel path at.cut.front) t
    (pos (s.reading device t) +ℤ (adjustment_after s (earlier u hs) device).0)
left_in {s} {t} u {channel} {path} device at from to correct synchronised =
    let v = view_of s t channel path at.cut.front in
    let block = blocks_known.cover v t at.is (omega arith) in
    let same = sym (at.cut.early u to) in
    let timed = timed_of _ (rw same at synchronised) in
    record {
      n = block.0;
      is =
          rw same (is_shown blocks_known.goes block.1 at.is from to
          (record { good = correct; timed = timed }));
    }

shown_in : {s : Scenario} {hs : List Happening} {t : ℕ} {channel : Channel} {path : ℕ} {device : DeviceId}
    (shown : ℤ) (at : IsViewWith s hs t channel path) → ShowsInStep s hs device t shown
    → IsBlockOf (view_of s t channel path at.cut.front) t shown
shown_in {s} {hs} {t} {channel} {path} {device} shown at (inl after) =
    let same = up_to_is t hs in
    let state = rw same at after.0.synchronised in
    let shows = after.1 ∙ ap (λ gs. pos (s.reading device t) +ℤ (adjustment_after s gs device).0) same in
    subst (IsBlockOf (view_of s t channel path at.cut.front) t) (sym shows)
    (left_in (t + 1) device at (omega arith)
    (omega arith) after.0.correct state)
shown_in {s} {hs} {t} {channel} {path} {device} shown at (inr before) =
    let state = not_integrating (is_turned_on_at s device t) (state_after s (earlier t hs) device) before.0.synchronised in
    subst (IsBlockOf (view_of s t channel path at.cut.front) t) (sym before.1)
    (left_in t device at (omega arith) (omega arith)
    before.0.correct state)

pub never_fall : ClocksDoNotFallBack
never_fall s mark ns until up x y d e shown later le most one other =
    let n = s.network in
    let hs = happenings n ns in
    let beta = (beta_exists n (rules_give_trees n (shape_rules n up.lawful.rules))).1 in
    let path = beta_at n beta.jitter beta.links in
    let is_beta = subst (IsBeta n) beta.value beta in
    let c = one_channel_is_sound s x up.lawful in
    let f = one_channel_is_sound s y up.lawful in
    let a = view_with x c.0 path up is_beta (omega arith) c.1 in
    let b = view_with y f.0 path up is_beta most f.1 in
    let two : AreViews s hs path x y = record { c = c.0; d = f.0; a = a; b = b; le = le } in
    let first = shown_in shown a one in
    let second = shown_in later b other in
    let fall = falls blocks_known.cover blocks_known.goes s hs path x y until (near s mark ns until up) most two first.n second.n
    shown later first.is second.is in
    in_network shown later a.is fall
