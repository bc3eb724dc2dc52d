-- The compression master of the sound channel: the frames that it takes, and the one that it sends.
use Rattle.precision_law.proofs.{emission.Aimed.{IsAimed, fine_then, never_ends, of_block_cycle}}
use Rattle.precision_law.proofs.{trips.{Gates.dispatches_pass, SoundChannel.{frames_go_up, sound_is_whole}}}
use Rattle.precision_law.proofs.block.{Dispatched.{IsCalm, NoCliqueBefore, firm_kept, masters_dispatch}}
use Rattle.precision_law.proofs.block.{Onward.hull_ordered}
use Rattle.precision_law.proofs.words.Blocks
use Blocks.{AreUpTo, GivesPoint, IsBadPoint, IsGoodPoint, IsKnown, IsReadAt, IsWitness, arrival_young, bad_number}
use Blocks.{bases_are_in_hulls, before_narrow, cluster_was, contained, earlier_in_block, early_show, ends_soon}
use Blocks.{follows_before, front_point, front_witness, gives_point, good_near, hulls_are_narrow, is_held, later_point}
use Blocks.{master_of_bit, not_both, place_order, point_record, points_ordered, read_at, tidy, up_to_then}
use Rattle.precision_law.proofs.words.Clocks
use Clocks.{IsRipeArrival, IsRipeRecord, IsSentAt, after_more, all_by, ascending_from, before_place, contains}
use Clocks.{enough_masters, frames_come_first, has_member, in_filter_map, is_collected, is_sent, last_in, made_in}
use Clocks.{master_member, natural_of, one_member, opened_by, parts_at_last, permanence_is_sharp, place_of_ripe}
use Clocks.{place_of_sent, reach_is_there, room, sent_at, sizes_are, sound_switches_begin_on, steady, switches_are_good}
use Clocks.{trip_says}
use Rattle.precision_law.proofs.words.Laws
use Laws.{BlocksGoSo, Hull, IsBrought, IsDispatch, IsEmission, IsFirstMaster, IsGood, IsInBlock, IsInHull, IsRipe}
use Laws.{IsTrip, IsView, IsWholeFrom, Leg, SendsOn, SoundMasterSends, View, first_correction, first_dispatch, hull_of}
use Laws.{last_dispatch}
use Rattle.precision_law.proofs.words.Plans
use Plans.{A, AreClusters, B, Channel, Cluster, CompressionMasters, Device, DeviceId, Holds, IsCmOf, IsDropped, IsKept}
use Plans.{IsMember, IsReach, IsSwitchOf, LinkId, Masters, Members, Ordered, Pcf, Point, Role, Up, Way, amount, closed}
use Plans.{device_at, end_of, has_point_of, is_master, none, one_cluster, one_list_of_clusters, opened, point_at, role}
use Plans.{role_in}
use Rattle.precision_law.proofs.words.Runs
use Runs.{BeginsOn, Happening, IsCaused, IsDue, IsFounded, IsIn, IsSplit, Judgement, adjustment_at_hearing}
use Runs.{before_later_time, before_next_time, cycle_in, earlier_time, ends_stretch, founded_at, frame_by}
use Runs.{front_founded, has_role, in_front_of, in_left, in_parts, in_right, is_broken, is_cm, is_cm_role, is_parent_of}
use Runs.{is_relay_role, key, master_of, member_of, members_in, observation_window, place_of, point_by, point_fault}
use Runs.{points_of, rank, same_some, sign, split, state_at_hearing, time_of, waits_for}
use Rattle.precision_law.proofs.words.Std
use Std.{if◌then◌else◌, ◌*◌, ◌++◌, ◌+ℤ◌, ◌+◌, ◌<ℤ◌, ◌<◌, ◌^◌, ◌∙◌, ◌∷◌, ◌≡◌, ◌≤ℤ◌, ◌≤◌, ◌⊎◌, Bool, Contains, IsNone}
use Std.{IsSomeAnd, List, None, Option, Some, [], after_last, ap, append_assoc, arith, both_ways, cases_Bool, cases_lt}
use Std.{eq-eqb, false, false_from_ne_true, filter_map, filter_map-append, inl, inr, int_lt, ints, last_or, length, not}
use Std.{ones_le_self, option_and_then, option_map_or, pos, refl, slice_get, subst, suc, sym, true, unsigned_abs}
use Std.{unwrap_or, zero, ℕ, ℤ}
use Rattle.compression.specs.declared.taken.Taken.TheVariants as taken

-- ---- the compression master of the sound channel, a good master that began on, and what its dispatches bring

-- ---- the compression master

-- each channel has one
pub channel_cm : {v : View} (channel : Channel) → IsView v → (cm : DeviceId) × IsCmOf v.scenario.network channel cm
channel_cm A is = (let one = (is.lawful.rules CompressionMasters 0).on_a refl in (one.0, one.1))
channel_cm B is = (let one = (is.lawful.rules CompressionMasters 1).on_b refl in (one.0, one.1))

-- what it is
pub record IsOneCm (v : View) (channel : Channel) (cm : DeviceId) : Type 0 where
  pub one : is_cm v.scenario.network cm ≡ true
  pub switch : IsSwitchOf v.scenario.network channel cm
  pub waits : (link : LinkId) → waits_for v.scenario.network cm link ≡ true

-- a compression master of a channel is such
pub cm_is : (v : View) (channel : Channel) (cm : DeviceId) → IsCmOf v.scenario.network channel cm → IsOneCm v channel cm
cm_is v channel cm of_channel = grind (arith, opened, device_at, has_role, option_map_or, is_cm_role, closed, not, is_parent_of, is_relay_role)

-- ---- a first master

-- a device begins on, or does not
begins_or_not : (o : Option Device) → IsSomeAnd o (λ d. IsNone d.start → ⊥) ⊎ (IsSomeAnd o (λ d. IsNone d.start → ⊥) → ⊥)
begins_or_not None = inr (λ x. x)
begins_or_not (Some d) = grind arith

-- a device is a good master that began on, or is not
first_or_not : (v : View) (device : DeviceId) → IsFirstMaster v device ⊎ (IsFirstMaster v device → ⊥)
first_or_not v device = grind (arith, cases_Bool, has_role, is_master, both_ways, is_broken, begins_or_not, device_at)

-- of what may be found at a place, it is at one below this, or at none
some_below : (P : ℕ → Type 0) → ((i : ℕ) → P i ⊎ (P i → ⊥)) → (n : ℕ) → ((i : ℕ) × P i) ⊎ ((i : ℕ) → i < n → P i → ⊥)
some_below P decide zero = inr (λ i lt p. omega arith)
some_below P decide (suc n) = elim (decide n) [
  | inl here ↦ inl (n, here)
  | inr not_here ↦ elim (some_below P decide n) [
    | inl found ↦ inl found
    | inr none ↦ inr (λ i lt p. elim (cases_lt i n) [
      | inl below ↦ none i below p
      | inr ge ↦
          not_here (subst P (omega arith) p)
    ])
  ]
]

-- what has a role is one of the devices
within : (xs : List Device) (i : ℕ) (kind : Role → Bool) → option_map_or (λ d. kind d.role) (slice_get xs i) false ≡ true → i < length xs
within [] i kind e = absurd cc
within (x ∷ xs) zero kind e = omega arith
within (x ∷ xs) (suc i) kind e = (let more = within xs i kind e in omega arith)

-- the masters are enough, so there is one
pub first_master : {v : View} → IsView v → (device : DeviceId) × IsFirstMaster v device
first_master {v} is =
    elim (some_below (λ i. IsFirstMaster v (record { 0 = i })) (λ i. first_or_not v (record { 0 = i })) (length v.scenario.network.device)) [
      | inl found ↦ (record { 0 = found.0 }, found.1)
      | inr none ↦
          let enough = enough_masters v (record { 0 = 0 }) is
          (λ device i m e. absurd (none device.0 (within v.scenario.network.device device.0 is_master m.master) m)) in
          let nothing = ones_le_self 0 in
          absurd (omega (arith, (is.lawful.rules Masters 2).threshold_least refl))
    ]

-- ---- what a dispatch brings

-- the dispatch of a first master in the block, and what it brings to the compression master
pub record IsSender (v : View) (n : ℕ) (before : Hull) (cm master : DeviceId) : Type 0 where
  pub first : Happening
  pub dispatch : IsDispatch v first master (suc n)
  pub low : first_dispatch v.sizes before ≤ℤ pos (time_of first)
  pub high : pos (time_of first) ≤ℤ last_dispatch v.sizes before
  pub brought : IsBrought v Up first cm

-- each first master has one
pub sends_up : BlocksGoSo → {v : View} (channel : Channel) {n t : ℕ} (block : IsInBlock v n t) (cm : DeviceId)
    {master : DeviceId} → IsView v → (first_correction v.sizes block.before.hull +ℤ pos v.sizes.reach) ≤ℤ pos t
    → IsCmOf v.scenario.network channel cm → ((u : ℕ) → IsInHull v (suc n) u → IsWholeFrom v channel u)
    → IsFirstMaster v master → IsSender v n block.before.hull cm master
sends_up goes {v} channel {n} {t} block cm {master} is late one whole first =
    let before = block.before in
    let space = frames_come_first v.sizes before.hull (room is) (before_narrow before) in
    let sent = masters_dispatch goes v n t block master is (omega (arith, ints)) first in
    let w = time_of sent.0 in
    let soon : w + v.sizes.dmax + v.sizes.path ≤ v.until = omega (arith, ints, sent.2, block.in_run) in
    let from : before.next ≤ w = elim (cases_lt w before.next) [
      | inr ge ↦ ge
      | inl early ↦ (let wrong = (before.dispatches sent.0 master (suc n) sent.1 early).0 in absurd (omega arith))
    ] in
    let there = earlier_in_block _ _ _ _ block from (omega (arith, ints, sent.2)) in
    let so = (goes v n w there is).dispatches sent.0 master (suc n) sent.1 refl in
    let hull = so.inside in
    let low : first_dispatch v.sizes before.hull ≤ℤ pos w =
    omega (arith, ints, (follows_before n _ _ is before.is_hull hull.is).least, hull.least) in
    record {
      first = sent.0;
      dispatch = sent.1;
      low = low;
      high = sent.2;
      brought = frames_go_up v channel sent.0 master cm (suc n) is (whole w hull) sent.1 one
          (dispatches_pass goes channel there is low sent.2 (omega arith)) soon;
    }

-- ---- the compression master of the sound channel takes the frames of the first masters: points that come

-- a point that comes to a cluster of another cycle
pub record MeetsOther (cs : List Cluster) (p : Point) : Type 0 where
  pub cluster : Cluster
  pub there : IsIn cluster cs
  pub to : p.reading ≤ℤ cluster.end
  pub other : p.cycle ≡ cluster.cycle → ⊥

kinds : (b : Bool) → (if b then taken.Repeat else taken.Joined) ≡ taken.OtherCycle → ⊥
kinds true e = cc
kinds false e = cc

-- a point that is not taken because of its cycle does
meets_other : (cs : List Cluster) (p : Point) → role cs p ≡ taken.OtherCycle → MeetsOther cs p
meets_other cs p e = by (last_or None cs) refl e
  where
    within : (c : Cluster) → IsIn c cs → (b : Bool) → int_lt c.end p.reading ≡ b → role_in (if b then None else Some c) p ≡ taken.OtherCycle → MeetsOther cs p
    within c i true past e = absurd cc
    within c i false past e =
        let other = λ (same : p.cycle ≡ c.cycle). kinds (has_point_of c p.master) (rw (eq-eqb p.cycle c.cycle same) at e) in
        record { cluster = c; there = i; to = grind (arith, ints); other = other }

    by : (o : Option Cluster) → last_or None cs ≡ o → role_in (option_and_then (λ c. if int_lt c.end p.reading then None else Some c) o) p ≡ taken.OtherCycle
        → MeetsOther cs p
    by None at e = absurd cc
    by (Some c) at e = elim (last_in None cs c at) [ inl none ↦ absurd cc | inr i ↦ within c i (int_lt c.end p.reading) refl e ]

-- ---- the record of a frame's permanence

-- the last record of a trip is one of the run
last_there : (v : View) (way : Way) (first last : Happening) (legs : List Leg) → IsTrip v way first legs last → IsIn first v.records → IsIn last v.records
last_there v way first last [] trip i = rw trip at i
last_there v way first last (leg ∷ legs) trip i = last_there v way leg.arriving last legs trip.2 trip.1.arrived

-- the point of a first master's frame at the compression master
pub record IsGathered (v : View) (n : ℕ) (before : Hull) (next : ℕ) (cm master : DeviceId) (by : ℕ) : Type 0 where
  pub k : Happening
  pub there : IsIn k v.records
  pub p : Point
  pub gives : point_by cm k k.note.body ≡ Some p
  pub of_cycle : p.cycle ≡ suc n
  pub of_master : member_of v.scenario.network master ≡ Some p.master
  pub aimed : IsAimed v before next cm p.reading (time_of k)
  pub to : time_of k ≤ by

-- ---- what a dispatch brings

-- the frame that it brings
pub record HasFrame (v : View) (n : ℕ) (before : Hull) (cm master : DeviceId) (s : IsSender v n before cm master) : Type 0 where
  pub member : ℕ
  pub is_member : member_of v.scenario.network master ≡ Some member
  pub frame : Pcf
  pub of_frame : s.brought.last.frame ≡ Some frame
  pub of_cycle : frame.cycle ≡ suc n
  pub of_members : frame.members.0 ≡ 2 ^ member
  pub there : IsIn s.brought.last v.records
  pub sharp : IsRipe v.sizes (v.scenario.reading cm) (time_of s.brought.last) s.brought.point s.brought.q
  pub not_negative : pos 0 ≤ℤ s.brought.point

-- it brings one
pub has_frame : {v : View} {n : ℕ} {before : Hull} {cm master : DeviceId} (s : IsSender v n before cm master)
    → IsView v → IsFirstMaster v master → HasFrame v n before cm master s
has_frame {v} {cm} {master} s is first =
    let network = v.scenario.network in
    let b = s.brought in
    let p = b.permanent in
    let at = founded_at v.scenario v.records s.first is.run.founded s.dispatch.there in
    let says = trip_says Up s.first b.last b.legs _ is b.trip
    (ap (λ x. x.frame) at.due.same ∙ ap (frame_by network at.front) s.dispatch.is) in
    let member = master_member master is first.master in
    let there = last_there v Up s.first b.last b.legs b.trip s.dispatch.there in
    let at_a = founded_at v.scenario v.records b.last is.run.founded there in
    let young = arrival_young v _ _ cm _ _ (subst (IsCaused v.scenario at_a.front b.last.note.time) p.is
    at_a.due.cause) in
    let size = (sizes_are is).dmax in
    record {
      member = member.0;
      is_member = member.1;
      frame = says.carried;
      of_frame = says.is;
      of_cycle = says.of_cycle;
      of_members = rw says.of_members (ap (λ o. 2 ^ unwrap_or o 0) member.1);
      there = there;
      sharp =
          permanence_is_sharp v.sizes (v.scenario.reading cm) (time_of b.last) b.point b.q (steady v is cm)
          (omega (arith, ints, p.at_point))
          p.reached;
      not_negative = omega (arith, ints, p.at_point);
    }

-- the compression master of a channel that is whole from the block's dispatches on, once the correction points may come, and
-- an instant before them by which it has the frames of the first masters and could send its own: it finds no fault with
-- these, none of another cycle lies so near before one, and no record ends its stretch in the block by then
pub record Collects (v : View) (channel : Channel) (n t : ℕ) (block : IsInBlock v n t) (cm : DeviceId) (by : ℕ) : Type 0 where
  pub of_channel : IsCmOf v.scenario.network channel cm
  pub good : IsGood v cm
  pub to : by ≤ t
  pub late : (first_correction v.sizes block.before.hull +ℤ pos v.sizes.reach) ≤ℤ pos t
  pub over : (last_dispatch v.sizes block.before.hull +ℤ pos (v.sizes.dmax + v.sizes.compression + v.sizes.base + v.sizes.path + v.sizes.precision)) ≤ℤ pos by
  pub whole : (u : ℕ) → IsInHull v (suc n) u → IsWholeFrom v channel u
  pub fine : (q : ℕ) (hs : List Happening) (point : ℤ) → AreUpTo v q hs → q ≤ by → IsAimed v block.before.hull block.before.next cm point q
      → point_fault v.scenario.network (state_at_hearing v.scenario hs cm q) (adjustment_at_hearing v.scenario hs cm q).0 point (suc n) ≡ None
  pub alike : (point : ℤ) (q : ℕ) (k : Happening) (o : Point) → q ≤ by → IsAimed v block.before.hull block.before.next cm point q
      → IsIn k v.records → time_of k ≤ by → GivesPoint cm k o → o.reading ≤ℤ point → point ≤ℤ (o.reading +ℤ pos (2 * v.sizes.precision))
      → o.cycle ≡ suc n
  pub quiet : (h : Happening) → IsIn h v.records → block.before.next ≤ time_of h → time_of h ≤ by → ends_stretch cm h.note.body ≡ false

module _ (v : View) (channel : Channel) (n t : ℕ) (block : IsInBlock v n t) (cm : DeviceId) (by : ℕ) (is : IsView v)
    (c : Collects v channel n t block cm by)
    (master : DeviceId) (s : IsSender v n block.before.hull cm master) (f : HasFrame v n block.before.hull cm master s) where
  -- the point of the frame lies where it should
  aims : (s.brought.q ≤ by) × IsAimed v block.before.hull block.before.next cm s.brought.point s.brought.q
  aims =
      let before = block.before in
      let space = room is in
      let b = s.brought in
      let high = s.high in (
        omega (arith, ints, b.in_time.not_late, c.over),
        record {
          sent = time_of s.first;
          low = s.low;
          high = s.high;
          not_early = b.in_time.not_early;
          not_late = b.in_time.not_late;
          least = f.sharp.least;
          most = f.sharp.most;
          late = omega (arith, ints, early_show n before is, s.low, b.in_time.not_early);
        },
      )

  -- it does not come to a cluster of another cycle
  never_other : (at : IsSplit place_of v.records (place_of_ripe cm s.brought.last s.brought.permanent.link f.frame s.brought.point s.brought.q))
      (clusters : List Cluster) → AreClusters (observation_window v.scenario.network) (points_of at.front cm) clusters
      → role clusters (point_at s.brought.point (master_of f.frame.members.0) f.frame.cycle) ≡ taken.OtherCycle → ⊥
  never_other at clusters are e =
      let ow = observation_window v.scenario.network in
      let b = s.brought in
      let to = aims.0 in
      let meets = meets_other clusters (point_at b.point (master_of f.frame.members.0) f.frame.cycle) e in
      let opened = opened_by _ _ _ meets.cluster (points_ordered cm at.front at.rest is at.whole) are (contains clusters meets.cluster meets.there) in
      let o = opened.first in
      let given = point_record cm at.front o (contained (points_of at.front cm) o opened.there) in
      let k = given.0 in
      let g = given.2 in
      let i : IsIn k v.records = subst (IsIn k) (sym at.whole) (in_left k at.front at.rest given.1) in
      let split_at = before_place v b.q (3 ∷ cm.0 ∷ unsigned_abs b.point ∷ f.frame.members.0 ∷ b.permanent.link.0 ∷ b.last.note.number ∷ []) at in
      let early = split_at.only k given.1 in
      let r = read_at is i g in
      let read : IsReadAt v cm b.point b.q = record { arrived = time_of b.last; ripe = f.sharp; not_negative = f.not_negative } in
      let placed = rw g.is at (at.before k given.1) in
      let low : o.reading ≤ℤ b.point = elim (place_order (time_of k) b.q cm.0 (amount g.point) (unsigned_abs b.point) (members_in k ∷ g.link.0 ∷ g.cause ∷ [])
      (f.frame.members.0 ∷ b.permanent.link.0 ∷ b.last.note.number ∷ []) placed) [
        | inl lt ↦ (let above = later_point (time_of k) is read lt in let below = r.ripe.least in omega (arith, ints))
        | inr le ↦ omega (arith, ints, g.reads, r.not_negative, f.not_negative)
      ] in
      let size = (sizes_are is).precision in
      let soon = ends_soon ow o (o ∷ opened.rest) (omega (arith, ints)) in
      let high : b.point ≤ℤ (o.reading +ℤ pos (2 * v.sizes.precision)) =
      omega (arith, ints, meets.to, ap (λ (x : Cluster). x.end) opened.is) in
      let same = c.alike b.point b.q k o aims.0 aims.1 i (omega arith) g low high in
      meets.other (f.of_cycle ∙ sym same ∙ sym (ap (λ x. x.cycle) opened.is))

  -- so its record gives its point
  recorded : (verdict : Judgement) → IsRipeRecord v cm s.brought.last s.brought.permanent.link s.brought.point s.brought.q verdict f.frame
      → IsGathered v n block.before.hull block.before.next cm master by
  recorded verdict r =
      let b = s.brought in
      let p = point_at b.point (master_of (members_in r.h)) (cycle_in r.h) in
      let members : members_in r.h ≡ 2 ^ f.member = rw r.of_frame f.of_members in
      record {
        k = r.h;
        there = r.there;
        p = p;
        gives = ap (point_by cm r.h) r.is ∙ ap (λ x. if x then Some p else None) (eq-eqb cm.0 cm.0 refl);
        of_cycle = rw r.of_frame f.of_cycle;
        of_master =
            f.is_member ∙ ap (λ m. Some m) (sym (ap master_of members ∙ master_of_bit f.member
            (has_member master f.member is f.is_member).small));
        aimed = subst (IsAimed v block.before.hull block.before.next cm b.point) (sym r.time) aims.1;
        to = omega (arith, r.time, aims.0);
      }

  pub gathered : IsGathered v n block.before.hull block.before.next cm master by
  gathered =
      let b = s.brought in
      let link = b.permanent.link in
      let cm_so = cm_is v channel cm c.of_channel in
      let later = f.sharp.after in
      let ripe : IsRipeArrival v cm b.last link f.frame b.point b.q = record {
        there = f.there;
        of_frame = f.of_frame;
        waits = cm_so.waits link;
        good = c.good;
        permanent = b.permanent;
        by_link = refl;
        later = later;
        in_run = omega (arith, aims.0, c.to, block.in_run);
      } in
      let at = split place_of (IsDue v.scenario) v.records (place_of_ripe cm b.last link f.frame b.point b.q) is.run.founded in
      let split_at = before_place v b.q (3 ∷ cm.0 ∷ unsigned_abs b.point ∷ f.frame.members.0 ∷ link.0 ∷ b.last.note.number ∷ []) at in
      let fine = rw (sym f.of_cycle) at (c.fine b.q at.front b.point (up_to_then split_at) aims.0 aims.1) in
      elim (is_collected is cm_so.one ripe at fine) [
        | inl meets ↦ absurd (never_other at meets.0 meets.1 meets.2)
        | inr found ↦ recorded found.0 found.1
      ]

-- ---- the compression master of the sound channel sends one frame of the block's cycle, of enough masters

-- ---- the points by then

-- records that end no stretch add their points
points_more : (cm : DeviceId) (front back : List Happening) → ((h : Happening) → IsIn h back → ends_stretch cm h.note.body ≡ false)
    → points_of (front ++ back) cm ≡ points_of front cm ++ filter_map (λ h. point_by cm h h.note.body) back
points_more cm front back quiet =
    let point = λ (h : Happening). point_by cm h h.note.body in
    ap (filter_map point) (after_more back quiet
    (parts_at_last (λ (h : Happening). ends_stretch cm h.note.body) front))
    ∙ filter_map-append point (after_last (λ (h : Happening). ends_stretch cm h.note.body) front) back

module _ (goes : BlocksGoSo) (v : View) (channel : Channel) (n t : ℕ) (block : IsInBlock v n t) (cm : DeviceId) (by : ℕ) (is : IsView v)
    (coll : Collects v channel n t block cm by) where
  -- what is known of the cycle
  known : IsKnown v (by + 1) (suc n)
  known = record {
    is = is;
    tidy = tidy _ _ (by + 1) block.before (λ u from lt. goes v n u (earlier_in_block _ _ _ _ block from (omega arith)) is);
    narrow = λ hull e. hulls_are_narrow goes v n block.before hull is e;
  }

  -- the records up to then
  by_then : IsSplit place_of v.records ((by + 1) ∷ [])
  by_then = split place_of (IsDue v.scenario) v.records ((by + 1) ∷ []) is.run.founded

  up_to : (h : Happening) → IsIn h by_then.front → IsIn h v.records × (time_of h ≤ by)
  up_to h i = (
    subst (IsIn h) (sym by_then.whole) (in_left h by_then.front by_then.rest i),
    (let lt = earlier_time (time_of h) (by + 1) (rank h.note.body ∷ key (members_in h) h.note.body)
        (by_then.before h i) in omega arith),
  )

  abbrev points : List Point
  points = points_of by_then.front cm

  abbrev ow : ℤ
  ow = observation_window v.scenario.network

  -- it is a compression master
  one : is_cm v.scenario.network cm ≡ true
  one = (cm_is v channel cm coll.of_channel).one

  -- each is a good one or a bad one
  each_is : (q : Point) → IsIn q points → IsGoodPoint v cm by q ⊎ IsBadPoint v q
  each_is q i = front_point cm q by by_then.front by_then.rest is by_then.whole (λ h j. (up_to h j).1) one i

  -- they are in order
  ordered : Ordered points
  ordered = points_ordered cm by_then.front by_then.rest is by_then.whole

  -- the clusters that they make
  found : (cs : List Cluster) × AreClusters ow points cs
  found = (let z = one_list_of_clusters ow points in (z.0, z.1))

  gather : (master : DeviceId) → IsFirstMaster v master → IsGathered v n block.before.hull block.before.next cm master by
  gather m first =
      let sender = sends_up goes channel block cm is coll.late coll.of_channel coll.whole first in
      gathered v channel n t block cm by is coll m sender (has_frame sender is first)

  -- a first master's point is among them
  is_point : (master : DeviceId) (g : IsGathered v n block.before.hull block.before.next cm master by) → IsIn g.p points
  is_point master g =
      let next = block.before.next in
      let cut = split place_of (IsDue v.scenario) by_then.front (next ∷ [])
      (front_founded place_of (IsDue v.scenario) by_then.front by_then.rest (subst (IsFounded place_of (IsDue v.scenario)) by_then.whole is.run.founded)) in
      let in_all : (h : Happening) → IsIn h cut.rest → IsIn h by_then.front = λ h i. subst (IsIn h) (sym cut.whole) (in_right h cut.front cut.rest i) in
      let late : (h : Happening) → IsIn h cut.rest → next ≤ time_of h = λ h i. elim (cases_lt (time_of h) next)
      [ inl lt ↦ absurd (cut.none h i (inl lt)) | inr ge ↦ ge ] in
      let front : IsIn g.k by_then.front = in_front_of by_then g.k g.there (inl (omega (arith, g.to))) in
      let behind : IsIn g.k cut.rest = elim (in_parts g.k cut.front cut.rest (subst (IsIn g.k) cut.whole front)) [
        | inr there ↦ there
        | inl before ↦
            let early = earlier_time (time_of g.k) next (rank g.k.note.body ∷ key (members_in g.k) g.k.note.body) (cut.before g.k before) in
            absurd (omega (arith, g.aimed.late))
      ] in
      let more = points_more cm cut.front cut.rest (λ h i. coll.quiet h (up_to h (in_all h i)).0 (late h i) (up_to h (in_all h i)).1) in
      subst (IsIn g.p) (sym (ap (λ hs. points_of hs cm) cut.whole ∙ more))
      (in_right g.p (points_of cut.front cm) (filter_map (λ h. point_by cm h h.note.body) cut.rest)
      (made_in (λ (h : Happening). point_by cm h h.note.body) cut.rest g.k g.p behind g.gives))

  -- a point of a good master's number is good
  good_by : (master : DeviceId) (q : Point) → IsFirstMaster v master → member_of v.scenario.network master ≡ Some q.master → IsIn q points
      → IsGoodPoint v cm by q
  good_by master q first member i = elim (each_is q i) [
    | inl good ↦ good
    | inr bad ↦ absurd (not_both v master bad.master first.good bad.bad (one_member master bad.master q.master is member bad.is_member))
  ]

  -- and it is in the time of no cluster of another cycle
  never_dropped : (master : DeviceId) (g : IsGathered v n block.before.hull block.before.next cm master by) → IsDropped found.0 g.p → ⊥
  never_dropped master g dropped =
      let opened = opened_by ow points found.0 dropped.0 ordered found.1 dropped.1 in
      let o = opened.first in
      let given = point_record cm by_then.front o (contained points o opened.there) in
      let there = up_to given.0 given.1 in
      let lies = dropped.3 in
      let ends : dropped.0.end ≡ end_of ow o (o ∷ opened.rest) = ap (λ (x : Cluster). x.end) opened.is in
      let opens : dropped.0.opened ≡ o.reading = ap (λ (x : Cluster). x.opened) opened.is in
      let cycle = coll.alike g.p.reading (time_of g.k) given.0 o g.to g.aimed there.0 there.1 given.2
      (omega (arith, ints, lies.low)) (omega
      (arith, ints, lies.high, ends_soon ow o (o ∷ opened.rest) (omega (arith, ints)), sizes_are is)) in
      dropped.2 (g.of_cycle ∙ sym cycle ∙ sym (ap (λ (x : Cluster). x.cycle) opened.is))

  -- ---- the cluster

  -- a cluster that has the points of all first masters
  record HasAll : Type 0 where
    pub cluster : Cluster
    pub there : Contains found.0 cluster
    pub holds : (master : DeviceId) → IsFirstMaster v master → (p : Point) × (member_of v.scenario.network master ≡ Some p.master) × IsIn p points
        × Holds cluster p × (p.cycle ≡ suc n)

  -- there is one
  all : HasAll
  all =
      let bad = bad_number cm by points is each_is in
      let sizes = sizes_are is in
      let kept : (m : DeviceId) → (f : IsFirstMaster v m) → IsKept points found.0 bad.0 (suc n) (gather m f).p = λ m f.
      let g = gather m f in
      let i = is_point m g in
      record { there = contains points g.p i; other = bad.1.of_good g.p i (good_by m g.p f g.of_master i); same = g.of_cycle; kept = never_dropped m g }
      in
      let good : (q : Point) → IsKept points found.0 bad.0 (suc n) q → IsGoodPoint v cm by q = λ q k. elim (each_is q (contained points q k.there))
      [ inl fine ↦ fine | inr wrong ↦ absurd (k.other (bad.1.of_bad q (contained points q k.there) wrong)) ] in
      let near : (p q : Point) → IsKept points found.0 bad.0 (suc n) p → IsKept points found.0 bad.0 (suc n) q → p.reading ≤ℤ (q.reading +ℤ ow) = λ p q k l.
      (let r = good_near known (omega arith) (omega arith) k.same l.same (good p k) (good q l) in omega (arith, ints)) in
      let m = first_master is in
      let z = one_cluster ow points found.0 bad.0 (suc n) (omega (arith, ints)) (ascending_from points ordered) found.1 near (gather m.0 m.1).p (kept m.0 m.1)
      in
      record { cluster = z.0; there = z.1; holds = λ m f. (let g = gather m f in (g.p, g.of_master, is_point m g, z.2 g.p (kept m f), g.of_cycle)) }

  -- the number of a first master is one of its members
  is_member : (device : DeviceId) (i : ℕ) → IsFirstMaster v device → member_of v.scenario.network device ≡ Some i
      → IsMember i (record { 0 = all.cluster.members })
  is_member device i first e =
      let p = all.holds device first in
      let bit = is_held ow points found.0 (omega (arith, ints)) ordered found.1 all.there (contains points p.0 p.2) p.3 in
      rw (sym (same_some (member_of v.scenario.network device) p.0.master i p.1 e)) bit

  -- it is of the block's cycle
  of_cycle : all.cluster.cycle ≡ suc n
  of_cycle = (let m = first_master is in let p = all.holds m.0 m.1 in sym p.3.0 ∙ p.4)

  -- ---- what it sends

  abbrev sent_reading : ℤ
  sent_reading = sent_at v all.cluster

  -- a good point of the cycle witnesses the emission reading of the cluster
  emerges : (x : Point) × IsWitness v cm by (suc n) sent_reading points all.cluster x
  emerges =
      let m = first_master is in
      let p = all.holds m.0 m.1 in
      front_witness {v = v} {t = by + 1} {cycle = suc n} {cm = cm} {by = by} {front = by_then.front} {rest = by_then.rest} {clusters = found.0} {cluster = all.cluster}
      (record {
        known = known;
        whole = by_then.whole;
        only = λ h i. (up_to h i).1;
        early = omega arith;
        one = one;
        are = found.1;
        there = all.there;
        cycle_is = of_cycle;
      }) p.0.master (is_member m.0 p.0.master m.1 p.1) (m.0, p.1, m.1.good)

  -- the emission reading, which is at most a precision and the time of a compression above a good point, is first reached by then
  comes_to : (u : ℕ) × (u ≤ by) × IsReach (v.scenario.reading cm) (pos 0) sent_reading (pos u)
  comes_to =
      let near = emerges.0 in
      let e = emerges.1 in
      let reading = v.scenario.reading cm in
      let space = room is in
      let clock = steady v is cm in
      let g = e.good in
      let q = g.ripe in
      let w = subst (λ m. IsInHull v m (time_of g.first)) e.of_cycle (known.tidy g.first g.master near.cycle g.dispatch (omega (arith, g.before))) in
      let high = w.most in
      let last = natural_of (w.hull.greatest +ℤ pos
      (v.sizes.dmax + v.sizes.compression + v.sizes.base + v.sizes.precision)) 0 (omega (arith, ints)) in
      let x = last.0 in
      let after : q ≤ x = omega (arith, ints, last.1, g.in_time.not_late, space.errors.base_is) in
      let within : x ≤ q + 2 * v.sizes.cycle = omega
      (arith, ints, last.1, known.narrow w.hull w.is, w.least, g.in_time.not_early) in
      let reached : sent_reading ≤ℤ pos (reading x) =
      omega (
        arith,
        ints,
        clock.slow q x after within,
        last.1,
        g.in_time.not_late,
        space.errors.base_is,
        g.least,
        e.soon,
      ) in
      let there = reach_is_there v.sizes reading 0 0 sent_reading x clock (omega arith)
      (omega (arith, ints, last.1, space.compression_least))
      (omega (arith, ints, clock.begins, e.begun)) reached in
      let follows = follows_before n block.before.hull w.hull is block.before.is_hull w.is in
      (there.0, omega (arith, ints, there.2, last.1, follows.most, coll.over), there.3)

  abbrev u : ℕ
  u = comes_to.0

  -- which is in the block
  begun : block.before.next ≤ u
  begun =
      let near = emerges.0 in
      let e = emerges.1 in
      let g = e.good in
      let space = room is in
      let w = subst (λ m. IsInHull v m (time_of g.first)) e.of_cycle (known.tidy g.first g.master near.cycle g.dispatch (omega (arith, g.before))) in
      let follows = follows_before n block.before.hull w.hull is block.before.is_hull w.is in
      let above : g.ripe ≤ u = elim (cases_lt u g.ripe) [
        | inr ge ↦ ge
        | inl lt ↦
            let up = (steady v is cm).never_falls u g.ripe (omega arith) in
            absurd (omega (arith, ints, g.most, e.near, comes_to.2.reached))
      ] in
      omega (arith, ints, early_show n block.before is, w.least, g.in_time.not_early)

  -- the records before the place of the frame
  first : IsSplit place_of by_then.front (place_of_sent v cm all.cluster u)
  first =
      split place_of (IsDue v.scenario) by_then.front (place_of_sent v cm all.cluster u)
      (front_founded place_of (IsDue v.scenario) by_then.front by_then.rest (subst (IsFounded place_of (IsDue v.scenario)) by_then.whole is.run.founded))

  -- the same among all records
  abbrev all_before : IsSplit place_of v.records (place_of_sent v cm all.cluster u)
  all_before = record {
    front = first.front;
    rest = first.rest ++ by_then.rest;
    whole = by_then.whole ∙ ap (λ (hs : List Happening). hs ++ by_then.rest) first.whole ∙ append_assoc first.front first.rest by_then.rest;
    before = first.before;
    none = λ h i lt. elim (in_parts h first.rest by_then.rest i) [
      | inl j ↦ first.none h j lt
      | inr j ↦ by_then.none h j (before_later_time (place_of h) (u + 1) (by + 1) (omega (arith, comes_to.1))
          (before_next_time (place_of h) u (4 ∷ cm.0 ∷ unsigned_abs all.cluster.opened ∷ unsigned_abs sent_reading ∷ all.cluster.cycle
          ∷ all.cluster.members ∷ sign all.cluster.opened ∷ sign sent_reading ∷ []) lt))
    ];
  }

  -- the points that come later lie behind the emission reading
  past_sent : (q : Point) → IsIn q (filter_map (λ h. point_by cm h h.note.body) first.rest) → sent_reading ≤ℤ q.reading
  past_sent q i =
      let made = in_filter_map (λ (h : Happening). point_by cm h h.note.body) first.rest q i in
      let k = made.0 in
      let g = gives_point cm k q made.2 in
      let in_all = (up_to k (subst (IsIn k) (sym first.whole) (in_right k first.front first.rest made.1))).0 in
      let behind : u < time_of k = elim (cases_lt u (time_of k)) [
        | inl lt ↦ lt
        | inr le ↦ elim (cases_lt (time_of k) u) [
          | inl lt ↦ absurd (first.none k made.1 (inl lt))
          | inr ge ↦ absurd (first.none k made.1 (inr (omega arith, inl (omega (arith, ap rank g.is)))))
        ]
      ] in
      omega (arith, ints, later_point u is (read_at is in_all g) behind, comes_to.2.reached)

  -- so the frame is sent
  sends : IsSentAt v cm all.cluster u
  sends =
      let point = λ (h : Happening). point_by cm h h.note.body in
      let more = filter_map point first.rest in
      let whole = ap (λ hs. points_of hs cm) first.whole ∙ points_more cm first.front first.rest (λ h i.
      (let there = up_to h (subst (IsIn h) (sym first.whole) (in_right h first.front first.rest i)) in
      let late : u ≤ time_of h = elim (cases_lt (time_of h) u) [ inl lt ↦ absurd (first.none h i (inl lt)) | inr ge ↦ ge ] in
      coll.quiet h there.0 (omega (arith, begun)) there.1)) in
      let ends = emerges.1.ends in
      let past = all_by (λ (q : Point). all.cluster.end <ℤ q.reading) more
      (λ q i. (let above = past_sent q i in omega (arith, ints))) in
      let before = one_list_of_clusters ow (points_of first.front cm) in
      let was = cluster_was ow (points_of first.front cm) more before.0 found.0 all.cluster (omega (arith, ints)) before.1
      (rw (sym whole) found.1) all.there past in
      is_sent cm u all.cluster before.0 is one coll.good (omega (arith, comes_to.1, coll.to, block.in_run)) all_before before.1 was comes_to.2

  -- and its base lies in the hull
  pub emits : (hull : Hull) × (hull_of v (suc n) ≡ Some hull) × SendsOn v channel n hull
  emits =
      let members : Members = record { 0 = all.cluster.members } in
      let emission : IsEmission v sends.h cm (suc n) members = rw (sym of_cycle) sends.emission in
      let enough = enough_masters v members is is_member in
      let base = bases_are_in_hulls v sends.h cm (suc n) members is emission
      (λ h d m dispatch lt. known.tidy h d m dispatch (omega (arith, sends.time, comes_to.1)))
      (inl (omega (arith, (is.lawful.rules Masters 2).threshold_least refl))) in (
        base.hull,
        base.is,
        record {
          cm = cm;
          is_cm = coll.of_channel;
          first = sends.h;
          members = members;
          emission = emission;
          enough = enough;
          near = record { least = base.least; most = base.most };
        },
      )

-- ---- the law

-- the compression master of a channel that is whole sends its frame, where it has kept the time
pub calm_master_sends : BlocksGoSo → {v : View} (channel : Channel) {n t : ℕ} (block : IsInBlock v n t)
    (cm : DeviceId) → IsView v → IsCmOf v.scenario.network channel cm → BeginsOn v.scenario.network cm
    → NoCliqueBefore v cm block.before.next → ((u : ℕ) → IsInHull v (suc n) u → IsWholeFrom v channel u)
    → (first_correction v.sizes block.before.hull +ℤ pos v.sizes.reach) ≤ℤ pos t
    → (hull : Hull) × (hull_of v (suc n) ≡ Some hull) × SendsOn v channel n hull
calm_master_sends goes {v} channel {n} {t} block cm is of_channel on kept whole late =
    let before = block.before in
    let space = room is in
    let natural = natural_of (last_dispatch v.sizes before.hull +ℤ pos
    (v.sizes.dmax + v.sizes.compression + v.sizes.base + v.sizes.path + v.sizes.precision)) 0
    (omega (arith, ints, early_show n before is, hull_ordered n before is)) in
    let by = natural.0 in
    let early = frames_come_first v.sizes before.hull space (before_narrow before) in
    let as_cm = cm_is v channel cm of_channel in
    let calm : IsCalm v n t block cm by = record {
      before = omega (arith, ints, natural.1);
      to = omega (arith, ints, natural.1);
      kept = kept;
      good = switches_are_good v channel cm is as_cm.switch;
      on = on;
    } in
    emits goes v channel n t block cm by is (record {
      of_channel = of_channel;
      good = calm.good;
      to = calm.to;
      late = late;
      over = omega (arith, ints, natural.1);
      whole = whole;
      fine = fine_then goes v n t block cm by is calm;
      alike = of_block_cycle goes v n t block cm by is calm as_cm.one;
      quiet = λ h i from le. false_from_ne_true (ends_stretch cm h.note.body)
          (λ hit. never_ends goes v n t block cm by is calm h h.note.body i le refl hit);
    })

pub sound_master_sends : BlocksGoSo → SoundMasterSends
sound_master_sends goes v n t block is late =
    let cm = channel_cm v.channel is in
    let switch = (cm_is v v.channel cm.0 cm.1).switch in
    calm_master_sends goes v.channel block cm.0 is cm.1 (sound_switches_begin_on v cm.0 is switch)
    (firm_kept block.before (inr switch)) (λ u inside. sound_is_whole u is) late
