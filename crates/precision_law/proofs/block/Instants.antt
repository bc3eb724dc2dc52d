-- How the network stands at the beginning, and what the frames that are heard bring at each instant.
use Rattle.precision_law.proofs.{Plain.reached, clocks.OldDevices.AreUpTo}
use Rattle.precision_law.proofs.{law.Precision.{block_ends, clique_point, follows_before}}
use Rattle.precision_law.proofs.words.Clocks
use Clocks.{before_of, device_of, earlier_before, earlier_judge, hearer_not_cm, instants_are_in_order, passes}
use Clocks.{point_timed, room, same_adjustment, same_device, sizes_are, some_of, starts_are_set, steady, time_stays}
use Rattle.precision_law.proofs.words.Laws
use Laws.{AreBeforeCorrections, AreGood, BasesAreInHulls, BlockGoesSo, ComesTo, EmissionsAreOfDispatches, HasGood}
use Laws.{HasTimeAt, HeardFramesAreTimely, HeardInTheirBlocks, HearingsAreOfFrames, HearsBy, Hull, IsClique, IsDispatch}
use Laws.{IsEmission, IsGood, IsInHull, IsNarrow, IsNearHull, IsOfHearer, IsOldAt, IsPointOf, IsSetFor, IsTidyBefore}
use Laws.{IsTimely, IsView, Stands, StandsAtStart, ThreeHaveGood, View, adjustment_left, base_of, epoch_time}
use Laws.{first_correction, first_dispatch, has_time, hull_of, is_correction, setting, start_hull}
use Rattle.precision_law.proofs.words.Plans
use Plans.{Channel, Cleared, Cm, Corrected, DeviceId, Integrating, IsDeviceInRange, IsWithin, Joints, Link, LinkId}
use Plans.{Masters, Members, Network, Off, Pcf, Point, Role, State, SyncPlan, Units, Verdict, adjustment_at_start}
use Plans.{all_at, amount, compression_time, count_of, device_at, expected_at, is_end_system, link_at, opened}
use Plans.{state_at_start, target_by}
use Rattle.precision_law.proofs.words.Runs
use Runs.{ComesToCorrection, Happening, Integrates, IsArrivedRecord, IsCaused, IsFoundedAt, IsIn, IsPermanenceOutcome}
use Runs.{Judgement, NoteBody, Scenario, Why, adjustment_after, adjustment_at_hearing, adjustment_with}
use Runs.{before_permanence, changes_adjustment, channel_of, channel_of_link, cycle_in, earlier, expected_by}
use Runs.{founded_at, frame_by, heard_as, heard_enough, in_filter, in_left, in_parts, is_before, is_cm, is_cm_role}
use Runs.{is_joined_by, last_cycle, members_in, none_kept, numbered_in, observation_window, place_of, plan_of}
use Runs.{same_judgement, same_some, start_of, state_at_hearing, time_of}
use Rattle.precision_law.proofs.words.Std
use Std.{◌*ℤ◌, ◌*◌, ◌+ℤ◌, ◌+◌, ◌-ℤ◌, ◌-◌, ◌<ℤ◌, ◌<◌, ◌^◌, ◌∙◌, ◌∷◌, ◌≡◌, ◌≤ℤ◌, ◌≤◌, ◌⊎◌, Bool, IfSome, List}
use Std.{MatchBool-at_false, None, Option, Some, [], and_parts, ap, arith, cases_lt, false, inl, inr, ints, le-ltb}
use Std.{leb-true, nat_le, nat_lt, negsuc, not, option_and_then, option_map, option_map_or, pos, refl, subst, suc, sym}
use Std.{true, unsigned_abs, zero, ℕ, ℤ}
use Rattle.run_law.proofs.control.Verdicts.{by_schedule}
use Rattle.run_law.specs.declared.note.NoteBody.TheVariants as notes
use Rattle.run_law.specs.declared.steps.Ripe.TheVariants as ripe

-- ---- what each instant of a block brings, from what frames are heard: laws of frames

-- what is known of the frames that are heard
pub record FramesGoSo : Type 1 where
  pub hearings : HearingsAreOfFrames
  pub timely : HeardFramesAreTimely
  pub three : ThreeHaveGood
  pub dispatched : EmissionsAreOfDispatches
  pub bases : BasesAreInHulls
  pub in_blocks : HeardInTheirBlocks

-- the earlier instants of the block went so
abbrev pub WentSo : (v : View) (n : ℕ) → Stands v n → ℕ → Type 0
WentSo v n before t = (u : ℕ) → before.next ≤ u → u < t → BlockGoesSo v n before.next u before.hull

-- ---- dispatches so far

module _ (v : View) (n t : ℕ) (before : Stands v n) (went : WentSo v n before t) where
  -- a dispatch before the instant is of a cycle up to the block's and lies in its hull
  pub known_dispatch : (h : Happening) (device : DeviceId) (cycle : ℕ) → IsDispatch v h device cycle → time_of h < t
      → (cycle ≤ suc n) × IsInHull v cycle (time_of h)
  known_dispatch h device cycle dispatch lt =
      elim (cases_lt (time_of h) before.next) [
        | inl early ↦ (let r = before.dispatches h device cycle dispatch early in (omega (arith, r.0), r.1))
        | inr late ↦
            let so = (went (time_of h) late lt).dispatches h device cycle dispatch refl in
            (omega (arith, so.of_cycle), rw so.of_cycle so.inside)
      ]

  pub tidy : IsTidyBefore v t
  tidy h device cycle dispatch lt = (known_dispatch h device cycle dispatch lt).1

-- a device that has the time has had it since its clock was set
pub had_time : {v : View} {device : DeviceId} (u : ℕ) {t : ℕ} → IsView v → u ≤ t
    → epoch_time (earlier t v.records) device <ℤ pos u → HasTimeAt v device t → HasTimeAt v device u
had_time {v} {device} u {t} is le old has =
    record { good = has.good; timed = time_stays v device u t is le old has.timed }

-- ---- the records before

-- the records before corrections at a time are all up to it that come earlier
pub up_to_then : {v : View} {t : ℕ} {front : List Happening} → AreBeforeCorrections v t front → AreUpTo v t front
up_to_then split = grind (arith, earlier_before, in_left)

-- what comes earlier is among them
pub in_part : {v : View} {t : ℕ} {front : List Happening} (h : Happening) → AreBeforeCorrections v t front
    → IsIn h v.records → time_of h < t → IsIn h front
in_part {front} h split i lt = elim (in_parts h front split.rest (subst (IsIn h) split.whole i)) [
  | inl f ↦ f
  | inr r ↦ (let wrong = split.later h r in absurd (omega arith))
]

-- so are those by which a frame is judged that becomes permanent
pub judged_up_to : {v : View} {h : Happening} → IsView v
    → (found : IsFoundedAt v.scenario v.records h) (device : DeviceId) (link : LinkId) (cause : ℕ) (frame : Pcf)
    (at : Units) → AreUpTo v (time_of h) (before_permanence found.front device (time_of h) link cause frame at)
judged_up_to {h} is found device link cause frame at =
    let all = up_to_then (before_of is found) in
    let keeps = λ (x : Happening). is_before (place_of x) (time_of h ∷ 3 ∷ device.0 ∷ amount at ∷ frame.members.0 ∷ link.0 ∷ cause ∷ []) in
    record {
      all = earlier_judge found.front (time_of h) device link cause frame at ∙ all.all;
      there = λ x i. all.there x (in_filter keeps found.front x i);
      to = λ x i. all.to x (in_filter keeps found.front x i);
    }

-- how a device judges a frame that is at this point at q, given records
abbrev pub judged_at : Scenario → DeviceId → List Happening → ℕ → ℤ → ℕ → Members → Judgement
judged_at s device hs q point cycle members =
    heard_as (plan_of s.network device) (observation_window s.network) (state_at_hearing s hs device q) (adjustment_at_hearing s hs device q).0 point
    cycle members

-- ---- the points that records show

-- a point to which a good device comes, and at which it does not only clear
pub record HasPoint (v : View) (t : ℕ) (device : DeviceId) (cycle : ℕ) (verdict : Verdict) : Type 0 where
  pub has : HasTimeAt v device t
  pub comes : ComesTo v t device cycle verdict
  pub not_cleared : verdict ≡ Cleared → ⊥

-- the device's clock was set before the block then, and the point is that of the block
pub old_point : {v : View} {n next t : ℕ} {before : Hull} {device : DeviceId} {cycle : ℕ} {verdict : Verdict}
    → BlockGoesSo v n next t before → HasPoint v t device cycle verdict
    → IsOldAt v next device t × IsPointOf v n t before cycle
old_point {device} {cycle} {verdict} so p =
    let old = so.old_alone device cycle verdict p.has p.comes p.not_cleared in
    (old, so.points device cycle verdict p.has old p.comes)

-- what a record comes of is such a point
point_of_record : {v : View} {device : DeviceId} {h : Happening} {cycle : ℕ} {verdict : Verdict} → IsView v
    → IsGood v device → (found : IsFoundedAt v.scenario v.records h)
    → ComesToCorrection v.scenario found.front device (time_of h) cycle verdict → (verdict ≡ Cleared → ⊥)
    → HasPoint v (time_of h) device cycle verdict
point_of_record is good found point not_cleared =
    let split = before_of is found in
    record {
      has = record { good = good; timed = point_timed split point };
      comes = record { front = found.front; split = split; point = point };
      not_cleared = not_cleared;
    }

-- a correction of the device, with its point
pub record HasCorrected (v : View) (device : DeviceId) (h : Happening) : Type 0 where
  pub cycle : ℕ
  pub by : Units
  pub adjustment : Units
  pub is : h.note.body ≡ notes.Corrected device cycle by adjustment
  pub point : HasPoint v (time_of h) device cycle (Corrected by)
  pub sum : adjustment.0 ≡ (adjustment_left v device (time_of h) +ℤ by.0)

pub has_corrected : {v : View} (device : DeviceId) (h : Happening) → IsView v → IsGood v device → IsIn h v.records
    → changes_adjustment device h.note.body ≡ true → is_correction h.note.body ≡ true → HasCorrected v device h
has_corrected {v} device h is good i changes corrected =
    let found = founded_at v.scenario v.records h is.run.founded i in
    let c = of_body h.note.body changes corrected in
    let cause = subst (IsCaused v.scenario found.front h.note.time) c.3 found.due.cause in
    let left = ap (λ a. a.0) (same_adjustment device (before_of is found)) in
    record {
      cycle = c.0;
      by = c.1;
      adjustment = c.2;
      is = c.3;
      point = point_of_record is good found cause.corrected (λ z. cc);
      sum = cause.sum ∙ ap (λ z. z +ℤ c.1.0) left;
    }
  where
    of_body : (body : NoteBody) → changes_adjustment device body ≡ true → is_correction body ≡ true → (cycle : ℕ) × (by : Units) × (adjustment : Units)
        × (body ≡ notes.Corrected device cycle by adjustment)
    of_body (notes.Corrected other cycle by adjustment) changes e =
        (cycle, by, adjustment, rw (same_device device other changes))
    of_body body changes e = absurd cc

-- the loss of the common time, with its point
pub record HasLost (v : View) (device : DeviceId) (h : Happening) : Type 0 where
  pub cycle : ℕ
  pub verdict : Verdict
  pub point : HasPoint v (time_of h) device cycle verdict
  pub not_corrected : (by : Units) → verdict ≡ Corrected by → ⊥

pub has_lost : {v : View} (device : DeviceId) (h : Happening) (state : State) (cause : ℕ) (why : Why) → IsView v
    → IsGood v device → IsIn h v.records → h.note.body ≡ notes.State device state cause why → IsClique why
    → HasLost v device h
has_lost {v} device h state cause why is good i body clique =
    let found = founded_at v.scenario v.records h is.run.founded i in
    let c = clique_point v.scenario found.front (time_of h) device state cause why clique (subst (IsCaused v.scenario found.front h.note.time) body
    found.due.cause) in
    record {
      cycle = c.cycle;
      verdict = c.verdict;
      point = point_of_record is good found c.point c.not_cleared;
      not_corrected = c.not_corrected;
    }

-- ---- corrections of earlier cycles

-- the hull of a cycle up to the standing one is narrow
pub narrow_at : {v : View} {n : ℕ} (c : ℕ) (before : Stands v n) (hull : Hull) → c ≤ n → hull_of v c ≡ Some hull
    → IsNarrow v.sizes hull
narrow_at {v} c before hull le is =
    let there = before.narrow c le in
    subst (IsNarrow v.sizes) (same_some (hull_of v c) there.0 hull there.1 is) there.2

-- the first corrections of cycles go on
pub corrections_go_on : {v : View} {n : ℕ} (k more : ℕ) (before : Stands v n) (w x : Hull) → IsView v → k + more ≤ n
    → hull_of v k ≡ Some w → hull_of v (k + more) ≡ Some x → first_correction v.sizes w ≤ℤ first_correction v.sizes x
corrections_go_on {v} k zero before w x is le at_w at_x =
    let same : k + zero ≡ k = omega arith in
    let here = rw same at at_x in
    omega (arith, ints, ap (λ y. y.least) (same_some (hull_of v k) w x at_w here))
corrections_go_on {v} k (suc more) before w x is le at_w at_x =
    let there = before.narrow (k + more) (omega arith) in
    let step : k + suc more ≡ suc (k + more) = omega arith in
    let at : hull_of v (suc (k + more)) ≡ Some x = rw step at at_x in
    let order = instants_are_in_order v.sizes there.0 x (room is) there.2
    (follows_before (k + more) there.0 x is there.1 at) in
    omega (arith, ints, corrections_go_on k more before w there.0 is (omega arith) at_w there.1, order.next_later)

-- a block begins before an old clock comes to the correction point of its cycle
pub early_show : {v : View} (n : ℕ) (before : Stands v n) → IsView v
    → pos before.next ≤ℤ (before.hull.least +ℤ pos (v.sizes.correction + v.sizes.spread + 3 * v.sizes.reach + 1))
early_show {v} zero before is =
    let same = same_some (hull_of v zero) (start_hull v.sizes) before.hull refl before.is_hull in
    omega (arith, ints, before.is_over, ap (λ w. w.least) same, (room is).errors.spread_is)
early_show {v} (suc c) before is =
    let one = before.narrow c (omega arith) in
    let order = instants_are_in_order v.sizes one.0 before.hull (room is) one.2
    (follows_before c one.0 before.hull is one.1 before.is_hull) in
    omega (arith, ints, block_ends v c before.next one.0 one.1 before.is_over, order.last_not_late)

-- it begins before the dispatches of its cycle
pub next_first : {v : View} {n : ℕ} (before : Stands v n) → IsView v
    → pos before.next ≤ℤ first_dispatch v.sizes before.hull
next_first {n} before is = omega (arith, ints, early_show n before is, room is)

-- the time lies behind the first corrections of the earlier cycles
abbrev pub IsLate : View → ℕ → ℕ → Type 0
IsLate v n q = (k : ℕ) (w : Hull) → suc k ≤ n → hull_of v k ≡ Some w → first_correction v.sizes w ≤ℤ pos q

-- what comes behind the beginning of the block is late
pub late_from : {v : View} (n q : ℕ) (before : Stands v n) → IsView v → before.next ≤ q → IsLate v n q
late_from zero q before is le k w few at = absurd (omega arith)
late_from {v} (suc c) q before is le k w few at =
    let there = before.narrow c (omega arith) in
    let gap : k + (c - k) ≡ c = omega arith in
    let low = corrections_go_on k (c - k) before w _ is
    (omega arith) at (subst (λ x. hull_of v x ≡ Some there.0) (sym gap) there.1) in
    let order = instants_are_in_order v.sizes there.0 before.hull (room is) there.2
    (follows_before c there.0 before.hull is there.1 before.is_hull) in
    omega (arith, ints, block_ends v c before.next there.0 there.1 before.is_over, order.corrections)

-- ---- a frame of the block

-- the members of the frame that the record brings
abbrev pub members_by : Happening → Members
members_by h = record { 0 = members_in h }

-- the record by which a compression master of the channel sends a frame of the cycle behind n with a good member
pub record IsSentOn (v : View) (n : ℕ) (channel : Channel) (members : Members) (h : Happening) : Type 0 where
  pub cm : DeviceId
  pub emission : IsEmission v h cm (suc n) members
  pub of_channel : channel_of v.scenario.network cm ≡ Some channel
  pub good : HasGood v members

-- what the device heard by the record is a frame of the block's cycle that was sent so, and comes in time
pub record IsGoodHearing (v : View) (n : ℕ) (before : Stands v n) (device : DeviceId) (channel : Channel) (point : ℤ) (h : Happening) : Type 0 where
  pub of_cycle : cycle_in h ≡ suc n
  pub emission : Happening
  pub sent : IsSentOn v n channel (members_by h) emission
  pub in_order : time_of emission ≤ time_of h
  pub timely : IsTimely v.sizes (v.scenario.reading device) (base_of v.sizes (time_of emission)) (time_of h) point (expected_by v.scenario.network device)
  pub hull : Hull
  pub is_hull : hull_of v (suc n) ≡ Some hull
  pub not_early : hull.least ≤ℤ pos (time_of h)
  pub not_late : pos (time_of h) <ℤ first_correction v.sizes before.hull

module _ (laws : FramesGoSo) (v : View) (n t : ℕ) (before : Stands v n) (is : IsView v) (went : WentSo v n before t) (device : DeviceId) (channel : Channel)
    (point : ℤ) (h : Happening) (le : time_of h ≤ t) where
  -- what a device hears late, of a frame with a good member, is such
  pub good_hearing : (judgement : Judgement) → IsOfHearer judgement → HearsBy v device channel point judgement h → IsLate v n (time_of h)
      → ((e : Happening) (cm : DeviceId) → IsEmission v e cm (cycle_in h) (members_by h) → HasGood v (members_by h))
      → IsGoodHearing v n before device channel point h
  good_hearing judgement hearer hears late has_good =
      let heard = laws.hearings v device channel point judgement h is hearer hears in
      let emission = heard.0 in
      let expected = expected_by v.scenario.network device in
      let good = has_good emission heard.1.cm heard.1.emission in
      let sent = laws.dispatched v emission heard.1.cm (cycle_in h) (members_by h) is heard.1.emission good in
      let known = known_dispatch v n t before went sent.first sent.master (cycle_in h) sent.dispatch
      (omega (arith, sent.before, heard.2)) in
      let block = laws.in_blocks v device channel (cycle_in h) (members_by h) emission (time_of h) point expected is
      (λ g d c dispatch lt. tidy v n t before went g d c dispatch (omega (arith, heard.2))) good
      (λ c same hull at. narrow_at c before hull (omega (arith, known.0)) at) heard.1 in
      let same : cycle_in h ≡ suc n = elim (cases_lt block.follows n) [
        | inl lt ↦ (let after = late block.follows block.before (omega arith) block.is_before in
            absurd (omega (arith, ints, block.not_late)))
        | inr ge ↦ omega (arith, block.is_next, known.0)
      ] in
      let follows : block.follows ≡ n = omega (arith, block.is_next) in
      let hull_n = rw follows at block.is_before in
      record {
        of_cycle = same;
        emission = emission;
        sent = record {
          cm = heard.1.cm;
          emission = rw same at heard.1.emission;
          of_channel = heard.1.of_channel;
          good = good;
        };
        in_order = heard.2;
        timely = laws.timely v device channel (cycle_in h) (members_by h) emission (time_of h) point expected is heard.1;
        hull = block.hull;
        is_hull = subst (λ c. hull_of v c ≡ Some block.hull) same block.is_hull;
        not_early = block.not_early;
        not_late = rw (same_some _ _ _ hull_n before.is_hull) at block.not_late;
      }

  -- the base of one of three members, or of good ones alone, lies in the hull
  pub near_hull : (g : IsGoodHearing v n before device channel point h) → (3 ≤ count_of (members_by h)) ⊎ AreGood v (members_by h)
      → IsNearHull v.sizes g.hull (base_of v.sizes (time_of g.emission))
  near_hull g enough =
      let base = laws.bases v g.emission g.sent.cm (suc n) (members_by h) is g.sent.emission
      (λ x d c dispatch early. tidy v n t before went x d c dispatch (omega (arith, g.in_order))) enough in
      rw (sym (same_some _ _ _ base.is g.is_hull)) (record { least = base.least; most = base.most })

-- ---- how a frame tells a device the time: channels

-- a link that has a receiver is there
link_of_receiver : (n : Network) (o : Option Link) (f : Link → DeviceId) (device : DeviceId) → option_map f o ≡ Some device → (l : Link) × (o ≡ Some l)
link_of_receiver n None f device e = absurd cc
link_of_receiver n (Some l) f device e = (l, refl)

-- a link that is there is of a channel
pub link_channel : {v : View} (link : LinkId) (l : Link) → IsView v → link_at v.scenario.network link ≡ Some l
    → (channel : Channel) × (channel_of_link v.scenario.network link ≡ Some channel)
link_channel {v} link l is at =
    let n = v.scenario.network in
    let joint = is.lawful.rules Joints link.0 l at in
    let switch = opened (λ d. d.channel ≡ Some joint.0) (device_at n l.parent) joint.1 in (
      joint.0,
      rw at (ap (λ o. option_and_then (λ d. d.channel) o)
          switch.1 ∙ switch.2),
    )

cm_not_end : (role : Role) → is_cm_role role ≡ true → is_end_system role ≡ false
cm_not_end Cm e = refl
cm_not_end role e = absurd cc

-- a compression master is of a channel
pub cm_channel : {v : View} (device : DeviceId) → IsView v → is_cm v.scenario.network device ≡ true
    → (channel : Channel) × (channel_of v.scenario.network device ≡ Some channel)
cm_channel {v} device is cm =
    let d = device_of is_cm_role (device_at v.scenario.network device) cm in
    let known = all_at IsDeviceInRange v.scenario.network.device device.0 d.0 is.lawful.range.devices d.1 in
    let some = some_of d.0.channel (known.switches ∙ ap not (cm_not_end d.0.role d.2)) in
    (some.0, ap (λ o. option_and_then (λ x. x.channel) o) d.1 ∙ some.1)

-- ---- what is heard so

-- a device that hears a frame so looks for the time, and the frame has enough members
pub record IsEnough (plan : SyncPlan) (state : State) (members : Members) : Type 0 where
  pub looks : state ≡ Integrating
  pub enough : plan.threshold ≤ count_of members

enough_by : (b : Bool) → heard_enough b ≡ Integrates → b ≡ true
enough_by true e = refl
enough_by false e = absurd cc

pub integrates_by : (plan : SyncPlan) (precision : ℤ) (state : State) (adjustment point : ℤ) (cycle : ℕ) (members : Members)
    → heard_as plan precision state adjustment point cycle members ≡ Integrates → IsEnough plan state members
integrates_by plan precision Off adjustment point cycle members e = absurd cc
integrates_by plan precision Integrating adjustment point cycle members e =
    let both = and_parts (nat_le plan.threshold (count_of members)) (nat_le cycle last_cycle) (enough_by _ e) in
    record { looks = refl; enough = leb-true plan.threshold (count_of members) both.0 }
integrates_by plan precision state adjustment point cycle members e = absurd (by_schedule _ e)

-- what becomes permanent so is heard by another device than a compression master
pub ripe_integrates : (n : Network) (device : DeviceId) (state : State) (adjustment : ℤ) (points : List Point) (frame : Pcf) (point : ℤ)
    → IsPermanenceOutcome n device state adjustment points frame point ripe.Integrates → (is_cm n device ≡ false)
    × IsEnough (plan_of n device) state frame.members
ripe_integrates n device state adjustment points frame point so =
    let other = hearer_not_cm n device state adjustment points frame point Integrates tt so in
    let same = sym (same_judgement Integrates _ (MatchBool-at_false _ _ other so)) in
    (other, integrates_by (plan_of n device) (observation_window n) state adjustment point frame.cycle frame.members same)

-- ---- the record of a joining

-- what a joining says
pub record Joins (v : View) (h : Happening) (device : DeviceId) : Type 0 where
  pub channel : Channel
  pub point : ℤ
  pub hears : HearsBy v device channel point Integrates h
  pub enough : v.scenario.network.sync_threshold ≤ count_of (record { 0 = members_in h })
  pub sets : (old : Units)
      → (adjustment_with v.scenario device (cycle_in h) old h.note.body).0 ≡ (expected_at (plan_of v.scenario.network device) (cycle_in h) -ℤ point)

-- an arrival by a link that is there
pub arrival_link : (v : View) {hs : List Happening} {t : ℕ} {device : DeviceId} {link : LinkId} {cause clock : ℕ}
    → IsArrivedRecord v.scenario hs device t link cause clock
    → (l : Link) × (link_at v.scenario.network link ≡ Some l)
arrival_link v {device} {link} a = elim a.taken [
  | inl waits ↦ link_of_receiver v.scenario.network (link_at v.scenario.network link) (target_by waits.arrives.way) device waits.arrives.receiver
  | inr (inl passes) ↦ link_of_receiver v.scenario.network (link_at v.scenario.network link) (target_by passes.arrives.way) device passes.arrives.receiver
  | inr (inr both) ↦ link_of_receiver v.scenario.network (link_at v.scenario.network link) (target_by both.arrives.way) device both.arrives.receiver
]

pub joins : {v : View} (h : Happening) (device : DeviceId) → IsView v → IsIn h v.records
    → is_joined_by device h.note.body ≡ true → Joins v h device
joins {v} h device is i joins_it =
    by h.note.body refl (ap (λ x. x.frame) at.due.same) at.due.cause joins_it
  where
    at : IsFoundedAt v.scenario v.records h
    at = founded_at v.scenario v.records h is.run.founded i

    by : (body : NoteBody) → h.note.body ≡ body → h.frame ≡ frame_by v.scenario.network at.front body → IsCaused v.scenario at.front h.note.time body
        → is_joined_by device body ≡ true → Joins v h device
    by (notes.Permanent other link cause point Integrates) same framed caused joined =
        let p = caused.permanent in
        let came = founded_at v.scenario at.front p.arrival at.founded (numbered_in at.front cause p.arrival p.there) in
        let l = arrival_link v
        (subst (IsCaused v.scenario came.front p.arrival.note.time) p.arrived came.due.cause) in
        let channel = link_channel link l.0 is l.1 in
        let of_frame = framed ∙ ap (λ o. option_and_then (λ x. x.frame) o) p.there ∙ p.of_frame in
        let ripe_so = ripe_integrates v.scenario.network other _ _ _ caused.frame point.0 caused.becomes in
        let members : caused.frame.members.0 ≡ members_in h =
        ap (λ o. option_map_or (λ f. f.members.0) o 0) (sym of_frame) in
        let body_is = same ∙ ap (λ d. notes.Permanent d link cause point Integrates)
        (same_device device other joined) in
        record {
          channel = channel.0;
          point = point.0;
          hears = record { there = i; how = inl (link, cause, point, body_is, channel.1, refl) };
          enough = rw members at ripe_so.1.enough;
          sets = λ old. rw same (rw joined refl);
        }
    by (notes.Compressed other opened point cycle members Integrates) same framed caused joined =
        let n = v.scenario.network in
        let one = same_device device other joined in
        let channel = cm_channel other is caused.cm in
        let enough = integrates_by (plan_of n other) (observation_window n) _ _ point.0 cycle members (sym caused.heard) in
        let of_members : members.0 ≡ members_in h = ap (λ o. option_map_or (λ f. f.members.0) o 0) (sym framed) in
        let of_cycle : cycle ≡ cycle_in h = ap (λ o. option_map_or (λ f. f.cycle) o 0) (sym framed) in
        let body_is = same ∙ ap (λ d. notes.Compressed d opened point cycle members Integrates) one in
        record {
          channel = channel.0;
          point = point.0;
          hears = record {
            there = i;
            how = inr (opened, point, cycle, members, body_is, rw (sym one) channel.1, refl);
          };
          enough = rw of_members at enough.enough;
          sets =
              λ old. rw same
              (rw joined (rw of_cycle));
        }
    by body same framed caused joined = absurd cc

-- ---- what is expected

times_pos : (n : ℕ) (z : ℤ) → pos 0 ≤ℤ z → (pos n *ℤ z) ≡ pos (n * unsigned_abs z)
times_pos n (pos m) le = refl
times_pos n (negsuc m) le = absurd (omega (arith, ints))

-- the value at which a device expects a frame
pub expected_is : {v : View} (device : DeviceId) (cycle : ℕ) (point : ℤ) → IsView v
    → (expected_at (plan_of v.scenario.network device) cycle -ℤ point)
    ≡ setting v.sizes cycle (expected_by v.scenario.network device) point
expected_is {v} device cycle point is =
    let n = v.scenario.network in
    omega (
      arith,
      ints,
      times_pos cycle n.cycle.0 (omega (arith, ints, is.lawful.range.cycle.least)),
      ap
          (λ x. cycle * x) (sizes_are is).cycle,
    )

-- a device expects frames well behind the beginning of their cycle
pub expected_late : {v : View} (device : DeviceId) → IsView v
    → v.sizes.dmax + v.sizes.compression ≤ expected_by v.scenario.network device
expected_late device is = grind (arith, is_cm, amount, compression_time, sizes_are)

-- ---- at the beginning the network stands as it should

-- before time 0 there is no record
pub none_at_start : (hs : List Happening) → earlier 0 hs ≡ []
none_at_start hs = none_kept (λ h. nat_lt (time_of h) 0) hs (λ h i. le-ltb (time_of h) 0 (omega arith))

-- ---- starts

-- a device whose state is timed at the start begins with a start
pub has_start : (start : Option Units) → has_time (state_at_start start) ≡ true → (u : Units) × (start ≡ Some u)
has_start None e = absurd cc
has_start (Some u) e = (u, refl)

if_some : {X : Type 0} (P : X → Type 0) (o : Option X) (x : X) → o ≡ Some x → IfSome o P → P x
if_some {X} P o x e h = rw e at h

-- a start is from 0 to settled
pub record IsStart (v : View) (u : Units) : Type 0 where
  pub least : pos 0 ≤ℤ u.0
  pub most : u.0 ≤ℤ pos v.sizes.settled

pub start_is : {v : View} (device : DeviceId) (u : Units) → IsView v → start_of v.scenario.network device ≡ Some u
    → IsStart v u
start_is {v} device u is e =
    let n = v.scenario.network in
    let from = reached (λ d. d.start) (device_at n device) u e in
    let known = all_at IsDeviceInRange n.device device.0 from.0 is.lawful.range.devices from.1 in
    let within = if_some (IsWithin 0 (2 ^ 40)) from.0.start u from.2 known.start in
    let settled = all_at (λ d. IfSome d.start (λ start. start.0 ≤ℤ n.settled.0)) n.device device.0 from.0 ((is.lawful.rules Masters 4).starts refl) from.1 in
    let small = if_some (λ start. start.0 ≤ℤ n.settled.0) from.0.start u from.2 settled in
    record { least = within.least; most = omega (arith, ints, (sizes_are is).settled, within.least) }

-- ---- the beginning

set_at_start : {v : View} {device : DeviceId} → IsView v → HasTimeAt v device 0
    → IsSetFor v 0 (start_hull v.sizes) 0 device
set_at_start {v} {device} is has =
    let none = none_at_start v.records in
    let timed = rw none at has.timed in
    let start = has_start (start_of v.scenario.network device) timed in
    let known = start_is device start.0 is start.1 in
    let same = ap (λ hs. adjustment_after v.scenario hs device) none ∙ ap adjustment_at_start start.1 in
    let anchored = starts_are_set v.sizes (v.scenario.reading device) start.0.0 (room is) (steady v is device)
    known.least known.most in
    record {
      index = rw none;
      set_at = 0;
      not_before = omega (arith, ints);
      not_behind = omega arith;
      since = omega arith;
      anchored = rw (sym same) at anchored;
    }

pub stands_at_start : StandsAtStart
stands_at_start v is =
    let space = room is in
    record {
      next = 0;
      is_over = refl;
      in_run = omega arith;
      hull = start_hull v.sizes;
      is_hull = refl;
      narrow = λ c le. rw (sym (let e : 0 ≡ c = omega (arith, le) in e))
          (start_hull v.sizes, refl, omega (arith, ints, space.errors.spread_is));
      dispatches = λ h device cycle dispatch lt. absurd (omega arith);
      clocks = λ device has. set_at_start is has;
      points = λ before c e. absurd (omega arith);
      shared = λ le. absurd (omega arith);
      joined = λ h device i joined good lt. absurd (omega arith);
      kept = λ h device state cause why i lt. absurd (omega arith);
    }
