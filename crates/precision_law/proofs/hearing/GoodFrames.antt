-- The frames that a device hears in a block, how it judges them, and those of the sound channel.
use Rattle.net_plan.proofs.SameIds.{same_device}
use Rattle.precision_law.proofs.{block.Onward.never_joined, faults.Turned.timed_not_off, hearing.Timely.of_channel_is}
use Rattle.precision_law.proofs.{trips.{Gates.are_open_on, SoundChannel.frames_go_down}}
use Rattle.precision_law.proofs.words.Blocks
use Blocks.{AreUpTo, EndsSo, FramesGoSo, IsGoodHearing, IsSentOn, WentSo, before_narrow, cleared_from, cm_of}
use Blocks.{earlier_in_block, emission_is_one, ends_so, expected_is, few_cycles, follows_before, had_cleared, had_time}
use Blocks.{hears_as_at, hulls_are_narrow, in_part, judged_at, judged_up_to, members_by, near_hull, next_first}
use Blocks.{not_turned_on_then, old_number, old_shows, one_cm, sets_none, tidy, up_to_then}
use Rattle.precision_law.proofs.words.Clocks
use Clocks.{AreSorted, IsRipeArrival, IsRipeRecord, PartsAtLast, after_last_at, after_last_none, all_of, before_of}
use Clocks.{before_place, child_not_parent, cm_is_no_end, device_of, earlier_before, emission_shows, frames_come_first}
use Clocks.{hearer_not_cm, in_kept, in_order, is_heard_of, made_in, next_cycle_is_of_last, none, one_more}
use Clocks.{parts_at_last, place_of_ripe, receiver_down, room, same_cleared, same_next, settings_stay, sizes_are, some}
use Clocks.{sorted_parts, time_stays}
use Rattle.precision_law.proofs.words.Laws
use Laws.{AreBeforeCorrections, AreGood, BlocksGoSo, HasTimeAt, HearsBy, Hull, IsBrought, IsEmission, IsFirm, IsGood}
use Laws.{IsInBlock, IsNearHull, IsOfHearer, IsOldAt, IsTrip, IsView, IsWholeFrom, Leg, Stands, View, base_of}
use Laws.{cycle_set, epoch_time, first_correction, first_dispatch, has_time, hull_of, is_correction, last_setting}
use Laws.{next_of, state_left}
use Rattle.precision_law.proofs.words.Plans
use Plans.{Channel, Cm, Device, DeviceId, Down, Hearing, IsAtIntegration, IsCmOf, IsDeviceOf, Joining, LinkId, Members}
use Plans.{Pcf, State, SyncPlan, Synchronised, Units, count_of, device_at, expected_at, int_le-true, is_end_system}
use Plans.{opened}
use Rattle.precision_law.proofs.words.Runs
use Runs.{Happening, IsCaused, IsDue, IsIn, IsSplit, Judgement, Within, adjustment_at_hearing, before_permanence}
use Runs.{changes_adjustment, channel_of, channel_of_link, cycle_in, earlier, founded_at, frame_by, has_cleared}
use Runs.{heard_as, heard_by, heard_by_schedule, heard_since, hearing_by, in_parts, in_right, is_cm, is_cm_role}
use Runs.{is_integration_cycle, is_off, is_parent_of, is_relay, last_cycle, members_in, observation_window, place_of}
use Runs.{plan_of, recorded_cycle, same_judgement, split, standing_before, state_before, time_of}
use Rattle.precision_law.proofs.words.Std
use Std.{if◌then◌else◌, ◌&&◌, ◌++◌, ◌+ℤ◌, ◌+◌, ◌-ℤ◌, ◌<ℤ◌, ◌<◌, ◌==◌, ◌||◌, ◌∙◌, ◌∷◌, ◌≡◌, ◌≤ℤ◌, ◌≤◌, ◌⊎◌, Bool, List}
use Std.{MatchBool-at_false, None, Option, Some, [], after_last, and_parts, ap, append_assoc, arith, both_ways}
use Std.{cases_Bool, cases_eq, eq-eqb, false, false_from_ne_true, filter, inl, inr, ints, le-leb, ltb-true, nat_le}
use Std.{nat_lt, not, option_and_then, option_map, option_map_or, pos, refl, subst, suc, sym, true, unsigned_abs, ℕ, ℤ}
use Rattle.run_law.specs.declared.note.NoteBody.TheVariants as notes

-- ---- how a device judges what it hears, and the frames with a good member that it hears in a block: judgements

-- the record has this judgement by records up to its time
record IsJudgedAs (v : View) (device : DeviceId) (h : Happening) (point : ℤ) (judgement : Judgement) : Type 0 where
  pub judged : List Happening
  pub up_to : AreUpTo v (time_of h) judged
  pub members : Members
  pub is : judgement ≡ judged_at v.scenario device judged (time_of h) point (cycle_in h) members

-- a device judges what it hears by the records before
judged_as : {v : View} {device : DeviceId} {channel : Channel} {point : ℤ} {judgement : Judgement} {h : Happening}
    → IsView v → IsOfHearer judgement → HearsBy v device channel point judgement h
    → IsJudgedAs v device h point judgement
judged_as {v} {device} {judgement} {h} is hearer hears =
    let s = v.scenario in
    let n = s.network in
    let found = founded_at s v.records h is.run.founded hears.there in
    elim hears.how [
      | inl far ↦
          let at = far.2 in
          let ripens = subst (IsCaused s found.front h.note.time) far.3 found.due.cause in
          let judged = before_permanence found.front device (time_of h) far.0 far.1 ripens.frame at in
          let other = hearer_not_cm n device _ _ _ ripens.frame at.0 judgement hearer ripens.becomes in
          let said = same_judgement judgement _ (MatchBool-at_false _ _ other ripens.becomes) in
          let of_frame : h.frame ≡ Some ripens.frame = ap (λ (x : Happening). x.frame) found.due.same ∙ ap (frame_by n found.front) far.3
          ∙ ap (λ (o : Option Happening). option_and_then (λ x. x.frame) o) ripens.permanent.there ∙ ripens.permanent.of_frame in
          let cycle : ripens.frame.cycle ≡ cycle_in h = ap (λ (o : Option Pcf). option_map_or (λ f. f.cycle) o 0) (sym of_frame) in
          record {
            judged = judged;
            up_to = judged_up_to is found device far.0 far.1 ripens.frame at;
            members = ripens.frame.members;
            is = cc (said, far.5, cycle);
          }
      | inr own ↦
          let shown = emission_shows h device own.0 own.1 own.2 own.3 judgement is hears.there own.4 in
          let said = (subst (IsCaused s found.front h.note.time) own.4 found.due.cause).heard in
          record {
            judged = found.front;
            up_to = up_to_then (before_of is found);
            members = own.3;
            is = cc (said, own.6, shown.0);
          }
    ]

-- who has a common time hears it so
heard_as_within : (plan : SyncPlan) (precision : ℤ) (state : State) (adjustment point : ℤ) (cycle : ℕ) (members : Members) → has_time state ≡ true
    → nat_le cycle last_cycle ≡ true → (expected_at plan cycle -ℤ precision) ≤ℤ (point +ℤ adjustment)
    → (point +ℤ adjustment) ≤ℤ (expected_at plan cycle +ℤ precision) → heard_as plan precision state adjustment point cycle members ≡ Within
heard_as_within plan precision Joining adjustment point cycle members timed few low high = rw (few, int_le-true _ _ low, int_le-true _ _ high) refl
heard_as_within plan precision Synchronised adjustment point cycle members timed few low high = rw (few, int_le-true _ _ low, int_le-true _ _ high) refl
heard_as_within plan precision state adjustment point cycle members timed few low high = absurd cc

-- ---- hearings

if_same : {X : Type 0} (n : ℕ) (x y : X) → (if n == n then x else y) ≡ x
if_same n x y = ap (λ b. if b then x else y) (eq-eqb n n refl)

-- a frame that was heard within its time is a hearing
pub heard_within_by : {v : View} {device : DeviceId} {channel : Channel} {point : ℤ} {h : Happening}
    → HearsBy v device channel point Within h → (at : Units)
    × (hearing_by v.scenario.network device h h.note.body ≡ Some (heard_by channel h at true))
heard_within_by hears = grind (arith, hearing_by, if_same, option_map, heard_by)

-- ---- old devices at their points

-- a device whose clock was set before the block comes to the instants of the block's corrections
pub record IsAtPoint (v : View) (n t : ℕ) (block : IsInBlock v n t) (device : DeviceId) : Type 0 where
  pub has : HasTimeAt v device t
  pub old : IsOldAt v block.before.next device t
  pub late : (first_correction v.sizes block.before.hull +ℤ pos v.sizes.reach) ≤ℤ pos t

-- what is heard before the first correction is heard before the point
pub sooner : {v : View} {n t : ℕ} {block : IsInBlock v n t} {device : DeviceId} (q : ℕ)
    → IsAtPoint v n t block device → pos q <ℤ first_correction v.sizes block.before.hull → q < t
sooner q at lt = omega (arith, ints, at.late)

-- ---- one frame a channel

-- who sends one is the compression master of the channel
sender_is : {v : View} {n : ℕ} {channel : Channel} {members : Members} {h : Happening} → IsView v
    → (x : IsSentOn v n channel members h) → IsCmOf v.scenario.network channel x.cm
sender_is {v} {channel} {h} is x =
    let at = founded_at v.scenario v.records h is.run.founded x.emission.there in
    cm_of v x.cm channel (subst (IsCaused v.scenario at.front h.note.time) x.emission.is at.due.cause).cm x.of_channel

module _ (goes : BlocksGoSo) (v : View) (n t : ℕ) (block : IsInBlock v n t) (is : IsView v) where
  -- each earlier instant of the block went as it should
  pub went_so : WentSo v n block.before t
  went_so u from lt = goes v n u (earlier_in_block _ _ _ _ block from (omega arith)) is

  -- of each channel one frame is sent
  pub same_sent : (channel : Channel) (a b : Happening) (members others : Members) → IsSentOn v n channel members a → IsSentOn v n channel others b
      → time_of a < t → time_of b < t → (a ≡ b) × (members ≡ others)
  same_sent channel a b members others x y before_a before_b =
      let one = one_cm channel y.cm x.cm is (sender_is is y) (sender_is is x) in
      let e : IsEmission v b x.cm (suc n) others = rw (sym one) y.emission in
      let f = x.emission in
      let same = emission_is_one v t a b x.cm (suc n) members others is (tidy v n t block.before went_so)
      (λ hull at. hulls_are_narrow goes v n block.before hull is at) f e before_a before_b x.good y.good in
      (same, cc)

  -- an old device judges one of three members, or of good ones alone, to be within
  pub heard_within : FramesGoSo → (device : DeviceId) (channel : Channel) (point : ℤ) (judgement : Judgement) (h : Happening)
      → IsAtPoint v n t block device → time_of h < t → IsOfHearer judgement → HearsBy v device channel point judgement h
      → IsGoodHearing v n block.before device channel point h → (3 ≤ count_of (members_by h)) ⊎ AreGood v (members_by h) → judgement ≡ Within
  heard_within laws device channel point judgement h at lt hearer hears g enough =
      let s = v.scenario in
      let before = block.before in
      let q = time_of h in
      let near = near_hull laws v n t before is went_so device channel point h (omega arith) g enough in
      let j = judged_as is hearer hears in
      let follows = follows_before n before.hull g.hull is before.is_hull g.is_hull in
      let le : before.next ≤ q = omega (arith, ints, next_first before is, follows.least, g.not_early) in
      let here : IsInBlock v n q = earlier_in_block _ _ _ _ block le (omega arith) in
      let stands = hears_as_at device before.next t is j.up_to le lt at.old at.has.timed in
      let shows = old_shows here is (omega arith) at.has at.old in
      let narrow = before_narrow before in
      let space = room is in
      let more = one_more n v.sizes.cycle in
      let expected = expected_is device (suc n) point is in
      let precision = (sizes_are is).precision in
      j.is ∙ ap (λ c. judged_at s device j.judged q point c j.members) g.of_cycle
      ∙ heard_as_within (plan_of s.network device) (observation_window s.network) _ _ point (suc n) j.members stands.state
      (le-leb (suc n) last_cycle (few_cycles (suc n) _ is g.is_hull (omega (arith, ints, g.not_early, block.in_run))))
      (omega (arith, ints, g.timely)) (omega (arith, ints, g.timely))

-- ---- what an old device hears in a block it has heard since its last correction point: lists

-- an element that stands behind each of the kind stands behind the last
in_after_last : {X : Type 0} (p : X → Bool) (xs : List X) (x : X) → IsIn x xs
    → ((front rest : List X) (last : X) → xs ≡ front ++ last ∷ rest → p last ≡ true → IsIn x front ⊎ (x ≡ last) → ⊥) → IsIn x (after_last p xs)
in_after_last {X} p xs x i apart = by (parts_at_last p xs)
  where
    behind : (front rest : List X) (last : X) → xs ≡ front ++ last ∷ rest → p last ≡ true → IsIn x front ⊎ IsIn x (last ∷ rest) → IsIn x rest
    behind front rest last whole hit (inl f) = absurd (apart front rest last whole hit (inl f))
    behind front rest last whole hit (inr (inl same)) = absurd (apart front rest last whole hit (inr same))
    behind front rest last whole hit (inr (inr more)) = more

    by : PartsAtLast p xs → IsIn x (after_last p xs)
    by (none all) = subst (IsIn x) (sym (after_last_none p xs
        (all_of (λ y. not (p y) ≡ true) xs (λ y j. ap not (all y j))))) i
    by (some front rest last whole hit all) =
        let at = ap (after_last p) whole ∙ after_last_at p front last rest hit
        (all_of (λ y. not (p y) ≡ true) rest (λ y j. ap not (all y j))) in
        subst (IsIn x) (sym at) (behind front rest last whole hit (in_parts x front (last ∷ rest) (subst (IsIn x) whole i)))

kept_by : (a b : Bool) → (a ≡ true → b ≡ true) → (not a || b) ≡ true
kept_by false b keeps = refl
kept_by true b keeps = keeps refl

module _ (v : View) (n t : ℕ) (block : IsInBlock v n t) (is : IsView v) (device : DeviceId) (at : IsAtPoint v n t block device) where
  -- ---- a joiner that has cleared

  -- where an old device has cleared, it joined, and had cleared when the block began
  cleared_before : has_cleared v.scenario v.records device t t ≡ true → has_cleared v.scenario v.records device block.before.next block.before.next ≡ true
  cleared_before cleared = by (last_setting (earlier t v.records) device) refl
    where
      had : HasTimeAt v device block.before.next
      had = had_time block.before.next is block.from at.old at.has

      index : (o : Option Happening) → last_setting (earlier t v.records) device ≡ o → option_map_or (λ h. cycle_set h h.note.body) o 0 ≡ n
      index o e = rw (sym (settings_stay v device block.before.next t is block.from at.old ∙ e))
          (block.before.clocks device had).index

      number : (o : Option Happening) → last_setting (earlier t v.records) device ≡ o → next_of o ≡ n
      number o e =
          let shown = ap (λ b. if b then recorded_cycle (earlier t v.records) device + 1 else recorded_cycle
          (earlier t v.records) device) cleared in
          let own = old_number t device block.before is block.from at.has at.old in
          omega (arith, next_cycle_is_of_last (earlier t v.records) device ∙ ap next_of e)

      by : (o : Option Happening) → last_setting (earlier t v.records) device ≡ o
          → has_cleared v.scenario v.records device block.before.next block.before.next ≡ true
      by None e = absurd (omega (arith, index None e, number None e))
      by (Some h) e = elim (cases_Bool (is_correction h.note.body)) [
        | inr joined ↦ had_cleared n t block.before is block.from had at.old h e joined
        | inl corrected ↦
            let behind = ap (λ b. if b then cycle_set h h.note.body + 1 else cycle_set h h.note.body) corrected in
            absurd (omega (arith, index (Some h) e, number (Some h) e))
      ]

  -- so it has before each instant of the block
  cleared_then : (q : ℕ) → block.before.next ≤ q → has_cleared v.scenario v.records device t t ≡ true → has_cleared v.scenario v.records device t q ≡ true
  cleared_then q le cleared =
      cleared_from device block.before.next q t is le block.from at.old (and_parts (is_integration_cycle (earlier t v.records) device) _ cleared).0
      (cleared_before cleared)

  -- ---- what it has heard since its last point

  module _ (front : List Happening) (split : AreBeforeCorrections v t front) where
    -- an old device does not only clear
    pub not_integrating : IsAtIntegration (standing_before v.scenario front device t) → ⊥
    not_integrating integrates =
        never_joined t t block.before device is block.from at.has.good at.old (omega arith)
        (rw (sym (earlier_before split)) (integrates.cycle
        ∙ ap (λ c. Some c) (same_next device split ∙ old_number t device block.before is block.from at.has at.old)))

    -- no setting of the device stands at or behind a record of the block
    behind_settings : (h : Happening) → block.before.next ≤ time_of h → (before rest : List Happening) (last : Happening) → front ≡ before ++ last ∷ rest
        → (nat_lt (time_of last) t && changes_adjustment device last.note.body) ≡ true → IsIn h before ⊎ (h ≡ last) → ⊥
    behind_settings h from before rest last whole hit where_is =
        let both = and_parts (nat_lt (time_of last) t) (changes_adjustment device last.note.body) hit in
        let all = split.whole ∙ ap (λ hs. hs ++ split.rest) whole ∙ append_assoc before (last ∷ rest) split.rest in
        let parts = sorted_parts before (rest ++ split.rest) last (subst AreSorted all (in_order is)) in
        let in_all : IsIn last v.records = subst (IsIn last) (sym all) (in_right last before (last ∷ (rest ++ split.rest)) (inl refl)) in
        let up : time_of h ≤ time_of last = elim where_is as (λ _. time_of h ≤ time_of last)
        [ inl i ↦ parts.0 h i | inr same ↦ (let e = ap time_of same in omega arith) ] in
        both_ways (changes_adjustment device last.note.body)
        (sets_none device block.before.next t is block.from at.old last in_all (omega arith)
        (ltb-true (time_of last) t both.0)) both.1

    -- what an old device hears by a record of the block is among what it heard since its last point
    pub is_since : (h : Happening) (hearing : Hearing) → IsIn h v.records → block.before.next ≤ time_of h → time_of h < t
        → hearing_by v.scenario.network device h h.note.body ≡ Some hearing → IsIn hearing (heard_since v.scenario front device t)
    is_since h hearing i from lt shows =
        let s = v.scenario in
        let set = λ (x : Happening). nat_lt (time_of x) t && changes_adjustment device x.note.body in
        let late = λ (x : Happening). not (has_cleared s front device t t) || has_cleared s front device t (time_of x) in
        let since = in_after_last set front h (in_part h split i lt) (behind_settings h from) in
        let kept = in_kept late (after_last set front) h since (kept_by (has_cleared s front device t t) (has_cleared s front device t (time_of h)) (λ cleared.
        same_cleared device (time_of h) split ∙ cleared_then (time_of h) from (sym (same_cleared device t split) ∙ cleared))) in
        made_in (λ x. hearing_by s.network device x x.note.body) (filter late (after_last set front)) h hearing kept shows

-- ---- the frame that the compression master of the sound channel sends in a block is heard by each old device that is to keep
-- the time.

-- ---- when it is sent

-- the frame is sent behind the first dispatch, and is on its way no longer than to the first correction
pub record IsSentInTime (v : View) (n : ℕ) (before : Stands v n) (first : Happening) : Type 0 where
  pub from : before.next ≤ time_of first
  pub low : first_dispatch v.sizes before.hull ≤ℤ pos (time_of first)
  pub soon : pos (time_of first + v.sizes.dmax + v.sizes.path) <ℤ first_correction v.sizes before.hull

pub sent_in_time : {v : View} {n : ℕ} (before : Stands v n) {hull : Hull} (first : Happening) → IsView v
    → hull_of v (suc n) ≡ Some hull → IsNearHull v.sizes hull (base_of v.sizes (time_of first))
    → IsSentInTime v n before first
sent_in_time {v} {n} before {hull} first is at near =
    let space = room is in
    let follows = follows_before n before.hull hull is before.is_hull at in
    record {
      from = omega (arith, ints, next_first before is);
      low = omega (arith, ints);
      soon = omega (arith, ints, follows.most, near.most, frames_come_first v.sizes before.hull space (before_narrow before));
    }

-- ---- who hears

in_time_hearer : (b : Bool) → IsOfHearer (heard_by_schedule b)
in_time_hearer true = tt
in_time_hearer false = tt

-- who has a common time hears what is brought to it
hearer_of : (plan : SyncPlan) (precision : ℤ) (state : State) (adjustment point : ℤ) (cycle : ℕ) (members : Members) → has_time state ≡ true
    → IsOfHearer (heard_as plan precision state adjustment point cycle members)
hearer_of plan precision Joining adjustment point cycle members e = in_time_hearer _
hearer_of plan precision Synchronised adjustment point cycle members e = in_time_hearer _
hearer_of plan precision state adjustment point cycle members e = absurd cc

pub no_end_cm : (o : Option Device) → option_map_or (λ d. is_cm_role d.role) o false ≡ true → option_map_or (λ d. is_end_system d.role) o false ≡ true → ⊥
no_end_cm None a b = absurd cc
no_end_cm (Some d) a b = cm_is_no_end d.role a b

-- a device that is to keep the time is of the channel
pub firm_member : {v : View} {device : DeviceId} → IsFirm v device → IsDeviceOf v.scenario.network v.channel device
firm_member {v} {device} (inl end) =
    (let d = device_of is_end_system (device_at v.scenario.network device) end.end in of_channel_is v v.channel device d.0 d.1 (inl d.2))
firm_member {v} {device} (inr switch) =
    (let d = opened (λ x. x.channel ≡ Some v.channel) (device_at v.scenario.network device) switch in
    of_channel_is v v.channel device d.0 d.1
    (inr d.2))

-- a device of a channel other than its compression master is none
pub other_than_cm : {v : View} (channel : Channel) (device cm : DeviceId) → IsView v
    → IsDeviceOf v.scenario.network channel device → IsCmOf v.scenario.network channel cm → (device ≡ cm → ⊥)
    → is_cm v.scenario.network device ≡ false
other_than_cm {v} channel device cm is member one other =
    let d = opened (λ x. (is_end_system x.role ≡ true) ⊎ (x.channel ≡ Some channel))
    (device_at v.scenario.network device) member in
    false_from_ne_true (is_cm v.scenario.network device) (λ also. elim d.2 [
      | inl end ↦ no_end_cm (device_at v.scenario.network device) also
          (rw d.1 end)
      | inr of_channel ↦
          let on : channel_of v.scenario.network device ≡ Some channel =
          rw d.1 of_channel in
          other (one_cm channel device cm is (cm_of v device channel also on) one)
    ])

-- the channel of its compression master
pub cm_of_channel : (v : View) (channel : Channel) (cm : DeviceId) → IsCmOf v.scenario.network channel cm → channel_of v.scenario.network cm ≡ Some channel
cm_of_channel v channel cm one =
    (let d = opened (λ x. (x.role ≡ Cm) × (x.channel ≡ Some channel)) (device_at v.scenario.network cm)
    one in rw d.1 d.2.1)

-- ---- what it hears

-- one record of an arrival is of one device and link
same_arrival : (d e : DeviceId) (k l : LinkId) (c n x y : ℕ) → notes.Arrived d k c x ≡ notes.Arrived e l n y → (d ≡ e) × (k ≡ l)
same_arrival d e k l c n x y same = (cc, cc)

-- no record is of a collection and of an arrival
never_both : (d e : DeviceId) (opened at : Units) (n : ℕ) (members : Members) (j : Judgement) (k : LinkId) (c x : ℕ)
    → notes.Compressed d opened at n members j ≡ notes.Arrived e k c x → ⊥
never_both d e opened at n members j k c x same = cc

-- a record by which the device hears the frame of the channel
pub record Receives (v : View) (channel : Channel) (n : ℕ) (before : Stands v n) (device : DeviceId) (members : Members) : Type 0 where
  pub h : Happening
  pub point : ℤ
  pub judgement : Judgement
  pub hearer : IsOfHearer judgement
  pub hears : HearsBy v device channel point judgement h
  pub members_are : members_in h ≡ members.0
  pub from : before.next ≤ time_of h
  pub late : pos (time_of h) <ℤ first_correction v.sizes before.hull

waits_by : (relay parent : Bool) → parent ≡ false → (not relay || not parent) ≡ true
waits_by true false e = refl
waits_by false false e = refl
waits_by relay true e = absurd cc

-- the frame of the sound channel is permanent at the device, which judges it by the records before
pub record ComesDown (v : View) (channel : Channel) (n : ℕ) (device : DeviceId) (first : Happening) (members : Members) : Type 0 where
  pub arrival : Happening
  pub link : LinkId
  pub frame : Pcf
  pub point : ℤ
  pub q : ℕ
  pub place : IsSplit place_of v.records (place_of_ripe device arrival link frame point q)
  pub ripe : IsRipeRecord v device arrival link point q (judged_at v.scenario device place.front q point frame.cycle frame.members) frame
  pub of_channel : channel_of_link v.scenario.network link ≡ Some channel
  pub of_cycle : frame.cycle ≡ suc n
  pub of_members : frame.members.0 ≡ members.0
  pub from : time_of first ≤ q
  pub soon : q ≤ time_of first + v.sizes.dmax + v.sizes.path

module _ (v : View) (channel : Channel) (n t : ℕ) (block : IsInBlock v n t) (is : IsView v) (device cm : DeviceId)
    (member : IsDeviceOf v.scenario.network channel device) (good : IsGood v device)
    (one : IsCmOf v.scenario.network channel cm) (first : Happening) (members : Members) (e : IsEmission v first cm (suc n) members)
    (timed : IsSentInTime v n block.before first) where
  shows : (suc n ≡ cycle_in first) × (members.0 ≡ members_in first)
  shows = emission_shows first cm e.opened e.at (suc n) members e.verdict is e.there e.is

  -- what was brought down to a device came by a last leg
  brought_by_leg : (b : IsBrought v Down first device) → EndsSo v channel first b.last
  brought_by_leg b = by b.legs b.trip
    where
      by : (legs : List Leg) → IsTrip v Down first legs b.last → EndsSo v channel first b.last
      by [] trip =
          let wrong =
          sym e.is ∙ ap (λ h. h.note.body) trip ∙ b.permanent.is in absurd (never_both _ _ _ _ _ _ _ _ _ _ wrong)
      by (leg ∷ legs) trip =
          ends_so channel first b.last leg legs is (λ d k gives.
          (let g = rw e.is at gives in ap (channel_of v.scenario.network) g.0 ∙ cm_of_channel v channel cm one)) trip

  -- the frame comes to each other device that is on
  pub comes_down : BlocksGoSo → IsWholeFrom v channel (time_of first) → (device ≡ cm → ⊥) → time_of first + v.sizes.dmax + v.sizes.path ≤ t
      → ((u : ℕ) → time_of first ≤ u → u + v.sizes.path ≤ time_of first + v.sizes.dmax
      → is_off (state_before v.scenario v.records device u) ≡ false) → ComesDown v channel n device first members
  comes_down goes intact other le on =
      let s = v.scenario in
      let network = s.network in
      let w = time_of first in
      let space = room is in
      let soon = timed.soon in
      let instant = earlier_in_block _ _ _ _ block timed.from (omega arith) in
      let opens = are_open_on goes channel instant is timed.low (omega (arith, ints)) (omega (arith, block.in_run)) in
      let b = frames_go_down v channel first device cm (suc n) members is intact e one member good other opens
      (omega (arith, block.in_run))
      on in
      let p = b.permanent in
      let q = b.q in
      let ends = brought_by_leg b in
      let same = sym ends.is.arrives ∙ ap (λ h. h.note.body) ends.ends ∙ p.is in
      let arrival = same_arrival _ _ _ _ _ _ _ _ same in
      let receiver = arrival.0 in
      let link = arrival.1 in
      let child = receiver_down network p.link device (rw (sym link) (ends.is.comes_to
      ∙ ap (λ d. Some d) receiver)) in
      let parent = false_from_ne_true (is_parent_of network device p.link) (λ yes_parent. child_not_parent device p.link is child yes_parent) in
      let frame = ends.keeps.frame in
      let r : IsRipeArrival v device b.last p.link frame b.point q = record {
        there = rw ends.ends at ends.is.arrived;
        of_frame = ends.keeps.of_frame;
        waits = waits_by (is_relay network device) (is_parent_of network device p.link) parent;
        good = good;
        permanent = p;
        by_link = refl;
        later = omega (arith, ints, p.reached.from_on);
        in_run = omega (arith, b.in_time.not_late, block.in_run);
      } in
      let place = split place_of (IsDue s) v.records (place_of_ripe device b.last p.link frame b.point q) is.run.founded in
      record {
        arrival = b.last;
        link = p.link;
        frame = frame;
        point = b.point;
        q = q;
        place = place;
        ripe = is_heard_of is (other_than_cm channel device cm is member one other) r place;
        of_channel = ap (channel_of_link network) (sym link) ∙ ends.of_channel;
        of_cycle = ap (λ o. option_map_or (λ f. f.cycle) o 0) (sym ends.keeps.of_frame) ∙ sym ends.keeps.cycle ∙ sym
            shows.0;
        of_members = ap (λ o. option_map_or (λ f. f.members.0) o 0) (sym ends.keeps.of_frame) ∙ sym ends.keeps.members ∙
            sym shows.1;
        from = omega (arith, b.in_time.not_early, space.paths);
        soon = b.in_time.not_late;
      }

module _ (v : View) (channel : Channel) (n t : ℕ) (block : IsInBlock v n t) (is : IsView v) (device cm : DeviceId)
    (member : IsDeviceOf v.scenario.network channel device) (at : IsAtPoint v n t block device)
    (one : IsCmOf v.scenario.network channel cm) (first : Happening) (members : Members) (e : IsEmission v first cm (suc n) members)
    (timed : IsSentInTime v n block.before first) where
  -- what it hears in the block it hears with a common time
  hears : (q : ℕ) (hs : List Happening) (point : ℤ) (cycle : ℕ) (others : Members) → AreUpTo v q hs → block.before.next ≤ q → q < t
      → IsOfHearer (judged_at v.scenario device hs q point cycle others)
  hears q hs point cycle others up from lt =
      hearer_of (plan_of v.scenario.network device) (observation_window v.scenario.network) _ (adjustment_at_hearing v.scenario hs device q).0 point cycle
      others (hears_as_at device block.before.next t is up from lt at.old at.has.timed).state

  -- the compression master's own frame
  own_frame : cm ≡ device → Receives v channel n block.before device members
  own_frame same =
      let s = v.scenario in
      let q = time_of first in
      let body = e.is ∙ ap (λ d. notes.Compressed d e.opened e.at (suc n) members e.verdict) same in
      let found = founded_at s v.records first is.run.founded e.there in
      let emits = subst (IsCaused s found.front first.note.time) body found.due.cause in
      let late : pos q <ℤ first_correction v.sizes block.before.hull = (let soon = timed.soon in omega (arith, ints)) in
      let hearer = hears q found.front e.at.0 (suc n) members (up_to_then (before_of is found)) timed.from
      (sooner q at late) in
      let of_channel = rw same at (cm_of_channel v channel cm one) in
      record {
        h = first;
        point = e.at.0;
        judgement = e.verdict;
        hearer = subst IsOfHearer (sym emits.heard) hearer;
        hears = record { there = e.there; how = inr (e.opened, e.at, suc n, members, body, of_channel, refl) };
        members_are = sym (shows v channel n t block is device cm member at.has.good one first members e timed).1;
        from = timed.from;
        late = late;
      }

  -- the frame that comes to another device
  brought_frame : BlocksGoSo → IsWholeFrom v channel (time_of first) → (device ≡ cm → ⊥) → Receives v channel n block.before device members
  brought_frame goes intact other =
      let s = v.scenario in
      let w = time_of first in
      let soon = timed.soon in
      let lt = sooner (w + v.sizes.dmax + v.sizes.path) at soon in
      let on : (u : ℕ) → w ≤ u → u + v.sizes.path ≤ w + v.sizes.dmax → is_off (state_before s v.records device u) ≡ false = λ u ge le.
      (let old_u : epoch_time (earlier t v.records) device <ℤ pos u = omega (arith, ints, at.old, timed.from) in
      let timed_u = time_stays v device u t is (omega arith) old_u at.has.timed in
      rw (not_turned_on_then device u is timed_u)
      (timed_not_off (state_left v device u) timed_u)) in
      let c = comes_down v channel n t block is device cm member at.has.good one first members e timed goes intact other
      (omega arith) on in
      let q = c.q in
      let split_at = before_place v q (3 ∷ device.0 ∷ unsigned_abs c.point ∷ c.frame.members.0 ∷ c.link.0 ∷ c.arrival.note.number ∷ []) c.place in
      let ripe = c.ripe in
      let from : block.before.next ≤ q = omega (arith, c.from, timed.from) in
      let hearer = hears q c.place.front c.point c.frame.cycle c.frame.members (up_to_then split_at) from
      (omega (arith, c.soon)) in
      record {
        h = ripe.h;
        point = c.point;
        judgement = judged_at s device c.place.front q c.point c.frame.cycle c.frame.members;
        hearer = hearer;
        hears = record {
          there = ripe.there;
          how = inl (c.link, c.arrival.note.number, record { 0 = c.point }, ripe.is, c.of_channel, refl);
        };
        members_are = ap (λ o. option_map_or (λ f. f.members.0) o 0) ripe.of_frame ∙ c.of_members;
        from = omega (arith, ripe.time);
        late = omega (arith, ints, ripe.time, c.soon);
      }

  -- each old device of the channel hears the frame
  pub receives : BlocksGoSo → IsWholeFrom v channel (time_of first) → Receives v channel n block.before device members
  receives goes intact =
      elim (cases_eq device.0 cm.0) [
        | inl same ↦ own_frame (same_device cm device (sym same))
        | inr differs ↦ brought_frame goes intact (λ d. differs (rw d))
      ]
