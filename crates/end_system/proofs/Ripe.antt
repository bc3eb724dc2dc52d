-- Frames that arrive or are permanent at an end system, and how it and its agenda stand.
use Rattle.std.proofs.{Common.{SomeIff, int_le, nat_le}, lemmas.Bool.{both_ways, leb-true}}
use Rattle.device_rules.specs.{Headings.heading_fault, declared.heading.Heading.Heading}
use Rattle.end_system.proofs.{Corrections.{expected_is, has_numbers, heard_nothing, not_fallen, number_stays}}
use Rattle.end_system.proofs.Words
use Words.{◌&&◌, ◌*◌, ◌++◌, ◌+ℤ◌, ◌+◌, ◌-ℤ◌, ◌<ℤ◌, ◌<◌, ◌^◌, ◌∙◌, ◌∷◌, ◌≡◌, ◌≤ℤ◌, ◌≤◌, A, Agenda, Appointment}
use Words.{AreHeardSo, AreRowsOf, B, Bool, Channel, ClockTask, DeviceId, Dispatch, EndSystem, HasNumber, HasTaken}
use Words.{IfSome, Intake, IsAgenda, IsAtSlot, IsCorrection, IsDispatch, IsOwnOf, IsSending, IsSmall, LinkId, List}
use Words.{MayCall, Moment, Network, Node, None, Option, Own, Pcf, Some, Standing, StandsAsEnd, Summarizes, Summary}
use Words.{SyncPlan, Synchronised, Units, [], amount, and_parts, ap, arith, arriving, called, correcting, end_plan}
use Words.{expected_offset, false, from_zero, inl, inr, ints, is_off, mul-le-mul_left, mul-le-mul_right, neg_ℤ}
use Words.{next_point, pos, refl, standpoint_at, subst, sym, true, ℕ, ℤ}
use Rattle.end_system.specs.{Controls.heard_by, Owns.channel_by, Ripening.{IsTold, heard_so}}
use Rattle.end_system.specs.{Standing.{IsAtEnd, IsHeardSo}}
use Rattle.net_plan.specs.Ranges.{IsWithin}
use Rattle.run_law.proofs.{control.Verdicts.{enough_not, in_time_by, in_time_not, tells_by}, device.States.is_in}
use Rattle.sync_state.proofs.VerdictLemmas.{integrating_point, no_longer}
use Rattle.run_law.specs.{declared.steps.Ripe.{Ripe, TheVariants.{Ignored, Integrates, Outside, Within}}}
use Rattle.run_law.specs.{device.{Standpoints.clock_of, States.is_synchronised}, scenario.Devices.channel_of_link}
use Rattle.run_law.specs.control.{Corrections.correction_value}
use Rattle.run_law.specs.control.{Hearing.{heard_as, heard_by_schedule, heard_enough, is_in_schedule, last_cycle}}
use Rattle.run_law.specs.control.{Permanence.ripe_as}
use Rattle.run_law.specs.machines.{Answers.{IsPermanenceOutcomeAt, hearings, node_turned_on, with_heard, with_joined}}
use Rattle.run_law.specs.machines.{Calls.{IsLaterMoment, MayRipen}, Nodes.{Phase, TakenFrame, ripening}}
use Rattle.sync_state.specs.{Calls.{after, heard_frame, turned_on}}
use Rattle.sync_state.specs.{Integration.{Integrates as DoesIntegrate, joined_by}, Plan.expected_at, Standing.point_in}
use Rattle.sync_state.specs.declared.{answers.Joined.Joined, membership.frame.HeardFrame.HeardFrame}
use Rattle.sync_state.specs.declared.{state.State.{State, TheVariants.{Integrating, Joining, Off}}}
use Rattle.sync_state.specs.membership.{BestFrame.IsBetterOf, Hearing.Hearing, Members.count_of}
use Rattle.sync_state.specs.membership.{Summary.{Hears, silence}}
use Rattle.tte_units.{proofs.general_lemmas.{Bools.{match_false, takes_by}, Integers.{int_le-is, whole}, Lists.none_in}}
use Rattle.tte_units.{specs.declared.frames.members.Members.Members}

-- ---- as what an end system stands that a control frame came to, it stood before

-- two networks of which an end system knows the same have the same correction points, and the same precision
passed_in : {other network : Network} {far device : DeviceId} {own : Own} (cycle : ℕ) (local : ℤ) → IsOwnOf other far own
    → IsOwnOf network device own
    → pos (cycle * amount other.cycle + amount other.correction) ≤ℤ (local +ℤ other.precision.0)
    → pos (cycle * amount network.cycle + amount network.correction) ≤ℤ (local +ℤ network.precision.0)
passed_in {other} {network} cycle local was now h =
    let lengths = ap (λ (p : SyncPlan). p.cycle_length) (sym was.plan ∙ now.plan) in
    let corrections = sym was.correction ∙ now.correction in
    subst (λ (u : Units). pos (cycle * amount network.cycle + amount network.correction) ≤ℤ (local +ℤ u.0))
    (sym was.precision ∙ now.precision)
    (subst (λ (u : Units). pos (cycle * amount network.cycle + amount u) ≤ℤ (local +ℤ other.precision.0)) corrections
    (subst (λ (u : Units). pos (cycle * amount u + amount other.correction) ≤ℤ (local +ℤ other.precision.0)) lengths h))

number_in : {other network : Network} {far device : DeviceId} {own : Own} (s : Standing) (heard : Summary) (reading : ℤ)
    (next : Option ℕ) → IsOwnOf other far own → IsOwnOf network device own
    → IfSome next (HasNumber other s heard reading) → IfSome next (HasNumber network s heard reading)
number_in s heard reading None was now h = h
number_in {other} {network} s heard reading (Some n) was now h = record {
  bound = h.bound;
  at_end = λ e. let end = h.at_end e in record {
    none_a = end.none_a;
    none_b = end.none_b;
    passed = passed_in {other = other} {network = network} (2 ^ 20 + 2 ^ 17 + 1) (reading +ℤ s.adjustment.0) was now end.passed;
  };
}

-- it stands so: then it stood so at its last call before, as it stood as something then
pub stood_before : {other network : Network} {far device : DeviceId} {before node : Node} {e : EndSystem} {moment : Moment}
    → StandsAsEnd e other far before → StandsAsEnd (record e { last = moment }) network device node
    → StandsAsEnd e network device (called e.last node.phase node)
stood_before {other} {network} {before} {node} {e} was now =
    let same : before.standing ≡ node.standing = was.standing ∙ sym now.standing in
    let number = subst (λ (m : Moment). IfSome (next_point before.standing) (HasNumber other before.standing e.heard m.reading.0))
    was.last was.number in
    record {
      own = now.own;
      sound = now.sound;
      standing = now.standing;
      plan = now.plan;
      last = refl;
      begun = subst (λ (m : Moment). pos 0 ≤ℤ m.reading.0) was.last was.begun;
      small = now.small;
      heard = now.heard;
      near = now.near;
      joined = now.joined;
      number = number_in node.standing e.heard e.last.reading.0 (next_point node.standing) was.own now.own
          (subst (λ (s : Standing). IfSome (next_point s) (HasNumber other s e.heard e.last.reading.0)) same number);
      rows = now.rows;
      entering = now.entering;
      slot = now.slot;
      agenda = now.agenda;
    }

-- ---- frames that are permanent at an end system: the range of points

low_point : (r q p : ℤ) (n : ℕ) → p ≡ pos n → n ≤ 2 ^ 40 → pos 0 ≤ℤ r → r <ℤ (q +ℤ p) → neg_ℤ (pos (2 ^ 40)) ≤ℤ q
low_point r q p n e most begun h = omega (arith, ints)

high_point : (r q : ℤ) → q ≤ℤ r → r ≤ℤ pos (2 ^ 60 + 2 ^ 51) → q ≤ℤ pos (2 ^ 60 + 2 ^ 51)
high_point r q h low = omega (arith, ints)

pub point_low : {network : Network} {device : DeviceId} {node : Node} {own : Own} {moment : Moment} {link : LinkId}
    {frame : Pcf} {point : Units} → IsOwnOf network device own → pos 0 ≤ℤ node.last.reading.0
    → MayCall network device node moment ripening → MayRipen network device node moment link frame point
    → neg_ℤ (pos (2 ^ 40)) ≤ℤ point.0
point_low {network} {node} {moment} {point} is begun may ripens =
    low_point moment.reading.0 point.0 network.precision.0 (amount network.precision) (from_zero _ network.precision.0 is.in_range.precision.least)
    (has_numbers is).precision_most (not_fallen node.last.reading.0 moment.reading.0 begun may.later.reading)
    ripens.in_time

pub point_high : {network : Network} {device : DeviceId} {node : Node} {moment : Moment} {link : LinkId}
    {frame : Pcf} {point : Units} → MayCall network device node moment ripening
    → MayRipen network device node moment link frame point → point.0 ≤ℤ pos (2 ^ 60 + 2 ^ 51)
point_high {moment} {point} may ripens = high_point moment.reading.0 point.0 ripens.reached may.later.low_enough

-- ---- a frame within its time

ignored_not : Ignored ≡ Within → ⊥
ignored_not e = cc

within_in : (own : Own) (state : State) (adjustment point : ℤ) (cycle : ℕ) (members : Members) (p : ℤ)
    → ripe_as (heard_as own.plan p state adjustment point cycle members) ≡ Within
    → (nat_le cycle last_cycle && is_in_schedule own.plan p cycle (point +ℤ adjustment)) ≡ true
within_in own Off adjustment point cycle members p e = absurd (ignored_not e)
within_in own Integrating adjustment point cycle members p e = absurd (enough_not _ e)
within_in own Joining adjustment point cycle members p e = in_time_by _ e
within_in own Synchronised adjustment point cycle members p e = in_time_by _ e

-- the frame as it is heard
abbrev pub heard_frame_of : Pcf → Units → HeardFrame
heard_frame_of frame point = record { cycle = frame.cycle; members = frame.members; point = point }

pub is_heard_so : {network : Network} {device : DeviceId} {own : Own} (s : Standing) (frame : Pcf) (point : Units)
    → IsOwnOf network device own → s.plan ≡ end_plan network → neg_ℤ (pos (2 ^ 40)) ≤ℤ point.0
    → point.0 ≤ℤ pos (2 ^ 60 + 2 ^ 51) → heard_by own s frame point ≡ Within
    → IsHeardSo network s (heard_frame_of frame point)
is_heard_so s frame point is plan low high e =
    grind (arith, and_parts, nat_le, within_in, amount, int_le, leb-true, int_le-is)

-- no frame is within its time at the end of all
too_late : (f c d e p : ℕ) (v ef r x q a w : ℤ) → f ≤ 2 ^ 20 + 2 ^ 17 → v ≡ pos ((2 ^ 20 + 2 ^ 17 + 1) * c + d) → ef ≡ pos (f * c + e) → v ≤ℤ ((x +ℤ a) +ℤ w)
    → w ≡ pos p → x ≤ℤ r → r <ℤ (q +ℤ w) → (q +ℤ a) ≤ℤ (ef +ℤ pos p) → e + 3 * p < c + d → ⊥
too_late f c d e p v ef r x q a w bound isv isf passed isw later soon to margin =
    let more : f * c ≤ (2 ^ 20 + 2 ^ 17) * c = mul-le-mul_right c bound in omega (arith, ints, more)

pub not_the_end : {network : Network} {device : DeviceId} {own : Own} {s : Standing} {heard : Summary}
    {frame : HeardFrame} {before : ℤ} (reading : ℤ) → IsOwnOf network device own → s.plan ≡ end_plan network
    → IsHeardSo network s frame → IsAtEnd network s heard before → before ≤ℤ reading
    → reading <ℤ (frame.point.0 +ℤ network.precision.0) → ⊥
not_the_end {network} {s} {frame} {before} reading is plan h end later soon =
    let r = has_numbers is in
    too_late frame.cycle (amount network.cycle) (amount network.correction) (expected_offset network) (amount network.precision)
    (correction_value network (2 ^ 20 + 2 ^ 17 + 1)) (expected_at s.plan frame.cycle) reading before frame.point.0 s.adjustment.0 network.precision.0
    h.cycle refl (expected_is s.plan frame.cycle is plan) end.passed
    (from_zero _ network.precision.0 is.in_range.precision.least) later soon
    h.to r.margin

better_so : {network : Network} {s : Standing} (o : Option HeardFrame) {later : HeardFrame} (best : HeardFrame)
    → IsBetterOf o later best → IfSome o (IsHeardSo network s) → IsHeardSo network s later → IsHeardSo network s best
better_so {network} {s} None best e was now = subst (IsHeardSo network s) (sym e) now
better_so {network} {s} (Some old) best (inl h) was now = subst (IsHeardSo network s) (sym h.1) was
better_so {network} {s} (Some old) best (inr h) was now = subst (IsHeardSo network s) (sym h.1) now

within_near : {network : Network} {s : Standing} {old : Summary} (new : Summary) (channel : Channel)
    {frame : HeardFrame} → Hears old (record { channel = channel; frame = frame; within = true }) new
    → AreHeardSo network s old → IsHeardSo network s frame → AreHeardSo network s new
within_near {network} {s} {old} new A h was now =
    subst (AreHeardSo network s) (sym h.2) (record { a = better_so old.best_a h.0 h.1 was.a now; b = was.b })
within_near {network} {s} {old} new B h was now =
    subst (AreHeardSo network s) (sym h.2) (record { a = was.a; b = better_so old.best_b h.0 h.1 was.b now })

module _ (network : Network) (s : Standing) (old new : Summary) (channel : Channel) (frame : HeardFrame) where
  outside_near : Hears old (record { channel = channel; frame = frame; within = false }) new
      → AreHeardSo network s old → AreHeardSo network s new
  outside_near h was = subst (AreHeardSo network s) (sym h) (record { a = was.a; b = was.b })

  outside_number : (x y : ℤ) (o : Option ℕ) → Hears old
      (record { channel = channel; frame = frame; within = false }) new → x ≤ℤ y
      → IfSome o (HasNumber network s old x) → IfSome o (HasNumber network s new y)
  outside_number x y None h le was = tt
  outside_number x y (Some n) h le was =
      subst (λ m. HasNumber network s m y n) (sym h)
      (let later = number_stays network s old x y (Some n) le was in
      record { bound = later.bound; at_end = λ e. let end = later.at_end e in record { none_a = end.none_a; none_b = end.none_b; passed = end.passed } })

within_number : {network : Network} {device : DeviceId} {own : Own} {s : Standing} (old new : Summary)
    {frame : HeardFrame} (x y : ℤ) (o : Option ℕ) → IsOwnOf network device own → s.plan ≡ end_plan network
    → IsHeardSo network s frame → x ≤ℤ y → y <ℤ (frame.point.0 +ℤ network.precision.0)
    → IfSome o (HasNumber network s old x) → IfSome o (HasNumber network s new y)
within_number old new x y None is plan now le soon was = tt
within_number old new x y (Some n) is plan now le soon was =
    record { bound = was.bound; at_end = λ e. absurd (not_the_end y is plan now (was.at_end e) le soon) }

-- ---- it keeps a frame

summary_of : {heard : Summary} (before : List Hearing) (o : Option Channel) (channel : Channel) (frame : Pcf)
    (point : Units) (within : Bool) → o ≡ Some channel → Summarizes heard
    (before ++ record { channel = channel; frame = heard_frame_of frame point; within = within } ∷ [])
    → Summarizes heard (before ++ hearings o frame.cycle frame.members point within)
summary_of {heard} before o channel frame point within e h =
    subst (λ x. Summarizes heard (before ++ hearings x frame.cycle frame.members point within)) (sym e) h

pub keeps : {network : Network} {device : DeviceId} {node : Node} {e : EndSystem} (heard : Summary) {moment : Moment}
    {link : LinkId} {frame : Pcf} {point : Units} (within : Bool) → StandsAsEnd e network device node
    → MayCall network device node moment ripening → MayRipen network device node moment link frame point
    → heard_by e.own e.sync frame point ≡ heard_so within → Hears e.heard
    (record { channel = channel_by e.own link; frame = heard_frame_of frame point; within = within }) heard
    → ((before : List Hearing) → Summarizes e.heard before
    → Summarizes heard (before
    ++ record { channel = channel_by e.own link; frame = heard_frame_of frame point; within = within } ∷ []))
    → StandsAsEnd
    (record {
      own = e.own;
      sync = e.sync;
      heard = heard;
      agenda = e.agenda;
      rows = e.rows;
      entering = e.entering;
      last = moment;
    }) network device
    (called moment ripening (with_heard node (channel_of_link network link) frame point within))
keeps {node} {e} heard {moment} {link} {frame} {point} true stands may ripens as_heard hears summary =
    let plan = stands.plan ∙ stands.own.plan_is in
    let now = is_heard_so node.standing frame point stands.own plan (point_low stands.own stands.begun may ripens)
    (point_high may ripens)
    (subst (λ s. heard_by e.own s frame point ≡ Within) (sym stands.standing) as_heard) in
    record {
      own = stands.own;
      sound = stands.sound;
      standing = stands.standing;
      plan = stands.plan;
      last = refl;
      begun = not_fallen node.last.reading.0 moment.reading.0 stands.begun may.later.reading;
      small = stands.small;
      heard = summary_of node.heard _ _ frame point true
          (stands.own.links link ripens.at).channel (summary node.heard stands.heard);
      near = within_near heard (channel_by e.own link) hears stands.near now;
      joined = stands.joined;
      number =
          within_number e.heard heard node.last.reading.0 moment.reading.0
          (next_point node.standing) stands.own plan now may.later.reading ripens.in_time stands.number;
      rows = stands.rows;
      entering = stands.entering;
      slot = stands.slot;
      agenda = stands.agenda;
    }
keeps {network} {node} {e} heard {moment} {link} {frame} {point} false stands may ripens as_heard hears summary =
    record {
      own = stands.own;
      sound = stands.sound;
      standing = stands.standing;
      plan = stands.plan;
      last = refl;
      begun = not_fallen node.last.reading.0 moment.reading.0 stands.begun may.later.reading;
      small = stands.small;
      heard = summary_of node.heard _ _ frame point false
          (stands.own.links link ripens.at).channel (summary node.heard stands.heard);
      near = outside_near network node.standing e.heard heard (channel_by e.own link) (heard_frame_of frame point) hears stands.near;
      joined = stands.joined;
      number =
          outside_number network node.standing e.heard heard (channel_by e.own link) (heard_frame_of frame point) node.last.reading.0 moment.reading.0
          (next_point node.standing) hears may.later.reading stands.number;
      rows = stands.rows;
      entering = stands.entering;
      slot = stands.slot;
      agenda = stands.agenda;
    }

-- ---- it takes the time from a frame

ignored_tells_not : Ignored ≡ Integrates → ⊥
ignored_tells_not e = cc

-- the state and the test of a frame that tells the time
told_in : (own : Own) (state : State) (adjustment point : ℤ) (cycle : ℕ) (members : Members) (p : ℤ)
    → ripe_as (heard_as own.plan p state adjustment point cycle members) ≡ Integrates → (state ≡ Integrating)
    × ((nat_le own.plan.threshold (count_of members) && nat_le cycle last_cycle) ≡ true)
told_in own Off adjustment point cycle members p e = absurd (ignored_tells_not e)
told_in own Integrating adjustment point cycle members p e = (refl, tells_by _ e)
told_in own Joining adjustment point cycle members p e = absurd (in_time_not _ e)
told_in own Synchronised adjustment point cycle members p e = absurd (in_time_not _ e)

pub tells : {network : Network} {device : DeviceId} {own : Own} (s : Standing) (frame : Pcf) (point : Units)
    → IsOwnOf network device own → s.plan ≡ end_plan network → heard_by own s frame point ≡ Integrates
    → DoesIntegrate s frame
tells s frame point is plan e = grind (arith, told_in, amount, and_parts, nat_le, leb-true)

small_joined : (f c e : ℕ) (ef q : ℤ) → f ≤ 2 ^ 20 + 2 ^ 17 → c ≤ 2 ^ 40 → e ≤ 2 ^ 43 → ef ≡ pos (f * c + e) → neg_ℤ (pos (2 ^ 40)) ≤ℤ q
    → q ≤ℤ pos (2 ^ 60 + 2 ^ 51) → IsSmall (ef -ℤ q)
small_joined f c e ef q bf bc be isf low high = let mf : f * c ≤ f * 2 ^ 40 = mul-le-mul_left f bc in (omega (arith, ints, mf), omega (arith, ints, mf))

pub joined_small : {network : Network} {device : DeviceId} {own : Own} (plan : SyncPlan) (frame : Pcf)
    (point : Units) → IsOwnOf network device own → plan ≡ end_plan network → frame.cycle ≤ 2 ^ 20 + 2 ^ 17
    → neg_ℤ (pos (2 ^ 40)) ≤ℤ point.0 → point.0 ≤ℤ pos (2 ^ 60 + 2 ^ 51)
    → IsSmall (joined_by plan frame point).adjustment.0
joined_small {network} plan frame point is same early low high =
    let r = has_numbers is in
    small_joined frame.cycle (amount network.cycle) (expected_offset network) (expected_at plan frame.cycle) point.0 early r.cycle_most r.offset_most
    (expected_is plan frame.cycle is same) low high

-- where the synchronisation stands then
abbrev pub joined_standing : Standing → Pcf → Units → Standing
joined_standing s frame point = after s (heard_frame frame point (Some (joined_by s.plan frame point)))

early_number : (n : ℕ) → n ≤ 2 ^ 20 + 2 ^ 17 → n ≤ 2 ^ 20 + 2 ^ 17 + 2
early_number n h = omega arith

not_last : (n : ℕ) → n ≤ 2 ^ 20 + 2 ^ 17 → n ≡ 2 ^ 20 + 2 ^ 17 + 2 → ⊥
not_last n h e = omega arith

pub early_enough : (n : ℕ) → n ≤ 2 ^ 20 + 2 ^ 17 → n ≤ 2 ^ 21 + 2 ^ 18
early_enough n h = omega arith

pub joins : {network : Network} {device : DeviceId} {node : Node} {e : EndSystem} (sync : Standing) {heard : Summary}
    (agenda : Agenda) {moment : Moment} {link : LinkId} {frame : Pcf} {point : Units}
    → StandsAsEnd e network device node → IsTold e network device node moment link frame point
    → sync ≡ joined_standing e.sync frame point → heard ≡ silence → Summarizes heard []
    → IfSome agenda.dispatch (IsAtSlot e.rows) → ((network : Network) (device : DeviceId)
    → IsOwnOf network device e.own → AreRowsOf network device e.rows
    → IsAgenda network device sync (moment.reading.0 +ℤ sync.adjustment.0) [] agenda) → StandsAsEnd
    (record {
      own = e.own;
      sync = sync;
      heard = heard;
      agenda = agenda;
      rows = e.rows;
      entering = e.entering;
      last =
          moment;
    }) network device (called moment ripening (with_joined node moment frame point))
joins {network} {device} {node} {e} sync {heard} agenda {moment} {frame} {point} stands told value none nothing slot
    plan =
    let value_is : joined_standing node.standing frame point ≡ sync = ap (λ s. joined_standing s frame point) stands.standing ∙ sym value in
    let plan_is = stands.plan ∙ stands.own.plan_is in
    let may = told.call in
    let does = tells node.standing frame point stands.own plan_is
    (subst (λ s. heard_by e.own s frame point ≡ Integrates) (sym stands.standing) told.integrates) in
    record {
      own = stands.own;
      sound = stands.sound;
      standing = value_is;
      plan = stands.plan;
      last = refl;
      begun = not_fallen node.last.reading.0 moment.reading.0 stands.begun may.later.reading;
      small =
          joined_small node.standing.plan frame point stands.own plan_is does.in_time
          (point_low stands.own stands.begun may told.ripens) (point_high may told.ripens);
      heard = nothing;
      near = heard_nothing network (joined_standing node.standing frame point) heard none;
      joined = does.in_time;
      number = record { bound = early_number frame.cycle does.in_time; at_end = λ e. absurd (not_last frame.cycle does.in_time e) };
      rows = stands.rows;
      entering = stands.entering;
      slot = slot;
      agenda =
          subst (λ (s : Standing). IsAgenda network device s (moment.reading.0 +ℤ s.adjustment.0) [] agenda) (sym value_is)
          (plan network device stands.own stands.rows);
    }

some_iff : {X : Type 0} (o : Option X) (P : Type 0) (v : X) → SomeIff o P v → P → o ≡ Some v
some_iff None P v h p = absurd (h p)
some_iff (Some x) P v h p = ap Some h.1

pub joined_value : {s : Standing} (new : Standing) {frame : Pcf} (point : Units) (o : Option Joined)
    → SomeIff o (DoesIntegrate s frame) (joined_by s.plan frame point) → DoesIntegrate s frame
    → new ≡ after s (heard_frame frame point o) → new ≡ joined_standing s frame point
joined_value {s} new {frame} point o iff does value =
    value ∙ ap (λ (x : Option Joined). after s (heard_frame frame point x)) (some_iff o _ (joined_by s.plan frame point) iff does)

-- what the frame does, where it tells the time
pub does_tell : {network : Network} {device : DeviceId} {node : Node} {e : EndSystem} {moment : Moment}
    {link : LinkId} {frame : Pcf} {point : Units} → StandsAsEnd e network device node
    → IsTold e network device node moment link frame point → DoesIntegrate e.sync frame
does_tell {network} {e} {frame} {point} stands told =
    tells e.sync frame point stands.own
    (subst (λ (s : Standing). s.plan ≡ end_plan network) stands.standing (stands.plan ∙ stands.own.plan_is)) told.integrates

pub joined_number : {s : Standing} (new : Standing) {frame : Pcf} (point : Units)
    → new ≡ joined_standing s frame point → DoesIntegrate s frame → IfSome (next_point new) (λ n. n ≤ 2 ^ 21 + 2 ^ 18)
joined_number new {frame} point value does =
    subst (λ (x : Standing). IfSome (next_point x) (λ n. n ≤ 2 ^ 21 + 2 ^ 18)) (sym value) (early_enough frame.cycle does.in_time)

pub joined_small_by : {network : Network} {device : DeviceId} {node : Node} {e : EndSystem} (new : Standing)
    {moment : Moment} {link : LinkId} {frame : Pcf} {point : Units} → StandsAsEnd e network device node
    → IsTold e network device node moment link frame point → new ≡ joined_standing e.sync frame point
    → IsSmall new.adjustment.0
joined_small_by {network} {e} new {frame} {point} stands told value =
    subst (λ (x : Standing). IsSmall x.adjustment.0) (sym value)
    (joined_small e.sync.plan frame point stands.own
    (subst (λ (s : Standing). s.plan ≡ end_plan network) stands.standing (stands.plan ∙ stands.own.plan_is))
    (does_tell stands told).in_time (point_low stands.own stands.begun told.call told.ripens)
    (point_high told.call told.ripens))

pub wide_range : (z : ℤ) → neg_ℤ (pos (2 ^ 40)) ≤ℤ z → z ≤ℤ pos (2 ^ 60 + 2 ^ 51) → (neg_ℤ (pos (2 ^ 61 + 2 ^ 58)) ≤ℤ z) × (z ≤ℤ pos (2 ^ 61 + 2 ^ 58))
wide_range z low high = (omega (arith, ints), omega (arith, ints))

-- ---- what becomes of a frame

pub ripe_at : {network : Network} {device : DeviceId} {node : Node} {e : EndSystem} (frame : Pcf) (point : Units)
    (is : Ripe) → StandsAsEnd e network device node → is ≡ heard_by e.own e.sync frame point
    → IsPermanenceOutcomeAt network device node frame point is
ripe_at frame point is stands r = grind (arith, match_false, amount)

ignored_time : (b : Bool) → (ripe_as (heard_by_schedule b) ≡ Within → ⊥) → (ripe_as (heard_by_schedule b) ≡ Outside → ⊥)
    → ripe_as (heard_by_schedule b) ≡ Ignored
ignored_time true w o = absurd (w refl)
ignored_time false w o = absurd (o refl)

ignored_enough : (b : Bool) → (ripe_as (heard_enough b) ≡ Integrates → ⊥) → ripe_as (heard_enough b) ≡ Ignored
ignored_enough true i = absurd (i refl)
ignored_enough false i = refl

ignored_in : (own : Own) (state : State) (adjustment point : ℤ) (cycle : ℕ) (members : Members) (p : ℤ) (r : Ripe)
    → r ≡ ripe_as (heard_as own.plan p state adjustment point cycle members) → (r ≡ Within → ⊥) → (r ≡ Outside → ⊥) → (r ≡ Integrates → ⊥) → r ≡ Ignored
ignored_in own Off adjustment point cycle members p r e w o i = e
ignored_in own Integrating adjustment point cycle members p r e w o i = e ∙ ignored_enough _ (λ k. i (e ∙ k))
ignored_in own Joining adjustment point cycle members p r e w o i = e ∙ ignored_time _ (λ k. w (e ∙ k)) (λ k. o (e ∙ k))
ignored_in own Synchronised adjustment point cycle members p r e w o i = e ∙ ignored_time _ (λ k. w (e ∙ k)) (λ k. o (e ∙ k))

pub is_ignored : (own : Own) (s : Standing) (frame : Pcf) (point : Units) (r : Ripe) → r ≡ heard_by own s frame point → (r ≡ Within → ⊥) → (r ≡ Outside → ⊥)
    → (r ≡ Integrates → ⊥) → r ≡ Ignored
is_ignored own s frame point r e w o i = ignored_in own s.state s.adjustment.0 point.0 frame.cycle frame.members (pos (amount own.precision)) r e w o i

-- a device that ignores a frame stands as before, but later
pub stands_later : {network : Network} {device : DeviceId} {node : Node} {e : EndSystem} {moment : Moment}
    (phase : Phase) → StandsAsEnd e network device node → IsLaterMoment node.last moment → StandsAsEnd
    (record {
      own = e.own;
      sync = e.sync;
      heard = e.heard;
      agenda = e.agenda;
      rows = e.rows;
      entering = e.entering;
      last = moment;
    }) network device (called moment phase node)
stands_later phase stands later = grind (arith, not_fallen, number_stays, next_point)

module _ {network : Network} {device : DeviceId} {node : Node} {e : EndSystem}
    (stands : StandsAsEnd e network device node) where
  -- it is on
  pub is_on : is_off e.sync.state ≡ false → is_off node.standing.state ≡ false
  is_on on = subst (λ (s : Standing). is_off s.state ≡ false) (sym stands.standing) on

  pub is_not_on : is_off e.sync.state ≡ true → is_off node.standing.state ≡ false → ⊥
  is_not_on off on = both_ways _ (subst (λ (s : Standing). is_off s.state ≡ false) stands.standing on) off

  pub small_now : IsSmall e.sync.adjustment.0
  small_now = subst (λ (s : Standing). IsSmall s.adjustment.0) stands.standing stands.small

-- ---- it is turned on

off_not : (state : State) → state ≡ Off → state ≡ Synchronised → ⊥
off_not state a b = cc

off_point : (state : State) (n k : ℕ) → state ≡ Off → point_in state n ≡ Some k → ⊥
off_point state n k e p = let h : point_in Off n ≡ Some k = subst (λ x. point_in x n ≡ Some k) e p in cc

module _ (network : Network) where
  on_sending : (device : DeviceId) (s : Standing) (changed : ℤ) (done : List ClockTask) (o : Option Appointment)
      → s.state ≡ Off → IsSending network device s changed done o
      → IsSending network device (after s turned_on) changed done o
  on_sending device s changed done None off is = λ master st. no_longer st
  on_sending device s changed done (Some next) off is = absurd (off_not s.state off is.1)

  on_correction : (s : Standing) (changed : ℤ) (done : List ClockTask) (o : Option Appointment) → s.state ≡ Off
      → IsCorrection network s changed done o → IsCorrection network (after s turned_on) changed done o
  on_correction s changed done None off is = λ cycle e. absurd (integrating_point s.number cycle e)
  on_correction s changed done (Some next) off is = absurd (off_point s.state s.number next.cycle off is.0.point)

  on_dispatch : (device : DeviceId) (s : Standing) (changed : ℤ) (done : List ClockTask) (o : Option Dispatch)
      → s.state ≡ Off → IsDispatch network device s changed done o
      → IsDispatch network device (after s turned_on) changed done o
  on_dispatch device s changed done None off is = λ st. absurd (no_longer st)
  on_dispatch device s changed done (Some next) off is = absurd (off_not s.state off is.0)

  frame_still : {s : Standing} (t : Standing) {frame : HeardFrame} → s.plan ≡ t.plan → s.adjustment ≡ t.adjustment
      → IsHeardSo network s frame → IsHeardSo network t frame
  frame_still t p a h = grind arith

  heard_still : (s t : Standing) (o : Option HeardFrame) → s.plan ≡ t.plan → s.adjustment ≡ t.adjustment
      → IfSome o (IsHeardSo network s) → IfSome o (IsHeardSo network t)
  heard_still s t None p a h = tt
  heard_still s t (Some frame) p a h = frame_still t p a h

pub turns_on : {network : Network} {device : DeviceId} {node : Node} {e : EndSystem} (sync : Standing)
    → StandsAsEnd e network device node → node.standing.state ≡ Off → sync ≡ after e.sync turned_on → StandsAsEnd
    (record {
      own = e.own;
      sync = sync;
      heard = e.heard;
      agenda = e.agenda;
      rows = e.rows;
      entering = e.entering;
      last = e.last;
    }) network device (node_turned_on node)
turns_on sync stands off value = grind (arith, heard_still, on_sending, on_correction, on_dispatch)

-- ---- time-triggered frames that arrive at an end system

pub local_range : (reading adjustment local : ℤ) → local ≡ (reading +ℤ adjustment) → pos 0 ≤ℤ reading → reading ≤ℤ pos (2 ^ 60 + 2 ^ 51)
    → neg_ℤ (pos (2 ^ 61)) <ℤ adjustment → adjustment <ℤ pos (2 ^ 61) → (neg_ℤ (pos (2 ^ 62)) <ℤ local) × (local <ℤ pos (2 ^ 62))
local_range reading adjustment local e begun low small great = (omega (arith, ints), omega (arith, ints))

pub above : (x : ℤ) → pos 0 ≤ℤ x → neg_ℤ (pos (2 ^ 40)) ≤ℤ x
above x h = omega (arith, ints)

module _ (network : Network) (device : DeviceId) (node : Node) (e : EndSystem) (moment : Moment) where
  -- the heading of what arrives is judged as the node says
  pub heading_at : (heading : Heading) → StandsAsEnd e network device node → is_off node.standing.state ≡ false
      → heading_fault (standpoint_at node moment).takes_part (standpoint_at node moment).state network.marker heading
      ≡ heading_fault true e.sync.state e.own.marker heading
  heading_at heading stands on = grind (arith, takes_by, is_off)

  pub stands_with : {entering : Intake} {taken : List TakenFrame} → StandsAsEnd e network device node
      → IsLaterMoment node.last moment → HasTaken network device entering taken → StandsAsEnd
      (record {
        own = e.own;
        sync = e.sync;
        heard = e.heard;
        agenda = e.agenda;
        rows = e.rows;
        entering = entering;
        last = moment;
      }) network device (called moment arriving (record node { taken = taken }))
  stands_with stands later are = grind (arith, not_fallen, number_stays, next_point)

  pub clock_is : (local : ℤ) → StandsAsEnd e network device node → pos 0 ≤ℤ moment.reading.0
      → local ≡ (moment.reading.0 +ℤ e.sync.adjustment.0) → local ≡ clock_of (standpoint_at node moment)
  clock_is local stands begun is =
      is ∙ ap (λ (s : Standing). moment.reading.0 +ℤ s.adjustment.0) (sym stands.standing) ∙ ap
      (λ z. z +ℤ node.standing.adjustment.0)
      (whole moment.reading.0 begun)

-- ---- the values of an agenda

amount_least : (low n : ℕ) (z : ℤ) → z ≡ pos n → pos low ≤ℤ z → low ≤ n
amount_least low n z e h = omega (arith, ints)

pub at_least : {low high : ℕ} {u : Units} → IsWithin low high u → low ≤ amount u
at_least {low} {u} h = amount_least low (amount u) u.0 (from_zero low u.0 h.least) h.least

-- ---- the cycle behind a value

pub some_length : (b : ℕ) → 2 ^ 32 ≤ b → 0 < b
some_length b h = omega arith

-- ---- what is next after the clock was set

module _ {network : Network} {device : DeviceId} {own : Own} (n : ℕ) (is : IsOwnOf network device own) where
  length_is : n * amount own.plan.cycle_length ≡ n * amount network.cycle
  length_is = ap (λ (p : SyncPlan). n * amount p.cycle_length) is.plan

  correction_is : n * amount own.plan.cycle_length + amount own.correction
      ≡ n * amount network.cycle + amount network.correction
  correction_is =
      ap (λ k. k + amount own.correction) (length_is) ∙ ap (λ u. n * amount network.cycle + amount u)
      is.correction

same_cycle : (m n : ℕ) → Some m ≡ Some n → m ≡ n
same_cycle m n e = cc

module _ (network : Network) (device : DeviceId) (own : Own) (s : Standing) (local : ℤ) where
  pub next_correction : (next : Appointment) (value : ℕ) → IsOwnOf network device own
      → next_point s ≡ Some next.cycle → value ≡ next.cycle * amount own.plan.cycle_length + amount own.correction
      → local <ℤ pos value → next.at.0 ≡ (pos value -ℤ s.adjustment.0) → IsCorrection network s local [] (Some next)
  next_correction next value is point value_is ahead at = grind (arith, amount, correction_is, none_in, correcting)

  pub passed_correction : (cycle value : ℕ) → IsOwnOf network device own → next_point s ≡ Some cycle
      → value ≡ cycle * amount own.plan.cycle_length + amount own.correction → pos value ≤ℤ local
      → IsCorrection network s local [] None
  passed_correction cycle value is point value_is passed = grind (arith, amount, same_cycle, correction_is)

pub in_sync : (s : Standing) → is_synchronised s.state ≡ true → s.state ≡ Synchronised
in_sync s e = is_in s.state e
