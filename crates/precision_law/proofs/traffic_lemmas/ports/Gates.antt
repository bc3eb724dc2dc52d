-- When frames pass gates, and that none meets a frame of the schedule on a port.
use Rattle.std.{proofs.Common.{MatchBool, max, unsigned_abs}, specs.List.after_last}
use Rattle.compression.specs.{Clusters.{Point, point_at}, Emission.emission, declared.compressed.Compressed.Compressed}
use Rattle.drift_clock.specs.Reach.{IsReach}
use Rattle.precision_law.proofs.{clocks.Readings.permanence_is_sharp}
use Rattle.precision_law.proofs.{law.Precision.{new_shows, old_shows, set_shows, view_at, view_of}}
use Rattle.precision_law.proofs.{records.{Behind.behind_last, Judged.all_judge, Points.point_timed}}
use Rattle.precision_law.proofs.{sizes.Instants.set_clocks_stay_at_correction}
use Rattle.precision_law.proofs.traffic_lemmas.{schedule.Values.{cycle_whole, so_far, so_far_in}}
use Rattle.precision_law.proofs.traffic_lemmas.Words
use Words.{if◌then◌else◌, ◌&&◌, ◌*◌, ◌++◌, ◌+ℤ◌, ◌+◌, ◌-ℤ◌, ◌<ℤ◌, ◌<◌, ◌==◌, ◌||◌, ◌∙◌, ◌∷◌, ◌≡◌, ◌≢◌, ◌≤ℤ◌, ◌≤◌, Bool}
use Words.{BringsBlocks, BringsChannels, ComesTo, Corrected, DeviceId, GivingsKeepAway, Happening, IsBefore, IsCaused}
use Words.{IsDue, IsFounded, IsFoundedAt, IsGood, IsIn, IsInBlock, IsInSpan, IsOldAt, IsRowDispatch, IsTimedAt, IsView}
use Words.{Joining, Judgement, LinkId, List, Network, None, NoteBody, Option, Reason, Scenario, Sizes, Some, Stands}
use Words.{State, Synchronised, TimedAreNotTurnedOn, Units, View, VlId, [], adjustment_left, adjustment_stays, amount}
use Words.{ap, append_assoc, arith, before_narrow, before_of, begins_late, behind_first, between, block_ends, both_ways}
use Words.{by_lt_z, cases_lt, changes_adjustment, clock_of, clocks_reach_sharply, earlier, earlier_before}
use Words.{earlier_parts, epoch_time, eqb-true, false, false_from_ne_true, fold-append, follows_before, founded_at}
use Words.{has_time, in_between, in_left, in_order, in_parts, inl, inr, int_lt, ints, is_end, is_joined_by, is_relay}
use Words.{is_synchronised, is_turned_on_at, key, last_correction, last_setting, le-ltb, length, lt-ltb, members_in}
use Words.{nat_lt, negsuc, none_first, not_less, numbered_in, octet_time, offset_in_cycle, one_device, option_and_then}
use Words.{option_map_or, parted, place_of, port_time, pos, rank, reaches_by, refl, room, setting_is, shown_at}
use Words.{standpoint, start_of, state_after, state_at_start, state_left, state_with, steady, subst, suc, sym, time_of}
use Words.{true, within_run, zero, ℕ, ℤ}
use Rattle.precision_law.proofs.traffic_lemmas.delivery.{Coming.dispatches_are_whole}
use Rattle.precision_law.proofs.traffic_lemmas.delivery.{Forwarding.{no_later, none_last, state_is}}
use Rattle.precision_law.proofs.traffic_lemmas.ports.{Arrived.arrived_sound, Cycles.{same_end, same_next}}
use Rattle.precision_law.proofs.traffic_lemmas.ports.{Openers.opened_by}
use Rattle.precision_law.proofs.traffic_lemmas.ports.Dispatched
use Dispatched.{cycle_is, dispatches_are_in_spans, dispatches_are_of_rows, dispatches_stand_apart, hull_proper}
use Dispatched.{hulls_follow, leavings_stand_apart}
use Rattle.precision_law.proofs.traffic_lemmas.spans.Spans
use Spans.{Keeps, corrected_late, earlier_founded, has_time_at, hull_behind, in_places, kept_by_all, kept_if}
use Spans.{last_is_correction, last_of, no_joining, synchronised_keep_time, synchronised_stay_so, synchronised_stays}
use Rattle.precision_law.specs.{BlockLaws.BlockIsOver, Blocks.HasTimeAt, Hulls.IsOverBefore}
use Rattle.precision_law.specs.{traffic.Ports.{IsLeaving, PortsStayApart}}
use Rattle.run_law.proofs.{records.Order.{contained, given_of, is_earlier, none_any, same_kept}, runs.Places.in_right}
use Rattle.run_law.proofs.{scenario.Devices.master_end}
use Rattle.run_law.specs.{device.States.{adjustment_at_hearing, cycle_in, state_at_hearing}}
use Rattle.run_law.specs.{law.Safety.{IsControlOnPort, IsTtOnPort, time_of_octets}}
use Rattle.run_law.specs.{records.Happenings.{frame_by, happenings}, scenario.Devices.is_cm}
use Rattle.run_law.specs.control.{Corrections.correction_value, Emissions.Emits, Leaving.Gives}
use Rattle.run_law.specs.control.{Permanence.{BecomesPermanent, IsCollectedOrDropped, IsJudgedBy, ripe_as}}
use Rattle.run_law.specs.control.Collections
use Collections.{ends_stretch, master_of, observation_window, point_by, point_fault, points_of}
use Rattle.schedule_tables.specs.Margins.{compression_time}
use Rattle.tte_units.{proofs.general_lemmas.Integers.{whole, whole as not_negative}}
use Rattle.tte_units.{specs.declared.frames.members.Members.Members}
use Rattle.run_law.specs.declared.judgement.Judgement.TheVariants as judgements
use Rattle.run_law.specs.declared.judgement.Why.TheVariants as whys
use Rattle.run_law.specs.declared.note.NoteBody.TheVariants as notes
use Rattle.run_law.specs.declared.steps.Ripe.TheVariants as ripe

-- ---- no frame meets a frame of the schedule on a port: what occupies a port

-- a frame of the schedule occupies the port at the time
record IsTtThen (s : Scenario) (h : Happening) (device : DeviceId) (link : LinkId) (t : ℕ) : Type 0 where
  pub cause : ℕ
  pub vl : VlId
  pub cycle : ℕ
  pub is : h.note.body ≡ notes.TtSent device link cause vl cycle
  pub from : time_of h ≤ t
  pub to : t < time_of h + time_of_octets s.network link (length h.octets)

-- what says so is such a record
tt_then : (s : Scenario) (h : Happening) (device : DeviceId) (link : LinkId) (t : ℕ) (body : NoteBody) → h.note.body ≡ body → IsTtOnPort s h body device link t
    → IsTtThen s h device link t
tt_then s h device link t (notes.TtSent sender by cause vl cycle) same on = grind arith
tt_then s h device link t body same on = absurd on

-- a control frame does
record IsControlThen (s : Scenario) (h : Happening) (device : DeviceId) (link : LinkId) (t : ℕ) : Type 0 where
  pub cause : ℕ
  pub clock : ℕ
  pub is : h.note.body ≡ notes.Left device link cause clock
  pub from : time_of h ≤ t
  pub to : t < time_of h + time_of_octets s.network link 60

-- what says so is such a record
control_then : (s : Scenario) (h : Happening) (device : DeviceId) (link : LinkId) (t : ℕ) (body : NoteBody) → h.note.body ≡ body
    → IsControlOnPort s h body device link t → IsControlThen s h device link t
control_then s h device link t (notes.Left sender by cause clock) same on = grind arith
control_then s h device link t body same on = absurd on

-- how long a frame of the schedule does
row_time : {v : View} {h : Happening} {device : DeviceId} {link : LinkId} {cause : ℕ} {vl : VlId} {cycle : ℕ}
    → IsView v → (d : IsRowDispatch v h device link cause vl cycle)
    → time_of_octets v.scenario.network link (length h.octets) ≡ port_time d.entry
row_time {v} {h} {device} {link} {cause} {vl} {cycle} is d =
    rw (rw d.by at d.row.link)
    (ap (λ n. (n + 24) * octet_time d.entry.link.speed) (dispatches_are_whole v h device link cause vl cycle is d))

-- ---- ports

-- a record of one number is one
not_same : (h g : Happening) → h.note.number ≢ g.note.number → h ≡ g → ⊥
not_same h g differ same = differ (rw same)

pub ports_stay_apart : BringsBlocks → BringsChannels → GivingsKeepAway → PortsStayApart
ports_stay_apart brings channels away s mark ns until run h g device link t i j differ correct on other =
    let hs = happenings s.network ns in
    let u = max (time_of h) (time_of g) in
    let in_run : u ≤ until = omega (arith, run.within h i, run.within g j) in
    let channel = channels.sound s u run.up.lawful in
    let at = view_at u channel.0 run.up in_run channel.1 in
    let v = view_of s hs u channel.0 at in
    let here = at.cut.has h i (omega arith) in
    let there = at.cut.has g j (omega arith) in
    let first = tt_then s h device link t h.note.body refl on in
    let d = dispatches_are_of_rows v h device link first.cause first.vl first.cycle at.is here first.is in
    let size = row_time at.is d in
    let later : View = record { scenario = s; until = t; records = at.cut.front; sizes = v.sizes; channel = channel.0 } in
    let good_at : u ≤ t → IsGood v device = λ le. channels.correct later device u correct le in
    elim other [
      | inl two ↦
          let second = tt_then s g device link t g.note.body refl two in
          let e = dispatches_are_of_rows v g device link second.cause second.vl second.cycle at.is there second.is in
          let length_is = row_time at.is e in
          elim (dispatches_stand_apart brings v h g device link first.cause second.cause first.vl second.vl first.cycle second.cycle at.is
          (good_at (omega (arith, first.from, second.from))) (not_same h g differ) d e) [
            | inl before ↦ omega (arith, first.to, second.from)
            | inr behind ↦ omega (arith, second.to, first.from)
          ]
      | inr two ↦
          let second = control_then s g device link t g.note.body refl two in
          let leaving : IsLeaving v g device link second.cause second.clock = record { there = there; is = second.is } in
          elim (leavings_stand_apart brings away v h g device link first.cause second.cause second.clock first.vl first.cycle at.is
          (good_at (omega (arith, first.from, second.from))) d leaving) [
            | inl before ↦ omega (arith, first.to, second.from)
            | inr behind ↦ omega (arith, second.to, first.from)
          ]
    ]

-- ---- what a synchronised compression master sends was opened by a frame that passed its gate: the opener's record

-- the record of a frame that was permanent at the device gives this point
record IsPermanentRecord (device : DeviceId) (h : Happening) (reading : ℤ) : Type 0 where
  pub link : LinkId
  pub cause : ℕ
  pub point : Units
  pub verdict : Judgement
  pub is : h.note.body ≡ notes.Permanent device link cause point verdict
  pub reads : reading ≡ point.0

-- the point that a test lets through
made_of : (b : Bool) (point : Point) (o : Point) → (if b then Some point else None) ≡ Some o → (b ≡ true) × (point ≡ o)
made_of true point o e = (refl, cc)
made_of false point o e = absurd cc

-- a record that gives a point is such a record
permanent_record : (device : DeviceId) (h : Happening) (body : NoteBody) (o : Point) → h.note.body ≡ body → point_by device h body ≡ Some o
    → IsPermanentRecord device h o.reading
permanent_record device h (notes.Permanent other link cause point verdict) o same e =
    let made = made_of (device.0 == other.0) (point_at point.0 (master_of (members_in h)) (cycle_in h)) o e in
    record {
      link = link;
      cause = cause;
      point = point;
      verdict = verdict;
      is = same ∙ ap (λ d. notes.Permanent d link cause point verdict) (one_device device other made.0);
      reads = rw (sym made.1);
    }
permanent_record device h body o same e = absurd cc

-- ---- the stretch

-- a record of a later place than another, of its time at the earliest, and of a higher rank
lower_rank : (t u a b : ℕ) (xs ys : List ℕ) → u ≤ t → b < a → IsBefore (t ∷ a ∷ xs) (u ∷ b ∷ ys) → ⊥
lower_rank t u a b xs ys le less (inl lt) = absurd (omega arith)
lower_rank t u a b xs ys le less (inr (e, inl lt)) = absurd (omega arith)
lower_rank t u a b xs ys le less (inr (e, inr more)) = absurd (omega (arith, more.0))

-- does the record itself change the device's state, other than by turning it on?
abbrev changes_state : DeviceId → NoteBody → Bool
changes_state device (notes.State other state cause whys.On) = false
changes_state device (notes.State other state cause why) = device.0 == other.0
changes_state device body = false

-- such a record ends a stretch
change_ends : (device : DeviceId) (body : NoteBody) → changes_state device body ≡ true → ends_stretch device body ≡ true
change_ends device (notes.State other state cause whys.On) e = absurd cc
change_ends device (notes.State other state cause why) e = e
change_ends device body e = absurd cc

-- and has a high rank
ending_rank : (device : DeviceId) (body : NoteBody) → changes_state device body ≡ true → rank body ≡ 7
ending_rank device (notes.State other state cause why) e = refl
ending_rank device body e = absurd cc

-- what does not change its state makes no device synchronised
keeps_stretch : (s : Scenario) (ps : List Happening) (time : Units) (device : DeviceId) (body : NoteBody) → changes_state device body ≡ false
    → IsCaused s ps time body → Keeps device body
keeps_stretch s ps time device (notes.State other state cause whys.On) e c old timed =
    kept_if (device.0 == other.0) state old (λ same is. (cc)) timed
keeps_stretch s ps time device (notes.State other state cause why) e c old timed = kept_if (device.0 == other.0) state old (λ same is. both_ways _ e same) timed
keeps_stretch s ps time device (notes.Permanent other link cause point judgements.Integrates) e c old timed =
    kept_if (device.0 == other.0) Joining old (λ same is. cc) timed
keeps_stretch s ps time device (notes.Compressed other opened own cycle members judgements.Integrates) e c old timed =
    kept_if (device.0 == other.0) Joining old (λ same is. cc) timed
keeps_stretch s ps time device body e c old timed = timed

-- in a stretch a device that is synchronised later was so before
stretch_back : {v : View} (device : DeviceId) (q t : ℕ) → IsView v → q ≤ t
    → ((h : Happening) → IsIn h v.records → q ≤ time_of h → time_of h < t → changes_state device h.note.body ≡ false)
    → state_left v device t ≡ Synchronised → state_left v device q ≡ Synchronised
stretch_back {v} device q t is le none timed =
    let parts = earlier_parts q t v.records (in_order is) le in
    let whole : state_after v.scenario (earlier q v.records ++ between q t v.records) device ≡ Synchronised =
    rw parts at timed in
    let apart = fold-append (λ state h. state_with device state h.note.body)
    (state_at_start (start_of v.scenario.network device))
    (earlier q v.records) (between q t v.records) in
    kept_by_all device (between q t v.records) (λ h i.
    let there = in_between q t v.records h i in
    let at = founded_at v.scenario v.records h is.run.founded there.0 in
    keeps_stretch v.scenario at.front h.note.time device h.note.body (none h there.0 there.1 there.2) at.due.cause)
    (state_after v.scenario (earlier q v.records) device) (rw apart at whole)

-- ---- the gate

-- no frame that is permanent is dropped
never_dropped : (reason : Reason) (j : Judgement) → ripe_as j ≡ ripe.Dropped reason → ⊥
never_dropped reason judgements.Opened e = cc
never_dropped reason other e = cc

-- so a compression master has found no fault of it
no_fault : (network : Network) (points : List Point) (point : Point) (o : Option Reason) (j : Judgement)
    → IsCollectedOrDropped network points point o (ripe_as j) → o ≡ None
no_fault network points point (Some reason) j c = absurd (never_dropped reason j c)
no_fault network points point None j c = refl

-- what holds of a compression master
by_cm : (b : Bool) (P Q : Type 0) → b ≡ true → MatchBool b P Q → P
by_cm true P Q e m = m
by_cm false P Q e m = absurd cc

-- the dispatch lies near the beginning of a cycle, by the clock of the device
abbrev pub PassesGate : Network → ℤ → Type 0
PassesGate network value =
    offset_in_cycle network ((value -ℤ pos (amount network.dmax)) +ℤ pos (2 * amount network.precision)) ≤ℤ pos (4 * amount network.precision)

-- a frame without a fault has passed the gate of a synchronised device
gate_of : (network : Network) (state : State) (adjustment point : ℤ) (cycle : ℕ) → state ≡ Synchronised
    → point_fault network state adjustment point cycle ≡ None → PassesGate network (point +ℤ adjustment)
gate_of network state adjustment point cycle timed none = grind (arith, none_first, is_synchronised, int_lt, amount, offset_in_cycle, not_less)

-- ---- hearing

module _ {v : View} (device : DeviceId) {h : Happening} (is : IsView v) (found : IsFoundedAt v.scenario v.records h)
    (timed : state_left v device (time_of h) ≡ Synchronised)
    (off : is_turned_on_at v.scenario device (time_of h) ≡ false) where
  -- before its frame a synchronised device has joined by none of the same time
  none_joined : (x : Happening) → IsIn x found.front → time_of x ≡ time_of h → is_joined_by device x.note.body ≡ false
  none_joined x i same =
      no_joining device x is (subst (IsIn x) (sym found.whole) (in_left x found.front (h ∷ found.rest) i))
      (rw same timed)
      (rw same off)

  -- it hears it synchronised
  heard_state : state_at_hearing v.scenario found.front device (time_of h) ≡ Synchronised
  heard_state =
      let s = v.scenario in
      let t = time_of h in
      let none =
      none_any (λ x. time_of x == t && is_joined_by device x.note.body) found.front (λ x i.
      false_from_ne_true (time_of x == t && is_joined_by device x.note.body) (λ both.
      let parts = both_parts (time_of x == t) (is_joined_by device x.note.body) both in
      both_ways _ (none_joined x i (eqb-true (time_of x) t parts.0)) parts.1)) in
      let same = earlier_before (before_of is found) in
      let left : state_after s (earlier t found.front) device ≡ Synchronised =
      rw same timed in
      rw (none, off) left
    where
      both_parts : (x y : Bool) → (x && y) ≡ true → (x ≡ true) × (y ≡ true)
      both_parts true y e = (refl, e)
      both_parts false y e = absurd cc

  -- and with the adjustment that the earlier records leave
  heard_adjustment : (adjustment_at_hearing v.scenario found.front device (time_of h)).0
      ≡ adjustment_left v device (time_of h)
  heard_adjustment =
      let s = v.scenario in
      let t = time_of h in
      let split = before_of is found in
      let kept =
      same_kept (λ x. nat_lt (time_of x) t || is_joined_by device x.note.body) (λ x. nat_lt (time_of x) t)
      found.front (λ x i.
      elim (cases_lt (time_of x) t) [
        | inl lt ↦ (let less = lt-ltb (time_of x) t lt in rw less refl)
        | inr ge ↦
            let most = split.only x i in
            let none = none_joined x i (omega arith) in
            let more = le-ltb (time_of x) t ge in
            rw (more, none) refl
      ]) in
      rw (kept ∙ earlier_before split)

-- ---- the opener of what is sent

-- the frame that opened the cluster, at q: the device was synchronised then and the frame passed its gate
pub record IsOpenedAt (v : View) (device : DeviceId) (t : ℕ) (emitted : ℤ) : Type 0 where
  pub q : ℕ
  pub before : q ≤ t
  pub point : ℤ
  pub stretch : (u : ℕ) → q ≤ u → u ≤ t → state_left v device u ≡ Synchronised
  pub late : emitted ≤ℤ (point +ℤ pos (2 * v.sizes.precision + v.sizes.compression))
  pub least : point ≤ℤ pos (v.scenario.reading device q)
  pub most : pos (v.scenario.reading device q) ≤ℤ (point +ℤ pos (2 * v.sizes.grain))
  pub gate : PassesGate v.scenario.network (point +ℤ adjustment_left v device q)

-- of a record that is permanent while the device is synchronised
opened_then : {v : View} {device : DeviceId} {r : Happening} {reading : ℤ} (emitted : ℤ) (t : ℕ)
    → ((d : DeviceId) (u : ℕ) → state_left v d u ≡ Synchronised → is_turned_on_at v.scenario d u ≡ false) → IsView v
    → is_cm v.scenario.network device ≡ true → IsIn r v.records → IsPermanentRecord device r reading → time_of r ≤ t
    → ((u : ℕ) → time_of r ≤ u → u ≤ t → state_left v device u ≡ Synchronised)
    → emitted ≤ℤ (reading +ℤ pos (2 * v.sizes.precision + v.sizes.compression)) → IsOpenedAt v device t emitted
opened_then {v} {device} {r} emitted t never is cm i record_is le stretch late =
    let s = v.scenario in
    let n = s.network in
    let q = time_of r in
    let timed = stretch q (omega arith) le in
    let found = founded_at s v.records r is.run.founded i in
    let caused : BecomesPermanent s found.front device q record_is.link record_is.cause record_is.point (ripe_as record_is.verdict) = subst
    (IsCaused s found.front r.note.time) record_is.is found.due.cause in
    let p = caused.permanent in
    let off = never device q timed in
    let arrival_there : IsIn p.arrival v.records = subst (IsIn p.arrival) (sym found.whole)
    (in_left p.arrival found.front (r ∷ found.rest) (numbered_in found.front record_is.cause p.arrival p.there)) in
    let sound = arrived_sound device record_is.link p.from p.clock is
    (founded_at s v.records p.arrival is.run.founded arrival_there) p.arrived in
    let dmax = not_negative n.dmax.0 (omega (arith, ints, is.lawful.range.dmax.least)) in
    let ripe_at = permanence_is_sharp v.sizes (s.reading device) (time_of p.arrival) record_is.point.0 q (steady v is device)
    (omega (arith, ints, p.at_point, sound.young)) p.reached in
    let of_frame : r.frame ≡ Some caused.frame =
    ap (λ x. x.frame) found.due.same ∙ ap (frame_by n found.front) record_is.is ∙ ap
    (λ (o : Option Happening). option_and_then (λ x. x.frame) o)
    p.there ∙ p.of_frame in
    let members : members_in r ≡ caused.frame.members.0 = ap (λ o. option_map_or (λ f. f.members.0) o 0) of_frame in
    let place : place_of r ≡ q ∷ 3 ∷ device.0 ∷ amount record_is.point ∷ caused.frame.members.0 ∷ record_is.link.0 ∷ record_is.cause ∷ [] =
    ap (λ b. q ∷ rank b ∷ key (members_in r) b) record_is.is
    ∙ ap (λ m. q ∷ 3 ∷ device.0 ∷ amount record_is.point ∷ m ∷ record_is.link.0 ∷ record_is.cause ∷ []) members in
    let judged = all_judge found.front q device record_is.link record_is.cause caused.frame record_is.point
    (λ h j. subst (IsBefore (place_of h)) place ((is.run.founded found.front found.rest r found.whole).0 h j)) in
    let becomes : IsJudgedBy s found.front device q caused.frame record_is.point (ripe_as record_is.verdict) =
    rw judged at caused.becomes in
    let collected = by_cm (is_cm n device) _ _ cm becomes in
    let state = heard_state device is found timed off in
    let adjustment = heard_adjustment device is found timed off in
    let none = no_fault n (points_of found.front device) (point_at record_is.point.0 (master_of caused.frame.members.0) caused.frame.cycle) _ record_is.verdict
    collected in
    let gate = gate_of n (state_at_hearing s found.front device q) (adjustment_at_hearing s found.front device q).0 record_is.point.0 caused.frame.cycle state
    none in
    record {
      q = q;
      before = le;
      point = record_is.point.0;
      stretch = stretch;
      late = omega (arith, ints, record_is.reads);
      least = ripe_at.least;
      most = ripe_at.most;
      gate = rw adjustment at gate;
    }

-- behind the opener no record before the sending changes the state
ends_none : {v : View} {device : DeviceId} {r : Happening} (g h : Happening)
    (front between_them rest : List Happening) {reading : ℤ} → IsView v
    → v.records ≡ front ++ r ∷ (between_them ++ g ∷ rest) → IsPermanentRecord device r reading
    → time_of r ≤ time_of h → time_of h < time_of g → changes_state device h.note.body ≡ true
    → ((x : Happening) → IsIn x between_them → ends_stretch device x.note.body ≡ false)
    → ((x : Happening) → IsIn x rest → time_of g ≤ time_of x) → IsIn h v.records → ⊥
ends_none {device} {r} g h front between_them rest is whole record_is late early e none later i =
    let high = ending_rank device h.note.body e in
    let low : rank r.note.body ≡ 3 = ap rank record_is.is in
    elim (in_parts h front (r ∷ (between_them ++ g ∷ rest)) (subst (IsIn h) whole i)) [
      | inl before ↦
          let order = (is.run.founded front (between_them ++ g ∷ rest) r whole).0 h before in
          lower_rank (time_of h) (time_of r) (rank h.note.body) (rank r.note.body) (key (members_in h) h.note.body) (key (members_in r) r.note.body) late
          (omega arith) order
      | inr (inl same) ↦ (let equal : rank h.note.body ≡ rank r.note.body = rw same in omega arith)
      | inr (inr more) ↦ elim (in_parts h between_them (g ∷ rest) more) [
        | inl between ↦ both_ways _ (none h between) (change_ends device h.note.body e)
        | inr (inl same) ↦ (let equal : time_of h ≡ time_of g = ap time_of same in omega arith)
        | inr (inr behind) ↦ (let up = later h behind in omega arith)
      ]
    ]

-- what a synchronised compression master sends was opened so
pub emission_opened : TimedAreNotTurnedOn → {v : View} (device : DeviceId) (g : Happening) (opened at : Units)
    (cycle : ℕ) (members : Members) (verdict : Judgement) → IsView v → IsIn g v.records
    → g.note.body ≡ notes.Compressed device opened at cycle members verdict
    → state_left v device (time_of g) ≡ Synchronised → IsOpenedAt v device (time_of g) at.0
    × IsReach (v.scenario.reading device) (pos 0) at.0 (pos (time_of g))
emission_opened never {v} device g opened at cycle members verdict is i body timed =
    let s = v.scenario in
    let n = s.network in
    let t = time_of g in
    let found = founded_at s v.records g is.run.founded i in
    let caused : Emits s found.front device t (record { opened = opened; at = at; cycle = cycle; members = members }) verdict = subst
    (IsCaused s found.front g.note.time) body found.due.cause in
    let opener = opened_by (observation_window n) (points_of found.front device) caused.clusters caused.cluster (omega (arith, ints)) caused.are caused.there in
    let ends = λ (h : Happening). ends_stretch device h.note.body in
    let kept = after_last ends found.front in
    let made = given_of (λ h. point_by device h h.note.body) kept opener.opener
    (contained (points_of found.front device) opener.opener opener.there) in
    let r = made.0 in
    let record_is = permanent_record device r r.note.body opener.opener refl made.2 in
    let behind = behind_last ends found.front in
    let parts = parted r kept made.1 in
    let front_is = behind.whole ∙ ap (λ xs. behind.front ++ xs) parts.2 in
    let whole =
    found.whole ∙ ap (λ xs. xs ++ g ∷ found.rest) front_is ∙ append_assoc behind.front (parts.0 ++ r ∷ parts.1)
    (g ∷ found.rest)
    ∙ ap (λ xs. behind.front ++ xs) (append_assoc parts.0 (r ∷ parts.1) (g ∷ found.rest))
    ∙ sym (append_assoc behind.front parts.0 (r ∷ (parts.1 ++ g ∷ found.rest))) in
    let in_kept_rest : (x : Happening) → IsIn x parts.1
    → ends x ≡ false = λ x j. behind.others x (subst (IsIn x) (sym parts.2) (in_right x parts.0 (r ∷ parts.1) (inr j))) in
    let r_front : IsIn r found.front = subst (IsIn r) (sym front_is)
    (in_right r behind.front (parts.0 ++ r ∷ parts.1) (in_right r parts.0 (r ∷ parts.1) (inl refl))) in
    let r_in : IsIn r v.records = subst (IsIn r) (sym found.whole) (in_left r found.front (g ∷ found.rest) r_front) in
    let split = before_of is found in
    let r_early = split.only r r_front in
    let none : (h : Happening) → IsIn h v.records → time_of r ≤ time_of h → time_of h < t → changes_state device h.note.body ≡ false = λ h j late early.
    false_from_ne_true (changes_state device h.note.body) (λ e.
    ends_none g h (behind.front ++ parts.0) parts.1 found.rest is whole record_is late early e in_kept_rest
    (λ x k. no_later g x
    (inr (behind_first place_of (IsDue s) found.front found.rest g x (subst (IsFounded place_of (IsDue s)) found.whole is.run.founded) k))) j) in
    let stretch : (u : ℕ) → time_of r ≤ u → u ≤ t → state_left v device u ≡ Synchronised = λ u from to.
    stretch_back device u t is to (λ h j late early. none h j (omega arith) early) timed in
    let is_at : at.0 ≡ emission (observation_window n) (pos (amount n.calc)) caused.cluster = ap (λ (c : Compressed). c.at.0) caused.is in
    let precision : v.sizes.precision ≡ amount n.precision = ap (λ (x : Sizes). x.precision) is.sizes in
    let compression : v.sizes.compression ≡ compression_time n = ap (λ (x : Sizes). x.compression) is.sizes in
    let late : at.0 ≤ℤ (opener.opener.reading +ℤ pos (2 * v.sizes.precision + v.sizes.compression)) = omega
    (arith, ints, opener.opens, opener.middle) in (
      opened_then at.0 t (λ d u up. never v d u is (ap has_time up)) is caused.cm r_in record_is r_early stretch late,
      caused.reached,
    )

-- ---- a switch that dispatches a frame gives no control frame to a link in the span of the cycle, until just before the next

-- ---- gates

-- a value that lies in a cycle far from its beginning passes no gate
off_gate : {v : View} (cycle : ℕ) (value : ℤ) → IsView v → PassesGate v.scenario.network value
    → (pos (cycle * v.sizes.cycle) +ℤ pos (v.sizes.dmax + 2 * v.sizes.precision)) <ℤ value
    → value <ℤ (pos (cycle * v.sizes.cycle + v.sizes.cycle + v.sizes.dmax) -ℤ pos (2 * v.sizes.precision)) → ⊥
off_gate {v} cycle value is gate low high =
    let n = v.scenario.network in
    let dmax : v.sizes.dmax ≡ amount n.dmax = rw is.sizes in
    let precision : v.sizes.precision ≡ amount n.precision = rw is.sizes in
    let z : ℤ = (value -ℤ pos (amount n.dmax)) +ℤ pos (2 * amount n.precision) in
    let far = so_far z (cycle * v.sizes.cycle) v.sizes.cycle (omega (arith, ints)) (omega (arith, ints)) in
    let is_far = so_far_in n v.sizes.cycle z cycle far.0 (cycle_whole is) far.1 far.2 in
    omega (arith, ints, is_far.place_is, far.1)

-- ---- the device in the span

-- it is synchronised, and its clock was set before the span
timed_in_span : BringsBlocks → TimedAreNotTurnedOn → {v : View} {n t u : ℕ} {device : DeviceId}
    (one : IsInSpan v n t) (two : IsInSpan v n u) → IsView v → IsTimedAt v device t → IsTimedAt v device u
timed_in_span brings never {v} {n} {t} {u} {device} one two is timed =
    let keep = synchronised_keep_time brings v n t one device is timed in
    let same = same_next one.block.before two.block.before in
    elim (cases_lt t u) [
      | inl lt ↦
          let old : IsOldAt v two.block.before.next device t = rw same at keep.old in
          (synchronised_stay_so brings never v n t u two device is (omega (arith, one.block.from)) (omega arith) timed
          old).0
      | inr ge ↦
          let old : epoch_time (earlier t v.records) device <ℤ pos u = omega (arith, ints, keep.old, two.block.from) in
          record { good = timed.good; synchronised = synchronised_stays device u t is ge old timed.synchronised }
    ]

-- what it shows there
record ShowsThere (v : View) (n t : ℕ) (device : DeviceId) : Type 0 where
  pub least : (pos (n * v.sizes.cycle + v.sizes.correction + 2 * v.sizes.grain + 1)) ≤ℤ shown_at v device t
  pub most : (shown_at v device t +ℤ pos (2 * v.sizes.precision)) <ℤ pos (n * v.sizes.cycle + v.sizes.cycle)

-- a synchronised device shows this
shows_there : BringsBlocks → {v : View} (c : ℕ) {t : ℕ} {device : DeviceId} (span : IsInSpan v (suc c) t) → IsView v
    → IsTimedAt v device t → (pos t +ℤ pos (3 * v.sizes.precision)) <ℤ
    (span.block.before.hull.least +ℤ pos v.sizes.cycle) → ShowsThere v (suc c) t device
shows_there brings {v} c {t} {device} span is timed early =
    let keep = synchronised_keep_time brings v (suc c) t span device is timed in
    let late = begins_late c span.block.before is in
    let space = room is in
    record {
      least = omega (arith, ints, keep.shows.least, span.block.from, space.errors.reach_is);
      most = omega (arith, ints, keep.shows.most, space.errors.reach_is, space.errors.clock_is, space.eight_errors);
    }

-- ---- relays

-- the last part of a test that fails
last_false : (a b c : Bool) → a ≡ true → b ≡ true → ((a && b) && c) ≡ false → c ≡ false
last_false true true c e f g = g
last_false true false c e f g = absurd cc
last_false false b c e f g = absurd cc

-- a relay that shows this passes no control frame
relay_shut : TimedAreNotTurnedOn → {v : View} {n : ℕ} (g : Happening) {device : DeviceId} (by : LinkId)
    (cause clock : ℕ) → IsView v → IsIn g v.records → g.note.body ≡ notes.Arrived device by cause clock
    → is_relay v.scenario.network device ≡ true → state_left v device (time_of g) ≡ Synchronised
    → ShowsThere v n (time_of g) device → ⊥
relay_shut never {v} {n} g {device} by cause clock is i body relay timed shows =
    let s = v.scenario in
    let t = time_of g in
    let found = founded_at s v.records g is.run.founded i in
    let sound = arrived_sound device by cause clock is found body in
    let same = earlier_before (before_of is found) in
    let left : state_after s (earlier t found.front) device ≡ Synchronised = rw same timed in
    let at = standpoint s found.front device t in
    let state = state_is (is_turned_on_at s device t) (state_after s (earlier t found.front) device)
    (never v device t is (ap has_time timed)) left in
    let shown : clock_of at ≡ shown_at v device t = rw same in
    let not_beyond = last_false (is_relay s.network device) (is_synchronised at.state)
    (int_lt (pos (amount s.network.correction + 2 * amount s.network.precision))
    (offset_in_cycle s.network (clock_of at +ℤ pos (2 * amount s.network.precision)))) relay (ap is_synchronised state) sound.unshut in
    let most = not_less (pos (amount s.network.correction + 2 * amount s.network.precision))
    (offset_in_cycle s.network (clock_of at +ℤ pos (2 * amount s.network.precision))) not_beyond in
    let correction : v.sizes.correction ≡ amount s.network.correction = rw is.sizes in
    let precision : v.sizes.precision ≡ amount s.network.precision = rw is.sizes in
    let z = clock_of at +ℤ pos (2 * amount s.network.precision) in
    let far = so_far z (n * v.sizes.cycle) v.sizes.cycle (omega (arith, ints, shows.least))
    (omega (arith, ints, shows.most)) in
    let is_far = so_far_in s.network v.sizes.cycle z n far.0 (cycle_whole is) far.1 far.2 in
    omega (arith, ints, is_far.place_is, far.1, shows.least)

-- ---- compression masters

-- the block of an earlier cycle ends before the span begins
over_before : {v : View} (k n x : ℕ) (stands : Stands v n) → IsView v → suc k ≤ n → IsOverBefore v (suc k) x
    → x ≤ stands.next
over_before k zero x stands is le over = absurd (omega arith)
over_before {v} k (suc m) x stands is le over =
    let last = stands.is_over in
    elim (cases_lt k m) [
      | inl lt ↦
          let follow =
          hulls_follow k m over.0 last.0 is lt (λ c le. stands.narrow c (omega arith)) over.1 last.1 in
          let proper = hull_proper m last.0 is last.1 in
          omega (arith, ints, over.2, last.2)
      | inr ge ↦
          let same : k ≡ m = omega arith in
          omega (arith, same_end v (suc m) x stands.next (rw same at over) last)
    ]

-- a setting before a time is not behind the last
setting_bound : {v : View} (device : DeviceId) (q : ℕ) (h : Happening) → IsView v → IsIn h v.records → time_of h < q
    → changes_adjustment device h.note.body ≡ true → pos (time_of h) ≤ℤ epoch_time (earlier q v.records) device
setting_bound {v} device q h is i lt sets = by (last_setting (earlier q v.records) device) refl
  where
    by : (o : Option Happening) → last_setting (earlier q v.records) device ≡ o → pos (time_of h) ≤ℤ option_map_or (λ g. pos (time_of g)) o (negsuc 0)
    by None e = absurd (none_last (λ g. changes_adjustment device g.note.body) (earlier q v.records) h e (is_earlier q v.records h i lt) sets)
    by (Some r) e =
        let order = no_later h r (last_of (λ g. changes_adjustment device g.note.body) None (earlier q v.records) r h
        (in_places v.scenario [] (earlier q v.records) (earlier_founded q is)) e (is_earlier q v.records h i lt)
        sets) in
        omega (arith, ints)

-- the correction of a device that was old before it, at its point of the block
record IsPointReached (v : View) (j w : ℕ) (device : DeviceId) (q : ℕ) : Type 0 where
  pub not_before : q ≤ w
  pub reads : pos (suc j * v.sizes.cycle + v.sizes.correction) ≤ℤ (pos (v.scenario.reading device w) +ℤ adjustment_left v device q)

-- a synchronised device whose clock was set before the block has had its point when the block is over
point_reached : BringsBlocks → {v : View} {j q : ℕ} (block : IsInBlock v j q) (device : DeviceId) → IsView v
    → IsGood v device → state_left v device q ≡ Synchronised → IsOldAt v block.before.next device q
    → block.next ≤ v.until + 1 → state_left v device block.next ≡ Synchronised
    → (w : ℕ) × (w < block.next) × IsPointReached v j w device q
point_reached brings {v} {j} {q} block device is good timed old in_run after =
    let over : BlockIsOver v j = record { before = block.before; next = block.next; is_over = block.is_over; in_run = in_run } in
    let later =
    has_time_at (record { good = good; synchronised = after }) in
    by (last_setting (earlier block.next v.records) device) refl (brings.come v j over device is later)
  where
    by : (o : Option Happening) → last_setting (earlier block.next v.records) device ≡ o → pos block.before.next ≤ℤ option_map_or (λ h. pos (time_of h)) o
        (negsuc 0) → (w : ℕ) × (w < block.next) × IsPointReached v j w device q
    by None e new = absurd (omega (arith, ints))
    by (Some h) e new =
        let s = v.scenario in
        let at = setting_is v device block.next h e in
        let w = time_of h in
        let set = last_is_correction device block.next h is after e in
        let found = founded_at s v.records h is.run.founded at.there in
        let split = before_of is found in
        let cause : IsCaused s found.front h.note.time (notes.Corrected device set.cycle set.by set.adjustment) = subst (IsCaused s found.front h.note.time)
        set.is found.due.cause in
        let has : HasTimeAt v device w = record { good = good; timed = point_timed split cause.corrected }
        in
        let comes : ComesTo v w device set.cycle (Corrected set.by) = record { front = found.front; split = split; point = cause.corrected } in
        let here : IsInBlock v j w = record {
          before = block.before;
          next = block.next;
          is_over = block.is_over;
          from = omega (arith, ints);
          to = at.early;
          in_run = within_run is h at.there;
        } in
        let so = brings.goes v j w here is in
        let was_old = so.old_alone device set.cycle (Corrected set.by) has comes (λ e. cc) in
        let point = so.points device set.cycle (Corrected set.by) has was_old comes in
        let not_before : q ≤ w = elim (cases_lt w q) [
          | inl lt ↦ (let bound = setting_bound device q h is at.there lt at.sets in
              absurd (omega (arith, ints)))
          | inr ge ↦ ge
        ] in
        let early : epoch_time (earlier w v.records) device <ℤ pos q = omega (arith, ints, block.from) in
        let same : adjustment_left v device q ≡ adjustment_left v device w =
        ap (λ a. a.0) (adjustment_stays device q w is not_before early) in
        let reached = reaches_by v.records (earlier_before split)
        cause.corrected.reached in
        let sharp = clocks_reach_sharply v device (correction_value s.network set.cycle) w is reached in
        let cycle = cycle_is is in
        let correction : v.sizes.correction ≡ amount s.network.correction = rw is.sizes in
        let value : set.cycle * amount s.network.cycle + amount s.network.correction ≡ suc j * v.sizes.cycle + v.sizes.correction =
        rw point.of_cycle (ap (λ x. suc j * x + amount s.network.correction)
        (sym cycle) ∙ ap (λ x. suc j * v.sizes.cycle + x) (sym correction)) in
        (w, at.early, record { not_before = not_before; reads = omega (arith, ints, sharp.least) })

-- what an opener before the span leads to: the emission reading is below that of a correction point
opener_far : BringsBlocks → {v : View} {j q : ℕ} (block : IsInBlock v j q) {device : DeviceId} (point : ℤ) → IsView v
    → IsTimedAt v device q → point ≤ℤ pos (v.scenario.reading device q)
    → pos (v.scenario.reading device q) ≤ℤ (point +ℤ pos (2 * v.sizes.grain))
    → PassesGate v.scenario.network (point +ℤ adjustment_left v device q) → IsOldAt v block.before.next device q
    × ((point +ℤ adjustment_left v device q) ≤ℤ pos (suc j * v.sizes.cycle + v.sizes.dmax + 2 * v.sizes.precision))
opener_far brings {v} {j} {q} block {device} point is timed least most gate =
    let space = room is in
    let has = has_time_at timed in
    let ends = block_ends v j block.next block.before.hull block.before.is_hull block.is_over in
    let narrow = before_narrow block.before in
    let one : suc j * v.sizes.cycle ≡ j * v.sizes.cycle + v.sizes.cycle = omega arith in
    let value = point +ℤ adjustment_left v device q in
    by_lt_z
    (epoch_time (earlier q v.records) device) (pos block.before.next)
    (λ old.
    let shows = old_shows block is (omega arith) has old in (
      old,
      by_lt_z
          (pos (suc j * v.sizes.cycle + v.sizes.dmax + 2 * v.sizes.precision)) (point +ℤ adjustment_left v device q)
          (λ far. absurd (off_gate (suc j) value is gate (omega (arith, ints))
          (omega (arith, ints, shows.most, block.to, space.cycles, space.eight_errors, space.errors.reach_is))))
          (λ near. near),
    ))
    (λ late.
    let each = λ (w : ℕ) (from : block.before.next ≤ w) (less : w < q). brings.goes v j w (record {
      before = block.before;
      next = block.next;
      is_over = block.is_over;
      from = from;
      to = omega (arith, block.to);
      in_run = omega (arith, block.in_run);
    }) is in
    let set = new_shows block each is (omega arith) has (last_setting (earlier q v.records) device) refl late in
    let shows = set_shows block is set in
    let after = corrected_late block (last_setting (earlier q v.records) device) brings.goes is timed refl late in
    let near = set_clocks_stay_at_correction v.sizes (shown_at v device q) (suc j) q block.before.hull set.hull space narrow
    (follows_before j block.before.hull set.hull is block.before.is_hull set.is_hull)
    (omega (arith, ints)) (omega (arith, ints, block.to)) shows in
    absurd (off_gate (suc j) value is gate
    (omega (
      arith,
      ints,
      near.least,
      space.corrections,
      space.compression_least,
      space.eight_errors,
      space.errors.reach_is,
    ))
    (omega (arith, ints, near.most, space.cycles, space.eight_errors, space.errors.reach_is, space.errors.clock_is))))

-- a compression master sends nothing there
cm_silent : BringsBlocks → TimedAreNotTurnedOn → {v : View} (c : ℕ) (g : Happening) {device : DeviceId}
    (opened at : Units) (cycle : ℕ) (members : Members) (verdict : Judgement) (span : IsInSpan v (suc c) (time_of g))
    → IsView v → IsIn g v.records → g.note.body ≡ notes.Compressed device opened at cycle members verdict
    → IsTimedAt v device (time_of g) → (pos (time_of g) +ℤ pos (3 * v.sizes.precision)) <ℤ
    (span.block.before.hull.least +ℤ pos v.sizes.cycle) → ⊥
cm_silent brings never {v} c g {device} opened at cycle members verdict span is i body timed early =
    let sent = emission_opened never device g opened at cycle members verdict is i body timed.synchronised in
    let o = sent.0 in
    let q = o.q in
    let space = room is in
    let before = span.block.before in
    let timed_q : IsTimedAt v device q = record { good = timed.good; synchronised = o.stretch q (omega arith) o.before } in
    elim (cases_lt q before.next) [
      | inr ge ↦
          let span_q : IsInSpan v (suc c) q = record {
            block = record {
              before = before;
              next = span.block.next;
              is_over = span.block.is_over;
              from = ge;
              to = omega (arith, o.before, span.block.to);
              in_run = omega (arith, o.before, span.block.in_run);
            };
            early = omega (arith, ints, o.before, span.early);
          } in
          let shows = shows_there brings c span_q is timed_q (omega (arith, ints, o.before)) in
          off_gate (suc c) (o.point +ℤ adjustment_left v device q) is o.gate
          (omega (arith, ints, shows.least, o.most, space.corrections, space.compression_least))
          (omega (arith, ints, shows.most, o.least))
      | inl lt ↦
          let covered = brings.cover v q is (omega (arith, o.before, span.block.in_run)) in
          let j = covered.0 in
          let block = covered.1 in
          let earlier_block : suc j ≤ suc c = elim (cases_lt c j) [
            | inl more ↦ (let late = over_before c j before.next block.before is (omega arith)
                before.is_over in absurd (omega (arith, block.from)))
            | inr le ↦ omega arith
          ] in
          let ends = over_before j (suc c) block.next before is earlier_block block.is_over in
          let far = opener_far brings block o.point is timed_q o.least o.most o.gate in
          let after = o.stretch block.next (omega (arith, block.to)) (omega (arith, span.block.from)) in
          let point = point_reached brings block device is timed.good timed_q.synchronised far.0
          (omega (arith, span.block.from, span.block.in_run))
          after in
          let w = point.0 in
          let less = sent.1.not_before w (omega (arith, ints)) (omega (arith, ints, point.1, span.block.from)) in
          omega (
            arith,
            ints,
            point.2.reads,
            far.1,
            o.late,
            space.corrections,
            space.compression_least,
            space.eight_errors,
            space.errors.reach_is,
            space.errors.clock_is,
          )
    ]

-- ---- the law

-- what a synchronised switch gives in the span
no_giving : BringsBlocks → TimedAreNotTurnedOn → {v : View} (c : ℕ) (g : Happening) {device : DeviceId} (by : LinkId)
    (body : NoteBody) (span : IsInSpan v (suc c) (time_of g)) → IsView v → IsIn g v.records → g.note.body ≡ body
    → is_end v.scenario.network device ≡ false → Gives v.scenario.network body device by
    → IsTimedAt v device (time_of g) → (pos (time_of g) +ℤ pos (3 * v.sizes.precision)) <ℤ
    (span.block.before.hull.least +ℤ pos v.sizes.cycle) → ⊥
no_giving brings never {v} c g by (notes.Sent master cycle) span is i same switch gives timed early =
    let found = founded_at v.scenario v.records g is.run.founded i in
    let caused : IsCaused v.scenario found.front g.note.time (notes.Sent master cycle) = subst (IsCaused v.scenario found.front g.note.time) same
    found.due.cause in
    both_ways _ switch (ap (is_end v.scenario.network) gives.0 ∙ master_end v.scenario.network master caused.master)
no_giving brings never {v} c g {device} by (notes.Compressed cm opened at cycle members verdict) span is i same
    switch gives timed early =
    cm_silent brings never c g opened at cycle members verdict span is i
    (same ∙ ap (λ d. notes.Compressed d opened at cycle members verdict) (sym gives.0)) timed early
no_giving brings never c g by (notes.Arrived relay from cause clock) span is i same switch gives timed early =
    relay_shut never g from cause clock is i (same ∙ ap (λ d. notes.Arrived d from cause clock)
    (sym gives.0)) gives.1.relay
    timed.synchronised (shows_there brings c span is timed early)
no_giving brings never c g by body span is i same switch gives timed early = gives

-- a time behind the span's beginning and well before the next cycle lies in the span
span_at : {v : View} (c t : ℕ) (before : Stands v (suc c)) → IsView v → before.next ≤ t → t ≤ v.until
    → (pos t +ℤ pos (3 * v.sizes.precision)) <ℤ (before.hull.least +ℤ pos v.sizes.cycle)
    → (span : IsInSpan v (suc c) t) × (span.block.before ≡ before)
span_at {v} c t before is from in_run early =
    let space = room is in
    let behind = hull_behind c before is in
    let end = last_correction v.sizes before.hull +ℤ pos 1 in
    let next = unsigned_abs end in
    let next_is = whole end (omega (arith, ints, behind.0, behind.1)) in (
      record {
        block = record {
          before = before;
          next = next;
          is_over = (before.hull, before.is_hull, sym next_is);
          from = from;
          to = omega (arith, ints, behind.1);
          in_run = in_run;
        };
        early = omega (arith, ints, space.corrections, space.compression_least, space.eight_errors);
      },
      refl,
    )

pub givings_keep_away : BringsBlocks → TimedAreNotTurnedOn → GivingsKeepAway
givings_keep_away brings never v h g device link by cause vl zero is good switch d gives before from = absurd (omega (arith, d.occurs.begun))
givings_keep_away brings never v h g device link by cause vl (suc c) is good switch d gives before from =
    by_lt_z (pos (time_of g) +ℤ pos (3 * v.sizes.precision))
    (before.hull.least +ℤ pos v.sizes.cycle)
    (λ early.
    let at = span_at c (time_of g) before is from (within_run is g gives.there) early in
    let here = dispatches_are_in_spans brings v h device link cause vl (suc c) is good d in
    let timed = timed_in_span brings never here.span at.0 is
    (record { good = good; synchronised = d.synchronised }) in
    absurd (no_giving brings never c g by g.note.body at.0 is gives.there refl switch gives.gives timed
    (rw at.1 early)))
    (λ late. late)
