-- Each frame of the schedule that is owed to a synchronised device is delivered, and once.
use Rattle.std.proofs.{Common.{max, suc-mul}, Math.Nat.mul-le-mul_right}
use Rattle.net_plan.specs.{Bounds.IsGreatest, Places.IsEndSystem, Ranges.{IsInRange, IsVlInRange}}
use Rattle.precision_law.{specs.traffic.{Delivered.IsSentIn, Ports.{IsRunTo, OwedFramesCome}, Spans.IsReachedInSpan}}
use Rattle.precision_law.proofs.{law.Precision.{up_to_is, view_at, view_of}}
use Rattle.precision_law.proofs.traffic_lemmas.{faults.Channels.{good_sources, switch_no_end}}
use Rattle.precision_law.proofs.traffic_lemmas.{schedule.Rows.rows_are_in_time}
use Rattle.precision_law.proofs.traffic_lemmas.Words
use Words.{◌&&◌, ◌*◌, ◌++◌, ◌+ℤ◌, ◌+◌, ◌-◌, ◌<ℤ◌, ◌<◌, ◌==◌, ◌||◌, ◌∙◌, ◌∷◌, ◌≡◌, ◌≤◌, DeviceId, Down, Entry, FieldsFit}
use Words.{Happening, HasGoodSources, IsBefore, IsCaused, IsDue, IsEntry, IsFounded, IsFoundedAt, IsGood, IsIn}
use Words.{IsInSchedule, IsInSpan, IsOnChannel, IsTaking, IsTimedAt, IsView, Joining, Joints, LinkId, List, Network}
use Words.{None, NoteBody, Option, Reaches, SaysTaken, Scenario, Some, Synchronised, Units, Up, View, VirtualLink, VlId}
use Words.{Way, [], adjustment_after, adjustment_left, adjustment_stays, amount, ap, arith, arrives_at, before_of}
use Words.{begins_late, behind_first, between, both_ways, cases_lt, cause_of, clocks_reach_sharply, earlier}
use Words.{earlier_before, earlier_parts, epoch_time, eq-eqb, filter, fold-append, founded_at, in_all, in_between}
use Words.{in_left, in_order, in_parts, inl, inr, ints, is_end, is_taken_in, is_turned_on_at, last_or, last_taken}
use Words.{lt-ltb, nat_lt, numbered, numbered_in, one_device, option_and_then, place_of, pos, reaches_by, refl, room}
use Words.{same_some, shown_at, slice_get, source_by, source_of, start_of, state_after, state_at_start, state_left}
use Words.{state_with, steady, subst, suc, sym, target_by, target_of, time_of, true, tt_frame_by, within_run, zero, ℕ}
use Rattle.precision_law.proofs.traffic_lemmas.delivery.{Taken.{delivered_ends, end_delivers, takings_are_so}}
use Rattle.precision_law.proofs.traffic_lemmas.delivery.Coming
use Coming.{dispatches_begin, frames_arrive_in_spans, spans_are_apart, takings_begin, takings_come_by_rows}
use Rattle.precision_law.proofs.traffic_lemmas.{ports.Dispatched.{cycle_is, offset_in_schedule, same_by_place}}
use Rattle.precision_law.proofs.traffic_lemmas.delivery.Forwarding.{Brings, arrivals_are_taken, arrives_in_time}
use Rattle.precision_law.proofs.traffic_lemmas.delivery.Forwarding.{last_passes, no_later, none_last, rows_are_sent}
use Rattle.precision_law.proofs.traffic_lemmas.delivery.Forwarding.{says_so, state_is}
use Rattle.run_law.proofs.{runs.Places.{chain, either_way, never_self}, scenario.Devices.end_test}
use Rattle.precision_law.proofs.traffic_lemmas.ports.{Cycles.same_next}
use Rattle.precision_law.proofs.traffic_lemmas.spans.Spans
use Spans.{Keeps, has_time_at, in_places, kept_by_all, kept_if, last_of, synchronised_keep_time}
use Spans.{values_are_reached_in_spans}
use Rattle.run_law.proofs.{law.FirstDeliveries.{by_number, front_founded, number_is}}
use Rattle.run_law.specs.{control.Corrections.correction_value, declared.note.Note.Note}
use Rattle.run_law.specs.{device.LocalClocks.local_before}
use Rattle.run_law.specs.{law.Safety.{IsDelivered, IsInStep, IsOwed, IsRowInto, IsWindowEnd, ReachesPlace}}
use Rattle.run_law.specs.{records.{Causes.IsChain, Happenings.happenings}}
use Rattle.run_law.specs.{timed.Receptions.{comes_before, is_taken_before, taken_cycle}}
use Rattle.schedule_tables.specs.{Schedule.EntersOn, Windows.window_end, declared.rule.Rule.TheVariants.BothChannels}
use Rattle.tte_units.specs.declared.frames.channel.Channel.{Channel}
use Rattle.run_law.specs.declared.judgement.Judgement.TheVariants as judgements
use Rattle.run_law.specs.declared.judgement.Why.TheVariants as whys
use Rattle.run_law.specs.declared.note.NoteBody.TheVariants as notes

-- ---- a frame of the schedule is delivered once: rows into end systems

-- what enters an end system comes from a switch
pub comes_from_switch : Brings → {v : View} {place : ℕ} {entry : Entry} → IsView v
    → IsEntry v.scenario.network place entry → is_end v.scenario.network (target_of entry) ≡ true
    → IsGood v (source_of entry)
comes_from_switch brings {v} {entry} is row end = by entry.row.way refl end
  where
    by : (w : Way) → entry.row.way ≡ w → is_end v.scenario.network (target_by entry.row.way entry.link) ≡ true → IsGood v (source_by entry.row.way entry.link)
    by Up e end =
        let joint = is.lawful.rules Joints entry.row.link.0 entry.link row.link in
        let parent : is_end v.scenario.network entry.link.parent ≡ true = rw e at end
        in
        absurd (both_ways _ (switch_no_end joint.0 entry.link.parent is.lawful.range joint.1) parent)
    by Down e end =
        let joint = is.lawful.rules Joints entry.row.link.0 entry.link row.link in
        rw e (brings.channels.switches v joint.0 entry.link.parent is joint.1)

-- when an end system takes a frame of a cycle, it is in the cycle's span
span_of : Brings → {v : View} (h : Happening) (device : DeviceId) (link : LinkId) (cause : ℕ) (vl : VlId) (cycle : ℕ)
    → IsView v → FieldsFit v.scenario.network → IsGood v device → is_end v.scenario.network device ≡ true
    → IsIn h v.records → SaysTaken h.note.body device link cause vl cycle → IsInSpan v cycle (time_of h)
span_of brings {v} h device link cause vl cycle is fit good end i says =
    let taking = takings_are_so v h device link cause vl cycle is i says in
    let from_switch = comes_from_switch brings is taking.by_row.row
    (rw taking.by_row.enters end) in
    (takings_come_by_rows brings.blocks brings.senders v h device link cause vl cycle is fit good taking from_switch).in_span.span

-- ---- two deliveries

-- the place of a delivery
delivered_place : (h : Happening) (device : DeviceId) (link : LinkId) (cause : ℕ) (vl : VlId) (cycle : ℕ) → h.note.body ≡ notes.Delivered device link cause vl
    cycle → place_of h ≡ time_of h ∷ 12 ∷ device.0 ∷ link.0 ∷ cause ∷ []
delivered_place h device link cause vl cycle is = rw is

-- what is before a delivery is so by its time, or by its link and cause
before_by : (t u d : ℕ) (link other : LinkId) (cause second : ℕ) → IsBefore (t ∷ 12 ∷ d ∷ link.0 ∷ cause ∷ []) (u ∷ 12 ∷ d ∷ other.0 ∷ second ∷ [])
    → (nat_lt t u || (t == u && comes_before link cause other second)) ≡ true
before_by t u d link other cause second (inl lt) = (let less = lt-ltb t u lt in rw less refl)
before_by t u d link other cause second (inr both) = grind (arith, eq-eqb, nat_lt, lt-ltb)

module _ (device : DeviceId) (vl : VlId) (t : ℕ) (link : LinkId) (cause at : ℕ) where
  -- the record of a taking passes the test of what was taken before
  passes_test : (by : LinkId) (from cycle : ℕ) → (nat_lt at t || (at == t && comes_before by from link cause)) ≡ true
      → is_taken_before device vl t link cause at (notes.Delivered device by from vl cycle) ≡ true
  passes_test by from cycle order = grind (arith, eq-eqb)

  -- what passes it took the frame in some cycle
  cycle_of : (body : NoteBody) → is_taken_before device vl t link cause at body ≡ true
      → (cycle : ℕ) × (taken_cycle body ≡ Some cycle)
  cycle_of (notes.Accepted other by from of_vl cycle) e = (cycle, refl)
  cycle_of (notes.Delivered other by from of_vl cycle) e = (cycle, refl)
  cycle_of body e = absurd cc

-- no delivery of a cycle stands before another
none_before : Brings → {v : View} (h g : Happening) (device : DeviceId) (link other : LinkId) (cause second : ℕ)
    (vl : VlId) (cycle : ℕ) → IsView v → FieldsFit v.scenario.network → IsGood v device → IsIn h v.records
    → IsIn g v.records → h.note.body ≡ notes.Delivered device link cause vl cycle
    → g.note.body ≡ notes.Delivered device other second vl cycle → IsBefore (place_of h) (place_of g) → ⊥
none_before brings {v} h g device link other cause second vl cycle is fit good i j one two order =
    let end = delivered_ends g device other second vl cycle is j two in
    let taking = takings_are_so v g device other second vl cycle is j (inr two) in
    let t = time_of g in
    let p = λ (x : Happening). is_taken_before device vl t other second (time_of x) x.note.body in
    let in_front : IsIn h taking.front = elim (in_parts h taking.front (g ∷ taking.rest) (subst (IsIn h) taking.split i)) [
      | inl l ↦ l
      | inr (inl same) ↦ absurd (never_self (place_of g) (rw same at order))
      | inr (inr later) ↦
          absurd (never_self (place_of h)
          (chain (place_of h) (place_of g) (place_of h) order
          (behind_first place_of (IsDue v.scenario) taking.front taking.rest g h (subst (IsFounded place_of (IsDue v.scenario)) taking.split is.run.founded)
          later)))
    ] in
    let here = subst (λ q. IsBefore q (t ∷ 12 ∷ device.0 ∷ other.0 ∷ second ∷ [])) (delivered_place h device link cause vl cycle one)
    (subst (λ q. IsBefore (place_of h) q) (delivered_place g device other second vl cycle two) order) in
    let hit : p h ≡ true = ap (is_taken_before device vl t other second (time_of h)) one ∙ passes_test device vl t other second (time_of h) link cause cycle
    (before_by (time_of h) t device.0 link other cause second here) in
    by taking in_front hit end (last_or None (filter p taking.front)) refl
  where
    by : (taking : IsTaking v g device other second vl cycle) → IsIn h taking.front → is_taken_before device vl (time_of g) other second (time_of h)
        h.note.body ≡ true → is_end v.scenario.network device ≡ true
        → (o : Option Happening) → last_or None (filter (λ x. is_taken_before device vl (time_of g) other second (time_of x) x.note.body) taking.front) ≡ o → ⊥
    by taking in_front hit end None e =
        none_last (λ x. is_taken_before device vl (time_of g) other second (time_of x) x.note.body) taking.front h e in_front hit
    by taking in_front hit end (Some r) e =
        let p = λ (x : Happening). is_taken_before device vl (time_of g) other second (time_of x) x.note.body in
        let test = last_passes p taking.front r e in
        let number = cycle_of device vl (time_of g) other second (time_of r) r.note.body test.1 in
        let says = says_so device vl number.0 (time_of g) other second r r.note.body refl test.1 number.1 in
        let in_all : IsIn r v.records = subst (IsIn r) (sym taking.split) (in_left r taking.front (g ∷ taking.rest) test.0) in
        let founded = front_founded place_of (IsDue v.scenario) taking.front (g ∷ taking.rest)
        (subst (IsFounded place_of (IsDue v.scenario)) taking.split is.run.founded) in
        let behind = no_later h r (last_of p None taking.front r h (in_places v.scenario [] taking.front founded) e in_front hit) in
        let span_h = span_of brings h device link cause vl cycle is fit good end i (inr one) in
        let span_r = span_of brings r device says.link says.cause vl number.0 is fit good end in_all says.says in
        let span_g = span_of brings g device other second vl cycle is fit good end j (inr two) in
        elim (cases_lt number.0 cycle) [
          | inl lt ↦ (let wrong = spans_are_apart v number.0 cycle (time_of r) (time_of h) is lt span_r span_h in
              omega arith)
          | inr ge ↦ elim (cases_lt cycle number.0) [
            | inl lt ↦ (let wrong = spans_are_apart v cycle number.0 (time_of g) (time_of r) is lt span_g span_r in
                omega (arith, says.by_then))
            | inr le ↦
                grind (arith, number.0, is_taken_in, last_taken, taking.front, time_of, option_and_then, number.1, eq-eqb, both_ways, taking.anew)
          ]
        ]

-- two deliveries of a cycle are one
pub delivered_once : Brings → {v : View} (h g : Happening) (device : DeviceId) (link other : LinkId)
    (cause second : ℕ) (vl : VlId) (cycle : ℕ) → IsView v → FieldsFit v.scenario.network → IsGood v device
    → IsIn h v.records → IsIn g v.records → h.note.body ≡ notes.Delivered device link cause vl cycle
    → g.note.body ≡ notes.Delivered device other second vl cycle → h ≡ g
delivered_once brings h g device link other cause second vl cycle is fit good i j one two =
    elim (either_way (place_of h) (place_of g)) [
      | inl before ↦ absurd (none_before brings h g device link other cause second vl cycle is fit good i j one two
          before)
      | inr (inl same) ↦ same_by_place h g is i j same
      | inr (inr behind) ↦ absurd (none_before brings g h device other link second cause vl cycle is fit good j i two
          one behind)
    ]

-- ---- a device that is synchronised right after its clock reaches its schedule was so before

-- ---- a correction point is no place of the schedule

-- a clock does not reach both at one time
apart : {v : View} {device : DeviceId} (n : ℕ) {value : ℕ} (m : ℕ) {t : ℕ} → IsView v → IsInSchedule v.sizes value
    → Reaches v.scenario v.records device (pos (n * v.sizes.cycle + value)) t
    → Reaches v.scenario v.records device (pos (m * v.sizes.cycle + v.sizes.correction)) t → ⊥
apart {v} {device} n {value} m {t} is within reaches point =
    let a = clocks_reach_sharply v device (pos (n * v.sizes.cycle + value)) t is reaches in
    let b = clocks_reach_sharply v device (pos (m * v.sizes.cycle + v.sizes.correction)) t is point in
    let space = room is in
    elim (cases_lt m n) [
      | inl lt ↦
          let more : suc m * v.sizes.cycle ≤ n * v.sizes.cycle = mul-le-mul_right v.sizes.cycle (omega arith) in
          let one = suc-mul m v.sizes.cycle in
          omega (
            arith,
            ints,
            a.least,
            b.most,
            within.begins,
            space.eight_errors,
            space.errors.reach_is,
            space.errors.clock_is,
            space.cycles,
          )
      | inr ge ↦ elim (cases_lt n m) [
        | inl lt ↦
            let more : suc n * v.sizes.cycle ≤ m * v.sizes.cycle = mul-le-mul_right v.sizes.cycle (omega arith) in
            let one = suc-mul n v.sizes.cycle in
            omega (
              arith,
              ints,
              a.most,
              b.least,
              within.ends,
              space.eight_errors,
              space.errors.reach_is,
              space.errors.clock_is,
            )
        | inr le ↦
            let whole : m * v.sizes.cycle ≡ n * v.sizes.cycle = rw (let same : m ≡ n = omega arith in same) in
            omega (
              arith,
              ints,
              a.least,
              b.most,
              within.begins,
              space.eight_errors,
              space.errors.reach_is,
              space.errors.clock_is,
            )
      ]
    ]

-- ---- no correction, no change

-- the device has no correction at the time
abbrev pub HasNoCorrection : View → DeviceId → ℕ → Type 0
HasNoCorrection v device t =
    (g : Happening) (cycle : ℕ) (by adjustment : Units) → IsIn g v.records → time_of g ≡ t → g.note.body ≡ notes.Corrected device cycle by adjustment → ⊥

-- at the time at which its clock reaches its schedule it has none
none_there : {v : View} {device : DeviceId} (n : ℕ) {value t : ℕ} → IsView v → IsInSchedule v.sizes value
    → Reaches v.scenario v.records device (pos (n * v.sizes.cycle + value)) t → HasNoCorrection v device t
none_there {v} {device} n {t} is within reaches g cycle by adjustment there same body =
    let s = v.scenario in
    let found = founded_at s v.records g is.run.founded there in
    let cause : IsCaused s found.front g.note.time (notes.Corrected device cycle by adjustment) =
    subst (IsCaused s found.front g.note.time) body found.due.cause in
    let value_is : correction_value s.network cycle ≡ pos (cycle * v.sizes.cycle + v.sizes.correction) =
    rw (sym (cycle_is is))
    (ap (λ k. pos (cycle * v.sizes.cycle + k)) (sym (rw is.sizes))) in
    let reached =
    reaches_by v.records (earlier_before (before_of is found)) cause.corrected.reached in
    let at : Reaches s v.records device (correction_value s.network cycle) t =
    subst (Reaches s v.records device (correction_value s.network cycle)) same reached in
    apart n cycle is within reaches (rw value_is at at)

-- without one no record of the time makes it synchronised
keeps_then : (v : View) (device : DeviceId) {h : Happening} (found : IsFoundedAt v.scenario v.records h)
    (body : NoteBody) → HasNoCorrection v device (time_of h) → IsCaused v.scenario found.front h.note.time body
    → Keeps device body
keeps_then v device found (notes.State other state cause whys.On) none c old timed =
    kept_if (device.0 == other.0) state old (λ same is. (cc)) timed
keeps_then v device found (notes.State other state cause whys.Frame) none c old timed =
    kept_if (device.0 == other.0) state old (λ same is. (cc)) timed
keeps_then v device found (notes.State other state cause whys.SyncClique) none c old timed =
    kept_if (device.0 == other.0) state old (λ same is. (cc)) timed
keeps_then v device found (notes.State other state cause whys.AsyncClique) none c old timed =
    kept_if (device.0 == other.0) state old (λ same is. (cc)) timed
keeps_then v device {h} found (notes.State other state cause whys.Correction) none c old timed =
    kept_if (device.0 == other.0) state old (λ same is.
    let made = c.2 in
    let g = made.3 in
    let there : IsIn g v.records = subst (IsIn g) (sym found.whole) (in_left g found.front (h ∷ found.rest) (numbered_in found.front cause g made.4.there)) in
    let body = made.5 ∙ ap (λ d. notes.Corrected d made.0 made.1 made.2) (one_device device other same) in
    none g made.0 made.1 made.2 there made.4.same_time body) timed
keeps_then v device found (notes.Permanent other link cause point judgements.Integrates) none c old timed =
    kept_if (device.0 == other.0) Joining old (λ same is. cc) timed
keeps_then v device found (notes.Compressed other opened own cycle members judgements.Integrates) none c old timed =
    kept_if (device.0 == other.0) Joining old (λ same is. cc) timed
keeps_then v device found body none c old timed = timed

-- a device that is synchronised behind the time at which its clock reaches its schedule was so before it
pub synchronised_before : {v : View} {device : DeviceId} (n : ℕ) {value t : ℕ} → IsView v
    → IsInSchedule v.sizes value → Reaches v.scenario v.records device (pos (n * v.sizes.cycle + value)) t
    → state_left v device (t + 1) ≡ Synchronised → state_left v device t ≡ Synchronised
synchronised_before {v} {device} n {t} is within reaches timed =
    let none = none_there n is within reaches in
    let parts = earlier_parts t (t + 1) v.records (in_order is) (omega arith) in
    let whole : state_after v.scenario (earlier t v.records ++ between t (t + 1) v.records) device ≡ Synchronised =
    rw parts at timed in
    let split = fold-append (λ state h. state_with device state h.note.body)
    (state_at_start (start_of v.scenario.network device))
    (earlier t v.records) (between t (t + 1) v.records) in
    kept_by_all device (between t (t + 1) v.records) (λ h i.
    let there = in_between t (t + 1) v.records h i in
    let found = founded_at v.scenario v.records h is.run.founded there.0 in
    let late = there.1 in
    let early = there.2 in
    let here : t ≡ time_of h = omega arith in
    keeps_then v device found h.note.body (subst (HasNoCorrection v device) here none) found.due.cause)
    (state_after v.scenario (earlier t v.records) device) (rw split at whole)

-- ---- each frame that is owed is delivered: what is owed, in the view of the run up to the end of the last window

-- a frame of the virtual link is owed to the device
record IsOwedIn (v : View) (vl : VlId) (of_vl : VirtualLink) (cycle : ℕ) (device : DeviceId) (from last : ℕ) : Type 0 where
  pub end_system : IsEndSystem v.scenario.network device
  pub good : IsGood v device
  pub sent : IsSentIn v vl of_vl cycle last
  pub span : IsInSpan v cycle v.until
  pub place : ℕ
  pub entry : Entry
  pub row : IsEntry v.scenario.network place entry
  pub own : entry.row.vl ≡ vl
  pub enters : target_of entry ≡ device
  pub on_channel : IsOnChannel v.scenario.network v.channel entry
  pub ends : window_end v.scenario.network entry ≤ last
  pub timed : (t : ℕ) → span.block.before.next ≤ t → t ≤ v.until → IsTimedAt v device t

-- then it is delivered in time
record ComesInTime (v : View) (vl : VlId) (cycle : ℕ) (device : DeviceId) : Type 0 where
  pub delivery : Happening
  pub there : IsIn delivery v.records
  pub link : LinkId
  pub cause : ℕ
  pub is : delivery.note.body ≡ notes.Delivered device link cause vl cycle

-- the frame that is owed comes
comes_in_time : Brings → {v : View} {vl : VlId} {of_vl : VirtualLink} {cycle : ℕ} {device : DeviceId} {from last : ℕ}
    → IsView v → FieldsFit v.scenario.network → HasGoodSources v vl → IsOwedIn v vl of_vl cycle device from last
    → ComesInTime v vl cycle device
comes_in_time brings {v} {vl} {of_vl} {cycle} {device} {last} is fit sources owed =
    let n = v.scenario.network in
    let entry = owed.entry in
    let went = rows_are_sent brings v vl of_vl cycle last is fit sources owed.sent owed.place entry owed.row owed.own owed.on_channel owed.ends in
    let h = went.record_of in
    let d = went.dispatch in
    let source = source_of entry in
    let link = entry.row.link in
    let good = sources owed.place entry owed.row owed.own in
    let begun = dispatches_begin brings.blocks brings.senders v h source link went.cause vl of_vl cycle is fit good sources owed.sent.there d in
    let vls = same_some (slice_get n.vl vl.0) d.entry.vl of_vl
    (rw d.of_vl at d.row.vl) owed.sent.there in
    let whole = begun.whole ∙ ap (λ x. tt_frame_by n x cycle) (sym vls) in
    let window : window_end n d.entry ≤ last = rw went.same owed.ends in
    let in_time = arrives_in_time brings is owed.sent good d window in
    let t = arrives_at v h link d.entry.row.way d.entry in
    let arrives = frames_arrive_in_spans brings.blocks v h source link went.cause vl cycle d.entry.row.way is good d in_time in
    let next = same_next arrives.span.block.before owed.span.block.before in
    let timed = owed.timed t (omega (arith, arrives.span.block.from)) in_time in
    let off = brings.not_on v device t is (has_time_at timed).timed in
    let taken = arrivals_are_taken brings.blocks brings.channels v h source device link went.cause vl cycle is fit good owed.good d whole
    (ap target_of went.same ∙ owed.enters) in_time timed off in
    record {
      delivery = taken.taking;
      there = taken.there;
      link = taken.link;
      cause = taken.cause;
      is = end_delivers taken.taking device taken.link taken.cause vl cycle is taken.there
          (end_test n device owed.end_system) taken.says;
    }

-- ---- the beginning of the cycle

-- a device that reaches the beginning of the cycle and is synchronised from then on does so before the cycle's span
begins_before : Brings → {v : View} (n : ℕ) {t : ℕ} (span : IsInSpan v n (t + 1)) {device : DeviceId} → IsView v
    → 1 ≤ n → IsTimedAt v device (t + 1) → Reaches v.scenario v.records device (pos (n * v.sizes.cycle)) t
    → t < span.block.before.next
begins_before brings zero span is begun timed reached = absurd (omega arith)
begins_before brings {v} (suc c) {t} span {device} is begun timed reached =
    elim (cases_lt t span.block.before.next) [
      | inl lt ↦ lt
      | inr ge ↦
          let keep = synchronised_keep_time brings.blocks v (suc c) (t + 1) span device is timed in
          let late = begins_late c span.block.before is in
          let early : epoch_time (earlier (t + 1) v.records) device <ℤ pos t = omega (arith, ints, keep.old) in
          let same : adjustment_left v device t ≡ adjustment_left v device (t + 1) = ap (λ a. a.0)
          (adjustment_stays device t (t + 1) is (omega arith) early) in
          let sharp = clocks_reach_sharply v device (pos (suc c * v.sizes.cycle)) t is reached in
          let step = (steady v is device).steps t in
          let space = room is in
          absurd (omega (
            arith,
            ints,
            sharp.most,
            keep.shows.least,
            space.corrections,
            space.eight_errors,
            space.errors.reach_is,
            space.compression_least,
          ))
    ]

-- ---- records of a front

-- what a front has by a number the whole has by it
numbered_more : (s : Scenario) (gs hs : List Happening) → IsFounded place_of (IsDue s) gs → IsFounded place_of (IsDue s) hs
    → ((h : Happening) → IsIn h gs → IsIn h hs) → (n : ℕ) (h : Happening) → numbered gs n ≡ Some h → numbered hs n ≡ Some h
numbered_more s gs hs one two inside n h e =
    let there = by_number s hs h two (inside h (numbered_in gs n h e)) in
    rw (sym (number_is s gs n h one e)) there

-- a chain of causes in a front is one in the whole
chain_more : (gs hs : List Happening) → ((n : ℕ) (h : Happening) → numbered gs n ≡ Some h → numbered hs n ≡ Some h) → (h : Happening) (causes : List Happening)
    → IsChain gs h causes → IsChain hs h causes
chain_more gs hs more h [] chain = tt
chain_more gs hs more h (g ∷ rest) chain = (more (cause_of h.note.body) g chain.0, chain_more gs hs more g rest chain.1)

-- ---- the law

-- where the last window into the device ends
pub last_in_schedule : {v : View} {vl : VlId} {device : DeviceId} {last : ℕ} {into : Entry} → IsView v
    → IsRowInto v.scenario.network vl device into → IsGreatest (IsWindowEnd v.scenario.network vl device) last
    → IsInSchedule v.sizes last
last_in_schedule {v} {into} is enters greatest =
    let times = rows_are_in_time v enters.place into is enters.is in
    let most = greatest.most (window_end v.scenario.network into) (into, enters, refl) in
    elim greatest.reached [
      | inl none ↦ absurd (omega (
        arith,
        times.begins,
        times.tolerates,
        (room is).eight_errors,
        (room is).errors.reach_is,
        (room is).errors.clock_is,
      ))
      | inr end ↦
          let at = rows_are_in_time v end.1.place end.0 is end.1.is in
          record { begins = omega (arith, times.begins, times.tolerates); ends = omega (arith, end.2, at.ends) }
    ]

-- the row into the device on a channel
pub row_on : {v : View} {vl : VlId} (channel : Channel) {device : DeviceId} {into : Entry} → IsView v
    → IsEndSystem v.scenario.network device → IsRowInto v.scenario.network vl device into
    → EntersOn v.scenario.network vl channel device
row_on {v} {vl} channel {device} {into} is end enters =
    let joint = is.lawful.rules Joints into.row.link.0 into.link enters.is.link in
    (is.lawful.rules BothChannels vl.0).same device joint.0 channel end (record {
      place = enters.place;
      entry = into;
      is = enters.is;
      same_vl = enters.of_vl;
      on_channel = joint.1;
      target = enters.enters;
    })

-- the records of a view are those of a list up to its end
pub record IsFrontOf (v : View) (hs : List Happening) : Type 0 where
  pub early : (t : ℕ) → t ≤ v.until + 1 → earlier t hs ≡ earlier t v.records
  pub inside : (h : Happening) → IsIn h v.records → IsIn h hs
  pub founded : IsFounded place_of (IsDue v.scenario) hs

-- the device is synchronised behind the beginning of the cycle
pub timed_behind : {v : View} {hs : List Happening} (device : DeviceId) (from t : ℕ) → IsFrontOf v hs
    → IsGood v device → ((x : ℕ) → from ≤ x → x ≤ v.until → IsInStep v.scenario hs device x) → from < t → t ≤ v.until
    → IsTimedAt v device t
timed_behind {v} {hs} device from t front good receiver lt le =
    let next : t - 1 + 1 ≡ t = omega arith in
    let step = (receiver (t - 1) (omega arith) (omega arith)).synchronised in
    let moved : state_after v.scenario (earlier (t - 1 + 1) hs) device ≡ Synchronised =
    rw (up_to_is (t - 1) hs) at step in
    let here : state_after v.scenario (earlier t hs) device ≡ Synchronised = rw next at moved in
    record {
      good = good;
      synchronised = rw (front.early t (omega (arith, le))) at here;
    }

-- a clock that reaches a place of the cycle does so in the view
pub reaches_in : {v : View} {hs : List Happening} {device : DeviceId} (cycle place : ℕ) {t : ℕ} → IsView v
    → IsFrontOf v hs → t ≤ v.until → ReachesPlace v.scenario hs device cycle place t
    → Reaches v.scenario v.records device (pos (cycle * v.sizes.cycle + place)) t
reaches_in {v} {hs} {device} cycle place {t} is front le reaches =
    rw (cycle_is is) (reaches_by v.records (front.early t (omega arith)) reaches)

-- the frame is sent in the view
sent_in : Brings → {v : View} {hs : List Happening} {until : ℕ} {vl : VlId} {of_vl : VirtualLink} {cycle : ℕ}
    {device : DeviceId} → IsView v → IsFrontOf v hs → (owed : IsOwed v.scenario hs until vl of_vl cycle device)
    → owed.to ≡ v.until → IsReachedInSpan v cycle owed.last v.until → IsSentIn v vl of_vl cycle owed.last
sent_in brings {v} {hs} {of_vl} {cycle} {device} is front owed end reached = record {
  there = owed.there;
  occurs = owed.occurs;
  sender = rw (sym end) owed.sender;
  before = reached.span.block.before;
  in_run = reached.not_early;
  rows = λ place entry row own source.
      let r = owed.rows place entry row own source in
      let sender = of_vl.sender in
      let le : r.0 ≤ v.until = omega (arith, r.1) in
      let reaches = reaches_in cycle (amount entry.row.offset) is front le r.2 in
      let left : state_after v.scenario (earlier (r.0 + 1) hs) sender ≡ Synchronised = rw (sym (up_to_is r.0 hs)) r.3 in
      let behind : state_left v sender (r.0 + 1) ≡ Synchronised =
      rw (sym (front.early (r.0 + 1) (omega (arith, le)))) left in
      let timed = synchronised_before cycle is (offset_in_schedule is row) reaches behind in
      let good : IsGood v sender = rw (sym end) owed.sender in
      let has = has_time_at {v = v} {device = sender} {t = r.0} (record { good = good; synchronised = timed }) in (
        r.0,
        le,
        reaches,
        state_is (is_turned_on_at v.scenario sender r.0) (state_left v sender r.0) (brings.not_on v sender r.0 is has.timed) timed,
      );
}

-- the cycle begins before its span
pub from_before : Brings → {v : View} {cycle from : ℕ} {device : DeviceId} → IsView v
    → (span : IsInSpan v cycle v.until) → 1 ≤ cycle → from < v.until
    → Reaches v.scenario v.records device (pos (cycle * v.sizes.cycle + 0)) from → IsTimedAt v device (from + 1)
    → from < span.block.before.next
from_before brings {v} {cycle} {from} {device} is span begun lt reaches timed =
    elim (cases_lt from span.block.before.next) [
      | inl less ↦ less
      | inr ge ↦
          let next_span : IsInSpan v cycle (from + 1) = record {
            block = record {
              before = span.block.before;
              next = span.block.next;
              is_over = span.block.is_over;
              from = omega arith;
              to = omega (arith, span.block.to);
              in_run = omega arith;
            };
            early = omega (arith, ints, span.early);
          } in
          let whole : cycle * v.sizes.cycle + 0 ≡ cycle * v.sizes.cycle = omega arith in
          begins_before brings cycle next_span is begun timed
          (rw whole at reaches)
    ]

-- the frame is owed in the view
owed_in : Brings → {v : View} {hs : List Happening} {until : ℕ} {vl : VlId} {of_vl : VirtualLink} {cycle : ℕ}
    {device : DeviceId} → IsView v → IsFrontOf v hs → (owed : IsOwed v.scenario hs until vl of_vl cycle device)
    → owed.to ≡ v.until → IsOwedIn v vl of_vl cycle device owed.from owed.last
owed_in brings {v} {hs} {of_vl} {cycle} {device} is front owed end =
    let lt : owed.from < v.until = omega (arith, owed.in_order) in
    let receiver : (x : ℕ) → owed.from ≤ x → x ≤ v.until → IsInStep v.scenario hs device x =
    λ x from le. owed.receiver x from (omega arith) in
    let good : IsGood v device = (receiver v.until (omega arith) (omega arith)).correct in
    let timed_at : (t : ℕ) → owed.from < t → t ≤ v.until → IsTimedAt v device t =
    λ t less le. timed_behind device owed.from t front good receiver less le
    in
    let within = last_in_schedule is owed.enters owed.greatest in
    let ends : ReachesPlace v.scenario hs device cycle owed.last v.until = rw end at owed.ends
    in
    let reached = values_are_reached_in_spans brings.blocks v cycle owed.last v.until device is (timed_at v.until lt (omega arith)) (omega arith)
    owed.occurs.begun within (reaches_in cycle owed.last is front (omega arith) ends) in
    let row = row_on v.channel is owed.end_system owed.enters in
    let begins = reaches_in cycle 0 is front (omega arith) owed.begins in
    let before_span = from_before brings is reached.span owed.occurs.begun lt begins
    (timed_at (owed.from + 1) (omega arith) (omega arith)) in
    record {
      end_system = owed.end_system;
      good = good;
      sent = sent_in brings is front owed end reached;
      span = reached.span;
      place = row.place;
      entry = row.entry;
      row = row.is;
      own = row.same_vl;
      enters = row.target;
      on_channel = row.on_channel;
      ends =
          owed.greatest.most (window_end v.scenario.network row.entry)
          (row.entry, record { place = row.place; is = row.is; of_vl = row.same_vl; enters = row.target }, refl);
      timed = λ t from le. timed_at t (omega arith) le;
    }

-- a delivery in the view is one of the whole
delivered_in : Brings → {v : View} {hs : List Happening} {vl : VlId} (of_vl : VirtualLink) {cycle : ℕ}
    {device : DeviceId} → IsView v → FieldsFit v.scenario.network → IsGood v device → HasGoodSources v vl
    → slice_get v.scenario.network.vl vl.0 ≡ Some of_vl → IsFrontOf v hs → (come : ComesInTime v vl cycle device)
    → ((other : Happening) (by : LinkId) (from : ℕ) → IsIn other hs
    → other.note.body ≡ notes.Delivered device by from vl cycle → other ≡ come.delivery)
    → IsDelivered v.scenario hs vl of_vl cycle device
delivered_in brings {v} {hs} {vl} of_vl {cycle} {device} is fit good sources there front come once =
    let h = come.delivery in
    let t = time_of h in
    let early = within_run is h come.there in
    let taking = takings_are_so v h device come.link come.cause vl cycle is come.there (inr come.is) in
    let begun = takings_begin brings.blocks brings.senders v h device come.link come.cause vl of_vl cycle is fit good sources there taking in
    let shown : shown_at v device t ≡ local_before v.scenario hs device t =
    ap (λ xs. pos (v.scenario.reading device t) +ℤ (adjustment_after v.scenario xs device).0)
    (sym (front.early t (omega arith))) in
    record {
      delivery = h;
      there = front.inside h come.there;
      link = come.link;
      cause = come.cause;
      is = come.is;
      once = once;
      in_window = record {
        entry = taking.by_row.entry;
        row = record { place = taking.by_row.place; is = taking.by_row.row; of_vl = taking.by_row.of_vl; enters = taking.by_row.enters };
        by = taking.by_row.by;
        not_before =
            rw shown at taking.not_before;
        not_behind = rw shown at taking.not_behind;
      };
      first = begun.first;
      back = record {
        causes = begun.back.causes;
        chain = chain_more v.records hs (numbered_more v.scenario v.records hs is.run.founded front.founded front.inside) h begun.back.causes begun.back.chain;
        begins = begun.back.begins;
      };
      begins = begun.begins;
      whole = begun.whole;
    }

-- two deliveries of a run are one, where both are in a view that ends with the later of them
one_in : Brings → {v : View} (h g : Happening) (device : DeviceId) (link other : LinkId) (cause second : ℕ)
    (vl : VlId) (cycle : ℕ) → IsView v → FieldsFit v.scenario.network → IsIn h v.records → IsIn g v.records
    → v.until ≡ max (time_of h) (time_of g) → h.note.body ≡ notes.Delivered device link cause vl cycle
    → g.note.body ≡ notes.Delivered device other second vl cycle → h ≡ g
one_in brings {v} h g device link other cause second vl cycle is fit i j end one two =
    let first = takings_are_so v h device link cause vl cycle is i (inr one) in
    let last = takings_are_so v g device other second vl cycle is j (inr two) in
    let good : IsGood v device = elim (cases_lt (time_of h) (time_of g)) [
      | inl lt ↦ (let at : time_of g ≡ v.until = omega arith in rw at at last.correct)
      | inr ge ↦ (let at : time_of h ≡ v.until = omega arith in rw at at first.correct)
    ] in
    delivered_once brings h g device link other cause second vl cycle is fit good i j one two

-- so are two deliveries of a run
delivered_once_in : Brings → {s : Scenario} {mark : List ℕ} {ns : List Note} {until : ℕ} → IsRunTo s mark ns until
    → FieldsFit s.network → (h g : Happening) (device : DeviceId) (link other : LinkId) (cause second : ℕ)
    (vl : VlId) (cycle : ℕ) → IsIn h (happenings s.network ns) → IsIn g (happenings s.network ns)
    → h.note.body ≡ notes.Delivered device link cause vl cycle
    → g.note.body ≡ notes.Delivered device other second vl cycle → h ≡ g
delivered_once_in brings {s} {ns} run fit h g device link other cause second vl cycle i j one two =
    let w = max (time_of h) (time_of g) in
    let sound = brings.channels.sound s w run.up.lawful in
    let at = view_at w sound.0 run.up (omega (arith, run.within h i, run.within g j)) sound.1 in
    one_in brings h g device link other cause second vl cycle at.is fit (at.cut.has h i (omega arith))
    (at.cut.has g j (omega arith)) refl one two

-- the numbers of a network in range fit into their fields
pub fields_fit : {network : Network} → IsInRange network → FieldsFit network
fields_fit {network} range = record {
  marker = range.marker;
  ids = λ place vl there. (in_all (IsVlInRange network) network.vl place vl range.vls there).id;
  types = λ place vl there. (in_all (IsVlInRange network) network.vl place vl range.vls there).ethertype_most;
}

pub owed_frames_come : Brings → OwedFramesCome
owed_frames_come brings s mark ns until run vl of_vl cycle device owed =
    let fit = fields_fit run.up.lawful.range in
    let hs = happenings s.network ns in
    let channel = brings.channels.sound s owed.to run.up.lawful in
    let at = view_at owed.to channel.0 run.up owed.in_run channel.1 in
    let v = view_of s hs owed.to channel.0 at in
    let front : IsFrontOf v hs = record { early = λ t le. sym (at.cut.early t le); inside = at.cut.inside; founded = run.up.run.founded } in
    let sources = good_sources brings.channels vl of_vl at.is owed.there owed.sender in
    let in_view = owed_in brings at.is front owed refl in
    let come = comes_in_time brings at.is fit sources in_view in
    delivered_in brings of_vl at.is fit in_view.good sources owed.there front come (λ other by from i body.
    delivered_once_in brings run fit other come.delivery device by come.link from come.cause vl cycle i
    (at.cut.inside come.delivery come.there)
    body come.is)
