-- What a device has at hand of a row's frame when its clock reaches a value, and what it took by then.
use Rattle.std.{specs.{Int.{int_div_euclid, int_rem_euclid}, Option.IsSomeAnd, Prelude.{Err, Result}}}
use Rattle.std.proofs.{Common.{◌%◌, ◌/◌}, Math.Nat.{div-add-mod, mod-lt, mul-le-mul_right}}
use Rattle.std.proofs.{lemmas.{Bool.{cases_eq, leb-true, not-false, or_parts}, Grind.flat_map-append}}
use Rattle.net_plan.proofs.SameIds.{one_link}
use Rattle.pcf_codec.specs.{Fields.field, declared.refusal.PcfRefusal.PcfRefusal}
use Rattle.run_law.proofs.{control.Verdicts.none_first, scenario.Ways.one_way}
use Rattle.world_law.proofs.{devices.Standing.{adjustments_plain, earlier_plain, in_order}}
use Rattle.world_law.proofs.{runs.{FoundedAs.{AreFoundedAs, IsFoundedAs, founded_as}, Worlds.earlier_still}}
use Rattle.run_law.specs.{control.Arrivals.{frame_fault, frame_or_fault}}
use Rattle.run_law.specs.{device.Standpoints.{clock_of, cycle_at, natural, offset_in_cycle}}
use Rattle.run_law.specs.{machines.{Nodes.last_taken_frame, Tasks.HasFrame}}
use Rattle.run_law.specs.{scenario.{Devices.{is_parent_of, is_relay}, Ways.receiver_of}}
use Rattle.run_law.specs.timed.{Dispatching.{HasAccepted, last_accepted}}
use Rattle.run_law.specs.timed.Arrivals
use Arrivals.{entry_arrival, entry_entering, octets_fault, octets_or_fault, row_fault, taken_or_fault}
use Rattle.schedule_tables.{proofs.Margins.entry_by}
use Rattle.schedule_tables.specs.{Entries.target_of, Windows.{OccursIn, window_end}}
use Rattle.schedule_tables.specs.{declared.rule.Rule.TheVariants.{Forwarding, WindowEnds}}
use Rattle.tte_units.proofs.general_lemmas.{Bools.turned, Integers.{not_less, whole as not_negative}}
use Rattle.tte_units.proofs.general_lemmas.{Lists.{find_at, last_if, last_more}, Naturals.same_heads}
use Rattle.world_law.{specs.device.Takings.taken_in}
use Rattle.world_law.proofs.{putting.Idle.{IsIdle, drop_one}}
use Rattle.world_law.proofs.Words
use Words.{if◌then◌else◌, ◌*◌, ◌++◌, ◌+ℤ◌, ◌+◌, ◌-ℤ◌, ◌-◌, ◌<ℤ◌, ◌<◌, ◌==◌, ◌∙◌, ◌∷◌, ◌≡◌, ◌≤ℤ◌, ◌≤◌, ◌⊎◌, Arrival}
use Words.{ArrivesAs, Bool, DeviceId, Down, Entry, Happening, HasAtHand, IsCaused, IsEntry, IsIn, IsInRange, IsSteady}
use Words.{KeepsRules, Link, LinkId, List, Network, Node, None, NoteBody, Ok, Option, Pcf, Reaches, Reason, RowId}
use Words.{Scenario, Signal, Some, Standpoint, TakenFrame, Units, Up, VlId, Way, [], adjustment_after}
use Words.{adjustment_before, amount, and_parts, ap, append-nil, arith, arrival_of, cases_Bool, cases_lt, changed_at}
use Words.{control, control_arrival, dispatching, earlier, eq-eqb, eqb-true, false, filter, filter-append, frames_taken}
use Words.{in_filter, in_parts, inl, inr, int_lt, ints, is_accepted, is_end, last_in, last_or, last_taken, le-ltb}
use Words.{length, link_at, local_before, lt-ltb, nat_le, nat_lt, negsuc, not, option_and_then, option_map}
use Words.{option_map_or, plains, pos, refl, slice_get, slice_get_within, source_of, standpoint, subst, sym, taken_by}
use Words.{target_by, time_of, timed, timed_arrival, true, value_of, ℕ, ℤ}
use Rattle.run_law.specs.declared.note.NoteBody.TheVariants as notes
use Rattle.run_law.specs.declared.steps.Arrival.TheVariants as arrivals

-- ---- what a device found of a time-triggered frame that it took: a row of its virtual link enters the device, the cycle of its
-- clock was one from 1 on, and the place in the cycle was not behind the row's window.

-- a row of the virtual link enters the device, whose clock stood in the cycle, and not behind the row's window
pub record IsTakenAt (network : Network) (device : DeviceId) (vl : VlId) (cycle : ℕ) (clock : ℤ) : Type 0 where
  pub place : ℕ
  pub entry : Entry
  pub is : IsEntry network place entry
  pub of_vl : entry.row.vl ≡ vl
  pub target : target_of entry ≡ device
  pub begun : 1 ≤ cycle
  pub in_cycle : cycle_at network clock ≡ cycle
  pub in_time : offset_in_cycle network clock ≤ℤ pos (window_end network entry)

-- ---- the window

in_window : (network : Network) (at : Standpoint) (entry : Entry) (size : ℕ) (last : Option ℕ) → row_fault network at entry size last ≡ None
    → (1 ≤ cycle_at network (clock_of at)) × (offset_in_cycle network (clock_of at) ≤ℤ pos (window_end network entry))
in_window network at entry size last e = grind (arith, none_first, not, int_lt, not-false, or_parts, and_parts, nat_le, leb-true, not_less)

-- ---- the row by which it came

-- the way on which a device receives by a link leads to it
leads_to : (o : Option Link) (l : Link) (way : Way) (device : DeviceId) → o ≡ Some l → option_map (target_by way) o ≡ Some device
    → target_by (if option_map_or (λ x. x.parent.0 == device.0) o false then Up else Down) l ≡ device
leads_to None l way device e r = absurd cc
leads_to (Some x) l way device e r = grind (arith, target_by, cases_Bool, eqb-true, eq-eqb)

-- a row by which a frame enters a device where it is received is of the schedule, and enters the device
pub record IsEntering (network : Network) (device : DeviceId) (entry : Entry) : Type 0 where
  pub place : ℕ
  pub is : IsEntry network place entry
  pub target : target_of entry ≡ device

entering : (network : Network) {device : DeviceId} (link : LinkId) (way : Way) (id : ℕ) {entry : Entry} → receiver_of
    network link way ≡ Some device
    → entry_entering network device link id ≡ Some entry → IsEntering network device entry
entering network link way id received e =
    grind (arith, option_and_then, find_at, entry_by, slice_get, link_at, and_parts, one_link, one_way, target_by, leads_to)

-- ---- control frames are not taken

taken_apart : (end : Bool) (own vl : VlId) (number cycle : ℕ)
    → (if end then arrivals.Delivered own number else arrivals.Accepted own number) ≡ arrivals.Accepted vl cycle → (own ≡ vl) × (number ≡ cycle)
taken_apart true own vl number cycle e = absurd cc
taken_apart false own vl number cycle e = (cc, cc)

delivered_apart : (end : Bool) (own vl : VlId) (number cycle : ℕ)
    → (if end then arrivals.Delivered own number else arrivals.Accepted own number) ≡ arrivals.Delivered vl cycle → end ≡ true
delivered_apart true own vl number cycle e = refl
delivered_apart false own vl number cycle e = absurd cc

-- the arrival is no taking of a frame
abbrev IsNone : Arrival → Type 0
IsNone a = ((vl : VlId) (cycle : ℕ) → a ≡ arrivals.Accepted vl cycle → ⊥) × ((vl : VlId) (cycle : ℕ) → a ≡ arrivals.Delivered vl cycle → ⊥)

none_passed : (relay parent : Bool) (frame : Pcf) (point : Units)
    → IsNone (if relay then (if parent then arrivals.Passes frame Up else arrivals.PassesAndWaits frame Down point) else arrivals.Waits frame point)
none_passed true true frame point = ((λ vl cycle e. cc), (λ vl cycle e. cc))
none_passed true false frame point = ((λ vl cycle e. cc), (λ vl cycle e. cc))
none_passed false parent frame point = ((λ vl cycle e. cc), (λ vl cycle e. cc))

none_dropped : (reason : Reason) → IsNone (arrivals.Dropped reason)
none_dropped reason = ((λ vl cycle e. cc), (λ vl cycle e. cc))

module _ (network : Network) (device : DeviceId) (link : LinkId) where
  none_judged : (at : Standpoint) (frame : Pcf) (fault : Option Reason)
      → IsNone (frame_or_fault network device link at frame fault)
  none_judged at frame (Some reason) = none_dropped reason
  none_judged at frame None = none_passed (is_relay network device) (is_parent_of network device link) _ _

  none_control : (at : Standpoint) (frame : Result Pcf PcfRefusal)
      → IsNone (control_arrival network device link at frame)
  none_control at (Err refusal) = none_dropped _
  none_control at (Ok frame) = none_judged at frame (frame_fault network device link at frame)

  -- ---- what is taken

  accepted_so : (way : Way) (at : Standpoint) (octets : List ℕ) (last : VlId → Option ℕ) (vl : VlId) (cycle : ℕ)
      → receiver_of network link way ≡ Some device → timed_arrival network device link at octets last
      ≡ arrivals.Accepted vl cycle → IsTakenAt network device vl cycle (clock_of at)
  accepted_so way at octets last vl cycle received takes = by (octets_fault network at octets) takes
    where
      by_row : (entry : Entry) → entry_entering network device link (field 4 2 octets) ≡ Some entry
          → (o : Option Reason)
          → row_fault network at entry (length octets) (last entry.row.vl) ≡ o → taken_or_fault network
          device at entry o ≡ arrivals.Accepted vl cycle
          → IsTakenAt network device vl cycle (clock_of at)
      by_row entry found (Some reason) e t = absurd ((none_dropped reason).0 vl cycle t)
      by_row entry found None e t =
          let so = taken_apart (is_end network device) entry.row.vl vl (cycle_at network (clock_of at)) cycle t in
          let it = entering network link way (field 4 2 octets) received found in
          let lies = in_window network at entry (length octets) (last entry.row.vl) e in
          record {
            place = it.place;
            entry = entry;
            is = it.is;
            of_vl = so.0;
            target = it.target;
            begun = rw so.1 at lies.0;
            in_cycle = so.1;
            in_time = lies.1;
          }

      by_entry : (o : Option Entry) → entry_entering network device link (field 4 2 octets) ≡ o
          → entry_arrival network device at (length octets) last o ≡ arrivals.Accepted vl cycle → IsTakenAt network
          device vl cycle (clock_of at)
      by_entry None found t = absurd ((none_dropped _).0 vl cycle t)
      by_entry (Some entry) found t =
          by_row entry found (row_fault network at entry (length octets) (last entry.row.vl)) refl t

      by : (o : Option Reason) → octets_or_fault network device link at octets last o ≡ arrivals.Accepted vl cycle
          → IsTakenAt network device vl cycle (clock_of at)
      by (Some reason) t = absurd ((none_dropped reason).0 vl cycle t)
      by None t = by_entry (entry_entering network device link (field 4 2 octets)) refl t

  delivered_so : (at : Standpoint) (octets : List ℕ) (last : VlId → Option ℕ) (vl : VlId) (cycle : ℕ)
      → timed_arrival network device link at octets last ≡ arrivals.Delivered vl cycle → is_end network device ≡ true
  delivered_so at octets last vl cycle takes = by (octets_fault network at octets) takes
    where
      by_row : (entry : Entry) (o : Option Reason) → taken_or_fault network device at entry o ≡ arrivals.Delivered vl
          cycle → is_end network device ≡ true
      by_row entry (Some reason) t = absurd ((none_dropped reason).1 vl cycle t)
      by_row entry None t = delivered_apart (is_end network device) entry.row.vl vl _ cycle t

      by_entry : (o : Option Entry) → entry_arrival network device at (length octets) last o ≡ arrivals.Delivered vl
          cycle → is_end network device ≡ true
      by_entry None t = absurd ((none_dropped _).1 vl cycle t)
      by_entry (Some entry) t = by_row entry (row_fault network at entry (length octets) (last entry.row.vl)) t

      by : (o : Option Reason) → octets_or_fault network device link at octets last o ≡ arrivals.Delivered vl cycle
          → is_end network device ≡ true
      by (Some reason) t = absurd ((none_dropped reason).1 vl cycle t)
      by None t = by_entry (entry_entering network device link (field 4 2 octets)) t

  -- a frame that is delivered is of a virtual link of the network
  delivered_vl : (way : Way) (at : Standpoint) (octets : List ℕ) (last : VlId → Option ℕ) (vl : VlId) (cycle : ℕ)
      → receiver_of network link way ≡ Some device → timed_arrival network device link at octets last
      ≡ arrivals.Delivered vl cycle → vl.0 < length network.vl
  delivered_vl way at octets last vl cycle received takes = by (octets_fault network at octets) takes
    where
      own : (end : Bool) (mine : VlId) (number : ℕ)
          → (if end then arrivals.Delivered mine number else arrivals.Accepted mine number) ≡ arrivals.Delivered vl
          cycle → mine ≡ vl
      own true mine number e = cc
      own false mine number e = absurd cc

      by_row : (entry : Entry) → entry_entering network device link (field 4 2 octets) ≡ Some entry
          → (o : Option Reason)
          → taken_or_fault network device at entry o ≡ arrivals.Delivered vl cycle → vl.0 < length network.vl
      by_row entry found (Some reason) t = absurd ((none_dropped reason).1 vl cycle t)
      by_row entry found None t =
          let it = entering network link way (field 4 2 octets) received found in
          rw (own (is_end network device) entry.row.vl _ t) at (slice_get_within network.vl entry.row.vl.0 entry.vl
          it.is.vl)

      by_entry : (o : Option Entry) → entry_entering network device link (field 4 2 octets) ≡ o
          → entry_arrival network device at (length octets) last o ≡ arrivals.Delivered vl cycle → vl.0 < length
          network.vl
      by_entry None found t = absurd ((none_dropped _).1 vl cycle t)
      by_entry (Some entry) found t =
          by_row entry found (row_fault network at entry (length octets) (last entry.row.vl)) t

      by : (o : Option Reason) → octets_or_fault network device link at octets last o ≡ arrivals.Delivered vl cycle
          → vl.0 < length network.vl
      by (Some reason) t = absurd ((none_dropped reason).1 vl cycle t)
      by None t = by_entry (entry_entering network device link (field 4 2 octets)) refl t

module _ (s : Scenario) (front : List Happening) (device : DeviceId) (t : ℕ) (link : LinkId) (cause : ℕ) (vl : VlId)
    (cycle : ℕ) where
  -- a switch that accepts a frame found so
  pub taken_at : ArrivesAs s front device t link cause (arrivals.Accepted vl cycle)
      → IsTakenAt s.network device vl cycle (local_before s front device t)
  taken_at a = by a.signal a.arrives.receiver a.becomes
    where
      by : (signal : Signal) → receiver_of s.network link a.arrives.way ≡ Some device → arrivals.Accepted vl cycle
          ≡ arrival_of s front device t link cause signal
          → IsTakenAt s.network device vl cycle (local_before s front device t)
      by (control frame) received e =
          absurd ((none_control s.network device link (standpoint s front device t) frame).0 vl cycle (sym e))
      by (timed octets) received e =
          accepted_so s.network device link a.arrives.way (standpoint s front device t) octets
          (last_taken front device t link cause) vl cycle received (sym e)

  -- and what is delivered is so to an end system
  pub delivered_end : ArrivesAs s front device t link cause (arrivals.Delivered vl cycle)
      → is_end s.network device ≡ true
  delivered_end a = by a.signal a.becomes
    where
      by : (signal : Signal) → arrivals.Delivered vl cycle ≡ arrival_of s front device t link cause signal → is_end
          s.network device ≡ true
      by (control frame) e =
          absurd ((none_control s.network device link (standpoint s front device t) frame).1 vl cycle (sym e))
      by (timed octets) e = delivered_so s.network device link (standpoint s front device t) octets
          (last_taken front device t link cause) vl cycle (sym e)

-- ---- the value that the clock showed

-- a value in a cycle from 1 on
pub value_in : (z : ℤ) (size cycle : ℕ) → 1 ≤ size → 1 ≤ cycle → natural (int_div_euclid z (pos size)) ≡ cycle → (place : ℕ) × (place < size)
    × (z ≡ pos (cycle * size + place)) × (int_rem_euclid z (pos size) ≡ pos place)
value_in (pos a) size cycle some begun e =
    let parts = div-add-mod a size in
    let turned : size * (a / size) ≡ cycle * size = rw e (omega arith) in
    (a % size, mod-lt a {m = size} some, ap (λ n. pos n) (omega arith), refl)
value_in (negsuc a) size cycle some begun e = absurd (omega arith)

-- the virtual link of a frame that is delivered is the network's
pub delivered_of : (s : Scenario) (front : List Happening) (device : DeviceId) (t : ℕ) (link : LinkId) (cause : ℕ) (vl : VlId) (cycle : ℕ)
    → ArrivesAs s front device t link cause (arrivals.Delivered vl cycle) → vl.0 < length s.network.vl
delivered_of s front device t link cause vl cycle a = by a.signal a.arrives.receiver a.becomes
  where
    by : (signal : Signal) → receiver_of s.network link a.arrives.way ≡ Some device
        → arrivals.Delivered vl cycle ≡ arrival_of s front device t link cause signal → vl.0 < length s.network.vl
    by (control frame) received e = absurd ((none_control s.network device link (standpoint s front device t) frame).1 vl cycle (sym e))
    by (timed octets) received e =
        delivered_vl s.network device link a.arrives.way (standpoint s front device t) octets (last_taken front device t link cause) vl cycle received (sym e)

-- ---- a device's clock reaches a value: what it shows then, and what it has taken by then

-- ---- what the clock shows where it reaches a value

-- it shows the value, or more by less than the precision
pub record ShowsAt (z v : ℤ) (precision : ℕ) : Type 0 where
  pub least : v ≤ℤ z
  pub most : z <ℤ (v +ℤ pos precision)

shown_so : (v a : ℤ) (r q precision : ℕ) → (v -ℤ a) ≤ℤ pos r → pos q <ℤ (v -ℤ a) → r < q + precision → ShowsAt (pos r +ℤ a) v precision
shown_so v a r q precision reached before jump = record { least = omega (arith, ints); most = omega (arith, ints) }

-- so it does where its clock reaches the value
pub shows_at : {s : Scenario} {hs : List Happening} {device : DeviceId} {v : ℤ} {t precision : ℕ}
    → IsSteady (s.reading device) precision → Reaches s hs device v t
    → ShowsAt (local_before s hs device t) v precision
shows_at {s} {hs} {device} {v} {t} {precision} steady r =
    let c = changed_at hs device t in
    let a = (adjustment_before s hs device t).0 in
    elim (cases_lt c t) [
      | inr ge ↦
          let same : c ≡ t = omega (arith, ints) in
          let below : (pos (s.reading device t) +ℤ a) <ℤ v = rw same at r.below in
          absurd (omega (arith, ints))
      | inl lt ↦
          let before = r.reach.not_before (t - 1) (omega (arith, ints)) (omega (arith, ints)) in
          let again : t - 1 + 1 ≡ t = omega arith in
          let jump = rw again at (steady.no_jump (t - 1)) in
          shown_so v a (s.reading device t) (s.reading device (t - 1)) precision r.reach.reached before jump
    ]

-- ---- the records of takings

-- the adjustment before the time of a record, by the records before it
same_clock : {s : Scenario} {hs : List Happening} {h : Happening} (device : DeviceId) → AreFoundedAs s hs
    → (at : IsFoundedAs s hs h) → local_before s at.front device (time_of h) ≡ local_before s hs device (time_of h)
same_clock {s} {hs} {h} device founded at =
    let later : (g : Happening) → IsIn g (h ∷ at.rest) → time_of h ≤ time_of g = λ g i. elim i [
      | inl e ↦ let same : time_of g ≡ time_of h = ap time_of e in omega arith
      | inr more ↦ in_order hs (λ front rest x e. (founded front rest x e).0) at.front at.rest h at.whole g more
    ] in
    rw (sym (earlier_still (time_of h) at.front (h ∷ at.rest) later) ∙ ap (earlier (time_of h)) (sym at.whole))

module _ (s : Scenario) (hs : List Happening) (h : Happening) (device : DeviceId) (link : _) (cause : ℕ) (vl : VlId)
    (cycle : ℕ) (founded : AreFoundedAs s hs) (i : IsIn h hs) where
  -- a frame that was accepted came in the window of a row that enters the device
  pub accepted_at : h.note.body ≡ notes.Accepted device link cause vl cycle
      → IsTakenAt s.network device vl cycle (local_before s hs device (time_of h))
  accepted_at body =
      let at = founded_as s hs h founded i in
      let caused : IsCaused s at.front h.note.time (notes.Accepted device link cause vl cycle) =
      subst (IsCaused s at.front h.note.time) body at.due.cause in
      rw (same_clock {s = s} {hs = hs} {h = h} device founded at) at (taken_at s at.front device (time_of h) link cause
      vl cycle caused)

  -- and one that was delivered came to an end system
  pub delivered_at : h.note.body ≡ notes.Delivered device link cause vl cycle → is_end s.network device ≡ true
  delivered_at body =
      let at = founded_as s hs h founded i in
      let caused : IsCaused s at.front h.note.time (notes.Delivered device link cause vl cycle) =
      subst (IsCaused s at.front h.note.time) body at.due.cause in
      delivered_end s at.front device (time_of h) link cause vl cycle caused

-- ---- cycles

-- a cycle of a network is not empty
pub cycle_is : {network : Network} → IsInRange network
    → (network.cycle.0 ≡ pos (amount network.cycle)) × (1 ≤ amount network.cycle)
cycle_is range = grind (arith, amount, not_negative, ints)

-- what a taking says of the clock
pub record IsShownAt (network : Network) (entry : Entry) (cycle : ℕ) (z : ℤ) : Type 0 where
  pub place : ℕ
  pub shows : z ≡ pos (cycle * amount network.cycle + place)
  pub less : place < amount network.cycle
  pub in_time : place ≤ window_end network entry

-- so a taking does
pub shown_at : {network : Network} {device : DeviceId} {vl : VlId} {cycle : ℕ} {z : ℤ} → IsInRange network
    → (it : IsTakenAt network device vl cycle z) → IsShownAt network it.entry cycle z
shown_at {network} {cycle} {z} range it =
    let sized = cycle_is range in
    let v = value_in z (amount network.cycle) cycle sized.1 it.begun (rw (sym sized.0) it.in_cycle) in
    let place : offset_in_cycle network z ≡ pos v.0 = ap (int_rem_euclid z) sized.0 ∙ v.3 in
    let close = it.in_time in
    record { place = v.0; shows = v.2; less = v.1; in_time = omega (arith, ints) }

-- of two cycles the later begins where the earlier has ended
pub cycles_apart : (a b size : ℕ) → a < b → a * size + size ≤ b * size
cycles_apart a b size lt = grind (arith, mul-le-mul_right)

-- ---- a row that leaves a switch

-- a row leaves the device, which is not the sender of its virtual link
pub record IsForwarded (network : Network) (device : DeviceId) (place : ℕ) (entry : Entry) : Type 0 where
  pub is : IsEntry network place entry
  pub leaves : source_of entry ≡ device
  pub other : entry.vl.sender ≡ device → ⊥

-- what was taken in the cycle was taken below the row's value in the cycle
pub below_value : {network : Network} {device : DeviceId} {place cycle : ℕ} {entry : Entry} {z : ℤ}
    → IsInRange network → KeepsRules network → IsForwarded network device place entry
    → IsTakenAt network device entry.row.vl cycle z → z <ℤ pos
    (cycle * amount network.cycle + amount entry.row.offset)
below_value {place} {entry} range rules f it =
    let shown = shown_at range it in
    let behind = (rules Forwarding place).from_switch it.place it.entry entry it.is f.is (sym it.of_vl) (λ e. f.other (sym e ∙ f.leaves))
    (it.target ∙ sym f.leaves) in
    omega (arith, ints, shown.shows, shown.in_time)

-- a row's window ends in the cycle, with room for the precision
pub row_ends : {network : Network} {place : ℕ} {entry : Entry} → KeepsRules network → IsEntry network place entry
    → amount entry.row.offset + 4 * amount network.precision ≤ amount network.cycle
row_ends {place} {entry} rules is = let ends = rules WindowEnds place entry is in omega arith

-- where the clock reaches the row's value in a cycle, it takes no frame of the virtual link
pub none_at_value : {s : Scenario} {hs : List Happening} {device : DeviceId} {place : ℕ} (cycle : ℕ) {t : ℕ}
    {entry : Entry} → IsInRange s.network → KeepsRules s.network
    → IsSteady (s.reading device) (amount s.network.precision) → AreFoundedAs s hs
    → IsForwarded s.network device place entry → Reaches s hs device
    (pos (cycle * amount s.network.cycle + amount entry.row.offset)) t
    → (h : Happening) (link : _) (cause of_cycle : ℕ) → IsIn h hs → time_of h ≡ t
    → h.note.body ≡ notes.Accepted device link cause entry.row.vl of_cycle → ⊥
none_at_value {s} {hs} {device} cycle {t} {entry} range rules steady founded f r h link cause of_cycle i at body =
    let n = s.network in
    let z = local_before s hs device t in
    let it : IsTakenAt n device entry.row.vl of_cycle z =
    rw at at (accepted_at s hs h device link cause entry.row.vl of_cycle founded i body) in
    let shown = shown_at range it in
    let shows = shows_at steady r in
    let ends = row_ends rules f.is in
    let sized = cycle_is range in
    let off = shown.place + of_cycle * amount n.cycle - cycle * amount n.cycle in
    let least : cycle * amount n.cycle + amount entry.row.offset ≤ of_cycle * amount n.cycle + shown.place = omega
    (arith, ints, shows.least, shown.shows) in
    let most : of_cycle * amount n.cycle + shown.place < cycle * amount n.cycle + amount entry.row.offset + amount n.precision = omega
    (arith, ints, shows.most, shown.shows) in
    let same = same_heads of_cycle cycle (amount n.cycle) shown.place off shown.less (omega (arith, sized.1)) (omega
    arith) in
    let low = below_value range rules f it in
    let moved : z <ℤ pos (cycle * amount n.cycle + amount entry.row.offset) = rw same at low in
    omega (arith, ints, shows.least)

-- ---- what the node has of a row's frame when its clock reaches the row's value is what the records say that it has at hand

-- ---- the last frame that a switch took is that of the last record that says so

-- the frame is that of the record, by which the switch accepted it
abbrev pub IsLastBy : DeviceId → VlId → (ℕ → ℤ) → Option TakenFrame → Option Happening → Type 0
IsLastBy device vl at None None = Unit {0}
IsLastBy device vl at (Some f) (Some h) = (link : _) × (from : ℕ) × (h.note.body ≡ notes.Accepted device link from vl f.cycle) × (f.at ≡ at (time_of h))
IsLastBy device vl at f h = ⊥

abbrev is_of : VlId → TakenFrame → Bool
is_of vl f = f.vl.0 == vl.0

-- one record
last_step : (device : DeviceId) (vl : VlId) (at : ℕ → ℤ) (o : Option TakenFrame) (p : Option Happening) (h : Happening) (body : NoteBody) → h.note.body ≡ body
    → ((link : _) (from : ℕ) (of_vl : VlId) (cycle : ℕ) → body ≡ notes.Delivered device link from of_vl cycle → ⊥) → IsLastBy device vl at o p
    → IsLastBy device vl at (last_or o (filter (is_of vl) (taken_in device (at (time_of h)) body))) (if is_accepted device vl body then Some h else p)
last_step device vl at o p h (notes.Accepted other link from of_vl cycle) is none last =
    elim (cases_Bool (device.0 == other.0)) [
      | inr apart ↦
          rw apart last
      | inl mine ↦
          rw mine (of_mine (rw (eqb-true device.0 other.0 mine)))
    ]
  where
    frame : TakenFrame
    frame = record { vl = of_vl; cycle = cycle; at = at (time_of h) }

    of_mine : device ≡ other → IsLastBy device vl at (last_or o (if of_vl.0 == vl.0 then frame ∷ [] else [])) (if vl.0 == of_vl.0 then Some h else p)
    of_mine one =
        elim (cases_Bool (vl.0 == of_vl.0)) [
          | inr apart ↦
              rw apart (rw (turned vl.0 of_vl.0 false apart) last)
          | inl same ↦
              let vls : vl ≡ of_vl = rw (eqb-true vl.0 of_vl.0 same) in
              let said = is ∙ ap (λ d. notes.Accepted d link from of_vl cycle) (sym one)
              ∙ ap (λ x. notes.Accepted device link from x cycle) (sym vls) in
              rw same (rw (turned vl.0 of_vl.0 true same) (link, from, said, refl))
        ]
last_step device vl at o p h (notes.Delivered other link from of_vl cycle) is none last =
    elim (cases_Bool (device.0 == other.0)) [
      | inr apart ↦
          rw apart last
      | inl mine ↦
          absurd (none link from of_vl cycle (rw (sym (eqb-true device.0 other.0 mine))))
    ]
last_step device vl at o p h other is none last = last

-- all records, where the device is delivered no frame
pub last_by : (device : DeviceId) (vl : VlId) (at : ℕ → ℤ) (hs : List Happening) (o : Option TakenFrame) (p : Option Happening) → IsLastBy device vl at o p
    → ((h : Happening) → IsIn h hs → (link : _) (from : ℕ) (of_vl : VlId) (cycle : ℕ) → h.note.body ≡ notes.Delivered device link from of_vl cycle → ⊥)
    → IsLastBy device vl at (last_or o (filter (is_of vl) (taken_by device at hs))) (last_or p (filter (λ h. is_accepted device vl h.note.body) hs))
last_by device vl at [] o p last none = last
last_by device vl at (h ∷ hs) o p last none =
    let here = taken_in device (at (time_of h)) h.note.body in
    let more = taken_by device at hs in
    let step = last_step device vl at o p h h.note.body refl (λ link from of_vl cycle e. none h (inl refl) link from of_vl cycle e) last in
    let rest = last_by device vl at hs (last_or o (filter (is_of vl) here)) (if is_accepted device vl h.note.body then Some h else p) step
    (λ g i. none g (inr i)) in
    let frames : last_or o (filter (is_of vl) (here ++ more)) ≡ last_or (last_or o (filter (is_of vl) here)) (filter (is_of vl) more) =
    ap (last_or o) (filter-append (is_of vl) here more) ∙ last_more o (filter (is_of vl) here) (filter (is_of vl) more) in
    let records = last_if (is_accepted device vl h.note.body) p h (filter (λ g. is_accepted device vl g.note.body) hs) in
    rw frames (rw records rest)

-- ---- records that are all earlier

-- a filter keeps none that is no earlier
pub filter_earlier : (q : Happening → Bool) (t : ℕ) (hs : List Happening) → ((h : Happening) → IsIn h hs → q h ≡ true → time_of h < t)
    → filter q (earlier t hs) ≡ filter q hs
filter_earlier q t [] sooner = refl
filter_earlier q t (h ∷ hs) sooner = grind (arith, cases_Bool, filter, earlier, lt-ltb, time_of, nat_lt, (filter_earlier q t hs (λ g i. sooner g (inr i))))

-- what passes the test is such a record
accepts : (device : DeviceId) (vl : VlId) (body : NoteBody) → is_accepted device vl body ≡ true → (link : _) × (from : ℕ) × (cycle : ℕ)
    × (body ≡ notes.Accepted device link from vl cycle)
accepts device vl (notes.Accepted other link from of_vl cycle) e =
    let parts = and_parts (device.0 == other.0) (vl.0 == of_vl.0) e in (
      link,
      from,
      cycle,
      rw (sym (eqb-true device.0 other.0 parts.0))
          (rw (sym (eqb-true vl.0 of_vl.0 parts.1))),
    )
accepts device vl other e = absurd cc

-- ---- the node of a device whose clock reaches the value of a row

-- the records are those of a network that keeps its rules, with steady clocks, none of them later than the time; they leave
-- the node with what it took; and by them the clock comes to the row's value in the cycle
pub record IsReaching (s : Scenario) (hs : List Happening) (device : DeviceId) (node : Node) (row : RowId) (entry : Entry) (cycle t : ℕ) : Type 0 where
  pub range : IsInRange s.network
  pub rules : KeepsRules s.network
  pub steady : IsSteady (s.reading device) (amount s.network.precision)
  pub founded : AreFoundedAs s hs
  pub past : (h : Happening) → IsIn h hs → time_of h ≤ t
  pub taken : node.taken ≡ frames_taken s hs device
  pub is : IsEntry s.network row.0 entry
  pub leaves : source_of entry ≡ device
  pub reached : Reaches s hs device (pos (cycle * amount s.network.cycle + amount entry.row.offset)) t

-- the row's value
pub value_is : {network : Network} (row : RowId) {entry : Entry} (cycle : ℕ) → IsEntry network row.0 entry
    → value_of network (dispatching row cycle) ≡ pos (cycle * amount network.cycle + amount entry.row.offset)
value_is {network} row cycle is = rw is.row

module _ {s : Scenario} {hs : List Happening} {device : DeviceId} {node : Node} {row : RowId} {entry : Entry}
    {cycle t : ℕ} (r : IsReaching s hs device node row entry cycle t)
    (f : IsForwarded s.network device row.0 entry) where
  -- at a device that does not send the frame, each record of a taking is of an earlier time
  pub taken_sooner : (h : Happening) → IsIn h hs → is_accepted device entry.row.vl h.note.body ≡ true → time_of h < t
  taken_sooner h i e =
      elim (cases_lt (time_of h) t) [
        | inl lt ↦ lt
        | inr ge ↦
            let it = accepts device entry.row.vl h.note.body e in
            absurd (none_at_value cycle r.range r.rules r.steady r.founded f r.reached h it.0 it.1 it.2 i
            (omega arith) it.3)
      ]

  -- at a switch, the last record of a taking is of an earlier time, and the node's frame is that of the record
  last_at : is_end s.network device ≡ false → IsLastBy device entry.row.vl (local_before s hs device)
      (last_taken_frame node entry.row.vl) (last_accepted hs device entry.row.vl t)
  last_at switch =
      let vl = entry.row.vl in
      let same = filter_earlier (λ h. is_accepted device vl h.note.body) t hs taken_sooner in
      let last = last_by device vl (local_before s hs device) hs None None tt (λ h i link from of_vl of_cycle e.
      (let bad = sym switch ∙ delivered_at s hs h device link from of_vl of_cycle r.founded i e in
      cc)) in
      rw r.taken (rw same last)

-- two ids are one device's or not
pub sender_or : (d e : DeviceId) → (d ≡ e) ⊎ (d ≡ e → ⊥)
sender_or d e = grind (arith, cases_eq)

-- what is at hand by the records the node has
pub has_frame : {s : Scenario} {hs : List Happening} {device : DeviceId} {node : Node} {row : RowId} {entry : Entry}
    {cycle cause t : ℕ} → IsReaching s hs device node row entry cycle t → OccursIn entry.vl cycle
    → HasAtHand s.network hs device entry t cause cycle → HasFrame s.network device node row cycle
has_frame {entry} r occurs (inl sender) =
    record { entry = entry; is = r.is; leaves = r.leaves; occurs = occurs; has = inl sender.0 }
has_frame {s} {hs} {device} {node} {row} {entry} {cycle} {t} r occurs (inr took) =
    elim (sender_or entry.vl.sender device) [
      | inl sender ↦ record { entry = entry; is = r.is; leaves = r.leaves; occurs = occurs; has = inl sender }
      | inr other ↦
          let f : IsForwarded s.network device row.0 entry = record { is = r.is; leaves = r.leaves; other = other } in
          let last = rw took.1.last at (last_at r f took.0) in
          record {
            entry = entry;
            is = r.is;
            leaves = r.leaves;
            occurs = occurs;
            has = inr (took.0, record { last = by f (last_taken_frame node entry.row.vl) last });
          }
    ]
  where
    by : IsForwarded s.network device row.0 entry → (o : Option TakenFrame) → IsLastBy device entry.row.vl (local_before s hs device) o (Some took.1.taken)
        → IsSomeAnd o (λ taking. (taking.cycle ≡ cycle) × (taking.at <ℤ value_of s.network (dispatching row cycle)))
    by f None last = absurd last
    by f (Some taking) last =
        let i : IsIn took.1.taken hs = elim (last_in None (filter (λ h. is_accepted device entry.row.vl h.note.body) (earlier t hs)) took.1.taken took.1.last) [
          | inl none ↦ absurd cc
          | inr i ↦ in_filter _ hs took.1.taken (in_filter _ (earlier t hs) took.1.taken i)
        ] in
        let at = accepted_at s hs took.1.taken device took.1.link took.1.from entry.row.vl cycle r.founded i took.1.is in
        let below = below_value r.range r.rules
        f at in (
          cc,
          rw last.3 (rw (value_is row cycle r.is) below),
        )

-- and what the node has is at hand by them
pub at_hand : {s : Scenario} {hs : List Happening} {device : DeviceId} {node : Node} {row : RowId} {cycle t : ℕ}
    (has : HasFrame s.network device node row cycle) → IsReaching s hs device node row has.entry cycle t
    → (cause : ℕ) × HasAtHand s.network hs device has.entry t cause cycle
at_hand {s} {hs} {device} {node} {row} {cycle} {t} has r =
    elim (sender_or has.entry.vl.sender device) [
      | inl sender ↦ (0, inl (sender, refl))
      | inr other ↦ elim has.has [
        | inl sender ↦ absurd (other sender)
        | inr took ↦
            let last = last_at r (record { is = r.is; leaves = r.leaves; other = other }) took.0 in
            by took.0 (last_taken_frame node has.entry.row.vl) took.1.last (last_accepted hs device has.entry.row.vl t) refl last
      ]
    ]
  where
    by : is_end s.network device ≡ false → (o : Option TakenFrame)
        → IsSomeAnd o (λ taking. (taking.cycle ≡ cycle) × (taking.at <ℤ value_of s.network (dispatching row cycle)))
        → (p : Option Happening) → last_accepted hs device has.entry.row.vl t ≡ p → IsLastBy device has.entry.row.vl (local_before s hs device) o p
        → (cause : ℕ) × HasAtHand s.network hs device has.entry t cause cycle
    by switch None there p e last = absurd there
    by switch (Some taking) there None e last = absurd last
    by switch (Some taking) there (Some h) e last =
        let accepted : HasAccepted hs device has.entry.row.vl t h.note.number cycle = record {
          taken = h;
          last = e;
          number = refl;
          link = last.0;
          from = last.1;
          is = last.2 ∙ (rw there.0);
        } in
        (h.note.number, inr (switch, accepted))

-- What a device took by the records stays, whatever other records come, and however they are numbered.

-- by the record the device takes no frame
abbrev pub IsNoTaking : DeviceId → NoteBody → Type 0
IsNoTaking device body = (at : ℤ) → taken_in device at body ≡ []

-- ---- lists

-- records in two parts
pub taken_parts : (device : DeviceId) (at : ℕ → ℤ) (hs gs : List Happening) → taken_by device at (hs ++ gs) ≡ taken_by device at hs ++ taken_by device at gs
taken_parts device at hs gs = flat_map-append (λ h. taken_in device (at (time_of h)) h.note.body) hs gs

-- where the clock showed the same at the times of the records
pub taken_same : (device : DeviceId) (at other : ℕ → ℤ) (hs : List Happening) → ((h : Happening) → IsIn h hs → at (time_of h) ≡ other (time_of h))
    → taken_by device at hs ≡ taken_by device other hs
taken_same device at other [] same = refl
taken_same device at other (h ∷ hs) same =
    rw (same h (inl refl))
    (rw (taken_same device at other hs (λ g i. same g (inr i))))

-- records by which it takes none
pub taken_none : (device : DeviceId) (at : ℕ → ℤ) (hs : List Happening) → ((h : Happening) → IsIn h hs → IsNoTaking device h.note.body)
    → taken_by device at hs ≡ []
taken_none device at [] none = refl
taken_none device at (h ∷ hs) none =
    rw (none h (inl refl) (at (time_of h))) (taken_none device at hs (λ g i. none g (inr i)))

-- ---- numbers do not count

taken_plain : (device : DeviceId) (at : ℕ → ℤ) (hs : List Happening) → taken_by device at (plains hs) ≡ taken_by device at hs
taken_plain device at [] = refl
taken_plain device at (h ∷ hs) = rw (taken_plain device at hs)

local_plain : (s : Scenario) (hs : List Happening) (device : DeviceId) (t : ℕ) → local_before s (plains hs) device t ≡ local_before s hs device t
local_plain s hs device t =
    ap (λ u. pos (s.reading device t) +ℤ u.0)
    (ap (λ l. adjustment_after s l device) (earlier_plain t hs) ∙ adjustments_plain s (earlier t hs) device)

-- the frames that the device took, by the records without numbers
pub frames_plain : (s : Scenario) (hs : List Happening) (device : DeviceId) → frames_taken s (plains hs) device ≡ frames_taken s hs device
frames_plain s hs device =
    search (arith, taken_plain, taken_same, local_plain)

-- so records that differ in these alone say the same
pub frames_by_others : (s : Scenario) (hs gs : List Happening) (device : DeviceId) → plains hs ≡ plains gs → frames_taken s hs device ≡ frames_taken s gs device
frames_by_others s hs gs device same = sym (frames_plain s hs device) ∙ (rw same (frames_plain s gs device))

-- ---- one more record

-- the adjustment before a time does not rest on a record that is no earlier, wherever it stands
before_put : (s : Scenario) (ps bs : List Happening) (w : Happening) (device : DeviceId) (t : ℕ) → t ≤ time_of w
    → adjustment_before s (ps ++ w ∷ bs) device t ≡ adjustment_before s (ps ++ bs) device t
before_put s ps bs w device t le =
    rw (drop_one (λ h. nat_lt (time_of h) t) ps bs w (le-ltb (time_of w) t le))

-- what the device takes by a record that leaves its adjustment as it was before the time of each other
frames_among : (s : Scenario) (ps bs : List Happening) (w : Happening) (device : DeviceId)
    → ((t : ℕ) → t ≤ time_of w → adjustment_before s (ps ++ w ∷ bs) device t ≡ adjustment_before s (ps ++ bs) device t)
    → ((h : Happening) → IsIn h (ps ++ bs) → time_of h ≤ time_of w)
    → frames_taken s (ps ++ w ∷ bs) device ≡ taken_by device (local_before s (ps ++ bs) device) ps ++ (taken_in device (local_before s (ps ++ bs) device
    (time_of w)) w.note.body ++ taken_by device (local_before s (ps ++ bs) device) bs)
frames_among s ps bs w device same sooner =
    let old = local_before s (ps ++ bs) device in
    let new = local_before s (ps ++ w ∷ bs) device in
    let shows : (t : ℕ) → t ≤ time_of w → new t ≡ old t = λ t le. rw (same t le) in
    let in_front : (h : Happening) → IsIn h ps → IsIn h (ps ++ bs) = λ h i. front_in h ps bs i in
    let in_back : (h : Happening) → IsIn h bs → IsIn h (ps ++ bs) = λ h i. back_in h ps bs i in
    taken_parts device new ps (w ∷ bs)
    ∙ (rw (taken_same device new old ps (λ h i. shows (time_of h) (sooner h (in_front h i))))
    ((rw (taken_same device new old bs (λ h i. shows (time_of h) (sooner h (in_back h i))))
    ((rw (shows (time_of w) (omega arith)))))))
  where
    front_in : (h : Happening) (xs ys : List Happening) → IsIn h xs → IsIn h (xs ++ ys)
    front_in h [] ys i = absurd i
    front_in h (x ∷ xs) ys (inl e) = inl e
    front_in h (x ∷ xs) ys (inr i) = inr (front_in h xs ys i)

    back_in : (h : Happening) (xs ys : List Happening) → IsIn h ys → IsIn h (xs ++ ys)
    back_in h [] ys i = i
    back_in h (x ∷ xs) ys i = inr (back_in h xs ys i)

-- a record by which the device takes none, put in at its place among others that are no later, leaves what it took
pub frames_put : (s : Scenario) (ps bs : List Happening) (w : Happening) (device : DeviceId) → IsNoTaking device w.note.body
    → ((h : Happening) → IsIn h (ps ++ bs) → time_of h ≤ time_of w) → frames_taken s (ps ++ w ∷ bs) device ≡ frames_taken s (ps ++ bs) device
frames_put s ps bs w device none sooner = grind (arith, local_before, frames_among, before_put, taken_by, time_of, taken_parts)

-- and one by which it takes one, behind all others of its takings, adds what it took by it
pub frames_with : (s : Scenario) (ps bs : List Happening) (w : Happening) (device : DeviceId)
    → ((h : Happening) → IsIn h bs → IsNoTaking device h.note.body) → ((h : Happening) → IsIn h (ps ++ bs) → time_of h ≤ time_of w)
    → frames_taken s (ps ++ w ∷ bs) device ≡ frames_taken s (ps ++ bs) device ++ taken_in device (local_before s (ps ++ bs) device (time_of w)) w.note.body
frames_with s ps bs w device none sooner =
    let old = local_before s (ps ++ bs) device in
    let now = taken_in device (old (time_of w)) w.note.body in
    let behind = taken_none device old bs none in
    let whole = taken_parts device old ps bs
    ∙ ap (λ l. taken_by device old ps ++ l) behind ∙ append-nil (taken_by device old ps) in
    frames_among s ps bs w device (λ t le. before_put s ps bs w device t le) sooner
    ∙ (rw behind
    ((rw (append-nil now)
    ((rw (sym whole))))))

-- the same of a record at the end
pub frames_end : (s : Scenario) (hs : List Happening) (w : Happening) (device : DeviceId) → IsNoTaking device w.note.body
    → ((h : Happening) → IsIn h hs → time_of h ≤ time_of w) → frames_taken s (hs ++ w ∷ []) device ≡ frames_taken s hs device
frames_end s hs w device none sooner =
    frames_put s hs [] w device none (λ h i. elim (in_parts h hs [] i) [ inl front ↦ sooner h front | inr back ↦ absurd back ])
    ∙ (rw (append-nil hs))

-- ---- a record that bears on nothing, put in

pub idle_taking : (device : DeviceId) (body : NoteBody) → IsIdle body → IsNoTaking device body
idle_taking device (notes.Left other by from clock) i at = refl
idle_taking device (notes.Lost other by from) i at = refl
idle_taking device (notes.Dropped other by from reason) i at = refl
idle_taking device (notes.Clock other reads adjusted state) i at = refl
idle_taking device other i at = absurd i

-- ---- another scenario

-- its readings are the same up to the last of the records
pub frames_alike : (s r : Scenario) (hs : List Happening) (device : DeviceId) (now : ℕ)
    → ((t : ℕ) → adjustment_before s hs device t ≡ adjustment_before r hs device t) → ((x : ℕ) → x ≤ now → s.reading device x ≡ r.reading device x)
    → ((h : Happening) → IsIn h hs → time_of h ≤ now) → frames_taken s hs device ≡ frames_taken r hs device
frames_alike s r hs device now adjusted reads sooner = grind (arith, taken_same, local_before, adjustment_before, time_of)
