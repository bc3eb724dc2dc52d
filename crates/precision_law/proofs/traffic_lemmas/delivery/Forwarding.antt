-- Each row of a virtual link dispatches its frame, and the devices that it enters take it.
use Rattle.std.proofs.{Common.{◌%◌, arith, cond, find}, lemmas.Bool.{le-leb, ltb-true, ne_eqb, not_from_true, or_cases}}
use Rattle.net_plan.specs.{Bounds.gamma_of, declared.tables.Row.Row}
use Rattle.pcf_codec.specs.EtherType.{least_type}
use Rattle.precision_law.proofs.{records.Times.last_some}
use Rattle.precision_law.proofs.traffic_lemmas.{faults.Channels.{source_on, switch_channel, switch_no_end, target_on}}
use Rattle.precision_law.proofs.traffic_lemmas.{schedule.Rows.{rows_are_in_time, rows_go_once}}
use Rattle.precision_law.proofs.traffic_lemmas.Words
use Words.{if◌then◌else◌, ◌&&◌, ◌*◌, ◌++◌, ◌+◌, ◌<◌, ◌==◌, ◌||◌, ◌∙◌, ◌∷◌, ◌≡◌, ◌≢◌, ◌≤ℤ◌, ◌≤◌, ◌⊎◌, Arrival, Bool}
use Words.{BringsBlocks, BringsChannels, DeviceId, Down, Entry, FieldsFit, Happening, HasGoodSources, Integrating}
use Words.{IsBefore, IsDue, IsEntry, IsGood, IsIn, IsInSpan, IsOnChannel, IsRowDispatch, IsSwitchOf, IsTimedAt, IsView}
use Words.{KeepsRules, Link, LinkId, List, Network, None, NoteBody, OccursIn, Option, Reaches, Reason, SaysTaken}
use Words.{SendersAreBroken, Some, Standpoint, State, Synchronised, TimedAreNotTurnedOn, Up, View, VirtualLink, VlId}
use Words.{Way, [], amount, and_parts, ap, arrives_at, before_narrow, cases_lt, clock_of, clocks_reach_sharply, closed}
use Words.{cycle_at, earlier, entry_arrival, entry_entering, eq-eqb, eqb-true, false, field, filter, in_filter, in_left}
use Words.{in_range, inl, inr, int_lt, ints, is_accepted, is_broken, is_end, is_synchronised, is_taken_in}
use Words.{is_turned_on_at, last_accepted, last_in, last_or, last_setting, last_taken, launched, le-ltb, length}
use Words.{link_at, nat_lt, not, numbered, octets_fault, octets_or_fault, offset_in_cycle, one_device, option_and_then}
use Words.{option_map, option_map_or, place_of, pos, reaches_by, refl, room, row_fault, same_some, shown_at, slice_get}
use Words.{source_by, source_of, split, standpoint, state_after, state_before, state_left, steady, subst, suc, sym}
use Words.{taken_or_fault, target_of, time_of, timed, timed_arrival, true, tt_frame_by, way_from, way_to, window_of}
use Words.{zero, ℕ}
use Rattle.precision_law.proofs.traffic_lemmas.delivery.{Faultless.entering}
use Rattle.precision_law.proofs.traffic_lemmas.delivery.{Taken.{put_on, switch_accepts, takings_are_so, way_is}}
use Rattle.precision_law.proofs.traffic_lemmas.delivery.Coming
use Coming.{arrivals_are_in_windows, delay_lies, dispatches_are_whole, dispatches_begin, frame_shows}
use Coming.{frames_arrive_in_spans, on_port, same_id, spans_are_apart, takings_come_by_rows}
use Rattle.precision_law.proofs.traffic_lemmas.ports.{Cycles.same_hull}
use Rattle.precision_law.proofs.traffic_lemmas.ports.Dispatched
use Dispatched.{cycle_is, dispatches_are_in_spans, dispatches_are_of_rows, ends_differ, offset_in_schedule, one_clock}
use Rattle.precision_law.proofs.traffic_lemmas.spans.Spans
use Spans.{earlier_founded, has_time_at, in_places, last_of, set_before, synchronised_stay_so, values_are_reached}
use Rattle.precision_law.specs.{Views.IsSoundSwitch}
use Rattle.precision_law.specs.traffic.{Spans.ReachesInSpan}
use Rattle.precision_law.specs.traffic.Delivered.{ArrivalsAreTaken, HasTaken, IsRowSent, IsSentIn, RowsAreSent}
use Rattle.precision_law.specs.traffic.Delivered.{SoundSwitchesKeepTime}
use Rattle.run_law.proofs.{law.FirstDeliveries.{due_is_there, found_before, next_due, next_note, same_earlier}}
use Rattle.run_law.proofs.{records.{Members.in_kept, Order.{from_earlier, has_passed, is_earlier}}}
use Rattle.run_law.proofs.{scenario.Ways.way_itself}
use Rattle.run_law.specs.{control.{Losses.IsDispatchedOn, Wires.Arrives}, device.States.is_off}
use Rattle.run_law.specs.{records.Happenings.happening, scenario.Ways.{is_way, is_way_of, receiver_of}}
use Rattle.run_law.specs.timed.{Arrivals.{is_row_with, occurs_in, row_entering, taken_by}, Dispatching.HasAtHand}
use Rattle.run_law.specs.timed.{Receptions.{ArrivesAs, arrival_of, comes_before, is_taken_before, taken_cycle}}
use Rattle.schedule_tables.{proofs.Margins.same_or_other}
use Rattle.schedule_tables.{specs.{Windows.window_end, declared.rule.Rule.TheVariants.{Forwarding, Sources}}}
use Rattle.tte_units.proofs.general_lemmas.{Integers.not_below, Lists.found_passes}
use Rattle.run_law.specs.declared.note.NoteBody.TheVariants as notes
use Rattle.run_law.specs.declared.steps.Arrival.TheVariants as arrivals

-- ---- the row by which a frame of the schedule enters a device: the row that is found

-- where an element passes the test, one is found
pub found_some : {X : Type 0} (p : X → Bool) (xs : List X) (i : ℕ) (x : X) → slice_get xs i ≡ Some x → p x ≡ true → (y : X) × (find p xs ≡ Some y)
found_some p [] i x e hit = absurd cc
found_some {X} p (y ∷ xs) zero x e hit = (let same : y ≡ x = cc in (y, rw (ap p same ∙ hit)))
found_some {X} p (y ∷ xs) (suc k) x e hit =
    elim (p y) as (λ b. (z : X) × (cond b (Some y) (find p xs) ≡ Some z)) [
      | true ↦ (y, refl)
      | false ↦ found_some p xs k x e hit
    ]

-- a row with its virtual link and its link has an entry
entry_some : (network : Network) (device : DeviceId) (link : LinkId) (id : ℕ) (row : Row) → row_entering network device link id ≡ Some row
    → is_row_with network id row ≡ true → (l : Link) → link_at network row.link ≡ Some l → (e : Entry) × (entry_entering network device link id ≡ Some e)
entry_some network device link id row found named l at =
    by (slice_get network.vl row.vl.0) refl named
  where
    by : (o : Option VirtualLink) → slice_get network.vl row.vl.0 ≡ o → option_map_or (λ vl. vl.id == id) o false ≡ true → (e : Entry)
        × (entry_entering network device link id ≡ Some e)
    by None is named = absurd cc
    by (Some vl) is named = (
      record { row = row; vl = vl; link = l },
      rw found
          (ap (λ o. option_and_then (λ x. option_map (λ y. let e : Entry = record { row = row; vl = x; link = y } in e)
          (link_at network row.link)) o) is
          ∙ ap (λ o. option_map (λ y. let e : Entry = record { row = row; vl = vl; link = y } in e) o) at),
    )

-- the entry by which a frame of a row's virtual link enters by the row's link is the row's
pub enters_by : {network : Network} (device : DeviceId) (link : LinkId) {place : ℕ} {entry : Entry}
    → KeepsRules network → IsEntry network place entry → entry.row.link ≡ link
    → way_to network device link ≡ entry.row.way → entry_entering network device link entry.vl.id ≡ Some entry
enters_by {network} device link {place} {entry} keeps row by way =
    let id = entry.vl.id in
    let named : is_row_with network id entry.row ≡ true = rw row.vl
    (eq-eqb id id refl) in
    let links = eq-eqb link.0 entry.row.link.0 (rw (sym by)) in
    let ways : is_way (way_to network device link) entry.row.way ≡ true = rw way (way_itself entry.row.way) in
    let test : (is_way_of link (way_to network device link) entry.row.link entry.row.way && is_row_with network id entry.row) ≡ true = rw (links, ways, named)
    refl in
    let found = found_some (λ r. is_way_of link (way_to network device link) r.link r.way && is_row_with network id r)
    network.row place entry.row
    row.row test in
    let passes = found_passes (λ r. is_way_of link (way_to network device link) r.link r.way && is_row_with network id
    r) network.row found.0 found.1 in
    let parts = both_true (is_way_of link (way_to network device link) found.0.link found.0.way) (is_row_with network id found.0) passes in
    let same_link = both_true (link.0 == found.0.link.0) (is_way (way_to network device link) found.0.way) parts.0 in
    let links_is = by ∙ ap (λ n. let l : LinkId = record { 0 = n } in l) (eqb-true link.0 found.0.link.0 same_link.0) in
    let some = entry_some network device link id found.0 found.1 parts.1 entry.link
    (rw links_is at row.link) in
    let at = entering network device link id some.0 some.1 in
    let vls = same_id network some.0.row.vl entry.row.vl some.0.vl entry.vl keeps at.row.vl row.vl at.id_is in
    let rows = rows_go_once network at.place place some.0 entry keeps at.row row vls (at.by ∙ sym by) in
    some.1 ∙ ap (λ e. Some e) rows.1
  where
    both_true : (x y : Bool) → (x && y) ≡ true → (x ≡ true) × (y ≡ true)
    both_true true y e = (refl, e)
    both_true false y e = absurd cc

-- ---- no fault

-- a test that fails is passed over
skip : (b : Bool) (x : Bool × Reason) (o : Option (Bool × Reason)) → b ≡ false → option_map (λ test. test.1) (cond b (Some x) o) ≡ option_map (λ test. test.1) o
skip true x o e = absurd cc
skip false x o e = refl

-- octets of the network, for a synchronised device, have no fault
pub octets_sound : (network : Network) (at : Standpoint) (octets : List ℕ) → at.takes_part ≡ true → least_type ≤ field 12 2 octets
    → is_synchronised at.state ≡ true → field 0 4 octets ≡ network.marker → octets_fault network at octets ≡ None
octets_sound network at octets part type with_time marker = grind (arith, skip, not, not_from_true, nat_lt, field, le-ltb, is_synchronised, eq-eqb)

-- a frame of the row, in the row's window, has none
pub row_sound : (network : Network) (at : Standpoint) (entry : Entry) (size : ℕ) (last : Option ℕ) → size ≡ entry.vl.length
    → OccursIn entry.vl (cycle_at network (clock_of at))
    → (window_of network entry).from.0 ≤ℤ offset_in_cycle network (clock_of at) → offset_in_cycle network (clock_of at) ≤ℤ (window_of network entry).to.0
    → is_taken_in (cycle_at network (clock_of at)) last ≡ false → row_fault network at entry size last ≡ None
row_sound network at entry size last whole occurs from to anew =
    let begun = le-leb 1 (cycle_at network (clock_of at)) occurs.begun in
    let phase = eq-eqb (cycle_at network (clock_of at) % entry.vl.period)
    entry.vl.phase occurs.in_phase in
    let happens : occurs_in entry.vl (cycle_at network (clock_of at)) ≡ true = rw (begun, phase) refl in
    let early =
    neither (not (occurs_in entry.vl (cycle_at network (clock_of at)))) (int_lt (offset_in_cycle network (clock_of at)) (window_of network entry).from.0)
    (not_from_true (occurs_in entry.vl (cycle_at network (clock_of at))) happens)
    (not_below (offset_in_cycle network (clock_of at)) (window_of network entry).from.0 from) in
    skip (not (size == entry.vl.length)) _ _ (not_from_true (size == entry.vl.length) (eq-eqb size entry.vl.length whole))
    ∙ skip (not (occurs_in entry.vl (cycle_at network (clock_of at))) || int_lt (offset_in_cycle network (clock_of at)) (window_of network entry).from.0) _ _
    early
    ∙ skip (int_lt (window_of network entry).to.0 (offset_in_cycle network (clock_of at))) _ _
    (not_below (window_of network entry).to.0 (offset_in_cycle network (clock_of at)) to)
    ∙ skip (is_taken_in (cycle_at network (clock_of at)) last) _ _ anew
  where
    neither : (x y : Bool) → x ≡ false → y ≡ false → (x || y) ≡ false
    neither true y e f = absurd cc
    neither false y e f = f

-- ---- a dispatched frame that comes to a synchronised device is taken, or one was taken before: ways

-- a device sends on the way on which it is the source
way_from_by : (o : Option Link) (l : Link) (way : Way) (device : DeviceId) → o ≡ Some l → l.child ≢ l.parent → source_by way l ≡ device
    → (if option_map_or (λ x. x.parent.0 == device.0) o false then Down else Up) ≡ way
way_from_by o l Down device at differ source = grind (arith, option_map_or, eq-eqb)
way_from_by o l Up device at differ source = grind (arith, option_map_or, ne_eqb)

-- so does a device of a network
pub sends_on : (network : Network) (link : LinkId) (l : Link) (way : Way) (device : DeviceId) → KeepsRules network → link_at network link ≡ Some l
    → source_by way l ≡ device → way_from network device link ≡ way
sends_on network link l way device keeps at source = way_from_by (link_at network link) l way device at (ends_differ network link l keeps at) source

-- ---- what was taken before

-- the record says that the device took a frame of the virtual link, by the time
pub record SaysSo (device : DeviceId) (vl : VlId) (cycle t : ℕ) (g : Happening) : Type 0 where
  pub link : LinkId
  pub cause : ℕ
  pub says : SaysTaken g.note.body device link cause vl cycle
  pub by_then : time_of g ≤ t

-- what was taken before is no later
sooner : (at t : ℕ) (more : Bool) → (nat_lt at t || (at == t && more)) ≡ true → at ≤ t
sooner at t more e = grind (arith, or_cases, nat_lt, ltb-true, eqb-true, and_parts)

-- the id of a virtual link
pub one_vl : (d e : VlId) → (d.0 == e.0) ≡ true → e ≡ d
one_vl d e same = rw (sym (eqb-true d.0 e.0 same))

-- what passes the test is such a record
pub says_so : (device : DeviceId) (vl : VlId) (cycle t : ℕ) (link : LinkId) (cause : ℕ) (g : Happening) (body : NoteBody) → g.note.body ≡ body
    → is_taken_before device vl t link cause (time_of g) body ≡ true → taken_cycle body ≡ Some cycle → SaysSo device vl cycle t g
says_so device vl cycle t link cause g (notes.Accepted other by from of_vl number) same test cycles =
    let outer = and_parts (device.0 == other.0 && vl.0 == of_vl.0) (nat_lt (time_of g) t || (time_of g == t && comes_before by from link cause)) test in
    let inner = and_parts (device.0 == other.0) (vl.0 == of_vl.0) outer.0 in
    let number_is : number ≡ cycle = cc in
    record {
      link = by;
      cause = from;
      says =
          inl (same ∙ ap (λ d. notes.Accepted d by from of_vl number) (one_device device other inner.0)
          ∙ ap (λ x. notes.Accepted device by from x number) (one_vl vl of_vl inner.1) ∙ ap
          (λ c. notes.Accepted device by from vl c) number_is);
      by_then = sooner (time_of g) t (comes_before by from link cause) outer.1;
    }
says_so device vl cycle t link cause g (notes.Delivered other by from of_vl number) same test cycles =
    let outer = and_parts (device.0 == other.0 && vl.0 == of_vl.0) (nat_lt (time_of g) t || (time_of g == t && comes_before by from link cause)) test in
    let inner = and_parts (device.0 == other.0) (vl.0 == of_vl.0) outer.0 in
    record {
      link = by;
      cause = from;
      says =
          inr (same ∙ ap (λ d. notes.Delivered d by from of_vl number) (one_device device other inner.0)
          ∙ ap (λ x. notes.Delivered device by from x number) (one_vl vl of_vl inner.1) ∙ ap
          (λ c. notes.Delivered device by from vl c)
          cc);
      by_then = sooner (time_of g) t (comes_before by from link cause) outer.1;
    }
says_so device vl cycle t link cause g body same test cycles = absurd cc

-- where the last frame was taken in the cycle, there is its record
taken_before : (hs : List Happening) (device : DeviceId) (t : ℕ) (link : LinkId) (cause : ℕ) (vl : VlId) (cycle : ℕ)
    → is_taken_in cycle (last_taken hs device t link cause vl) ≡ true → (g : Happening) × IsIn g hs × SaysSo device vl cycle t g
taken_before hs device t link cause vl cycle e =
    by (last_or None (filter (λ h. is_taken_before device vl t link cause (time_of h) h.note.body) hs)) refl e
  where
    in_cycle : (o : Option ℕ) → is_taken_in cycle o ≡ true → o ≡ Some cycle
    in_cycle None e = absurd cc
    in_cycle (Some c) e = rw (eqb-true c cycle e)

    by : (o : Option Happening) → last_or None (filter (λ h. is_taken_before device vl t link cause (time_of h) h.note.body) hs) ≡ o
        → is_taken_in cycle (option_and_then (λ h. taken_cycle h.note.body) o) ≡ true → (g : Happening) × IsIn g hs × SaysSo device vl cycle t g
    by None last e = absurd cc
    by (Some g) last e =
        elim (last_in None (filter (λ h. is_taken_before device vl t link cause (time_of h) h.note.body) hs) g last) [
          | inl none ↦ absurd cc
          | inr i ↦
              let test = has_passed (λ h. is_taken_before device vl t link cause (time_of h) h.note.body) hs g i in (
                g,
                in_filter (λ h. is_taken_before device vl t link cause (time_of h) h.note.body) hs g i,
                says_so device vl cycle t link cause g g.note.body
                    refl test (in_cycle (taken_cycle g.note.body) e),
              )
        ]

-- ---- the frame that comes

-- what a device without a fault makes of the octets, by whether it took such a frame before
judged : (network : Network) (device : DeviceId) (link : LinkId) (at : Standpoint) (octets : List ℕ) (last : VlId → Option ℕ) (entry : Entry)
    → octets_fault network at octets ≡ None → entry_entering network device link (field 4 2 octets) ≡ Some entry
    → row_fault network at entry (length octets) (last entry.row.vl) ≡ None → timed_arrival network device link at octets last ≡ taken_by network device
    entry.row.vl (cycle_at network (clock_of at))
judged network device link at octets last entry sound found fits = grind (arith, octets_or_fault, entry_arrival, length, taken_or_fault)

-- a device that is not turned on, and that the records leave synchronised, takes part
pub state_is : (b : Bool) (state : State) → b ≡ false → state ≡ Synchronised → (if b then Integrating else state) ≡ Synchronised
state_is true state off e = absurd cc
state_is false state off e = e

-- a synchronised device that is not broken takes part
takes_part : (state : State) (broken : Bool) → state ≡ Synchronised → broken ≡ false → (not (is_off state) && not broken) ≡ true
takes_part state broken e f = rw (e, f) refl

-- the test of the state
synchronised_test : (state : State) → state ≡ Synchronised → is_synchronised state ≡ true
synchronised_test state e = rw e refl

-- a dispatch is on its way to the device that its row enters
comes_to : {v : View} {h : Happening} {device : DeviceId} (receiver : DeviceId) {link : LinkId} {cause : ℕ}
    {vl : VlId} {cycle : ℕ} → IsView v → (d : IsRowDispatch v h device link cause vl cycle)
    → target_of d.entry ≡ receiver → Arrives v.scenario h receiver link (arrives_at v h link d.entry.row.way d.entry)
    (timed h.octets)
comes_to {v} {h} {device} receiver {link} {cause} {vl} {cycle} is d enters =
    let s = v.scenario in
    let n = s.network in
    let at : link_at n link ≡ Some d.entry.link = rw d.by at d.row.link in
    let way = sends_on n link d.entry.link d.entry.row.way device is.lawful.rules at d.leaves in
    let port = on_port v link h.octets d.row d.by (dispatches_are_whole v h device link cause vl cycle is d) in
    record {
      way = d.entry.row.way;
      put = ap (launched s h (time_of h)) d.is ∙ ap (λ w. Some (put_on link w (timed h.octets))) way;
      receiver = rw at (ap (λ x. Some x) enters);
      at = omega arith;
    }

-- what becomes of it, by records that have those of earlier times
taken_so : BringsBlocks → BringsChannels → {v : View} {h : Happening} {device receiver : DeviceId} {link : LinkId}
    {cause : ℕ} {vl : VlId} {cycle : ℕ} → IsView v → FieldsFit v.scenario.network → IsGood v device
    → IsGood v receiver → (d : IsRowDispatch v h device link cause vl cycle)
    → h.octets ≡ tt_frame_by v.scenario.network d.entry.vl cycle → target_of d.entry ≡ receiver
    → arrives_at v h link d.entry.row.way d.entry ≤ v.until
    → IsTimedAt v receiver (arrives_at v h link d.entry.row.way d.entry)
    → is_turned_on_at v.scenario receiver (arrives_at v h link d.entry.row.way d.entry) ≡ false
    → (ps : List Happening) → earlier (arrives_at v h link d.entry.row.way d.entry) ps
    ≡ earlier (arrives_at v h link d.entry.row.way d.entry) v.records → (last : VlId → Option ℕ)
    → is_taken_in cycle (last vl) ≡ false → timed_arrival v.scenario.network receiver link
    (standpoint v.scenario ps receiver (arrives_at v h link d.entry.row.way d.entry)) h.octets last
    ≡ taken_by v.scenario.network receiver vl cycle
taken_so brings channels {v} {h} {device} {receiver} {link} {cause} {vl} {cycle} is fit good fine d whole enters
    in_run up off ps same last anew =
    let s = v.scenario in
    let n = s.network in
    let entry = d.entry in
    let t = arrives_at v h link entry.row.way entry in
    let at = standpoint s ps receiver t in
    let left : state_after s (earlier t ps) receiver ≡ Synchronised = rw same up.synchronised in
    let state = state_is (is_turned_on_at s receiver t) (state_after s (earlier t ps) receiver) off left in
    let part = takes_part at.state (is_broken s receiver t) state (channels.correct v receiver t fine in_run) in
    let shown : clock_of at ≡ shown_at v receiver t = rw same in
    let shows = frame_shows n entry.vl cycle fit.marker (fit.ids entry.row.vl.0 entry.vl d.row.vl) (fit.types entry.row.vl.0 entry.vl d.row.vl) in
    let range = in_range n d.place entry is.lawful.range d.row in
    let type_is : field 12 2 h.octets ≡ entry.vl.ethertype = ap (field 12 2) whole ∙ shows.ethertype in
    let marker_is : field 0 4 h.octets ≡ n.marker = ap (field 0 4) whole ∙ shows.marker in
    let id_is : field 4 2 h.octets ≡ entry.vl.id = ap (field 4 2) whole ∙ shows.id in
    let sound = octets_sound n at h.octets part (omega (arith, range.vl.ethertype_least))
    (synchronised_test at.state state) marker_is in
    let link_there : link_at n link ≡ Some entry.link = rw d.by at d.row.link in
    let receives : receiver_of n link entry.row.way ≡ Some receiver = rw link_there
    (ap (λ x. Some x) enters) in
    let found : entry_entering n receiver link (field 4 2 h.octets) ≡ Some entry =
    ap (entry_entering n receiver link) id_is ∙ enters_by receiver link is.lawful.rules d.row d.by
    (way_is n link entry.row.way receiver is.lawful.rules receives) in
    let arrives = frames_arrive_in_spans brings v h device link cause vl cycle entry.row.way is good d in_run in
    let window = arrivals_are_in_windows v d.place cycle t entry receiver is d.row arrives up in
    let cycle_at_t : cycle_at n (clock_of at) ≡ cycle = ap (cycle_at n) shown ∙ window.in_cycle in
    let place_at_t : offset_in_cycle n (clock_of at) ≡ offset_in_cycle n (shown_at v receiver t) = ap (offset_in_cycle n) shown in
    let times = rows_are_in_time v d.place entry is d.row in
    let precision : v.sizes.precision ≡ amount n.precision = rw is.sizes in
    let gamma : v.sizes.gamma ≡ gamma_of n = rw is.sizes in
    let space = room is in
    let fits = row_sound n at entry (length h.octets) (last entry.row.vl) (dispatches_are_whole v h device link cause vl cycle is d)
    (subst (OccursIn entry.vl) (sym cycle_at_t) d.occurs)
    (omega (arith, ints, window.not_before, space.eight_errors))
    (omega (arith, ints, window.not_behind, times.tolerates, space.eight_errors))
    (rw cycle_at_t (ap (λ x. is_taken_in cycle (last x)) d.of_vl ∙ anew)) in
    judged n receiver link at h.octets last entry sound found fits
    ∙ ap (λ x. taken_by n receiver x (cycle_at n (clock_of at))) d.of_vl
    ∙ ap (taken_by n receiver vl) cycle_at_t

-- the frame is later than its dispatch
later_than : {v : View} {h : Happening} {device : DeviceId} {link : LinkId} {cause : ℕ} {vl : VlId} {cycle : ℕ}
    → IsView v → (d : IsRowDispatch v h device link cause vl cycle)
    → time_of h < arrives_at v h link d.entry.row.way d.entry
later_than {v} {h} {link} is d =
    let n = v.scenario.network in
    let range = in_range n d.place d.entry is.lawful.range d.row in
    let at : link_at n link ≡ Some d.entry.link = rw d.by at d.row.link in
    let delay = delay_lies link d.entry.link d.entry.row.way (time_of h) is.lawful at range.link.wire.least
    range.link.jitter.least in
    omega (arith, ints, delay.0, range.link.wire.least)

pub arrivals_are_taken : BringsBlocks → BringsChannels → ArrivalsAreTaken
arrivals_are_taken brings channels v h device receiver link cause vl cycle is fit good fine d whole enters in_run up off =
    by (is_end v.scenario.network receiver) refl
  where
    repeated : (front rest : List Happening) → v.records ≡ front ++ rest
        → is_taken_in cycle (last_taken front receiver (arrives_at v h link d.entry.row.way d.entry) link h.note.number vl) ≡ true
        → HasTaken v receiver vl cycle (arrives_at v h link d.entry.row.way d.entry)
    repeated front rest split e =
        let g = taken_before front receiver (arrives_at v h link d.entry.row.way d.entry) link h.note.number vl cycle e in
        record {
          taking = g.0;
          there = subst (IsIn g.0) (sym split) (in_left g.0 front rest g.1);
          by_then = g.2.by_then;
          link = g.2.link;
          cause = g.2.cause;
          says = g.2.says;
        }

    arrives_as : (ps : List Happening) (a : Arrival) → numbered ps h.note.number ≡ Some h
        → arrival_of v.scenario ps receiver (arrives_at v h link d.entry.row.way d.entry) link h.note.number (timed h.octets) ≡ a
        → ArrivesAs v.scenario ps receiver (arrives_at v h link d.entry.row.way d.entry) link h.note.number a
    arrives_as ps a found e = record {
      putting = h;
      there = found;
      signal = timed h.octets;
      arrives = comes_to receiver is d
          enters;
      becomes = sym e;
    }

    by : (b : Bool) → is_end v.scenario.network receiver ≡ b → HasTaken v receiver vl cycle (arrives_at v h link d.entry.row.way d.entry)
    by false end =
        let s = v.scenario in
        let t = arrives_at v h link d.entry.row.way d.entry in
        let at = split place_of (IsDue s) v.records (t ∷ 11 ∷ receiver.0 ∷ link.0 ∷ h.note.number ∷ []) is.run.founded in
        let found = found_before s t _ at h is.run.founded d.there
        (later_than is d) in
        elim (is_taken_in cycle (last_taken at.front receiver t link h.note.number vl)) as
        (λ b. is_taken_in cycle (last_taken at.front receiver t link h.note.number vl) ≡ b → HasTaken v receiver vl cycle t) [
          | true ↦ λ again. repeated at.front at.rest at.whole again
          | false ↦ λ anew.
              let judgement = taken_so brings channels is fit good fine d whole enters in_run up off at.front
              (same_earlier t _ at) (last_taken at.front receiver t link h.note.number) anew in
              let kind : taken_by s.network receiver vl cycle ≡ arrivals.Accepted vl cycle = rw end in
              let body = notes.Accepted receiver link h.note.number vl cycle in
              let taking = happening s.network at.front (next_note at.front t body) in
              record {
                taking = taking;
                there =
                    due_is_there at is.run
                    (next_due s at.front t body (arrives_as at.front (arrivals.Accepted vl cycle) found
                    (judgement ∙ kind))) (inl (omega arith));
                by_then = omega arith;
                link = link;
                cause = h.note.number;
                says = inl refl;
              }
        ] refl
    by true end =
        let s = v.scenario in
        let t = arrives_at v h link d.entry.row.way d.entry in
        let at = split place_of (IsDue s) v.records (t ∷ 12 ∷ receiver.0 ∷ link.0 ∷ h.note.number ∷ []) is.run.founded in
        let found = found_before s t _ at h is.run.founded d.there
        (later_than is d) in
        elim (is_taken_in cycle (last_taken at.front receiver t link h.note.number vl)) as
        (λ b. is_taken_in cycle (last_taken at.front receiver t link h.note.number vl) ≡ b → HasTaken v receiver vl cycle t) [
          | true ↦ λ again. repeated at.front at.rest at.whole again
          | false ↦ λ anew.
              let judgement = taken_so brings channels is fit good fine d whole enters in_run up off at.front
              (same_earlier t _ at) (last_taken at.front receiver t link h.note.number) anew in
              let kind : taken_by s.network receiver vl cycle ≡ arrivals.Delivered vl cycle = rw end in
              let body = notes.Delivered receiver link h.note.number vl cycle in
              let taking = happening s.network at.front (next_note at.front t body) in
              record {
                taking = taking;
                there =
                    due_is_there at is.run
                    (next_due s at.front t body (arrives_as at.front (arrivals.Delivered vl cycle) found
                    (judgement ∙ kind))) (inl (omega arith));
                by_then = omega arith;
                link = link;
                cause = h.note.number;
                says = inr refl;
              }
        ] refl

-- ---- on the sound channel each row of a virtual link dispatches its frame

-- all of these at once
pub record Brings : Type 0 where
  pub blocks : BringsBlocks
  pub channels : BringsChannels
  pub senders : SendersAreBroken
  pub not_on : TimedAreNotTurnedOn
  pub switches : SoundSwitchesKeepTime

-- ---- a dispatch that is due

-- what a row's dispatch needs at a time
record CanDispatch (v : View) (place : ℕ) (entry : Entry) (cause cycle t : ℕ) : Type 0 where
  pub row : IsEntry v.scenario.network place entry
  pub occurs : OccursIn entry.vl cycle
  pub in_run : t ≤ v.until
  pub good : IsGood v (source_of entry)
  pub whole : IsOnChannel v.scenario.network v.channel entry
  pub state : state_before v.scenario v.records (source_of entry) t ≡ Synchronised
  pub reached : Reaches v.scenario v.records (source_of entry) (pos (cycle * v.sizes.cycle + amount entry.row.offset)) t
  pub at_hand : (front : List Happening) → earlier t front ≡ earlier t v.records → HasAtHand v.scenario.network front (source_of entry) entry t cause cycle

-- then there is one
dispatched : BringsChannels → {v : View} {place : ℕ} {entry : Entry} {cause cycle t : ℕ} → IsView v
    → CanDispatch v place entry cause cycle t → IsRowSent v entry.row.vl cycle entry
dispatched channels {v} {place} {entry} {cause} {cycle} {t} is can =
    let s = v.scenario in
    let n = s.network in
    let device = source_of entry in
    let link = entry.row.link in
    let vl = entry.row.vl in
    let at = split place_of (IsDue s) v.records (t ∷ 10 ∷ device.0 ∷ link.0 ∷ cause ∷ vl.0 ∷ cycle ∷ []) is.run.founded in
    let same = same_earlier t _ at in
    let body = notes.TtSent device link cause vl cycle in
    let sent = happening n at.front (next_note at.front t body) in
    let reached = rw (cycle_is is) at can.reached in
    let on_link = closed (λ l. IsSwitchOf n v.channel l.parent) (link_at n link) entry.link can.row.link can.whole in
    let caused : IsDispatchedOn s at.front device t link cause vl cycle = record {
      dispatches = record {
        place = place;
        entry = entry;
        row = can.row;
        by = refl;
        of_vl = refl;
        leaves = refl;
        occurs = can.occurs;
        up = record {
          synchronised = rw same
              can.state;
          correct = channels.correct v device t can.good can.in_run;
        };
        reached = reaches_by at.front (sym same) reached;
        at_hand = can.at_hand at.front same;
      };
      whole = channels.whole v link (way_from n device link) t is on_link can.in_run;
    } in
    let there = due_is_there at is.run
    (next_due s at.front t body caused) (inl (omega (arith, can.in_run))) in
    let d = dispatches_are_of_rows v sent device link cause vl cycle is there refl in
    record { record_of = sent; cause = cause; dispatch = d; same = (rows_go_once n d.place place d.entry entry is.lawful.rules d.row can.row d.of_vl d.by).1 }

-- ---- from the sender

module _ (brings : Brings) {v : View} {vl : VlId} {of_vl : VirtualLink} {cycle last : ℕ} (is : IsView v)
    (sent : IsSentIn v vl of_vl cycle last) where
  -- the sender dispatches
  sender_sends : {place : ℕ} {entry : Entry} → IsEntry v.scenario.network place entry → entry.row.vl ≡ vl
      → IsOnChannel v.scenario.network v.channel entry → source_of entry ≡ entry.vl.sender
      → IsRowSent v vl cycle entry
  sender_sends {place} {entry} row own on source =
      let n = v.scenario.network in
      let vls = same_some (slice_get n.vl vl.0) entry.vl of_vl
      (rw own at row.vl) sent.there
      in
      let sender = sym (source ∙ ap (λ x. x.sender) vls) in
      let at = sent.rows place entry row own (sym sender) in
      let can : CanDispatch v place entry 0 cycle at.0 = record {
        row = row;
        occurs = rw vls sent.occurs;
        in_run = at.1;
        good = subst (IsGood v) sender sent.sender;
        whole = on;
        state = subst (λ d. state_before v.scenario v.records d at.0 ≡ Synchronised) sender at.3;
        reached = subst (λ d. Reaches v.scenario v.records d
            (pos (cycle * v.sizes.cycle + amount entry.row.offset)) at.0) sender at.2;
        at_hand = λ front same. inl (sym source, refl);
      } in
      rw (sym own) (dispatched brings.channels is can)

  -- ---- from switch to switch

  -- the frame arrives within the run
  pub arrives_in_time : {h : Happening} {device : DeviceId} {link : LinkId} {cause : ℕ} → IsGood v device
      → (d : IsRowDispatch v h device link cause vl cycle) → window_end v.scenario.network d.entry ≤ last
      → arrives_at v h link d.entry.row.way d.entry ≤ v.until
  arrives_in_time {h} {device} {link} {cause} good d ends =
      let n = v.scenario.network in
      let here = dispatches_are_in_spans brings.blocks v h device link cause vl cycle is good d in
      let hull = same_hull v cycle here.span.block.before sent.before in
      let least = ap (λ w. w.least) hull in
      let narrow = before_narrow here.span.block.before in
      let range = in_range n d.place d.entry is.lawful.range d.row in
      let at : link_at n link ≡ Some d.entry.link =
      rw d.by at d.row.link in
      let delay = delay_lies link d.entry.link d.entry.row.way (time_of h) is.lawful at range.link.wire.least
      range.link.jitter.least in
      let times = rows_are_in_time v d.place d.entry is d.row in
      let space = room is in
      omega (arith, ints, here.not_late, delay.1, times.tolerates, sent.in_run, space.eight_errors)

-- a switch of the sound channel that stays so up to a time of the span
firm_at : Brings → {v : View} {n t : ℕ} (span : IsInSpan v n t) (device : DeviceId) → IsView v
    → IsSoundSwitch v device → IsTimedAt v device t
firm_at brings {v} {n} {t} span device is switch =
    let before = span.block.before in
    let begin = brings.switches v n before device is switch in
    (synchronised_stay_so brings.blocks brings.not_on v n before.next t span device is (omega arith) span.block.from begin
    (set_before v device before.next (last_setting (earlier before.next v.records) device) refl)).0

-- the frame of a row is taken by the switch that it enters
record IsTakenBy (v : View) (device : DeviceId) (vl : VlId) (cycle : ℕ) : Type 0 where
  pub taking : Happening
  pub there : IsIn taking v.records
  pub link : LinkId
  pub from : ℕ
  pub is : taking.note.body ≡ notes.Accepted device link from vl cycle

-- so is the frame of each row into a switch of the sound channel
taken_there : Brings → {v : View} {vl : VlId} {of_vl : VirtualLink} {cycle last : ℕ} → IsView v
    → FieldsFit v.scenario.network → HasGoodSources v vl → IsSentIn v vl of_vl cycle last → {k : ℕ} {entry : Entry}
    → IsEntry v.scenario.network k entry → entry.row.vl ≡ vl → window_end v.scenario.network entry ≤ last
    → IsSwitchOf v.scenario.network v.channel (target_of entry) → IsRowSent v vl cycle entry
    → IsTakenBy v (target_of entry) vl cycle
taken_there brings {v} {vl} {of_vl} {cycle} {last} is fit sources sent {k} {entry} row own ends switch went =
    let n = v.scenario.network in
    let h = went.record_of in
    let device = source_of entry in
    let link = entry.row.link in
    let receiver = target_of entry in
    let d = went.dispatch in
    let good = sources k entry row own in
    let fine = brings.channels.switches v v.channel receiver is switch in
    let begun = dispatches_begin brings.blocks brings.senders v h device link went.cause vl of_vl cycle is fit good sources sent.there d in
    let vls = same_some (slice_get n.vl vl.0) d.entry.vl of_vl
    (rw d.of_vl at d.row.vl) sent.there in
    let whole = begun.whole ∙ ap (λ x. tt_frame_by n x cycle) (sym vls) in
    let window : window_end n d.entry ≤ last = rw went.same ends in
    let in_time = arrives_in_time brings is sent good d window in
    let arrives = frames_arrive_in_spans brings.blocks v h device link went.cause vl cycle d.entry.row.way is good d in_time in
    let with_time = firm_at brings arrives.span receiver is switch in
    let off = brings.not_on v receiver (arrives_at v h link d.entry.row.way d.entry) is (has_time_at with_time).timed in
    let taken = arrivals_are_taken brings.blocks brings.channels v h device receiver link went.cause vl cycle is fit good fine d whole (ap target_of went.same)
    in_time with_time off in
    let no_end = switch_no_end v.channel receiver is.lawful.range switch in
    record {
      taking = taken.taking;
      there = taken.there;
      link = taken.link;
      from = taken.cause;
      is = switch_accepts taken.taking receiver taken.link taken.cause vl cycle is taken.there no_end taken.says;
    }

-- the last frame that a switch took before it dispatches a row in a cycle is one of the cycle
record IsAtHand (v : View) (device : DeviceId) (vl : VlId) (cycle t : ℕ) : Type 0 where
  pub taken : Happening
  pub last : last_accepted v.records device vl t ≡ Some taken
  pub link : LinkId
  pub from : ℕ
  pub is : taken.note.body ≡ notes.Accepted device link from vl cycle

-- what the test of accepted frames says
accepted_so : (device : DeviceId) (vl : VlId) (body : NoteBody) → is_accepted device vl body ≡ true → (link : LinkId) × (from : ℕ) × (cycle : ℕ)
    × (body ≡ notes.Accepted device link from vl cycle)
accepted_so device vl (notes.Accepted other link from of_vl cycle) e =
    let parts = and_parts (device.0 == other.0) (vl.0 == of_vl.0) e in (
      link,
      from,
      cycle,
      rw (one_device device other parts.0)
          (ap (λ x. notes.Accepted device link from x cycle) (one_vl vl of_vl parts.1)),
    )
accepted_so device vl body e = absurd cc

-- a record that is not behind another is of no later time
pub no_later : (g h : Happening) → (g ≡ h) ⊎ IsBefore (place_of g) (place_of h) → time_of g ≤ time_of h
no_later g h (inl same) = omega (arith, ap time_of same)
no_later g h (inr (inl lt)) = omega arith
no_later g h (inr (inr both)) = omega (arith, both.0)

-- the last of what passes a test passes it
pub last_passes : (p : Happening → Bool) (hs : List Happening) (r : Happening) → last_or None (filter p hs) ≡ Some r → IsIn r hs × (p r ≡ true)
last_passes p hs r e = elim (last_in None (filter p hs) r e) [ inl none ↦ absurd cc | inr i ↦ (in_filter p hs r i, has_passed p hs r i) ]

-- where some pass it there is a last
pub none_last : (p : Happening → Bool) (hs : List Happening) (g : Happening) → last_or None (filter p hs) ≡ None → IsIn g hs → p g ≡ true → ⊥
none_last p hs g e i hit = by (filter p hs) (in_kept p hs g i hit) e
  where
    by : (xs : List Happening) → IsIn g xs → last_or None xs ≡ None → ⊥
    by [] i e = i
    by (x ∷ xs) i e = (let some = last_some None x xs in cc)

-- a switch that took a frame of the cycle has one at hand in the cycle's span
at_hand_then : Brings → {v : View} {device : DeviceId} {vl : VlId} {cycle t : ℕ} → IsView v
    → FieldsFit v.scenario.network → IsGood v device → HasGoodSources v vl → IsInSpan v cycle t
    → (g : IsTakenBy v device vl cycle) → time_of g.taking < t → IsAtHand v device vl cycle t
at_hand_then brings {v} {device} {vl} {cycle} {t} is fit good sources span g early =
    by (last_accepted v.records device vl t) refl
  where
    hit : is_accepted device vl g.taking.note.body ≡ true
    hit = grind (arith, is_accepted, eq-eqb)

    among : IsIn g.taking (earlier t v.records)
    among = is_earlier t v.records g.taking g.there early

    by : (o : Option Happening) → last_accepted v.records device vl t ≡ o → IsAtHand v device vl cycle t
    by None e = absurd (none_last (λ h. is_accepted device vl h.note.body) (earlier t v.records) g.taking e among hit)
    by (Some r) e =
        let test = last_passes (λ h. is_accepted device vl h.note.body) (earlier t v.records) r e in
        let says = accepted_so device vl r.note.body test.1 in
        let there = from_earlier t v.records r test.0 in
        let order = no_later g.taking r (last_of (λ h. is_accepted device vl h.note.body) None (earlier t v.records) r g.taking
        (in_places v.scenario [] (earlier t v.records) (earlier_founded t is)) e among hit) in
        let one = takings_are_so v g.taking device g.link g.from vl cycle is g.there (inl g.is) in
        let two = takings_are_so v r device says.0 says.1 vl says.2 is there.0 (inl says.3) in
        let first = takings_come_by_rows brings.blocks brings.senders v g.taking device g.link g.from vl cycle is fit good one
        (sources one.by_row.place one.by_row.entry one.by_row.row one.by_row.of_vl) in
        let second = takings_come_by_rows brings.blocks brings.senders v r device says.0 says.1 vl says.2 is fit good two
        (sources two.by_row.place two.by_row.entry two.by_row.row two.by_row.of_vl) in
        let cycles : says.2 ≡ cycle = elim (cases_lt says.2 cycle) [
          | inl lt ↦ (let wrong = spans_are_apart v says.2 cycle (time_of r) (time_of g.taking) is lt second.in_span.span
              first.in_span.span in absurd (omega arith))
          | inr ge ↦ elim (cases_lt cycle says.2) [
            | inl lt ↦ (let wrong = spans_are_apart v cycle says.2 t (time_of r) is lt span second.in_span.span in
                absurd (omega (arith, there.1)))
            | inr le ↦ omega arith
          ]
        ] in
        record {
          taken = r;
          last = e;
          link = says.0;
          from = says.1;
          is = says.3 ∙ ap (λ c. notes.Accepted device says.0 says.1 vl c) cycles;
        }

-- the frame was taken before the clock reaches the row's offset
taken_before_offset : Brings → {v : View} {vl : VlId} {cycle place : ℕ} {entry : Entry} → IsView v
    → FieldsFit v.scenario.network → HasGoodSources v vl → IsEntry v.scenario.network place entry → entry.row.vl ≡ vl
    → source_of entry ≢ entry.vl.sender → IsGood v (source_of entry)
    → (g : IsTakenBy v (source_of entry) vl cycle)
    (r : ReachesInSpan v cycle (amount entry.row.offset) (source_of entry)) → time_of g.taking < r.at
taken_before_offset brings {v} {vl} {cycle} {place} {entry} is fit sources row own other good g r =
    let device = source_of entry in
    let taking = takings_are_so v g.taking device g.link g.from vl cycle is g.there (inl g.is) in
    let comes = takings_come_by_rows brings.blocks brings.senders v g.taking device g.link g.from vl cycle is fit good taking
    (sources taking.by_row.place taking.by_row.entry taking.by_row.row taking.by_row.of_vl) in
    let behind = (is.lawful.rules Forwarding place).from_switch taking.by_row.place taking.by_row.entry entry taking.by_row.row row
    (own ∙ sym taking.by_row.of_vl) other taking.by_row.enters in
    let with_time : IsTimedAt v device (time_of g.taking) = record { good = good; synchronised = taking.synchronised } in
    let shows = (comes.in_span.shows device with_time).1 in
    let times = rows_are_in_time v taking.by_row.place taking.by_row.entry is taking.by_row.row in
    let space = room is in
    elim (cases_lt (time_of g.taking) r.at) [
      | inl lt ↦ lt
      | inr ge ↦
          let clock = one_clock brings.blocks r.in_span.span comes.in_span.span is with_time ge in
          let sharp = clocks_reach_sharply v device (pos (cycle * v.sizes.cycle + amount entry.row.offset)) r.at is r.reached in
          let up = (steady v is device).never_falls r.at (time_of g.taking) ge in
          absurd (omega (arith, ints, clock.adjustment, sharp.least, times.tolerates, space.eight_errors))
    ]

-- by the offset
sent_below : Brings → (bound : ℕ) {v : View} {vl : VlId} {of_vl : VirtualLink} {cycle last : ℕ} → IsView v
    → FieldsFit v.scenario.network → HasGoodSources v vl → IsSentIn v vl of_vl cycle last
    → (place : ℕ) (entry : Entry) → IsEntry v.scenario.network place entry → entry.row.vl ≡ vl
    → IsOnChannel v.scenario.network v.channel entry → window_end v.scenario.network entry ≤ last
    → amount entry.row.offset < bound → IsRowSent v vl cycle entry
sent_below brings zero is fit sources sent place entry row own on ends below = absurd (omega arith)
sent_below brings (suc bound) {v} {vl} {of_vl} {cycle} {last} is fit sources sent place entry row own on ends below =
    let n = v.scenario.network in
    let device = source_of entry in
    elim (same_or_other device entry.vl.sender) [
      | inl sender ↦ sender_sends brings is sent row own on sender
      | inr other ↦ elim (is.lawful.rules Sources place entry row) [
        | inl sender ↦ absurd (other sender)
        | inr switch ↦
            let k = switch.1.0 in
            let enters = switch.1.2 in
            let entering = enters.entry in
            let channel = switch_channel device is.lawful.range switch.0 in
            let no_end = switch_no_end channel.0 device is.lawful.range channel.1 in
            let firm = source_on v.channel is.lawful.range is.lawful.rules row no_end on in
            let there : IsSwitchOf n v.channel (target_of entering) = subst (IsSwitchOf n v.channel) (sym enters.target) firm in
            let on_channel = target_on v.channel is.lawful.range is.lawful.rules enters.is there in
            let entering_own : entering.row.vl ≡ vl = enters.same_vl ∙ own in
            let behind = (is.lawful.rules Forwarding place).from_switch k entering entry enters.is row (sym enters.same_vl) other enters.target in
            let times = rows_are_in_time v place entry is row in
            let entering_times = rows_are_in_time v k entering is enters.is in
            let first = sent_below brings bound is fit sources sent k entering enters.is entering_own on_channel
            (omega (arith, times.tolerates)) (omega (arith, entering_times.tolerates)) in
            let taken : IsTakenBy v device vl cycle = rw (sym enters.target)
            (taken_there brings is fit sources sent enters.is entering_own
            (omega (arith, times.tolerates)) there
            first) in
            let good = sources place entry row own in
            let before = sent.before in
            let narrow = before_narrow before in
            let space = room is in
            let with_time = brings.switches v cycle before device is firm in
            let r = values_are_reached brings.blocks brings.not_on v cycle (amount entry.row.offset) before device is with_time sent.occurs.begun
            (offset_in_schedule is row)
            (omega (arith, ints, times.tolerates, sent.in_run, space.eight_errors)) in
            let early = taken_before_offset brings is fit sources row own other good taken r in
            let hand = at_hand_then brings is fit good sources r.in_span.span taken early in
            let off = brings.not_on v device r.at is (has_time_at r.timed).timed in
            let vls : entry.vl ≡ of_vl = same_some (slice_get n.vl vl.0) entry.vl of_vl (rw (sym own) row.vl)
            sent.there in
            let can : CanDispatch v place entry hand.taken.note.number cycle r.at = record {
              row = row;
              occurs = rw (sym vls) at sent.occurs;
              in_run = r.in_span.span.block.in_run;
              good = good;
              whole = on;
              state = state_is (is_turned_on_at v.scenario device r.at) (state_left v device r.at) off r.timed.synchronised;
              reached = r.reached;
              at_hand = λ front same. inr (
                no_end,
                record {
                  taken = hand.taken;
                  last =
                      ap (λ xs. last_or None (filter (λ h. is_accepted device entry.row.vl h.note.body) xs)) same
                      ∙ ap (λ x. last_accepted v.records device x r.at) own ∙ hand.last;
                  number = refl;
                  link = hand.link;
                  from = hand.from;
                  is = hand.is ∙ ap (λ (x : VlId). notes.Accepted device hand.link hand.from x cycle) (sym own);
                },
              );
            } in
            subst (λ x. IsRowSent v x cycle entry) own (dispatched brings.channels is can)
      ]
    ]

pub rows_are_sent : Brings → RowsAreSent
rows_are_sent brings v vl of_vl cycle last is fit sources sent place entry row own on ends =
    sent_below brings (amount entry.row.offset + 1) is fit sources sent place entry row own on ends (omega arith)
