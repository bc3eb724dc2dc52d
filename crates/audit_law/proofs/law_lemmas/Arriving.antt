-- What is owed of arrivals is due.
use Rattle.audit_law.proofs.law_lemmas.Founded.{PaidAt, due_there, found_before, founded_at, in_whole, next_is_due}
use Rattle.audit_law.proofs.law_lemmas.Founded.{next_of, split_at, timely, within}
use Rattle.audit_law.proofs.law_lemmas.Words.{◌&&◌, ◌+◌, ◌==◌, ◌||◌, ◌∙◌, ◌∷◌, ◌≡◌, ◌≤◌, ArrivesAs, Bool, DeviceId, Gives, Happening, IsBefore, IsCaused, IsDue}
use Rattle.audit_law.proofs.law_lemmas.Words.{IsDueIn, IsFounded, IsIn, IsSplit, LinkId, List, Network, None, NoteBody, Option, Pcf, Reason, Scenario, Some}
use Rattle.audit_law.proofs.law_lemmas.Words.{Units, VlId, [], adjustment_after, amount, and_parts, ap, append-nil, arith, both_ways, cases_lt, earlier}
use Rattle.audit_law.proofs.law_lemmas.Words.{eqb-true, false, false_from_ne_true, filter, filter-append, if◌then◌else◌, in_right, inl, inr, is_broken}
use Rattle.audit_law.proofs.law_lemmas.Words.{is_turned_on_at, key, length, members_in, nat_lt, none_kept, not, numbered, numbered_in}
use Rattle.audit_law.proofs.law_lemmas.Words.{place_at, place_of, rank, refl, same_earlier, same_some, split, state_after, subst, sym, time_of, true, units_of}
use Rattle.{audit_law.proofs.law_lemmas.Words.ℕ, net_plan.proofs.SameIds.same_device, std.specs.Prelude.{Err, Ok}}
use Rattle.{audit_law.specs.law.Arrivals.{IsDueByArrival, OwesArrival, TellsArrival, arrival_record}, net_plan.specs.declared.tables.Way.TheVariants.{Down, Up}}
use Rattle.{audit_law.specs.law.DebtLaws.ArrivalLaw, net_plan.specs.declared.tables.Way.Way, std.proofs.lemmas.Bool.{ltb-true, or_cases}}
use Rattle.{run_law.{proofs.runs.SameSteps.same_arrival, specs.declared.steps.Arrival.Arrival}, schedule_tables.specs.declared.entry.Entry.Entry}
use Rattle.run_law.specs.{control.Arrivals.{frame_fault, frame_or_fault}, device.Standpoints.{Standpoint, clock_of, cycle_at, standpoint}}
use Rattle.run_law.specs.{control.Wires.{Arrives, Launch, Signal, control, launched, time_on_port, timed}, scenario.Devices.{is_end, is_parent_of, is_relay}}
use Rattle.run_law.specs.{scenario.Ways.{delay_at, receiver_of}, timed.Receptions.{arrival_of, comes_before, is_taken_before, last_taken}}
use Rattle.run_law.specs.timed.Arrivals.{entry_arrival, octets_fault, octets_or_fault, row_fault, taken_or_fault, timed_arrival}
use Rattle.run_law.specs.declared.note.NoteBody.TheVariants as notes
use Rattle.run_law.specs.declared.steps.Arrival.TheVariants as arrivals

-- ---- one judgement, by a front or by the whole list

-- the device stands in one place by all records of earlier times
pub same_standpoint : (s : Scenario) (device : DeviceId) (t : ℕ) (ps hs : List Happening) → earlier t ps ≡ earlier t hs
    → standpoint s ps device t ≡ standpoint s hs device t
same_standpoint s device t ps hs same = grind (arith, not, is_turned_on_at, state_after, is_broken, adjustment_after)

module _ (network : Network) (device : DeviceId) where
  -- a time-triggered frame is judged by the last cycle of its own virtual link alone
  by_entry : (at : Standpoint) (size : ℕ) (last other : VlId → Option ℕ) (entry : Option Entry)
      → ((vl : VlId) → last vl ≡ other vl) → entry_arrival network device at size last entry
      ≡ entry_arrival network device at size other entry
  by_entry at size last other None same = refl
  by_entry at size last other (Some entry) same =
      rw (same entry.row.vl)

  pub by_octets : (link : LinkId) (at : Standpoint) (octets : List ℕ) (last other : VlId → Option ℕ)
      (fault : Option Reason) → ((vl : VlId) → last vl ≡ other vl)
      → octets_or_fault network device link at octets last fault
      ≡ octets_or_fault network device link at octets other fault
  by_octets link at octets last other (Some reason) same = refl
  by_octets link at octets last other None same = by_entry at (length octets) last other _ same

-- ---- what was taken before

-- an arrival of one time that comes before another is before it by its route
route_before : (link by : LinkId) (cause from : ℕ) → comes_before by from link cause ≡ true → IsBefore (by.0 ∷ from ∷ []) (link.0 ∷ cause ∷ [])
route_before link by cause from e = grind (arith, or_cases, nat_lt, ltb-true, and_parts, eqb-true)

-- a record of a taking, of rank r, that is judged to be earlier is before a place whose rank is not lower
taken_is_before : (t u r q : ℕ) (device other : DeviceId) (vl of_vl : VlId) (link by : LinkId) (cause from : ℕ) → r ≤ q
    → (device.0 == other.0 && vl.0 == of_vl.0 && (nat_lt u t || (u == t && comes_before by from link cause))) ≡ true
    → IsBefore (u ∷ r ∷ other.0 ∷ by.0 ∷ from ∷ []) (t ∷ q ∷ device.0 ∷ link.0 ∷ cause ∷ [])
taken_is_before t u r q device other vl of_vl link by cause from le e = grind (arith, and_parts, nat_lt, eqb-true, or_cases, ltb-true, route_before, cases_lt)

-- the place of an arrival of rank q at the device
abbrev arrival_place : ℕ → ℕ → DeviceId → LinkId → ℕ → List ℕ
arrival_place t q device link cause = t ∷ q ∷ device.0 ∷ link.0 ∷ cause ∷ []

-- a record that is not before the place of an arrival was not taken before it; deliveries count only behind that rank
not_taken : (t m q u : ℕ) (device : DeviceId) (vl : VlId) (link : LinkId) (cause : ℕ) (body : NoteBody) → 11 ≤ q
    → (IsBefore (place_at u m body) (arrival_place t q device link cause) → ⊥)
    → ((other : DeviceId) (by : LinkId) (from : ℕ) (of_vl : VlId) (cycle : ℕ) → body ≡ notes.Delivered other by from of_vl cycle → device.0 ≡ other.0 → 12 ≤ q)
    → is_taken_before device vl t link cause u body ≡ false
not_taken t m q u device vl link cause (notes.Accepted other by from of_vl cycle) le none late =
    false_from_ne_true _ (λ e. none (taken_is_before t u 11 q device other vl of_vl link by cause from le e))
not_taken t m q u device vl link cause (notes.Delivered other by from of_vl cycle) le none late =
    false_from_ne_true _ (λ e.
    let parts = and_parts (device.0 == other.0 && vl.0 == of_vl.0) (nat_lt u t || (u == t && comes_before by from link cause)) e in
    let same = eqb-true device.0 other.0 (and_parts (device.0 == other.0) (vl.0 == of_vl.0) parts.0).0 in
    let twelve = late other by from of_vl cycle refl same in
    none (taken_is_before t u 12 q device other vl of_vl link by cause from twelve e))
not_taken t m q u device vl link cause other le none late = refl

-- ---- what may become of a frame

-- this may become at the device of a frame that is no control frame
abbrev pub IsTimedOutcome : Network → DeviceId → Arrival → Type 0
IsTimedOutcome network device (arrivals.Dropped reason) = Unit {0}
IsTimedOutcome network device (arrivals.Accepted vl cycle) = is_end network device ≡ false
IsTimedOutcome network device (arrivals.Delivered vl cycle) = is_end network device ≡ true
IsTimedOutcome network device other = ⊥

-- this may become of a control frame
abbrev IsControlOutcome : Arrival → Type 0
IsControlOutcome (arrivals.Accepted vl cycle) = ⊥
IsControlOutcome (arrivals.Delivered vl cycle) = ⊥
IsControlOutcome other = Unit {0}

-- this may become of the signal
abbrev IsOutcome : Network → DeviceId → Signal → Arrival → Type 0
IsOutcome network device (control frame) a = IsControlOutcome a
IsOutcome network device (timed octets) a = IsTimedOutcome network device a

module _ (network : Network) (device : DeviceId) where
  taken_so : (vl : VlId) (cycle : ℕ) (end : Bool) → is_end network device ≡ end
      → IsTimedOutcome network device (if end then arrivals.Delivered vl cycle else arrivals.Accepted vl cycle)
  taken_so vl cycle true is = is
  taken_so vl cycle false is = is

  taken_or_dropped : (at : Standpoint) (entry : Entry) (fault : Option Reason)
      → IsTimedOutcome network device (taken_or_fault network device at entry fault)
  taken_or_dropped at entry (Some reason) = tt
  taken_or_dropped at entry None = taken_so entry.row.vl (cycle_at network (clock_of at)) (is_end network device) refl

  entry_outcome : (at : Standpoint) (size : ℕ) (last : VlId → Option ℕ) (entry : Option Entry)
      → IsTimedOutcome network device (entry_arrival network device at size last entry)
  entry_outcome at size last None = tt
  entry_outcome at size last (Some entry) =
      taken_or_dropped at entry (row_fault network at entry size (last entry.row.vl))

  octets_outcome : (link : LinkId) (at : Standpoint) (octets : List ℕ) (last : VlId → Option ℕ)
      (fault : Option Reason) → IsTimedOutcome network device
      (octets_or_fault network device link at octets last fault)
  octets_outcome link at octets last (Some reason) = tt
  octets_outcome link at octets last None = entry_outcome at (length octets) last _

passed_outcome : (relay parent : Bool) (frame : Pcf) (point : Units)
    → IsControlOutcome (if relay then (if parent then arrivals.Passes frame Up else arrivals.PassesAndWaits frame Down point) else arrivals.Waits frame point)
passed_outcome true true frame point = tt
passed_outcome true false frame point = tt
passed_outcome false parent frame point = tt

frame_outcome : (network : Network) (device : DeviceId) (link : LinkId) (at : Standpoint) (frame : Pcf) (fault : Option Reason)
    → IsControlOutcome (frame_or_fault network device link at frame fault)
frame_outcome network device link at frame (Some reason) = tt
frame_outcome network device link at frame None = passed_outcome (is_relay network device) (is_parent_of network device link) _ _

outcome : (s : Scenario) (gs : List Happening) (device : DeviceId) (t : ℕ) (link : LinkId) (cause : ℕ) (signal : Signal)
    → IsOutcome s.network device signal (arrival_of s gs device t link cause signal)
outcome s gs device t link cause (control (Err refusal)) = tt
outcome s gs device t link cause (control (Ok frame)) =
    frame_outcome s.network device link (standpoint s gs device t) frame (frame_fault s.network device link (standpoint s gs device t) frame)
outcome s gs device t link cause (timed octets) =
    octets_outcome s.network device link (standpoint s gs device t) octets (last_taken gs device t link cause)
    (octets_fault s.network (standpoint s gs device t) octets)

-- ---- deliveries are those of end systems

delivered_at_end : (network : Network) (device : DeviceId) (signal : Signal) (vl : VlId) (cycle : ℕ)
    → IsOutcome network device signal (arrivals.Delivered vl cycle) → is_end network device ≡ true
delivered_at_end network device (control frame) vl cycle h = absurd h
delivered_at_end network device (timed octets) vl cycle h = h

end_of_delivery : (s : Scenario) (gs : List Happening) (time : Units) (body : NoteBody) (device : DeviceId) (link : LinkId) (cause : ℕ) (vl : VlId) (cycle : ℕ)
    → IsCaused s gs time body → body ≡ notes.Delivered device link cause vl cycle → is_end s.network device ≡ true
end_of_delivery s gs time body device link cause vl cycle caused is =
    let here : ArrivesAs s gs device (amount time) link cause (arrivals.Delivered vl cycle) = subst (IsCaused s gs time) is caused in
    delivered_at_end s.network device here.signal vl cycle
    (subst (IsOutcome s.network device here.signal) (sym here.becomes) (outcome s gs device (amount time) link cause here.signal))

module _ (network : Network) (device : DeviceId) (link : LinkId) (cause : ℕ) where
  -- the rank of what may become of a time-triggered frame is behind all takings, or all of switches
  timed_rank : (a : Arrival) → IsTimedOutcome network device a → 11 ≤ rank (arrival_record device link cause a)
  timed_rank (arrivals.Dropped reason) h = omega arith
  timed_rank (arrivals.Accepted vl cycle) h = omega arith
  timed_rank (arrivals.Delivered vl cycle) h = omega arith
  timed_rank other h = absurd h

  end_rank : (a : Arrival) → IsTimedOutcome network device a → is_end network device ≡ true
      → 12 ≤ rank (arrival_record device link cause a)
  end_rank (arrivals.Dropped reason) h end = omega arith
  end_rank (arrivals.Accepted vl cycle) h end = absurd (both_ways (is_end network device) h end)
  end_rank (arrivals.Delivered vl cycle) h end = omega arith
  end_rank other h end = absurd h

-- ---- by a front as by the list

module _ (s : Scenario) (hs : List Happening) (t : ℕ) (device : DeviceId) (link : LinkId) (cause : ℕ)
    (a : Arrival) where
  -- where a founded list parts at an arrival of a time-triggered frame, the front has all that was taken before it
  same_taken : (vl : VlId) → IsFounded place_of (IsDue s) hs
      → (at : IsSplit place_of hs (arrival_place t (rank (arrival_record device link cause a)) device link cause))
      → IsTimedOutcome s.network device a → last_taken at.front device t link cause vl
      ≡ last_taken hs device t link cause vl
  same_taken vl founded at may =
      let test : Happening → Bool = λ h. is_taken_before device vl t link cause (time_of h) h.note.body in
      let none = none_kept test at.rest (λ h i.
      not_taken t (members_in h) (rank (arrival_record device link cause a)) (time_of h) device vl link cause
      h.note.body
      (timed_rank s.network device link cause a may) (at.none h i)
      (λ other by from of_vl cycle is ids.
      let there = founded_at s hs h founded (subst (IsIn h) (sym at.whole) (in_right h at.front at.rest i)) in
      let end = end_of_delivery s there.front h.note.time h.note.body other by from of_vl cycle there.due.cause is in
      end_rank s.network device link cause a may
      (rw (same_device device other ids) end))) in
      let kept : filter test at.front ≡ filter test hs = grind (arith, append-nil, filter, filter-append) in
      rw kept

  -- so an arrival is judged by the front as by the list
  same_outcome : (signal : Signal) → IsFounded place_of (IsDue s) hs
      → (at : IsSplit place_of hs (arrival_place t (rank (arrival_record device link cause a)) device link cause))
      → IsOutcome s.network device signal a → arrival_of s at.front device t link cause signal
      ≡ arrival_of s hs device t link cause signal
  same_outcome (control frame) founded at may =
      rw (same_standpoint s device t at.front hs (same_earlier t _ at))
  same_outcome (timed octets) founded at may =
      let here = standpoint s hs device t in
      ap (λ p. timed_arrival s.network device link p octets (last_taken at.front device t link cause))
      (same_standpoint s device t at.front hs (same_earlier t _ at))
      ∙ by_octets s.network device link here octets (last_taken at.front device t link cause)
      (last_taken hs device t link cause)
      (octets_fault s.network here octets) (λ vl. same_taken vl founded at may)

-- the place of the record of an arrival
record_place : (t m : ℕ) (device : DeviceId) (link : LinkId) (cause : ℕ) (a : Arrival)
    → place_at t m (arrival_record device link cause a) ≡ arrival_place t (rank (arrival_record device link cause a)) device link cause
record_place t m device link cause (arrivals.Dropped reason) = refl
record_place t m device link cause other = refl

-- ---- what is owed is due

module _ (s : Scenario) (hs : List Happening) (t : ℕ) (device : DeviceId) (link : LinkId) (cause : ℕ) (a : Arrival)
    (founded : IsFounded place_of (IsDue s) hs) where
  -- an arrival of the list is one given a front of it that has the record that put the frame
  arrives_in_front :
      (at : IsSplit place_of hs (arrival_place t (rank (arrival_record device link cause a)) device link cause))
      (h : ArrivesAs s hs device t link cause a) → IsBefore (place_of h.putting)
      (arrival_place t (rank (arrival_record device link cause a)) device link cause)
      → ArrivesAs s at.front device t link cause a
  arrives_in_front at h sooner = record {
    putting = h.putting;
    there = found_before s hs _ founded at cause h.putting h.there sooner;
    signal = h.signal;
    arrives = h.arrives;
    becomes =
        h.becomes
        ∙ sym (same_outcome s hs t device link cause a h.signal founded at
        (subst (IsOutcome s.network device h.signal) (sym h.becomes) (outcome s hs device t link cause h.signal)));
  }

  -- an arrival given a front is one of the list
  arrives_in_whole :
      (at : IsSplit place_of hs (arrival_place t (rank (arrival_record device link cause a)) device link cause))
      → ArrivesAs s at.front device t link cause a → ArrivesAs s hs device t link cause a
  arrives_in_whole at h = record {
    putting = h.putting;
    there = in_whole hs at.front at.rest cause h.putting at.whole h.there;
    signal = h.signal;
    arrives = h.arrives;
    becomes =
        h.becomes
        ∙ same_outcome s hs t device link cause a h.signal founded at
        (subst (IsOutcome s.network device h.signal) (sym h.becomes) (outcome s at.front device t link cause h.signal));
  }

-- what arrives so causes the record of it
causes_record : {s : Scenario} {gs : List Happening} {t : ℕ} {device : DeviceId} {link : LinkId} {cause : ℕ}
    (a : Arrival) → ArrivesAs s gs device t link cause a
    → IsCaused s gs (units_of t) (arrival_record device link cause a)
causes_record (arrivals.Dropped reason) h = inl h
causes_record (arrivals.Accepted vl cycle) h = h
causes_record (arrivals.Delivered vl cycle) h = h
causes_record (arrivals.Waits frame point) h =
    record { frame = frame; point = point; way = Up; taken = inl h; shows = refl }
causes_record (arrivals.Passes frame way) h =
    record { frame = frame; point = units_of 0; way = way; taken = inr (inl h); shows = refl }
causes_record (arrivals.PassesAndWaits frame way point) h =
    record { frame = frame; point = point; way = way; taken = inr (inr h); shows = refl }

tells : (device : DeviceId) (link : LinkId) (cause : ℕ) (a : Arrival) → TellsArrival cause (arrival_record device link cause a)
tells device link cause (arrivals.Dropped reason) = refl
tells device link cause other = refl

some_arrival : {s : Scenario} {hs : List Happening} {until cause : ℕ} → IsFounded place_of (IsDue s) hs
    → (o : OwesArrival s hs until cause) → PaidAt s hs until (IsDueByArrival s) o.time
    (λ x. TellsArrival cause x.note.body)
some_arrival {s} {hs} {until} {cause} founded o =
    let body = arrival_record o.device o.link cause o.is in
    let p = arrival_place o.time (rank body) o.device o.link cause in
    let at = split place_of (IsDue s) hs p founded in
    let sooner = subst (IsBefore (place_of o.arrives.putting)) (record_place o.time 0 o.device o.link cause o.is) o.behind in
    let arrives = arrives_in_front s hs o.time o.device o.link cause o.is founded at o.arrives sooner in
    let x = next_of s at.front o.time body in
    let place = record_place o.time (members_in x) o.device o.link cause o.is in
    let due : IsDueByArrival s at.front x = record {
      due = next_is_due s at.front o.time body (causes_record o.is arrives);
      device = o.device;
      link = o.link;
      cause = cause;
      is = o.is;
      arrives = arrives;
      says = refl;
    } in (
      x,
      due_there (IsDueByArrival s) at x place due,
      within o.time until (rank body ∷ key (members_in x) body) o.timely,
      tells o.device o.link cause o.is,
      refl,
    )

-- ---- what is due was owed

-- the place of what is due by an arrival
due_place : {s : Scenario} {before : List Happening} {x : Happening} (h : IsDueByArrival s before x) → place_of x
    ≡ arrival_place (time_of x) (rank (arrival_record h.device h.link h.cause h.is)) h.device h.link h.cause
due_place {x} h =
    rw h.says (record_place (time_of x) (members_in x) h.device h.link h.cause h.is)

-- where the list parts at it
due_split : (s : Scenario) {hs : List Happening} {x : Happening} (h : IsDueIn place_of (IsDueByArrival s) hs x) →
    (at : IsSplit place_of hs (arrival_place (time_of x) (rank (arrival_record h.due.device h.due.link h.due.cause
    h.due.is)) h.due.device h.due.link h.due.cause)) × (at.front ≡ h.before)
due_split s {hs} {x} h =
    rw (sym (due_place h.due)) (split_at (IsDueByArrival s) hs x h, refl)

-- it arrives by the list
due_arrives : (s : Scenario) {hs : List Happening} {x : Happening} → IsFounded place_of (IsDue s) hs
    → (h : IsDueIn place_of (IsDueByArrival s) hs x) → ArrivesAs s hs h.due.device
    (time_of x) h.due.link h.due.cause h.due.is
due_arrives s {hs} {x} founded h =
    let at = due_split s h in
    arrives_in_whole s hs (time_of x) h.due.device h.due.link h.due.cause h.due.is founded at.0
    (rw at.1 h.due.arrives)

tells_its : {s : Scenario} {before : List Happening} {x : Happening} (h : IsDueByArrival s before x)
    → TellsArrival h.cause x.note.body
tells_its h = subst (TellsArrival h.cause) (sym h.says) (tells h.device h.link h.cause h.is)

arrival_owed : (s : Scenario) {hs : List Happening} (until : ℕ) {x : Happening} → IsFounded place_of (IsDue s) hs
    → IsDueIn place_of (IsDueByArrival s) hs x → IsBefore (place_of x) ((until + 1) ∷ [])
    → (cause : ℕ) × (o : OwesArrival s hs until cause) × TellsArrival cause x.note.body × (time_of x ≡ o.time)
arrival_owed s {hs} until {x} founded h here =
    let d = h.due in
    let arrives = due_arrives s founded h in
    let one = same_some (numbered hs d.cause) d.arrives.putting arrives.putting
    (in_whole hs h.before h.behind d.cause d.arrives.putting h.parts d.arrives.there) arrives.there in
    let first = h.all_before d.arrives.putting
    (numbered_in h.before d.cause d.arrives.putting d.arrives.there) in
    let place = due_place d ∙ sym (record_place (time_of x) 0 d.device d.link d.cause d.is) in
    let owed : OwesArrival s hs until d.cause = record {
      device = d.device;
      link = d.link;
      time = time_of x;
      is = d.is;
      arrives = arrives;
      behind = rw one at (subst (IsBefore (place_of d.arrives.putting)) place first);
      timely = timely (time_of x) until (rank x.note.body ∷ key (members_in x) x.note.body) here;
    } in
    (d.cause, owed, tells_its d, refl)

-- ---- what pays for one is at one place

-- the record may put a frame on a wire
abbrev pub IsPutting : NoteBody → Type 0
IsPutting (notes.Left device link cause clock) = Unit {0}
IsPutting (notes.TtSent device link cause vl cycle) = Unit {0}
IsPutting (notes.Event line what) = Unit {0}
IsPutting other = ⊥

pub puts : (s : Scenario) (h : Happening) (t : ℕ) (body : NoteBody) (l : Launch) → launched s h t body ≡ Some l → IsPutting body
puts s h t (notes.Left device link cause clock) l e = tt
puts s h t (notes.TtSent device link cause vl cycle) l e = tt
puts s h t (notes.Event line what) l e = tt
puts s h t other l e = absurd cc

gives_none : (network : Network) (body : NoteBody) (device : DeviceId) (link : LinkId) → IsPutting body → Gives network body device link → ⊥
gives_none network (notes.Left device link cause clock) other by p g = g
gives_none network (notes.TtSent device link cause vl cycle) other by p g = g
gives_none network (notes.Event line what) other by p g = g
gives_none network body other by p g = absurd p

-- a record that is due and tells of an arrival is due by it, where its cause puts a frame on a wire
by_arrival : {s : Scenario} {before : List Happening} {x : Happening} (cause : ℕ) → IsDue s before x
    → ((g : Happening) → numbered before cause ≡ Some g → IsPutting g.note.body) → (body : NoteBody)
    → x.note.body ≡ body → IsCaused s before x.note.time body → TellsArrival cause body
    → (h : IsDueByArrival s before x) × (h.cause ≡ cause)
by_arrival {s} {before} {x} cause due put (notes.Arrived device link from clock) is c e =
    let shown = is ∙ ap (λ k. notes.Arrived device link from k) c.shows in
    let of : (a : Arrival) → ArrivesAs s before device (time_of x) link from a → x.note.body ≡ arrival_record device link from a
    → (h : IsDueByArrival s before x) × (h.cause ≡ cause) = λ a h says.
    (record { due = due; device = device; link = link; cause = from; is = a; arrives = h; says = says }, e) in
    elim c.taken [
      | inl w ↦ of (arrivals.Waits c.frame c.point) w shown
      | inr (inl p) ↦ of (arrivals.Passes c.frame c.way) p shown
      | inr (inr b) ↦ of (arrivals.PassesAndWaits c.frame c.way c.point) b shown
    ]
by_arrival cause due put (notes.Accepted device link from vl cycle) is c e =
    (record { due = due; device = device; link = link; cause = from; is = arrivals.Accepted vl cycle; arrives = c; says = is }, e)
by_arrival cause due put (notes.Delivered device link from vl cycle) is c e =
    (record { due = due; device = device; link = link; cause = from; is = arrivals.Delivered vl cycle; arrives = c; says = is }, e)
by_arrival {s} {before} cause due put (notes.Dropped device link from reason) is c e =
    elim c [
      | inl a ↦ (record { due = due; device = device; link = link; cause = from; is = arrivals.Dropped reason; arrives = a; says = is }, e)
      | inr (inl r) ↦
          let p = r.1.permanent in
          absurd (subst IsPutting p.arrived (put p.arrival (rw e at p.there)))
      | inr (inr l) ↦
          let g = l.0.giving in
          absurd (gives_none s.network g.note.body device link (put g (rw e at l.0.there)) l.0.gives)
    ]
by_arrival cause due put other is c e = absurd e

-- one record's frame comes to one device, by one link, at one time
same_coming : {s : Scenario} {h : Happening} {d e : DeviceId} {l m : LinkId} {t u : ℕ} {v w : Signal}
    → Arrives s h d l t v → Arrives s h e m u w → (d ≡ e) × (l ≡ m) × (t ≡ u)
same_coming {s} {h} {d} {e} {l} {m} {v} {w} a b =
    let one =
    same_some (launched s h (time_of h) h.note.body) (record { link = l; way = a.way; signal = v }) (record { link = m; way = b.way; signal = w })
    a.put b.put in
    let links : l ≡ m = ap (λ x. x.link) one in
    let ways : a.way ≡ b.way = ap (λ x. x.way) one in
    let signals : v ≡ w = ap (λ x. x.signal) one in
    let devices = same_some (receiver_of s.network l a.way) d e a.receiver
    (rw links (ap (receiver_of s.network m) ways ∙ b.receiver)) in
    let at : LinkId → Way → Signal → ℕ = λ k y g. time_of h + time_on_port s.network k g + delay_at s k y (time_of h) in
    (devices, links, a.at ∙ ap (λ k. at k a.way v) links ∙ ap (λ y. at m y v) ways ∙ ap (at m b.way) signals ∙ sym b.at)

-- where two arrivals of one record stand
same_place : {s : Scenario} {hs : List Happening} {t u : ℕ} {d e : DeviceId} {l m : LinkId} {c f : ℕ} {a b : Arrival}
    → c ≡ f → ArrivesAs s hs d t l c a → ArrivesAs s hs e u m f b
    → arrival_place t (rank (arrival_record d l c a)) d l c ≡ arrival_place u (rank (arrival_record e m f b)) e m f
same_place {s} {hs} {t} {u} {d} {e} {l} {m} {c} {a} {b} causes x y =
    let one = same_some (numbered hs c) y.putting x.putting (ap (numbered hs) causes ∙ y.there) x.there in
    let there = rw one at y.arrives in
    let same = same_coming x.arrives there in
    let moved = subst (λ k. ArrivesAs s hs k t l c b) (sym same.0)
    (rw (sym same.1) at (rw (sym same.2) at (rw (sym causes) at y))) in
    let outcomes = same_arrival x moved in
    let at : ℕ → DeviceId → LinkId → ℕ → Arrival → List ℕ = λ n k i g o. arrival_place n (rank (arrival_record k i g o)) k i g in
    rw outcomes
    (ap (λ n. at n d l c b) same.2
    ∙ ap (λ k. at u k l c b) same.0
    ∙ ap (λ i. at u e i c b) same.1
    ∙ ap (λ g. at u e m g b) causes)

-- what is due and tells of an arrival that is owed is due by it in the list
due_so : {s : Scenario} {hs : List Happening} {until cause : ℕ} {x : Happening} → OwesArrival s hs until cause
    → IsDueIn place_of (IsDue s) hs x → TellsArrival cause x.note.body
    → (h : IsDueIn place_of (IsDueByArrival s) hs x) × (h.due.cause ≡ cause)
due_so {s} {hs} {cause} {x} o h tells =
    let put : (g : Happening) → numbered h.before cause ≡ Some g → IsPutting g.note.body = λ g there.
    let one = same_some (numbered hs cause) o.arrives.putting g o.arrives.there
    (in_whole hs h.before h.behind cause g h.parts there) in
    let p = o.arrives.putting in
    rw one at (puts s p (time_of p) p.note.body _ o.arrives.arrives.put) in
    let by = by_arrival cause h.due put x.note.body refl h.due.cause tells in
    (record { before = h.before; behind = h.behind; parts = h.parts; all_before = h.all_before; none_before = h.none_before; due = by.0 }, by.1)

pub arrival_law : ArrivalLaw
arrival_law s hs until founded = record {
  each = λ x h here. arrival_owed s until founded h here;
  some = λ cause o. some_arrival founded o;
  one = λ cause x y o a b p q.
      let first = due_so o a p in
      let second = due_so o b q in
      let here = due_arrives s founded first.0 in
      let there = due_arrives s founded second.0 in
      due_place first.0.due ∙ same_place (first.1 ∙ sym second.1) here there ∙ sym (due_place second.0.due);
}
