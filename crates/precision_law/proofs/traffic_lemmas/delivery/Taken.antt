-- Which devices take frames of the schedule, and by which records.
use Rattle.std.{proofs.Common.arith, specs.Prelude.{Err, Ok, Result}}
use Rattle.net_plan.specs.declared.event.What.TheVariants.{Send}
use Rattle.pcf_codec.specs.{Decoding.decoded, EtherType.pcf_type, declared.refusal.PcfRefusal.PcfRefusal}
use Rattle.precision_law.{specs.traffic.Taken.TakingsAreSo}
use Rattle.precision_law.proofs.{records.Points.same_adjustment}
use Rattle.precision_law.proofs.traffic_lemmas.{delivery.Faultless.{TakesIn, finds_none}, ports.Dispatched.ends_differ}
use Rattle.sync_state.proofs.VerdictLemmas.{up_state}
use Rattle.precision_law.proofs.traffic_lemmas.Words
use Words.{if◌then◌else◌, ◌&&◌, ◌==◌, ◌∙◌, ◌∷◌, ◌≡◌, ◌≢◌, Arrival, Bool, DeviceId, Down, Entry, Happening, IsCaused}
use Words.{IsFoundedAt, IsIn, IsTaking, IsView, KeepsRules, Link, LinkId, List, Network, None, NoteBody, Option, Pcf}
use Words.{Reason, SaysTaken, Scenario, Signal, Some, Standpoint, Units, Up, View, VlId, Way, amount, ap, before_of}
use Words.{both_ways, cause_of, clock_of, control, cycle_at, earlier, earlier_before, entry_arrival, entry_entering}
use Words.{eq-eqb, eqb-true, false, field, founded_at, in_left, inl, inr, is_broken, is_end, is_relay, is_taken_in}
use Words.{is_turned_on_at, last_taken, launched, length, link_at, not, numbered, numbered_in, octets_fault}
use Words.{octets_or_fault, option_map, option_map_or, refl, row_fault, same_some, shown_at, standpoint, state_after}
use Words.{state_before, subst, sym, taken_or_fault, target_by, time_of, timed, timed_arrival, true, way_to, ℕ}
use Rattle.run_law.{proofs.law.FirstDeliveries.numbered_front}
use Rattle.run_law.specs.{device.States.is_off, records.Happenings.{octets_by, octets_from}}
use Rattle.run_law.specs.{scenario.{Devices.is_parent_of, Ways.{is_cut, receiver_of}}}
use Rattle.run_law.specs.{timed.Receptions.{ArrivesAs, arrival_of}}
use Rattle.run_law.specs.control.{Arrivals.{control_arrival, frame_fault, frame_or_fault}}
use Rattle.run_law.specs.control.{Wires.{Arrives, Launch, signal_of}}
use Rattle.run_law.specs.declared.note.NoteBody.TheVariants as notes
use Rattle.run_law.specs.declared.steps.Arrival.TheVariants as arrivals

-- ---- the records by which devices take frames of the schedule: ways

-- the way to the device that receives on it
way_by : (o : Option Link) (way : Way) (device : DeviceId) → ((l : Link) → o ≡ Some l → l.child ≢ l.parent) → option_map (target_by way) o ≡ Some device
    → (if option_map_or (λ l. l.parent.0 == device.0) o false then Up else Down) ≡ way
way_by None way device differ e = absurd cc
way_by (Some l) Up device differ e = grind (arith, eq-eqb)
way_by (Some l) Down device differ e =
    by (l.parent.0 == device.0) refl cc
  where
    by : (b : Bool) → (l.parent.0 == device.0) ≡ b → l.child ≡ device → (if b then Up else Down) ≡ Down
    by true test same =
        let parent : l.parent ≡ device = rw (eqb-true l.parent.0 device.0 test) in
        absurd (differ l refl (same ∙ sym parent))
    by false test same = refl

-- so for a device of a network
pub way_is : (network : Network) (link : LinkId) (way : Way) (device : DeviceId) → KeepsRules network → receiver_of network link way ≡ Some device
    → way_to network device link ≡ way
way_is network link way device keeps e = way_by (link_at network link) way device (λ l at. ends_differ network link l keeps at) e

-- the device that is received at is the target
target_is : (o : Option Link) (way : Way) (device : DeviceId) (l : Link) → o ≡ Some l → option_map (target_by way) o ≡ Some device → target_by way l ≡ device
target_is None way device l at e = absurd cc
target_is (Some x) way device l at e = (let same : x ≡ l = cc in let to : target_by way x ≡ device = cc in ap (target_by way) (sym same) ∙ to)

-- ---- control frames

-- what is neither accepted nor delivered is not taken
no_take : (a : Arrival) (vl : VlId) (cycle : ℕ) → ((vl : VlId) (cycle : ℕ) → a ≡ arrivals.Accepted vl cycle → ⊥)
    → ((vl : VlId) (cycle : ℕ) → a ≡ arrivals.Delivered vl cycle → ⊥) → TakesIn a vl cycle → ⊥
no_take a vl cycle one two (inl e) = one vl cycle e
no_take a vl cycle one two (inr e) = two vl cycle e

-- what waits or is passed on is not taken
never_passed : (relay parent : Bool) (frame : Pcf) (point : Units) (vl : VlId) (cycle : ℕ)
    → TakesIn (if relay then (if parent then arrivals.Passes frame Up else arrivals.PassesAndWaits frame Down point) else arrivals.Waits frame point) vl cycle
    → ⊥
never_passed true true frame point vl cycle t = no_take (arrivals.Passes frame Up) vl cycle (λ x y e. cc) (λ x y e. cc) t
never_passed true false frame point vl cycle t = no_take (arrivals.PassesAndWaits frame Down point) vl cycle (λ x y e. cc) (λ x y e. cc) t
never_passed false parent frame point vl cycle t = no_take (arrivals.Waits frame point) vl cycle (λ x y e. cc) (λ x y e. cc) t

module _ (network : Network) (device : DeviceId) (link : LinkId) where
  -- nor is a control frame with a fault or none
  never_judged : (at : Standpoint) (frame : Pcf) (fault : Option Reason) (vl : VlId) (cycle : ℕ)
      → TakesIn (frame_or_fault network device link at frame fault) vl cycle → ⊥
  never_judged at frame (Some reason) vl cycle t =
      no_take (arrivals.Dropped reason) vl cycle (λ x y e. cc) (λ x y e. cc) t
  never_judged at frame None vl cycle t =
      never_passed (is_relay network device) (is_parent_of network device link) _ _ vl cycle t

  -- nor is any control frame
  pub never_control : (at : Standpoint) (frame : Result Pcf PcfRefusal) (vl : VlId) (cycle : ℕ)
      → TakesIn (control_arrival network device link at frame) vl cycle → ⊥
  never_control at (Err refusal) vl cycle t = no_take (arrivals.Dropped _) vl cycle (λ x y e. cc) (λ x y e. cc) t
  never_control at (Ok frame) vl cycle t = never_judged at frame (frame_fault network device link at frame) vl cycle t

-- ---- octets

-- what is put on a wire
abbrev pub put_on : LinkId → Way → Signal → Launch
put_on link way signal = record { link = link; way = way; signal = signal }

-- the signal of what is put
pub same_signal : (a b : LinkId) (way turned : Way) (one two : Signal) → Some (put_on a way one) ≡ Some (put_on b turned two) → one ≡ two
same_signal a b way turned one two e = ap (λ l. l.signal)
    (same_some (Some (put_on a way one)) (put_on a way one) (put_on b turned two) refl e)

-- what a record puts on a wire as octets are its own
pub left_control : (o : Option Pcf) (link : LinkId) (way : Way) (by : LinkId) (turned : Way) (octets : List ℕ)
    → option_map (λ frame. put_on link way (control (Ok frame))) o ≡ Some (put_on by turned (timed octets)) → ⊥
left_control None link way by turned octets e = cc
left_control (Some frame) link way by turned octets e = (let same = same_signal link by way turned (control (Ok frame)) (timed octets) e in cc)

-- octets that are no control frame are found as they were put
by_type : (b : Bool) (own octets : List ℕ) → (if b then control (decoded own) else timed own) ≡ timed octets → own ≡ octets
by_type true own octets e = grind (arith, control, timed)
by_type false own octets e = cc

-- so are those of a `send` event
sent_octets : (cut : Bool) (link by : LinkId) (turned : Way) (own octets : List ℕ) (signal : Signal) → (signal ≡ timed octets → own ≡ octets)
    → (if cut then None else Some (put_on link Up signal)) ≡ Some (put_on by turned (timed octets)) → own ≡ octets
sent_octets true link by turned own octets signal back e = absurd cc
sent_octets false link by turned own octets signal back e = back (same_signal link by Up turned signal (timed octets) e)

-- the octets on a wire are those of the record that put them
own_octets : (s : Scenario) (pre : List Happening) (h : Happening) (t : ℕ) (body : NoteBody) (by : LinkId) (turned : Way) (octets : List ℕ)
    → h.octets ≡ octets_by s.network pre body → launched s h t body ≡ Some (put_on by turned (timed octets)) → octets ≡ h.octets
own_octets s pre h t (notes.Left device link cause clock) by turned octets own e = absurd (left_control h.frame link _ by turned octets e)
own_octets s pre h t (notes.TtSent device link cause vl cycle) by turned octets own e =
    (let same = same_signal link by _ turned (timed h.octets) (timed octets) e in cc)
own_octets s pre h t (notes.Event line (Send link sent)) by turned octets own e =
    sym (own ∙ sent_octets (is_cut s link Up t) link by turned sent octets (signal_of sent) (λ x. by_type (field 12 2 sent == pcf_type) sent octets x) e)
own_octets s pre h t other by turned octets own e = absurd cc

-- the octets that a record has from its cause
pub from_cause : (hs : List Happening) (cause : ℕ) (h : Happening) → numbered hs cause ≡ Some h → octets_from hs cause ≡ h.octets
from_cause hs cause h e = rw e

-- ---- takings

-- what the record of a taking shows, where the signal was these octets
of_octets : {v : View} {h : Happening} {device : DeviceId} {link : LinkId} (cause : ℕ) (vl : VlId) (cycle : ℕ)
    → IsView v → IsIn h v.records → (found : IsFoundedAt v.scenario v.records h) → cause_of h.note.body ≡ cause
    → h.octets ≡ octets_from found.front cause → {putting : Happening} → numbered found.front cause ≡ Some putting
    → (octets : List ℕ) → Arrives v.scenario putting device link (time_of h) (timed octets)
    → TakesIn (arrival_of v.scenario found.front device (time_of h) link cause (timed octets)) vl cycle
    → IsTaking v h device link cause vl cycle
of_octets {v} {h} {device} {link} cause vl cycle is i found comes_of own {putting} there octets arrives takes =
    let s = v.scenario in
    let n = s.network in
    let t = time_of h in
    let split = before_of is found in
    let at = standpoint s found.front device t in
    let finds = finds_none n device link at octets (last_taken found.front device t link cause) vl cycle takes in
    let in_all : IsIn putting v.records = subst (IsIn putting) (sym found.whole)
    (in_left putting found.front (h ∷ found.rest) (numbered_in found.front cause putting there)) in
    let pre = founded_at s v.records putting is.run.founded in_all in
    let put_octets : putting.octets ≡ octets_by n pre.front putting.note.body = ap (λ x. x.octets) pre.due.same in
    let same = own_octets s pre.front putting (time_of putting) putting.note.body link arrives.way octets put_octets
    arrives.put in
    let mine = own ∙ from_cause found.front cause putting there in
    let here = same ∙ sym mine in
    let way = way_is n link arrives.way device is.lawful.rules arrives.receiver in
    let shown : clock_of at ≡ shown_at v device t =
    rw (same_adjustment device split) in
    let state = up_state (is_turned_on_at s device t)
    (state_after s (earlier t found.front) device) finds.sound.synchronised in
    let entry = finds.entry in
    let number : numbered v.records cause ≡ Some putting = rw found.whole
    (numbered_front found.front (h ∷ found.rest) cause putting there) in
    record {
      there = i;
      putting = putting;
      put_there = in_all;
      number = number;
      is_cause = ap (numbered v.records) comes_of ∙ number;
      octets = mine;
      way = arrives.way;
      put = rw here at arrives.put;
      at = rw here at arrives.at;
      by_row = record {
        place = finds.enters.place;
        entry = entry;
        row = finds.enters.row;
        by = finds.enters.by;
        on_way = finds.enters.on_way ∙ way;
        of_vl = finds.of_vl;
        id_is = finds.enters.id_is ∙ ap (λ o. field 4 2 o) here;
        enters =
            rw (finds.enters.on_way ∙ way) (target_is (link_at n link) arrives.way device entry.link
            (rw finds.enters.by at finds.enters.row.link) arrives.receiver);
      };
      whole = rw (sym here) finds.fits.whole;
      occurs = rw finds.in_cycle at finds.fits.occurs;
      in_cycle = sym finds.in_cycle ∙ ap (cycle_at n) shown;
      not_before = rw shown at finds.fits.not_before;
      not_behind = rw shown at finds.fits.not_behind;
      synchronised =
          rw (earlier_before split) at state;
      correct = not_broken (not (is_off (state_before s found.front device t))) (is_broken s device t) finds.sound.takes_part;
      front = found.front;
      rest = found.rest;
      split = found.whole;
      anew =
          rw (sym finds.of_vl)
          (ap (λ c. is_taken_in c (last_taken found.front device t link cause entry.row.vl)) (sym finds.in_cycle) ∙
          finds.fits.anew);
    }
  where
    not_broken : (a b : Bool) → (a && not b) ≡ true → b ≡ false
    not_broken true true e = absurd cc
    not_broken true false e = refl
    not_broken false b e = absurd cc

-- what it shows
of_arrival : {v : View} {h : Happening} {device : DeviceId} {link : LinkId} {cause : ℕ} (vl : VlId) (cycle : ℕ)
    {a : Arrival} → IsView v → IsIn h v.records → (found : IsFoundedAt v.scenario v.records h)
    → cause_of h.note.body ≡ cause → h.octets ≡ octets_from found.front cause → TakesIn a vl cycle
    → ArrivesAs v.scenario found.front device (time_of h) link cause a → IsTaking v h device link cause vl cycle
of_arrival {v} {h} {device} {link} {cause} vl cycle is i found comes_of own takes comes =
    by comes.signal comes.arrives (rw comes.becomes at takes)
  where
    by : (signal : Signal) → Arrives v.scenario comes.putting device link (time_of h) signal
        → TakesIn (arrival_of v.scenario found.front device (time_of h) link cause signal) vl cycle → IsTaking v h device link cause vl cycle
    by (control frame) arrives t = absurd (never_control v.scenario.network device link (standpoint v.scenario found.front device (time_of h)) frame vl cycle t)
    by (timed octets) arrives t = of_octets cause vl cycle is i found comes_of own comes.there octets arrives t

pub takings_are_so : TakingsAreSo
takings_are_so v h device link cause vl cycle is i says =
    let found = founded_at v.scenario v.records h is.run.founded i in
    let own : h.octets ≡ octets_by v.scenario.network found.front h.note.body = ap (λ x. x.octets) found.due.same in
    elim says [
      | inl body ↦
          let caused : IsCaused v.scenario found.front h.note.time (notes.Accepted device link cause vl cycle) = subst
          (IsCaused v.scenario found.front h.note.time) body found.due.cause in
          of_arrival vl cycle is i found (ap cause_of body)
          (own ∙ ap (octets_by v.scenario.network found.front) body) (inl refl) caused
      | inr body ↦
          let caused : IsCaused v.scenario found.front h.note.time (notes.Delivered device link cause vl cycle) = subst
          (IsCaused v.scenario found.front h.note.time) body found.due.cause in
          of_arrival vl cycle is i found (ap cause_of body)
          (own ∙ ap (octets_by v.scenario.network found.front) body) (inr refl) caused
    ]

-- ---- which devices accept frames of the schedule, and to which they are delivered

-- what is dropped is neither
no_drop : (reason : Reason) (vl : VlId) (cycle : ℕ) (b : Bool)
    → arrivals.Dropped reason ≡ (if b then arrivals.Delivered vl cycle else arrivals.Accepted vl cycle) → ⊥
no_drop reason vl cycle true e = cc
no_drop reason vl cycle false e = cc

-- what is delivered is so to an end system
by_kind : (end b : Bool) (own vl : VlId) (number cycle : ℕ) → (if end then arrivals.Delivered own number else arrivals.Accepted own number) ≡ (if b
    then arrivals.Delivered vl cycle else arrivals.Accepted vl cycle) → end ≡ b
by_kind true true own vl number cycle e = refl
by_kind false false own vl number cycle e = refl
by_kind true false own vl number cycle e = absurd cc
by_kind false true own vl number cycle e = absurd cc

-- what is taken is delivered to end systems, and accepted by switches
taken_by_kind : (network : Network) (device : DeviceId) (link : LinkId) (at : Standpoint) (octets : List ℕ) (last : VlId → Option ℕ) (vl : VlId) (cycle : ℕ)
    (b : Bool) → timed_arrival network device link at octets last ≡ (if b then arrivals.Delivered vl cycle else arrivals.Accepted vl cycle)
    → is_end network device ≡ b
taken_by_kind network device link at octets last vl cycle b e = by (octets_fault network at octets) e
  where
    by_row : (entry : Entry) (o : Option Reason) → taken_or_fault network device at entry o ≡ (if b then arrivals.Delivered vl cycle
        else arrivals.Accepted vl cycle) → is_end network device ≡ b
    by_row entry (Some reason) e = absurd (no_drop reason vl cycle b e)
    by_row entry None e = by_kind (is_end network device) b entry.row.vl vl _ cycle e

    by_entry : (o : Option Entry) → entry_arrival network device at (length octets) last o ≡ (if b then arrivals.Delivered vl cycle
        else arrivals.Accepted vl cycle) → is_end network device ≡ b
    by_entry None e = absurd (no_drop _ vl cycle b e)
    by_entry (Some entry) e = by_row entry (row_fault network at entry (length octets) (last entry.row.vl)) e

    by : (o : Option Reason) → octets_or_fault network device link at octets last o ≡ (if b then arrivals.Delivered vl cycle else arrivals.Accepted vl cycle)
        → is_end network device ≡ b
    by (Some reason) e = absurd (no_drop reason vl cycle b e)
    by None e = by_entry (entry_entering network device link (field 4 2 octets)) e

module _ {v : View} (h : Happening) (device : DeviceId) (link : LinkId) (cause : ℕ) (vl : VlId) (cycle : ℕ)
    (is : IsView v) (i : IsIn h v.records) where
  -- a device to which a frame is delivered is an end system
  pub delivered_ends : h.note.body ≡ notes.Delivered device link cause vl cycle
      → is_end v.scenario.network device ≡ true
  delivered_ends body =
      let s = v.scenario in
      let found = founded_at s v.records h is.run.founded i in
      let caused : IsCaused s found.front h.note.time (notes.Delivered device link cause vl cycle) =
      subst (IsCaused s found.front h.note.time) body
      found.due.cause in
      by found.front caused.signal (sym caused.becomes)
    where
      by : (front : List Happening) (signal : Signal) → arrival_of v.scenario front device (amount h.note.time) link
          cause signal ≡ arrivals.Delivered vl cycle
          → is_end v.scenario.network device ≡ true
      by front (control frame) e =
          absurd (never_control v.scenario.network device link
          (standpoint v.scenario front device (amount h.note.time)) frame vl cycle (inr e))
      by front (timed octets) e =
          taken_by_kind v.scenario.network device link (standpoint v.scenario front device (amount h.note.time)) octets
          (last_taken front device (amount h.note.time) link cause) vl cycle true e

  -- and one that accepts is none
  pub accepted_switches : h.note.body ≡ notes.Accepted device link cause vl cycle
      → is_end v.scenario.network device ≡ false
  accepted_switches body =
      let s = v.scenario in
      let found = founded_at s v.records h is.run.founded i in
      let caused : IsCaused s found.front h.note.time (notes.Accepted device link cause vl cycle) =
      subst (IsCaused s found.front h.note.time) body
      found.due.cause in
      by found.front caused.signal (sym caused.becomes)
    where
      by : (front : List Happening) (signal : Signal) → arrival_of v.scenario front device (amount h.note.time) link
          cause signal ≡ arrivals.Accepted vl cycle
          → is_end v.scenario.network device ≡ false
      by front (control frame) e =
          absurd (never_control v.scenario.network device link
          (standpoint v.scenario front device (amount h.note.time)) frame vl cycle (inl e))
      by front (timed octets) e =
          taken_by_kind v.scenario.network device link (standpoint v.scenario front device (amount h.note.time)) octets
          (last_taken front device (amount h.note.time) link cause) vl cycle false e

  -- a switch accepts what it takes
  pub switch_accepts : is_end v.scenario.network device ≡ false → SaysTaken h.note.body device link cause vl cycle
      → h.note.body ≡ notes.Accepted device link cause vl cycle
  switch_accepts switch (inl body) = body
  switch_accepts switch (inr body) = absurd (both_ways _ switch (delivered_ends body))

  -- an end system is delivered what it takes
  pub end_delivers : is_end v.scenario.network device ≡ true → SaysTaken h.note.body device link cause vl cycle
      → h.note.body ≡ notes.Delivered device link cause vl cycle
  end_delivers end (inr body) = body
  end_delivers end (inl body) = absurd (both_ways _ (accepted_switches body) end)
