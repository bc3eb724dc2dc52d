-- What records put on wires: who gives it, when it leaves, and where it arrives, enters or is lost.
use Rattle.std.{specs.{Option.option_map_or, Prelude.{if◌then◌else◌, IsSomeAnd, option_map, ⊤}}}
use Rattle.std.proofs.Common
use Common.{◌&&◌, ◌+ℤ◌, ◌+◌, ◌<ℤ◌, ◌<◌, ◌==◌, ◌||◌, ◌∙◌, ◌≡◌, ◌≤ℤ◌, ◌≤◌, ◌⊎◌, Bool, Err, List, None, Ok, Option, Result}
use Common.{Some, ap, arith, false, inl, inr, pos, refl, slice_get, subst, sym, true, ℕ}
use Rattle.std.proofs.lemmas.{Bool.{and_from, and_parts, or_cases, or_left, or_right}, Int.{by_lt_z, ints}}
use Rattle.std.proofs.lemmas.{Option.{same_Some, slice_get_within}}
use Rattle.audit_law.specs.law.{Departures.{OwesDeparture, leaves_at}, LostSends.OwesLoss}
use Rattle.audit_sweep.specs.declared.records.{kept.{Kept.Kept, KeptRecord.KeptRecord}}
use Rattle.audit_sweep.specs.declared.records.wires.{leaving.Leaving.Leaving, putting.{OnWire.OnWire, Put.Put}}
use Rattle.audit_sweep.specs.declared.records.wires.{receiving.Reception.Reception}
use Rattle.audit_sweep.specs.records.{Keeping.{control_sending, kept_of, record_of, sending_of}}
use Rattle.audit_sweep.specs.records.wires.{Departings.{IsLeaving, IsLostAt, giver, is_child_of, passes}}
use Rattle.audit_sweep.specs.records.wires.{Entrances.IsEnteredAs}
use Rattle.audit_sweep.specs.records.wires.{Receptions.{IsArriving, IsAt, IsOwedArrival, IsReceivedBy, IsReception}}
use Rattle.audit_sweep.specs.records.wires.Signals
use Signals.{ShowsByCause, control_on_wire, on_wire_of, port_time, put_by, put_of, put_on, sent_on_wire, stops}
use Rattle.device_rules.specs.{Entering.{IsEnteredSo, entering_by}, Headings.heading_of}
use Rattle.device_rules.specs.{declared.{entrances.EnteringRow.EnteringRow, heading.Heading.Heading}}
use Rattle.net_plan.{proofs.Trees.link_there}
use Rattle.net_plan.specs.{Belonging.HasLink, Places.link_at, Ranges.{IsInRange, IsLinkInRange}, Rules.IsChildOf}
use Rattle.net_plan.specs.declared.{event.Event.Event, ids.{DeviceId.DeviceId, LinkId.LinkId}, network.Network.Network}
use Rattle.net_plan.specs.declared.{tables.{Link.Link, Way.{TheVariants.Up, Way}}}
use Rattle.pcf_codec.specs.{Decoding.decoded, EtherType.pcf_type, Fields.field, declared.refusal.PcfRefusal.PcfRefusal}
use Rattle.run_law.proofs.{law.FirstDeliveries.{last_is, sets_wire}, runs.Places.parted}
use Rattle.run_law.proofs.scenario.Devices.{end_is, parent_shown, shown_parent}
use Rattle.run_law.specs.{device.Standpoints.{Standpoint, standpoint}}
use Rattle.run_law.specs.{timed.{Arrivals.{row_fault, taken_or_fault}, Receptions.{arrival_of, last_taken}}}
use Rattle.run_law.specs.control.{Leaving.{Departs, Departure, Gives, Passes, departure}, Losses.IsSendLost}
use Rattle.run_law.specs.control.{Wires.{Arrives, Launch, Signal, control, launched, signal_of, time_on_port, timed}}
use Rattle.run_law.specs.declared.{judgement.Reason.Reason, note.NoteBody.NoteBody, outside.Outside.TheVariants.Wire}
use Rattle.run_law.specs.declared.{steps.Arrival.Arrival}
use Rattle.run_law.specs.records.{Happenings.{Happening, frame_by, frame_in, numbered, octets_by, time_of}, Order.IsIn}
use Rattle.run_law.specs.scenario.{Devices.{IsParentOf, is_parent_of, is_relay}, Hypothesis.AreWithinHypothesis}
use Rattle.run_law.specs.scenario.{Scenarios.{Scenario, is_broken}}
use Rattle.run_law.specs.scenario.{Ways.{delay_at, hold_at, is_cut, receiver_of, way_from, wire_of, wire_set}}
use Rattle.schedule_tables.specs.{Entries.target_by, declared.entry.Entry.Entry}
use Rattle.tte_units.{proofs.general_lemmas.{Lists.in_all, Options.{closed, one}}}
use Rattle.tte_units.{specs.{Amount.amount, declared.frames.pcf.Pcf.Pcf}}
use Rattle.audit_sweep.specs.declared.records.kept.Kept.TheVariants as kepts
use Rattle.audit_sweep.specs.declared.records.kept.Sending.TheVariants as sendings
use Rattle.audit_sweep.specs.declared.records.wires.entering.Entered.TheVariants as entered
use Rattle.audit_sweep.specs.declared.records.wires.putting.OnWire.TheVariants as on_wire
use Rattle.net_plan.specs.declared.event.What.TheVariants as events
use Rattle.run_law.specs.declared.note.NoteBody.TheVariants as notes

-- ---- what arrives is owed: wires take time, so it is behind the record that put it there

there_is : {X Y : Type 0} (f : X → Y) (o : Option X) (y : Y) → option_map f o ≡ Some y → (x : X) × (o ≡ Some x)
there_is f None y e = absurd cc
there_is f (Some x) y e = (x, refl)

-- a wire delay that an event sets is at least 1
set_least : (s : Scenario) (link : LinkId) (l : Link) (way : Way) → AreWithinHypothesis s.network s.events → link_at s.network link ≡ Some l
    → pos 1 ≤ℤ l.wire.0 → (e : Event) → IsIn e s.events → (v : ℕ) → wire_set link way e.what ≡ Some v → 1 ≤ v
set_least s link l way within there least e i v is =
    let set = sets_wire link way e.what v is in
    let at = parted e s.events i in
    by_lt_z {P = 1 ≤ v} set.delay.0 l.wire.0
    (λ short. absurd (within at.0 at.1 e at.2 Wire (record {
      link = link;
      way = set.way;
      delay = set.delay;
      what = set.is;
      other = closed (λ (k : Link). (set.delay.0 <ℤ k.wire.0) ⊎ ((k.wire.0 +ℤ k.jitter.0) <ℤ set.delay.0)) (link_at s.network link) l there (inl short);
    })))
    (λ long. omega (arith, ints, long, least, set.sets))

-- so is the wire delay at any time
delay_least : (s : Scenario) (link : LinkId) (l : Link) (way : Way) (t : ℕ) → AreWithinHypothesis s.network s.events → link_at s.network link ≡ Some l
    → pos 1 ≤ℤ l.wire.0 → 1 ≤ delay_at s link way t
delay_least s link l way t within there least =
    let nominal : wire_of s.network link ≡ amount l.wire = ap (λ (o : Option Link). option_map_or (λ k. amount k.wire) o 0) there in
    last_is (λ v. 1 ≤ v) s (wire_set link way) (wire_of s.network link) t (omega (arith, ints, nominal, least))
    (set_least s link l way within there least)

-- what arrives does so later than it was put on the wire
comes_behind : {s : Scenario} {h : Happening} (r : Reception) {signal : Signal} → IsInRange s.network
    → AreWithinHypothesis s.network s.events → Arrives s h r.device r.link r.time signal → time_of h < r.time
comes_behind {s} {h} r range within x =
    let l = there_is (target_by x.way) (link_at s.network r.link) r.device x.receiver in
    let least = delay_least s r.link l.0 x.way (time_of h) within l.1
    (in_all (IsLinkInRange s.network) s.network.link r.link.0 l.0 range.links l.1).wire.least in
    let at = x.at in
    omega (arith, least, at)

-- what arrives by the time is owed, and nothing else is
pub owed_arrival : (s : Scenario) (hs : List Happening) (h : Happening) (until cause : ℕ) (o : Option Reception) → IsInRange s.network
    → AreWithinHypothesis s.network s.events → numbered hs cause ≡ Some h → IsReceivedBy s h until o → IsOwedArrival s hs until cause o
owed_arrival s hs h until cause None range within there none =
    λ owed. none owed.device owed.link owed.time owed.arrives.signal
    (subst (λ g. Arrives s g owed.device owed.link owed.time owed.arrives.signal)
    (one (numbered hs cause) owed.arrives.putting h owed.arrives.there there) owed.arrives.arrives) owed.timely
owed_arrival s hs h until cause (Some r) range within there x = (
  record {
    device = r.device;
    link = r.link;
    time = r.time;
    is = arrival_of s hs r.device r.time r.link cause x.0.signal;
    arrives = record { putting = h; there = there; signal = x.0.signal; arrives = x.0.arrives; becomes = refl };
    behind = inl (comes_behind r range within x.0.arrives);
    timely = x.1;
  },
  refl,
  refl,
  refl,
)

-- ---- what a record puts on a way is what is told by what is kept of it

-- a `send` event shows the frame that its octets spell, and its octets
abbrev pub SendShows : Happening → NoteBody → Type 0
SendShows h (notes.Event line (events.Send link octets)) = (h.frame ≡ frame_in (decoded octets)) × (h.octets ≡ octets)
SendShows h other = ⊤

shows : (network : Network) (before : List Happening) (h : Happening) (body : NoteBody) → h.frame ≡ frame_by network before body
    → h.octets ≡ octets_by network before body → SendShows h body
shows network before h (notes.Event line (events.Send link octets)) e o = (e, o)
shows network before h other e o = tt

pub by_cause : (network : Network) (h : Happening) → ShowsByCause network h → SendShows h h.note.body
by_cause network h c = shows network c.0 h h.note.body (ap (λ (x : Happening). x.frame) c.1) (ap (λ (x : Happening). x.octets) c.1)

sent_by : (b : Bool) (d : Result Pcf PcfRefusal) (octets : List ℕ) (r : KeptRecord) → r.frame ≡ frame_in d → r.heading ≡ heading_of octets
    → sent_on_wire r (if b then control_sending d else sendings.Timed) ≡ Some (on_wire_of (if b then control d else timed octets))
sent_by true (Ok f) octets r e o = ap control_on_wire e
sent_by true (Err x) octets r e o = refl
sent_by false d octets r e o = ap (λ (x : Heading). Some (on_wire.Timed x)) o

sent : (h : Happening) (octets : List ℕ) → h.frame ≡ frame_in (decoded octets) → h.octets ≡ octets
    → sent_on_wire (record_of h) (sending_of octets) ≡ Some (on_wire_of (signal_of octets))
sent h octets e o = sent_by (field 12 2 octets == pcf_type) (decoded octets) octets (record_of h) e (ap heading_of o)

abbrev launch : LinkId → Way → Signal → Launch
launch link way signal = record { link = link; way = way; signal = signal }

control_put : (link : LinkId) (way : Way) (o : Option Pcf) (put : Put) → option_map (put_on link way) (control_on_wire o) ≡ Some put
    → (l : Launch) × (option_map (λ frame. launch link way (control (Ok frame))) o ≡ Some l) × (put ≡ put_of l)
control_put link way None put e = absurd cc
control_put link way (Some f) put e = (launch link way (control (Ok f)), refl, sym (same_Some _ _ e))

-- what is told is put on the way, where no cut stops it
pub put_launched : (s : Scenario) (h : Happening) (t : ℕ) (body : NoteBody) (put : Put) → SendShows h body
    → put_by s.network (record_of h) (kept_of body) ≡ Some put → stops s t put.link (kept_of body) ≡ false
    → (l : Launch) × (launched s h t body ≡ Some l) × (put ≡ put_of l)
put_launched s h t (notes.Left device link cause clock) put shown e whole = control_put link (way_from s.network device link) h.frame put e
put_launched s h t (notes.TtSent device link cause vl cycle) put shown e whole =
    (launch link (way_from s.network device link) (timed h.octets), refl, sym (same_Some _ _ e))
put_launched s h t (notes.Event line (events.Send link octets)) put shown e whole =
    let l = launch link Up (signal_of octets) in
    let p : put_of l ≡ put = same_Some _ _ (sym (ap (option_map (put_on link Up)) (sent h octets shown.0 shown.1)) ∙ e) in
    let cut : is_cut s link Up t ≡ false = subst (λ (x : Put). is_cut s x.link Up t ≡ false) (sym p) whole in
    (l, ap (λ (b : Bool). if b then None else Some l) cut, sym p)
put_launched s h t other put shown e whole = absurd cc

control_launched : (link : LinkId) (way : Way) (o : Option Pcf) (l : Launch) → option_map (λ frame. launch link way (control (Ok frame))) o ≡ Some l
    → option_map (put_on link way) (control_on_wire o) ≡ Some (put_of l)
control_launched link way None l e = absurd cc
control_launched link way (Some f) l e = ap (λ x. Some (put_of x)) (same_Some _ _ e)

not_cut : {X : Type 0} (b : Bool) (x y : X) → (if b then None else Some x) ≡ Some y → (b ≡ false) × (x ≡ y)
not_cut true x y e = absurd cc
not_cut false x y e = (refl, same_Some _ _ e)

-- what is put on the way is told, and no cut stops it
pub launched_put : (s : Scenario) (h : Happening) (t : ℕ) (body : NoteBody) (l : Launch) → SendShows h body → launched s h t body ≡ Some l
    → (put_by s.network (record_of h) (kept_of body) ≡ Some (put_of l)) × (stops s t l.link (kept_of body) ≡ false)
launched_put s h t (notes.Left device link cause clock) l shown e = (control_launched link (way_from s.network device link) h.frame l e, refl)
launched_put s h t (notes.TtSent device link cause vl cycle) l shown e = (ap (λ x. Some (put_of x)) (same_Some _ _ e), refl)
launched_put s h t (notes.Event line (events.Send link octets)) l shown e =
    let n = not_cut (is_cut s link Up t) (launch link Up (signal_of octets)) l e in (
      ap (option_map (put_on link Up)) (sent h octets shown.0 shown.1) ∙ ap (λ x. Some (put_of x)) n.1,
      subst (λ (x : Launch). is_cut s x.link Up t ≡ false) n.1 n.0,
    )
launched_put s h t other l shown e = absurd cc

-- ---- where and when what a record puts on a wire arrives: what arrives is told

module _ {s : Scenario} {h : Happening} (r : KeptRecord) {device : DeviceId} {link : LinkId} {t : ℕ}
    {signal : Signal} (shown : ShowsByCause s.network h) (k : r ≡ record_of h)
    (x : Arrives s h device link t signal) where
  put_is : put_by s.network r r.kept ≡ Some (put_of (record { link = link; way = x.way; signal = signal }))
  put_is =
      ap (λ (q : KeptRecord). put_by s.network q q.kept) k
      ∙ (launched_put s h (time_of h) h.note.body (record { link = link; way = x.way; signal = signal })
      (by_cause s.network h shown) x.put).0

  goes_on : stops s r.time link r.kept ≡ false
  goes_on =
      ap (λ (q : KeptRecord). stops s q.time link q.kept) k
      ∙ (launched_put s h (time_of h) h.note.body (record { link = link; way = x.way; signal = signal })
      (by_cause s.network h shown) x.put).1

module _ (s : Scenario) (h : Happening) (r : KeptRecord) (put : Put) (shown : ShowsByCause s.network h)
    (k : r ≡ record_of h) (is : put_by s.network r r.kept ≡ Some put) where
  -- the wire is of no link
  pub no_wire : link_at s.network put.link ≡ None → {device : DeviceId} {link : LinkId} {t : ℕ} {signal : Signal}
      → Arrives s h device link t signal → ⊥
  no_wire none {link} x =
      let same = one _ _ _ is (put_is r shown k x) in
      let gone : link_at s.network link ≡ None = subst (λ (p : Put). link_at s.network p.link ≡ None) same none in
      let there = sym (ap (option_map (target_by x.way)) gone) ∙ x.receiver in cc

  -- a cut stops it
  pub stopped : stops s r.time put.link r.kept ≡ true → {device : DeviceId} {link : LinkId} {t : ℕ} {signal : Signal}
      → Arrives s h device link t signal → ⊥
  stopped cut {link} x =
      let same = one _ _ _ is (put_is r shown k x) in
      let here : stops s r.time link r.kept ≡ true =
      subst (λ (p : Put). stops s r.time p.link r.kept ≡ true) same cut in
      let clash = sym here ∙ goes_on r shown k x in cc

-- ---- when

port_is : (network : Network) (link : LinkId) (signal : Signal) (found : Link) → link_at network link ≡ Some found
    → time_on_port network link signal ≡ port_time found.speed (on_wire_of signal)
port_is network link (control frame) found there = refl
port_is network link (timed octets) found there = rw there refl

-- when what is put there arrives
abbrev arrives_when : Scenario → Happening → Link → Put → ℕ
arrives_when s h found put = time_of h + port_time found.speed put.what + delay_at s put.link put.way (time_of h)

launch_when : (s : Scenario) (h : Happening) (found : Link) (l : Launch) → link_at s.network l.link ≡ Some found
    → time_of h + time_on_port s.network l.link l.signal + delay_at s l.link l.way (time_of h) ≡ arrives_when s h found (put_of l)
launch_when s h found l there = ap (λ n. time_of h + n + delay_at s l.link l.way (time_of h)) (port_is s.network l.link l.signal found there)

abbrev reception_of : Scenario → Happening → Link → Put → Reception
reception_of s h found put =
    record { device = target_by put.way found; link = put.link; time = arrives_when s h found put; what = put.what }

launch_received : (s : Scenario) (h : Happening) (found : Link) (l : Launch) → launched s h (time_of h) h.note.body ≡ Some l
    → link_at s.network l.link ≡ Some found → IsReception s h (reception_of s h found (put_of l))
launch_received s h found l put there =
    let receiver : receiver_of s.network l.link l.way ≡ Some (target_by l.way found) = ap (option_map (target_by l.way)) there in
    record {
      signal = l.signal;
      arrives = record { way = l.way; put = put; receiver = receiver; at = sym (launch_when s h found l there) };
      what = refl;
      device = λ device link t other y.
          let same = one _ _ _ put y.put in
          sym (one _ _ _ receiver (subst (λ (m : Launch). receiver_of s.network m.link m.way ≡ Some device) (sym same) y.receiver));
      link = λ device link t other y. ap (λ (m : Launch). m.link) (sym (one _ _ _ put y.put));
      time = λ device link t other y.
          let same = one _ _ _ put y.put in
          subst (λ (m : Launch). t ≡ time_of h + time_on_port s.network m.link m.signal + delay_at s m.link m.way (time_of h)) (sym same) y.at
          ∙ launch_when s h found l there;
    }

put_received : (s : Scenario) (h : Happening) (found : Link) (put : Put) → ShowsByCause s.network h
    → put_by s.network (record_of h) (kept_of h.note.body) ≡ Some put → link_at s.network put.link ≡ Some found
    → stops s (time_of h) put.link (kept_of h.note.body) ≡ false → IsReception s h (reception_of s h found put)
put_received s h found put shown is there whole =
    let l = put_launched s h (time_of h) h.note.body put (by_cause s.network h shown) is whole in
    subst (λ p. IsReception s h (reception_of s h found p)) (sym l.2)
    (launch_received s h found l.0 l.1 (subst (λ (p : Put). link_at s.network p.link ≡ Some found) l.2 there))

-- so it arrives
pub received : (s : Scenario) (h : Happening) (r : KeptRecord) (found : Link) (put : Put) (device : DeviceId) (time : ℕ) → ShowsByCause s.network h
    → r ≡ record_of h → put_by s.network r r.kept ≡ Some put → link_at s.network put.link ≡ Some found
    → stops s r.time put.link r.kept ≡ false → device ≡ target_by put.way found
    → time ≡ r.time + port_time found.speed put.what + delay_at s put.link put.way r.time
    → IsReception s h (record { device = device; link = put.link; time = time; what = put.what })
received s h r found put device time shown k is there whole by at = grind (arith, put_received)

-- but not by a time before
pub too_late : {s : Scenario} {h : Happening} {r : Reception} (until : ℕ) → IsReception s h r → until < r.time
    → {device : DeviceId} {link : LinkId} {t : ℕ} {signal : Signal} → Arrives s h device link t signal → t ≤ until → ⊥
too_late {r} until is late {device} {link} {t} {signal} x le =
    let e : t ≡ r.time = is.time device link t signal x in
    let lt = late in
    grind (arith, e, lt, le)

-- ---- at one device

module _ {s : Scenario} {h : Happening} {r : Reception} (device : DeviceId) (link : LinkId) (t : ℕ)
    (is : IsReception s h r) where
  pub arrives_here : IsAt r device link t → IsArriving s h device link t (Some r.what)
  arrives_here here = grind arith

  pub arrives_elsewhere : (IsAt r device link t → ⊥) → IsArriving s h device link t None
  arrives_elsewhere other signal x =
      other (record {
        at_device = sym (is.device device link t signal x);
        by_link = sym (is.link device link t signal x);
        at_time = sym (is.time device link t signal x);
      })

-- ---- what is lost of `send` events

-- the link on which a `send` event sends
abbrev pub sent_on : Kept → Option LinkId
sent_on (kepts.Send link sending) = Some link
sent_on rest = None

send_body : (body : NoteBody) (link : LinkId) → sent_on (kept_of body) ≡ Some link
    → (line : ℕ) × (octets : List ℕ) × (body ≡ notes.Event line (events.Send link octets))
send_body (notes.Event line (events.Send other octets)) link e = (line, octets, ap (λ (l : LinkId). notes.Event line (events.Send l octets)) (same_Some _ _ e))
send_body (notes.Event line (events.On device)) link e = absurd cc
send_body other link e = absurd cc

lost_on : {s : Scenario} {hs : List Happening} (h : Happening) (r : KeptRecord) {device : DeviceId} {t : ℕ}
    {link : LinkId} {cause : ℕ} → numbered hs cause ≡ Some h → r ≡ record_of h → IsSendLost s hs device t link cause
    → (sent_on r.kept ≡ Some link) × (t ≡ r.time)
lost_on h r there k x = grind (arith, one)

module _ (s : Scenario) (hs : List Happening) where
  -- the way is whole
  pub whole_way : (h : Happening) (r : KeptRecord) {until cause : ℕ} (link : LinkId) → numbered hs cause ≡ Some h
      → r ≡ record_of h → sent_on r.kept ≡ Some link → is_cut s link Up r.time ≡ false → OwesLoss s hs until cause → ⊥
  whole_way h r link there k by whole o = grind (arith, lost_on, one)

  -- the octets are lost
  pub send_lost : (h : Happening) (r : KeptRecord) (cause : ℕ) (link : LinkId) (found : Link)
      → numbered hs cause ≡ Some h → r ≡ record_of h → sent_on r.kept ≡ Some link
      → slice_get s.network.link link.0 ≡ Some found → is_cut s link Up r.time ≡ true
      → IsSendLost s hs found.child r.time link cause
  send_lost h r cause link found there k by at cut = grind (arith, send_body)

  -- ---- at one device

  pub lost_here : {device : DeviceId} {t : ℕ} {link : LinkId} {cause : ℕ} {lost : Leaving}
      → ((o : OwesLoss s hs t cause) × (lost.device ≡ o.device) × (lost.link ≡ o.link) × (lost.time ≡ o.time))
      → IsLostAt lost device link t → IsSendLost s hs device t link cause
  lost_here x here = grind arith

  same_loss : (h : Happening) (r : KeptRecord) {device other : DeviceId} {t u : ℕ} {link way : LinkId} {cause : ℕ}
      → numbered hs cause ≡ Some h → r ≡ record_of h → IsSendLost s hs device t link cause
      → IsSendLost s hs other u way cause → (device ≡ other) × (link ≡ way) × (t ≡ u)
  same_loss h r there k x y = grind (arith, lost_on, one, slice_get)

pub lost_elsewhere : {s : Scenario} {hs : List Happening} (h : Happening) (r : KeptRecord) {device : DeviceId}
    {t : ℕ} {link : LinkId} {cause : ℕ} (lost : Leaving) → numbered hs cause ≡ Some h → r ≡ record_of h
    → ((o : OwesLoss s hs t cause) × (lost.device ≡ o.device) × (lost.link ≡ o.link) × (lost.time ≡ o.time))
    → IsSendLost s hs device t link cause → IsLostAt lost device link t
lost_elsewhere h r lost there k x y = grind (arith, same_loss)

pub owed_at : {s : Scenario} {hs : List Happening} {device : DeviceId} {t : ℕ} {link : LinkId} {cause : ℕ}
    → IsSendLost s hs device t link cause → OwesLoss s hs t cause
owed_at {device} {t} {link} x = record { device = device; link = link; time = t; lost = x; timely = grind arith }

-- ---- how what arrives enters a device

heading_in : OnWire → Heading → Heading
heading_in (on_wire.Timed heading) other = heading
heading_in (on_wire.Control decoded) other = other

same_heading : (heading : Heading) (octets : List ℕ) → on_wire.Timed heading ≡ on_wire_of (timed octets) → heading_of octets ≡ heading
unfolding heading_in
same_heading heading octets e = sym (ap (λ (w : OnWire). heading_in w heading) e)

module _ (s : Scenario) (hs : List Happening) (device : DeviceId) (t : ℕ) (link : LinkId) where
  moved : (network : Network) (at : Standpoint) (octets : List ℕ) (result : Result EnteringRow Reason)
      → s.network ≡ network → at ≡ standpoint s hs device t → IsEnteredSo network device link at octets result
      → IsEnteredSo s.network device link (standpoint s hs device t) octets result
  moved network at octets result n a x =
      subst (λ m. IsEnteredSo m device link (standpoint s hs device t) octets result) (sym n)
      (subst (λ p. IsEnteredSo network device link p octets result) a x)

  -- by a row
  pub by_row : (cause : ℕ) (signal : Signal) (network : Network) (at : Standpoint) (heading : Heading)
      (row : EnteringRow) → s.network ≡ network → at ≡ standpoint s hs device t
      → on_wire.Timed heading ≡ on_wire_of signal → ((octets : List ℕ) → heading_of octets ≡ heading
      → IsEnteredSo network device link at octets (Ok row))
      → IsEnteredAs s hs device t link cause signal (entered.ByRow row heading.length)
  by_row cause (control decoded) network at heading row n a w f = absurd cc
  by_row cause (timed octets) network at heading row n a w f =
      let e = same_heading heading octets w in
      let x = moved network at octets (Ok row) n a (f octets e) in (
        x.0,
        x.1,
        ap (λ (k : Heading). taken_or_fault s.network device (standpoint s hs device t) x.0
            (row_fault s.network (standpoint s hs device t) x.0 k.length (last_taken hs device t link cause row.vl)))
            (sym e)
            ∙ sym (x.2 (last_taken hs device t link cause)),
      )

  -- by none
  pub by_none : (cause : ℕ) (signal : Signal) (network : Network) (at : Standpoint) (heading : Heading)
      (reason : Reason) → s.network ≡ network → at ≡ standpoint s hs device t
      → on_wire.Timed heading ≡ on_wire_of signal → ((octets : List ℕ) → heading_of octets ≡ heading
      → IsEnteredSo network device link at octets (Err reason))
      → IsEnteredAs s hs device t link cause signal (entered.Refused reason)
  by_none cause (control decoded) network at heading reason n a w f = absurd cc
  by_none cause (timed octets) network at heading reason n a w f =
      let e = same_heading heading octets w in
      sym (moved network at octets (Err reason) n a (f octets e) (last_taken hs device t link cause))

  -- what becomes of what enters by a row
  pub row_becomes : (cause : ℕ) (signal : Signal) (network : Network) (at : Standpoint) (row : EnteringRow)
      (length : ℕ) (last : Option ℕ) (is : Arrival) → s.network ≡ network → at ≡ standpoint s hs device t
      → last ≡ last_taken hs device t link cause row.vl → IsEnteredAs s hs device t link cause signal
      (entered.ByRow row length) → ((entry : Entry) → row ≡ entering_by network entry
      → is ≡ taken_or_fault network device at entry (row_fault network at entry length last))
      → is ≡ arrival_of s hs device t link cause signal
  row_becomes cause signal network at row length last is n a l x f = grind arith

-- ---- the devices that give frames to links: tests

alike_test : (d e : DeviceId) → d ≡ e → (d.0 == e.0) ≡ true
alike_test d e s = let n : d.0 ≡ e.0 = ap (λ (x : DeviceId). x.0) s in grind (arith, n)

end_test : (end_of : Link → DeviceId) (o : Option Link) (device : DeviceId) → IsSomeAnd o (λ l. end_of l ≡ device)
    → option_map_or (λ l. (end_of l).0 == device.0) o false ≡ true
end_test end_of None device e = absurd e
end_test end_of (Some l) device e = alike_test (end_of l) device e

module _ (network : Network) (device : DeviceId) (link : LinkId) where
  child_is : is_child_of network device link ≡ true → IsChildOf network device link
  child_is e = end_is (λ (l : Link). l.child) (link_at network link) device e

  child_test : IsChildOf network device link → is_child_of network device link ≡ true
  child_test e = end_test (λ (l : Link). l.child) (link_at network link) device e

module _ (network : Network) (device : DeviceId) (by link : LinkId) where
  passes_is : passes network device by link ≡ true → Passes network device by link
  passes_is e = grind (arith, and_parts, or_cases, parent_shown, child_is)

  on_test : (IsParentOf network device by × IsChildOf network device link)
      ⊎ (IsChildOf network device by × IsParentOf network device link) →
      ((is_parent_of network device by && is_child_of network device link) || (is_child_of network device by &&
      is_parent_of network device link)) ≡ true
  on_test (inl p) =
      or_left (is_parent_of network device by && is_child_of network device link)
      (is_child_of network device by && is_parent_of network device link)
      (and_from (is_parent_of network device by) (is_child_of network device link)
      (shown_parent network device by p.0) (child_test network device link p.1))
  on_test (inr p) =
      or_right (is_parent_of network device by && is_child_of network device link)
      (is_child_of network device by && is_parent_of network device link)
      (and_from (is_child_of network device by) (is_parent_of network device link) (child_test network device by p.0)
      (shown_parent network device link p.1))

  passes_test : Passes network device by link → passes network device by link ≡ true
  passes_test p = and_from (is_relay network device) _ p.relay (on_test p.on)

-- ---- who gives

chosen : (b : Bool) (x y : DeviceId) → (if b then Some x else None) ≡ Some y → (b ≡ true) × (y ≡ x)
chosen true x y e = (refl, sym (same_Some _ _ e))
chosen false x y e = absurd cc

choose : (b : Bool) (x y : DeviceId) → b ≡ true → y ≡ x → (if b then Some x else None) ≡ Some y
choose true x y b e = ap (λ (d : DeviceId). Some d) (sym e)
choose false x y b e = absurd cc

module _ (network : Network) where
  -- the device that is told gives the frame
  pub gives : (body : NoteBody) (device : DeviceId) (link : LinkId) → giver network link (kept_of body) ≡ Some device
      → Gives network body device link
  gives (notes.Sent master cycle) device link e =
      let x = chosen (is_child_of network master link) master device e in
      (x.1, subst (λ d. IsChildOf network d link) (sym x.1) (child_is network master link x.0))
  gives (notes.Compressed cm opened at cycle members verdict) device link e =
      let x = chosen (is_parent_of network cm link) cm device e in
      (x.1, subst (λ d. IsParentOf network d link) (sym x.1) (parent_shown network cm link x.0))
  gives (notes.Arrived relay by cause clock) device link e =
      let x = chosen (passes network relay by link) relay device e in
      (x.1, subst (λ d. Passes network d by link) (sym x.1) (passes_is network relay by link x.0))
  gives (notes.Event line (events.On turned)) device link e = absurd cc
  gives (notes.Event line (events.Send sent octets)) device link e = absurd cc
  gives other device link e = absurd cc

  -- and the device that gives it is told
  pub given : (body : NoteBody) (device : DeviceId) (link : LinkId) → Gives network body device link
      → giver network link (kept_of body) ≡ Some device
  given (notes.Sent master cycle) device link g =
      choose (is_child_of network master link) master device
      (subst (λ d. is_child_of network d link ≡ true) g.0 (child_test network device link g.1)) g.0
  given (notes.Compressed cm opened at cycle members verdict) device link g =
      choose (is_parent_of network cm link) cm device
      (subst (λ d. is_parent_of network d link ≡ true) g.0 (shown_parent network device link g.1)) g.0
  given (notes.Arrived relay by cause clock) device link g =
      choose (passes network relay by link) relay device
      (subst (λ d. passes network d by link ≡ true) g.0 (passes_test network device by link g.1)) g.0
  given other device link g = absurd g

  -- ---- the link is there

  pub within : (link : LinkId) (P : Link → Type 0) → IsSomeAnd (link_at network link) P → HasLink network link
  within link P p = let l = link_there (link_at network link) P p in slice_get_within network.link link.0 l.0 l.1

  passes_within : (device : DeviceId) (by link : LinkId)
      → (IsParentOf network device by × IsChildOf network device link)
      ⊎ (IsChildOf network device by × IsParentOf network device link) → HasLink network link
  passes_within device by link (inl p) = within link (λ l. l.child ≡ device) p.1
  passes_within device by link (inr p) = within link (λ l. l.parent ≡ device) p.1

  -- frames are given to links of the network alone
  pub given_within : (body : NoteBody) (device : DeviceId) (link : LinkId) → Gives network body device link
      → HasLink network link
  given_within (notes.Sent master cycle) device link g = within link (λ l. l.child ≡ device) g.1
  given_within (notes.Compressed cm opened at cycle members verdict) device link g =
      within link (λ l. l.parent ≡ device) g.1
  given_within (notes.Arrived relay by cause clock) device link g = passes_within device by link g.1.on
  given_within other device link g = absurd g

-- ---- when control frames leave, and what becomes of them: what is kept tells it

module _ (s : Scenario) (h : Happening) (r : KeptRecord) (device : DeviceId) (link : LinkId)
    (k : r ≡ record_of h) where
  pub giver_is : giver s.network link r.kept ≡ Some device → Gives s.network h.note.body device link
  giver_is e =
      gives s.network h.note.body device link (sym (ap (λ (q : KeptRecord). giver s.network link q.kept) k) ∙ e)

  giver_by : Gives s.network h.note.body device link → giver s.network link r.kept ≡ Some device
  giver_by g = ap (λ (q : KeptRecord). giver s.network link q.kept) k ∙ given s.network h.note.body device link g

-- when it leaves, by what is kept
abbrev pub kept_leaves : Scenario → DeviceId → LinkId → KeptRecord → ℕ
kept_leaves s device link r = r.time + hold_at s link (way_from s.network device link) r.time

leaves_is : (s : Scenario) (h : Happening) (r : KeptRecord) (device : DeviceId) (link : LinkId) → r ≡ record_of h
    → kept_leaves s device link r ≡ leaves_at s device link h
leaves_is s h r device link k = ap (λ q. kept_leaves s device link q) k

-- ---- debts

module _ (s : Scenario) (hs : List Happening) (h : Happening) (r : KeptRecord) (until cause : ℕ) (link : LinkId) where
  owed_giver : numbered hs cause ≡ Some h → r ≡ record_of h → (o : OwesDeparture s hs until cause link)
      → giver s.network link r.kept ≡ Some o.device
  owed_giver there k o =
      giver_by s h r o.device link k
      (subst (λ (g : Happening). Gives s.network g.note.body o.device link)
      (one (numbered hs cause) o.giving h o.there there) o.gives)

  owed_leaves : (device : DeviceId) → numbered hs cause ≡ Some h → r ≡ record_of h
      → giver s.network link r.kept ≡ Some device → (o : OwesDeparture s hs until cause link)
      → kept_leaves s device link r ≡ leaves_at s o.device link o.giving
  owed_leaves device there k by o =
      let d : device ≡ o.device = one _ _ _ by (owed_giver there k o) in
      leaves_is s h r device link k
      ∙ ap (λ g. leaves_at s device link g) (sym (one (numbered hs cause) o.giving h o.there there))
      ∙ ap (λ e. leaves_at s e link o.giving) d

module _ (s : Scenario) (hs : List Happening) (h : Happening) (r : KeptRecord) (until cause time : ℕ) (link : LinkId)
    (device : DeviceId) (there : numbered hs cause ≡ Some h) (k : r ≡ record_of h)
    (by : giver s.network link r.kept ≡ Some device) where
  -- it leaves later
  pub later : time ≡ kept_leaves s device link r → until < time → OwesDeparture s hs until cause link → ⊥
  later at late o =
      let e : time ≡ leaves_at s o.device link o.giving =
      at ∙ owed_leaves s hs h r until cause link device there k by o in
      let le = o.timely in
      let lt = late in
      grind (arith, e, le, lt)

  -- its device is broken
  pub broken : time ≡ kept_leaves s device link r → is_broken s device time ≡ true
      → OwesDeparture s hs until cause link → ⊥
  broken at is o =
      let d : device ≡ o.device = one _ _ _ by (owed_giver s hs h r until cause link there k o) in
      let e : time ≡ leaves_at s o.device link o.giving =
      at ∙ owed_leaves s hs h r until cause link device there k by o in
      let here : is_broken s o.device (leaves_at s o.device link o.giving) ≡ true =
      subst (λ n. is_broken s o.device n ≡ true) e (subst (λ x. is_broken s x time ≡ true) d is) in
      let clash = sym here ∙ o.correct in cc

-- it is owed
pub leaving : (s : Scenario) (hs : List Happening) (h : Happening) (r : KeptRecord) (frame : Pcf) (until cause time : ℕ) (link : LinkId) (device : DeviceId)
    → numbered hs cause ≡ Some h → r ≡ record_of h → r.frame ≡ Some frame → giver s.network link r.kept ≡ Some device
    → time ≡ kept_leaves s device link r → is_broken s device time ≡ false → time ≤ until
    → IsLeaving s hs until cause link (record { device = device; link = link; time = time })
leaving s hs h r frame until cause time link device there k framed by at correct timely =
    let e : time ≡ leaves_at s device link h = at ∙ leaves_is s h r device link k in
    record {
      owed = record {
        giving = h;
        there = there;
        device = device;
        gives = giver_is s h r device link k by;
        frame = frame;
        of_frame = sym (ap (λ (q : KeptRecord). q.frame) k) ∙ framed;
        correct = subst (λ n. is_broken s device n ≡ false) e correct;
        timely = subst (λ n. n ≤ until) e timely;
      };
      device = refl;
      time = e;
    }

-- ---- leavings at a time

module _ (s : Scenario) (hs : List Happening) (h : Happening) (r : KeptRecord) (device : DeviceId) (t : ℕ)
    (link : LinkId) (cause : ℕ) where
  departs_giver : {is : Departure} → numbered hs cause ≡ Some h → r ≡ record_of h
      → Departs s hs device t link cause is → giver s.network link r.kept ≡ Some device
  departs_giver there k x =
      giver_by s h r device link k
      (subst (λ (g : Happening). Gives s.network g.note.body device link)
      (one (numbered hs cause) x.giving h x.there there) x.gives)

  pub not_given_departs : numbered hs cause ≡ Some h → r ≡ record_of h
      → (giver s.network link r.kept ≡ Some device → ⊥) → {is : Departure} → Departs s hs device t link cause is → ⊥
  not_given_departs there k none x = none (departs_giver there k x)

  pub other_time_departs : numbered hs cause ≡ Some h → r ≡ record_of h → (t ≡ kept_leaves s device link r → ⊥)
      → {is : Departure} → Departs s hs device t link cause is → ⊥
  other_time_departs there k none x = grind (arith, one, leaves_is)

pub departs : (s : Scenario) (hs : List Happening) (h : Happening) (r : KeptRecord) (frame : Pcf) (device : DeviceId) (t : ℕ) (link : LinkId) (cause : ℕ)
    (is : Departure) → numbered hs cause ≡ Some h → r ≡ record_of h → r.frame ≡ Some frame → giver s.network link r.kept ≡ Some device
    → t ≡ kept_leaves s device link r → is_broken s device t ≡ false → is ≡ departure s device link frame r.time t → Departs s hs device t link cause is
departs s hs h r frame device t link cause is there k framed by at correct becomes = grind (arith, gives, giver_is, leaves_is)
