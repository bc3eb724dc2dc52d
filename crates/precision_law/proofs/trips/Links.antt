-- A frame goes over a link: it leaves, and what arrives is what was given but for its clock.
use Rattle.precision_law.proofs.{records.Points.due_there}
use Rattle.precision_law.proofs.words.{Laws.{IsLeg, IsTrip, IsView, Leg, View, clock_in}}
use Rattle.precision_law.proofs.words.Plans
use Plans.{DeviceId, Down, Event, Hop, Integrating, IsHop, IsLinkInRange, Link, LinkId, Network, Pcf, Units, Up, Way}
use Plans.{all_at, amount, closed, delay_by, delay_of, link_at}
use Rattle.precision_law.proofs.words.Runs
use Runs.{Arrival, Arrives, ArrivesAs, ColdStart, Departs, Domain, Gate, Gives, Happening, IsArrivedRecord, IsCaused}
use Runs.{IsDue, IsFounded, IsFoundedAt, IsIn, Launch, Member, NoteBody, Old, Reason, Scenario, Standpoint, Wire}
use Runs.{adjustment_after, arrival_of, by_number, clock_at_leaving, clock_on_arrival, control, control_arrival}
use Runs.{delay_at, delay_least, first_reason, founded_at, frame_by, frame_fault, frame_or_fault, front_founded}
use Runs.{happening, hold_at, hold_most, in_front_of, is_broken, is_cold_start, is_cut, is_gate_shut}
use Runs.{is_of_other_domain, is_of_other_member, is_off, is_parent_of, is_relay, is_turned_on_at, key, last_is, leaves}
use Runs.{members_in, numbered, numbered_front, on_cut_way, place_of, point_on_arrival, rank, receiver_of, same_earlier}
use Runs.{same_some, split, standpoint, state_after, time_of, time_on_port, too_old, way_from, way_to, wire_of}
use Runs.{wire_set, with_clock}
use Rattle.precision_law.proofs.words.Std
use Std.{if◌then◌else◌, ◌&&◌, ◌*◌, ◌+ℤ◌, ◌+◌, ◌-◌, ◌<ℤ◌, ◌<◌, ◌^◌, ◌∙◌, ◌∷◌, ◌≡◌, ◌≤◌, ◌⊎◌, Bool, List, None, Ok}
use Std.{Option, Some, [], ap, arith, by_lt_z, false, inl, inr, ints, le-ltb, ltb-false, mul-le-mul_left, nat_lt, not}
use Std.{option_and_then, option_map, option_map_or, refl, subst, sym, true, ℕ}
use Rattle.run_law.proofs.{law.FirstDeliveries.{given, next_note, sets_wire}, records.Order.ahead}
use Rattle.run_law.{specs.declared.judgement.Reason.TheVariants.Off}
use Rattle.tte_units.proofs.general_lemmas.Options.{mapped}
use Rattle.run_law.specs.declared.note.NoteBody.TheVariants as notes
use Rattle.run_law.specs.declared.steps.Arrival.TheVariants as arrivals

-- ---- a leg of a frame, by its records: a hop, and what arrives is what was given but for its clock

-- ---- records and their frames

-- the frame of a record is that of its body
pub frame_is : {s : Scenario} {hs : List Happening} {h : Happening} (at : IsFoundedAt s hs h) (body : NoteBody) → h.note.body ≡ body
    → h.frame ≡ frame_by s.network at.front body
frame_is {s} at body same = rw at.due.same (ap (frame_by s.network at.front) same)

-- a frame with a new clock
pub clocked : (clock : ℕ) (o : Option Happening) (g : Happening) (frame : Pcf) → o ≡ Some g → g.frame ≡ Some frame
    → option_map (with_clock clock) (option_and_then (λ x. x.frame) o) ≡ Some (with_clock clock frame)
clocked clock o g frame there framed =
    rw there (ap (option_map (with_clock clock)) framed)

-- the record of a number before another one is that of all
pub numbered_all : {s : Scenario} {hs : List Happening} {h : Happening} (at : IsFoundedAt s hs h) (n : ℕ) (g : Happening) → numbered at.front n ≡ Some g
    → numbered hs n ≡ Some g
numbered_all {h = h} at n g there = rw (sym at.whole) at (numbered_front at.front (h ∷ at.rest) n g there)

-- the leg of a frame, as a hop: what it is held and what of this is measured, the wire and the delay
pub record HasHop (v : View) (leg : Leg) : Type 0 where
  pub hop : Hop
  pub is : IsHop v.scenario.network.rho (amount v.scenario.network.grain) hop
  pub travels : time_of leg.arriving ≡ time_of leg.giving + (hop.hold + hop.delay)
  pub grows : clock_in leg.arriving ≡ clock_in leg.giving + (hop.measured + hop.wire)
  pub young : clock_in leg.arriving ≤ amount v.scenario.network.dmax
  pub fits : hop.hold + hop.delay ≤ delay_of v.scenario.network leg.link
  pub jitter : hop.jitter ≡ option_map_or (λ l. amount l.jitter) (link_at v.scenario.network leg.link) 0

-- ---- the delay of a link

-- the delay is that of the wire, but for its jitter
abbrev pub IsDelay : Link → ℕ → Type 0
IsDelay l d = (amount l.wire ≤ d) × (d ≤ amount l.wire + amount l.jitter)

set_delay : {v : View} (link : LinkId) (l : Link) (way : Way) → IsView v → link_at v.scenario.network link ≡ Some l
    → (e : Event) → IsIn e v.scenario.events → (d : ℕ) → wire_set link way e.what ≡ Some d → IsDelay l d
set_delay {v} link l way is there e i d set =
    let n = v.scenario.network in
    let w = sets_wire link way e.what d set in
    let range = all_at (IsLinkInRange n) n.link link.0 l is.lawful.range.links there in
    let never = λ (other : (w.delay.0 <ℤ l.wire.0) ⊎ ((l.wire.0 +ℤ l.jitter.0) <ℤ w.delay.0)). (given v.scenario e is.lawful i).within Wire (record {
      link = link;
      way = w.way;
      delay = w.delay;
      what = w.is;
      other = closed (λ k. (w.delay.0 <ℤ k.wire.0) ⊎ ((k.wire.0 +ℤ k.jitter.0) <ℤ w.delay.0)) (link_at n link) l there
          other;
    }) in
    by_lt_z w.delay.0 l.wire.0 (λ short. absurd (never (inl short))) (λ enough.
    by_lt_z (l.wire.0 +ℤ l.jitter.0) w.delay.0 (λ long. absurd (never (inr long))) (λ small.
    let a = range.wire.least in
    let b = range.jitter.least in
    let c = w.sets in
    (omega (arith, ints), omega (arith, ints))))

pub delay_is : {v : View} (link : LinkId) (l : Link) (way : Way) (t : ℕ) → IsView v
    → link_at v.scenario.network link ≡ Some l → IsDelay l (delay_at v.scenario link way t)
delay_is {v} link l way t is there =
    let nominal : wire_of v.scenario.network link ≡ amount l.wire = rw there in
    last_is (IsDelay l) v.scenario (wire_set link way) (wire_of v.scenario.network link) t (omega arith, omega arith)
    (set_delay link l way is there)

-- ---- arrivals

-- a frame whose first fault is none is its sender's, and not too old
none_of : (a b c d e f : Bool) (p q r s t u : Reason) → first_reason ((a, p) ∷ (b, q) ∷ (c, r) ∷ (d, s) ∷ (e, t) ∷ (f, u) ∷ []) ≡ None
    → (d ≡ false) × (e ≡ false)
none_of false false false false false f p q r s t u none = (refl, refl)
none_of a b c d e f p q r s t u none = absurd cc

-- the frame with which an arrival is taken
abbrev pub TakesWith : Arrival → Pcf → Type 0
TakesWith (arrivals.Waits frame point) taken = frame ≡ taken
TakesWith (arrivals.Passes frame way) taken = frame ≡ taken
TakesWith (arrivals.PassesAndWaits frame way point) taken = frame ≡ taken
TakesWith other taken = ⊥

-- what an arrival record says: as what the frame is taken
pub taken_as : {s : Scenario} {hs : List Happening} {device : DeviceId} {t : ℕ} {link : LinkId} {cause clock : ℕ}
    (a : IsArrivedRecord s hs device t link cause clock) → (x : Arrival) × ArrivesAs s hs device t link cause x × TakesWith x a.frame
taken_as a = elim a.taken [
  | inl waits ↦ (arrivals.Waits a.frame a.point, waits, refl)
  | inr (inl passes) ↦ (arrivals.Passes a.frame a.way, passes, refl)
  | inr (inr both) ↦ (arrivals.PassesAndWaits a.frame a.way a.point, both, refl)
]

taken_frame : (relay parent : Bool) (frame taken : Pcf) (point : Units)
    → TakesWith (if relay then (if parent then arrivals.Passes frame Up else arrivals.PassesAndWaits frame Down point) else arrivals.Waits frame point) taken
    → frame ≡ taken
taken_frame true true frame taken point e = e
taken_frame true false frame taken point e = e
taken_frame false parent frame taken point e = e

-- a frame that is taken is its sender's, is not too old, and has its clock at the arrival
pub taken_sound : (n : Network) (device : DeviceId) (link : LinkId) (at : Standpoint) (frame taken : Pcf)
    → TakesWith (control_arrival n device link at (Ok frame)) taken → (is_of_other_member n device link frame.members ≡ false)
    × (clock_on_arrival n link frame ≤ amount n.dmax) × (taken.clock ≡ clock_on_arrival n link frame)
taken_sound n device link at frame taken takes = by (frame_fault n device link at frame) refl takes
  where
    by : (o : Option Reason) → frame_fault n device link at frame ≡ o → TakesWith (frame_or_fault n device link at frame o) taken
        → (is_of_other_member n device link frame.members ≡ false) × (clock_on_arrival n link frame ≤ amount n.dmax)
        × (taken.clock ≡ clock_on_arrival n link frame)
    by (Some reason) e t = absurd t
    by None e t =
        let none = none_of (not at.takes_part) (is_cold_start frame.kind) (is_of_other_domain n frame) (is_of_other_member n device link frame.members)
        (nat_lt (amount n.dmax) (clock_on_arrival n link frame)) (is_gate_shut n device at) Off ColdStart Domain Member Old Gate e in
        let same = taken_frame (is_relay n device) (is_parent_of n device link) (with_clock (clock_on_arrival n link frame) frame) taken
        (point_on_arrival n at (clock_on_arrival n link frame)) t in
        (none.0, ltb-false (amount n.dmax) (clock_on_arrival n link frame) none.1, rw (sym same))

-- ---- legs

-- what a departure says of the clock
left_with : (old cut : Bool) (clock left : ℕ) → leaves left ≡ (if old then too_old else (if cut then on_cut_way else leaves clock)) → left ≡ clock
left_with false false clock left e = cc
left_with old cut clock left e = absurd cc

-- the record of a leaving, read
pub record LeavingIs (v : View) (leg : Leg) (sender : DeviceId) (left_clock : ℕ) : Type 0 where
  pub frame : Pcf
  pub of_frame : leg.giving.frame ≡ Some frame
  pub hold : ℕ
  pub held : time_of leg.leaving ≡ time_of leg.giving + hold
  pub most : (l : Link) → link_at v.scenario.network leg.link ≡ Some l → hold ≤ amount l.hold
  pub clock : left_clock ≡ frame.clock + (v.scenario.reading sender (time_of leg.leaving) - v.scenario.reading sender (time_of leg.giving))
  pub left_frame : leg.leaving.frame ≡ Some (with_clock left_clock frame)

pub leaving_is : {v : View} {way : Way} {leg : Leg} → IsView v → (is_leg : IsLeg v way leg)
    → LeavingIs v leg is_leg.sender is_leg.left_clock
leaving_is {v} {leg} is l =
    let s = v.scenario in
    let at = founded_at s v.records leg.leaving is.run.founded l.left in
    let departs = subst (IsCaused s at.front leg.leaving.note.time) l.leaves at.due.cause in
    let in_all = numbered_all at leg.giving.note.number departs.giving departs.there in
    let same = same_some _ _ _ in_all (by_number s v.records leg.giving is.run.founded l.given) in
    let given : time_of departs.giving ≡ time_of leg.giving = ap time_of same in
    let clock = left_with (nat_lt (amount s.network.dmax) (clock_at_leaving s l.sender departs.frame (time_of departs.giving) (time_of leg.leaving)))
    (is_cut s leg.link (way_from s.network l.sender leg.link) (time_of leg.leaving))
    (clock_at_leaving s l.sender departs.frame (time_of departs.giving) (time_of leg.leaving)) l.left_clock departs.becomes in
    record {
      frame = departs.frame;
      of_frame = ap (λ h. h.frame) (sym same) ∙ departs.of_frame;
      hold = hold_at s leg.link (way_from s.network l.sender leg.link) (time_of departs.giving);
      held = omega (arith, departs.held, given);
      most =
          λ k at_k. hold_most s leg.link k (way_from s.network l.sender leg.link) (time_of departs.giving) is.lawful at_k
          (all_at (IsLinkInRange s.network) s.network.link leg.link.0 k is.lawful.range.links at_k).hold.least;
      clock = clock ∙ ap (λ t. departs.frame.clock + (s.reading l.sender (time_of leg.leaving) - s.reading l.sender t))
          given;
      left_frame = frame_is at _ l.leaves ∙ clocked l.left_clock _ departs.giving departs.frame departs.there departs.of_frame;
    }

-- the record of an arrival, read
record ArrivingIs (v : View) (leg : Leg) (left arrived_clock : ℕ) : Type 0 where
  pub delay : ℕ
  pub way : Way
  pub is_delay : delay ≡ delay_at v.scenario leg.link way (time_of leg.leaving)
  pub at : time_of leg.arriving ≡ time_of leg.leaving + delay
  pub clock : arrived_clock ≡ left + wire_of v.scenario.network leg.link
  pub young : arrived_clock ≤ amount v.scenario.network.dmax

arriving_is : {v : View} {way : Way} {leg : Leg} (is : IsView v) (l : IsLeg v way leg) (frame : Pcf)
    → leg.leaving.frame ≡ Some frame → ArrivingIs v leg frame.clock l.arrived_clock
arriving_is {v} {way} {leg} is l frame framed =
    let s = v.scenario in
    let at = founded_at s v.records leg.arriving is.run.founded l.arrived in
    let a = subst (IsCaused s at.front leg.arriving.note.time) l.arrives at.due.cause in
    let x = taken_as a in
    let comes = x.1 in
    let same = same_some (numbered v.records leg.leaving.note.number) comes.putting leg.leaving
    (numbered_all at leg.leaving.note.number comes.putting comes.there) (by_number s v.records leg.leaving is.run.founded l.left) in
    let launch : Launch = record { link = leg.link; way = comes.arrives.way; signal = comes.signal } in
    let put = rw same at comes.arrives.put in
    let put_left = rw l.leaves at put in
    let on_wire = mapped (λ f. let x : Launch = record {
      link = leg.link;
      way =
          way_from s.network l.sender leg.link;
      signal = control (Ok f);
    } in x)
    leg.leaving.frame launch put_left in
    let signal : comes.signal ≡ control (Ok frame) =
    ap (λ x. x.signal) (sym on_wire.2) ∙ ap (λ (f : Pcf). control (Ok f)) (same_some _ _ _ on_wire.1 framed) in
    let arrival = comes.becomes ∙ ap (arrival_of s at.front l.receiver (time_of leg.arriving) leg.link leg.leaving.note.number) signal in
    let young = taken_sound s.network l.receiver leg.link (standpoint s at.front l.receiver (time_of leg.arriving)) frame a.frame
    (rw arrival at x.2) in
    let put_time : time_of comes.putting ≡ time_of leg.leaving = ap time_of same in
    record {
      delay = delay_at s leg.link comes.arrives.way (time_of leg.leaving);
      way = comes.arrives.way;
      is_delay = refl;
      at = omega (
        arith,
        comes.arrives.at,
        ap (time_on_port s.network leg.link) signal,
        ap
            (delay_at s leg.link comes.arrives.way) put_time,
      );
      clock = a.shows ∙ young.2;
      young = omega (arith, a.shows);
    }

-- the frame that arrived
pub arrived_frame : {v : View} {way : Way} {leg : Leg} (frame : Pcf) → IsView v → (l : IsLeg v way leg)
    → leg.leaving.frame ≡ Some frame → leg.arriving.frame ≡ Some (with_clock l.arrived_clock frame)
arrived_frame {v} {leg} frame is l framed =
    let s = v.scenario in
    let at = founded_at s v.records leg.arriving is.run.founded l.arrived in
    let a = subst (IsCaused s at.front leg.arriving.note.time) l.arrives at.due.cause in
    let put = (taken_as a).1 in
    let in_all = numbered_all at leg.leaving.note.number put.putting put.there in
    let same = same_some _ _ _ in_all (by_number s v.records leg.leaving is.run.founded l.left) in
    frame_is at _ l.arrives ∙ clocked l.arrived_clock _ put.putting frame put.there (rw same framed)

-- what a leg brings is what was given, but for its clock
pub leg_frame : {v : View} {way : Way} {leg : Leg} (frame : Pcf) → IsView v → IsLeg v way leg
    → leg.giving.frame ≡ Some frame → (clock : ℕ) × (leg.arriving.frame ≡ Some (with_clock clock frame))
leg_frame frame is l framed =
    let d = leaving_is is l in
    (l.arrived_clock, (arrived_frame _ is l d.left_frame) ∙ ap (λ f. Some (with_clock l.arrived_clock f)) (same_some _ _ _ d.of_frame framed))

-- a leg is a hop
pub leg_hop : {v : View} {way : Way} {leg : Leg} (link : Link) → IsView v → IsLeg v way leg
    → link_at v.scenario.network leg.link ≡ Some link → HasHop v leg
leg_hop {v} {leg} link is l there =
    let n = v.scenario.network in
    let d = leaving_is is l in
    let a = arriving_is is l (with_clock l.left_clock d.frame) d.left_frame in
    let clock = ap (λ o. option_map_or (λ f. f.clock) o 0)
    (arrived_frame (with_clock l.left_clock d.frame) is l d.left_frame) in
    let given : clock_in leg.giving ≡ d.frame.clock = ap (λ o. option_map_or (λ f. f.clock) o 0) d.of_frame in
    let reading = v.scenario.reading l.sender in
    let drifts = (is.lawful.clocks l.sender).drifts (time_of leg.giving) (time_of leg.leaving) (omega (arith, d.held)) in
    let hold : time_of leg.leaving - time_of leg.giving ≡ d.hold = omega (arith, d.held) in
    let within : IsDelay link a.delay =
    subst (IsDelay link) (sym a.is_delay) (delay_is leg.link link a.way (time_of leg.leaving) is there) in
    let wire : wire_of n leg.link ≡ amount link.wire = rw there in
    let jitter = ap (λ o. option_map_or (λ k. amount k.jitter) o 0) there in
    record {
      hop = record {
        hold = d.hold;
        measured = reading (time_of leg.leaving) - reading (time_of leg.giving);
        wire = wire_of n leg.link;
        jitter = option_map_or (λ k. amount k.jitter) (link_at n leg.link) 0;
        delay = a.delay;
      };
      is = record {
        measures = rw hold at drifts;
        least = omega (arith, within.0);
        most = omega (arith, within.1);
      };
      travels = omega (arith, d.held, a.at);
      grows = omega (arith, given, d.clock, a.clock);
      young = omega (arith, a.young);
      fits =
          (let h = d.most link there in let all : delay_of n leg.link ≡ delay_by link = ap (λ (o : Option Link). option_map_or delay_by o 0) there in omega
          (arith, within.1));
      jitter = refl;
    }

-- ---- What a frame says stays as it is on a trip

-- the frame of the record is of the cycle and of the members of the other frame
pub record SaysSo (h : Happening) (frame : Pcf) : Type 0 where
  pub carried : Pcf
  pub is : h.frame ≡ Some carried
  pub of_cycle : carried.cycle ≡ frame.cycle
  pub of_members : carried.members ≡ frame.members

-- so is that of the last record of a trip
pub trip_says : {v : View} (way : Way) (first last : Happening) (legs : List Leg) (frame : Pcf) → IsView v
    → IsTrip v way first legs last → first.frame ≡ Some frame → SaysSo last frame
trip_says way first last [] frame is trip framed = record {
  carried = frame;
  is = rw (sym trip) framed;
  of_cycle = refl;
  of_members = refl;
}
trip_says way first last (leg ∷ legs) frame is trip framed =
    let one = leg_frame frame is trip.1 (rw trip.0 framed) in
    let more = trip_says way leg.arriving last legs (with_clock one.0 frame) is trip.2 one.1 in
    record { carried = more.carried; is = more.is; of_cycle = more.of_cycle; of_members = more.of_members }

-- ---- a frame goes over a link: it leaves, and it arrives

-- what gives a frame has a low rank
gives_low : (n : Network) (body : NoteBody) (device : DeviceId) (link : LinkId) → Gives n body device link → rank body < 8
gives_low n (notes.Sent master cycle) device link g = omega arith
gives_low n (notes.Compressed cm opened at cycle members verdict) device link g = omega arith
gives_low n (notes.Arrived relay by cause clock) device link g = omega arith
gives_low n other device link g = absurd g

-- ---- what is taken

-- what is taken without a fault waits, is passed on, or both
taken_by : {s : Scenario} {hs : List Happening} {device : DeviceId} {t : ℕ} {link : LinkId} {cause : ℕ} (frame : Pcf)
    (point : Units) (relay parent : Bool) → ArrivesAs s hs device t link cause
    (if relay then (if parent then arrivals.Passes frame Up else arrivals.PassesAndWaits frame Down point) else
    arrivals.Waits frame point) → IsArrivedRecord s hs device t link cause frame.clock
taken_by frame point true true a = record { frame = frame; point = point; way = Up; taken = inr (inl a); shows = refl }
taken_by frame point true false a =
    record { frame = frame; point = point; way = Down; taken = inr (inr a); shows = refl }
taken_by frame point false parent a = record { frame = frame; point = point; way = Up; taken = inl a; shows = refl }

abbrev standpoint_by : Scenario → DeviceId → ℕ → List Happening → Standpoint
standpoint_by s device t es = record {
  takes_part = not (is_off (if is_turned_on_at s device t then Integrating else state_after s es device)) && not (is_broken s device t);
  state = if is_turned_on_at s device t then Integrating else state_after s es device;
  reading = s.reading device t;
  adjustment = (adjustment_after s es device).0;
}

-- ---- over a link

-- when what is given to the way leaves, and when it arrives
abbrev pub leaves_at : Scenario → LinkId → Way → ℕ → ℕ
leaves_at s link way t = t + hold_at s link way t

abbrev pub arrives_at : Scenario → LinkId → Way → ℕ → ℕ
arrives_at s link way t = leaves_at s link way t + delay_at s link way (leaves_at s link way t)

-- a frame is given to a way of a link
pub record IsGivenOn (v : View) (way : Way) (r : Happening) (frame : Pcf) (sender receiver : DeviceId) (link : LinkId) (l : Link) : Type 0 where
  pub given : IsIn r v.records
  pub of_frame : r.frame ≡ Some frame
  pub gives : Gives v.scenario.network r.note.body sender link
  pub there : link_at v.scenario.network link ≡ Some l
  pub from_way : way_from v.scenario.network sender link ≡ way
  pub on_way : way_to v.scenario.network receiver link ≡ way
  pub comes_to : receiver_of v.scenario.network link way ≡ Some receiver

-- it has come
pub record HasGone (v : View) (way : Way) (r : Happening) (frame : Pcf) (receiver : DeviceId) (link : LinkId) (l : Link) : Type 0 where
  pub leaving : Happening
  pub arriving : Happening
  pub is : IsLeg v way (record { link = link; giving = r; leaving = leaving; arriving = arriving })
  pub cause : ℕ
  pub clock : ℕ
  pub body : arriving.note.body ≡ notes.Arrived receiver link cause clock
  pub of_frame : arriving.frame ≡ Some (with_clock clock frame)
  pub at : time_of arriving ≡ arrives_at v.scenario link way (time_of r)
  pub grows : 10 ^ 9 * clock ≤ 10 ^ 9 * frame.clock + 10 ^ 9 * delay_by l + v.scenario.network.rho * delay_by l + 2 * amount v.scenario.network.grain * 10 ^ 9

-- how long it takes
pub takes_at_most : {v : View} (way : Way) (link : LinkId) (l : Link) (t : ℕ) → IsView v
    → link_at v.scenario.network link ≡ Some l → (arrives_at v.scenario link way t ≤ t + delay_by l)
    × (leaves_at v.scenario link way t < arrives_at v.scenario link way t)
takes_at_most {v} way link l t is there =
    let known = all_at (IsLinkInRange v.scenario.network) v.scenario.network.link link.0 l is.lawful.range.links
    there in
    let hold = hold_most v.scenario link l way t is.lawful there known.hold.least in
    let delay = delay_is link l way (leaves_at v.scenario link way t) is there in (
      omega (arith, delay.1),
      omega (
        arith,
        delay_least v.scenario link l way (leaves_at v.scenario link way t) is.lawful
            there known.wire.least,
      ),
    )

-- over a way that is whole a frame comes from a correct sender
pub goes_over : {v : View} {way : Way} {r : Happening} {frame : Pcf} {sender receiver : DeviceId} {link : LinkId}
    {l : Link} → IsView v → IsGivenOn v way r frame sender receiver link l
    → is_broken v.scenario sender (leaves_at v.scenario link way (time_of r)) ≡ false
    → is_cut v.scenario link way (leaves_at v.scenario link way (time_of r)) ≡ false →
    ((clock : ℕ)
    → 10 ^ 9 * clock ≤ 10 ^ 9 * frame.clock + 10 ^ 9 * delay_by l + v.scenario.network.rho * delay_by l + 2 * amount
    v.scenario.network.grain * 10 ^ 9 → clock ≤ amount v.scenario.network.dmax)
    → ((clock : ℕ) → clock + wire_of v.scenario.network link ≤ amount v.scenario.network.dmax
    → frame_fault v.scenario.network receiver link (standpoint v.scenario v.records receiver (arrives_at v.scenario
    link way (time_of r))) (with_clock clock frame) ≡ None) → arrives_at v.scenario link way (time_of r) ≤ v.until
    → HasGone v way r frame receiver link l
goes_over {v} {way} {r} {frame} {sender} {receiver} {link} {l} is g correct uncut young fair in_run =
    let s = v.scenario in
    let n = s.network in
    let hs = v.records in
    let t = leaves_at s link way (time_of r) in
    let u = arrives_at s link way (time_of r) in
    let takes = takes_at_most way link l (time_of r) is g.there in
    let known = all_at (IsLinkInRange n) n.link link.0 l is.lawful.range.links g.there in
    let held = hold_most s link l way (time_of r) is.lawful g.there known.hold.least in
    let nominal : wire_of n link ≡ amount l.wire = rw g.there in
    let seen = s.reading sender t - s.reading sender (time_of r) in
    let clock = clock_at_leaving s sender frame (time_of r) t in
    let hold_is : t - time_of r ≡ hold_at s link way (time_of r) = omega arith in
    let measures = rw hold_is at ((is.lawful.clocks sender).drifts (time_of r) t (omega arith)) in
    let drift : n.rho * hold_at s link way (time_of r) ≤ n.rho * delay_by l = mul-le-mul_left n.rho (omega arith) in
    let then_clock = clock + wire_of n link in
    let grows_so : 10 ^ 9 * then_clock ≤ 10 ^ 9 * frame.clock + 10 ^ 9 * delay_by l + n.rho * delay_by l + 2 * amount n.grain * 10 ^ 9 =
    omega arith in
    let small = young then_clock grows_so in
    let at = split place_of (IsDue s) hs (t ∷ 8 ∷ sender.0 ∷ link.0 ∷ r.note.number ∷ []) is.run.founded in
    let sooner = ahead (time_of r) t (rank r.note.body) 8
    (key (members_in r) r.note.body) (sender.0 ∷ link.0 ∷ r.note.number ∷ []) (omega arith) (gives_low n r.note.body sender link g.gives) in
    let front = front_founded place_of (IsDue s) at.front at.rest (subst (IsFounded place_of (IsDue s)) at.whole is.run.founded) in
    let found = by_number s at.front r front
    (in_front_of at r g.given
    sooner) in
    let old = le-ltb (amount n.dmax) clock (omega arith) in
    let cut : is_cut s link (way_from n sender link) t ≡ false = rw g.from_way uncut in
    let departs : Departs s at.front sender t link r.note.number (leaves clock) = record {
      giving = r;
      there = found;
      gives = g.gives;
      frame = frame;
      of_frame = g.of_frame;
      held = rw (sym g.from_way);
      correct = correct;
      becomes =
          sym (rw old
          (ap (λ b. if b then on_cut_way else leaves clock) cut));
    } in
    let leaving = happening n at.front (next_note at.front t (notes.Left sender link r.note.number clock)) in
    let left_there = due_there t (notes.Left sender link r.note.number clock) at is
    (omega (arith, takes.1)) refl departs in
    let left_frame = clocked clock _ r frame found g.of_frame in
    let by = split place_of (IsDue s) hs (u ∷ 2 ∷ receiver.0 ∷ link.0 ∷ leaving.note.number ∷ []) is.run.founded in
    let front_by = front_founded place_of (IsDue s) by.front by.rest (subst (IsFounded place_of (IsDue s)) by.whole is.run.founded) in
    let found_by = by_number s by.front leaving front_by
    (in_front_of by leaving left_there (inl takes.1)) in
    let arrives : Arrives s leaving receiver link u (control (Ok (with_clock clock frame))) =
    grind (arith, option_map, way_from, control, with_clock) in
    let stands =
    ap (standpoint_by s receiver u) (same_earlier u (2 ∷ receiver.0 ∷ link.0 ∷ leaving.note.number ∷ []) by) in
    let no_fault = ap (λ p. frame_fault n receiver link p (with_clock clock frame)) stands ∙ fair clock small in
    let arrived =
    taken_by (with_clock then_clock frame) (point_on_arrival n (standpoint s by.front receiver u) then_clock)
    (is_relay n receiver) (is_parent_of n receiver link) (record {
      putting = leaving;
      there = found_by;
      signal = control (Ok (with_clock clock frame));
      arrives = arrives;
      becomes = ap (frame_or_fault n receiver link (standpoint s by.front receiver u) (with_clock clock frame)) (sym no_fault);
    }) in
    let arriving = happening n by.front (next_note by.front u
    (notes.Arrived receiver link leaving.note.number then_clock)) in
    let there = due_there u (notes.Arrived receiver link leaving.note.number then_clock) by is in_run refl arrived in
    record {
      leaving = leaving;
      arriving = arriving;
      is = grind (arith, leaves);
      cause = leaving.note.number;
      clock = then_clock;
      body = refl;
      of_frame = clocked then_clock _ leaving (with_clock clock frame) found_by left_frame;
      at = refl;
      grows = grows_so;
    }
