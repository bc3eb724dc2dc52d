-- What an end system knows of its network, and the control frames that arrive at it.
use Rattle.std.proofs.{Common.{◌*ℤ◌, ◌↔◌, Err, IsTrue, Ok, Result, eq-eqb, is_some, nat_lt}, lemmas.Bool.both_ways}
use Rattle.end_system.proofs.{Ripe.at_least}
use Rattle.end_system.proofs.Words
use Words.{if◌then◌else◌, ◌&&◌, ◌*◌, ◌+ℤ◌, ◌+◌, ◌<ℤ◌, ◌==◌, ◌^◌, ◌∙◌, ◌∷◌, ◌≡◌, ◌≤ℤ◌, ◌≤◌, A, B, Bool, Channel}
use Words.{DeviceId, EndSystem, IsInRange, IsOwnOf, IsSomeAnd, Link, LinkId, List, Moment, Network, Node, None, Option}
use Words.{Own, Pcf, Reason, Row, RowId, Some, Standing, Standpoint, StandsAsEnd, SyncPlan, Units, [], amount}
use Words.{amount_most, ap, arith, cases_Bool, end_plan, eqb-true, expected_offset, false, false≢true, first_reason}
use Words.{in_all, inl, inr, ints, is_end, is_off, length, link_at, not, option_and_then, option_map_or, pos, refl}
use Words.{standpoint_at, subst, sym, true, ℕ, ℤ, ⊎_elim}
use Rattle.end_system.specs.{Controls.{arrival_of, frame_arrival_of}, Owns.{IsLinkOf, IsUplinkOf, channel_by, wire_by}}
use Rattle.net_plan.{proofs.{InRange.its_amount, SameIds.{same_device, same_link}, Trees.child_of}}
use Rattle.net_plan.specs.{Paths.IsUplink, Places.{IsEndSystem, IsSwitchOf, device_at, is_end_system, is_master}}
use Rattle.net_plan.specs.{Ranges.{IsDeviceInRange, IsWithin}}
use Rattle.net_plan.specs.{declared.tables.{Device.Device, Role.{Role, TheVariants.{Client, Cm, Master, Relay}}}}
use Rattle.pcf_codec.specs.{Decoding.decoded, EtherType.{HasPcfType, pcf_type}, Fields.field}
use Rattle.pcf_codec.specs.{declared.refusal.PcfRefusal.PcfRefusal}
use Rattle.run_law.proofs.scenario.Devices.{end_test}
use Rattle.run_law.specs.{machines.{Answers.{after_arrival, arrival_at}, Calls.IsLinkAt}}
use Rattle.run_law.specs.{records.Frames.dispatched_frame}
use Rattle.run_law.specs.control.{Wires.{Signal, control, signal_of, timed}}
use Rattle.run_law.specs.control.Arrivals
use Arrivals.{are_others, clock_on_arrival, control_arrival, frame_or_fault, frame_taken, is_cold_start, is_gate_shut}
use Arrivals.{is_of_other_domain, is_of_other_member, refused}
use Rattle.run_law.specs.declared.{judgement.Reason.TheVariants.{ColdStart, Domain, Gate, Member, Off, Old}}
use Rattle.run_law.specs.declared.{steps.Arrival.{Arrival, TheVariants.{Dropped, Waits}}}
use Rattle.run_law.specs.scenario.{Ways.wire_of}
use Rattle.run_law.specs.scenario.Devices
use Devices.{IsParentOf, channel_of, has_role, is_cm, is_cm_role, is_parent_of, is_relay, is_relay_role, member_of}
use Devices.{plan_of}
use Rattle.schedule_tables.specs.Rules.{KeepsRules}
use Rattle.tte_units.{specs.Amount.units_of}
use Rattle.tte_units.proofs.general_lemmas.{Bools.takes_by, Integers.whole, Naturals.{eqb_same, unequal}}
use Rattle.tte_units.proofs.general_lemmas.{Options.one as one_some}
use Rattle.schedule_tables.specs.declared.rule.Rule.TheVariants as rules

-- ---- control frames that arrive at an end system: a device that takes no part

module _ (network : Network) (device : DeviceId) where
  off_signal : (node : Node) (moment : Moment) (link : LinkId) (signal : Signal) → is_off node.standing.state ≡ true
      → Dropped Off ≡ arrival_at network device node moment link signal
  off_signal node moment link (control (Ok frame)) off = grind (arith, not, amount)
  off_signal node moment link (control (Err refusal)) off = grind (arith, not, amount)
  off_signal node moment link (timed octets) off = grind (arith, not, amount)

  pub off_arrival : {node : Node} {e : EndSystem} (moment : Moment) (link : LinkId) (signal : Signal)
      → StandsAsEnd e network device node → is_off e.sync.state ≡ true
      → Dropped Off ≡ arrival_at network device node moment link signal
  off_arrival {node} moment link signal stands off =
      off_signal node moment link signal (subst (λ (s : Standing). is_off s.state ≡ true) (sym stands.standing) off)

  -- ---- a device that takes part

  member_in : (frame : Pcf) (o : Option Link) → option_map_or (λ (l : Link). l.parent.0 == device.0) o false ≡ false
      → option_map_or
      (λ (l : Link). l.parent.0 == device.0 && is_end network l.child && are_others (member_of network l.child)
      frame.members) o false ≡ false
  member_in frame None up = refl
  member_in frame (Some l) up =
      ap (λ (b : Bool). b && is_end network l.child && are_others (member_of network l.child) frame.members) up

  -- no frame comes to an end system from below
  no_other_member : (link : LinkId) (frame : Pcf) → is_parent_of network device link ≡ false
      → is_of_other_member network device link frame.members ≡ false
  no_other_member link frame up = member_in frame (link_at network link) up

gate_in : (b c d : Bool) → b ≡ false → (b && c && d) ≡ false
gate_in b c d e = ap (λ (x : Bool). x && c && d) e

waits_in : (b : Bool) (x y : Arrival) → b ≡ false → y ≡ (if b then x else y)
waits_in true x y e = absurd cc
waits_in false x y e = refl

no_gate : (network : Network) (device : DeviceId) (at : Standpoint) → is_relay network device ≡ false → is_gate_shut network device at ≡ false
no_gate network device at e = gate_in (is_relay network device) _ _ e

-- the faults that are left
by_faults : (or : Option Reason → Arrival) (t c d m o g : Bool) → ((r : Reason) → or (Some r) ≡ Dropped r) → t ≡ true → m ≡ false → g ≡ false
    → (if c then Dropped ColdStart else (if d then Dropped Domain else (if o then Dropped Old else or None))) ≡ or
    (first_reason ((not t, Off) ∷ (c, ColdStart) ∷ (d, Domain) ∷ (m, Member) ∷ (o, Old) ∷ (g, Gate) ∷ []))
by_faults or false c d m o g drop te me ge = absurd cc
by_faults or true c d true o g drop te me ge = absurd cc
by_faults or true c d false o true drop te me ge = absurd cc
by_faults or true true d false o false drop te me ge = sym (drop ColdStart)
by_faults or true false true false o false drop te me ge = sym (drop Domain)
by_faults or true false false false true false drop te me ge = sym (drop Old)
by_faults or true false false false false false drop te me ge = refl

taken_waits : (network : Network) (device : DeviceId) (link : LinkId) (frame : Pcf) (point : Units) → is_relay network device ≡ false
    → Waits frame point ≡ frame_taken network device link frame point
taken_waits network device link frame point e = waits_in (is_relay network device) _ (Waits frame point) e

-- the same tests, with what the network says in place of what the device knows
same_parts : {network : Network} {device : DeviceId} {own : Own} {link : LinkId} (at : Standpoint) (reading : Units)
    (frame : Pcf) → IsOwnOf network device own → IsLinkOf network device own link → reading.0 ≡ pos at.reading
    → frame_arrival_of own reading link frame ≡
    (if is_cold_start frame.kind then Dropped ColdStart else (if is_of_other_domain network frame then Dropped Domain
    else (if nat_lt (amount network.dmax) (clock_on_arrival network link frame) then Dropped Old else frame_or_fault
    network device link at frame None)))
same_parts at reading frame is of read = grind (arith, not, amount, nat_lt, taken_waits)

-- a control frame is judged as an end system judges it
pub judged : {network : Network} {device : DeviceId} {own : Own} {link : LinkId} (at : Standpoint) (reading : Units)
    (frame : Pcf) → IsOwnOf network device own → IsLinkOf network device own link → at.takes_part ≡ true
    → reading.0 ≡ pos at.reading → frame_arrival_of own reading link frame
    ≡ control_arrival network device link at (Ok frame)
judged at reading frame is of takes read =
    grind (arith, same_parts, by_faults, nat_lt, amount, no_other_member, no_gate)

-- what a refusal comes to
refused_at : (at : Standpoint) (refusal : PcfRefusal) → at.takes_part ≡ true
    → Dropped (refused refusal) ≡ Dropped (if at.takes_part then refused refusal else Off)
refused_at at refusal takes = ap (λ (b : Bool). Dropped (if b then refused refusal else Off)) (sym takes)

pub control_judged : {network : Network} {device : DeviceId} {own : Own} {link : LinkId} (at : Standpoint)
    (reading : Units) (decoded : Result Pcf PcfRefusal) → IsOwnOf network device own
    → IsLinkOf network device own link → at.takes_part ≡ true → reading.0 ≡ pos at.reading
    → arrival_of own reading link decoded ≡ control_arrival network device link at decoded
control_judged {network} {device} {own} {link} at reading (Ok frame) is of takes read =
    judged {network = network} {device = device} {own = own} {link = link} at reading frame is of takes read
control_judged at reading (Err refusal) is of takes read = refused_at at refusal takes

pub control_at : {network : Network} {device : DeviceId} {node : Node} {e : EndSystem} (moment : Moment)
    {link : LinkId} (octets : List ℕ) → StandsAsEnd e network device node → IsLinkOf network device e.own link
    → is_off node.standing.state ≡ false → pos 0 ≤ℤ moment.reading.0
    → arrival_of e.own moment.reading link (decoded octets)
    ≡ arrival_at network device node moment link (control (decoded octets))
control_at {node} moment octets stands of on begun =
    control_judged (standpoint_at node moment) moment.reading (decoded octets) stands.own of
    (takes_by (is_off node.standing.state) node.broken on stands.sound) (whole moment.reading.0 begun)

-- a control frame that arrives changes nothing yet
still_waits : (own : Own) (reading : Units) (frame : Pcf) (clock : ℕ) (node : Node) (moment : Moment) (b : Bool) (x : Units) (f : Pcf)
    → after_arrival node moment (if b then Dropped Old else Waits f x) ≡ node
still_waits own reading frame clock node moment true x f = refl
still_waits own reading frame clock node moment false x f = refl

still_domain : (node : Node) (moment : Moment) (b : Bool) (r : Reason) (a : Arrival) → after_arrival node moment a ≡ node
    → after_arrival node moment (if b then Dropped r else a) ≡ node
still_domain node moment true r a e = refl
still_domain node moment false r a e = e

pub control_still : (own : Own) (reading : Units) (link : LinkId) (node : Node) (moment : Moment) (decoded : Result Pcf PcfRefusal)
    → after_arrival node moment (arrival_of own reading link decoded) ≡ node
control_still own reading link node moment (Err refusal) = refl
control_still own reading link node moment (Ok frame) = grind (arith, still_domain, not, still_waits, nat_lt, amount)

-- ---- what is on the wire

signal_in : (b : Bool) (x y : Signal) → b ≡ true → (if b then x else y) ≡ x
signal_in true x y e = refl
signal_in false x y e = absurd cc

signal_out : (b : Bool) (x y : Signal) → b ≡ false → (if b then x else y) ≡ y
signal_out true x y e = absurd cc
signal_out false x y e = refl

pub is_control : (octets : List ℕ) → HasPcfType octets → signal_of octets ≡ control (decoded octets)
is_control octets h = signal_in (field 12 2 octets == pcf_type) _ _ (eq-eqb (field 12 2 octets) pcf_type h.1)

long_enough : (n : ℕ) → 60 ≤ n → 14 ≤ n
long_enough n h = omega arith

pub is_timed : (octets : List ℕ) (b : Bool) → 60 ≤ length octets → b ≡ false → IsTrue b ↔ HasPcfType octets → signal_of octets ≡ timed octets
is_timed octets b long other iff =
    signal_out (field 12 2 octets == pcf_type) _ _
    (unequal (field 12 2 octets) pcf_type (λ e. both_ways b other (iff.1 (long_enough (length octets) long, e))))

spelled_in : (b : Bool) (octets : List ℕ) (frame : Pcf) → (if b then control (decoded octets) else timed octets) ≡ control (Ok frame)
    → Ok frame ≡ decoded octets
spelled_in true octets frame e = cc
spelled_in false octets frame e = absurd cc

-- octets that are a control frame on a wire decode to it
pub spelled : (octets : List ℕ) (frame : Pcf) → signal_of octets ≡ control (Ok frame) → Ok frame ≡ decoded octets
spelled octets frame e = spelled_in (field 12 2 octets == pcf_type) octets frame e

-- ---- what an end system knows of an accepted network

pub some_of : {X : Type 0} (o : Option X) (P : X → Type 0) → IsSomeAnd o P → (x : X) × (o ≡ Some x) × P x
some_of None P h = absurd h
some_of (Some x) P h = (x, refl, h)

of_some : {X : Type 0} (o : Option X) (P : X → Type 0) (x : X) → o ≡ Some x → P x → IsSomeAnd o P
of_some o P x e h = subst (λ (p : Option _). IsSomeAnd p P) (sym e) h

-- ---- roles

role_is : (kind : Role → Bool) (o : Option Device) (b : Bool) → IsSomeAnd o (λ d. kind d.role ≡ b) → option_map_or (λ d. kind d.role) o false ≡ b
role_is kind None b h = absurd h
role_is kind (Some d) b h = h

never_cm : (r : Role) → is_end_system r ≡ true → is_cm_role r ≡ false
never_cm Master e = refl
never_cm Client e = refl
never_cm Cm e = absurd cc
never_cm Relay e = absurd cc

never_relay : (r : Role) → is_end_system r ≡ true → is_relay_role r ≡ false
never_relay Master e = refl
never_relay Client e = refl
never_relay Cm e = absurd cc
never_relay Relay e = absurd cc

some_such : (o : Option Device) (P Q : Device → Type 0) → ((d : Device) → P d → Q d) → IsSomeAnd o P → IsSomeAnd o Q
some_such None P Q f h = h
some_such (Some d) P Q f h = f d h

pub cm_not : (network : Network) (device : DeviceId) → IsEndSystem network device → is_cm network device ≡ false
cm_not network device end =
    role_is is_cm_role (device_at network device) false
    (some_such (device_at network device) (λ d. is_end_system d.role ≡ true) (λ d. is_cm_role d.role ≡ false) (λ d h. never_cm d.role h) end)

relay_not : (network : Network) (device : DeviceId) → IsEndSystem network device → is_relay network device ≡ false
relay_not network device end =
    role_is is_relay_role (device_at network device) false
    (some_such (device_at network device) (λ d. is_end_system d.role ≡ true) (λ d. is_relay_role d.role ≡ false) (λ d h. never_relay d.role h) end)

-- an end system is no switch
never_switch : (o : Option Device) (channel : Channel) → ((d : Device) → o ≡ Some d → is_some d.channel ≡ not (is_end_system d.role))
    → IsSomeAnd o (λ d. is_end_system d.role ≡ true) → IsSomeAnd o (λ d. d.channel ≡ Some channel) → ⊥
never_switch None channel range h k = h
never_switch (Some d) channel range h k = grind (arith, is_some, not, false≢true)

no_switch : {network : Network} (device : DeviceId) (channel : Channel) → IsInRange network
    → IsEndSystem network device → IsSwitchOf network channel device → ⊥
no_switch {network} device channel range end switch =
    never_switch (device_at network device) channel (λ d at. (in_all IsDeviceInRange network.device device.0 d range.devices at).switches) end switch

-- ---- plans

plan_by : (network : Network) (b : Bool) (m n : ℕ) → b ≡ false → units_of (if b then m else n) ≡ units_of n
plan_by network false m n e = refl
plan_by network true m n e = absurd cc

abbrev plan : Units → Units → ℕ → SyncPlan
plan cycle_length expected threshold = record { cycle_length = cycle_length; expected = expected; threshold = threshold }

plan_same : (network : Network) (device : DeviceId) → IsEndSystem network device → plan_of network device ≡ end_plan network
plan_same network device end =
    ap (λ u. plan network.cycle u network.sync_threshold)
    (plan_by network (is_cm network device) _ (expected_offset network) (cm_not network device end))

expected_most : (n d p q : ℕ) → n ≡ 2 * d + (2 * p + q) → d ≤ 2 ^ 40 → p ≤ 2 ^ 40 → q ≤ 2 ^ 40 → pos n ≤ℤ pos (2 ^ 43)
expected_most n d p q e a b c = omega (arith, ints, e, a, b, c)

from_zero : (n : ℕ) → pos 0 ≤ℤ pos n
from_zero n = omega (arith, ints)

margin_by : (n d p q k r : ℕ) (P R K : ℤ) → n ≡ 2 * d + (2 * p + q) → P ≡ pos p → R ≡ pos r → K ≡ pos k → 2 * d + q + 10 * p ≤ k → 2 ^ 32 ≤ r
    → (pos n +ℤ (pos 3 *ℤ P)) <ℤ (R +ℤ K)
margin_by n d p q k r P R K e a b c f g = rw (a, b, c) (omega (arith, ints, e, f, g))

-- ---- links

-- the other end of a link
link_facts : {network : Network} (device : DeviceId) (link : LinkId) → IsInRange network → KeepsRules network
    → IsEndSystem network device → IsParentOf network device link → ⊥
link_facts {network} device link range keeps end parent =
    let l = some_of (link_at network link) (λ l. l.parent ≡ device) parent in
    let joint = keeps rules.Joints link.0 l.0 l.1 in
    no_switch device joint.0 range end (subst (λ d. IsSwitchOf network joint.0 d) l.2 joint.1)

parent_by : (o : Option Link) (l : Link) (device : DeviceId) → o ≡ Some l → (l.parent ≡ device → ⊥)
    → option_map_or (λ l. l.parent.0 == device.0) o false ≡ false
parent_by o l device e out = grind (arith, option_map_or, ⊎_elim, same_device, eqb-true, cases_Bool)

-- the choice between the two links
is_first : {X : Type 0} (link a : LinkId) (x y : X) → link ≡ a → (if link.0 == a.0 then x else y) ≡ x
is_first link a x y e = grind (arith, eqb_same)

is_second : {X : Type 0} (link a : LinkId) (x y : X) → (link ≡ a → ⊥) → (if link.0 == a.0 then x else y) ≡ y
is_second link a x y out = grind (arith, ⊎_elim, same_link, eqb-true, cases_Bool)

-- the two uplinks differ
apart : (network : Network) (device : DeviceId) (link : LinkId) → IsUplink network A device link → IsUplink network B device link → ⊥
apart network device link a b = grind (arith, some_of, link_at, one_some)

channel_by_parent : (o : Option Link) (network : Network) (channel : Channel) (l : Link) → o ≡ Some l → IsSwitchOf network channel l.parent
    → option_and_then (λ l. channel_of network l.parent) o ≡ Some channel
channel_by_parent o network channel l e switch = grind (arith, some_of, option_and_then)

wire_is : (network : Network) (link : LinkId) (wire : Units) → IsSomeAnd (link_at network link) (λ l. l.wire ≡ wire) → wire_of network link ≡ amount wire
wire_is network link wire h =
    let l = some_of (link_at network link) (λ l. l.wire ≡ wire) h in
    ap (λ (p : Option Link). option_map_or (λ (l : Link). amount l.wire) p 0) l.1 ∙ ap (λ u. amount u) l.2

uplink_is : (network : Network) (channel : Channel) (device : DeviceId) (link other : LinkId) → KeepsRules network → IsEndSystem network device
    → IsUplink network channel device link → IsUplink network channel device other → link ≡ other
uplink_is network channel device link other keeps end h k =
    let one = (keeps rules.Connections device.0).ends end channel in
    one.2 link h ∙ sym (one.2 other k)

module _ (network : Network) (device : DeviceId) (own : Own) where
  -- a link of an end system is one of its two
  link_of_channel : (channel : Channel) (link : LinkId) → KeepsRules network → IsEndSystem network device
      → IsUplinkOf network A device own.a → IsUplinkOf network B device own.b → IsUplink network channel device link
      → (channel ≡ channel_by own link) × (wire_of network link ≡ amount (wire_by own link))
  link_of_channel A link keeps end a b up = grind (arith, uplink_is, is_first, wire_is, amount)
  link_of_channel B link keeps end a b up = grind (arith, uplink_is, apart, is_second, wire_is, amount)

  link_is : (link : LinkId) → IsInRange network → KeepsRules network → IsEndSystem network device
      → IsUplinkOf network A device own.a → IsUplinkOf network B device own.b → IsLinkAt network device link
      → IsLinkOf network device own link
  link_is link range keeps end a b (inr parent) = absurd (link_facts device link range keeps end parent)
  link_is link range keeps end a b (inl child) =
      let l = some_of (link_at network link) (λ l. l.child ≡ device) child in
      let joint = keeps rules.Joints link.0 l.0 l.1 in
      let up : IsUplink network joint.0 device link =
      of_some (link_at network link) (λ l. (l.child ≡ device) × IsSwitchOf network joint.0 l.parent) l.0 l.1
      (l.2, joint.1) in
      let of = link_of_channel joint.0 link keeps end a b up in
      record {
        child = child;
        up =
            parent_by (link_at network link) l.0 device l.1
            (λ e. no_switch device joint.0 range end (subst (λ d. IsSwitchOf network joint.0 d) e
            joint.1));
        channel = channel_by_parent (link_at network link) network joint.0 l.0 l.1 joint.1 ∙ ap
            (λ (c : Channel). Some c) of.0;
        wire = of.1;
      }

early_by : (offset time wire jitter t p c : ℕ) → offset + time + wire + jitter + t + 4 * p ≤ c → offset + 4 * p ≤ c
early_by offset time wire jitter t p c h = omega (arith, h)

offset_by : (network : Network) (row : RowId) (r : Row) → (slice_at : Option Row) → slice_at ≡ Some r → option_map_or (λ (r : Row). amount r.offset) slice_at
    0 ≡ amount r.offset
offset_by network row r o e = ap (λ (p : Option Row). option_map_or (λ (r : Row). amount r.offset) p 0) e

-- a device that was made so knows its network
pub is_own : {network : Network} {device : DeviceId} (own : Own) → IsInRange network → KeepsRules network
    → IsEndSystem network device → own.plan ≡ end_plan network → own.precision ≡ network.precision
    → own.correction ≡ network.correction → own.dmax ≡ network.dmax → own.marker ≡ network.marker
    → own.frame ≡ dispatched_frame network device 0 → own.is_master ≡ has_role network is_master device
    → IsUplinkOf network A device own.a → IsUplinkOf network B device own.b → IsOwnOf network device own
is_own {network} {device} own range keeps end plan_is precision correction dmax marker frame master a b =
    let within : (low high : ℕ) (u v : Units) → v ≡ u → IsWithin low high u
    → IsWithin low high v = λ low high u v e h. subst (λ x. IsWithin low high x) (sym e) h in
    record {
      in_range = range;
      end = end_test network device end;
      no_cm = cm_not network device end;
      no_relay = relay_not network device end;
      plan_is = plan_same network device end;
      plan = plan_is;
      precision = precision;
      correction = correction;
      dmax = dmax;
      marker = marker;
      frame = frame;
      master = master;
      linked = (own.a.link, inl (child_of network A device own.a.link a.leads));
      links = λ link at. link_is network device own link range keeps end a b at;
      range = record {
        cycle = within _ _ network.cycle own.plan.cycle_length (ap (λ (p : SyncPlan). p.cycle_length) plan_is) range.cycle;
        expected = within 0 (2 ^ 43) (units_of (expected_offset network)) own.plan.expected (ap (λ (p : SyncPlan). p.expected) plan_is)
            (record {
              least = from_zero (expected_offset network);
              most = expected_most (expected_offset network) (amount network.dmax)
                  (amount network.precision) (amount network.calc) refl (amount_most range.dmax)
                  (amount_most range.precision)
                  (amount_most range.calc);
            });
        precision = within _ _ network.precision own.precision precision range.precision;
        correction = within _ _ network.correction own.correction correction range.correction;
        dmax = within _ _ network.dmax own.dmax dmax range.dmax;
        wire_a = a.range;
        wire_b = b.range;
        margin = rw (plan_is, precision, correction)
            (margin_by (expected_offset network) (amount network.dmax) (amount network.precision) (amount network.calc) (amount network.correction)
            (amount network.cycle) network.precision.0 network.cycle.0 network.correction.0 refl
            (its_amount range.precision) (its_amount range.cycle) (its_amount range.correction)
            (keeps rules.Correction 0)
            (at_least range.cycle));
      };
      periods = λ vl. keeps rules.Periods vl;
      early = λ row cycle h.
          let ends = keeps rules.WindowEnds row.0 h.entry h.is in
          subst (λ n. n + 4 * amount network.precision ≤ amount network.cycle) (sym (offset_by network row h.entry.row _ h.is.row))
          (early_by _ _ _ _ _ (amount network.precision) (amount network.cycle) ends);
    }
