use Rattle.std.specs.Prelude.{MatchBool}
use Rattle.compression.specs.Clusters.{point_at}
use Rattle.run_law.specs.control.Permanence.{IsCollectedOrDropped}
use Rattle.run_law.specs.{control.Collections.point_fault, machines.{Calls.{MayRipen, MayTake}, Nodes.ripening}}
use Rattle.run_law.specs.{scenario.Devices.channel_of_link}
use Rattle.switch_ports.proofs.{Dispatching.{alive, called_stands, channel_same}}
use Rattle.switch_ports.proofs.{Emissions.{IsBit, all_later, cm_linked, has_room, is_bit, master_small, not_child}}
use Rattle.switch_ports.proofs.{Ranges.site_in_range, SwitchStates.IsComing, Words.{subst, sym, true, ℕ, ℤ}}
use Rattle.switch_ports.proofs.{SwitchSteps.{collected_stands, heard_so, heard_stands, taken_so}}
use Rattle.tte_units.specs.Reading.{least_reading}
use Rattle.{run_law.specs.device.States.is_off, std.proofs.Common.not}
use Rattle.switch_ports.proofs.Words.{◌∙◌, ◌≡◌, ◌≤ℤ◌, ◌⊎◌, Bool, DeviceId, LinkId, Moment, Network, Node, Option, Pcf, Port, Reason, Standing}
use Rattle.switch_ports.proofs.Words.{StandsAs, State, Switch, Units, after_permanence, ap, arith, called, false, inl, inr, ints, is_cm, master_of, pos, refl}
use Rattle.run_law.specs.declared.steps.Ripe.TheVariants as ripe
use Rattle.switch_ports.proofs.machine.SwitchMachine.ripen.Goals as goal

not_cm : (b : Bool) (P Q : Type 0) → b ≡ false → Q → MatchBool b P Q
not_cm false P Q e q = q
not_cm true P Q e q = absurd (let f : true ≡ false = e in cc)

match_true : (b : Bool) (P Q : Type 0) → b ≡ true → P → MatchBool b P Q
match_true true P Q e p = p
match_true false P Q e p = absurd (let f : false ≡ true = e in cc)

from_low : (x : ℤ) → pos 0 ≤ℤ x → least_reading ≤ℤ x
from_low x h = omega (arith, ints, h)

parent_of : {P Q : Type 0} → (P → ⊥) → P ⊎ Q → Q
parent_of never (inl p) = absurd (never p)
parent_of never (inr q) = q

pub hear_frame-requires-clause-site : goal.hear_frame-requires-clause-site
hear_frame-requires-clause-site c = let r = c.requires in site_in_range r.3.accepted.range r.3.site

pub point_fault-requires-clause-alive : goal.point_fault-requires-clause-alive
point_fault-requires-clause-alive c =
    let r = c.requires in
    alive c.args.self.now r.0 r.1 r.2 c.args.moment ripening c.standpoint-at.result r.3 r.4.call c.standpoint-at.ensures.reading
    c.standpoint-at.ensures.adjustment

pub returns-then-self : goal.returns-then-self
returns-then-self c network device node st may hearing ripens =
    let old = c.args.self.now in
    let channel : c.port-channel.result.channel ≡ channel_of_link network c.args.link = ap (λ (p : Port). p.channel) c.port-channel.ensures
    ∙ channel_same network device c.args.link st.site in
    let coming : IsComing network c.args.moment c.args.point = record { reached = ripens.reached; in_time = ripens.in_time } in
    let relay : is_cm network device ≡ false = st.site.cm ∙ ap not c.if-self.true in (
      not_cm (is_cm network device) _ _ relay (heard_so old network device node c.args.point.0 c.args.frame.now.cycle c.args.frame.now.members
          c.hear_frame.result st c.hear_frame.ensures.is),
      subst (λ o. StandsAs c.hear_frame.new.self network device
          (called c.args.moment ripening (after_permanence node c.args.moment o c.args.frame.now c.args.point c.hear_frame.result))) channel
          (heard_stands c.hear_frame.new.self c.port-channel.result.channel c.args.frame.now
          c.hear_frame.result st may coming c.hear_frame.ensures.is c.hear_frame.ensures.hears),
    )

-- what is known of the frame where the switch is a compression master
master_frame : (s : Switch) (network : Network) (device : DeviceId) (node : Node) (moment : Moment) (link : LinkId) (frame : Pcf) (point : Units)
    → StandsAs s network device node → is_cm network device ≡ true → MayRipen network device node moment link frame point → IsBit network frame.members
master_frame s network device node moment link frame point st cm ripens =
    is_bit frame.members st.accepted
    (ripens.from_below (parent_of (not_child network device s.site.channel link st.accepted cm st.site.channel) ripens.at)).one

its_ripening : (s : Switch) (network : Network) (device : DeviceId) (node : Node) (moment : Moment) (link : LinkId) (frame : Pcf) (point : Units)
    → StandsAs s network device node → is_cm network device ≡ true → is_off s.sync.state ≡ false → MayTake network device node moment link frame point
    → MayRipen network device node moment link frame point
its_ripening s network device node moment link frame point st cm on may =
    may.ripens (record {
      linked = cm_linked device s.site.channel st.accepted cm st.site.channel;
      on = ap (λ (x : Standing). is_off x.state) st.standing
          ∙ on;
      sound = st.sound;
    })

pub collect-requires-clause-order : goal.collect-requires-clause-order
collect-requires-clause-order c =
    let r = c.requires in
    let on = sym (c.is_off.ensures ∙ ap is_off c.standpoint-at.ensures.state) ∙ c.if-is_off.false in
    let ripens = its_ripening c.args.self.now r.0 r.1 r.2 c.args.moment c.args.link c.args.frame.now c.args.point r.3 (r.3.site.cm ∙ ap not c.if-self.false) on
    r.4 in
    r.3.collects.earliest c.args.point.0 (from_low c.args.point.0 ripens.from_zero) ripens.after_points ripens.after_emitted

pub collect-requires-clause-master : goal.collect-requires-clause-master
collect-requires-clause-master c =
    let r = c.requires in
    let on = sym (c.is_off.ensures ∙ ap is_off c.standpoint-at.ensures.state) ∙ c.if-is_off.false in
    let cm = r.3.site.cm ∙ ap not c.if-self.false in
    let ripens = its_ripening c.args.self.now r.0 r.1 r.2 c.args.moment c.args.link c.args.frame.now c.args.point r.3 cm on r.4 in
    master_small (master_frame c.args.self.now r.0 r.1 r.2 c.args.moment c.args.link c.args.frame.now c.args.point
    r.3 cm ripens)

pub collect-requires-clause-due : goal.collect-requires-clause-due
collect-requires-clause-due c =
    let r = c.requires in
    all_later c.args.point r.3 r.4.call r.4.reached

pub collect-requires-clause-room : goal.collect-requires-clause-room
collect-requires-clause-room c =
    let r = c.requires in
    let on = sym (c.is_off.ensures ∙ ap is_off c.standpoint-at.ensures.state) ∙ c.if-is_off.false in
    let cm = r.3.site.cm ∙ ap not c.if-self.false in
    let ripens = its_ripening c.args.self.now r.0 r.1 r.2 c.args.moment c.args.link c.args.frame.now c.args.point r.3 cm on r.4 in
    has_room c.args.point.0 r.3
    (master_frame c.args.self.now r.0 r.1 r.2 c.args.moment c.args.link c.args.frame.now c.args.point r.3 cm ripens)

-- the fault of the point, as the device's
fault_same : (s : Switch) (network : Network) (device : DeviceId) (node : Node) (state : State) (adjustment : Units) (point : ℤ) (cycle : ℕ) (o : Option Reason)
    → StandsAs s network device node → state ≡ s.sync.state → adjustment ≡ s.sync.adjustment → o ≡ point_fault network state adjustment.0 point cycle
    → o ≡ point_fault network node.standing.state node.standing.adjustment.0 point cycle
fault_same s network device node state adjustment point cycle o st e f is =
    is ∙ ap (λ x. point_fault network x adjustment.0 point cycle) e ∙ ap (λ (u : Units). point_fault network s.sync.state u.0 point cycle) f
    ∙ ap (λ (x : Standing). point_fault network x.state x.adjustment.0 point cycle) (sym st.standing)

pub returns-in-Some : goal.returns-in-Some
returns-in-Some c network device node st may hearing ripens =
    let old = c.args.self.now in
    let cm = st.site.cm ∙ ap not c.if-self.false in
    let fault = sym c.in-Some.is ∙ fault_same old network device node c.standpoint-at.result.state c.standpoint-at.result.adjustment c.args.point.0
    c.args.frame.now.cycle c.point_fault.result st c.standpoint-at.ensures.state c.standpoint-at.ensures.adjustment
    (c.point_fault.ensures network device st.accepted.range st.site) in (
      match_true (is_cm network device) _ _ cm
          (subst (λ o. IsCollectedOrDropped network node.points
          (point_at c.args.point.0 (master_of c.args.frame.now.members.0) c.args.frame.now.cycle) o (ripe.Dropped c.in-Some.reason)) fault refl),
      called_stands old network device node c.args.moment ripening st may.later.reading,
    )

pub returns-in-None : goal.returns-in-None
returns-in-None c network device node st may hearing ripens =
    let old = c.args.self.now in
    let cm = st.site.cm ∙ ap not c.if-self.false in
    let fault = sym c.in-None.is ∙ fault_same old network device node c.standpoint-at.result.state c.standpoint-at.result.adjustment c.args.point.0
    c.args.frame.now.cycle c.point_fault.result st c.standpoint-at.ensures.state c.standpoint-at.ensures.adjustment
    (c.point_fault.ensures network device st.accepted.range st.site) in
    let bit = master_frame old network device node c.args.moment c.args.link c.args.frame.now c.args.point st cm ripens in (
      match_true (is_cm network device) _ _ cm
          (subst (λ o. IsCollectedOrDropped network node.points
          (point_at c.args.point.0 (master_of c.args.frame.now.members.0) c.args.frame.now.cycle) o c.collect.result) fault
          (taken_so c.collect.new.self c.args.frame.now c.args.point c.collect.result st c.collect.ensures)),
      collected_stands c.collect.new.self c.args.moment ripening (channel_of_link network c.args.link)
          c.args.frame.now c.args.point
          c.collect.result st may.later.reading cm bit ripens.from_zero c.collect.ensures,
    )
