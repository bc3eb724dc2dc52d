-- A control frame that comes up from a switch, and one that a switch takes from below, is of one master.
use Rattle.net_plan.{proofs.Trees.rules_give_trees}
use Rattle.net_plan.specs.{Paths.{IsPath, IsTree, IsUplink}, Rules.IsChildOf}
use Rattle.net_plan.specs.{declared.tables.{Device.Device, Role.TheVariants.Relay}}
use Rattle.run_law.{proofs.{law.FirstDeliveries.number_is, scenario.Devices.master_end}}
use Rattle.run_law.{specs.{scenario.{Devices.member_of, Ways.receiver_of}, timed.Receptions.ArrivesAs}}
use Rattle.world_law.proofs.frames.Proper.{no_reason}
use Rattle.schedule_tables.proofs.Margins.{shape_rules}
use Rattle.world_law.proofs.steps_lemmas.{hearing.HeardSteps.rank_is}
use Rattle.world_law.proofs.steps_lemmas.Words.{standpoint, subst, suc, sym, target_by, time_of, timed, true, way_from}
use Rattle.world_law.proofs.steps_lemmas.Words.{zero, ℕ}
use Rattle.{net_plan.specs.Places.{IsCmOf, IsRoleOf, device_at, is_end_system}, run_law.specs.records.Happenings.{frame_by, frame_in, with_clock}}
use Rattle.{run_law.specs.control.Arrivals.{are_others, is_of_other_member}, schedule_tables.specs.declared.rule.Rule.TheVariants.Joints}
use Rattle.{run_law.specs.machines.Calls.{IsFromSwitch, IsLinkAt, IsOneMaster, MayArrive}, tte_units.proofs.general_lemmas.Options.{closed, opened as at_some}}
use Rattle.std.proofs.Common.{Err, IsSomeAnd, Ok}
use Rattle.world_law.proofs.steps_lemmas.Words.{◌&&◌, ◌+◌, ◌^◌, ◌∙◌, ◌∷◌, ◌≡◌, ◌≤◌, Arrival, Arrives, Bool, Channel, DeviceId, Down, Event, Gives}
use Rattle.world_law.proofs.steps_lemmas.Words.{Happening, IsArrivedRecord, IsCaused, IsDue, IsFounded, IsIn, IsOfMaster, IsOnWire, IsParentOf, KeepsRules}
use Rattle.world_law.proofs.steps_lemmas.Words.{Launch, Link, LinkId, List, Members, Network, None, NoteBody, OnWire, Option, Pcf, PcfRefusal, Reason, Result}
use Rattle.world_law.proofs.steps_lemmas.Words.{Scenario, Signal, Some, Standpoint, Up, Way, [], amount, ap, arith, arrival_body, arrival_of, cases_Bool}
use Rattle.world_law.proofs.steps_lemmas.Words.{control, eq-eqb, eqb-true, false, founded_at, frame_fault, frame_or_fault, if◌then◌else◌, in_left, inl, inr}
use Rattle.world_law.proofs.steps_lemmas.Words.{is_cut, is_end, is_parent_of, launched, length, link_at, nat_lt, not, numbered, numbered_front, numbered_in}
use Rattle.world_law.proofs.steps_lemmas.Words.{numbered_within, option_and_then, option_map, option_map_or, place_of, rank, refl, signal_of, slice_get}
use Rattle.net_plan.specs.declared.event.What.TheVariants as events
use Rattle.run_law.specs.declared.note.NoteBody.TheVariants as kinds

-- ---- options

-- what holds of the link holds of this one
of_link : (network : Network) (link : LinkId) (l : Link) (P : Link → Type 0) → link_at network link ≡ Some l → IsSomeAnd (link_at network link) P → P l
of_link network link l P e h = rw e at h

-- ---- no link leads from a switch to itself

relay_no_cm : (network : Network) (channel : Channel) (device : DeviceId) → IsRoleOf network Relay channel device → IsCmOf network channel device → ⊥
relay_no_cm network channel device relay cm = grind (arith, at_some)

no_way_up : {network : Network} → IsTree network → (channel : Channel) {device : DeviceId} (link : LinkId) {l : Link}
    → link_at network link ≡ Some l → l.child ≡ device → l.parent ≡ device → IsUplink network channel device link
    → IsRoleOf network Relay channel device → (links : List LinkId) → IsPath network channel device links → ⊥
no_way_up {network} tree channel {device} link e child parent up relay [] path =
    relay_no_cm network channel device relay path
no_way_up {network} tree channel {device} link {l} e child parent up relay (first ∷ links) path =
    let p = at_some _ _ path in
    let leads = closed _ _ p.0 p.1 (p.2.0, p.2.1) in
    let one = tree.one_uplink channel device first link leads up in
    let same : p.0 ≡ l = (let both = sym p.1 ∙ ap (link_at network) one ∙ e in cc) in
    let back : p.0.parent ≡ device = rw same parent in
    no_way_up tree channel link e child parent up relay links
    (rw back at p.2.2)

-- whether a device is an end system
end_of : (network : Network) (device : DeviceId) {d : Device} → device_at network device ≡ Some d → is_end network
    device ≡ is_end_system d.role
end_of network device e = rw e

no_loop : (network : Network) → KeepsRules network → (link : LinkId) (l : Link) → link_at network link ≡ Some l → is_end network l.child ≡ false
    → l.child ≡ l.parent → ⊥
no_loop network rules link l e switch loop =
    let joint = rules Joints link.0 l e in
    let channel = joint.0 in
    let tree = rules_give_trees network (shape_rules network rules) in
    elim joint.2 [
      | inl end ↦
          let d = at_some (λ x. is_end_system x.role ≡ true) (device_at network l.child) end in
          let bad = sym (end_of network l.child d.1 ∙ d.2) ∙ switch in cc
      | inr relay ↦
          let d = at_some (λ x. (x.role ≡ Relay) × (x.channel ≡ Some channel)) (device_at network l.child) relay in
          let reach = tree.reach channel l.child (closed _ _ d.0 d.1 (inr d.2.1)) in
          no_way_up tree channel link e refl (sym loop) (closed _ _ l e (refl, joint.1)) relay reach.0 reach.2
    ]

-- ---- what a record puts on a link

-- by the record a control frame leaves, or octets of an event go up that are one
pub data Puts (s : Scenario) (h : Happening) (link : LinkId) (way : Way) (frame : Pcf) : Type 0 where
  leaving : (device : DeviceId) (cause clock : ℕ) → h.note.body ≡ kinds.Left device link cause clock → h.frame ≡ Some frame
      → way ≡ way_from s.network device link → Puts s h link way frame
  sending : (line : ℕ) (octets : List ℕ) → h.note.body ≡ kinds.Event line (events.Send link octets) → signal_of octets ≡ control (Ok frame) → way ≡ Up
      → Puts s h link way frame

left_of : (o : Option Pcf) (own link : LinkId) (from way : Way) (frame : Pcf)
    → option_map (λ f. (let x : Launch = record { link = own; way = from; signal = control (Ok f) } in x)) o
    ≡ Some (record { link = link; way = way; signal = control (Ok frame) }) → (o ≡ Some frame) × (own ≡ link) × (from ≡ way)
left_of None own link from way frame e = absurd cc
left_of (Some f) own link from way frame e = grind (arith, control, option_map_or)

sent_of : (b : Bool) (own link : LinkId) (way : Way) (signal : Signal) (frame : Pcf)
    → (if b then None else Some (let x : Launch = record { link = own; way = Up; signal = signal } in x))
    ≡ Some (record { link = link; way = way; signal = control (Ok frame) }) → (own ≡ link) × (Up ≡ way) × (signal ≡ control (Ok frame))
sent_of true own link way signal frame e = absurd cc
sent_of false own link way signal frame e = grind (arith, option_map_or, control)

puts_by : (s : Scenario) (h : Happening) (t : ℕ) (body : NoteBody) (link : LinkId) (way : Way) (frame : Pcf) → h.note.body ≡ body
    → launched s h t body ≡ Some (record { link = link; way = way; signal = control (Ok frame) }) → Puts s h link way frame
puts_by s h t (kinds.Left device own cause clock) link way frame is e =
    let it = left_of h.frame own link (way_from s.network device own) way frame e in
    Puts.leaving device cause clock (is ∙ (rw it.1)) it.0
    (sym it.2 ∙ ap (way_from s.network device) it.1)
puts_by s h t (kinds.TtSent device own cause vl cycle) link way frame is e =
    let signals : timed h.octets ≡ control (Ok frame) = ap (λ o. option_map_or (λ x. x.signal) o (control (Ok frame)))
    e in
    absurd cc
puts_by s h t (kinds.Event line (events.Send own octets)) link way frame is e =
    let it = sent_of (is_cut s own Up t) own link way (signal_of octets) frame e in
    Puts.sending line octets (is ∙ (rw it.0)) it.2 (sym it.1)
puts_by s h t other link way frame is e = absurd cc

-- the record's frame is the one that it puts on the link
pub decoded_of : (b : Bool) (r : Result Pcf PcfRefusal) (octets : List ℕ) (frame : Pcf) → (if b then control r else timed octets) ≡ control (Ok frame)
    → frame_in r ≡ Some frame
decoded_of true r octets frame e = let a : r ≡ Ok frame = cc in ap frame_in a
decoded_of false r octets frame e = absurd cc

frame_put : {s : Scenario} {front : List Happening} {h : Happening} {link : LinkId} {way : Way} {frame : Pcf}
    → IsDue s front h → Puts s h link way frame → h.frame ≡ Some frame
frame_put due (Puts.leaving device cause clock is of_frame by) = of_frame
frame_put {s} {front} {frame} due (Puts.sending line octets is signal by) =
    rw due.same (ap (frame_by s.network front) is ∙ decoded_of _ _ octets frame signal)

-- ---- what a switch takes

-- a control frame that is taken, by its rank, is of its link's end system, where it comes from one
fault_of : (network : Network) (device : DeviceId) (link : LinkId) (cause : ℕ) (p : Standpoint) (frame : Pcf) (fault : Option Reason)
    → rank (arrival_body device link cause (frame_or_fault network device link p frame fault)) ≡ 2 → fault ≡ None
fault_of network device link cause p frame (Some reason) e = absurd (omega arith)
fault_of network device link cause p frame None e = refl

pub record IsTakenSo (s : Scenario) (device : DeviceId) (link : LinkId) (signal : Signal) : Type 0 where
  pub frame : Pcf
  pub is : signal ≡ control (Ok frame)
  pub own : is_of_other_member s.network device link frame.members ≡ false

module _ (s : Scenario) (js : List Happening) (device : DeviceId) (t : ℕ) (link : LinkId) (cause : ℕ) where
  taken_so : (signal : Signal) → rank (arrival_body device link cause (arrival_of s js device t link cause signal))
      ≡ 2 → IsTakenSo s device link signal
  taken_so (control (Err refusal)) e = absurd (omega arith)
  taken_so (control (Ok frame)) e = grind (arith, standpoint, nat_lt, amount, fault_of, frame_fault, no_reason, not)
  taken_so (timed octets) e =
      absurd (low (is_end s.network device)
      (rw e at (rank_is s device t link cause (timed octets) js)))
    where
      low : (b : Bool) → (if b then 12 else 11) ≤ 2 → ⊥
      low true le = omega arith
      low false le = omega arith

  arrived_so : {is : Arrival} → rank (arrival_body device link cause is) ≡ 2
      → (a : ArrivesAs s js device t link cause is) → IsTakenSo s device link a.signal
  arrived_so two a =
      taken_so a.signal (rw (sym a.becomes) two)

-- an arrival that is recorded is of a control frame that is taken
pub record IsArrivalOf (s : Scenario) (js : List Happening) (device : DeviceId) (t : ℕ) (link : LinkId) (cause : ℕ) : Type 0 where
  pub putting : Happening
  pub there : numbered js cause ≡ Some putting
  pub frame : Pcf
  pub arrives : Arrives s putting device link t (control (Ok frame))
  pub own : is_of_other_member s.network device link frame.members ≡ false

module _ {s : Scenario} {js : List Happening} {device : DeviceId} {t : ℕ} {link : LinkId} {cause : ℕ} where
  arrival_is : {is : Arrival} → rank (arrival_body device link cause is) ≡ 2 → ArrivesAs s js device t link cause is
      → IsArrivalOf s js device t link cause
  arrival_is two a =
      let it = arrived_so s js device t link cause two a in
      record {
        putting = a.putting;
        there = a.there;
        frame = it.frame;
        arrives = rw it.is at a.arrives;
        own = it.own;
      }

  arrival_by : {clock : ℕ} → IsArrivedRecord s js device t link cause clock → IsArrivalOf s js device t link cause
  arrival_by a = elim a.taken [
    | inl x ↦ arrival_is refl x
    | inr (inl x) ↦ arrival_is refl x
    | inr (inr x) ↦ arrival_is refl x
  ]

-- ---- of one master

others_not : (o : Option ℕ) (members : Members) → are_others o members ≡ false → IsSomeAnd o (λ member. members.0 ≡ 2 ^ member)
others_not None members e = absurd cc
others_not (Some member) members e = grind (arith, eqb-true, not)

and_last : (a b c : Bool) → a ≡ true → b ≡ true → (a && b && c) ≡ false → c ≡ false
and_last true true c x y e = e
and_last true false c x y e = absurd cc
and_last false b c x y e = absurd cc

-- the end system at the link's lower end is that master
own_master : (network : Network) {device : DeviceId} (link : LinkId) {l : Link} (members : Members) → link_at network
    link ≡ Some l → l.parent ≡ device
    → is_end network l.child ≡ true → is_of_other_member network device link members ≡ false
    → IsSomeAnd (member_of network l.child) (λ member. members.0 ≡ 2 ^ member)
own_master network link members e parent end own = grind (arith, is_end, option_map_or, others_not, and_last, eq-eqb)

-- ---- going up from a switch

-- each `send` of the scenario is of a link that leads up from an end system
pub record SendsAreOfEnds (s : Scenario) : Type 0 where
  pub ends : (i : ℕ) (e : Event) (link : LinkId) (octets : List ℕ) → slice_get s.events i ≡ Some e → e.what ≡ events.Send link octets
      → IsSomeAnd (link_at s.network link) (λ l. is_end s.network l.child ≡ true)

-- what goes up from a switch is of one master, as far as records up to this number put it on the way
abbrev IsUpTo : Scenario → List Happening → ℕ → Type 0
IsUpTo s hs n =
    (cause : ℕ) (putting : Happening) (device : DeviceId) (link : LinkId) (t : ℕ) (frame : Pcf) → cause ≤ n → numbered hs cause ≡ Some putting
    → Arrives s putting device link t (control (Ok frame)) → IsFromSwitch s.network device link → IsOneMaster s.network frame.members

-- the frame that a device takes by a link from below is of one master
from_below : {s : Scenario} {hs : List Happening} (n : ℕ) → IsUpTo s hs n
    → {device : DeviceId} {t : ℕ} {link : LinkId} {cause : ℕ} → cause ≤ n
    → (a : IsArrivalOf s hs device t link cause) → IsParentOf s.network device link
    → IsOfMaster s.network device link a.frame.members
from_below {s} n up {device} {t} {link} {cause} le a parent =
    let l = at_some (λ x. x.parent ≡ device) (link_at s.network link) parent in
    let own : (child : DeviceId) → IsChildOf s.network child link → is_end s.network child ≡ true
    → IsSomeAnd (member_of s.network child) (λ member. a.frame.members.0 ≡ 2 ^ member) = λ child of end.
    let is = of_link s.network link l.0 (λ x. x.child ≡ child) l.1 of in
    rw is at (own_master s.network link a.frame.members l.1 l.2 (ap (is_end s.network) is ∙ end) a.own) in
    record {
      one = elim (cases_Bool (is_end s.network l.0.child)) [
        | inl end ↦ (l.0.child, own_master s.network link a.frame.members l.1 l.2 end a.own)
        | inr switch ↦ up cause a.putting device link t a.frame le a.there a.arrives
            (record {
              parent = parent;
              from_switch = closed (λ x. is_end s.network x.child ≡ false)
                  (link_at s.network link) l.0 l.1 switch;
            })
      ];
      own = own;
    }

parent_is : (network : Network) (device : DeviceId) (link : LinkId) (l : Link) → link_at network link ≡ Some l → l.parent ≡ device
    → is_parent_of network device link ≡ true
parent_is network device link l e parent =
    rw e
    (eq-eqb l.parent.0 device.0 (rw parent))

-- what comes to the link's upper end comes up
upward : (network : Network) → KeepsRules network → (sender : DeviceId) {device : DeviceId} (link : LinkId) {l : Link}
    → link_at network link ≡ Some l
    → is_end network l.child ≡ false → l.parent ≡ device → {way : Way} → way ≡ way_from network sender link
    → receiver_of network link way ≡ Some device
    → is_parent_of network sender link ≡ false
upward network rules sender link e switch parent is receives =
    grind (arith, cases_Bool, is_parent_of, option_map, target_by, no_loop)

-- what a switch gives to its link up, it took from below
given_up : (s : Scenario) (hs : List Happening) (n : ℕ) → IsFounded place_of (IsDue s) hs → IsUpTo s hs n → (giving : Happening) → IsIn giving hs
    → giving.note.number ≤ n + 1 → (device : DeviceId) (link : LinkId) {l : Link} → link_at s.network link ≡ Some l
    → is_end s.network l.child ≡ false
    → is_parent_of s.network device link ≡ false → {frame : Pcf} → giving.frame ≡ Some frame → (body : NoteBody)
    → giving.note.body ≡ body
    → Gives s.network body device link → IsOneMaster s.network frame.members
given_up s hs n founded up giving i le device link {l} e switch above of_frame (kinds.Sent master cycle) is g =
    let at = founded_at s hs giving founded i in
    let sends = subst (IsCaused s at.front giving.note.time) is at.due.cause in
    let child = of_link s.network link l (λ x. x.child ≡ device) e g.1 in
    let end : is_end s.network device ≡ true = ap (is_end s.network) g.0 ∙ master_end s.network master sends.master in
    absurd cc
given_up s hs n founded up giving i le device link e switch above of_frame
    (kinds.Compressed cm opened at cycle members verdict) is g =
    grind (arith, of_link, parent_is)
given_up s hs n founded up giving i le device link {l} e switch above {frame} of_frame
    (kinds.Arrived relay by cause clock) is g =
    elim g.1.on [
      | inr down ↦
          let parent = of_link s.network link l (λ x. x.parent ≡ device) e down.1 in
          absurd (let bad = sym (parent_is s.network device link l e parent) ∙ above in cc)
      | inl passed ↦
          let at = founded_at s hs giving founded i in
          let arrived : IsArrivedRecord s at.front relay (time_of giving) by cause clock = subst (IsCaused s at.front giving.note.time) is at.due.cause in
          let a = arrival_by arrived in
          let lt = numbered_within at.front cause a.putting a.there in
          let number = at.due.number in
          let there : numbered hs cause ≡ Some a.putting = ap (λ x. numbered x cause) at.whole
          ∙ numbered_front at.front (giving ∷ at.rest) cause a.putting a.there in
          let a_hs : IsArrivalOf s hs relay (time_of giving) by cause =
          record { putting = a.putting; there = there; frame = a.frame; arrives = a.arrives; own = a.own } in
          let parent : IsParentOf s.network relay by = rw g.0 at passed.0 in
          let put_at = founded_at s at.front a.putting at.founded (numbered_in at.front cause a.putting a.there) in
          let put_frame = frame_put put_at.due
          (puts_by s a.putting (time_of a.putting) a.putting.note.body by a.arrives.way a.frame refl a.arrives.put) in
          let shown : giving.frame ≡ Some (with_clock clock a.frame) =
          ap (λ x. x.frame) at.due.same ∙ ap (frame_by s.network at.front) is
          ∙ (rw a.there
          (ap (option_map (with_clock clock)) put_frame)) in
          let same = sym shown ∙ of_frame in
          let members : a.frame.members ≡ frame.members = ap (λ o. option_map_or (λ f. f.members) o frame.members)
          same in
          subst (IsOneMaster s.network) members ((from_below n up (omega arith) a_hs parent).one)
    ]
given_up s hs n founded up giving i le device link e switch above of_frame other is g = absurd g

goes_up : {s : Scenario} (hs : List Happening) → KeepsRules s.network → SendsAreOfEnds s
    → IsFounded place_of (IsDue s) hs → (n : ℕ) → IsUpTo s hs n → IsUpTo s hs (suc n)
goes_up {s} hs rules sends founded n up cause putting device link t frame le there arrives from =
    let l = at_some (λ x. is_end s.network x.child ≡ false) (link_at s.network link) from.from_switch in
    let parent = of_link s.network link l.0 (λ x. x.parent ≡ device) l.1 from.parent in
    let i = numbered_in hs cause putting there in
    let at = founded_at s hs putting founded i in
    elim (puts_by s putting (time_of putting) putting.note.body link arrives.way frame refl arrives.put) [
      | Puts.sending line octets is signal way ↦
          let event = subst (IsCaused s at.front putting.note.time) is at.due.cause in
          let end = of_link s.network link l.0 (λ x. is_end s.network x.child ≡ true) l.1
          (sends.ends event.before event.event link octets event.is (sym event.same)) in
          absurd (let bad = sym end ∙ l.2 in cc)
      | Puts.leaving sender from_cause clock is of_frame way ↦
          let departs = subst (IsCaused s at.front putting.note.time) is at.due.cause in
          let lt = numbered_within at.front from_cause departs.giving departs.there in
          let number = at.due.number in
          let number_so = number_is s hs cause putting founded there in
          let giving_at = numbered_in at.front from_cause departs.giving departs.there in
          let giving_in : IsIn departs.giving hs =
          rw (sym at.whole) at (in_left departs.giving at.front (putting ∷ at.rest) giving_at) in
          let giving_number = number_is s at.front from_cause departs.giving at.founded departs.there in
          let shown : putting.frame ≡ Some (with_clock clock departs.frame) =
          grind (arith, at.due.same, at.front, option_map, option_and_then, departs.there, departs.of_frame) in
          let same = sym shown ∙ of_frame in
          let members : departs.frame.members ≡ frame.members =
          ap (λ o. option_map_or (λ f. f.members) o frame.members) same in
          let above = upward s.network rules sender link l.1 l.2 parent way arrives.receiver
          in
          subst (IsOneMaster s.network) members
          (given_up s hs n founded up departs.giving giving_in (omega arith) sender link l.1 l.2 above departs.of_frame
          departs.giving.note.body refl departs.gives)
    ]

none_up : (s : Scenario) (hs : List Happening) → IsUpTo s hs 0
none_up s hs zero putting device link t frame le there arrives from = absurd cc
none_up s hs (suc cause) putting device link t frame le there arrives from = absurd (omega arith)

module _ {s : Scenario} (hs : List Happening) (rules : KeepsRules s.network) (sends : SendsAreOfEnds s)
    (founded : IsFounded place_of (IsDue s) hs) where
  all_up : (n : ℕ) → IsUpTo s hs n
  all_up zero = none_up s hs
  all_up (suc n) = goes_up hs rules sends founded n (all_up n)

  -- what arrives at a device by a link that leads up from a switch is of one master
  pub one_master : (cause : ℕ) {putting : Happening} {device : DeviceId} {link : LinkId} {t : ℕ} (frame : Pcf)
      → numbered hs cause ≡ Some putting → Arrives s putting device link t (control (Ok frame))
      → IsFromSwitch s.network device link → IsOneMaster s.network frame.members
  one_master cause {putting} {device} {link} {t} frame there arrives from =
      all_up cause cause putting device link t frame (omega arith) there arrives from

-- ---- what is on a wire may arrive

at_link : (network : Network) (way : Way) (link : LinkId) (device : DeviceId) (l : Link) → link_at network link ≡ Some l → target_by way l ≡ device
    → IsLinkAt network device link
at_link network Up link device l e same = inr (closed (λ x. x.parent ≡ device) (link_at network link) l e same)
at_link network Down link device l e same = inl (closed (λ x. x.child ≡ device) (link_at network link) l e same)

received_at : (network : Network) (way : Way) (link : LinkId) {device : DeviceId} (o : Option Link) → link_at network
    link ≡ o
    → option_map (target_by way) o ≡ Some device → IsLinkAt network device link
received_at network way link None e receives = absurd cc
received_at network way link {device} (Some l) e receives = at_link network way link device l e (cc)

-- octets of a length that frames have, which are what is on a wire, may arrive
pub may_arrive : (s : Scenario) (hs : List Happening) (e : OnWire) (octets : List ℕ) → KeepsRules s.network → SendsAreOfEnds s
    → IsFounded place_of (IsDue s) hs → IsOnWire s hs e → signal_of octets ≡ e.signal → 60 ≤ length octets → length octets ≤ 1514
    → MayArrive s.network e.device e.link octets
may_arrive s hs e octets rules sends founded it signal least most = record {
  at = received_at s.network it.arrives.way e.link (link_at s.network e.link) refl it.arrives.receiver;
  least = least;
  most = most;
  one_master = λ from frame is.
      one_master hs rules sends founded e.cause frame it.there
      (rw (sym signal ∙ is) at it.arrives) from;
}
