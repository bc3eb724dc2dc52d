-- A frame that comes up from below is that of one master, and one that waits is one that the network has.
use Rattle.std.{proofs.{Common.{Err, IsSomeAnd, arith}, lemmas.Bool.not-false}, specs.Prelude.is_some}
use Rattle.net_plan.{proofs.Trees.{no_path, rules_give_trees}}
use Rattle.net_plan.{specs.{Places.{IsSwitchOf, is_end_system, is_master}, Ranges.IsDeviceInRange}}
use Rattle.pcf_codec.specs.Decoding.{decoded}
use Rattle.run_law.{proofs.law.FirstDeliveries.{front_founded, numbered_in}}
use Rattle.run_law.specs.{device.Standpoints.first_reason, machines.Calls.{IsLinkAt, IsOfMaster, IsOneMaster}}
use Rattle.run_law.specs.{scenario.{Devices.{IsParentOf, has_role, is_parent_of, member_of}, Ways.receiver_of}}
use Rattle.run_law.specs.control.Arrivals
use Arrivals.{are_others, clock_on_arrival, frame_fault, frame_or_fault, frame_taken, is_cold_start, is_of_other_member}
use Rattle.schedule_tables.{proofs.Margins.shape_rules, specs.declared.rule.Rule.TheVariants.Joints}
use Rattle.tte_units.{proofs.general_lemmas.{Lists.in_all, Options.{at_known, closed, opened}}}
use Rattle.tte_units.{specs.declared.frames.{members.Members.Members, pcf.PcfKind.{PcfKind, TheVariants.Integration}}}
use Rattle.world_law.{specs.world.World.IsFromEnd}
use Rattle.world_law.proofs.{giving.GivenParts.some_same}
use Rattle.world_law.proofs.Words
use Words.{if◌then◌else◌, ◌&&◌, ◌++◌, ◌==◌, ◌^◌, ◌∙◌, ◌∷◌, ◌≡◌, ◌≤◌, ◌⊎◌, Arrival, Arrives, ArrivesAs, Bool, Device}
use Words.{DeviceId, Down, Event, Gives, Happening, IsArrivedRecord, IsCaused, IsDue, IsFounded, IsIn, IsInRange}
use Words.{KeepsRules, Launch, Link, LinkId, List, Network, None, NoteBody, Ok, Option, Pcf, Reason, Scenario, Send}
use Words.{Signal, Some, Standpoint, Units, Up, Way, [], amount, ap, arrival_of, both_ways, cases_Bool, control}
use Words.{device_at, eq-eqb, eqb-true, false, founded_at, frame_by, inl, inr, is_cut, is_end, launched, length}
use Words.{length-append, link_at, not, numbered, option_map, option_map_or, place_of, refl, signal_of, slice_get}
use Words.{standpoint, subst, suc, sym, target_by, time_of, timed, timed_arrival, true, way_from, with_clock, zero, ℕ}
use Rattle.run_law.specs.declared.note.NoteBody.TheVariants as kinds
use Rattle.run_law.specs.declared.steps.Arrival.TheVariants as arrivals

-- ---- a frame that waits is one that the network has: its `arrived` record was due: what waits or is passed on

-- the frame of an arrival that waits or is passed on
abbrev frame_of : Arrival → Option Pcf
frame_of (arrivals.Waits frame point) = Some frame
frame_of (arrivals.Passes frame way) = Some frame
frame_of (arrivals.PassesAndWaits frame way point) = Some frame
frame_of other = None

frame_of_taken : (network : Network) (device : DeviceId) (link : LinkId) (frame : Pcf) (point : Units)
    → frame_of (frame_taken network device link frame point) ≡ Some frame
frame_of_taken network device link frame point = grind arith

-- no fault was found in the frame that came, and it is taken so
pub record IsTakenAs (network : Network) (device : DeviceId) (link : LinkId) (at : Standpoint) (came frame : Pcf) : Type 0 where
  pub none : frame_fault network device link at came ≡ None
  pub is : frame ≡ with_clock (clock_on_arrival network link came) came

module _ (network : Network) (device : DeviceId) (link : LinkId) (at : Standpoint) where
  taken_by_fault : (came : Pcf) {frame : Pcf} (fault : Option Reason) {is : Arrival} → frame_of is ≡ Some frame
      → is ≡ frame_or_fault network device link at came fault
      → (fault ≡ None) × (frame ≡ with_clock (clock_on_arrival network link came) came)
  taken_by_fault came (Some reason) of e =
      absurd (cc)
  taken_by_fault came None of e = grind (arith, with_clock, frame_of_taken)

  not_timed : (octets : List ℕ) (last : _) → frame_of (timed_arrival network device link at octets last) ≡ None
  not_timed octets last = grind (arith, length)

-- what came was a control frame without a fault
pub record CameSo (s : Scenario) (hs : List Happening) (device : DeviceId) (t : ℕ) (link : LinkId) (cause : ℕ) (frame : Pcf) : Type 0 where
  pub putting : Happening
  pub there : numbered hs cause ≡ Some putting
  pub came : Pcf
  pub arrives : Arrives s putting device link t (control (Ok came))
  pub taken : IsTakenAs s.network device link (standpoint s hs device t) came frame

module _ (s : Scenario) (hs : List Happening) (device : DeviceId) (t : ℕ) (link : LinkId) (cause : ℕ) where
  came_so : {is : Arrival} (frame : Pcf) → frame_of is ≡ Some frame → ArrivesAs s hs device t link cause is
      → CameSo s hs device t link cause frame
  came_so {is} frame of a = by_signal a.signal a.arrives a.becomes
    where
      by_signal : (signal : Signal) → Arrives s a.putting device link t signal → is ≡ arrival_of s hs device t link
          cause signal
          → CameSo s hs device t link cause frame
      by_signal (timed octets) arrives e =
          absurd (let bad = sym (not_timed s.network device link (standpoint s hs device t)
          octets _) ∙ sym (ap frame_of e) ∙ of in cc)
      by_signal (control (Err refusal)) arrives e =
          absurd (cc)
      by_signal (control (Ok came)) arrives e =
          let it = taken_by_fault s.network device link (standpoint s hs device t) came _ of e in
          record { putting = a.putting; there = a.there; came = came; arrives = arrives; taken = record { none = it.0; is = it.1 } }

  pub arrived_so : (clock : ℕ) (a : IsArrivedRecord s hs device t link cause clock)
      → CameSo s hs device t link cause a.frame
  arrived_so clock a =
      elim a.taken [
        | inl waits ↦ came_so a.frame refl waits
        | inr (inl passes) ↦ came_so a.frame refl passes
        | inr (inr both) ↦ came_so a.frame refl both
      ]

-- ---- its frame is that of the record that put it on the wire

pub launch_signal : (a b : Launch) → Some a ≡ Some b → a.signal ≡ b.signal
launch_signal a b e = let same : a ≡ b = cc in rw same

by_octets : (b : Bool) (octets : List ℕ) (came : Pcf) → (if b then control (decoded octets) else timed octets) ≡ control (Ok came) → decoded octets ≡ Ok came
by_octets true octets came e = cc
by_octets false octets came e = absurd cc

pub not_control : (octets : List ℕ) (came : Pcf) → timed octets ≡ control (Ok came) → ⊥
not_control octets came e = cc

pub launched_frame : (s : Scenario) (front : List Happening) (h : Happening) (t : ℕ) (link : LinkId) (way : Way) (came : Pcf) (body : NoteBody)
    → h.frame ≡ frame_by s.network front body → launched s h t body ≡ Some (record { link = link; way = way; signal = control (Ok came) }) → h.frame ≡ Some came
launched_frame s front h t link way came (kinds.Left device by cause clock) of e = grind (arith, option_map, way_from, control, launch_signal)
launched_frame s front h t link way came (kinds.TtSent device by cause vl cycle) of e = absurd (not_control h.octets came (launch_signal _ _ e))
launched_frame s front h t link way came (kinds.Event line (Send by octets)) of e = grind (arith, is_cut, signal_of, control, by_octets, launch_signal)
launched_frame s front h t link way came other of e = absurd cc

-- ---- an arrival of a run

-- the arrival, with what came and where it came from
pub record HasCome (s : Scenario) (hs : List Happening) (arrival : Happening) (device : DeviceId) (link : LinkId) (cause clock : ℕ) (frame : Pcf) : Type 0 where
  pub front : List Happening
  pub rest : List Happening
  pub whole : hs ≡ front ++ arrival ∷ rest
  pub so : CameSo s front device (time_of arrival) link cause frame
  pub of_frame : so.putting.frame ≡ Some so.came
  pub shows : clock ≡ frame.clock

pub has_come : (s : Scenario) (hs : List Happening) (arrival : Happening) (device : DeviceId) (link : LinkId)
    (cause clock : ℕ) {frame : Pcf}
    → IsFounded place_of (IsDue s) hs → IsIn arrival hs → arrival.note.body ≡ kinds.Arrived device link cause clock → arrival.frame ≡ Some frame
    → HasCome s hs arrival device link cause clock frame
has_come s hs arrival device link cause clock {frame} founded i body of =
    let at = founded_at s hs arrival founded i in
    let due = at.due in
    let a : IsArrivedRecord s at.front device (time_of arrival) link cause clock = subst (λ b. IsCaused s at.front arrival.note.time b) body
    due.cause in
    let so = arrived_so s at.front device (time_of arrival) link cause clock a in
    let before = Rattle.run_law.proofs.law.FirstDeliveries.front_founded place_of (IsDue s) at.front (arrival ∷ at.rest)
    (rw at.whole at founded) in
    let put = founded_at s at.front so.putting before (numbered_in at.front cause so.putting so.there) in
    let put_frame =
    launched_frame s put.front so.putting (time_of so.putting) link so.arrives.way so.came so.putting.note.body
    (ap (λ h. h.frame) put.due.same)
    so.arrives.put in
    let own : arrival.frame ≡ Some (with_clock clock so.came) = ap (λ h. h.frame) due.same
    ∙ ap (frame_by s.network at.front) body
    ∙ (rw so.there
    (ap (option_map (with_clock clock)) put_frame)) in
    let frame_is = Rattle.world_law.proofs.giving.GivenParts.some_same frame (with_clock clock so.came) arrival.frame of
    own in
    let taken_clock = a.shows ∙ ap (λ f. f.clock) so.taken.is in
    let same = so.taken.is ∙ (rw (sym taken_clock) (sym frame_is)) in
    record {
      front = at.front;
      rest = at.rest;
      whole = at.whole;
      so = record {
        putting = so.putting;
        there = so.there;
        came = so.came;
        arrives = so.arrives;
        taken = record { none = so.taken.none; is = sym same ∙ so.taken.is };
      };
      of_frame = put_frame;
      shows = a.shows ∙ (rw same);
    }

-- ---- without a fault

pub no_reason : (b : Bool) (reason : Reason) (rest : List (Bool × Reason)) → first_reason ((b, reason) ∷ rest) ≡ None → (b ≡ false) × (first_reason rest ≡ None)
no_reason true reason rest e = absurd cc
no_reason false reason rest e = (refl, e)

kind_of : (kind : PcfKind) → is_cold_start kind ≡ false → kind ≡ Integration
kind_of Integration e = refl
kind_of other e = absurd cc

both_true : (b c : Bool) → not (b && c) ≡ false → (b ≡ true) × (c ≡ true)
both_true true true e = (refl, refl)
both_true true false e = absurd cc
both_true false c e = absurd cc

-- a frame that was taken
pub record IsSound (network : Network) (device : DeviceId) (link : LinkId) (at : Standpoint) (came frame : Pcf) : Type 0 where
  pub takes_part : at.takes_part ≡ true
  pub kind : frame.kind ≡ Integration
  pub priority : frame.priority ≡ network.priority
  pub domain : frame.domain ≡ network.domain
  pub clock : frame.clock ≤ amount network.dmax
  pub member : is_of_other_member network device link frame.members ≡ false
  pub members : frame.members ≡ came.members

pub is_sound : {network : Network} {device : DeviceId} {link : LinkId} {at : Standpoint} {came frame : Pcf} → IsTakenAs
    network device link at came frame
    → IsSound network device link at came frame
is_sound {network} {device} {link} {at} {came} taken =
    search (arith, no_reason, both_true, not-false, kind_of)

-- ---- the link is at the device

-- of a link at this way the device is an end
pub record IsReceiver (network : Network) (device : DeviceId) (link : LinkId) (way : Way) : Type 0 where
  pub joint : Link
  pub there : link_at network link ≡ Some joint
  pub is : target_by way joint ≡ device

module _ (network : Network) (device : DeviceId) (link : LinkId) where
  pub received : (way : Way) → receiver_of network link way ≡ Some device → IsReceiver network device link way
  received way e = grind (arith, link_at, option_map, target_by)

  pub link_of : (way : Way) → IsReceiver network device link way → IsLinkAt network device link
  link_of Up r = inr (rw r.there r.is)
  link_of Down r = inl (rw r.there r.is)

-- ---- a frame that comes up from below is that of one master, where octets are sent by end systems alone

-- octets are sent by end systems alone
abbrev pub AreSentByEnds : Scenario → Type 0
AreSentByEnds s = (i : ℕ) (e : Event) (link : LinkId) (octets : List ℕ) → slice_get s.events i ≡ Some e → e.what ≡ Send link octets → IsFromEnd s.network link

-- ---- the two ends of a link

-- the ends of a link are two devices
pub ends_differ : (network : Network) (link : LinkId) {l : Link} → KeepsRules network → link_at network link ≡ Some l
    → l.child ≡ l.parent → ⊥
ends_differ network link {l} keeps at same =
    let joint = keeps Joints link.0 l at in
    let tree = rules_give_trees network (shape_rules network keeps) in
    let up = closed (λ x. (x.child ≡ l.parent) × IsSwitchOf network joint.0 x.parent) (link_at network link) l
    at (same, joint.1) in
    let switch = opened (λ d. d.channel ≡ Some joint.0) (device_at network l.parent) joint.1 in
    let member = closed (λ d. (is_end_system d.role ≡ true) ⊎ (d.channel ≡ Some joint.0))
    (device_at network l.parent) switch.0 switch.1 (inr switch.2) in
    let path = tree.reach joint.0 l.parent member in
    no_path joint.0 l.parent link l tree at refl up path.0 path.2

-- ---- masters

master_member : {network : Network} (device : DeviceId) → IsInRange network
    → has_role network is_master device ≡ true → (m : ℕ) × (member_of network device ≡ Some m)
master_member {network} device range role = by (device_at network device) refl role
  where
    some_of : (o : Option ℕ) → is_some o ≡ true → (m : ℕ) × (o ≡ Some m)
    some_of None e = absurd cc
    some_of (Some m) e = (m, refl)

    by : (o : Option Device) → device_at network device ≡ o → option_map_or (λ d. is_master d.role) o false ≡ true → (m : ℕ)
        × (member_of network device ≡ Some m)
    by None at e = absurd cc
    by (Some d) at e =
        let known = in_all IsDeviceInRange network.device device.0 d range.devices at in
        let m = some_of d.member (known.masters ∙ e) in
        (m.0, rw at m.1)

one_of : (network : Network) (device : DeviceId) {m : ℕ} (members : Members) → member_of network device ≡ Some m
    → members.0 ≡ 2 ^ m
    → IsOneMaster network members
one_of network device members at is = (device, rw at is)

not_others : (o : Option ℕ) (members : Members) → are_others o members ≡ false → (m : ℕ) × (o ≡ Some m) × (members.0 ≡ 2 ^ m)
not_others None members e = absurd cc
not_others (Some m) members e = grind (arith, not, eqb-true)

-- from an end system the frame's members are its bit
end_member : (network : Network) {device : DeviceId} (link : LinkId) (members : Members) {joint : Link} → link_at
    network link ≡ Some joint
    → joint.parent ≡ device → is_end network joint.child ≡ true → is_of_other_member network device link members ≡ false
    → (m : ℕ) × (member_of network joint.child ≡ Some m) × (members.0 ≡ 2 ^ m)
end_member network link members at parent end_is sound = grind (arith, is_end, option_map_or, eq-eqb, not_others)

-- ---- a frame that a switch sends up

launch_link : {a b : Launch} → Some a ≡ Some b → (a.link ≡ b.link) × (a.way ≡ b.way)
launch_link {a} {b} e = let same : a ≡ b = cc in (rw same, rw same)

-- what put a frame on a link, as it came: a device gave it, or octets were sent
data IsPutBy (s : Scenario) (h : Happening) (link : LinkId) (way : Way) : NoteBody → Type 0 where
  leaving : (device : DeviceId) (cause clock : ℕ) → way ≡ way_from s.network device link → IsPutBy s h link way (kinds.Left device link cause clock)
  sending : (line : ℕ) (octets : List ℕ) → way ≡ Up → IsPutBy s h link way (kinds.Event line (Send link octets))

put_by : (s : Scenario) (h : Happening) (t : ℕ) (link : LinkId) (way : Way) (came : Pcf) (body : NoteBody)
    → launched s h t body ≡ Some (record { link = link; way = way; signal = control (Ok came) }) → IsPutBy s h link way body
put_by s h t link way came (kinds.Left device by cause clock) e = by_frame h.frame e
  where
    by_frame : (o : Option Pcf)
        → option_map (λ f. let l : Launch = record {
          link = by;
          way = way_from s.network device by;
          signal =
              control (Ok f);
        } in l) o
        ≡ Some (record { link = link; way = way; signal = control (Ok came) }) → IsPutBy s h link way (kinds.Left device by cause clock)
    by_frame None e = absurd cc
    by_frame (Some f) e =
        let same = launch_link e in
        rw same.0 (IsPutBy.leaving device cause clock (sym same.1 ∙ ap (way_from s.network device) same.0))
put_by s h t link way came (kinds.TtSent device by cause vl cycle) e = absurd (not_control h.octets came (launch_signal _ _ e))
put_by s h t link way came (kinds.Event line (Send by octets)) e = by_cut (is_cut s by Up t) e
  where
    by_cut : (b : Bool) → (if b then None else Some (let l : Launch = record { link = by; way = Up; signal = signal_of octets } in l))
        ≡ Some (record { link = link; way = way; signal = control (Ok came) }) → IsPutBy s h link way (kinds.Event line (Send by octets))
    by_cut true e = absurd cc
    by_cut false e =
        let same = launch_link e in
        rw same.0 (IsPutBy.sending line octets (sym same.1))
put_by s h t link way came other e = absurd cc

up_only : (b : Bool) → Up ≡ (if b then Down else Up) → b ≡ false
up_only true e = absurd cc
up_only false e = refl

pub parent_true : (device : DeviceId) (o : Option Link) → IsSomeAnd o (λ l. l.parent ≡ device) → option_map_or (λ l. l.parent.0 == device.0) o false ≡ true
parent_true device None h = absurd h
parent_true device (Some l) h = eq-eqb l.parent.0 device.0 (rw h)

given_by : (s : Scenario) (g : Happening) (front : List Happening) (device : DeviceId) (link : LinkId) {frame : Pcf}
    (body : NoteBody) → IsInRange s.network
    → IsCaused s front g.note.time body → g.frame ≡ frame_by s.network front body → g.frame ≡ Some frame → Gives s.network body device link
    → is_parent_of s.network device link ≡ false → g.note.body ≡ body
    → ((by : DeviceId × LinkId) (of_cause of_clock : ℕ) (f : Pcf) → g.note.body ≡ kinds.Arrived by.0 by.1 of_cause of_clock → g.frame ≡ Some f
    → IsParentOf s.network by.0 by.1 → IsOneMaster s.network f.members) → IsOneMaster s.network frame.members
given_by s g front device link {frame} (kinds.Sent master cycle) range c made of gives below is rest =
    let m = master_member master range c.master in
    let dispatched = Rattle.run_law.specs.records.Frames.dispatched_frame s.network master cycle in
    one_of s.network master frame.members m.1
    (rw (some_same frame dispatched g.frame of made) (rw m.1))
given_by s g front device link (kinds.Compressed cm opened at cycle of_masters verdict) range c made of gives below is
    rest =
    absurd (both_ways (is_parent_of s.network device link) below (parent_true device (link_at s.network link) gives.1))
given_by s g front device link {frame} (kinds.Arrived relay by cause clock) range c made of gives below is rest =
    elim gives.1.on [
      | inl up ↦ rest (relay, by) cause clock frame is of (rw gives.0 at up.0)
      | inr down ↦ absurd (both_ways (is_parent_of s.network device link) below (parent_true device (link_at s.network link) down.1))
    ]
given_by s g front device link other range c made of gives below is rest = absurd gives

from_put : {s : Scenario} {link : LinkId} {way : Way} {came : Pcf} {body : NoteBody} {h : Happening}
    (front : List Happening) → IsInRange s.network → IsCaused s front h.note.time body
    → h.frame ≡ frame_by s.network front body → h.frame ≡ Some came → IsFounded place_of (IsDue s) front
    → IsPutBy s h link way body → way ≡ Up → ((line : ℕ) (octets : List ℕ)
    → body ≡ kinds.Event line (Send link octets) → ⊥) →
    ((g : Happening) (by : DeviceId × LinkId) (of_cause of_clock : ℕ) (f : Pcf) → IsIn g front
    → g.note.body ≡ kinds.Arrived by.0 by.1 of_cause of_clock → g.frame ≡ Some f → IsParentOf s.network by.0 by.1
    → IsOneMaster s.network f.members) → IsOneMaster s.network came.members
from_put {s} {link} {came} {h} front range c made of founded (IsPutBy.leaving device cause clock w) upward never rest =
    let g = c.giving in
    let inside = numbered_in front cause g c.there in
    let at = founded_at s front g founded inside in
    let below = up_only (is_parent_of s.network device link) (sym upward ∙ w) in
    let whole =
    made ∙ (rw c.there
    (ap (option_map (with_clock clock)) c.of_frame)) in
    let same = some_same came (with_clock clock c.frame) h.frame of whole in
    rw same (given_by s g at.front device link g.note.body range at.due.cause
    (ap (λ (x : Happening). x.frame) at.due.same) c.of_frame c.gives below refl
    (λ by of_cause of_clock f is of_f parent. rest g by of_cause of_clock f inside is of_f parent))
from_put front range c made of founded (IsPutBy.sending line octets w) upward never rest =
    absurd (never line octets refl)

-- of the records up to so many: what comes up is of one master
pub one_master : (n : ℕ) (s : Scenario) (hs : List Happening) (arrival : Happening) (device : DeviceId) (link : LinkId)
    (cause clock : ℕ) {frame : Pcf}
    → length hs ≤ n → IsInRange s.network → KeepsRules s.network → AreSentByEnds s → IsFounded place_of (IsDue s) hs → IsIn arrival hs
    → arrival.note.body ≡ kinds.Arrived device link cause clock → arrival.frame ≡ Some frame → IsParentOf s.network device link
    → IsOneMaster s.network frame.members
one_master zero s [] arrival device link cause clock le range keeps ends founded i body of parent = absurd i
one_master zero s (h ∷ hs) arrival device link cause clock le range keeps ends founded i body of parent =
    absurd (omega arith)
one_master (suc n) s hs arrival device link cause clock {frame} le range keeps ends founded i body of parent =
    let network = s.network in
    let c = has_come s hs arrival device link cause clock founded i body of in
    let sound = is_sound c.so.taken in
    let v = received network device link c.so.arrives.way c.so.arrives.receiver in
    let joint = v.joint in
    let is_parent : joint.parent ≡ device = at_known (λ (l : Link). l.parent ≡ device) (link_at network link) joint v.there parent in
    elim (cases_Bool (is_end network joint.child)) [
      | inl end_is ↦
          let m = end_member network link frame.members v.there is_parent end_is sound.member in
          one_of network joint.child frame.members m.1 m.2
      | inr switch ↦
          let upward : c.so.arrives.way ≡ Up = by_way joint device is_parent
          (λ same. ends_differ network link keeps v.there same) c.so.arrives.way v.is
          in
          let whole : hs ≡ c.front ++ arrival ∷ c.rest = c.whole in
          let before : IsFounded place_of (IsDue s) c.front = front_founded place_of (IsDue s) c.front (arrival ∷ c.rest)
          (rw whole at founded) in
          let long : length hs ≡ length (c.front ++ arrival ∷ c.rest) = ap length whole in
          let more = length-append c.front (arrival ∷ c.rest) in
          let tail : length (arrival ∷ c.rest) ≡ suc (length c.rest) = refl in
          let put = founded_at s c.front c.so.putting before (numbered_in c.front cause c.so.putting c.so.there) in
          let members : IsOneMaster network c.so.came.members → IsOneMaster network frame.members = λ one. subst (IsOneMaster network) (sym sound.members) one
          in
          members (from_put put.front range put.due.cause
          (ap (λ (h : Happening). h.frame) put.due.same) c.of_frame put.founded
          (put_by s c.so.putting (time_of c.so.putting) link c.so.arrives.way c.so.came c.so.putting.note.body c.so.arrives.put) upward
          (λ line octets it_is. both_ways (is_end network joint.child) switch
          (at_known (λ (l : Link). is_end network l.child ≡ true) (link_at network link) joint v.there
          (sent_end c.so.putting put.front put.due.cause line octets it_is)))
          (λ g by of_cause of_clock f g_in g_body g_frame at_parent.
          one_master n s put.front g by.0 by.1 of_cause of_clock
          (let l : length c.front ≡ length (put.front ++ c.so.putting ∷ put.rest) = ap length put.whole in
          let m = length-append put.front (c.so.putting ∷ put.rest) in
          let k : length (c.so.putting ∷ put.rest) ≡ suc (length put.rest) = refl in
          omega arith) range keeps ends put.founded g_in g_body g_frame at_parent))
    ]
  where
    by_way : (joint : Link) (device : DeviceId) → joint.parent ≡ device → (joint.child ≡ joint.parent → ⊥) → (way : Way) → target_by way joint ≡ device
        → way ≡ Up
    by_way joint device parent differ Up is = refl
    by_way joint device parent differ Down is = absurd (differ (is ∙ sym parent))

    sent_end : (h : Happening) (front : List Happening) → IsCaused s front h.note.time h.note.body → (line : ℕ) (octets : List ℕ)
        → h.note.body ≡ kinds.Event line (Send link octets) → IsFromEnd s.network link
    sent_end h front c line octets is =
        let e = rw is at c in
        ends e.before e.event link octets e.is (sym e.same)

-- so what waits is of one master, where it came from below; from an end system, of that
pub of_master : (s : Scenario) (hs : List Happening) (arrival : Happening) (device : DeviceId) (link : LinkId)
    (cause clock : ℕ) {frame : Pcf}
    → IsInRange s.network → KeepsRules s.network → AreSentByEnds s → IsFounded place_of (IsDue s) hs → IsIn arrival hs
    → arrival.note.body ≡ kinds.Arrived device link cause clock → arrival.frame ≡ Some frame → IsParentOf s.network device link
    → IsOfMaster s.network device link frame.members
of_master s hs arrival device link cause clock {frame} range keeps ends founded i body of parent =
    let network = s.network in
    let c = has_come s hs arrival device link cause clock founded i body of in
    let sound = is_sound c.so.taken in
    record {
      one = one_master (length hs) s hs arrival device link cause clock (omega arith) range keeps ends founded i body of
          parent;
      own = λ child is_child end_is.
          let joint = opened (λ l. l.parent ≡ device) (link_at network link) parent in
          let same = at_known (λ l. l.child ≡ child) (link_at network link) joint.0 joint.1 is_child in
          let m = end_member network link frame.members joint.1 joint.2 (rw same end_is)
          sound.member in
          rw (ap (member_of network) (sym same) ∙ m.1) m.2;
    }
