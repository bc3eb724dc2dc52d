-- Where frames come from, leg by leg: up from masters, and down from compression masters.
use Rattle.net_plan.specs.declared.ids.VlId.{VlId}
use Rattle.pcf_codec.specs.{Decoding.decoded, EtherType.pcf_type}
use Rattle.precision_law.proofs.{Plain.{any_is, device_of, higher_before}, faults.Masters.bad_is_master}
use Rattle.precision_law.proofs.{records.Points.within_run}
use Rattle.precision_law.proofs.{trips.Links.{TakesWith, clocked, frame_is, numbered_all, taken_as, taken_sound}}
use Rattle.precision_law.proofs.words.Laws
use Laws.{FramesDownAreOfCms, FramesUpAreOfMasters, IsBad, IsLeg, IsOfBad, IsOfCm, IsOfGood, IsTrip, IsView, Leg, View}
use Rattle.precision_law.proofs.words.Plans
use Plans.{Channel, Device, DeviceId, Down, Event, IsChildOf, IsDeviceInRange, IsPath, IsSwitchOf, IsTree, IsUplink}
use Plans.{Joints, Link, LinkId, Master, Members, Network, Pcf, Relay, Role, Units, Up, Way, all_at, amount, closed}
use Plans.{device_at, field, is_end_system, is_master, link_at, opened, rules_give_trees, shape_rules}
use Rattle.precision_law.proofs.words.Runs
use Runs.{AreWithinHypothesis, Arrival, ArrivesAs, Breaks, Gives, Happening, IsCaused, IsIn, IsParentOf, Judgement}
use Runs.{Launch, NotBroken, NoteBody, Order, Reason, Signal, Standpoint, are_others, arrival_of, breaks_at, cause_of}
use Runs.{channel_of, channel_of_link, control, cycle_in, events_up_to, founded_at, frame_in, has_role, in_at, in_left}
use Runs.{is_broken, is_cut, is_end, is_of_other_member, is_parent_of, is_relay, is_relay_role, last_taken, launched}
use Runs.{member_of, members_in, number_is, numbered, numbered_in, numbered_within, parted, rank, receiver_of}
use Runs.{same_some, signal_of, standpoint, time_of, timed, way_from, way_to, with_clock}
use Rattle.precision_law.proofs.words.Std
use Std.{if◌then◌else◌, ◌&&◌, ◌++◌, ◌+◌, ◌<◌, ◌==◌, ◌^◌, ◌∙◌, ◌∷◌, ◌≡◌, ◌≤ℤ◌, ◌≤◌, ◌⊎◌, Any, Bool, Err, List, None, Ok}
use Std.{Option, Some, [], ap, append_assoc, arith, both_ways, by_lt_z, eq-eqb, eqb-true, false, false_from_ne_true}
use Std.{inl, inr, ints, le-leb, length, nat_le, not-false, option_and_then, option_map_or, refl, subst, suc, sym, true}
use Std.{true_from_ne_false, unwrap_or, zero, ℕ}
use Rattle.run_law.{specs.{control.Leaving.Passes, records.Causes.GoesBackTo, timed.Arrivals.taken_or_fault}}
use Rattle.run_law.proofs.{law.FirstDeliveries.given, records.{Members.in_kept, Order.in_any}}
use Rattle.run_law.proofs.{scenario.Devices.{parent_shown, shown_parent}}
use Rattle.schedule_tables.{proofs.Margins.master_ends, specs.{Rules.KeepsRules, declared.entry.Entry.Entry}}
use Rattle.tte_units.proofs.general_lemmas.Options.{mapped, some_of}
use Rattle.net_plan.specs.declared.event.What.TheVariants as events
use Rattle.run_law.specs.declared.note.NoteBody.TheVariants as notes
use Rattle.run_law.specs.declared.steps.Arrival.TheVariants as arrivals

-- ---- a frame that arrives came over a link: who gives and who receives on its ways, and the leg before a record

-- ---- no link leads from a device to itself

-- a path never goes through a link that leads to its own device
no_loop_on : {n : Network} (channel : Channel) (device : DeviceId) (link : LinkId) (l : Link) → IsTree n
    → link_at n link ≡ Some l → IsUplink n channel device link → l.parent ≡ device → (links : List LinkId)
    → IsPath n channel device links → ⊥
no_loop_on channel device link l tree at up parent [] path = tree.root channel device link path up
no_loop_on {n} channel device link l tree at up parent (first ∷ links) path =
    let m = opened (λ k. (k.child ≡ device) × IsSwitchOf n channel k.parent × IsPath n channel k.parent links)
    (link_at n first) path in
    let one = tree.one_uplink channel device first link
    (closed (λ k. (k.child ≡ device) × IsSwitchOf n channel k.parent) (link_at n first) m.0 m.1 (m.2.0, m.2.1)) up in
    let same : m.0 ≡ l = same_some (link_at n link) m.0 l (rw (sym one) m.1) at in
    no_loop_on channel device link l tree at up parent links
    (rw (ap (λ (k : Link). k.parent) same ∙ parent) at m.2.2)

-- so no link's child is its parent
pub no_loop : (n : Network) → KeepsRules n → (link : LinkId) (l : Link) → link_at n link ≡ Some l → l.child ≡ l.parent → ⊥
no_loop n rules link l at same =
    let tree = rules_give_trees n (shape_rules n rules) in
    let joint = rules Joints link.0 l at in
    let p = opened (λ d. d.channel ≡ Some joint.0) (device_at n l.parent) joint.1 in
    let member = closed (λ d. (is_end_system d.role ≡ true) ⊎ (d.channel ≡ Some joint.0)) (device_at n l.parent) p.0 p.1
    (inr p.2) in
    let path = tree.reach joint.0 l.parent member in
    let up = closed (λ k. (k.child ≡ l.parent) × IsSwitchOf n joint.0 k.parent) (link_at n link) l at (same, joint.1) in
    no_loop_on joint.0 l.parent link l tree at up refl path.0 path.2

-- ---- parents and children

-- a child of a link is not its parent
pub child_not_parent : {v : View} (device : DeviceId) (link : LinkId) → IsView v
    → IsChildOf v.scenario.network device link → is_parent_of v.scenario.network device link ≡ true → ⊥
child_not_parent {v} device link is child shown =
    let n = v.scenario.network in
    let l = opened (λ k. k.child ≡ device) (link_at n link) child in
    let p = opened (λ k. k.parent ≡ device) (link_at n link) (parent_shown n device link shown) in
    no_loop n is.lawful.rules link l.0 l.1 (l.2 ∙ sym (rw (same_some _ _ _ l.1 p.1) p.2))

-- the parent of a link receives on its way up, and gives on its way down
pub parent_ways : (n : Network) (device : DeviceId) (link : LinkId) → IsParentOf n device link → (way_to n device link ≡ Up) × (way_from n device link ≡ Down)
parent_ways n device link parent =
    let shown = shown_parent n device link parent in
    (rw shown, rw shown)

-- its child receives on its way down, and gives on its way up
pub child_ways : {v : View} (device : DeviceId) (link : LinkId) → IsView v → IsChildOf v.scenario.network device link
    → (way_to v.scenario.network device link ≡ Down) × (way_from v.scenario.network device link ≡ Up)
child_ways {v} device link is child =
    let hidden =
    false_from_ne_true (is_parent_of v.scenario.network device link) (child_not_parent device link is child) in
    (rw hidden, rw hidden)

-- who gives on a way down is the parent
pub gives_down : (n : Network) (device : DeviceId) (link : LinkId) → way_from n device link ≡ Down → IsParentOf n device link
gives_down n device link way = grind (arith, parent_shown, is_parent_of)

-- what a device receives on a way up it receives as the parent
pub receiver_up : (n : Network) (link : LinkId) (device : DeviceId) → receiver_of n link Up ≡ Some device → IsParentOf n device link
receiver_up n link device e =
    (let l = mapped (λ l. l.parent) (link_at n link) device e in
    closed (λ k. k.parent ≡ device) (link_at n link) l.0 l.1 l.2)

-- and on a way down as the child
pub receiver_down : (n : Network) (link : LinkId) (device : DeviceId) → receiver_of n link Down ≡ Some device → IsChildOf n device link
receiver_down n link device e =
    (let l = mapped (λ l. l.child) (link_at n link) device e in
    closed (λ k. k.child ≡ device) (link_at n link) l.0 l.1 l.2)

-- it receives it on the way that it was given to
pub receiver_way : {v : View} (link : LinkId) (device : DeviceId) (way : Way) → IsView v
    → receiver_of v.scenario.network link way ≡ Some device → way_to v.scenario.network device link ≡ way
receiver_way {v} link device Up is e =
    (parent_ways v.scenario.network device link (receiver_up v.scenario.network link device e)).0
receiver_way {v} link device Down is e = (child_ways device link is (receiver_down v.scenario.network link device e)).0

-- ---- channels

-- a link is of its parent's channel
pub parent_channel : (v : View) (device : DeviceId) (link : LinkId) → IsParentOf v.scenario.network device link
    → channel_of_link v.scenario.network link ≡ channel_of v.scenario.network device
parent_channel v device link parent =
    let l = opened (λ k. k.parent ≡ device) (link_at v.scenario.network link) parent in
    rw l.1 (ap (channel_of v.scenario.network) l.2)

pub relay_not_end : (role : Role) → is_relay_role role ≡ true → is_end_system role ≡ true → ⊥
relay_not_end Master e end = absurd cc
relay_not_end role e end = absurd cc

-- a child of a link is an end system, or a relay of the link's channel
pub child_kind : {v : View} (device : DeviceId) (link : LinkId) → IsView v → IsChildOf v.scenario.network device link
    → (is_end v.scenario.network device ≡ true) ⊎ ((x : Device) × (device_at v.scenario.network device ≡ Some x)
    × (x.role ≡ Relay) × (x.channel ≡ channel_of_link v.scenario.network link))
child_kind {v} device link is child =
    let n = v.scenario.network in
    let l = opened (λ k. k.child ≡ device) (link_at n link) child in
    let joint = is.lawful.rules Joints link.0 l.0 l.1 in
    let p = opened (λ d. d.channel ≡ Some joint.0) (device_at n l.0.parent) joint.1 in
    let of_link : channel_of_link n link ≡ Some joint.0 = ap (λ o. option_and_then (λ k. channel_of n k.parent) o) l.1
    ∙ ap (λ o. option_and_then (λ d. d.channel) o) p.1 ∙ p.2 in
    elim joint.2 [
      | inl end ↦
          let e = opened (λ d. is_end_system d.role ≡ true) (device_at n l.0.child) end in
          inl (ap (is_end n) (sym l.2) ∙ ap (λ o. option_map_or (λ d. is_end_system d.role) o false) e.1 ∙ e.2)
      | inr role ↦
          let e = opened (λ d. (d.role ≡ Relay) × (d.channel ≡ Some joint.0)) (device_at n l.0.child) role in
          inr (e.0, ap (device_at n) (sym l.2) ∙ e.1, e.2.0, e.2.1 ∙ sym of_link)
    ]

-- so a relay is of it
pub child_channel : {v : View} (device : DeviceId) (link : LinkId) → IsView v
    → is_relay v.scenario.network device ≡ true → IsChildOf v.scenario.network device link
    → channel_of v.scenario.network device ≡ channel_of_link v.scenario.network link
child_channel {v} device link is relay child = elim (child_kind device link is child) [
  | inr x ↦ rw x.1 x.3
  | inl end ↦
      let r = device_of is_relay_role (device_at v.scenario.network device) relay in
      absurd (relay_not_end r.0.role r.2 (sym (ap (λ o. option_map_or (λ d. is_end_system d.role) o false) r.1) ∙ end))
]

-- ---- trips

-- a trip with one more leg
pub trip_more : {v : View} {way : Way} (first last next : Happening) (legs : List Leg) {leg : Leg}
    → IsTrip v way first legs last → leg.giving ≡ last → leg.arriving ≡ next → IsLeg v way leg
    → IsTrip v way first (legs ++ leg ∷ []) next
trip_more first last next [] trip giving arriving is = (giving ∙ sym trip, is, arriving)
trip_more first last next (l ∷ legs) trip giving arriving is =
    (trip.0, trip.1, trip_more l.arriving last next legs trip.2 giving arriving is)

-- the frame keeps its cycle and members
pub same_cycle : (h g : Happening) (frame : Pcf) (clock : ℕ) → g.frame ≡ Some frame → h.frame ≡ Some (with_clock clock frame) → (cycle_in g ≡ cycle_in h)
    × (members_in g ≡ members_in h)
same_cycle h g frame clock a b = grind (arith, option_map_or)

-- ---- the leg before a record

-- what arrives is a control frame that left
pub record IsPutAs (v : View) (ps : List Happening) (device : DeviceId) (link : LinkId) (cause : ℕ) (way : Way) : Type 0 where
  pub putting : Happening
  pub there : numbered ps cause ≡ Some putting
  pub sender : DeviceId
  pub given : ℕ
  pub clock : ℕ
  pub left : putting.note.body ≡ notes.Left sender link given clock
  pub from_way : way_from v.scenario.network sender link ≡ way

-- the record of what arrived, with that of its leaving and that of its giving
pub record HasLeg (v : View) (way : Way) (h : Happening) (device : DeviceId) (link : LinkId) : Type 0 where
  pub leaving : Happening
  pub giving : Happening
  pub leg : IsLeg v way (record { link = link; giving = giving; leaving = leaving; arriving = h })
  pub left : numbered v.records (cause_of h.note.body) ≡ Some leaving
  pub given : numbered v.records (cause_of leaving.note.body) ≡ Some giving
  pub sooner : giving.note.number < h.note.number
  pub in_time : time_of giving < time_of h
  pub of_frame : Pcf
  pub frame : giving.frame ≡ Some of_frame
  pub clock : ℕ
  pub shows : h.frame ≡ Some (with_clock clock of_frame)

pub has_leg : {v : View} {way : Way} (h : Happening) {device : DeviceId} {link : LinkId} {cause : ℕ} (clock : ℕ)
    (is : IsView v) (i : IsIn h v.records) → h.note.body ≡ notes.Arrived device link cause clock
    → way_to v.scenario.network device link ≡ way → receiver_of v.scenario.network link way ≡ Some device
    → IsPutAs v (founded_at v.scenario v.records h is.run.founded i).front device link cause way
    → HasLeg v way h device link
has_leg {v} h {device} {link} {cause} clock is i body on to put =
    let s = v.scenario in
    let at = founded_at s v.records h is.run.founded i in
    let putting = put.putting in
    let in_front = numbered_in at.front cause putting put.there in
    let in_all : IsIn putting v.records = subst (IsIn putting) (sym at.whole) (in_left putting at.front (h ∷ at.rest) in_front) in
    let at_l = founded_at s v.records putting is.run.founded in_all in
    let departs = subst (IsCaused s at_l.front putting.note.time) put.left at_l.due.cause in
    let giving = departs.giving in
    let in_giving : IsIn giving v.records = subst (IsIn giving) (sym at_l.whole)
    (in_left giving at_l.front (putting ∷ at_l.rest) (numbered_in at_l.front put.given giving departs.there)) in
    let number_l = number_is s at.front cause putting at.founded put.there in
    let number_g = number_is s at_l.front put.given giving at_l.founded departs.there in
    let frame_l = frame_is at_l _ put.left ∙ clocked put.clock _ giving departs.frame departs.there departs.of_frame in
    let placed = (is.run.founded at.front at.rest h at.whole).0 putting in_front in
    let later = higher_before putting h placed (omega (arith, ap rank put.left, ap rank body)) in
    record {
      leaving = putting;
      giving = giving;
      leg = record {
        sender = put.sender;
        receiver = device;
        given = in_giving;
        gives = departs.gives;
        left = in_all;
        left_clock = put.clock;
        leaves = put.left ∙ ap (λ n. notes.Left put.sender link n put.clock) (sym number_g);
        arrived = i;
        arrived_clock = clock;
        arrives = body ∙ ap (λ n. notes.Arrived device link n clock) (sym number_l);
        from_way = put.from_way;
        on_way = on;
        comes_to = to;
      };
      left = rw body (numbered_all at cause putting put.there);
      given = ap (λ b. numbered v.records (cause_of b)) put.left ∙ numbered_all at_l put.given giving departs.there;
      sooner = omega (arith, numbered_within at.front cause _ put.there, numbered_within at_l.front put.given _ departs.there);
      in_time = omega (arith, departs.held);
      of_frame = departs.frame;
      frame = departs.of_frame;
      clock = clock;
      shows = frame_is at _ body ∙ clocked clock _ putting (with_clock put.clock departs.frame) put.there frame_l;
    }

-- ---- where frames come from, leg by leg; those that go up are of masters: masters

-- a master has a member number
pub master_member : {v : View} (device : DeviceId) → IsView v → has_role v.scenario.network is_master device ≡ true
    → (m : ℕ) × (member_of v.scenario.network device ≡ Some m)
master_member {v} device is role =
    let d = device_of is_master (device_at v.scenario.network device) role in
    let known = all_at IsDeviceInRange v.scenario.network.device device.0 d.0 is.lawful.range.devices d.1 in
    let m = some_of d.0.member (known.masters ∙ d.2) in
    (m.0, ap (λ o. option_and_then (λ x. x.member) o) d.1 ∙ m.1)

-- a broken device is a master
pub bad_role : {v : View} (device : DeviceId) → IsView v → IsBad v device
    → has_role v.scenario.network is_master device ≡ true
bad_role {v} device is bad =
    true_from_ne_false (has_role v.scenario.network is_master device) (λ other. bad_is_master device is bad (λ master.
    let d = opened (λ x. is_master x.role ≡ true) (device_at v.scenario.network device) master in
    both_ways (has_role v.scenario.network is_master device) other (rw d.1 d.2)))

-- ---- events in order

module _ (n : Network) (all : List Event) (within : AreWithinHypothesis n all) where
  -- of events within the hypothesis none is earlier than the one before it
  next_turn : (pre behind : List Event) (e event : Event) → all ≡ pre ++ e ∷ event ∷ behind → e.time.0 ≤ℤ event.time.0
  next_turn pre behind e event whole =
      by_lt_z event.time.0 e.time.0
      (λ later. absurd (within (pre ++ e ∷ []) behind event
      (whole ∙ sym (append_assoc pre (e ∷ []) (event ∷ behind))) Order
      (record { front = pre; last = e; order = refl; later = later }))) (λ kept. kept)

  -- nor than any before it
  in_turn : (mid pre behind : List Event) (e event : Event) → all ≡ pre ++ e ∷ (mid ++ event ∷ behind)
      → e.time.0 ≤ℤ event.time.0
  in_turn [] pre behind e event whole = next_turn pre behind e event whole
  in_turn (m ∷ mid) pre behind e event whole =
      let one = next_turn pre (mid ++ event ∷ behind) e m whole in
      omega (
        arith,
        ints,
        in_turn mid (pre ++ e ∷ []) behind m event
            (whole ∙ sym (append_assoc pre (e ∷ []) (m ∷ (mid ++ event ∷ behind)))),
      )

pub no_earlier : (n : Network) (all before behind : List Event) (e event : Event) → AreWithinHypothesis n all → all ≡ before ++ event ∷ behind → IsIn e before
    → e.time.0 ≤ℤ event.time.0
no_earlier n all before behind e event within whole i =
    let at = parted e before i in
    in_turn n all within at.1 at.0 behind e event (whole ∙ ap (λ t. t ++ event ∷ behind) at.2 ∙ append_assoc at.0
    (e ∷ at.1) (event ∷ behind))

-- what sends by an event is broken
sender_broken : {v : View} (e : Event) (link : LinkId) (l : Link) (octets : List ℕ) → IsView v
    → IsIn e v.scenario.events → e.what ≡ events.Send link octets → link_at v.scenario.network link ≡ Some l
    → amount e.time ≤ v.until → IsBad v l.child
sender_broken {v} e link l octets is i what there early =
    true_from_ne_false (is_broken v.scenario l.child v.until) (λ at.
    let s = v.scenario in
    let split = parted e s.events i in
    is.lawful.within split.0 split.1 e split.2 NotBroken (record {
      link = link;
      octets = octets;
      what = what;
      unbroken = λ some.
          let k = opened (λ x. Any (Breaks x.child) split.0) (link_at s.network link) some in
          let found = any_is (Breaks l.child) split.0 (rw (same_some _ _ l k.1 there) at k.2) in
          let order = no_earlier s.network s.events split.0 split.1 found.0 e is.lawful.within split.2 found.1 in
          let in_all : IsIn found.0 s.events = subst (IsIn found.0) (sym split.2) (in_left found.0 split.0 (e ∷ split.1) found.1) in
          let kept = in_kept (λ x. nat_le (amount x.time) v.until) s.events found.0 in_all
          (le-leb (amount found.0.time) v.until (omega (arith, ints, (given s found.0 is.lawful in_all).range.time))) in
          let breaks : breaks_at l.child.0 found.0.what ≡ true = ap (breaks_at l.child.0) found.2 ∙ eq-eqb l.child.0 l.child.0 refl in
          both_ways (is_broken s l.child v.until) at (in_any (λ x. breaks_at l.child.0 x.what) (events_up_to s v.until)
          found.0 kept breaks);
    }))

-- ---- what was put on a wire

-- no scheduled frame is taken as a control frame
never_taken : (end : Bool) (vl : VlId) (cycle : ℕ) (taken : Pcf) → TakesWith (if end then arrivals.Delivered vl cycle else arrivals.Accepted vl cycle) taken → ⊥
never_taken true vl cycle taken c = c
never_taken false vl cycle taken c = c

never_fault : (n : Network) (device : DeviceId) (at : Standpoint) (entry : Entry) (fault : Option Reason) (taken : Pcf)
    → TakesWith (taken_or_fault n device at entry fault) taken → ⊥
never_fault n device at entry (Some reason) taken c = c
never_fault n device at entry None taken c = never_taken (is_end n device) _ _ taken c

pub never_timed : (v : View) (ps : List Happening) (t : ℕ) (device : DeviceId) (link : LinkId) (cause : ℕ) (octets : List ℕ) (taken : Pcf)
    → TakesWith (arrival_of v.scenario ps device t link cause (timed octets)) taken → ⊥
never_timed v ps t device link cause octets taken takes = grind (arith, standpoint, last_taken, field, length, never_fault)

-- the members are those of one whose frame is its own
mine_is : (relay end : Bool) (o : Option ℕ) (members : Members) → (relay && end && are_others o members) ≡ false → relay ≡ true → end ≡ true → (m : ℕ)
    × (o ≡ Some m) × (members.0 ≡ 2 ^ m)
mine_is true true (Some m) members e a b = (m, refl, eqb-true members.0 (2 ^ m) (not-false (members.0 == 2 ^ m) e))
mine_is relay end o members e a b = absurd cc

-- what an event sent up
pub record IsSentUp (v : View) (ps : List Happening) (device : DeviceId) (link : LinkId) (cause : ℕ) : Type 0 where
  pub putting : Happening
  pub there : numbered ps cause ≡ Some putting
  pub line : ℕ
  pub octets : List ℕ
  pub sends : putting.note.body ≡ notes.Event line (events.Send link octets)
  pub frame : Pcf
  pub decodes : decoded octets ≡ Ok frame
  pub mine : is_of_other_member v.scenario.network device link frame.members ≡ false

-- what arrives as a control frame by octets was decoded, and is its sender's
abbrev IsDecoded : Network → DeviceId → LinkId → List ℕ → Type 0
IsDecoded n device link octets = (frame : Pcf) × (decoded octets ≡ Ok frame) × (is_of_other_member n device link frame.members ≡ false)

decoded_as : (v : View) (ps : List Happening) (t : ℕ) (device : DeviceId) (link : LinkId) (cause : ℕ) (octets : List ℕ) (taken : Pcf)
    → TakesWith (arrival_of v.scenario ps device t link cause (signal_of octets)) taken → IsDecoded v.scenario.network device link octets
decoded_as v ps t device link cause octets taken takes =
    let n = v.scenario.network in
    elim (field 12 2 octets == pcf_type) as (λ b. TakesWith (arrival_of v.scenario ps device t link cause (if b then control (decoded octets) else timed
    octets)) taken → IsDecoded n device link octets) [
      | false ↦ λ c. absurd (never_timed v ps t device link cause octets taken c)
      | true ↦ elim (decoded octets) as (λ r. decoded octets ≡ r → TakesWith (arrival_of v.scenario ps device t link cause (control r)) taken
          → IsDecoded n device link octets) [
            | Err refusal ↦ λ e c. absurd c
            | Ok frame ↦ λ e c. (frame, e, (taken_sound n device link (standpoint v.scenario ps device t) frame taken c).0)
          ] refl
    ] takes

-- what is taken from a way left its sender, or an event sent it up
put_on : {v : View} {ps : List Happening} {t : ℕ} {device : DeviceId} {link : LinkId} {cause : ℕ} {a : Arrival}
    (taken : Pcf) (way : Way) → IsView v → ArrivesAs v.scenario ps device t link cause a → TakesWith a taken
    → way_to v.scenario.network device link ≡ way → (IsPutAs v ps device link cause way
    ⊎ ((way ≡ Up) × IsSentUp v ps device link cause)) × (receiver_of v.scenario.network link way ≡ Some device)
put_on {v} {ps} {t} {device} {link} {cause} taken way is comes takes on =
    let put = comes.arrives in
    let same = sym (receiver_way link device put.way is put.receiver) ∙ on in (
      by comes.putting.note.body refl put.put same (rw comes.becomes at takes),
      rw same at put.receiver,
    )
  where
    never : (signal : Signal) → signal ≡ timed comes.putting.octets → TakesWith (arrival_of v.scenario ps device t link cause signal) taken → ⊥
    never signal e c = never_timed v ps t device link cause comes.putting.octets taken
        (rw e at c)

    sent : (cut : Bool) (out : LinkId) (signal : Signal) (l : Launch) → (if cut then None else Some (record { link = out; way = Up; signal = signal })) ≡ Some l
        → (record { link = out; way = Up; signal = signal }) ≡ l
    sent true out signal l e = absurd cc
    sent false out signal l e = cc

    by : (body : NoteBody) → comes.putting.note.body ≡ body → launched v.scenario comes.putting (time_of comes.putting)
        body ≡ Some (record { link = link; way = comes.arrives.way; signal = comes.signal }) → comes.arrives.way ≡ way
        → TakesWith (arrival_of v.scenario ps device t link cause comes.signal) taken
        → IsPutAs v ps device link cause way ⊎ ((way ≡ Up) × IsSentUp v ps device link cause)
    by (notes.Left sender out given clock) same put along c =
        let l = (mapped (λ f. let x : Launch = record {
          link = out;
          way =
              way_from v.scenario.network sender out;
          signal = control (Ok f);
        } in x)
        comes.putting.frame _ put).2 in
        let link_is : out ≡ link = ap (λ x. x.link) l in
        inl (record {
          putting = comes.putting;
          there = comes.there;
          sender = sender;
          given = given;
          clock = clock;
          left = same ∙ ap (λ x. notes.Left sender x given clock) link_is;
          from_way = ap (way_from v.scenario.network sender) (sym link_is) ∙ ap (λ x. x.way) l ∙ along;
        })
    by (notes.TtSent sender out from vl cycle) same put along c =
        let l = same_some _ (record { link = out; way = way_from v.scenario.network sender out; signal = timed comes.putting.octets }) _ refl put in
        absurd (never comes.signal (ap (λ x. x.signal) (sym l)) c)
    by (notes.Event line (events.Send out octets)) same put along c =
        let l = sent (is_cut v.scenario out Up (time_of comes.putting)) out (signal_of octets) _ put in
        let d = decoded_as v ps t device link cause octets taken (rw (ap (λ (x : Launch). x.signal) (sym l)) at c) in
        inr (
          sym along ∙ ap (λ x. x.way) (sym l),
          record {
            putting = comes.putting;
            there = comes.there;
            line = line;
            octets = octets;
            sends = same ∙ ap (λ (x : LinkId). notes.Event line (events.Send x octets)) (ap (λ x. x.link) l);
            frame = d.0;
            decodes = d.1;
            mine = d.2;
          },
        )
    by body same put along c = absurd cc

-- ---- leg by leg

-- what an event sent up is a broken master's
sent_by_bad : {v : View} (h : Happening) {device : DeviceId} {link : LinkId} {cause : ℕ} (clock : ℕ) (is : IsView v)
    (i : IsIn h v.records) → h.note.body ≡ notes.Arrived device link cause clock
    → receiver_of v.scenario.network link Up ≡ Some device
    → IsSentUp v (founded_at v.scenario v.records h is.run.founded i).front device link cause → IsOfBad v h
sent_by_bad {v} h {device} {link} {cause} clock is i body to put =
    let s = v.scenario in
    let n = s.network in
    let at = founded_at s v.records h is.run.founded i in
    let putting = put.putting in
    let in_front = numbered_in at.front cause putting put.there in
    let in_all : IsIn putting v.records = subst (IsIn putting) (sym at.whole) (in_left putting at.front (h ∷ at.rest) in_front) in
    let at_e = founded_at s v.records putting is.run.founded in_all in
    let event = subst (IsCaused s at_e.front putting.note.time) put.sends at_e.due.cause in
    let in_events = in_at s.events event.before event.event event.is in
    let time : amount event.event.time ≡ time_of putting = ap amount (sym event.at) in
    let l = mapped (λ x. x.parent) (link_at n link) device to in
    let bad = sender_broken event.event link l.0 put.octets is in_events (sym event.same) l.1
    (omega (arith, within_run is putting in_all)) in
    let framed = frame_is at_e _ put.sends ∙ ap frame_in put.decodes in
    let frame_h = frame_is at _ body ∙ clocked clock _ putting put.frame put.there framed in
    let mine = sym (ap (λ o. option_map_or (λ k. k.parent.0 == device.0 && is_end n k.child && are_others
    (member_of n k.child) put.frame.members) o false) l.1) ∙ put.mine in
    let d = device_of is_master (device_at n l.0.child) (bad_role l.0.child is bad) in
    let is_mine = mine_is (l.0.parent.0 == device.0) (is_end n l.0.child) (member_of n l.0.child) put.frame.members mine
    (eq-eqb l.0.parent.0 device.0 (rw l.2))
    (rw d.1 (master_ends d.0.role d.2)) in
    record {
      master = l.0.child;
      bad = bad;
      member = is_mine.0;
      is_member = is_mine.1;
      members = ap (λ o. option_map_or (λ f. f.members.0) o 0) frame_h ∙ is_mine.2;
    }

-- a record that gives a frame to a way, and is no arrival
pub record IsStart (v : View) (way : Way) (first : Happening) : Type 0 where
  pub there : IsIn first v.records
  pub sender : DeviceId
  pub by : LinkId
  pub gives : Gives v.scenario.network first.note.body sender by
  pub from_way : way_from v.scenario.network sender by ≡ way
  pub no_arrival : (d : DeviceId) (k : LinkId) (c t : ℕ) → first.note.body ≡ notes.Arrived d k c t → ⊥

-- the frame came leg by leg from such a record
pub record ComesSo (v : View) (way : Way) (h : Happening) (link : LinkId) : Type 0 where
  pub first : Happening
  pub start : IsStart v way first
  pub legs : List Leg
  pub trip : IsTrip v way first legs h
  pub back : GoesBackTo v.records h first
  pub in_order : time_of first < time_of h
  pub cycle : cycle_in first ≡ cycle_in h
  pub members : members_in first ≡ members_in h
  pub same_channel : way ≡ Down → channel_of_link v.scenario.network link ≡ channel_of v.scenario.network start.sender

-- what arrives did so, or a broken master sent it by an event
pub comes : (v : View) (n : ℕ) (way : Way) (h : Happening) (device : DeviceId) (link : LinkId) (cause clock : ℕ) → IsView v → IsIn h v.records
    → h.note.number < n → h.note.body ≡ notes.Arrived device link cause clock → way_to v.scenario.network device link ≡ way
    → ComesSo v way h link ⊎ ((way ≡ Up) × IsOfBad v h)
comes v zero way h device link cause clock is i small body on = absurd (omega arith)
comes v (suc n) way h device link cause clock is i small body on =
    let at = founded_at v.scenario v.records h is.run.founded i in
    let a = subst (IsCaused v.scenario at.front h.note.time) body at.due.cause in
    let x = taken_as a in
    let put = put_on a.frame way is x.1 x.2 on in
    elim put.0 [
      | inr sent ↦ inr (
        sent.0,
        sent_by_bad h clock is i body (rw sent.0 at put.1) sent.1,
      )
      | inl left ↦
          let l = has_leg h clock is i body on put.1 left in
          given_by l (λ g d k c t j less at to. comes v n way g d k c t is j (omega (arith, l.sooner)) at to)
          l.giving.note.body refl l.leg.gives
    ]
  where
    on_way : (sender relay : DeviceId) (by : LinkId) → Passes v.scenario.network sender by link → sender ≡ relay → way_from v.scenario.network sender link ≡ way
        → way_to v.scenario.network relay by ≡ way
    on_way sender relay by passes same from =
        let n = v.scenario.network in
        rw (sym same) (elim passes.on [
          | inl up ↦ (parent_ways n sender by up.0).0 ∙ sym (child_ways sender link is up.1).1 ∙ from
          | inr down ↦ (child_ways sender by is down.0).0 ∙ sym (parent_ways n sender link down.1).1 ∙ from
        ])

    given_by : (l : HasLeg v way h device link)
        → ((g : Happening) (d : DeviceId) (k : LinkId) (c t : ℕ) → IsIn g v.records → g.note.number < l.giving.note.number + 1
        → g.note.body ≡ notes.Arrived d k c t → way_to v.scenario.network d k ≡ way → ComesSo v way g k ⊎ ((way ≡ Up) × IsOfBad v g))
        → (b : NoteBody) → l.giving.note.body ≡ b → Gives v.scenario.network b l.leg.sender link → ComesSo v way h link ⊎ ((way ≡ Up) × IsOfBad v h)
    given_by l back (notes.Arrived relay by from t) same gives =
        let kept = same_cycle h l.giving l.of_frame l.clock l.frame l.shows in
        elim (back l.giving relay by from t l.leg.given (omega arith) same (on_way l.leg.sender relay by gives.1 gives.0 l.leg.from_way)) [
          | inr bad ↦ inr (
            bad.0,
            record { master = bad.1.master; bad = bad.1.bad; member = bad.1.member; is_member = bad.1.is_member; members = sym kept.1 ∙ bad.1.members },
          )
          | inl c ↦ inl (record {
            first = c.first;
            start = c.start;
            legs = c.legs ++ record { link = link; giving = l.giving; leaving = l.leaving; arriving = h } ∷ [];
            trip = trip_more c.first l.giving h c.legs c.trip refl refl l.leg;
            back = record { causes = l.leaving ∷ l.giving ∷ c.back.causes; chain = (l.left, (l.given, c.back.chain)); begins = c.back.begins };
            in_order = omega (arith, c.in_order, l.in_time);
            cycle = c.cycle ∙ kept.0;
            members = c.members ∙ kept.1;
            same_channel = λ down.
                let parent = gives_down v.scenario.network l.leg.sender link (l.leg.from_way ∙ down) in
                elim gives.1.on [
                  | inl up ↦ absurd (child_not_parent l.leg.sender link is up.1
                      (shown_parent v.scenario.network l.leg.sender link parent))
                  | inr both ↦ parent_channel v l.leg.sender link parent ∙ child_channel l.leg.sender by is
                      gives.1.relay both.0 ∙ c.same_channel down
                ];
          })
        ]
    given_by l back body same gives =
        let kept = same_cycle h l.giving l.of_frame l.clock l.frame l.shows in
        inl (record {
          first = l.giving;
          start = record {
            there = l.leg.given;
            sender = l.leg.sender;
            by = link;
            gives = l.leg.gives;
            from_way = l.leg.from_way;
            no_arrival = λ d k c t e. (let wrong = sym same ∙ e in absurd cc);
          };
          legs = record { link = link; giving = l.giving; leaving = l.leaving; arriving = h } ∷ [];
          trip = (refl, l.leg, refl);
          back = record { causes = l.leaving ∷ l.giving ∷ []; chain = (l.left, (l.given, tt)); begins = refl };
          in_order = l.in_time;
          cycle = kept.0;
          members = kept.1;
          same_channel = λ down. parent_channel v l.leg.sender link (gives_down v.scenario.network l.leg.sender link (l.leg.from_way ∙ down));
        })

-- ---- up from a master

-- the frame of a dispatch is that of its master
pub dispatch_shows : {v : View} (g : Happening) (master : DeviceId) (cycle m : ℕ) → IsView v → IsIn g v.records
    → g.note.body ≡ notes.Sent master cycle → member_of v.scenario.network master ≡ Some m
    → (cycle ≡ cycle_in g) × (members_in g ≡ 2 ^ m)
dispatch_shows {v} g master cycle m is i body member =
    let found = founded_at v.scenario v.records g is.run.founded i in
    let framed = frame_is found _ body in (
      ap (λ o. option_map_or (λ f. f.cycle) o 0) (sym framed),
      rw framed (ap (λ o. 2 ^ unwrap_or o 0) member),
    )

pub frames_up_are_of_masters : FramesUpAreOfMasters
frames_up_are_of_masters v h switch link cause clock is i body up =
    elim (comes v (h.note.number + 1) Up h switch link cause clock is i (omega arith) body up) [
      | inr bad ↦ inr bad.1
      | inl c ↦ of_master c c.first.note.body refl c.start.gives
    ]
  where
    of_master : (c : ComesSo v Up h link) (b : NoteBody) → c.first.note.body ≡ b → Gives v.scenario.network b c.start.sender c.start.by
        → IsOfGood v h ⊎ IsOfBad v h
    of_master c (notes.Sent master cycle) same gives =
        let at = founded_at v.scenario v.records c.first is.run.founded c.start.there in
        let m = master_member master is (subst (IsCaused v.scenario at.front c.first.note.time) same
        at.due.cause).master in
        let shown = dispatch_shows c.first master cycle m.0 is c.start.there same m.1 in
        elim (is_broken v.scenario master v.until) as (λ b. is_broken v.scenario master v.until ≡ b → IsOfGood v h ⊎ IsOfBad v h) [
          | true ↦ λ bad. inr (record { master = master; bad = bad; member = m.0; is_member = m.1; members = sym c.members ∙ shown.1 })
          | false ↦ λ good. inl (record {
            first = c.first;
            master = master;
            dispatch = record { there = c.start.there; is = same ∙ ap (notes.Sent master) (shown.0 ∙ c.cycle); good = good };
            member = m.0;
            is_member = m.1;
            members = sym c.members ∙ shown.1;
            legs = c.legs;
            trip = c.trip;
            in_order = c.in_order;
          })
        ] refl
    of_master c (notes.Compressed cm opened at cycle members verdict) same gives =
        (let wrong = sym (parent_ways v.scenario.network c.start.sender c.start.by gives.1).1 ∙ c.start.from_way in
        absurd cc)
    of_master c (notes.Arrived relay by from t) same gives = absurd (c.start.no_arrival relay by from t same)
    of_master c body same gives = absurd gives

-- ---- compressed frames come down from compression masters

-- the frame of an emission shows the cycle and members
pub emission_shows : {v : View} (g : Happening) (cm : DeviceId) (opened at : Units) (cycle : ℕ) (members : Members)
    (verdict : Judgement) → IsView v → IsIn g v.records
    → g.note.body ≡ notes.Compressed cm opened at cycle members verdict
    → (cycle ≡ cycle_in g) × (members.0 ≡ members_in g)
emission_shows {v} g cm opened at cycle members verdict is i body =
    let found = founded_at v.scenario v.records g is.run.founded i in
    let framed = frame_is found _ body in (
      ap (λ o. option_map_or (λ f. f.cycle) o 0) (sym framed),
      ap (λ o. option_map_or (λ f. f.members.0) o 0)
          (sym framed),
    )

pub frames_down_are_of_cms : FramesDownAreOfCms
frames_down_are_of_cms v h device link cause clock is i body down =
    elim (comes v (h.note.number + 1) Down h device link cause clock is i (omega arith) body down) [
      | inr bad ↦ (let wrong = bad.0 in absurd cc)
      | inl c ↦ of_cm c c.first.note.body refl c.start.gives
    ]
  where
    of_cm : (c : ComesSo v Down h link) (b : NoteBody) → c.first.note.body ≡ b → Gives v.scenario.network b c.start.sender c.start.by → IsOfCm v h
    of_cm c (notes.Sent master cycle) same gives =
        (let wrong = sym (child_ways c.start.sender c.start.by is gives.1).1 ∙ c.start.from_way in
        absurd cc)
    of_cm c (notes.Compressed cm opened at cycle members verdict) same gives =
        let shown = emission_shows c.first cm opened at cycle members verdict is c.start.there same in
        let body_is = same ∙ ap (λ x. notes.Compressed cm opened at x members verdict) (shown.0 ∙ c.cycle)
        ∙ ap (λ m. notes.Compressed cm opened at (cycle_in h) (record { 0 = m }) verdict) (shown.1 ∙ c.members) in
        record {
          first = c.first;
          cm = cm;
          emission = record { there = c.start.there; opened = opened; at = at; verdict = verdict; is = body_is };
          legs = c.legs;
          trip = c.trip;
          back = c.back;
          in_order = omega (arith, c.in_order);
          same_channel = λ d k from t at.
              let both = sym body ∙ at in
              let same_link : link ≡ k = cc in
              ap (channel_of_link v.scenario.network) (sym same_link) ∙ c.same_channel refl ∙ ap (channel_of v.scenario.network) gives.0;
        }
    of_cm c (notes.Arrived relay by from t) same gives = absurd (c.start.no_arrival relay by from t same)
    of_cm c body same gives = absurd gives
