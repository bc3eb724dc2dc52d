-- Dispatches by the schedule: one of a row in a cycle, whose frame meets no other on a port.
use Rattle.std.proofs.Common.{arith}
use Rattle.drift_clock.specs.Reach.{IsReach}
use Rattle.net_plan.{proofs.Trees.{no_path, rules_give_trees}, specs.{Bounds.gamma_of, declared.tables.Role.Role}}
use Rattle.precision_law.proofs.{Plain.cm_is_no_end, clocks.Epochs.settings_stay, sizes.Instants.instants_are_in_order}
use Rattle.precision_law.proofs.{trips.Legs.relay_not_end}
use Rattle.precision_law.proofs.traffic_lemmas.{ports.Cycles.{hulls_grow, same_hull, same_next}}
use Rattle.precision_law.proofs.traffic_lemmas.{schedule.Rows.{rows_are_in_time, rows_go_once, rows_stand_apart}}
use Rattle.precision_law.proofs.traffic_lemmas.Words
use Words.{◌*◌, ◌+ℤ◌, ◌+◌, ◌-ℤ◌, ◌<ℤ◌, ◌<◌, ◌∙◌, ◌∷◌, ◌≡◌, ◌≢◌, ◌≤ℤ◌, ◌≤◌, ◌⊎◌, Bool, BringsBlocks, DeviceId, Down}
use Words.{Entry, GivingsKeepAway, Happening, Hull, IsBefore, IsCaused, IsEntry, IsFoundedAt, IsGood, IsIn}
use Words.{IsInSchedule, IsInSpan, IsRowDispatch, IsSwitchOf, IsTimedAt, IsView, Joints, KeepsRules, Link, LinkId, List}
use Words.{Network, NoteBody, Sizes, Some, Stands, Up, View, VlId, Way, [], adjustment_left, adjustment_stays, amount}
use Words.{ap, before_narrow, before_of, both_ways, cases_lt, changed_at, clocks_reach_sharply, closed, device_at}
use Words.{earlier, earlier_before, epoch_time, false, founded_at, has_before, hull_of, in_all, in_left, in_range, inl}
use Words.{inr, ints, is_end, is_end_system, is_turned_on_at, last_accepted, link_at, numbered_in, opened}
use Words.{option_map_or, place_of, port_time, pos, reaches_by, refl, room, same_some, source_by, source_of}
use Words.{state_after, steady, subst, suc, sym, time_of, true, way_from, within_run, zero, ℕ, ℤ}
use Rattle.precision_law.proofs.traffic_lemmas.spans.Spans
use Spans.{AreInPlaces, begins_soon, in_places, synchronised_keep_time, values_are_reached_in_spans}
use Rattle.precision_law.specs.{Hulls.{IsInHull, IsNarrow, start_hull}, Views.IsDispatch}
use Rattle.precision_law.specs.traffic.{Dispatched.{DispatchesAreInSpans, DispatchesAreOfRows, DispatchesAreOne}}
use Rattle.precision_law.specs.traffic.{Ports.{DispatchesStandApart, GivesAt, LeavingsStandApart}}
use Rattle.run_law.{proofs.{law.FirstDeliveries.hold_most, runs.Places.never_self}}
use Rattle.run_law.specs.{control.Leaving.{Departs, Gives, leaves}, law.Safety.time_of_octets}
use Rattle.run_law.specs.{scenario.{Devices.{has_role, is_cm, is_cm_role, is_relay_role}, Ways.hold_at}}
use Rattle.run_law.specs.{timed.Dispatching.HasAtHand}
use Rattle.schedule_tables.{proofs.{Margins.{margins, shape_rules}, SlotLemmas.one_entry}}
use Rattle.schedule_tables.specs.{Delays.{delay_by, pcf_port_time}, Schedule.IsClearBefore}
use Rattle.schedule_tables.specs.{declared.rule.Rule.TheVariants.Senders}
use Rattle.sync_state.proofs.VerdictLemmas.{up_state}
use Rattle.run_law.specs.declared.note.NoteBody.TheVariants as notes

-- ---- the two ends of a link, and the ways on which a device sends by it: the ends of a link

-- the ends of a link are two devices
pub ends_differ : (network : Network) (link : LinkId) (l : Link) → KeepsRules network → link_at network link ≡ Some l → l.child ≢ l.parent
ends_differ network link l keeps at same =
    let joint = keeps Joints link.0 l at in
    let tree = rules_give_trees network (shape_rules network keeps) in
    let up = closed (λ x. (x.child ≡ l.parent) × IsSwitchOf network joint.0 x.parent) (link_at network link) l
    at (same, joint.1) in
    let switch = opened (λ d. d.channel ≡ Some joint.0) (device_at network l.parent) joint.1 in
    let member = closed (λ d. (is_end_system d.role ≡ true) ⊎ (d.channel ≡ Some joint.0))
    (device_at network l.parent) switch.0 switch.1 (inr switch.2) in
    let path = tree.reach joint.0 l.parent member in
    no_path joint.0 l.parent link l tree at refl up path.0 path.2

-- ---- ways

-- two ways of a link that leave one device are one
one_way : (a b : Way) (l : Link) → l.child ≢ l.parent → source_by a l ≡ source_by b l → a ≡ b
one_way Up Up l differ same = refl
one_way Up Down l differ same = absurd (differ same)
one_way Down Up l differ same = absurd (differ (sym same))
one_way Down Down l differ same = refl

-- two rows of one link that leave one device go on one way
pub same_way : {network : Network} {place other : ℕ} {entry second : Entry} → KeepsRules network
    → IsEntry network place entry → IsEntry network other second → entry.row.link ≡ second.row.link
    → source_of entry ≡ source_of second → entry.row.way ≡ second.row.way
same_way keeps one two link source = grind (arith, same_some, link_at, one_way, ends_differ, source_by)

-- ---- the records of dispatches by the schedule: what the earlier records fix

-- the length of a cycle
pub cycle_is : {v : View} → IsView v → v.sizes.cycle ≡ amount v.scenario.network.cycle
cycle_is is = rw is.sizes

pub dispatches_are_of_rows : DispatchesAreOfRows
dispatches_are_of_rows v h device link cause vl cycle is i body =
    let s = v.scenario in
    let t = time_of h in
    let found = founded_at s v.records h is.run.founded i in
    let caused : IsCaused s found.front h.note.time (notes.TtSent device link cause vl cycle) = subst (IsCaused s found.front h.note.time) body found.due.cause
    in
    let d = caused.dispatches in
    let same = earlier_before (before_of is found) in
    let left = up_state (is_turned_on_at s device t)
    (state_after s (earlier t found.front) device) d.up.synchronised in
    record {
      there = i;
      is = body;
      place = d.place;
      entry = d.entry;
      row = d.row;
      by = d.by;
      of_vl = d.of_vl;
      leaves = d.leaves;
      occurs = d.occurs;
      synchronised = rw same at left;
      correct = d.up.correct;
      reached =
          rw (cycle_is is) (reaches_by v.records same d.reached);
      at_hand = elim d.at_hand [
        | inl own ↦ inl own
        | inr taken ↦ inr (
          taken.0,
          record {
            taken = taken.1.taken;
            last = rw (sym same) taken.1.last;
            number = taken.1.number;
            link = taken.1.link;
            from = taken.1.from;
            is = taken.1.is;
          },
        )
      ];
      whole = caused.whole;
    }

-- a row's offset is in the schedule
pub offset_in_schedule : {v : View} {place : ℕ} {entry : Entry} → IsView v → IsEntry v.scenario.network place entry
    → IsInSchedule v.sizes (amount entry.row.offset)
offset_in_schedule {v} {place} {entry} is row =
    let times = rows_are_in_time v place entry is row in
    record { begins = omega (arith, times.begins); ends = omega (arith, times.ends, times.tolerates) }

pub dispatches_are_in_spans : BringsBlocks → DispatchesAreInSpans
dispatches_are_in_spans brings v h device link cause vl cycle is good d =
    values_are_reached_in_spans brings v cycle (amount d.entry.row.offset) (time_of h) device is (record { good = good; synchronised = d.synchronised })
    (within_run is h d.there) d.occurs.begun (offset_in_schedule is d.row) d.reached

-- ---- one clock in a span

-- a device that is synchronised at two times of the span of a cycle has one clock from the first to the second
pub record HasOneClock (v : View) (device : DeviceId) (t u : ℕ) : Type 0 where
  pub adjustment : adjustment_left v device t ≡ adjustment_left v device u
  pub since : changed_at v.records device t ≡ changed_at v.records device u

pub one_clock : BringsBlocks → {v : View} {n t u : ℕ} (one : IsInSpan v n t) (two : IsInSpan v n u)
    {device : DeviceId} → IsView v → IsTimedAt v device u → t ≤ u → HasOneClock v device t u
one_clock brings {v} {n} {t} {u} one two {device} is timed le =
    let old = (synchronised_keep_time brings v n u two device is timed).old in
    let next = same_next one.block.before two.block.before in
    let early : epoch_time (earlier u v.records) device <ℤ pos t = omega (arith, ints, one.block.from) in
    record {
      adjustment = ap (λ a. a.0) (adjustment_stays device t u is le early);
      since = rw (settings_stay v device t u is le early);
    }

-- ---- a frame of the schedule and a control frame do not meet on a port: hulls

-- it ends not before it begins
pub hull_proper : {v : View} (n : ℕ) (hull : Hull) → IsView v → hull_of v n ≡ Some hull → hull.least ≤ℤ hull.greatest
hull_proper {v} zero hull is at =
    let same = same_some (hull_of v zero) (start_hull v.sizes) hull refl at in
    let least = ap (λ (h : Hull). h.least) same in
    let greatest = ap (λ (h : Hull). h.greatest) same in
    omega (arith, ints)
hull_proper {v} (suc n) hull is at = (has_before v n hull (within_run is) at).follows.ordered

-- the hull of an earlier cycle lies before that of a later one
pub hulls_follow : {v : View} (n m : ℕ) (a b : Hull) → IsView v → n < m
    → ((c : ℕ) → c ≤ m → (hull : Hull) × (hull_of v c ≡ Some hull) × IsNarrow v.sizes hull) → hull_of v n ≡ Some a
    → hull_of v m ≡ Some b → a.greatest ≤ℤ b.least
hulls_follow n zero a b is lt narrow one two = absurd (omega arith)
hulls_follow {v} n (suc m) a b is lt narrow one two =
    let has = has_before v m b (within_run is) two in
    let there = narrow m (omega arith) in
    let same = same_some (hull_of v m) there.0 has.before there.1 has.is_before in
    let order = instants_are_in_order v.sizes has.before b (room is) (subst (IsNarrow v.sizes) same there.2)
    has.follows in
    elim (cases_lt n m) [
      | inl less ↦
          let more = hulls_follow n m a has.before is less (λ c le. narrow c (omega arith)) one has.is_before in
          let own = hull_proper m has.before is has.is_before in
          omega (arith, ints, order.hulls)
      | inr ge ↦
          let equal : n ≡ m = omega arith in
          let same_hull = same_some (hull_of v m) a has.before (rw equal at one) has.is_before in
          let greatest : a.greatest ≡ has.before.greatest = ap (λ (h : Hull). h.greatest) same_hull in
          omega (arith, ints, order.hulls)
    ]

-- ---- holds

-- a link holds a frame at most for dmax
holds_within : {v : View} {place : ℕ} {entry : Entry} (link : LinkId) (way : Way) (t : ℕ) → IsView v
    → IsEntry v.scenario.network place entry → entry.row.link ≡ link → hold_at v.scenario link way t ≤ v.sizes.dmax
holds_within {v} {place} {entry} link way t is row by =
    let n = v.scenario.network in
    let range = in_range n place entry is.lawful.range row in
    let at : link_at n link ≡ Some entry.link = rw by at row.link in
    let hold = hold_most v.scenario link entry.link way t is.lawful at range.link.hold.least in
    let links = (margins rules_give_trees n v.sizes.path is.lawful.range is.lawful.rules is.beta).dmax.links in
    let fits = in_all (λ l. v.sizes.path + delay_by l ≤ amount n.dmax) n.link entry.row.link.0 entry.link links
    row.link in
    let dmax : v.sizes.dmax ≡ amount n.dmax = ap (λ (s : Sizes). s.dmax) is.sizes in
    omega arith

-- how long a control frame occupies the port
control_time : (v : View) {place : ℕ} {entry : Entry} (link : LinkId) → IsEntry v.scenario.network place entry
    → entry.row.link ≡ link → time_of_octets v.scenario.network link 60 ≡ pcf_port_time entry.link
control_time v {entry} link row by =
    rw (rw by at row.link)

-- ---- who gives frames

-- a device of one kind is not of another
pub apart_roles : (network : Network) (device : DeviceId) (p q : Role → Bool) → ((r : Role) → p r ≡ true → q r ≡ true → ⊥) → has_role network p device ≡ true
    → has_role network q device ≡ true → ⊥
apart_roles network device p q apart one two = grind (arith, device_at, option_map_or)

-- an end system gives its own dispatches alone
end_gives : {v : View} {g : Happening} (device : DeviceId) (link : LinkId) (body : NoteBody) → IsView v
    → (found : IsFoundedAt v.scenario v.records g) → is_end v.scenario.network device ≡ true → g.note.body ≡ body
    → Gives v.scenario.network body device link → (cycle : ℕ) × (g.note.body ≡ notes.Sent device cycle)
end_gives device link (notes.Sent master cycle) is found end same gives =
    (cycle, same ∙ ap (λ d. notes.Sent d cycle) (sym gives.0))
end_gives {v} {g} device link (notes.Compressed cm opened at cycle members verdict) is found end same gives =
    let caused : IsCaused v.scenario found.front g.note.time (notes.Compressed cm opened at cycle members verdict) = subst
    (IsCaused v.scenario found.front g.note.time) same found.due.cause in
    absurd (apart_roles v.scenario.network device is_cm_role is_end_system cm_is_no_end (ap (is_cm v.scenario.network) gives.0 ∙ caused.cm) end)
end_gives {v} device link (notes.Arrived relay by cause clock) is found end same gives =
    absurd (apart_roles v.scenario.network device is_relay_role is_end_system relay_not_end gives.1.relay end)
end_gives device link body is found end same gives = absurd gives

-- ---- ports

-- the times of a dispatch to its hull
pub record IsTimed (v : View) (t port : ℕ) (stands_least : ℤ) (entry : Entry) : Type 0 where
  pub not_early : (stands_least +ℤ pos (v.sizes.correction + v.sizes.dmax + 3 * v.sizes.precision + v.sizes.spread + 6 * v.sizes.reach + pcf_port_time
      entry.link)) ≤ℤ pos t
  pub not_late : (pos (t + port) +ℤ pos (3 * v.sizes.precision)) ≤ℤ (stands_least +ℤ pos v.sizes.cycle)

-- each dispatch has such times
timed_to : BringsBlocks → {v : View} {h : Happening} {device : DeviceId} {link : LinkId} {cause : ℕ} {vl : VlId}
    {cycle : ℕ} (is : IsView v) (good : IsGood v device) (d : IsRowDispatch v h device link cause vl cycle)
    (before : Stands v cycle) → IsTimed v (time_of h) (port_time d.entry) before.hull.least d.entry
timed_to brings {v} {h} {device} {link} {cause} {vl} {cycle} is good d before =
    let here = dispatches_are_in_spans brings v h device link cause vl cycle is good d in
    let same = ap (λ w. w.least) (same_hull v cycle here.span.block.before before) in
    let narrow = before_narrow here.span.block.before in
    let times = rows_are_in_time v d.place d.entry is d.row in
    let space = room is in
    record {
      not_early = omega (arith, ints, here.not_early, times.begins, space.eight_errors);
      not_late = omega (arith, ints, here.not_late, times.tolerates, times.ends, space.eight_errors);
    }

-- where an end system sent the frame in a cycle
sent_apart : BringsBlocks → {v : View} {h g : Happening} {device : DeviceId} {link : LinkId} {cause : ℕ} {vl : VlId}
    {cycle number : ℕ} → IsView v → IsGood v device → (d : IsRowDispatch v h device link cause vl cycle)
    → IsDispatch v g device number → (t : ℕ) → time_of g ≤ t → t ≤ time_of g + v.sizes.dmax
    → (time_of h + port_time d.entry ≤ t) ⊎ (t + pcf_port_time d.entry.link ≤ time_of h)
sent_apart brings {v} {h} {g} {device} {link} {cause} {vl} {cycle} {number} is good d sent t from to =
    let space = room is in
    let before = (dispatches_are_in_spans brings v h device link cause vl cycle is good d).span.block.before in
    let timed = timed_to brings is good d before in
    let narrow = before_narrow before in
    let covered = brings.cover v (time_of g) is (within_run is g sent.there) in
    let so = (brings.goes v covered.0 (time_of g) covered.1 is).dispatches g device number sent refl in
    let inside : IsInHull v number (time_of g) = rw so.of_cycle so.inside in
    elim (cases_lt cycle number) [
      | inl lt ↦
          let grow = hulls_grow cycle number before.hull inside.hull is lt before.is_hull inside.is in
          inl (omega (arith, ints, inside.least, timed.not_late, space.eight_errors))
      | inr ge ↦
          let most : inside.hull.greatest ≤ℤ before.hull.greatest = elim (cases_lt number cycle) [
            | inl lt ↦ (let follow = hulls_follow number cycle inside.hull before.hull is lt before.narrow inside.is
                before.is_hull in let own = hull_proper
                cycle before.hull is before.is_hull in omega (arith, ints))
            | inr le ↦
                let same : number ≡ cycle = omega arith in
                let equal = same_some (hull_of v cycle) inside.hull before.hull
                (rw (sym same) inside.is) before.is_hull in
                let greatest = ap (λ (w : Hull). w.greatest) equal in
                omega (arith, ints)
          ] in
          inr (omega (arith, ints, inside.most, timed.not_early))
    ]

-- where a switch gave the frame
given_apart : BringsBlocks → GivingsKeepAway → {v : View} {h g : Happening} {device : DeviceId} {link : LinkId}
    {cause : ℕ} {vl : VlId} (cycle : ℕ) → IsView v → IsGood v device → is_end v.scenario.network device ≡ false
    → (d : IsRowDispatch v h device link cause vl cycle) → GivesAt v g device link → (t : ℕ) → time_of g ≤ t
    → t ≤ time_of g + v.sizes.dmax → (time_of h + port_time d.entry ≤ t)
    ⊎ (t + pcf_port_time d.entry.link ≤ time_of h)
given_apart brings away zero is good switch d gives t from to = absurd (omega (arith, d.occurs.begun))
given_apart brings away {v} {h} {g} {device} {link} {cause} {vl} (suc c) is good switch d gives t from to =
    let before = (dispatches_are_in_spans brings v h device link cause vl (suc c) is good d).span.block.before in
    let timed = timed_to brings is good d before in
    let soon = begins_soon c before is in
    elim (cases_lt (time_of g) before.next) [
      | inl lt ↦ inr (omega (arith, ints, timed.not_early))
      | inr ge ↦ (let far = away v h g device link link cause vl (suc c) is good switch d gives before ge in inl
          (omega (arith, ints, timed.not_late)))
    ]

pub leavings_stand_apart : BringsBlocks → GivingsKeepAway → LeavingsStandApart
leavings_stand_apart brings away v h g device link cause from clock vl cycle is good d leaving =
    let s = v.scenario in
    let found = founded_at s v.records g is.run.founded leaving.there in
    let departs : Departs s found.front device (time_of g) link from (leaves clock) = subst (IsCaused s found.front g.note.time) leaving.is found.due.cause in
    let giving = departs.giving in
    let there : IsIn giving v.records = subst (IsIn giving) (sym found.whole)
    (in_left giving found.front (g ∷ found.rest) (numbered_in found.front from giving departs.there)) in
    let hold = holds_within link (way_from s.network device link) (time_of giving) is d.row d.by in
    let begun : time_of giving ≤ time_of g = omega (arith, departs.held) in
    let over : time_of g ≤ time_of giving + v.sizes.dmax = omega (arith, departs.held) in
    let size = control_time v link d.row d.by in
    let apart =
    by (is_end s.network device) refl giving there departs.gives begun over in
    elim apart [ inl one ↦ inl one | inr two ↦ inr (omega arith) ]
  where
    by : (b : Bool) → is_end v.scenario.network device ≡ b → (giving : Happening) → IsIn giving v.records → Gives v.scenario.network giving.note.body device
        link → time_of giving ≤ time_of g → time_of g ≤ time_of giving + v.sizes.dmax
        → (time_of h + port_time d.entry ≤ time_of g) ⊎ (time_of g + pcf_port_time d.entry.link ≤ time_of h)
    by true end giving there gives begun over =
        let sent = end_gives device link giving.note.body is
        (founded_at v.scenario v.records giving is.run.founded there) end refl gives in
        sent_apart brings is good d
        (record { there = there; is = sent.1; good = good }) (time_of g) begun over
    by false switch giving there gives begun over =
        given_apart brings away cycle is good switch d (record { there = there; gives = gives })
        (time_of g) begun over

-- ---- one row has one dispatch in a cycle: records at one place

-- of records in the order of their places two at one place are one
same_in_places : (hs : List Happening) (h g : Happening) → AreInPlaces hs → IsIn h hs → IsIn g hs → place_of h ≡ place_of g → h ≡ g
same_in_places [] h g order i j same = absurd i
same_in_places (x ∷ hs) h g order (inl one) (inl two) same = one ∙ sym two
same_in_places (x ∷ hs) h g order (inl one) (inr j) same =
    absurd (never_self (place_of g) (subst (λ p. IsBefore p (place_of g)) (ap place_of (sym one) ∙ same) (order.0 g j)))
same_in_places (x ∷ hs) h g order (inr i) (inl two) same =
    absurd (never_self (place_of h) (subst (λ p. IsBefore p (place_of h)) (ap place_of (sym two) ∙ sym same) (order.0 h i)))
same_in_places (x ∷ hs) h g order (inr i) (inr j) same = same_in_places hs h g order.1 i j same

-- two records of a view at one place are one
pub same_by_place : {v : View} (h g : Happening) → IsView v → IsIn h v.records → IsIn g v.records
    → place_of h ≡ place_of g → h ≡ g
same_by_place {v} h g is i j same =
    same_in_places v.records h g (in_places v.scenario [] v.records is.run.founded) i j same

-- ---- reaching

-- a value is reached once with one adjustment
pub reached_once : {reading : ℕ → ℕ} {from value : ℤ} (t u : ℕ) → t ≤ u → IsReach reading from value (pos t)
    → IsReach reading from value (pos u) → t ≡ u
reached_once {reading} {value} t u le one two =
    elim (cases_lt t u) [
      | inl lt ↦
          let before = two.not_before t one.from_on (omega (arith, ints, lt)) in
          let there = one.reached in
          absurd (omega (arith, ints))
      | inr ge ↦ omega arith
    ]

-- ---- what is at hand

-- the sender of a virtual link is an end system
pub sender_ends : {network : Network} {place : ℕ} {entry : Entry} → KeepsRules network → IsEntry network place entry
    → is_end network entry.vl.sender ≡ true
sender_ends {network} {entry} keeps is =
    let end = opened (λ d. is_end_system d.role ≡ true) (device_at network entry.vl.sender)
    (keeps Senders entry.row.vl.0 entry.vl is.vl) in
    rw end.1 end.2

-- at one time the cause of a dispatch is one
same_cause : {v : View} {device : DeviceId} {place : ℕ} {entry : Entry} {t a b cycle : ℕ} → IsView v
    → IsEntry v.scenario.network place entry → HasAtHand v.scenario.network v.records device entry t a cycle
    → HasAtHand v.scenario.network v.records device entry t b cycle → a ≡ b
same_cause is row (inl one) (inl two) = one.1 ∙ sym two.1
same_cause {v} is row (inl one) (inr two) =
    absurd (both_ways _ two.0 (ap (is_end v.scenario.network) (sym one.0) ∙ sender_ends is.lawful.rules row))
same_cause {v} is row (inr one) (inl two) =
    absurd (both_ways _ one.0 (ap (is_end v.scenario.network) (sym two.0) ∙ sender_ends is.lawful.rules row))
same_cause {v} {device} {entry} {t} is row (inr one) (inr two) =
    let same = same_some (last_accepted v.records device entry.row.vl t) one.1.taken two.1.taken one.1.last
    two.1.last in
    one.1.number ∙ ap (λ h. h.note.number) same ∙ sym two.1.number

-- ---- one dispatch

-- the place of a dispatch
place_is : (h : Happening) (device : DeviceId) (link : LinkId) (cause : ℕ) (vl : VlId) (cycle : ℕ) → h.note.body ≡ notes.TtSent device link cause vl cycle
    → place_of h ≡ time_of h ∷ 10 ∷ device.0 ∷ link.0 ∷ cause ∷ vl.0 ∷ cycle ∷ []
place_is h device link cause vl cycle is = rw is

-- of two dispatches of a row in a cycle, in the order of their times
one_in_order : BringsBlocks → {v : View} {h g : Happening} {device : DeviceId} {link : LinkId} {cause other : ℕ}
    {vl : VlId} {cycle : ℕ} → IsView v → IsGood v device → time_of h ≤ time_of g
    → IsRowDispatch v h device link cause vl cycle → IsRowDispatch v g device link other vl cycle → h ≡ g
one_in_order brings {v} {h} {g} {device} {link} {cause} {other} {vl} {cycle} is good le one two =
    let rows = rows_go_once v.scenario.network one.place two.place one.entry two.entry is.lawful.rules one.row two.row (one.of_vl ∙ sym two.of_vl)
    (one.by ∙ sym two.by) in
    let here = dispatches_are_in_spans brings v h device link cause vl cycle is good one in
    let there = dispatches_are_in_spans brings v g device link other vl cycle is good two in
    let clock = one_clock brings here.span there.span is
    (record { good = good; synchronised = two.synchronised }) le in
    let value = λ (e : Entry) (a : ℤ). pos (cycle * v.sizes.cycle + amount e.row.offset) -ℤ a in
    let reading = v.scenario.reading device in
    let second : IsReach reading (pos (changed_at v.records device (time_of h))) (value one.entry (adjustment_left v device (time_of h))) (pos (time_of g)) =
    rw rows.1 (rw clock.adjustment (rw clock.since two.reached.reach))
    in
    let at = reached_once (time_of h) (time_of g) le one.reached.reach second in
    let hand : HasAtHand v.scenario.network v.records device one.entry (time_of h) other cycle =
    rw at (rw rows.1 two.at_hand) in
    let cause_is = same_cause is one.row one.at_hand hand in
    let place = place_is h device link cause vl cycle one.is
    ∙ ap (λ t. t ∷ 10 ∷ device.0 ∷ link.0 ∷ cause ∷ vl.0 ∷ cycle ∷ []) at
    ∙ ap (λ c. time_of g ∷ 10 ∷ device.0 ∷ link.0 ∷ c ∷ vl.0 ∷ cycle ∷ []) cause_is
    ∙ sym (place_is g device link other vl cycle two.is) in
    same_by_place h g is one.there two.there place

pub dispatches_are_one : BringsBlocks → DispatchesAreOne
dispatches_are_one brings v h g device link cause other vl cycle is good one two =
    elim (cases_lt (time_of g) (time_of h)) [
      | inl lt ↦ sym (one_in_order brings is good (omega arith) two one)
      | inr ge ↦ one_in_order brings is good ge one two
    ]

-- ---- two frames of the schedule do not meet on a port

module _ (brings : BringsBlocks) (v : View) (h g : Happening) (device : DeviceId) (link : LinkId) (cause other : ℕ)
    (vl second : VlId) (cycle : ℕ) where
  -- the frame of an earlier cycle has left the port
  cycles_apart : {number : ℕ} → IsView v → IsGood v device → cycle < number
      → (one : IsRowDispatch v h device link cause vl cycle) → IsRowDispatch v g device link other second number
      → time_of h + port_time one.entry ≤ time_of g
  cycles_apart {number} is good lt one two =
      let here = dispatches_are_in_spans brings v h device link cause vl cycle is good one in
      let there = dispatches_are_in_spans brings v g device link other second number is good two in
      let before = here.span.block.before in
      let after = there.span.block.before in
      let grow = hulls_grow cycle number before.hull after.hull is lt before.is_hull after.is_hull in
      let narrow = before_narrow before in
      let first = rows_are_in_time v one.place one.entry is one.row in
      let space = room is in
      omega (arith, ints, here.not_late, there.not_early, first.tolerates, first.ends, space.eight_errors)

  -- in one cycle the frame of a row that stands before another has left the port
  rows_apart : IsView v → IsGood v device → (one : IsRowDispatch v h device link cause vl cycle)
      (two : IsRowDispatch v g device link other second cycle) → IsClearBefore v.scenario.network one.entry two.entry
      → time_of h + port_time one.entry ≤ time_of g
  rows_apart is good one two clear =
      let here = dispatches_are_in_spans brings v h device link cause vl cycle is good one in
      let there = dispatches_are_in_spans brings v g device link other second cycle is good two in
      let t = time_of h in
      let u = time_of g in
      let gamma : v.sizes.gamma ≡ gamma_of v.scenario.network = rw is.sizes in
      let space = room is in
      let clocks = steady v is device in
      let sharp = clocks_reach_sharply v device (pos (cycle * v.sizes.cycle + amount one.entry.row.offset)) t is
      one.reached in
      let second =
      clocks_reach_sharply v device (pos (cycle * v.sizes.cycle + amount two.entry.row.offset)) u is two.reached in
      elim (cases_lt t u) [
        | inl lt ↦
            let clock = one_clock brings here.span there.span is
            (record { good = good; synchronised = two.synchronised }) (omega arith)
            in
            let same =
            same_hull v cycle here.span.block.before there.span.block.before in
            let least : here.span.block.before.hull.least ≡ there.span.block.before.hull.least =
            ap (λ (w : Hull). w.least) same in
            let greatest : here.span.block.before.hull.greatest ≡ there.span.block.before.hull.greatest =
            ap (λ (w : Hull). w.greatest) same in
            let narrow = before_narrow here.span.block.before in
            let last = rows_are_in_time v two.place two.entry is two.row in
            let short : u ≤ t + 2 * v.sizes.cycle = omega
            (arith, ints, here.not_early, there.not_late, last.tolerates, last.ends, space.eight_errors) in
            let fast = clocks.fast t u (omega arith) short in
            omega (arith, ints, clock.adjustment, sharp.most, second.least, space.two_drifts, space.two_readings)
        | inr ge ↦
            let clock = one_clock brings there.span here.span is
            (record { good = good; synchronised = one.synchronised }) ge in
            let up = clocks.never_falls u t ge in
            absurd (omega (
              arith,
              ints,
              clock.adjustment,
              sharp.most,
              second.least,
              space.two_drifts,
              space.two_readings,
              space.grain,
            ))
      ]

-- in one cycle
cycle_apart : BringsBlocks → {v : View} {h g : Happening} {device : DeviceId} {link : LinkId} {cause other : ℕ}
    {vl second : VlId} {cycle : ℕ} → IsView v → IsGood v device → (h ≡ g → ⊥)
    → (one : IsRowDispatch v h device link cause vl cycle) (two : IsRowDispatch v g device link other second cycle)
    → (time_of h + port_time one.entry ≤ time_of g) ⊎ (time_of g + port_time two.entry ≤ time_of h)
cycle_apart brings {v} {h} {g} {device} {link} {cause} {other} {vl} {second} {cycle} is good differ one two =
    let network = v.scenario.network in
    let links = one.by ∙ sym two.by in
    let ways = same_way is.lawful.rules one.row two.row links (one.leaves ∙ sym two.leaves) in
    elim (rows_stand_apart network one.place two.place one.entry two.entry cycle is.lawful.rules one.row two.row links ways one.occurs two.occurs) [
      | inl same ↦
          let entries = one_entry network one.place one.entry two.entry one.row
          (rw same two.row) in
          let vls = sym one.of_vl ∙ ap (λ e. e.row.vl) entries ∙ two.of_vl in
          absurd (differ (dispatches_are_one brings v h g device link cause other vl cycle is good one
          (rw vls two)))
      | inr (inl clear) ↦ inl (rows_apart brings v h g device link cause other vl second cycle is good one two clear)
      | inr (inr clear) ↦ inr (rows_apart brings v g h device link other cause second vl cycle is good two one clear)
    ]

pub dispatches_stand_apart : BringsBlocks → DispatchesStandApart
dispatches_stand_apart brings v h g device link cause other vl second cycle number is good differ one two =
    elim (cases_lt cycle number) [
      | inl lt ↦ inl (cycles_apart brings v h g device link cause other vl second cycle is good lt one two)
      | inr ge ↦ elim (cases_lt number cycle) [
        | inl lt ↦ inr (cycles_apart brings v g h device link other cause second vl number is good lt two one)
        | inr le ↦
            let same : cycle ≡ number = omega arith in
            subst (λ m. (last : IsRowDispatch v g device link other second m) → (time_of h + port_time one.entry ≤ time_of g)
            ⊎ (time_of g + port_time last.entry ≤ time_of h)) same
            (λ last. cycle_apart brings is good differ one last) two
      ]
    ]
