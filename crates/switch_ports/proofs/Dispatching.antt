-- What a switch has still to dispatch, what its calls leave as it was, and what its site says.
use Rattle.std.{specs.{List.{All, last_or}, Prelude.{Err, Ok, Result, filter, ⊤}, declared.vec.Vec.Vec}}
use Rattle.std.proofs.{Common.{◌%◌, Global, not}}
use Rattle.std.proofs.lemmas.{Bool.{and_from, both_ways}, List.Elements.{Contains-get_or, filter-append}}
use Rattle.std.proofs.lemmas.{Option.slice_get-map}
use Rattle.net_plan.specs.declared.tables.VirtualLink.{VirtualLink}
use Rattle.pcf_codec.specs.{EtherType.pcf_type, Fields.field, declared.refusal.PcfRefusal.PcfRefusal}
use Rattle.run_law.specs.{declared.steps.Arrival.Arrival, device.Standpoints.Standpoint as Point}
use Rattle.run_law.specs.{machines.{Answers.with_taken, Nodes.{arriving, standpoint_at}, Tasks.{HasFrame, offset_of}}}
use Rattle.run_law.specs.{scenario.Devices.{channel_of, channel_of_link, is_parent_of, is_relay, member_of}}
use Rattle.run_law.specs.control.Arrivals
use Arrivals.{are_others, control_arrival, frame_fault, frame_or_fault, frame_taken, is_of_other_member}
use Rattle.schedule_tables.{proofs.SlotLemmas.{in_range, one_entry}, specs.Windows.OccursIn}
use Rattle.switch_ports.proofs.{EachRow.all_each, Ranges.site_in_range}
use Rattle.switch_ports.proofs.{RowKeys.{chained_each, fit_reopened, fit_taken, of_taken}}
use Rattle.switch_ports.proofs.Words
use Words.{if◌then◌else◌, ◌&&◌, ◌*◌, ◌++◌, ◌+ℤ◌, ◌+◌, ◌-ℤ◌, ◌<ℤ◌, ◌<◌, ◌==◌, ◌^◌, ◌∙◌, ◌∷◌, ◌≡◌, ◌≤ℤ◌, ◌≤◌, ◌⊎◌}
use Words.{All-contains, AreChained, AreEach, Awaits, AwaitsIn, AwaitsSo, Bool, Changes, ClockTask, Contains, Departure}
use Words.{Departures, Device, DeviceId, Dispatch, Entry, HasDepartures, HasTaken, Held, IfSome, Intake, Integrating}
use Words.{IsAccepted, IsBegun, IsDeparture, IsEntry, IsInRange, IsLeaving, IsPending, IsSiteOf, IsSomeAnd, Joining}
use Words.{KnowsNext, Link, LinkId, List, MayCall, Members, Moment, Network, Node, None, Off, Option, Pcf, Phase, Port}
use Words.{Precedes, Reason, Row, RowId, Some, Standing, StandsAs, State, Switch, SwitchRow, SyncPlan, Synchronised}
use Words.{TakenFrame, Task, Units, VlId, [], after_arrival, amount, amount_most, ap, arith, called, cases_Bool}
use Words.{correcting, dispatch_at, dispatching, doing, emitting, eqb-true, false, further, get_or, held_by, held_in}
use Words.{in_none, inl, inr, int_lt, ints, is_end, is_end_system, length, link_at, nat_le, option_and_then, option_map}
use Words.{option_map_or, port_of, pos, reading_for, refl, sending, slice_get, standpoint_of, subst, sym, through, true}
use Words.{unwrap_or, value_of, with_taking, ℕ, ℤ}
use Rattle.switch_ports.specs.{Departing.{IsKeptSo, Keeps, Reopens, last_of}, Intakes.IsTakenSo}
use Rattle.switch_ports.specs.{Sites.{end_below, is_below, is_other_member, no_port, port_in}, Standpoints.IsAlive}
use Rattle.switch_ports.specs.{declared.{site.Site.Site, standpoint.Standpoint.{Standpoint, Standpoint as Place}}}
use Rattle.switch_ports.specs.Leaving
use Leaving.{HasRow, IsFirstOf, IsFit, IsFresh, awaited_of, dispatch_by, is_dispatch_in, reopened, value_in, with_held}
use Rattle.tte_units.proofs.general_lemmas.{Bools.{both_left, both_right, turned}, Integers.{int_lt-from, int_lt-is}}
use Rattle.tte_units.proofs.general_lemmas.{Lists.{got_within, last_kept, last_pushed}, Options.mapped}
use Rattle.run_law.specs.declared.steps.Arrival.TheVariants as arrivals
use Rattle.schedule_tables.specs.declared.rule.Rule.TheVariants as rules
use Rattle.switch_ports.specs.declared.site.Peer.TheVariants as peers

-- ---- what a switch has still to dispatch, from call to call: the clock goes on

pub later_by : (x y a : ℤ) → x ≤ℤ y → (x +ℤ a) ≤ℤ (y +ℤ a)
later_by x y a h = omega (arith, ints, h)

pub awaits_later : (state : State) (network : Network) (ds : Departures) (adjustment changed : ℤ) (done : List ClockTask) (x y : ℤ)
    → AwaitsIn state network ds adjustment changed done x → x ≤ℤ y → AwaitsIn state network ds adjustment changed done y
awaits_later Synchronised network ds adjustment changed done x y h le =
    record { each = h.each; next = h.next; passed = λ row cycle there. through _ _ _ (h.passed row cycle there) le }
awaits_later Off network ds adjustment changed done x y h le = h
awaits_later Integrating network ds adjustment changed done x y h le = h
awaits_later Joining network ds adjustment changed done x y h le = h

-- at a call that changes nothing of it
pub awaits_called : {s : Switch} {network : Network} {device : DeviceId} {node : Node} (moment : Moment)
    → StandsAs s network device node → node.last.reading.0 ≤ℤ moment.reading.0
    → AwaitsIn node.standing.state network s.departures node.standing.adjustment.0 node.changed node.done
    (moment.reading.0 +ℤ node.standing.adjustment.0)
awaits_called {s} {network} {node} moment st later =
    awaits_later node.standing.state network s.departures node.standing.adjustment.0 node.changed node.done _ _ st.awaits
    (later_by node.last.reading.0 moment.reading.0 node.standing.adjustment.0 later)

all_weaker : (P Q : Departure → Type 0) (rows : List Departure) → ((d : Departure) → P d → Q d) → All P rows → All Q rows
all_weaker P Q rows step all k d lt = step (get_or rows k d) (all k d lt)

-- ---- frames

pub opens : (changed : ℤ) (o : Option Held) (h : Held) → awaited_of changed o ≡ Some h → (o ≡ Some h) × (changed <ℤ h.value.0)
opens changed None h e = absurd cc
opens changed (Some held) h e = elim (cases_Bool (int_lt changed held.value.0)) [
  | inl y ↦
      let f : Some held ≡ Some h = rw y at e in
      let same : held ≡ h = cc in
      (f, subst (λ (x : Held). changed <ℤ x.value.0) same (grind (arith, ints, y)))
  | inr n ↦ absurd (let f : None ≡ Some h = rw n at e in cc)
]

open_so : (changed : ℤ) (h : Held) → changed <ℤ h.value.0 → awaited_of changed (Some h) ≡ Some h
open_so changed h lt = let y : int_lt changed h.value.0 ≡ true = grind (arith, ints, lt) in rw y refl

pub opened_by : (changed : ℤ) (o : Option Held) (h : Held) → o ≡ Some h → changed <ℤ h.value.0 → awaited_of changed o ≡ Some h
opened_by changed o h e lt = rw e (open_so changed h lt)

-- ---- rows, each by itself

has_row : {f : Departure → Departure} {old new : List Departure} (place : ℕ) → AreEach f old new
    → ((d : Departure) → (f d).of ≡ d.of) → HasRow old place → HasRow new place
has_row {f} {new} place each of (d, (k, lt, at), is) =
    let lt' : k < length new = subst (λ n. k < n) (sym each.count) lt in
    let same : get_or new k d ≡ f d = each.each k d lt ∙ ap f at in
    (f d, subst (Contains new) same (Contains-get_or new k d lt'), ap (λ (o : SwitchRow). o.row.0) (of d) ∙ is)

pub departs_each : {network : Network} {device : DeviceId} {f : Departure → Departure} {old new : Departures}
    {before : List TakenFrame} (after : List TakenFrame) → Changes f old new → ((d : Departure) → (f d).of ≡ d.of)
    → ((d : Departure) → IsDeparture network device before d → IsDeparture network device after (f d))
    → HasDepartures network device old before → HasDepartures network device new after
departs_each {network} {device} {new} {before} after changes of step h =
    let each = all_each (IsDeparture network device before) (IsDeparture network device after) changes.rows step
    h.each in
    record {
      each = each;
      complete = λ place entry is leaves. has_row place changes.rows of (h.complete place entry is leaves);
      ready = record {
        fit = all_weaker (IsDeparture network device after) IsFit new.rows.items (λ d is. is.fit) each;
        chained = subst (λ (v : Vec (Option ℕ) Global). AreChained new.rows.items v.items) (sym changes.lasts)
            (chained_each changes.rows of h.ready.chained);
        keys = changes.keys;
      };
    }

-- nothing comes
pub departs_stopped : {network : Network} {device : DeviceId} {old : Departures} (new : Departures)
    {taken : List TakenFrame} → new ≡ record old { next = None } → HasDepartures network device old taken
    → HasDepartures network device new taken
departs_stopped {network} {device} new {taken} same h =
    subst (λ ds. HasDepartures network device ds taken) (sym same) (record {
      each = h.each;
      complete = h.complete;
      ready = record { fit = h.ready.fit; chained = h.ready.chained; keys = h.ready.keys };
    })

-- ---- the adjustment has changed

pub departs_reopened : {network : Network} {device : DeviceId} (changed : ℤ) {old new : Departures}
    {taken : List TakenFrame} → Changes (reopened changed) old new → HasDepartures network device old taken
    → HasDepartures network device new taken
departs_reopened changed {taken} changes h =
    departs_each taken changes (λ d. refl)
    (λ d is. record { of = is.of; held = is.held; fit = fit_reopened changed is.fit }) h

awaits_anew : (changed : ℤ) (d : Departure) → AwaitsSo changed [] (reopened changed d)
awaits_anew changed d held = (
  λ e. let o = opens changed d.held held e in record { is = o.0; ahead = o.1; not_yet = λ there. in_none (dispatching d.of.row held.cycle) there },
  λ is. opened_by changed d.held held is.is is.ahead,
)

pub awaits_reopened : (network : Network) {old new : Departures} {adjustment changed : ℤ} (local : ℤ)
    → Reopens old changed adjustment new → Awaits network new adjustment changed [] local
awaits_reopened network {changed} local h = record {
  each = all_each (λ d. ⊤) (AwaitsSo changed []) h.changes.rows (λ d t. awaits_anew changed d) (λ k d lt. tt);
  next = h.next;
  passed = λ row cycle there. absurd (in_none (dispatching row cycle) there);
}

-- a joiner comes to nothing
pub awaits_cleared : (state : State) (network : Network) (old new : Departures) (adjustment changed : ℤ) (done after : List ClockTask) (x y : ℤ)
    → state ≡ Joining → new ≡ old → AwaitsIn state network old adjustment changed done x → AwaitsIn state network new adjustment changed after y
awaits_cleared Joining network old new adjustment changed done after x y is same h = ap (λ (ds : Departures). ds.next) same ∙ h
awaits_cleared Off network old new adjustment changed done after x y is same h = ap (λ (ds : Departures). ds.next) same ∙ h
awaits_cleared Integrating network old new adjustment changed done after x y is same h = ap (λ (ds : Departures). ds.next) same ∙ h
awaits_cleared Synchronised network old new adjustment changed done after x y is same h = absurd cc

-- ---- at the beginning

fresh_fit : {network : Network} {device : DeviceId} {d : Departure} → IsInRange network → IsFresh network device d
    → IsFit d
fresh_fit {network} {d} range is =
    let entry = in_range network d.of.row.0 is.of.entry range is.of.is in record {
      offset = subst (λ (o : SwitchRow). o.offset ≤ 2 ^ 40) (sym is.of.kept) (amount_most entry.row.offset);
      period = subst (λ (o : SwitchRow). 1 ≤ o.period) (sym is.of.kept) entry.vl.period_least;
      link = subst (λ (o : SwitchRow). o.link.0 < 2 ^ 32) (sym is.of.kept) (let a = entry.row.link in let b = range.few_links in omega (arith, a, b));
      place =
          let a = is.place in let b = got_within network.row d.of.row.0 is.of.entry.row is.of.is.row in let c = range.few_rows in omega (arith, a, b, c);
      held = rw is.held tt;
      awaited = rw is.awaited tt;
    }

pub departs_fresh : {network : Network} {device : DeviceId} {ds : Departures} → IsInRange network
    → IsBegun network device ds → HasDepartures network device ds []
departs_fresh {network} {device} {ds} range begun = record {
  each = all_weaker (IsFresh network device) (IsDeparture network device []) ds.rows.items
      (λ d is. record { of = is.of; held = is.held; fit = fresh_fit range is }) begun.rows.each;
  complete = λ place entry is leaves. begun.rows.complete place entry is leaves (got_within network.row place entry.row is.row);
  ready = record {
    fit = all_weaker (IsFresh network device) IsFit ds.rows.items (λ d is. fresh_fit range is) begun.rows.each;
    chained = begun.rows.chained;
    keys = begun.keys;
  };
}

none_to_come : (changed : ℤ) (done : List ClockTask) (d : Departure) → d.held ≡ None → d.awaited ≡ None → AwaitsSo changed done d
none_to_come changed done d none absent held = (
  λ e. absurd (let f = sym absent ∙ e in cc),
  λ is. absurd (let f = sym none ∙ is.is in cc),
)

pub awaits_fresh : (state : State) {network : Network} {device : DeviceId} {ds : Departures}
    (adjustment changed local : ℤ) → IsBegun network device ds → AwaitsIn state network ds adjustment changed [] local
awaits_fresh Off adjustment changed local begun = begun.next
awaits_fresh Integrating adjustment changed local begun = begun.next
awaits_fresh Joining adjustment changed local begun = begun.next
awaits_fresh Synchronised {network} {device} {ds} adjustment changed local begun = record {
  each = all_weaker (IsFresh network device) (AwaitsSo changed []) ds.rows.items (λ d is. none_to_come changed [] d is.held is.awaited) begun.rows.each;
  next = subst (IsFirstOf adjustment ds.rows.items) (sym begun.next)
      (λ k d lt. ap (option_map (dispatch_at adjustment (get_or ds.rows.items k d).of)) (begun.rows.each k d lt).awaited);
  passed = λ row cycle there. absurd (in_none (dispatching row cycle) there);
}

-- ---- the frame of a row

-- where the row's frame of a cycle is dispatched
pub value_is : {network : Network} {device : DeviceId} {of : SwitchRow} (cycle : ℕ) → IsLeaving network device of
    → value_of network (dispatching of.row cycle) ≡ value_in (amount network.cycle) of cycle
value_is {network} {of} cycle is =
    let offset : offset_of network of.row ≡ of.offset =
    ap (λ (o : Option Row). option_map_or (λ r. amount r.offset) o 0) is.is.row ∙ sym (ap (λ (o : SwitchRow). o.offset) is.kept) in
    ap (λ n. pos (cycle * amount network.cycle + n)) offset

-- what is held of a taking
held_so : (length : ℕ) (of : SwitchRow) (cycle : ℕ) (at : ℤ) (h : Held) → held_by length of cycle at ≡ Some h
    → (h ≡ held_in length of cycle) × (is_dispatch_in of cycle ≡ true) × (at <ℤ value_in length of cycle)
held_so length of cycle at h e = elim (cases_Bool (is_dispatch_in of cycle && int_lt at (value_in length of cycle))) [
  | inl y ↦
      let f : Some (held_in length of cycle) ≡ Some h = rw y at e in
      let g : held_in length of cycle ≡ h = cc in
      (sym g, both_left _ _ y, int_lt-is _ _ (both_right _ _ y))
  | inr n ↦ absurd (let f : None ≡ Some h = rw n at e in cc)
]

held_of : (length : ℕ) (of : SwitchRow) (cycle : ℕ) (at : ℤ) → is_dispatch_in of cycle ≡ true → at <ℤ value_in length of cycle
    → held_by length of cycle at ≡ Some (held_in length of cycle)
held_of length of cycle at occurs lt =
    let y : (is_dispatch_in of cycle && int_lt at (value_in length of cycle)) ≡ true = and_from _ _ occurs (int_lt-from _ _ lt) in rw y refl

-- ---- one frame more

last_new : (taken : List TakenFrame) (t : TakenFrame) (vl : VlId) → (t.vl.0 == vl.0) ≡ true → last_of (taken ++ t ∷ []) vl ≡ Some t
last_new taken t vl e =
    ap (λ (ts : List TakenFrame). last_or None ts) (filter-append (λ x. x.vl.0 == vl.0) taken (t ∷ []))
    ∙ rw e (last_pushed None (filter (λ x. x.vl.0 == vl.0) taken) t)

last_old : (taken : List TakenFrame) (t : TakenFrame) (vl : VlId) → (t.vl.0 == vl.0) ≡ false → last_of (taken ++ t ∷ []) vl ≡ last_of taken vl
last_old taken t vl e =
    ap (λ (ts : List TakenFrame). last_or None ts) (filter-append (λ x. x.vl.0 == vl.0) taken (t ∷ []))
    ∙ rw e (last_kept None (filter (λ x. x.vl.0 == vl.0) taken))

abbrev pub taken_as : ℕ → ℤ → TakenFrame → Departure → Departure
taken_as length changed t d = with_taking length changed (record { vl = t.vl; cycle = t.cycle; at = record { 0 = t.at } }) d

departure_kept : {network : Network} {device : DeviceId} {taken : List TakenFrame} (t : TakenFrame) (changed : ℤ)
    {d : Departure} (b : Bool) → (d.of.vl.0 == t.vl.0) ≡ b → t.cycle * amount network.cycle ≤ 2 ^ 62
    → IsDeparture network device taken d → IsDeparture network device (taken ++ t ∷ [])
    (if b then with_held changed (held_by (amount network.cycle) d.of t.cycle t.at) d else d)
departure_kept {network} {taken} t changed {d} true e fits is =
    record {
      of = is.of;
      held = sym (ap (option_and_then (λ (x : TakenFrame). held_by (amount network.cycle) d.of x.cycle x.at)) (last_new taken t d.of.vl (turned _ _ true e)));
      fit = fit_taken (amount network.cycle) t.cycle changed t.at true fits is.fit;
    }
departure_kept {network} {taken} t changed {d} false e fits is = record {
  of = is.of;
  held = is.held
      ∙ sym (ap (option_and_then (λ (x : TakenFrame). held_by (amount network.cycle) d.of x.cycle x.at)) (last_old taken t d.of.vl (turned _ _ false e)));
  fit = is.fit;
}

departs_taken : {network : Network} {device : DeviceId} {old new : Departures} {taken : List TakenFrame}
    (t : TakenFrame) (changed : ℤ) → t.cycle * amount network.cycle ≤ 2 ^ 62
    → Changes (taken_as (amount network.cycle) changed t) old new → HasDepartures network device old taken
    → HasDepartures network device new (taken ++ t ∷ [])
departs_taken {network} {taken} t changed fits changes h =
    departs_each (taken ++ t ∷ []) changes
    (λ d. of_taken (amount network.cycle) t.cycle changed t.at d (d.of.vl.0 == t.vl.0))
    (λ d is. departure_kept t changed (d.of.vl.0 == t.vl.0) refl fits is) h

clash : (x y z v w : ℤ) → v ≤ℤ x → x ≤ℤ y → y <ℤ z → v ≡ w → w ≡ z → ⊥
clash x y z v w a b c d e = omega (arith, ints, a, b, c, d, e)

awaits_kept : {network : Network} {device : DeviceId} (t : TakenFrame) (changed x : ℤ) (done : List ClockTask)
    (d : Departure) (b : Bool) → ((row : RowId) (cycle : ℕ) → Contains done (dispatching row cycle)
    → value_of network (dispatching row cycle) ≤ℤ x) → x ≤ℤ t.at → IsLeaving network device d.of
    → AwaitsSo changed done d
    → AwaitsSo changed done (if b then with_held changed (held_by (amount network.cycle) d.of t.cycle t.at) d else d)
awaits_kept t changed x done d false passed le is h held = h held
awaits_kept {network} t changed x done d true passed le is h held =
    let o = held_by (amount network.cycle) d.of t.cycle t.at in (
      λ e. let f = opens changed o held e in record {
        is = f.0;
        ahead = f.1;
        not_yet = λ there.
            let g = held_so (amount network.cycle) d.of t.cycle t.at held f.0 in
            clash x t.at (value_in (amount network.cycle) d.of t.cycle) (value_of network (dispatching d.of.row held.cycle))
            (value_in (amount network.cycle) d.of held.cycle) (passed d.of.row held.cycle there) le g.2
            (value_is held.cycle is)
            (ap (λ (y : Held). value_in (amount network.cycle) d.of y.cycle) g.0);
      },
      λ f. opened_by changed o held f.is f.ahead,
    )

awaits_taken : (state : State) {network : Network} {device : DeviceId} {old new : Departures}
    {taken : List TakenFrame} (t : TakenFrame) (adjustment changed x : ℤ) (done : List ClockTask)
    → state ≡ Synchronised → HasDepartures network device old taken
    → Changes (taken_as (amount network.cycle) changed t) old new → KnowsNext adjustment new
    → AwaitsIn state network old adjustment changed done x → x ≤ℤ t.at
    → AwaitsIn state network new adjustment changed done t.at
awaits_taken Off t adjustment changed x done is has changes next h le = absurd cc
awaits_taken Integrating t adjustment changed x done is has changes next h le = absurd cc
awaits_taken Joining t adjustment changed x done is has changes next h le = absurd cc
awaits_taken Synchronised {network} {device} {taken} t adjustment changed x done is has changes next h le = record {
  each = all_each (λ d. IsDeparture network device taken d × AwaitsSo changed done d) (AwaitsSo changed done)
      changes.rows
      (λ d both. awaits_kept t changed x done d (d.of.vl.0 == t.vl.0) h.passed le both.0.of both.1)
      (λ k d lt. (has.each k d lt, h.each k d lt));
  next = next;
  passed = λ row cycle there. through _ _ _ (h.passed row cycle there) le;
}

-- ---- the rows' frames that a switch has still to dispatch: no switch is a sender

its_role : (o : Option Device) → IsSomeAnd o (λ d. is_end_system d.role ≡ true) → option_map_or (λ d. is_end_system d.role) o false ≡ true
its_role None some = absurd some
its_role (Some d) some = some

no_sender : {network : Network} (device : DeviceId) {place : ℕ} {entry : Entry} → IsAccepted network
    → is_end network device ≡ false → IsEntry network place entry → entry.vl.sender ≡ device → ⊥
no_sender {network} device {entry} accepted not_end is sends =
    let role = its_role _ (accepted.rules rules.Senders entry.row.vl.0 entry.vl is.vl) in
    both_ways (is_end network device) not_end (subst (λ d. is_end network d ≡ true) sends role)

-- ---- what a row holds is what the device has at hand

module _ (of : SwitchRow) (vl : VirtualLink) (cycle : ℕ) (e : of.period ≡ vl.period) (f : of.phase ≡ vl.phase) where
  occurs_so : OccursIn vl cycle → is_dispatch_in of cycle ≡ true
  occurs_so o = let a = o.begun in let b = o.in_phase in rw e (rw f (grind (arith, a, b)))

  occurs_as : is_dispatch_in of cycle ≡ true → OccursIn vl cycle
  occurs_as o =
      let h : (nat_le 1 cycle && cycle % vl.period == vl.phase) ≡ true = rw (sym e) (rw (sym f) o) in
      record { begun = grind (arith, h); in_phase = grind (arith, h) }

from_last : (length : ℕ) (of : SwitchRow) (cycle : ℕ) (value : ℤ) (o : Option TakenFrame) → is_dispatch_in of cycle ≡ true → value ≡ value_in length of cycle
    → IsSomeAnd o (λ t. (t.cycle ≡ cycle) × (t.at <ℤ value)) → option_and_then (λ t. held_by length of t.cycle t.at) o ≡ Some (held_in length of cycle)
from_last length of cycle value None occurs v some = absurd some
from_last length of cycle value (Some t) occurs v (e, lt) =
    ap (λ n. held_by length of n t.at) e ∙ held_of length of cycle t.at occurs (subst (λ z. t.at <ℤ z) v lt)

to_last : (length : ℕ) (of : SwitchRow) (h : Held) (o : Option TakenFrame) → option_and_then (λ t. held_by length of t.cycle t.at) o ≡ Some h
    → (h ≡ held_in length of h.cycle) × (is_dispatch_in of h.cycle ≡ true) × IsSomeAnd o (λ t. (t.cycle ≡ h.cycle) × (t.at <ℤ value_in length of h.cycle))
to_last length of h None e = absurd cc
to_last length of h (Some t) e = grind (arith, held_so, held_in)

module _ {network : Network} {device : DeviceId} {of : SwitchRow} (is : IsLeaving network device of) where
  its_vl : of.vl ≡ is.entry.row.vl
  its_vl = ap (λ (o : SwitchRow). o.vl) is.kept

  its_period : of.period ≡ is.entry.vl.period
  its_period = ap (λ (o : SwitchRow). o.period) is.kept

  its_phase : of.phase ≡ is.entry.vl.phase
  its_phase = ap (λ (o : SwitchRow). o.phase) is.kept

pub frame_held : {network : Network} {device : DeviceId} {node : Node} {d : Departure} {cycle : ℕ}
    → IsAccepted network → is_end network device ≡ false → IsDeparture network device node.taken d
    → HasFrame network device node d.of.row cycle → d.held ≡ Some (held_in (amount network.cycle) d.of cycle)
frame_held {network} {device} {node} {d} {cycle} accepted not_end is f =
    let entry : f.entry ≡ is.of.entry = one_entry network d.of.row.0 f.entry is.of.entry f.is is.of.is in
    let occurs = occurs_so d.of is.of.entry.vl cycle (its_period is.of) (its_phase is.of)
    (subst (λ (e : Entry). OccursIn e.vl cycle) entry f.occurs) in
    let vl : f.entry.row.vl ≡ d.of.vl = ap (λ (e : Entry). e.row.vl) entry ∙ sym (its_vl is.of) in
    is.held ∙ elim f.has [
      | inl sends ↦ absurd (no_sender device accepted not_end f.is sends)
      | inr (y, has) ↦
          from_last (amount network.cycle) d.of cycle (value_of network (dispatching d.of.row cycle)) (last_of node.taken d.of.vl) occurs
          (value_is cycle is.of)
          (subst (λ (v : VlId). IsSomeAnd (last_of node.taken v)
          (λ t. (t.cycle ≡ cycle) × (t.at <ℤ value_of network (dispatching d.of.row cycle)))) vl has.last)
    ]

pub held_frame : {network : Network} {device : DeviceId} (node : Node) {d : Departure} (h : Held)
    → is_end network device ≡ false → IsDeparture network device node.taken d → d.held ≡ Some h
    → HasFrame network device node d.of.row h.cycle × (h ≡ held_in (amount network.cycle) d.of h.cycle)
held_frame {network} node {d} h not_end is e =
    let g = to_last (amount network.cycle) d.of h (last_of node.taken d.of.vl) (sym is.held ∙ e) in (
      record {
        entry = is.of.entry;
        is = is.of.is;
        leaves = is.of.leaves;
        occurs = occurs_as d.of is.of.entry.vl h.cycle (its_period is.of) (its_phase is.of) g.1;
        has = inr (
          not_end,
          record {
            last = subst (λ (v : VlId). IsSomeAnd (last_of node.taken v) (λ t. (t.cycle ≡ h.cycle)
                × (t.at <ℤ value_of network (dispatching d.of.row h.cycle)))) (its_vl is.of)
                (subst (λ (z : ℤ). IsSomeAnd (last_of node.taken d.of.vl) (λ t. (t.cycle ≡ h.cycle) × (t.at <ℤ z)))
                (sym (value_is h.cycle is.of)) g.2);
          },
        );
      },
      g.0,
    )

-- ---- the tasks

-- the task is the dispatch of a frame that a row awaits
abbrev pub IsDispatch : Switch → Network → Node → Task → Type 0
IsDispatch s network node (doing (dispatching row cycle)) =
    (d : Departure) × Contains s.departures.rows.items d × (d.awaited ≡ Some (held_in (amount network.cycle) d.of cycle)) × (d.of.row ≡ row)
    × (node.standing.state ≡ Synchronised)
IsDispatch s network node other = ⊥

same_row : (a b : RowId) → a.0 ≡ b.0 → a ≡ b
same_row a b e = ap (λ (n : ℕ). record { 0 = n }) e

awaits_then : (state : State) (network : Network) (ds : Departures) (node : Node) (x : ℤ) → state ≡ Synchronised
    → AwaitsIn state network ds node.standing.adjustment.0 node.changed node.done x → Awaits network ds node.standing.adjustment.0 node.changed node.done x
awaits_then Synchronised network ds node x e h = h
awaits_then other network ds node x e h = absurd cc

module _ (s : Switch) (network : Network) (device : DeviceId) (node : Node) where
  -- what a synchronised switch awaits
  pub its_awaits : StandsAs s network device node → node.standing.state ≡ Synchronised
      → Awaits network s.departures node.standing.adjustment.0 node.changed node.done
      (node.last.reading.0 +ℤ node.standing.adjustment.0)
  its_awaits st sync = awaits_then node.standing.state network s.departures node _ sync st.awaits

  pub pending_dispatch : (row : RowId) (cycle : ℕ) → StandsAs s network device node
      → IsPending network device node (doing (dispatching row cycle))
      → IsDispatch s network node (doing (dispatching row cycle))
  pending_dispatch row cycle st p =
      let f = p.1.own.1 in
      let r = st.departs.complete row.0 f.entry f.is f.leaves in
      let d = r.0 in
      let same : d.of.row ≡ row = same_row d.of.row row r.2 in
      let is = All-contains (IsDeparture network device node.taken) s.departures.rows.items d st.departs.each r.1 in
      let held = frame_held st.accepted st.site.not_end is
      (subst (λ x. HasFrame network device node x cycle) (sym same) f) in
      let awaits = its_awaits st p.1.own.0 in
      let h = held_in (amount network.cycle) d.of cycle in
      let so = All-contains (AwaitsSo node.changed node.done) s.departures.rows.items d awaits.each r.1 h in
      let ahead = subst (λ z. node.changed <ℤ z)
      (ap (λ (x : RowId). value_of network (dispatching x cycle)) (sym same) ∙ value_is cycle is.of)
      p.1.ahead in (
        d,
        r.1,
        so.1 (record { is = held; ahead = ahead; not_yet = λ there. p.1.not_yet (subst (λ (x : RowId). Contains node.done (dispatching x cycle)) same there) }),
        same,
        p.1.own.0,
      )

  -- what a row awaits is the frame of a cycle
  pub awaited_is : (d : Departure) (h : Held) → StandsAs s network device node → node.standing.state ≡ Synchronised
      → Contains s.departures.rows.items d → d.awaited ≡ Some h → h ≡ held_in (amount network.cycle) d.of h.cycle
  awaited_is d h st sync there e =
      let awaits = its_awaits st sync in
      let come = (All-contains (AwaitsSo node.changed node.done) s.departures.rows.items d awaits.each there h).0 e in
      let is = All-contains (IsDeparture network device node.taken) s.departures.rows.items d st.departs.each there in
      (held_frame node h st.site.not_end is come.is).1

  pub dispatch_is : (task : Task) → StandsAs s network device node → IsDispatch s network node task
      → IsPending network device node task
  dispatch_is (emitting sent) st p = absurd p
  dispatch_is (doing (sending cycle)) st p = absurd p
  dispatch_is (doing (correcting cycle)) st p = absurd p
  dispatch_is (doing (dispatching row cycle)) st (d, there, e, same, sync) =
      let h = held_in (amount network.cycle) d.of cycle in
      let awaits = its_awaits st sync in
      let come = (All-contains (AwaitsSo node.changed node.done) s.departures.rows.items d awaits.each there h).0 e in
      let is = All-contains (IsDeparture network device node.taken) s.departures.rows.items d st.departs.each there in
      let frame = (held_frame node h st.site.not_end is come.is).0 in
      subst (λ (x : RowId). IsPending network device node (doing (dispatching x cycle))) same (
        st.sound,
        record {
          own = (sync, frame);
          ahead = subst (λ z. node.changed <ℤ z) (sym (value_is cycle is.of)) come.ahead;
          not_yet = come.not_yet;
        },
      )

-- ---- the first of them by its reading

-- a switch that is not synchronised awaits nothing
awaits_or_none : (state : State) (network : Network) (ds : Departures) (node : Node) (x : ℤ)
    → AwaitsIn state network ds node.standing.adjustment.0 node.changed node.done x → (state ≡ Synchronised) ⊎ (ds.next ≡ None)
awaits_or_none Synchronised network ds node x h = inl refl
awaits_or_none other network ds node x h = inr h

module _ (s : Switch) (network : Network) (device : DeviceId) (node : Node) where
  pub its_state : (next : Dispatch) → StandsAs s network device node → s.departures.next ≡ Some next
      → node.standing.state ≡ Synchronised
  its_state next st e = grind (arith, awaits_or_none)

  pub its_first : (o : Option Dispatch) → StandsAs s network device node → node.standing.state ≡ Synchronised
      → s.departures.next ≡ o → IsFirstOf node.standing.adjustment.0 s.departures.rows.items o
  its_first o st sync e =
      subst (IsFirstOf node.standing.adjustment.0 s.departures.rows.items) e
      (its_awaits s network device node st sync).next

-- the row that dispatches next
pub record IsNextOf (s : Switch) (network : Network) (node : Node) (next : Dispatch) : Type 0 where
  pub d : Departure
  pub there : Contains s.departures.rows.items d
  pub awaited : d.awaited ≡ Some (held_in (amount network.cycle) d.of next.cycle)
  pub is : next ≡ dispatch_at node.standing.adjustment.0 d.of (held_in (amount network.cycle) d.of next.cycle)
  pub sync : node.standing.state ≡ Synchronised

module _ (s : Switch) (network : Network) (device : DeviceId) (node : Node) where
  pub next_of : (next : Dispatch) → StandsAs s network device node → s.departures.next ≡ Some next
      → IsNextOf s network node next
  next_of next st e =
      let sync = its_state s network device node next st e in
      let first = (its_first s network device node (Some next) st sync e).0 in
      let d = first.0 in
      let m = mapped (dispatch_at node.standing.adjustment.0 d.of) d.awaited next first.2 in
      let h = m.0 in
      let cycle : h.cycle ≡ next.cycle = ap (λ (x : Dispatch). x.cycle) m.2 in
      let is : h ≡ held_in (amount network.cycle) d.of next.cycle =
      awaited_is s network device node d h st sync first.1 m.1 ∙ ap (held_in (amount network.cycle) d.of) cycle in
      record {
        d = d;
        there = first.1;
        awaited = m.1 ∙ ap Some is;
        is = sym m.2 ∙ ap (dispatch_at node.standing.adjustment.0 d.of) is;
        sync = sync;
      }

  pub leaves_so : (d : Departure) → StandsAs s network device node → Contains s.departures.rows.items d
      → IsLeaving network device d.of
  leaves_so d st there =
      (All-contains (IsDeparture network device node.taken) s.departures.rows.items d st.departs.each there).of

  -- the dispatch that comes next is a task
  pub next_is : (next : Dispatch) → StandsAs s network device node → s.departures.next ≡ Some next
      → IsDispatch s network node (doing (dispatching next.row next.cycle))
      × (reading_for network node (doing (dispatching next.row next.cycle)) ≡ next.at.0)
  next_is next st e =
      let n = next_of next st e in
      let row : n.d.of.row ≡ next.row = sym (ap (λ (x : Dispatch). x.row) n.is) in
      let at : next.at.0 ≡ value_in (amount network.cycle) n.d.of next.cycle -ℤ node.standing.adjustment.0 =
      ap (λ (x : Dispatch). x.at.0) n.is in (
        (n.d, n.there, n.awaited, row, n.sync),
        ap (λ (r : RowId). value_of network (dispatching r next.cycle) -ℤ node.standing.adjustment.0) (sym row)
            ∙ ap (λ z. z -ℤ node.standing.adjustment.0) (value_is next.cycle (leaves_so n.d st n.there))
            ∙ sym at,
      )

none_mapped : {X Y : Type 0} (f : X → Y) (o : Option X) (x : X) → o ≡ Some x → option_map f o ≡ None → ⊥
none_mapped f None x e n = cc
none_mapped f (Some y) x e n = cc

pub no_dispatch : {s : Switch} {network : Network} {device : DeviceId} {node : Node} (task : Task)
    → StandsAs s network device node → s.departures.next ≡ None → IsDispatch s network node task → ⊥
no_dispatch (emitting sent) st e p = p
no_dispatch (doing (sending cycle)) st e p = p
no_dispatch (doing (correcting cycle)) st e p = p
no_dispatch (doing (dispatching row cycle)) st e (d, there, awaited, same, sync) =
    grind (arith, its_first, none_mapped, dispatch_at, All-contains)

late_by : (f : Held → Dispatch) (o : Option Held) (h : Held) (next : Dispatch) → o ≡ Some h → IfSome (option_map f o) (λ other. Precedes other next → ⊥)
    → Precedes (f h) next → ⊥
late_by f None h next e late = absurd cc
late_by f (Some x) h next e late = let same : x ≡ h = cc in subst (λ (y : Held). Precedes (f y) next → ⊥) same late

-- none comes before it
pub not_sooner : {s : Switch} {network : Network} {device : DeviceId} {node : Node} (next : Dispatch) (d : Departure)
    (h : Held) → StandsAs s network device node → s.departures.next ≡ Some next → Contains s.departures.rows.items d
    → d.awaited ≡ Some h → Precedes (dispatch_at node.standing.adjustment.0 d.of h) next → ⊥
not_sooner {s} {network} {device} {node} next d h st e there awaited =
    let sync = its_state s network device node next st e in
    let first = its_first s network device node (Some next) st sync e in
    late_by (dispatch_at node.standing.adjustment.0 d.of) d.awaited h next awaited
    (All-contains (λ x. IfSome (dispatch_by node.standing.adjustment.0 x) (λ other. Precedes other next → ⊥)) s.departures.rows.items d first.1 there)

not_less : (x y : ℤ) → (x <ℤ y → ⊥) → y ≤ℤ x
not_less x y h = grind (arith, ints, h)

pub dispatch_bound : {s : Switch} {network : Network} {device : DeviceId} {node : Node} (next : Dispatch)
    (task : Task) → StandsAs s network device node → s.departures.next ≡ Some next → IsDispatch s network node task
    → next.at.0 ≤ℤ reading_for network node task
dispatch_bound next (emitting sent) st e p = absurd p
dispatch_bound next (doing (sending cycle)) st e p = absurd p
dispatch_bound next (doing (correcting cycle)) st e p = absurd p
dispatch_bound {s} {network} {device} {node} next (doing (dispatching row cycle)) st e (d, there, awaited, same, sync) =
    let le = not_less _ next.at.0 (λ lt. not_sooner next d (held_in (amount network.cycle) d.of cycle) st e there
    awaited (inl lt)) in
    let value : value_of network (dispatching row cycle) ≡ value_in (amount network.cycle) d.of cycle =
    ap (λ (r : RowId). value_of network (dispatching r cycle)) (sym same) ∙ value_is cycle
    (leaves_so s network device node d st there) in
    subst (λ z. next.at.0 ≤ℤ (z -ℤ node.standing.adjustment.0)) (sym value) le

-- ---- how a call leaves a switch to what it was given and has done

module _ (s : Switch) (network : Network) (device : DeviceId) (node : Node) (moment : Moment) (phase : Phase) where
  -- the moment of a call is in its range
  pub alive : (at : Standpoint) → StandsAs s network device node → MayCall network device node moment phase
      → at.reading ≡ moment.reading → at.adjustment ≡ s.sync.adjustment → IsAlive s.site at
  alive at st may r a = record {
    site_in_range = site_in_range st.accepted.range st.site;
    reading = rw r (record { least = through _ _ _ st.begun may.later.reading; most = may.later.low_enough });
    small = rw (a ∙ sym (ap (λ (x : Standing). x.adjustment) st.standing)) st.small;
  }

  -- a call that changes nothing else
  pub called_stands : StandsAs s network device node → node.last.reading.0 ≤ℤ moment.reading.0
      → StandsAs s network device (called moment phase node)
  called_stands st later = record {
    accepted = st.accepted;
    site = st.site;
    sound = st.sound;
    standing = st.standing;
    plan = st.plan;
    heard = st.heard;
    changed = st.changed;
    corrects = st.corrects;
    done = st.done;
    begun = through _ _ _ st.begun later;
    small = st.small;
    steady =
        λ timed. let h = st.steady timed in record {
          number = h.number;
          lower = h.lower;
          upper = further _ _ _ _ h.upper later;
          joined = h.joined;
          fair = h.fair;
        };
    intake = st.intake;
    collects = st.collects;
    departs = st.departs;
    awaits = awaits_called moment st later;
  }

-- ---- arrivals

and_true : (b c : Bool) → c ≡ false → (b && not c) ≡ b
and_true true c e = rw e refl
and_true false c e = refl

abbrev made_point : Bool → State → ℕ → ℤ → Point
made_point part state reading adjustment = record { takes_part = part; state = state; reading = reading; adjustment = adjustment }

pub point_same : {s : Switch} {network : Network} {device : DeviceId} {node : Node} (moment : Moment)
    (at : Standpoint) → StandsAs s network device node → at.state ≡ s.sync.state → at.reading ≡ moment.reading
    → at.adjustment ≡ s.sync.adjustment → standpoint_of at ≡ standpoint_at node moment
point_same moment at st e r a = grind (arith, not, and_true, amount)

module _ (node : Node) (moment : Moment) (network : Network) (device : DeviceId) (link : LinkId) where
  taken_none : (frame : Pcf) (point : Units) (relay parent : Bool) → is_relay network device ≡ relay
      → is_parent_of network device link ≡ parent → after_arrival node moment
      (frame_taken network device link frame point) ≡ node
  taken_none frame point false parent r p = rw r refl
  taken_none frame point true true r p = rw r (rw p refl)
  taken_none frame point true false r p = rw r (rw p refl)

  fault_none : (at : Point) (frame : Pcf) (fault : Option Reason)
      → after_arrival node moment (frame_or_fault network device link at frame fault) ≡ node
  fault_none at frame (Some reason) = refl
  fault_none at frame None = taken_none _ _ _ _ refl refl

  -- a control frame is never taken as that of a virtual link
  pub control_none : (at : Point) (read : Result Pcf PcfRefusal)
      → after_arrival node moment (control_arrival network device link at read) ≡ node
  control_none at (Err refusal) = refl
  control_none at (Ok frame) = fault_none at frame (frame_fault network device link at frame)

pub is_type : (octets : List ℕ) → field 12 2 octets ≡ pcf_type → (field 12 2 octets == pcf_type) ≡ true
is_type octets e = rw e refl

pub is_no_type : (octets : List ℕ) → (field 12 2 octets ≡ pcf_type → ⊥) → (field 12 2 octets == pcf_type) ≡ false
is_no_type octets other = grind (arith, cases_Bool, eqb-true)

-- ---- time-triggered frames that a switch takes

with_intake : {s : Switch} {intake : Intake} {ds : Departures} {network : Network} {device : DeviceId} {node : Node}
    (moment : Moment) {taken : List TakenFrame} → StandsAs s network device node
    → node.last.reading.0 ≤ℤ moment.reading.0 → HasTaken network device intake taken
    → HasDepartures network device ds taken
    → AwaitsIn node.standing.state network ds node.standing.adjustment.0 node.changed node.done
    (moment.reading.0 +ℤ node.standing.adjustment.0) → StandsAs
    (record s { intake = intake; departures = ds }) network device
    (called moment arriving (record node { taken = taken }))
with_intake {intake} moment st later has departs awaits = record {
  accepted = st.accepted;
  site = st.site;
  sound = st.sound;
  standing = st.standing;
  plan = st.plan;
  heard = st.heard;
  changed = st.changed;
  corrects = st.corrects;
  done = st.done;
  begun = through _ _ _ st.begun later;
  small = st.small;
  steady =
      λ timed. let h = st.steady timed in record {
        number = h.number;
        lower = h.lower;
        upper = further _ _ _ _ h.upper later;
        joined = h.joined;
        fair = h.fair;
      };
  intake = has;
  collects = st.collects;
  departs = departs;
  awaits = awaits;
}

-- where the switch stands when the frame comes
pub record IsHere (s : Switch) (moment : Moment) (at : Place) : Type 0 where
  pub state : at.state ≡ s.sync.state
  pub reading : at.reading ≡ moment.reading
  pub adjustment : at.adjustment ≡ s.sync.adjustment

module _ (s : Switch) (intake : Intake) (ds : Departures) (network : Network) (device : DeviceId) (node : Node)
    (moment : Moment) where
  accepted_stands : (at : Place) (vl : VlId) (cycle : ℕ) → StandsAs s network device node
      → node.last.reading.0 ≤ℤ moment.reading.0 → IsHere s moment at
      → IsTakenSo network device node.taken intake (arrivals.Accepted vl cycle)
      → Keeps s.departures (amount s.site.plan.cycle_length) s.changed.0 at vl cycle ds
      → StandsAs (record s { intake = intake; departures = ds }) network device
      (called moment arriving (with_taken node moment vl cycle))
  accepted_stands at vl cycle st later here takes keeps =
      let local = moment.reading.0 +ℤ node.standing.adjustment.0 in
      let t : TakenFrame = record { vl = vl; cycle = cycle; at = local } in
      let adjustment : at.adjustment ≡ node.standing.adjustment =
      here.adjustment ∙ ap (λ (x : Standing). x.adjustment) (sym st.standing) in
      let length_is : amount s.site.plan.cycle_length ≡ amount network.cycle =
      ap (λ (p : SyncPlan). amount p.cycle_length) st.site.plan in
      let at_is : at.reading.0 +ℤ at.adjustment.0 ≡ local =
      ap (λ (u : Units). u.0 +ℤ at.adjustment.0) here.reading ∙ ap (λ (u : Units). moment.reading.0 +ℤ u.0)
      adjustment in
      let changes : Changes (taken_as (amount network.cycle) node.changed t) s.departures ds =
      subst (λ z. Changes (taken_as (amount network.cycle) z t) s.departures ds) (sym st.changed)
      (subst (λ n. Changes (taken_as n s.changed.0 t) s.departures ds) length_is
      (subst (λ (z : ℤ). Changes (taken_as (amount s.site.plan.cycle_length) s.changed.0
      (record { vl = vl; cycle = cycle; at = z })) s.departures ds) at_is
      keeps.changes)) in
      let state : node.standing.state ≡ Synchronised =
      ap (λ (x : Standing). x.state) st.standing ∙ sym here.state ∙ keeps.synchronised in
      with_intake moment st later (takes t refl refl)
      (departs_taken t node.changed
      (subst (λ (n : ℕ). cycle * n ≤ 2 ^ 62) length_is keeps.in_range) changes st.departs)
      (awaits_taken node.standing.state t node.standing.adjustment.0 node.changed
      (node.last.reading.0 +ℤ node.standing.adjustment.0) node.done state st.departs changes
      (subst (λ (u : Units). KnowsNext u.0 ds) adjustment keeps.next) st.awaits
      (later_by node.last.reading.0 moment.reading.0 node.standing.adjustment.0 later))

  not_taken : StandsAs s network device node → node.last.reading.0 ≤ℤ moment.reading.0
      → HasTaken network device intake node.taken → ds ≡ s.departures
      → StandsAs (record s { intake = intake; departures = ds }) network device (called moment arriving node)
  not_taken st later has as_before =
      subst (λ (x : Departures). StandsAs (record s { intake = intake; departures = x }) network device
      (called moment arriving node)) (sym as_before)
      (with_intake moment st later has st.departs
      (called_stands s network device node moment arriving st later).awaits)

  -- the switch of whose frame this became
  pub arrival_stands : (at : Place) (is : Arrival) → StandsAs s network device node
      → node.last.reading.0 ≤ℤ moment.reading.0 → IsHere s moment at → IsTakenSo network device node.taken intake is
      → IsKeptSo s.departures (amount s.site.plan.cycle_length) s.changed.0 at is ds
      → StandsAs (record s { intake = intake; departures = ds }) network device
      (called moment arriving (after_arrival node moment is))
  arrival_stands at (arrivals.Accepted vl cycle) st later here so kept =
      accepted_stands at vl cycle st later here so kept
  arrival_stands at (arrivals.Delivered vl cycle) st later here so kept = absurd so
  arrival_stands at (arrivals.Dropped reason) st later here so kept =
      not_taken st later so kept
  arrival_stands at (arrivals.Waits frame point) st later here so kept =
      not_taken st later so kept
  arrival_stands at (arrivals.Passes frame way) st later here so kept =
      not_taken st later so kept
  arrival_stands at (arrivals.PassesAndWaits frame way point) st later here so kept =
      not_taken st later so kept

-- ---- what a site says of its links

-- the port of a link that may be there
abbrev port_by : Network → DeviceId → Option Link → Port
port_by network device o = unwrap_or (option_map (port_of network device) o) no_port

pub port_is : {network : Network} {device : DeviceId} {site : Site} (link : LinkId) → IsSiteOf network device site
    → port_in site.ports.items link ≡ port_by network device (link_at network link)
port_is {network} {device} link h =
    ap (λ (ports : List Port). unwrap_or (slice_get ports link.0) no_port) h.ports
    ∙ ap (λ (o : Option Port). unwrap_or o no_port) (slice_get-map (port_of network device) network.link link.0)

-- ---- members

by_peer : (below end : Bool) (member : Option ℕ) (members : Members)
    → (below && end && are_others member members) ≡ is_other_member (if below then (if end then end_below member else peers.Switch) else peers.Parent) members
by_peer false end member members = refl
by_peer true false member members = refl
by_peer true true None members = refl
by_peer true true (Some m) members = refl

member_by : (network : Network) (device : DeviceId) (o : Option Link) (members : Members)
    → option_map_or (λ l. l.parent.0 == device.0 && is_end network l.child && are_others (member_of network l.child) members) o false ≡ is_other_member
    (port_by network device o).peer members
member_by network device None members = refl
member_by network device (Some l) members = by_peer (l.parent.0 == device.0) (is_end network l.child) (member_of network l.child) members

pub member_same : {network : Network} {device : DeviceId} {site : Site} (link : LinkId) (members : Members)
    → IsSiteOf network device site → is_other_member (port_in site.ports.items link).peer members
    ≡ is_of_other_member network device link members
member_same {network} {device} link members h =
    ap (λ (p : Port). is_other_member p.peer members) (port_is link h) ∙ sym
    (member_by network device (link_at network link) members)

-- ---- ways

below_end : (o : Option ℕ) → is_below (end_below o) ≡ true
below_end None = refl
below_end (Some m) = refl

by_below : (below end : Bool) (member : Option ℕ) → is_below (if below then (if end then end_below member else peers.Switch) else peers.Parent) ≡ below
by_below false end member = refl
by_below true false member = refl
by_below true true member = below_end member

module _ (network : Network) (device : DeviceId) where
  below_by : (o : Option Link) → is_below (port_by network device o).peer
      ≡ option_map_or (λ l. l.parent.0 == device.0) o false
  below_by None = refl
  below_by (Some l) = by_below (l.parent.0 == device.0) (is_end network l.child) (member_of network l.child)

  pub parent_same : {site : Site} (link : LinkId) → IsSiteOf network device site
      → is_below (port_in site.ports.items link).peer ≡ is_parent_of network device link
  parent_same link h =
      ap (λ (p : Port). is_below p.peer) (port_is link h) ∙ below_by (link_at network link)

  -- ---- wires and channels

  channel_by : (o : Option Link) → (port_by network device o).channel
      ≡ option_and_then (λ l. channel_of network l.parent) o
  channel_by None = refl
  channel_by (Some l) = refl

  pub channel_same : {site : Site} (link : LinkId) → IsSiteOf network device site
      → (port_in site.ports.items link).channel ≡ channel_of_link network link
  channel_same link h = ap (λ (p : Port). p.channel) (port_is link h) ∙ channel_by (link_at network link)
