-- How frames come from where they begin to where they are delivered: places, delays and holds.
use Rattle.std.{specs.{Option.unwrap_or, Prelude.{Err, Result, is_some, nat_le}}}
use Rattle.std.proofs.{Common.filter, Math.Nat.mul-le-mul_left}
use Rattle.std.proofs.lemmas.{Bool.{and_parts, both_ways, ne_eqb, not_from_true}, Int.by_lt_z}
use Rattle.std.proofs.lemmas.{List.Elements.filter-append, Option.slice_get_within}
use Rattle.drift_clock.specs.ClockLaws.{Measures}
use Rattle.net_plan.{proofs.{Amounts.amount_within, Trees.{beta_exists, rules_give_trees}}}
use Rattle.net_plan.specs.{Bounds.IsBeta, Places.is_end_system, Ranges.{IsDeviceInRange, IsInRange, IsLinkInRange}}
use Rattle.net_plan.specs.{Rules.IsChildOf}
use Rattle.pcf_codec.specs.declared.refusal.PcfRefusal.{PcfRefusal}
use Rattle.run_law.proofs.Words
use Words.{if◌then◌else◌, ◌&&◌, ◌++◌, ◌+ℤ◌, ◌+◌, ◌-◌, ◌<ℤ◌, ◌<◌, ◌==◌, ◌∙◌, ◌∷◌, ◌≡◌, ◌≤ℤ◌, ◌≤◌, ◌⊎◌, AllBefore}
use Words.{Arrival, ArrivesAs, Bool, Departs, DeviceId, Down, Event, Gives, Happening, Integrating, IsArrivedRecord}
use Words.{IsBefore, IsCaused, IsDue, IsFounded, IsIn, IsRun, IsWithinHypothesis, Launch, Link, LinkId, List, Network}
use Words.{None, NoneBefore, Note, NoteBody, Ok, Option, Pcf, Reason, Scenario, Send, Some, Standpoint, Units, Up, Way}
use Words.{What, [], adjustment_after, amount, ap, append-nil, append_assoc, arith, arrival_of, beta_at, cases_lt}
use Words.{cons_option, control, control_arrival, device_at, earlier, eqb-true, false, filter_map, frame_fault}
use Words.{frame_or_fault, happening, in_all, inl, inr, ints, is_broken, is_master, is_off, is_parent_of, is_relay, key}
use Words.{last_or, launched, le-ltb, length, link_at, members_in, nat_lt, not, numbered, option_map, place_of, pos}
use Words.{rank, refl, same_some, slice_get, standpoint, state_after, subst, suc, sym, time_of, true, units_of, zero, ℕ}
use Rattle.run_law.proofs.runs.{Determined.due_is_determined, Lacking.behind_first, OneRun.due_is_next}
use Rattle.run_law.proofs.runs.{Places.{before_or_not, chain, in_parts, in_right, parted}}
use Rattle.run_law.specs.{control.{Leaving.{clock_at_leaving, leaves, on_cut_way}, Wires.Arrives}}
use Rattle.run_law.specs.{declared.outside.Outside.TheVariants.{Hold, Wire}}
use Rattle.run_law.specs.{timed.Dispatching.{HasAccepted, is_accepted}}
use Rattle.run_law.specs.law.FirstLaws
use FirstLaws.{ComesTo, DeliveriesBegin, IsBeginning, IsEventInRange, IsLawful, SentFramesCome, arrival_time}
use FirstLaws.{leaving_time}
use Rattle.run_law.specs.records.{Causes.{GoesBackTo, cause_of}, Frames.dispatched_frame}
use Rattle.run_law.specs.records.{Happenings.{frame_by, frame_from, with_clock}}
use Rattle.run_law.specs.scenario.{Devices.has_role, Scenarios.{events_up_to, is_turned_on_at, last_set}}
use Rattle.run_law.specs.scenario.Ways
use Ways.{delay_at, hold_at, hold_set, is_cut, is_way, is_way_of, way_from, wire_of, wire_set}
use Rattle.schedule_tables.{proofs.Margins.{margins, master_ends, shape_rules}}
use Rattle.schedule_tables.{specs.{Delays.delay_by, Rules.KeepsRules, declared.rule.Rule.TheVariants.Joints}}
use Rattle.tte_units.proofs.general_lemmas.{Bools.picked, Options.{closed, opened}}
use Rattle.net_plan.specs.declared.event.What.TheVariants as events
use Rattle.run_law.specs.declared.note.NoteBody.TheVariants as notes
use Rattle.run_law.specs.declared.steps.Arrival.TheVariants as arrivals

-- ---- where the records of a run stand: by their numbers, and by their places

-- ---- lists

-- what stands behind a part is at the place of its length
pub at_length : {X : Type 0} (ps qs : List X) (x : X) → slice_get (ps ++ x ∷ qs) (length ps) ≡ Some x
at_length [] qs x = refl
at_length (p ∷ ps) qs x = at_length ps qs x

-- what is at a place of a front is there in the whole list
pub in_front : {X : Type 0} (ps qs : List X) (i : ℕ) (x : X) → slice_get ps i ≡ Some x → slice_get (ps ++ qs) i ≡ Some x
in_front [] qs i x e = absurd cc
in_front (p ∷ ps) qs zero x e = e
in_front (p ∷ ps) qs (suc i) x e = in_front ps qs i x e

-- what is at a place is in the list
pub in_at : {X : Type 0} (xs : List X) (i : ℕ) (x : X) → slice_get xs i ≡ Some x → IsIn x xs
in_at [] i x e = absurd cc
in_at (y ∷ xs) zero x e = inl cc
in_at (y ∷ xs) (suc i) x e = inr (in_at xs i x e)

-- what is kept, or is the element whose test is this, is in the list with that element
kept_by : {X : Type 0} (b : Bool) (y x : X) (kept xs : List X) → (IsIn x kept → IsIn x xs) → IsIn x (if b then y ∷ kept else kept) → IsIn x (y ∷ xs)
kept_by true y x kept xs back (inl e) = inl e
kept_by true y x kept xs back (inr more) = inr (back more)
kept_by false y x kept xs back more = inr (back more)

-- what a filter keeps is in the list
pub in_filter : {X : Type 0} (p : X → Bool) (xs : List X) (x : X) → IsIn x (filter p xs) → IsIn x xs
in_filter p [] x i = i
in_filter p (y ∷ xs) x i = kept_by (p y) y x (filter p xs) xs (in_filter p xs x) i

-- a filter drops what fails its test
pub none_kept : {X : Type 0} (p : X → Bool) (xs : List X) → ((x : X) → IsIn x xs → p x ≡ false) → filter p xs ≡ []
none_kept p [] fails = refl
none_kept {X} p (x ∷ xs) fails = rw (fails x (inl refl)) (none_kept p xs (λ y i. fails y (inr i)))

-- ---- founded lists

-- a front of a founded list is founded
pub front_founded : {N : Type 0} (place : N → List ℕ) (IsDue : List N → N → Type 0) (ps qs : List N) → IsFounded place IsDue (ps ++ qs)
    → IsFounded place IsDue ps
front_founded place IsDue ps qs founded rs ts x e = founded rs (ts ++ qs) x (rw e (append_assoc rs (x ∷ ts) qs))

-- a list in two parts: all before the place, and none before it
pub record IsSplit {N : Type 0} (place : N → List ℕ) (ns : List N) (p : List ℕ) : Type 0 where
  pub front : List N
  pub rest : List N
  pub whole : ns ≡ front ++ rest
  pub before : AllBefore place front p
  pub none : NoneBefore place rest p

-- a founded list parts at a place that its first part is before
split_from : {N : Type 0} (place : N → List ℕ) (IsDue : List N → N → Type 0) (p : List ℕ) (ps qs : List N) → IsFounded place IsDue (ps ++ qs)
    → AllBefore place ps p → IsSplit place (ps ++ qs) p
split_from place IsDue p ps [] founded before = record { front = ps; rest = []; whole = refl; before = before; none = λ n i. absurd i }
split_from {N} place IsDue p ps (q ∷ qs) founded before =
    elim (before_or_not (place q) p) [
      | inl lt ↦
          let moved = append_assoc ps (q ∷ []) qs in
          let there = split_from place IsDue p (ps ++ q ∷ []) qs (subst (IsFounded place IsDue) (sym moved) founded) (λ n i. elim (in_parts n ps (q ∷ []) i) [
            | inl l ↦ before n l
            | inr (inl e) ↦ rw e lt
            | inr (inr none) ↦ absurd none
          ]) in
          rw moved at there
      | inr not ↦ record {
        front = ps;
        rest = q ∷ qs;
        whole = refl;
        before = before;
        none = λ n i lt. elim i [
          | inl e ↦ not (rw e at lt)
          | inr later ↦ not (chain (place q) (place n) p (behind_first place IsDue ps qs q n founded later) lt)
        ];
      }
    ]

-- a founded list parts at any place
pub split : {N : Type 0} (place : N → List ℕ) (IsDue : List N → N → Type 0) (ns : List N) (p : List ℕ) → IsFounded place IsDue ns → IsSplit place ns p
split place IsDue ns p founded = split_from place IsDue p [] ns founded (λ n i. absurd i)

-- what is before the place is in the front
pub in_front_of : {N : Type 0} {place : N → List ℕ} {ns : List N} {p : List ℕ} (at : IsSplit place ns p) (n : N)
    → IsIn n ns → IsBefore (place n) p → IsIn n at.front
in_front_of {N} at n i lt =
    elim (in_parts n at.front at.rest (subst (IsIn n) at.whole i)) [ inl l ↦ l | inr r ↦ absurd (at.none n r lt) ]

-- ---- records by their numbers

-- a record of a founded list with those before it
pub record IsFoundedAt (s : Scenario) (hs : List Happening) (h : Happening) : Type 0 where
  pub front : List Happening
  pub rest : List Happening
  pub whole : hs ≡ front ++ h ∷ rest
  pub due : IsDue s front h
  pub founded : IsFounded place_of (IsDue s) front

-- each record of a founded list is due given those before it
pub founded_at : (s : Scenario) (hs : List Happening) (h : Happening) → IsFounded place_of (IsDue s) hs → IsIn h hs → IsFoundedAt s hs h
founded_at s hs h founded i =
    let at = parted h hs i in
    record {
      front = at.0;
      rest = at.1;
      whole = at.2;
      due = (founded at.0 at.1 h at.2).1;
      founded = front_founded place_of (IsDue s) at.0 (h ∷ at.1) (subst (IsFounded place_of (IsDue s)) at.2 founded);
    }

-- what the list has by a number is in it
pub numbered_in : (hs : List Happening) (n : ℕ) (h : Happening) → numbered hs n ≡ Some h → IsIn h hs
numbered_in hs zero h e = absurd cc
numbered_in hs (suc n) h e = in_at hs n h e

-- and has a number that is at most the list's length
pub numbered_within : (hs : List Happening) (n : ℕ) (h : Happening) → numbered hs n ≡ Some h → n < length hs + 1
numbered_within hs zero h e = absurd cc
numbered_within hs (suc n) h e = omega (arith, slice_get_within hs n h e)

-- what a front has by a number the whole list has by it
pub numbered_front : (ps qs : List Happening) (n : ℕ) (h : Happening) → numbered ps n ≡ Some h → numbered (ps ++ qs) n ≡ Some h
numbered_front ps qs zero h e = absurd cc
numbered_front ps qs (suc n) h e = in_front ps qs n h e

-- the record behind a part has the next number
pub numbered_next : (ps qs : List Happening) (h : Happening) (n : ℕ) → n ≡ length ps + 1 → numbered (ps ++ h ∷ qs) n ≡ Some h
numbered_next ps qs h n e =
    let next : suc (length ps) ≡ n = omega arith in
    rw (sym next) (at_length ps qs h)

-- a record of a founded list is found by its number
pub by_number : (s : Scenario) (hs : List Happening) (h : Happening) → IsFounded place_of (IsDue s) hs → IsIn h hs → numbered hs h.note.number ≡ Some h
by_number s hs h founded i =
    let at = founded_at s hs h founded i in
    rw at.whole (numbered_next at.front at.rest h h.note.number at.due.number)

-- what a founded list has by a number has that number
pub number_is : (s : Scenario) (hs : List Happening) (n : ℕ) (h : Happening) → IsFounded place_of (IsDue s) hs → numbered hs n ≡ Some h → h.note.number ≡ n
number_is s hs zero h founded e = absurd cc
number_is s hs (suc n) h founded e =
    let at = parted_at hs n h e in
    let due = (founded at.0 at.1 h at.2).1 in
    omega (arith, due.number, at.3)
  where
    parted_at : (gs : List Happening) (i : ℕ) (g : Happening) → slice_get gs i ≡ Some g → (ps : List Happening) × (qs : List Happening) × (gs ≡ ps ++ g ∷ qs)
        × (length ps ≡ i)
    parted_at [] i g e = absurd cc
    parted_at (f ∷ gs) zero g e = let same : f ≡ g = cc in ([], gs, rw same, refl)
    parted_at (f ∷ gs) (suc i) g e =
        let more = parted_at gs i g e in
        (f ∷ more.0, more.1, rw more.2, ap suc more.3)

-- ---- a record that is due is there

-- where the records of a run part at the place of one that is due, it is the next
pub due_is_there : {s : Scenario} {mark : List ℕ} {hs : List Happening} {x : Happening}
    (at : IsSplit place_of hs (place_of x)) → IsRun place_of (IsDue s) mark hs → IsDue s at.front x
    → IsBefore (place_of x) mark → IsIn x hs
due_is_there {s} {mark} {x} at run due here =
    let parts = subst (IsRun place_of (IsDue s) mark) at.whole run in
    let next = due_is_next (IsDue s) (due_is_determined s) at.front at.rest x parts at.before at.none due here in
    subst (IsIn x) (sym at.whole) (in_right x at.front at.rest (subst (IsIn x) (sym next.1) (inl refl)))

-- where the records part at a place of a time, the front has all those of earlier times
pub same_earlier : (t : ℕ) (more : List ℕ) {hs : List Happening} (at : IsSplit place_of hs (t ∷ more))
    → earlier t at.front ≡ earlier t hs
same_earlier t more at = grind (arith, earlier, none_kept, nat_lt, time_of, cases_lt, le-ltb, append-nil, filter-append)

-- ---- the delays and holds that events within the fault hypothesis set, and how far a clock grows over a hold

-- ---- what is set last

-- a value or none before the rest
set_next : {V : Type 0} (P : V → Type 0) (o : Option V) (next : Option V) (rest : List V) (initial : V) → (next ≡ None → P (unwrap_or (last_or o rest) initial))
    → ((v : V) → next ≡ Some v → P (unwrap_or (last_or (Some v) rest) initial)) → P (unwrap_or (last_or o (cons_option next rest)) initial)
set_next P o None rest initial none some = none refl
set_next P o (Some v) rest initial none some = some v refl

-- what holds of the initial value and of each that is set holds of the last
pub set_last : {V : Type 0} (P : V → Type 0) (setting : What → Option V) (es : List Event) (o : Option V) (initial : V) → P (unwrap_or o initial)
    → ((e : Event) → IsIn e es → (v : V) → setting e.what ≡ Some v → P v) → P (unwrap_or (last_or o (filter_map (λ e. setting e.what) es)) initial)
set_last P setting [] o initial first each = first
set_last P setting (e ∷ es) o initial first each =
    set_next P o (setting e.what) (filter_map (λ e. setting e.what) es) initial
    (λ none. set_last P setting es o initial first (λ f i v is. each f (inr i) v is))
    (λ v is. set_last P setting es (Some v) initial (each e (inl refl) v is) (λ f i w at. each f (inr i) w at))

-- the same of what the events of a scenario set up to a time
pub last_is : {V : Type 0} (P : V → Type 0) (s : Scenario) (setting : What → Option V) (initial : V) (t : ℕ) → P initial
    → ((e : Event) → IsIn e s.events → (v : V) → setting e.what ≡ Some v → P v) → P (last_set s setting initial t)
last_is P s setting initial t first each =
    set_last P setting (events_up_to s t) None initial first (λ e i v is. each e (in_filter (λ e. nat_le (amount e.time) t) s.events e i) v is)

-- ---- events

-- a way of the same link and direction is one of the same link
pub same_way_link : (link other : LinkId) (way turned : Way) → is_way_of link way other turned ≡ true → other ≡ link
same_way_link link other way turned same =
    let both = and_parts (link.0 == other.0) (is_way way turned) same in
    rw (sym (eqb-true link.0 other.0 both.0))

-- the hold that an event sets on a way of the link
record SetsHold (link : LinkId) (what : What) (v : ℕ) : Type 0 where
  pub way : Way
  pub delay : Units
  pub is : what ≡ events.Hold link way delay
  pub sets : amount delay ≡ v

-- what sets a hold is such an event
sets_hold : (link : LinkId) (way : Way) (what : What) (v : ℕ) → hold_set link way what ≡ Some v → SetsHold link what v
sets_hold link way (events.Hold other turned delay) v e =
    let both = picked (is_way_of link way other turned) (amount delay) v e in
    record { way = turned; delay = delay; is = rw (same_way_link link other way turned both.0); sets = both.1 }
sets_hold link way other v e = absurd cc

-- the wire delay that an event sets on a way of the link
pub record SetsWire (link : LinkId) (what : What) (v : ℕ) : Type 0 where
  pub way : Way
  pub delay : Units
  pub is : what ≡ events.Wire link way delay
  pub sets : amount delay ≡ v

-- what sets a wire delay is such an event
pub sets_wire : (link : LinkId) (way : Way) (what : What) (v : ℕ) → wire_set link way what ≡ Some v → SetsWire link what v
sets_wire link way (events.Wire other turned delay) v e =
    let both = picked (is_way_of link way other turned) (amount delay) v e in
    record { way = turned; delay = delay; is = rw (same_way_link link other way turned both.0); sets = both.1 }
sets_wire link way other v e = absurd cc

-- an event of a lawful scenario is in range, and within the hypothesis given those before it
pub record IsGiven (s : Scenario) (e : Event) : Type 0 where
  pub range : IsEventInRange e
  pub before : List Event
  pub within : IsWithinHypothesis s.network before e

-- each event of a lawful scenario is so
pub given : (s : Scenario) (e : Event) → IsLawful s → IsIn e s.events → IsGiven s e
given s e lawful i =
    let at = parted e s.events i in
    let there : slice_get s.events (length at.0) ≡ Some e = rw (sym at.2) at (at_length at.0 at.1 e)
    in
    record { range = in_all IsEventInRange s.events (length at.0) e lawful.events there; before = at.0; within = lawful.within at.0 at.1 e at.2 }

module _ (s : Scenario) (link : LinkId) (l : Link) (way : Way) where
  -- a hold that an event sets is at most the link's
  set_hold_most : IsLawful s → link_at s.network link ≡ Some l → pos 0 ≤ℤ l.hold.0 → (e : Event) → IsIn e s.events
      → (v : ℕ) → hold_set link way e.what ≡ Some v → v ≤ amount l.hold
  set_hold_most lawful there least e i v is =
      let set = sets_hold link way e.what v is in
      let known = given s e lawful i in
      let begun = known.range.hold link set.way set.delay set.is in
      by_lt_z l.hold.0 set.delay.0
      (λ long. absurd (known.within Hold (record {
        link = link;
        way = set.way;
        delay = set.delay;
        what = set.is;
        long = closed (λ k. k.hold.0 <ℤ set.delay.0) (link_at s.network link) l there long;
      })))
      (λ short. omega (arith, ints, set.sets))

  -- so is what a frame is held at any time
  pub hold_most : (t : ℕ) → IsLawful s → link_at s.network link ≡ Some l → pos 0 ≤ℤ l.hold.0
      → hold_at s link way t ≤ amount l.hold
  hold_most t lawful there least =
      last_is (λ v. v ≤ amount l.hold) s (hold_set link way) 0 t (omega arith) (set_hold_most lawful there least)

  -- a wire delay that an event sets is at least 1
  set_delay_least : IsLawful s → link_at s.network link ≡ Some l → pos 1 ≤ℤ l.wire.0 → (e : Event) → IsIn e s.events
      → (v : ℕ) → wire_set link way e.what ≡ Some v → 1 ≤ v
  set_delay_least lawful there least e i v is =
      let set = sets_wire link way e.what v is in
      let known = given s e lawful i in
      by_lt_z set.delay.0 l.wire.0
      (λ short. absurd (known.within Wire (record {
        link = link;
        way = set.way;
        delay = set.delay;
        what = set.is;
        other = closed (λ k. (set.delay.0 <ℤ k.wire.0) ⊎ ((k.wire.0 +ℤ k.jitter.0) <ℤ set.delay.0))
            (link_at s.network link) l there (inl short);
      })))
      (λ long. omega (arith, ints, set.sets))

  -- so is the wire delay at any time
  pub delay_least : (t : ℕ) → IsLawful s → link_at s.network link ≡ Some l → pos 1 ≤ℤ l.wire.0
      → 1 ≤ delay_at s link way t
  delay_least t lawful there least =
      let nominal : wire_of s.network link ≡ amount l.wire =
      rw there in
      last_is (λ v. 1 ≤ v) s (wire_set link way) (wire_of s.network link) t (omega (arith, ints))
      (set_delay_least lawful there least)

-- ---- a clock over a hold

-- what a clock grows over a hold is at most dmax, where that has room for beta and the delays of the link
grows_little : (n : Network) (jitter links hold wire spread held seen : ℕ) → 1 ≤ amount n.grain → Measures n.rho (amount n.grain) held seen → held ≤ hold
    → beta_at n jitter links + (wire + spread + hold) ≤ amount n.dmax → seen ≤ amount n.dmax
grows_little n jitter links hold wire spread held seen grain measures short room = grind (arith, amount, mul-le-mul_left)

-- ---- the frames that are delivered go back to where they begin

-- ---- what is taken is no control frame

-- the frame is taken as one of a virtual link
abbrev IsTaking : Arrival → Type 0
IsTaking (arrivals.Accepted vl cycle) = Unit {0}
IsTaking (arrivals.Delivered vl cycle) = Unit {0}
IsTaking other = ⊥

-- a frame that waits or is passed on is not taken so
never_passed : (relay parent : Bool) (frame : Pcf) (point : Units)
    → IsTaking (if relay then (if parent then arrivals.Passes frame Up else arrivals.PassesAndWaits frame Down point) else arrivals.Waits frame point) → ⊥
never_passed true true frame point t = t
never_passed true false frame point t = t
never_passed false parent frame point t = t

module _ (network : Network) (device : DeviceId) (link : LinkId) where
  -- nor is a control frame, whether it has a fault or none
  never_judged : (at : Standpoint) (frame : Pcf) (fault : Option Reason)
      → IsTaking (frame_or_fault network device link at frame fault) → ⊥
  never_judged at frame (Some reason) t = t
  never_judged at frame None t = never_passed (is_relay network device) (is_parent_of network device link) _ _ t

  -- a control frame is not taken so
  never_control : (at : Standpoint) (frame : Result Pcf PcfRefusal)
      → IsTaking (control_arrival network device link at frame) → ⊥
  never_control at (Err refusal) t = t
  never_control at (Ok frame) t = never_judged at frame (frame_fault network device link at frame) t

-- ---- what puts a frame that is taken on its wire

-- the record is a dispatch, or a `send` event
abbrev IsPutting : NoteBody → Type 0
IsPutting (notes.TtSent device link cause vl cycle) = Unit {0}
IsPutting (notes.Event line (Send link octets)) = Unit {0}
IsPutting other = ⊥

-- what is put on the wire is a control frame
abbrev IsControl : Launch → Type 0
IsControl l = (frame : Result Pcf PcfRefusal) × (l.signal ≡ control frame)

-- what a leaving puts on the wire is one
left_control : (o : Option Pcf) (link : LinkId) (way : Way) (l : Launch) → option_map (λ frame. record { link = link; way = way; signal = control (Ok frame) })
    o ≡ Some l → IsControl l
left_control None link way l e = absurd cc
left_control (Some frame) link way l e = (
  Ok frame,
  sym (ap (λ x. x.signal)
      (same_some (Some (record { link = link; way = way; signal = control (Ok frame) })) (record { link = link; way = way; signal = control (Ok frame) }) l
      refl e)),
)

-- what is on a wire was put there by one of these, or is a control frame
put_by : (s : Scenario) (h : Happening) (t : ℕ) (body : NoteBody) (l : Launch) → launched s h t body ≡ Some l → IsPutting body ⊎ IsControl l
put_by s h t (notes.Left device link cause clock) l e = inr (left_control h.frame link _ l e)
put_by s h t (notes.TtSent device link cause vl cycle) l e = inl tt
put_by s h t (notes.Event line (Send link octets)) l e = inl tt
put_by s h t other l e = absurd cc

-- the record that put a frame that is taken
record IsPutBy (ps : List Happening) (cause : ℕ) : Type 0 where
  pub putting : Happening
  pub there : numbered ps cause ≡ Some putting
  pub puts : IsPutting putting.note.body

-- a frame that is taken was put by such a record
put_of : {s : Scenario} {ps : List Happening} {t : ℕ} {device : DeviceId} {link : LinkId} {cause : ℕ} {a : Arrival}
    → ArrivesAs s ps device t link cause a → IsTaking a → IsPutBy ps cause
put_of comes takes = grind (arith, put_by, time_of, never_control, standpoint, arrival_of)

-- the record says that a device took a frame of a virtual link
abbrev IsTaken : NoteBody → Type 0
IsTaken (notes.Accepted device link cause vl cycle) = Unit {0}
IsTaken (notes.Delivered device link cause vl cycle) = Unit {0}
IsTaken other = ⊥

-- its cause is what put the frame
cause_puts : (s : Scenario) (ps : List Happening) (time : Units) (body : NoteBody) → IsTaken body → IsCaused s ps time body → IsPutBy ps (cause_of body)
cause_puts s ps time (notes.Accepted device link cause vl cycle) taken caused =
    put_of caused tt
cause_puts s ps time (notes.Delivered device link cause vl cycle) taken caused =
    put_of caused tt
cause_puts s ps time other taken caused = absurd taken

-- ---- the chain of causes

-- the record's chain of causes goes back to a beginning
abbrev Begins : List Happening → Happening → Type 0
Begins hs h = (first : Happening) × GoesBackTo hs h first × IsBeginning first.note.body

-- a beginning goes back to itself
here : (hs : List Happening) (h : Happening) → IsBeginning h.note.body → Begins hs h
here hs h begins = (h, record { causes = []; chain = tt; begins = refl }, begins)

-- a record goes back to where its cause does
further : {hs : List Happening} (h : Happening) {g : Happening} → numbered hs (cause_of h.note.body) ≡ Some g
    → Begins hs g → Begins hs h
further h {g} there back =
    (back.0, record { causes = g ∷ back.1.causes; chain = (there, back.1.chain); begins = back.1.begins }, back.2)

-- the last of a list is in it, or is what was given for an empty one
pub last_in : (o : Option Happening) (hs : List Happening) (h : Happening) → last_or o hs ≡ Some h → (o ≡ Some h) ⊎ IsIn h hs
last_in o [] h e = inl e
last_in o (g ∷ hs) h e = grind (arith, same_some, (last_in (Some g) hs h e))

-- where nothing was given, the last of a list is in it
pub last_there : (hs : List Happening) (h : Happening) → last_or None hs ≡ Some h → IsIn h hs
last_there hs h e = elim (last_in None hs h e) [ inl none ↦ absurd cc | inr i ↦ i ]

-- what a switch took last is among the records
pub accepted_in : {ps : List Happening} {device : DeviceId} {vl : _} {t cause cycle : ℕ}
    (has : HasAccepted ps device vl t cause cycle) → IsIn has.taken ps
accepted_in {ps} {device} {vl} {t} has =
    in_filter (λ h. nat_lt (time_of h) t) ps has.taken
    (in_filter (λ h. is_accepted device vl h.note.body) (earlier t ps) has.taken (last_there _ has.taken has.last))

-- a record of what a switch accepted says that it was taken
is_taken : (h : Happening) (device : DeviceId) (link : LinkId) (from : ℕ) (vl : _) (cycle : ℕ) → h.note.body ≡ notes.Accepted device link from vl cycle
    → IsTaken h.note.body
is_taken h device link from vl cycle is = subst IsTaken (sym is) tt

-- from what put a frame the chain goes back to a beginning, where it does from each earlier record of a taking
begins_by : {s : Scenario} (hs : List Happening) {ps : List Happening} (qs : List Happening) {g : Happening}
    → hs ≡ ps ++ g ∷ qs → IsFounded place_of (IsDue s) ps → IsDue s ps g
    → ((t : Happening) → IsIn t hs → t.note.number < g.note.number → IsTaken t.note.body → Begins hs t)
    → (body : NoteBody) → g.note.body ≡ body → IsPutting body → IsCaused s ps g.note.time body → Begins hs g
begins_by {s} hs {ps} qs {g} whole founded due back (notes.TtSent device link cause vl cycle) is puts caused =
    elim caused.dispatches.at_hand [
      | inl sender ↦ here hs g (subst IsBeginning (sym is) sender.1)
      | inr has ↦
          let taken = has.1.taken in
          let there : IsIn taken ps = subst (λ v. IsIn taken ps) caused.dispatches.of_vl (accepted_in has.1) in
          let found = by_number s ps taken founded there in
          let within = numbered_within ps taken.note.number taken found in
          let in_whole : numbered hs taken.note.number ≡ Some taken =
          rw whole (numbered_front ps (g ∷ qs) taken.note.number taken found) in
          let from : cause_of g.note.body ≡ taken.note.number = ap cause_of is ∙ has.1.number in
          further g
          (rw from in_whole)
          (back taken (numbered_in hs taken.note.number taken in_whole) (omega (arith, due.number))
          (is_taken taken device has.1.link has.1.from _ cycle has.1.is))
    ]
begins_by hs qs {g} whole founded due back (notes.Event line (Send link octets)) is puts caused =
    here hs g (subst IsBeginning (sym is) tt)
begins_by hs qs whole founded due back other is puts caused = absurd puts

-- from each record by which a frame was taken the chain goes back to a beginning
begins_from : (s : Scenario) (hs : List Happening) → IsFounded place_of (IsDue s) hs → (n : ℕ) (h : Happening) → IsIn h hs → h.note.number < n
    → IsTaken h.note.body → Begins hs h
begins_from s hs founded zero h i small taken = absurd (omega arith)
begins_from s hs founded (suc n) h i small taken =
    let at = founded_at s hs h founded i in
    let put = cause_puts s at.front h.note.time h.note.body taken at.due.cause in
    let number = number_is s at.front (cause_of h.note.body) put.putting at.founded put.there in
    let within = numbered_within at.front (cause_of h.note.body) put.putting put.there in
    let there : numbered hs (cause_of h.note.body) ≡ Some put.putting =
    rw (sym at.whole) at (numbered_front at.front (h ∷ at.rest) (cause_of h.note.body) put.putting put.there) in
    let of = founded_at s hs put.putting founded (numbered_in hs (cause_of h.note.body) put.putting there) in
    further h there
    (begins_by hs of.rest of.whole of.founded of.due
    (λ t ti less took. begins_from s hs founded n t ti (omega (arith, at.due.number)) took)
    put.putting.note.body refl put.puts of.due.cause)

-- the law: the frames that are delivered go back to where they begin
pub deliveries_begin : DeliveriesBegin
deliveries_begin s mark ns h device link cause vl cycle run i is = begins_from s _ run.founded (suc h.note.number) h i (omega arith) (subst IsTaken (sym is) tt)

-- ---- the frames of masters come to the first switches of their ways

-- ---- the way up from a master

module _ {n : Network} (master : DeviceId) (link : LinkId) (l : Link) (range : IsInRange n) (keeps : KeepsRules n)
    (there : link_at n link ≡ Some l) (role : has_role n is_master master ≡ true) where
  -- a master is the parent of no link
  no_parent : l.parent.0 ≡ master.0 → ⊥
  no_parent same =
      let joint = keeps Joints link.0 l there in
      let switch = opened (λ d. d.channel ≡ Some joint.0) (device_at n l.parent) joint.1 in
      let known =
      in_all IsDeviceInRange n.device l.parent.0 switch.0 range.devices switch.1 in
      let at : device_at n master ≡ Some switch.0 =
      rw (sym same) switch.1 in
      let ends = master_ends switch.0.role (rw at at role) in
      both_ways (is_some switch.0.channel) (known.switches ∙ not_from_true (is_end_system switch.0.role) ends)
      (rw switch.2)

  -- so it sends up
  way_is_up : way_from n master link ≡ Up
  way_is_up =
      let parent : is_parent_of n master link ≡ (l.parent.0 == master.0) =
      rw there in
      rw (parent ∙ ne_eqb l.parent.0 master.0 (no_parent))

-- ---- the leaving

module _ {s : Scenario} {ps : List Happening} {h : Happening} (master : DeviceId) (cycle : ℕ) (due : IsDue s ps h)
    (is : h.note.body ≡ notes.Sent master cycle) where
  -- what is sent has this frame
  sent_frame : h.frame ≡ Some (dispatched_frame s.network master cycle)
  sent_frame = rw due.same (ap (frame_by s.network ps) is)

  -- what sends is a master
  sent_by_master : has_role s.network is_master master ≡ true
  sent_by_master =
      let there : IsCaused s ps h.note.time (notes.Sent master cycle) =
      subst (IsCaused s ps h.note.time) is due.cause in
      there.master

-- the time that a clock shows to have gone by, while a lawful master holds a frame, is at most dmax
hold_is_young : {s : Scenario} (master : DeviceId) (link : LinkId) (l : Link) (t : ℕ) → IsLawful s
    → link_at s.network link ≡ Some l → s.reading master
    (leaving_time s link t) - s.reading master t ≤ amount s.network.dmax
hold_is_young {s} master link l t lawful there =
    let n = s.network in
    let known = in_all (IsLinkInRange n) n.link link.0 l lawful.range.links there in
    let tree = rules_give_trees n (shape_rules n lawful.rules) in
    let beta = (beta_exists n tree).1 in
    let is : IsBeta n (pos (beta_at n beta.jitter beta.links)) = subst (IsBeta n) beta.value beta in
    let room = margins rules_give_trees n (beta_at n beta.jitter beta.links) lawful.range lawful.rules is in
    let here = in_all (λ k. beta_at n beta.jitter beta.links + delay_by k ≤ amount n.dmax) n.link link.0 l room.dmax.links there in
    let most = hold_most s link l Up t lawful there known.hold.least in
    grows_little n beta.jitter beta.links (amount l.hold) (amount l.wire) (amount l.jitter) (leaving_time s link t - t)
    (s.reading master (leaving_time s link t) - s.reading master t) (amount_within lawful.range.grain).1
    ((lawful.clocks master).drifts t (leaving_time s link t) (omega arith))
    (omega arith)
    here

-- a frame that is given to a whole way and is not too old leaves
whole_departs : (s : Scenario) (ps : List Happening) (h : Happening) (master : DeviceId) (cycle : ℕ) (link : LinkId) (frame : Pcf)
    → numbered ps h.note.number ≡ Some h → h.note.body ≡ notes.Sent master cycle → h.frame ≡ Some frame → IsChildOf s.network master link
    → way_from s.network master link ≡ Up
    → is_broken s master (leaving_time s link (time_of h)) ≡ false → is_cut s link Up (leaving_time s link (time_of h)) ≡ false
    → clock_at_leaving s master frame (time_of h) (leaving_time s link (time_of h)) ≤ amount s.network.dmax
    → Departs s ps master (leaving_time s link (time_of h)) link h.note.number
    (leaves (clock_at_leaving s master frame (time_of h) (leaving_time s link (time_of h))))
whole_departs s ps h master cycle link frame found is of_frame child up correct whole young =
    let t = leaving_time s link (time_of h) in
    let clock = clock_at_leaving s master frame (time_of h) t in
    let gives : Gives s.network (notes.Sent master cycle) master link = (refl, child) in
    let cut : is_cut s link (way_from s.network master link) t ≡ false = rw up whole in
    record {
      giving = h;
      there = found;
      gives = rw is gives;
      frame = frame;
      of_frame = of_frame;
      held = ap (λ w. time_of h + hold_at s link w (time_of h)) (sym up);
      correct = correct;
      becomes =
          sym (rw (le-ltb (amount s.network.dmax) clock young)
          (ap (λ b. if b then on_cut_way else leaves clock) cut));
    }

-- the record of a frame that left, with the frame
record HasLeft (s : Scenario) (hs : List Happening) (t number : ℕ) (master : DeviceId) (link : LinkId) : Type 0 where
  pub leaving : Happening
  pub there : IsIn leaving hs
  pub clock : ℕ
  pub body : leaving.note.body ≡ notes.Left master link number clock
  pub at : time_of leaving ≡ leaving_time s link t
  pub frame : Pcf
  pub of_frame : leaving.frame ≡ Some frame

-- the record with a body at a time that comes next
abbrev pub next_note : List Happening → ℕ → NoteBody → Note
next_note ps t body = record { number = length ps + 1; time = units_of t; body = body }

-- such a record with a cause is due
pub next_due : (s : Scenario) (ps : List Happening) (t : ℕ) (body : NoteBody) → IsCaused s ps (units_of t) body
    → IsDue s ps (happening s.network ps (next_note ps t body))
next_due s ps t body cause = record { number = refl; same = refl; begun = omega (arith, ints); cause = cause }

-- the frame of a record that leaves
left_frame : (network : Network) (ps : List Happening) (h : Happening) (clock : ℕ) (frame : Pcf) → numbered ps h.note.number ≡ Some h → h.frame ≡ Some frame
    → option_map (with_clock clock) (frame_from ps h.note.number) ≡ Some (with_clock clock frame)
left_frame network ps h clock frame found of_frame =
    rw found (ap (option_map (with_clock clock)) of_frame)

-- a record of sending is before the leaving
sent_before : (u held : ℕ) (r : ℕ) (rest more : List ℕ) → r ≡ 5 → IsBefore (u ∷ r ∷ rest) ((u + held) ∷ 8 ∷ more)
sent_before u held r rest more five = elim (cases_lt u (u + held)) [
  | inl lt ↦ inl lt
  | inr ge ↦
      inr (omega arith, inl (omega arith))
]

-- a frame that a master sends on a whole way up leaves
has_left : {s : Scenario} {mark : List ℕ} {hs : List Happening} (h : Happening) (master : DeviceId) (cycle : ℕ)
    (link : LinkId) (l : Link) → IsLawful s → IsRun place_of (IsDue s) mark hs → IsIn h hs
    → h.note.body ≡ notes.Sent master cycle → link_at s.network link ≡ Some l → l.child ≡ master
    → way_from s.network master link ≡ Up → is_broken s master (leaving_time s link (time_of h)) ≡ false
    → is_cut s link Up (leaving_time s link (time_of h)) ≡ false
    → ((more : List ℕ) → IsBefore (leaving_time s link (time_of h) ∷ more) mark)
    → HasLeft s hs (time_of h) h.note.number master link
has_left {s} {mark} {hs} h master cycle link l lawful run i is there child up correct whole in_time =
    let t = leaving_time s link (time_of h) in
    let frame = dispatched_frame s.network master cycle in
    let clock = clock_at_leaving s master frame (time_of h) t in
    let body = notes.Left master link h.note.number clock in
    let before = founded_at s hs h run.founded i in
    let of_frame = sent_frame master cycle before.due is in
    let at = split place_of (IsDue s) hs (t ∷ 8 ∷ master.0 ∷ link.0 ∷ h.note.number ∷ []) run.founded in
    let sooner = sent_before (time_of h) (hold_at s link Up (time_of h))
    (rank h.note.body) (key (members_in h) h.note.body) (master.0 ∷ link.0 ∷ h.note.number ∷ []) (ap rank is) in
    let front = front_founded place_of (IsDue s) at.front at.rest (subst (IsFounded place_of (IsDue s)) at.whole run.founded) in
    let found = by_number s at.front h front (in_front_of at h i sooner) in
    let young : clock ≤ amount s.network.dmax = omega (arith, hold_is_young master link l (time_of h) lawful there) in
    let departs = whole_departs s at.front h master cycle link frame found is of_frame
    (closed (λ k. k.child ≡ master) (link_at s.network link) l there child) up correct whole young in
    record {
      leaving = happening s.network at.front (next_note at.front t body);
      there = due_is_there at run (next_due s at.front t body departs) (in_time _);
      clock = clock;
      body = refl;
      at = refl;
      frame = with_clock clock frame;
      of_frame = left_frame s.network at.front h clock frame found of_frame;
    }

-- ---- the arrival

-- the control frame is taken: it waits, is passed on, or both
record IsTakenOn (a : Arrival) : Type 0 where
  pub frame : Pcf
  pub point : Units
  pub way : Way
  pub is : (a ≡ arrivals.Waits frame point) ⊎ ((a ≡ arrivals.Passes frame way) ⊎ (a ≡ arrivals.PassesAndWaits frame way point))

-- a control frame is dropped for some reason, or taken
abbrev Outcome : Arrival → Type 0
Outcome a = ((reason : Reason) × (a ≡ arrivals.Dropped reason)) ⊎ IsTakenOn a

-- a frame without a fault waits, is passed on, or both
passed_on : (relay parent : Bool) (frame : Pcf) (point : Units)
    → Outcome (if relay then (if parent then arrivals.Passes frame Up else arrivals.PassesAndWaits frame Down point) else arrivals.Waits frame point)
passed_on true true frame point = inr (record { frame = frame; point = point; way = Up; is = inr (inl refl) })
passed_on true false frame point = inr (record { frame = frame; point = point; way = Down; is = inr (inr refl) })
passed_on false parent frame point = inr (record { frame = frame; point = point; way = Up; is = inl refl })

module _ (network : Network) (device : DeviceId) (link : LinkId) where
  -- a frame with a fault, or with none, is dropped or taken
  judged : (at : Standpoint) (frame : Pcf) (fault : Option Reason)
      → Outcome (frame_or_fault network device link at frame fault)
  judged at frame (Some reason) = inl (reason, refl)
  judged at frame None = passed_on (is_relay network device) (is_parent_of network device link) _ _

  -- so is each control frame that a device finds at its arrival
  outcome : (at : Standpoint) (frame : Pcf) → Outcome (control_arrival network device link at (Ok frame))
  outcome at frame = judged at frame (frame_fault network device link at frame)

-- where a device stands, by the records of earlier times
abbrev standpoint_by : Scenario → DeviceId → ℕ → List Happening → Standpoint
standpoint_by s device t es = record {
  takes_part = not (is_off (if is_turned_on_at s device t then Integrating else state_after s es device)) && not (is_broken s device t);
  state = if is_turned_on_at s device t then Integrating else state_after s es device;
  reading = s.reading device t;
  adjustment = (adjustment_after s es device).0;
}

-- among all records of earlier times it stands in one place
same_standpoint : (s : Scenario) (device : DeviceId) (t : ℕ) (more rest : List ℕ) {hs : List Happening}
    (at : IsSplit place_of hs (t ∷ more)) (by : IsSplit place_of hs (t ∷ rest))
    → standpoint s by.front device t ≡ standpoint s at.front device t
same_standpoint s device t more rest {hs} at by =
    ap (standpoint_by s device t) (same_earlier t rest by ∙ sym (same_earlier t more at))

module _ (s : Scenario) (ps : List Happening) (leaving : Happening) (device : DeviceId) (link : LinkId) (t : ℕ)
    (frame : Pcf) where
  -- a frame that is on its way arrives, given any records with that of its leaving
  arrives_as : (a : Arrival) → numbered ps leaving.note.number ≡ Some leaving
      → Arrives s leaving device link t (control (Ok frame))
      → control_arrival s.network device link (standpoint s ps device t) (Ok frame) ≡ a
      → ArrivesAs s ps device t link leaving.note.number a
  arrives_as a found arrives is = grind (arith, control)

  -- the record of a frame that is taken
  arrived_record : numbered ps leaving.note.number ≡ Some leaving
      → Arrives s leaving device link t (control (Ok frame))
      → (taken : IsTakenOn (control_arrival s.network device link (standpoint s ps device t) (Ok frame)))
      → IsArrivedRecord s ps device t link leaving.note.number taken.frame.clock
  arrived_record found arrives taken = record {
    frame = taken.frame;
    point = taken.point;
    way = taken.way;
    taken = elim taken.is [
      | inl is ↦ inl (arrives_as (arrivals.Waits taken.frame taken.point) found arrives is)
      | inr (inl is) ↦ inr (inl (arrives_as (arrivals.Passes taken.frame taken.way) found arrives is))
      | inr (inr is) ↦ inr (inr (arrives_as (arrivals.PassesAndWaits taken.frame taken.way taken.point) found arrives
          is))
    ];
    shows = refl;
  }

-- the record of a frame that has come
record HasArrived (s : Scenario) (hs : List Happening) (t number : ℕ) (device : DeviceId) (link : LinkId) : Type 0 where
  pub coming : Happening
  pub there : IsIn coming hs
  pub at : time_of coming ≡ t
  pub comes : ComesTo device link number coming.note.body

-- a record of an earlier time is among those before a place
pub found_before : (s : Scenario) {hs : List Happening} (t : ℕ) (more : List ℕ) (at : IsSplit place_of hs (t ∷ more))
    (h : Happening) → IsFounded place_of (IsDue s) hs → IsIn h hs → time_of h < t
    → numbered at.front h.note.number ≡ Some h
found_before s {hs} t more at h founded i sooner =
    let front = front_founded place_of (IsDue s) at.front at.rest (subst (IsFounded place_of (IsDue s)) at.whole founded) in
    by_number s at.front h front (in_front_of at h i (inl sooner))

-- a control frame that is on its way comes
has_arrived : {s : Scenario} {mark : List ℕ} {hs : List Happening} {leaving : Happening} {device : DeviceId}
    {link : LinkId} {t : ℕ} (frame : Pcf) → IsRun place_of (IsDue s) mark hs → IsIn leaving hs → time_of leaving < t
    → Arrives s leaving device link t (control (Ok frame)) → IsBefore (t ∷ 14 ∷ []) mark
    → HasArrived s hs t leaving.note.number device link
has_arrived {s} {mark} {hs} {leaving} {device} {link} {t} frame run i sooner arrives in_time =
    let number = leaving.note.number in
    let at = split place_of (IsDue s) hs (t ∷ 2 ∷ device.0 ∷ link.0 ∷ number ∷ []) run.founded in
    let by = split place_of (IsDue s) hs (t ∷ 13 ∷ device.0 ∷ link.0 ∷ number ∷ []) run.founded in
    elim (outcome s.network device link (standpoint s at.front device t) frame) [
      | inr taken ↦
          let body = notes.Arrived device link number taken.frame.clock in
          let coming = happening s.network at.front (next_note at.front t body) in
          let arrived = arrived_record s at.front leaving device link t frame
          (found_before s t _ at leaving run.founded i sooner) arrives taken in
          record {
            coming = coming;
            there =
                due_is_there at run (next_due s at.front t body arrived)
                (chain (place_of coming) (t ∷ 14 ∷ []) mark (inr (refl, inl (omega arith))) in_time);
            at = refl;
            comes = inl (taken.frame.clock, refl);
          }
      | inl dropped ↦
          let body = notes.Dropped device link number dropped.0 in
          let coming = happening s.network by.front (next_note by.front t body) in
          let stands = same_standpoint s device t _ _ at by in
          let is : control_arrival s.network device link (standpoint s by.front device t) (Ok frame) ≡ arrivals.Dropped dropped.0 =
          ap (λ p. control_arrival s.network device link p (Ok frame)) stands ∙ dropped.1 in
          let drops = arrives_as s by.front leaving device link t frame (arrivals.Dropped dropped.0)
          (found_before s t _ by leaving run.founded i sooner)
          arrives is in
          record {
            coming = coming;
            there =
                due_is_there by run (next_due s by.front t body (inl drops))
                (chain (place_of coming) (t ∷ 14 ∷ []) mark (inr (refl, inl (omega arith))) in_time);
            at = refl;
            comes = inr (dropped.0, refl);
          }
    ]

-- ---- the law

-- a frame that left on its way up arrives at the parent of the link
goes_up : {s : Scenario} {hs : List Happening} {given number : ℕ} {master : DeviceId} {link : LinkId} (l : Link)
    (switch : DeviceId) (left : HasLeft s hs given number master link) → link_at s.network link ≡ Some l
    → l.parent ≡ switch → way_from s.network master link ≡ Up
    → Arrives s left.leaving switch link (arrival_time s link given) (control (Ok left.frame))
goes_up l switch left there parent up = grind (arith, time_of, launched, option_map, control)

-- the law: the frames of masters come to the first switches of their ways
pub sent_frames_come : SentFramesCome
sent_frames_come s mark ns h master cycle link switch lawful run i is leads correct whole in_time =
    let n = s.network in
    let t = leaving_time s link (time_of h) in
    let l = opened (λ k. (k.child ≡ master) × (k.parent ≡ switch)) (link_at n link) leads in
    let before = founded_at s _ h run.founded i in
    let up = way_is_up master link l.0 lawful.range lawful.rules l.1 (sent_by_master master cycle before.due is) in
    let known = in_all (IsLinkInRange n) n.link link.0 l.0 lawful.range.links l.1 in
    let least = delay_least s link l.0 Up t lawful l.1 known.wire.least in
    let left = has_left h master cycle link l.0 lawful run i is l.1 l.2.0 up correct whole
    (λ more. chain (t ∷ more) (arrival_time s link (time_of h) ∷ 14 ∷ []) mark (inl (omega arith)) in_time) in
    let come = has_arrived left.frame run left.there (omega (arith, left.at))
    (goes_up l.0 switch left l.1 l.2.1 up) in_time in
    record {
      leaving = left.leaving;
      left = by_number s _ left.leaving run.founded left.there;
      clock = left.clock;
      leaves = left.body;
      leaves_at = left.at;
      coming = come.coming;
      come = come.there;
      comes_at = come.at;
      comes = come.comes;
    }
