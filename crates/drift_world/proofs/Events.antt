-- Events that befall a world: they suit it, turn devices on, come later, and leave ways some time.
use Rattle.std.{proofs.{Common.{filter_map, negsuc}, lemmas.Bool.{and_from, cases_Bool, true≢false}}}
use Rattle.std.{specs.{List.{last_or, slice_get}, Prelude.option_to_list}}
use Rattle.drift_world.{specs.{Later.{ComesBehind, IsOpenFrom, MayApplyAgain}, Running.{HasReached, IsOpenTo, Reaches}}}
use Rattle.drift_world.proofs.{Rising.Rises, Storings.{begins_off, stays_off}}
use Rattle.drift_world.proofs.Words
use Words.{if◌then◌else◌, ◌&&◌, ◌*◌, ◌++◌, ◌+◌, ◌<ℤ◌, ◌<◌, ◌==◌, ◌^◌, ◌∙◌, ◌∷◌, ◌≡◌, ◌≤ℤ◌, ◌≤◌, AreWithinHypothesis}
use Words.{Bool, ComesUpTo, DeviceId, FitsWorld, Happening, IsBefore, IsCaused, IsDue, IsFounded, IsIn, IsInRange}
use Words.{IsOfNetwork, IsScenarioRun, IsSomeAnd, IsWithinHypothesis, Kept, Link, LinkId, List, Meaning, Network, None}
use Words.{NoneBefore, Note, Off, Ok, Option, OutOfMemory, Scenario, Some, Stands, StandsUnder, Units, Way, What, World}
use Words.{[], amount, and_parts, any_in, ap, append-nil, append_assoc, arith, both_ways, breaks_at, cases_lt, chain}
use Words.{delay_at, eq-eqb, eqb-true, false, false_from_ne_true, happening, happenings, in_all, in_filter, in_get}
use Words.{in_right, inl, inr, ints, is_broken, is_turned_on_at, length, link_at, list_any, nat_le, never_self}
use Words.{numbered_in, option_map_or, parted, place_of, pos, refl, scenario, subst, suc, sym, time_of, true, turns_on}
use Words.{units_of, unwrap_or, ℕ, ℤ}
use Rattle.net_plan.specs.{Places.{device_at, is_end_system, is_master}}
use Rattle.net_plan.specs.{declared.{event.Event.Event, tables.Device.Device}}
use Rattle.precision_law.proofs.Plain.{any_is, any_of_in}
use Rattle.run_law.proofs.{law.FirstDeliveries.in_at, records.Order.in_any}
use Rattle.run_law.proofs.{runs.{NetworkRuns.one_more, Places.before_or_not}, scenario.Devices.broken_by}
use Rattle.world_law.proofs.{giving.GivenParts.some_same, runs.Worlds.{event_cause, event_place}}
use Rattle.run_law.specs.{declared.outside.Outside.TheVariants.Late, device.States.state_before}
use Rattle.run_law.specs.{records.{Causes.IsOfThisTime, Order.AllBefore}, runs.DueRecords.IsEventRecord}
use Rattle.run_law.specs.scenario.{Devices.is_end, Faults.{Breaks, IsBroken, TurnsOn}, Scenarios.events_up_to}
use Rattle.run_law.specs.scenario.{Ways.{is_way, is_way_of, wire_of, wire_set}}
use Rattle.schedule_tables.proofs.Margins.{master_ends}
use Rattle.tte_units.proofs.general_lemmas.{Bools.same_tests, Integers.whole as whole_time}
use Rattle.world_law.{specs.world.World.{IsForward, IsFromEnd, has_outcome}}
use Rattle.world_law.proofs.{steps_lemmas.steps.AppliedParts.before_others}
use Rattle.net_plan.specs.declared.event.What.TheVariants as events
use Rattle.run_law.specs.declared.note.NoteBody.TheVariants as kinds
use Rattle.run_law.specs.declared.outside.Outside.TheVariants as outside

-- ---- under events within the hypothesis each way of a link takes some time

-- ---- a wire that is set is no shorter than the link's

-- the value, where there is one, is at least 1
abbrev IsSome1 : Option ℕ → Type 0
IsSome1 None = Unit {0}
IsSome1 (Some n) = 1 ≤ n

wire_is : (network : Network) (link other : LinkId) {l : Link} (way turned : Way) (delay : Units) (before : List Event) (event : Event)
    → link_at network link ≡ Some l → pos 1 ≤ℤ l.wire.0 → IsWithinHypothesis network before event → event.what ≡ events.Wire other turned delay
    → (b : Bool) → is_way_of link way other turned ≡ b → IsSome1 (if b then Some (amount delay) else None)
wire_is network link other way turned delay before event there least within what false e = tt
wire_is network link other {l} way turned delay before event there least within what true e =
    let same = eqb-true link.0 other.0 (and_parts (link.0 == other.0) (is_way way turned) e).0 in
    let at : link_at network other ≡ Some l = rw same at there in
    elim (cases_lt (amount delay) 1) [
      | inr some ↦ some
      | inl none ↦ absurd (within outside.Wire (record {
        link = other;
        way = turned;
        delay = delay;
        what = what;
        other = rw at (inl (omega (arith, ints)));
      }))
    ]

wire_kept : (network : Network) (link : LinkId) {l : Link} (way : Way) (before : List Event) (event : Event) → link_at network link ≡ Some l
    → pos 1 ≤ℤ l.wire.0 → IsWithinHypothesis network before event → (what : What) → event.what ≡ what → IsSome1 (wire_set link way what)
wire_kept network link {l} way before event there least within (events.Wire other turned delay) same =
    wire_is network link other way turned delay before event there least within same (is_way_of link way other turned) refl
wire_kept network link way before event there least within (events.Rate device rate) same = tt
wire_kept network link way before event there least within other same = tt

-- ---- the last that is set

kept_by : (setting : Event → Option ℕ) (es : List Event) (o p : Option ℕ) → IsSome1 o → IsSome1 p
    → ((q : Option ℕ) → IsSome1 q → IsSome1 (last_or q (filter_map setting es)))
    → IsSome1 (last_or o (Rattle.std.specs.List.cons_option p (filter_map setting es)))
kept_by setting es o None is here more = more o is
kept_by setting es o (Some n) is here more = more (Some n) here

last_kept : (setting : Event → Option ℕ) (es : List Event) (o : Option ℕ) → IsSome1 o → ((e : Event) → IsIn e es → IsSome1 (setting e))
    → IsSome1 (last_or o (filter_map setting es))
last_kept setting [] o is each = is
last_kept setting (e ∷ es) o is each = kept_by setting es o (setting e) is (each e (inl refl)) (λ q here. last_kept setting es q here (λ d i. each d (inr i)))

unwrapped : (o : Option ℕ) (n : ℕ) → IsSome1 o → 1 ≤ n → 1 ≤ unwrap_or o n
unwrapped None n is some = some
unwrapped (Some m) n is some = is

pub forward : {network : Network} (f : DeviceId → ℕ → ℕ) (all : List Event) → IsInRange network
    → AreWithinHypothesis network all → IsForward (scenario network f all)
forward {network} f all range within link way device t receives = of (link_at network link) refl
  where
    of : (o : Option Link) → link_at network link ≡ o → 1 ≤ delay_at (scenario network f all) link way t
    of None none =
        absurd cc
    of (Some l) there =
        let known = in_all (Rattle.net_plan.specs.Ranges.IsLinkInRange network) network.link link.0 l range.links there in
        let least = known.wire.least in
        let set = λ (e : Event). wire_set link way e.what in
        let each : (e : Event) → IsIn e (events_up_to (scenario network f all) t) → IsSome1 (set e) = λ e i.
        let at = parted e all (in_filter (λ d. nat_le (amount d.time) t) all e i) in
        wire_kept network link way at.0 e there least (within at.0 at.1 e at.2) e.what refl in
        let nominal : wire_of network link ≡ amount l.wire = rw there in
        unwrapped (last_or None (filter_map set (events_up_to (scenario network f all) t))) (wire_of network link)
        (last_kept set (events_up_to (scenario network f all) t) None tt each) (omega (arith, ints))

-- ---- an event within the hypothesis suits the world: it turns on only a device that is off and not broken, and has octets sent
-- only by an end system.

-- ---- octets are sent by a broken device alone, which is a master

not_end : (o : Option Device) → option_map_or (λ d. is_end_system d.role) o false ≡ false → IsSomeAnd o (λ d. is_master d.role ≡ true) → ⊥
not_end None none_such master = absurd master
not_end (Some d) none_such master = let yes = master_ends d.role master in let bad = sym yes ∙ none_such in cc

-- a device that is broken is an end system
broken_ends : (network : Network) (past : List Event) (device : DeviceId) → AreWithinHypothesis network past → is_end network device ≡ false
    → IsBroken past device → ⊥
broken_ends network past device within none_such broken =
    let it = any_is (Breaks device) past broken in
    let at = parted it.0 past it.1 in
    within at.0 at.1 it.0 at.2 outside.NotMaster (record { device = device; breaks = it.2; no_master = not_end (device_at network device) none_such })

sends_end : (network : Network) (past : List Event) (event : Event) (link : LinkId) (octets : List ℕ) → AreWithinHypothesis network past
    → IsWithinHypothesis network past event → event.what ≡ events.Send link octets → link.0 < length network.link → IsFromEnd network link
sends_end network past event link octets within here what there = from (link_at network link) refl
  where
    lacks : (o : Option Link) → link_at network link ≡ o → IsSomeAnd o (λ l. is_end network l.child ≡ false) → IsSomeAnd o (λ l. IsBroken past l.child) → ⊥
    lacks None is none_such broken = absurd none_such
    lacks (Some l) is none_such broken = broken_ends network past l.child within none_such broken

    from : (o : Option Link) → link_at network link ≡ o → IsFromEnd network link
    from None none = let it = Rattle.drift_world.proofs.Beginnings.found network.link link.0 there in let bad =
        sym none ∙ it.1 in absurd cc
    from (Some l) is = elim (cases_Bool (is_end network l.child)) [
      | inl is_so ↦ rw is is_so
      | inr none_such ↦ absurd (here outside.NotBroken (record {
        link = link;
        octets = octets;
        what = what;
        unbroken = λ broken. lacks (Some l) is none_such (rw is at broken);
      }))
    ]

-- ---- a device that is turned on is off, and not broken

module _ {C M : Type 0} {reading : C → ℕ → ℕ} {stands : Meaning M} (network : Network) (f : DeviceId → ℕ → ℕ)
    (past : List Event) {world : World C M} {notes : List Note} (old : Stands reading stands (scenario network f past) world notes)
    (event : Event) (within : IsWithinHypothesis network past event) where
  not_broken : (device : DeviceId) → event.what ≡ events.On device → is_broken (scenario network f past) device world.now ≡ true → ⊥
  not_broken device what broken =
      let it = any_in (λ e. breaks_at device.0 e.what) (Rattle.run_law.specs.scenario.Scenarios.events_up_to (scenario network f past) world.now) broken in
      within outside.NotOff (record {
        device = device;
        what = what;
        known = inr (inr (any_of_in (Breaks device) it.0 past
            (in_filter (λ e. nat_le (amount e.time) world.now) past it.0 it.1)
            (broken_by device it.0.what it.2)));
      })

  off_before : (device : DeviceId) → event.what ≡ events.On device
      → state_before (scenario network f past) (happenings network notes) device world.now ≡ Off
  off_before device what =
      let s = scenario network f past in
      stays_off s device (begins_off s device (λ begins. within outside.NotOff (record { device = device; what = what; known = inl begins })))
      (λ e i on. within outside.NotOff (record { device = device; what = what; known = inr (inl (any_of_in (TurnsOn device) e past i on)) }))
      (happenings network notes) (λ front rest z e. (old.run.founded front rest z e).1) world.now

  pub suits : (what : What) → event.what ≡ what → AreWithinHypothesis network past → IsOfNetwork network what
      → FitsWorld (scenario network f past) (happenings network notes) world.now what
  suits (events.On device) what all of_network =
      (of_network, off_before device what, false_from_ne_true (is_broken (scenario network f past) device world.now) (not_broken device what))
  suits (events.Send link octets) what all of_network = sends_end network past event link octets all within what of_network
  suits other what all of_network = tt

-- ---- a device is turned on at the present instant where such an event befell and is pending: records at a place

rises : (s : Scenario) (hs : List Happening) → IsFounded place_of (IsDue s) hs → (front xs : List Happening) → hs ≡ front ++ xs → Rises xs
rises s hs founded front [] is = tt
rises s hs founded front (x ∷ xs) is = (
  λ y there.
      let split = parted y xs there in
      let whole = is ∙ ap (λ l. front ++ x ∷ l) split.2
      ∙ sym (append_assoc front (x ∷ split.0) (y ∷ split.1)) in
      (founded (front ++ x ∷ split.0) split.1 y whole).0 x (in_right x front (x ∷ split.0) (inl refl)),
  rises s hs founded (front ++ x ∷ []) xs (is ∙ sym (append_assoc front (x ∷ []) xs)),
)

record IsSplit (hs : List Happening) (p : List ℕ) : Type 0 where
  pub front : List Happening
  pub back : List Happening
  pub whole : hs ≡ front ++ back
  pub before : AllBefore place_of front p
  pub none : NoneBefore place_of back p

split_at : (hs : List Happening) (p : List ℕ) → Rises hs → IsSplit hs p
split_at [] p up = record { front = []; back = []; whole = refl; before = λ y there. absurd there; none = λ y there. absurd there }
split_at (x ∷ xs) p up =
    elim (before_or_not (place_of x) p) [
      | inl sooner ↦
          let rest = split_at xs p up.1 in
          record {
            front = x ∷ rest.front;
            back = rest.back;
            whole = rw rest.whole;
            before = λ y there. elim there [ inl e ↦ rw e sooner | inr inside ↦ rest.before y inside ];
            none = rest.none;
          }
      | inr later ↦
          record {
            front = [];
            back = x ∷ xs;
            whole = refl;
            before = λ y there. absurd there;
            none = λ y there b.
                elim there [
                  | inl e ↦ later (rw e at b)
                  | inr inside ↦ later (chain (place_of x) (place_of y) p (up.0 y inside) b)
                ];
          }
    ]

abbrev first_of : List ℕ → ℕ
first_of [] = 0
first_of (n ∷ ns) = n

abbrev third_of : List ℕ → ℕ
third_of (a ∷ b ∷ n ∷ ns) = n
third_of other = 0

-- ---- the events of the instant

on_has_outcome : (device : DeviceId) (what : What) → turns_on device what ≡ true → has_outcome what ≡ true
on_has_outcome device (events.On other) on = refl
on_has_outcome device rest on = absurd (both_ways false refl on)

module _ {C M : Type 0} (reading : C → ℕ → ℕ) (stands : Meaning M) (s : Scenario) (world : World C M)
    (notes : List Note) (old : Stands reading stands s world notes) (early : world.early ≡ true)
    (begun : (e : Event) → IsIn e s.events → pos 0 ≤ℤ e.time.0) (device : DeviceId) where
  hs : List Happening
  hs = happenings s.network notes

  -- what befell at this instant was an event
  fell : list_any (λ b. turns_on device b.what) world.befell ≡ true → is_turned_on_at s device world.now ≡ true
  unfolding hs
  fell on =
      let found = any_in (λ b. turns_on device b.what) world.befell on in
      let b = found.0 in
      let real = old.untold.real b found.1 in
      let h = real.1 in
      let there = numbered_in hs b.number h real.2.there in
      let split = parted h hs there in
      let due = (old.run.founded split.0 split.1 h split.2).1 in
      let r : IsEventRecord s.events h.note.time real.0 b.what = subst (IsCaused s split.0 h.note.time) real.3 due.cause in
      in_any (λ e. turns_on device e.what && amount e.time == world.now) s.events r.event (in_at s.events r.before r.event r.is)
      (and_from _ _ (ap (turns_on device) (sym r.same) ∙ found.2) (eq-eqb (amount r.event.time) world.now (ap amount (sym r.at) ∙ real.2.same_time)))

  -- the events of this instant are pending
  unsettled : {number : ℕ} {h : Happening} → IsOfThisTime hs world.now number h → world.pending ≡ true
  unfolding hs
  unsettled {number} {h} it =
      elim (cases_Bool world.pending) [
        | inl yes_pending ↦ yes_pending
        | inr closed ↦ let over = old.untold.done closed number h it in absurd (never_self (world.now ∷ 2 ∷ []) (old.early early (world.now ∷ 2 ∷ []) over))
      ]

  -- an event of this instant has its record
  record IsTold (i : ℕ) (e : Event) : Type 0 where
    pub number : ℕ
    pub h : Happening
    pub this : IsOfThisTime hs world.now number h
    pub line : ℕ
    pub body : h.note.body ≡ kinds.Event line e.what

  told : (i : ℕ) (e : Event) → slice_get s.events i ≡ Some e → amount e.time ≡ world.now → IsTold i e
  unfolding hs
  told i e is now_is =
      let place = amount e.time ∷ 1 ∷ (i + 1) ∷ [] in
      let split = split_at hs place (rises s hs old.run.founded [] hs refl) in
      let y = happening s.network split.front (record { number = length split.front + 1; time = e.time; body = kinds.Event (i + 1) e.what }) in
      let due : IsDue s split.front y = record {
        number = refl;
        same = refl;
        begun = begun e (in_at s.events i e is);
        cause = record { event = e; before = i; line_is = refl; is = is; at = refl; same = refl };
      } in
      let found = old.run.full split.front split.back y split.whole split.before split.none due (old.befallen.told i e is) in
      let m = found.0 in
      let at_place = found.2 in
      let time_is : time_of m ≡ world.now = ap first_of at_place ∙ now_is in
      let soon : IsBefore (place_of m) (world.now ∷ 2 ∷ []) = subst (λ q. IsBefore q (world.now ∷ 2 ∷ [])) (sym at_place)
      (inr (now_is, inl (omega arith))) in
      elim (before_others m world.now soon) [
        | inl past ↦ absurd (omega arith)
        | inr here ↦
            let parts = parted m hs found.1 in
            let m_due = (old.run.founded parts.0 parts.1 m parts.2).1 in
            let c = event_cause s parts.0 m.note.time m.note.body here.1 m_due.cause in
            let r = c.3 in
            let lines : c.0 ≡ i + 1 = ap third_of (sym (event_place m c.0 c.1 c.2) ∙ at_place) in
            let line_is = r.line_is in
            let own = some_same r.event e (slice_get s.events i)
            (subst (λ n. slice_get s.events n ≡ Some r.event) (omega arith) r.is) is in
            let of = in_get hs m found.1 in
            record {
              number = suc of.0;
              h = m;
              this = record { there = of.1; same_time = time_is };
              line = c.0;
              body = c.2 ∙ ap (kinds.Event c.0) (r.same ∙ ap Event.what own);
            }
      ]

  befell_so : is_turned_on_at s device world.now ≡ true → list_any (λ b. turns_on device b.what) world.befell ≡ true
  unfolding hs
  befell_so on =
      let found = any_in (λ e. turns_on device e.what && amount e.time == world.now) s.events on in
      let e = found.0 in
      let both = and_parts (turns_on device e.what) (amount e.time == world.now) found.2 in
      let at = in_get s.events e found.1 in
      let it = told at.0 e at.1 (eqb-true (amount e.time) world.now both.1) in
      in_any (λ b. turns_on device b.what) world.befell (record { number = it.number; what = e.what })
      (old.untold.all (unsettled it.this) it.number it.line e.what it.h it.this it.body (on_has_outcome device e.what both.0)) both.0

  -- the device is turned on at this instant exactly where what befell turns it on
  pub turned_on_is : is_turned_on_at s device world.now ≡ list_any (λ b. turns_on device b.what) world.befell
  turned_on_is = same_tests _ _ befell_so fell

-- ---- an event of a later time befalls a world, where no record before it is left: times

at_most : (time : ℤ) (n : ℕ) → (pos n <ℤ time → ⊥) → time ≤ℤ pos n
at_most (pos m) n not = grind (arith, ints)
at_most (negsuc m) n not = omega (arith, ints)

-- an event within the hypothesis is in the range of times
pub time_limit : {network : Network} (events : List Event) (event : Event) → IsInRange network
    → IsWithinHypothesis network events event → event.time.0 ≤ℤ pos (2 ^ 60)
time_limit {network} events event range within =
    let late = at_most event.time.0 (2 ^ 20 * amount network.cycle) (within Late) in
    let is = whole_time network.cycle.0 (omega (arith, ints, range.cycle.least)) in
    let few : amount network.cycle ≤ 2 ^ 40 = omega (arith, ints, range.cycle.most, is) in
    omega (arith, ints, late, few)

-- ---- no record is left

-- none that is before the mark follows the run up to it
none_earlier : {s : Scenario} {mark later : List ℕ} (notes : List Note) (note : Note) → IsScenarioRun s mark notes
    → IsScenarioRun s later (notes ++ note ∷ []) → IsBefore
    (place_of (happening s.network (happenings s.network notes) note)) mark → ⊥
none_earlier {s} notes note whole more before =
    let hs = happenings s.network notes in
    let h = happening s.network hs note in
    let last = more.founded hs [] h (one_more s.network notes note) in
    let other = whole.full hs [] h (sym (append-nil hs)) last.0 (λ g none. absurd none) last.1 before in
    never_self (place_of h) (subst (λ p. IsBefore p (place_of h)) other.2 (last.0 other.0 other.1))

-- the world has come to the time of the event, which may befall it
pub record IsThere {C M : Type 0} (fresh : ℕ → C) (after_step : C → ℕ → ℤ → C) (reading : C → ℕ → ℕ)
    (stands : Meaning M) (network : Network) (old mid : World C (Kept M)) (events : List Event) (notes : List Note)
    (event : Event) : Type 0 where
  pub so : StandsUnder fresh after_step reading stands network mid events notes
  pub reached : HasReached old mid event.time
  pub opens : IsOpenTo mid event
  pub same : mid.network ≡ old.network
  pub lines : mid.lines ≡ old.lines
  pub given : mid.given ≡ old.given
  pub again : MayApplyAgain old mid event.time

module _ {C M : Type 0} {fresh : ℕ → C} {after_step : C → ℕ → ℤ → C} {reading : C → ℕ → ℕ} {stands : Meaning M}
    {network : Network} (old mid : World C (Kept M)) {events : List Event} {notes : List Note} {event : Event}
    (comes : ComesBehind fresh after_step reading stands network old events notes event) (opens : IsOpenFrom old event)
  where
    time_is : event.time.0 ≡ pos (amount event.time)
    time_is = whole_time event.time.0 (omega (arith, ints, opens.time))

    -- so none was given
    none_due : (o : Option Note) → StandsUnder fresh after_step reading stands network mid events (notes ++ option_to_list o)
        → ComesUpTo {E = OutOfMemory} old mid event.time (Ok o) → o ≡ None
    none_due None more reaches = refl
    none_due (Some note) more before =
        let lt = before.1 in
        let time = time_is in
        let at : note.time.0 ≡ pos mid.now = ap (λ u. u.0) before.0 in
        let amount_is : amount note.time ≡ mid.now = ap amount before.0 in
        elim (cases_lt old.now (amount event.time)) [
          | inl later ↦ absurd (none_earlier notes note (comes.none_left (omega (arith, ints, later, time))) more.is.run
              (inl (omega (arith, ints, lt, time, at, amount_is))))
          | inr now ↦ absurd (none_earlier notes note comes.is.is.run more.is.run
              (comes.is.is.of_now _ (inl (omega (arith, ints, lt, time, at, amount_is, now)))))
        ]

    module _ (o : Option Note) (more : StandsUnder fresh after_step reading stands network mid events (notes ++ option_to_list o))
        (reached : ComesUpTo {E = OutOfMemory} old mid event.time (Ok o)) where
      -- the same events and records leave the world there
      stands_there : StandsUnder fresh after_step reading stands network mid events notes
      stands_there = rw (sym (ap (λ (p : Option Note). notes ++ option_to_list p) (none_due o more reached) ∙ append-nil
          notes)) more

      -- the world has come to the time of the event
      has_reached : HasReached old mid event.time
      has_reached =
          let R : Option Note → Type 0 = λ p. ComesUpTo {E = OutOfMemory} old mid event.time (Ok p) in
          let reaches : Reaches old mid event.time = subst R (none_due o more reached) reached in
          reaches opens.unended opens.time (time_limit events event comes.is.is.range comes.within)

      -- the event may befall it
      open_there : IsOpenTo mid event
      open_there =
          let there = has_reached in
          let time = time_is in
          let a = comes.is.is in
          let b = stands_there.is in
          record {
            time = sym there.time;
            early = there.early (elim (cases_lt old.now (amount event.time)) [
              | inl later ↦ inl (omega (arith, ints, later, time))
              | inr now ↦ inr (opens.early (omega (arith, ints, now, time, opens.time)))
            ]);
            unended = false_from_ne_true mid.ended
                (λ ended. true≢false (sym ((a.ended (units_of mid.now)).0 ((b.ended (units_of mid.now)).1 (ended, refl))).0 ∙ opens.unended));
          }

      lines_there : mid.lines ≡ old.lines
      lines_there = stands_there.is.lines ∙ sym comes.is.is.lines

      given_there : mid.given ≡ old.given
      given_there = stands_there.is.given ∙ sym comes.is.is.given

      network_there : mid.network ≡ old.network
      network_there = stands_there.is.same ∙ sym comes.is.is.same

      later_there : old.now ≤ mid.now
      later_there = let there = has_reached in let now = there.time in let not_past = opens.time in omega (arith, ints, now, not_past)

      -- memory ran out there
      again_there : MayApplyAgain old mid event.time
      again_there =
          let there = has_reached in
          record {
            same = network_there;
            lines = lines_there;
            given = given_there;
            ended = open_there.unended ∙ sym opens.unended;
            later = later_there;
            not_past = omega (arith, ints, there.time);
            early = λ at. open_there.early;
          }

      pub is_there : IsThere fresh after_step reading stands network old mid events notes event
      is_there = record {
        so = stands_there;
        reached = has_reached;
        opens = open_there;
        same = network_there;
        lines = lines_there;
        given = given_there;
        again = again_there;
      }
