-- A device acts once: its records are those of the law, and are put in at their places.
use Rattle.std.{proofs.{Common.{drop, get_or, take}, lemmas.{Bool.ne_eqb, List.take-append-drop}}}
use Rattle.std.{specs.{List.slice_get, Option.{option_and_then, option_map}, Prelude.All}}
use Rattle.drift_world.proofs.{Foremost.made_of, Locals.shows_of, Rising.settled_in_order}
use Rattle.drift_world.proofs.{Signals.{all_put_some, have_octets}}
use Rattle.drift_world.proofs.{Timings.{act_place_is, act_rank_is, left_no_sooner, part_most}}
use Rattle.world_law.proofs.{rows.{AtHand.sender_or, Dispatching.lawful}, runs.Worlds.length_is}
use Rattle.drift_world.proofs.{Turning.each_of}
use Rattle.drift_world.proofs.Words
use Words.{if◌then◌else◌, ◌++◌, ◌+◌, ◌<◌, ◌==◌, ◌∙◌, ◌∷◌, ◌≡◌, ◌≤◌, ArePutIn, AtPort, Bool, ComesFirst, DeviceId}
use Words.{Happening, HasActed, HasItsOctets, Holding, IfSome, InOrder, IsAt, IsBefore, IsIn, IsOf, IsOwn, IsPutAt}
use Words.{IsSomePut, Joining, Kept, List, Meaning, Moment, Network, Node, None, NoneBefore, Note, NoteBody, Off}
use Words.{Option, Scenario, Settled, Some, Stands, StandsFor, TurnsIn, Units, [], ap, arith, chain, departure_body}
use Words.{false, frame_from, happenings, in_parts, in_right, inl, inr, is_cut, keeps, length, map, moment_of}
use Words.{never_self, octets_from, octets_of, own_place, place_of, pos, rank, refl, same_Some, settled_as, settled_at}
use Words.{slice_get_within, stored_as, subst, suc, sym, true, units_of, way_from, with_clock, world_of, zero, ℕ}
use Rattle.drift_world.specs.{Acting.{AreAbove, IsDueAt, IsIdle, IsLeft}}
use Rattle.drift_world.specs.{Parts.{IsFirstPart, IsNoSoonerLeft, part_place, part_rank}}
use Rattle.drift_world.specs.{declared.{part.{Part.Part, ToDo.{TheVariants.{Next, Now}, ToDo}}, state.State.State}}
use Rattle.net_plan.specs.declared.ids.RowId.{RowId}
use Rattle.run_law.{proofs.runs.Places.{before_behind, either_way, in_left}}
use Rattle.run_law.specs.{control.Leaving.{Departure, leaves, on_cut_way, too_old}, declared.steps.{Act.Act, Ripe.Ripe}}
use Rattle.run_law.specs.{machines.{Answers.IsActOf, Calls.MayAct, Nodes.dispatching, Tasks.{IsFirstTask, doing}}}
use Rattle.run_law.specs.{records.{Frames.tt_frame, Order.{AllBefore, behind}}, timed.Dispatching.HasAtHand}
use Rattle.schedule_tables.specs.{Entries.IsEntry, declared.entry.Entry.Entry}
use Rattle.sync_state.specs.declared.{answers.Verdict.{TheVariants.{Cleared, Corrected}, Verdict}}
use Rattle.sync_state.specs.declared.{state.State.State as Standing}
use Rattle.world_law.proofs.steps_lemmas.{growing.FromZero.kept_from_zero, steps.Passed.no_task}
use Rattle.world_law.proofs.steps_lemmas.{turns.Turns.{act_starts_late, acted_turn}}
use Rattle.world_law.proofs.steps_lemmas.acting.{Dispatching.{IsHeldFrame, held_frame}}
use Rattle.world_law.proofs.steps_lemmas.acting.{Kept.{act_more, act_rest, act_stands, may_act_now}}
use Rattle.world_law.proofs.steps_lemmas.acting.{OneAct.{StageAt, stage_of}}
use Rattle.world_law.specs.{device.Left.HasTaskBy, source.Sources.task_place}
use Rattle.world_law.specs.steps.{Turns.starts_there}
use Rattle.world_law.specs.steps.Acting
use Acting.{Acts, AreActBodies, first_bodies, joining_bodies, place_of_act, rank_of_act, task_of}
use Rattle.world_law.specs.world.{Calls.{IsSet, IsStateOf}, Moves.IsPutIn, World.{AreStored, IsAtPort, IsKept, Stored}}
use Rattle.world_state.{proofs.WorldSteps.made_octets}
use Rattle.world_state.specs.{Leaving.frame_after}
use Rattle.world_state.specs.Acting.{AreOutcomes, HasItsRow, IsHeldIn, bodies_of, body_of, corrected_by, dispatched_by, first_by, joined_by}
use Rattle.world_state.specs.declared.{contents.Timed.TheVariants.Made, hands.AtHand.AtHand, outcomes.Outcomes.Outcomes}
use Rattle.run_law.specs.declared.note.NoteBody.TheVariants as kinds
use Rattle.run_law.specs.declared.steps.Act.TheVariants as acts
use Rattle.run_law.specs.declared.steps.Ripe.TheVariants as ripe

-- ---- a record that is put in at its place

pub map_parts : {X Y : Type 0} (f : X → Y) (xs ys : List X) → map f (xs ++ ys) ≡ map f xs ++ map f ys
map_parts f [] ys = refl
map_parts f (x ∷ xs) ys = rw (map_parts f xs ys)

module _ (network : Network) (now : ℕ) where
  abbrev shown : Settled → Happening
  shown z = settled_at network now z

  -- the time goes before
  timed : (a b : Settled) → IsBefore (own_place a) (own_place b) → IsBefore (place_of (shown a)) (place_of (shown b))
  timed a b before = inr (refl, before)

  untimed : (a b : Settled) → IsBefore (place_of (shown a)) (place_of (shown b)) → IsBefore (own_place a) (own_place b)
  untimed a b (inl lt) = absurd (omega arith)
  untimed a b (inr h) = h.1

  -- what is not behind one that is before the record is before it
  sooner_still : (x y z : Settled) → (IsBefore (place_of (shown y)) (place_of (shown x)) → ⊥) → IsBefore (place_of (shown y)) (place_of (shown z))
      → IsBefore (place_of (shown x)) (place_of (shown z))
  sooner_still x y z order before = elim (either_way (place_of (shown x)) (place_of (shown z))) [
    | inl sooner ↦ sooner
    | inr (inl same) ↦ absurd (order (subst (λ p. IsBefore (place_of (shown y)) p) (sym same) before))
    | inr (inr later) ↦ absurd (order (chain (place_of (shown y)) (place_of (shown z)) (place_of (shown x)) before later))
  ]

  all_before : (at : ℕ) (old : List Settled) (z : Settled) → InOrder (map shown old) → at ≤ length old
      → ((k : ℕ) (d : Settled) → at ≡ k + 1 → IsBefore (own_place (get_or old k d)) (own_place z))
      → AllBefore place_of (map shown (take at old)) (place_of (shown z))
  all_before zero old z order le behind h there = absurd there
  all_before (suc at) [] z order le behind h there = absurd there
  all_before (suc zero) (x ∷ old) z order le behind h (inl e) = rw e (timed x z (behind 0 z refl))
  all_before (suc (suc at)) (x ∷ []) z order le behind h there = absurd (omega arith)
  all_before (suc (suc at)) (x ∷ (y ∷ old)) z order le behind h (inl e) =
      rw e (sooner_still x y z (order.0 (shown y) (inl refl))
      (all_before (suc at) (y ∷ old) z order.1 (omega arith) (λ k d e. behind (suc k) d (omega arith)) (shown y)
      (inl refl)))
  all_before (suc zero) (x ∷ old) z order le behind h (inr rest) = absurd rest
  all_before (suc (suc at)) (x ∷ (y ∷ old)) z order le behind h (inr rest) =
      all_before (suc at) (y ∷ old) z order.1 (omega arith) (λ k d e. behind (suc k) d (omega arith)) h rest

  none_before : (at : ℕ) (old : List Settled) (z : Settled)
      → ((k : ℕ) (d : Settled) → at ≤ k → k < length old → IsBefore (own_place (get_or old k d)) (own_place z) → ⊥)
      → NoneBefore place_of (map shown (drop at old)) (place_of (shown z))
  none_before zero [] z none h there before = absurd there
  none_before zero (x ∷ old) z none h (inl e) before = none 0 z (omega arith) (omega arith)
      (untimed x z (rw e at before))
  none_before zero (x ∷ old) z none h (inr rest) before = none_before zero old z
      (λ k d le lt. none (suc k) d (omega arith) (omega arith)) h rest before
  none_before (suc at) [] z none h there before = absurd there
  none_before (suc at) (x ∷ old) z none h there before =
      none_before at old z (λ k d le lt. none (suc k) d (omega arith) (omega arith)) h there before

  pub is_put_in : {z : Settled} {old new : List Settled} {at : ℕ} → IsPutAt z old new at → InOrder (map shown old)
      → IsPutIn (shown z) (map shown old) (map shown new)
  is_put_in {z} {old} {at} put order =
      record {
        front = map shown (take at old);
        back = map shown (drop at old);
        was = ap (map shown) (sym (take-append-drop at old)) ∙ map_parts shown (take at old) (drop at old);
        is = ap (map shown) put.is ∙ map_parts shown (take at old) (z ∷ drop at old);
        before = all_before at old z order put.within put.behind;
        none = none_before at old z put.none;
      }

module _ (other network : Network) (now : ℕ) (hs : List Happening) (body : NoteBody) (z : Settled)
    (old new : List Settled) where
  -- one record is put in, as the law says it
  pub one_put_in : {at : ℕ} → IsPutAt z old new at → InOrder (map (settled_at network now) old)
      → settled_at network now z ≡ settled_as other hs now body
      → ArePutIn other hs now (body ∷ []) (map (settled_at network now) old) (map (settled_at network now) new)
  one_put_in {at} put order is = (
    map (settled_at network now) new,
    rw is at (is_put_in network now put order),
    refl,
  )

  -- a record is put in, or there is none
  pub some_put_in : (none : Bool) → IsSomePut (if none then None else Some z) old new
      → InOrder (map (settled_at network now) old) → settled_at network now z ≡ settled_as other hs now body
      → ArePutIn other hs now (if none then [] else body ∷ []) (map (settled_at network now) old)
      (map (settled_at network now) new)
  some_put_in true put order is = ap (map (settled_at network now)) put
  some_put_in false put order is = one_put_in put.1 order is

-- the record of a frame that leaves
pub departed_is : (other network : Network) (now : ℕ) (hs : List Happening) (e : AtPort) (d : Departure) → frame_from hs e.cause ≡ Some e.frame
    → settled_at network now (record { body = departure_body e d; frame = frame_after e.frame d; octets = None }) ≡ settled_as other hs now (departure_body e d)
departed_is other network now hs e (leaves clock) of = grind (arith, units_of, departure_body, with_clock)
departed_is other network now hs e too_old of = refl
departed_is other network now hs e on_cut_way of = refl

-- the frame of what is at a port is that of the record that gave it
pub frame_of_port : {s : Scenario} {hs : List Happening} {e : AtPort} → IsAtPort s hs e
    → frame_from hs e.cause ≡ Some e.frame
frame_of_port it = ap (option_and_then (λ h. h.frame)) it.there ∙ it.gave.of_frame

-- ---- with it what is settled is in order

order_with : (w : Happening) (front back : List Happening) → InOrder (front ++ back) → AllBefore place_of front (place_of w)
    → NoneBefore place_of back (place_of w) → InOrder (front ++ w ∷ back)
order_with w [] back order before none = (none, order)
order_with w (x ∷ front) back order before none = (
  λ h there b. elim (in_parts h front (w ∷ back) there) [
    | inl f ↦ order.0 h (in_left h front back f) b
    | inr (inl same) ↦
        never_self (place_of x) (chain (place_of x) (place_of w) (place_of x) (before x (inl refl))
        (rw same at b))
    | inr (inr r) ↦ order.0 h (in_right h front back r) b
  ],
  order_with w front back order.1 (λ h i. before h (inr i)) none,
)

pub order_put : {w : Happening} {old new : List Happening} → InOrder old → IsPutIn w old new → InOrder new
order_put {w} order put =
    subst InOrder (sym put.is) (order_with w put.front put.back (subst InOrder put.was order) put.before put.none)

-- ---- the records of an act are those of the law, and are put in: two records are put in, one after the other

module _ (other network : Network) (now : ℕ) (hs : List Happening) where
  abbrev all_at : List Settled → List Happening
  all_at zs = map (settled_at network now) zs

  pub order_then : (o : Option Settled) (old new : List Settled) → IsSomePut o old new → InOrder (all_at old) → InOrder (all_at new)
  order_then None old new put order = rw put order
  order_then (Some z) old new put order =
      order_put order (is_put_in network now put.1 order)

  pub one_by : (o : Option Settled) (old new : List Settled) → IsSomePut o old new → InOrder (all_at old) → IsOwn other network now hs o
      → ArePutIn other hs now (body_of o) (all_at old) (all_at new)
  one_by None old new put order own = ap all_at put
  one_by (Some z) old new put order own = (
    all_at new,
    rw own at (is_put_in network now put.1 order),
    refl,
  )

  pub both_put : (first second : Option Settled) (old mid new : List Settled) → IsSomePut first old mid → IsSomePut second mid new → InOrder (all_at old)
      → IsOwn other network now hs first → IsOwn other network now hs second → ArePutIn other hs now (body_of first ++ body_of second) (all_at old) (all_at new)
  both_put None second old mid new one two order own also =
      rw one at (one_by second mid new two (order_then None old mid one order) also)
  both_put (Some z) second old mid new one two order own also = (
    all_at mid,
    rw own at (is_put_in network now one.1 order),
    one_by second mid new two (order_then (Some z) old mid one order) also,
  )

-- ---- they have their octets, and are of no lower rank than so

abbrev pub IsFine : ℕ → Option Settled → Type 0
IsFine low None = Unit {0}
IsFine low (Some z) = HasItsOctets z.body z.octets × (low ≤ rank z.body)

-- the records of an act
pub record AreProper (s : Scenario) (hs : List Happening) (now : ℕ) (device : DeviceId) (was : Standing) (adjustment : Units) (act : Act)
    (outcomes : Outcomes) : Type 0 where
  pub bodies : AreActBodies s hs now device was adjustment act (bodies_of outcomes)
  pub first : IsOwn s.network s.network now hs outcomes.first
  pub second : IsOwn s.network s.network now hs outcomes.second
  pub first_fine : IsFine 4 outcomes.first
  pub second_fine : IsFine 7 outcomes.second

-- ---- frames of control

joining : (number : ℕ) (device : DeviceId) (heard : Ripe) → body_of (joined_by number device heard) ≡ joining_bodies number device heard
joining number device ripe.Opened = refl
joining number device other = refl

joining_own : (network : Network) (now : ℕ) (hs : List Happening) (number : ℕ) (device : DeviceId) (heard : Ripe)
    → IsOwn network network now hs (joined_by number device heard)
joining_own network now hs number device ripe.Integrates = refl
joining_own network now hs number device other = tt

joining_fine : (number : ℕ) (device : DeviceId) (heard : Ripe) → IsFine 7 (joined_by number device heard)
joining_fine number device ripe.Integrates = (tt, omega arith)
joining_fine number device other = tt

-- ---- corrections

first_is : (number : ℕ) (device : DeviceId) (was : Standing) → body_of (first_by number device was) ≡ first_bodies number device was
first_is number device Off = refl
first_is number device other = refl

first_own : (network : Network) (now : ℕ) (hs : List Happening) (number : ℕ) (device : DeviceId) (was : Standing)
    → IsOwn network network now hs (first_by number device was)
first_own network now hs number device Joining = refl
first_own network now hs number device other = tt

first_fine : (number : ℕ) (device : DeviceId) (was : Standing) → IsFine 7 (first_by number device was)
first_fine number device Joining = (tt, omega arith)
first_fine number device other = tt

of_correction : (s : Scenario) (hs : List Happening) (now : ℕ) (device : DeviceId) (was : Standing) (adjustment : Units) (cycle : ℕ)
    (verdict : Verdict)
    → AreProper s hs now device was adjustment (acts.Correct cycle verdict)
    (corrected_by (length hs + 1) device was cycle adjustment verdict)
of_correction s hs now device was adjustment cycle (Corrected by) = grind (arith, first_is, first_own, first_fine)
of_correction s hs now device was adjustment cycle Cleared = record { bodies = refl; first = tt; second = tt; first_fine = tt; second_fine = tt }
of_correction s hs now device was adjustment cycle other = grind (arith, first_fine)

-- ---- a dispatch

-- the sender's octets are the frame of the law
made_is : {network : Network} (cycle : ℕ) {entry : Entry} {place : ℕ} → IsEntry network place entry
    → octets_of network (Made entry.row.vl cycle) ≡ tt_frame network entry.row.vl cycle
made_is {network} cycle {entry} is =
    made_octets network entry.row.vl cycle (slice_get_within network.vl entry.row.vl.0 entry.vl is.vl)

module _ (s : Scenario) (hs : List Happening) (now : ℕ) (device : DeviceId) (was : Standing) (adjustment : Units) (row : RowId) (cycle : ℕ) (entry : Entry)
    (hand : AtHand) where
  abbrev told : Bool → Settled
  told b = dispatched_by b device entry cycle hand

  abbrev octets_now : List ℕ
  octets_now = if hand.cause == 0 then tt_frame s.network entry.row.vl cycle else octets_from hs hand.cause

  told_body : (b : Bool) → body_of (Some (told b)) ++ [] ≡ (if b then kinds.Lost device entry.row.link hand.cause
      else kinds.TtSent device entry.row.link hand.cause entry.row.vl cycle) ∷ []
  told_body true = refl
  told_body false = refl

  told_own : octets_of s.network hand.octets ≡ octets_now → (b : Bool) → IsOwn s.network s.network now hs (Some (told b))
  told_own octets true = refl
  told_own octets false = rw octets

  told_fine : (b : Bool) → IsFine 4 (Some (told b))
  told_fine true = (tt, omega arith)
  told_fine false = (tt, omega arith)

  of_dispatch : (outcomes : Outcomes) → IsEntry s.network row.0 entry → HasAtHand s.network hs device entry now hand.cause cycle
      → octets_of s.network hand.octets ≡ octets_now
      → outcomes.first ≡ Some (told (is_cut s entry.row.link (way_from s.network device entry.row.link) now)) → outcomes.second ≡ None
      → AreProper s hs now device was adjustment (acts.Dispatch row cycle) outcomes
  of_dispatch outcomes is at octets first second =
      let cut = is_cut s entry.row.link (way_from s.network device entry.row.link) now in
      record {
        bodies = (
          entry,
          hand.cause,
          is,
          at,
          rw first
              (ap (λ o. body_of (Some (told cut)) ++ body_of o) second ∙ told_body cut),
        );
        first = subst (IsOwn s.network s.network now hs) (sym first) (told_own octets cut);
        second = subst (IsOwn s.network s.network now hs) (sym second) tt;
        first_fine = subst (IsFine 4) (sym first) (told_fine cut);
        second_fine = subst (IsFine 7) (sym second) tt;
      }

in_stored : (network : Network) (stored : List Holding) (e : Stored) → IsIn e (map (stored_as network) stored)
    → (h : Holding) × IsIn h stored × (e ≡ stored_as network h)
in_stored network [] e there = absurd there
in_stored network (h ∷ stored) e (inl is) = (h, inl refl, is)
in_stored network (h ∷ stored) e (inr rest) = let o = in_stored network stored e rest in (o.0, inr o.1, o.2)

stored_in : (network : Network) (stored : List Holding) (h : Holding) → IsIn h stored → IsIn (stored_as network h) (map (stored_as network) stored)
stored_in network [] h there = absurd there
stored_in network (k ∷ stored) h (inl is) = inl (ap (stored_as network) is)
stored_in network (k ∷ stored) h (inr rest) = inr (stored_in network stored h rest)

not_zero : (n : ℕ) (a b : List ℕ) → 1 ≤ n → b ≡ (if n == 0 then a else b)
not_zero n a b le = sym (rw (ne_eqb n 0 (λ e. omega arith)))

-- the frame that is held
of_held : {s : Scenario} {hs : List Happening} (stored : List Holding) {now : ℕ} {device : DeviceId} (was : Standing)
    (adjustment : Units) (row : RowId) {cycle : ℕ} {entry : Entry} (outcomes : Outcomes) (hand : Option AtHand)
    → IsEntry s.network row.0 entry → IsHeldFrame s hs (map (stored_as s.network) stored) now device entry cycle
    → IsHeldIn stored device entry.row.vl hand → outcomes.first ≡ option_map
    (dispatched_by (is_cut s entry.row.link (way_from s.network device entry.row.link) now) device entry cycle) hand
    → outcomes.second ≡ None → AreProper s hs now device was adjustment (acts.Dispatch row cycle) outcomes
of_held {s} stored was adjustment row outcomes None is held none first second =
    let found = in_stored s.network stored held.there.0 held.there.1 in
    absurd (none found.0 found.1 (ap Stored.device (sym found.2) ∙ held.there.2)
    (ap Stored.vl (sym found.2) ∙ held.there.3))
of_held {s} {hs} stored {now} {device} was adjustment row {cycle} {entry} outcomes (Some hand) is held
    (h, there, of_device, of_vl, same) first second =
    let e = stored_as s.network h in
    let i = stored_in s.network stored h there in
    let cause : hand.cause ≡ h.number = ap AtHand.cause same in
    let octets : octets_of s.network hand.octets ≡ octets_from hs hand.cause =
    ap (λ a. octets_of s.network a.octets) same ∙ held.octets e i of_device of_vl ∙ ap (octets_from hs) (sym cause) in
    let some : 1 ≤ hand.cause = rw cause (held.some e i of_device of_vl) in
    of_dispatch s hs now device was adjustment row cycle entry hand outcomes is
    (rw cause (held.hand e i of_device of_vl))
    (octets ∙ not_zero hand.cause (tt_frame s.network entry.row.vl cycle) (octets_from hs hand.cause) some) first second

-- a dispatch
of_row : {M : Type 0} {stands : Meaning M} {s : Scenario} {hs coming : List Happening}
    (stored : List Holding) {now : ℕ} {device : DeviceId} {machine : M} {node : Node}
    (was : Standing) (adjustment : Units) (row : RowId) (cycle : ℕ) (outcomes : Outcomes) {r : ℕ} {more : List ℕ}
    → StageAt stands s hs coming now device machine node r more
    → AreStored hs (map (stored_as s.network) stored) → IsFirstTask s.network device node
    (moment_of s device now).reading.0 (doing (dispatching row cycle))
    → AreOutcomes s stored now (length hs + 1) device was adjustment (acts.Dispatch row cycle) outcomes
    → AreProper s hs now device was adjustment (acts.Dispatch row cycle) outcomes
of_row {stands} {s} {hs} {coming} stored {now} {device} {machine} {node} was adjustment row cycle
    outcomes {r} {more} st are first is =
    let p = first.pending in
    let entry = p.1.own.1.entry in
    let d = is entry p.1.own.1.is in
    elim (sender_or entry.vl.sender device) [
      | inl sender ↦
          let hand : AtHand = record { cause = 0; octets = Made entry.row.vl cycle } in
          let cut = is_cut s entry.row.link (way_from s.network device entry.row.link) now in
          of_dispatch s hs now device was adjustment row cycle entry hand outcomes p.1.own.1.is (inl (sender, refl))
          (made_is cycle p.1.own.1.is)
          (d.0.is ∙ ap (λ o. option_map (dispatched_by cut device entry cycle) o) (d.0.of_hand.sender sender)) d.1
      | inr other ↦
          of_held stored was adjustment row outcomes d.0.hand p.1.own.1.is
          (held_frame stands s hs coming now device machine node row cycle (map (stored_as s.network) stored) r more st are p first.due other)
          (d.0.of_hand.held other) d.0.is d.1
    ]

-- ---- an act

same_outcomes : {s : Scenario} {hs : List Happening} {now : ℕ} {device : DeviceId} {was : Standing}
    {adjustment : Units} {act : Act} (a : Outcomes) {b : Outcomes} → a ≡ b
    → AreProper s hs now device was adjustment act b → AreProper s hs now device was adjustment act a
same_outcomes {s} {hs} {now} {device} {was} {adjustment} {act} a same =
    subst (λ o. AreProper s hs now device was adjustment act o) (sym same)

-- the records of an act of a device of a world that stands
pub proper : {M : Type 0} {stands : Meaning M} {s : Scenario}
    {hs coming : List Happening} (stored : List Holding) {now : ℕ} {device : DeviceId}
    {machine : M} {node : Node} (after : Node) (was : Standing) (adjustment : Units) (act : Act)
    (outcomes : Outcomes) {r : ℕ} {more : List ℕ}
    → StageAt stands s hs coming now device machine node r more
    → AreStored hs (map (stored_as s.network) stored) → IsActOf s.network device node
    (moment_of s device now) act after → AreOutcomes s stored now (length hs + 1) device was adjustment act outcomes
    → AreProper s hs now device was adjustment act outcomes
proper stored after was adjustment (acts.Send frame) outcomes st are acted is =
    grind (arith, same_outcomes, settled_at, first_fine)
proper {s} {hs} stored {now} {device} after was adjustment (acts.Emit sent heard) outcomes st are acted is =
    same_outcomes outcomes is
    (record {
      bodies = rw (joining (length hs + 1) device heard);
      first = refl;
      second = joining_own s.network now hs (length hs + 1) device heard;
      first_fine = (tt, omega arith);
      second_fine = joining_fine (length hs + 1) device heard;
    })
proper {s} {hs} stored {now} {device} after was adjustment (acts.Correct cycle verdict) outcomes st are acted is =
    same_outcomes outcomes is (of_correction s hs now device was adjustment cycle verdict)
proper stored after was adjustment (acts.Dispatch row cycle) outcomes st are acted is =
    of_row stored was adjustment row cycle outcomes st are acted.0 is

-- ---- a device acts once

-- a place behind another of one device is not before where its part begins
not_before_own : (now r d : ℕ) (more : List ℕ) → IsBefore (now ∷ r ∷ d ∷ more) (now ∷ r ∷ d ∷ []) → ⊥
not_before_own now r d more (inl lt) = omega arith
not_before_own now r d more (inr (e, inl lt)) = omega arith
not_before_own now r d more (inr (e, inr (f, inl lt))) = omega arith
not_before_own now r d more (inr (e, inr (f, inr (g, b)))) = b

head_is : {x y : NoteBody} {xs ys : List NoteBody} → x ∷ xs ≡ y ∷ ys → x ≡ y
head_is e = cc

-- where the first of an act's records is of a high rank, or there is none, the first that comes of it is
first_high : (first second : Option Settled) → IfSome first (λ z. 6 < rank z.body) → IsFine 7 second → (body : NoteBody)
    (others : List NoteBody) → body_of first ++ body_of second ≡ body ∷ others → 6 < rank body
first_high (Some z) second late fine body others e =
    rw (head_is e) at late
first_high None (Some z) late fine body others e =
    let same = head_is e in
    rw (sym same) (omega (arith, fine.1))
first_high None None late fine body others e = absurd (let bad = e in cc)

-- what an act dispatches is a row of the network
pub its_row : (network : Network) (device : DeviceId) (node : Node) (moment : Moment) (act : Act) (new : Node) → IsActOf network device node moment act new
    → HasItsRow (length network.row) act
its_row network device node moment (acts.Dispatch row cycle) new is =
    let frame = is.0.pending.1.own.1 in
    slice_get_within network.row row.0 frame.entry.row frame.is.row
its_row network device node moment other new is = tt

-- this is what the device has to do then
abbrev pub IsLeftIn : {M : Type 0} → Meaning M → Scenario → ℕ → DeviceId → Kept M → ToDo → Type 0
IsLeftIn stands s now device machine (Now part) =
    (node : Node) → keeps stands machine s.network device node → IsFirstPart s.network device node (pos (s.reading device now)) part
IsLeftIn stands s now device machine (Next due) = IsIdle stands s now device machine

pub left_in : {C M : Type 0} {reading : C → ℕ → ℕ} (stands : Meaning M)
    {network : Network} {state : State C M} (device : DeviceId) (left : ToDo)
    → IsLeft reading stands network state device left → {s : Scenario} {machine : Kept M}
    → IsOf reading s network state → slice_get state.machines.items device.0 ≡ Some machine
    → IsLeftIn stands s state.time device machine left
left_in stands device (Now part) left {s} {machine} of there = λ node is. left s machine node of there is
left_in stands device (Next due) left {s} {machine} of there = left.1 s machine of there

module _ {C M : Type 0} (reading : C → ℕ → ℕ) (stands : Meaning M) (network : Network) (state : State C M) (part : Part)
    (device : DeviceId) {machine : Kept M} (lt : device.0 < length network.device) (there : slice_get state.machines.items device.0 ≡ Some machine)
    (due : IsDueAt reading stands network state part device) (above : AreAbove (part_rank part) state) where
  abbrev Old : Scenario → List Note → Type 0
  Old s notes = Stands reading (keeps stands) s (world_of network state) notes

  abbrev First_ : (s : Scenario) (notes : List Note) → Old s notes → Type 0
  First_ s notes old = ComesFirst reading (keeps stands) s (world_of network state) notes old (part_place part state.time device)

  first_part : (s : Scenario) (notes : List Note) → Old s notes → (node : Node) → keeps stands machine s.network device node
      → IsFirstPart s.network device node (pos (s.reading device state.time)) part
  first_part s notes old node is = due s machine node (shows_of state old) there is

  task_now : (s : Scenario) (notes : List Note) → Old s notes → (node : Node) → keeps stands machine s.network device node
      → HasTaskBy s device node state.time
  task_now s notes old node is = let f = (first_part s notes old node is).is in (f.task, f.pending, f.due)

  -- it is not broken
  kept_at : (s : Scenario) (notes : List Note) (old : Old s notes)
      → IsKept (keeps stands) s (happenings s.network notes) (map (settled_at network state.time) state.settled.items)
      old.frontier state.time device machine
  kept_at s notes old =
      let m = old.devices device (rw old.same at lt) in
      let same = same_Some m.0 machine (sym m.1 ∙ there) in
      elim (rw same at m.2) [
        | inl k ↦ k
        | inr out ↦ let task = task_now s notes old out.node out.is in absurd (no_task s.network device out.node task.0 out.shows task.1)
      ]

  -- it may act
  pub asked_to_act : IsAt reading stands network state (part_place part state.time device) → (moment : Moment)
      → ((s : Scenario) → IsOf reading s network state → moment ≡ moment_of s device state.time)
      → StandsFor (keeps stands) machine (λ n d node. MayAct n d node moment)
  asked_to_act at moment reads =
      let k = kept_at at.s at.notes at.is in (
        at.s.network,
        device,
        k.node,
        k.is,
        subst (MayAct at.s.network device k.node) (sym (reads at.s (shows_of state at.is)))
            (record {
              call = may_act_now at.s device k.node state.time k.ready (at.is.steady device) at.is.limit;
              due = λ has. task_now at.s at.notes at.is k.node k.is;
            }),
      )

  pub never_broken : IsAt reading stands network state (part_place part state.time device)
      → ((n : Network) (d : DeviceId) (node : Node) → keeps stands machine n d node → node.broken ≡ true) → ⊥
  never_broken at broken =
      let k = kept_at at.s at.notes at.is in
      let task = task_now at.s at.notes at.is k.node k.is in
      no_task at.s.network device k.node task.0 (broken at.s.network device k.node k.is) task.1

  -- its act, at the node for which it stood
  acted_at : (s : Scenario) (notes : List Note) (old : Old s notes) (act : Act) (after : Kept M)
      → HasActed (keeps stands) s.network device (moment_of s device state.time) act machine after
      → (new : Node) × IsActOf s.network device (kept_at s notes old).node (moment_of s device state.time) act new × keeps stands after s.network device new
  acted_at s notes old act after acted =
      let k = kept_at s notes old in
      acted k.node k.is (may_act_now s device k.node state.time k.ready (old.steady device) old.limit) (task_now s notes old k.node k.is)

  -- it stands where its part does
  of_part : (s : Scenario) (notes : List Note) (old : Old s notes) (act : Act) (after : Kept M)
      → HasActed (keeps stands) s.network device (moment_of s device state.time) act machine after
      → place_of_act state.time device act ≡ part_place part state.time device
  of_part s notes old act after acted =
      let k = kept_at s notes old in
      let new = acted_at s notes old act after acted in
      act_place_is state.time (moment_of s device state.time) act new.0 new.1 (first_part s notes old k.node k.is)

  of_rank : (s : Scenario) (notes : List Note) (old : Old s notes) (act : Act) (after : Kept M)
      → HasActed (keeps stands) s.network device (moment_of s device state.time) act machine after → rank_of_act act ≡ part_rank part
  of_rank s notes old act after acted =
      let k = kept_at s notes old in
      let new = acted_at s notes old act after acted in
      act_rank_is (moment_of s device state.time) act new.0 new.1 (first_part s notes old k.node k.is)

  comes : (s : Scenario) (notes : List Note) (old : Old s notes) (act : Act) (after : Kept M) → First_ s notes old
      → HasActed (keeps stands) s.network device (moment_of s device state.time) act machine after
      → ComesFirst reading (keeps stands) s (world_of network state) notes old (place_of_act state.time device act)
  comes s notes old act after first acted =
      subst (ComesFirst reading (keeps stands) s (world_of network state) notes old) (sym (of_part s notes old act after acted)) first

  -- all that is settled is of a higher rank than its
  parted : (s : Scenario) (notes : List Note) (old : Old s notes) (act : Act) (after : Kept M)
      → HasActed (keeps stands) s.network device (moment_of s device state.time) act machine after
      → (z : Happening) → IsIn z (map (settled_at network state.time) state.settled.items) → rank_of_act act < rank z.note.body
  parted s notes old act after acted z i =
      let is = of_rank s notes old act after acted in
      let made = made_of (settled_at network state.time) state.settled.items z i in
      let high = each_of (λ x. part_rank part < rank x.body) state.settled.items made.0 above made.1 in
      rw (sym made.2) (let lt : rank_of_act act < rank made.0.body = omega (arith, is, high) in lt)

  pub row_within : (at : IsAt reading stands network state (part_place part state.time device)) (act : Act) (after : Kept M)
      → HasActed (keeps stands) at.s.network device (moment_of at.s device state.time) act machine after → HasItsRow (length network.row) act
  row_within at act after acted =
      let new = acted_at at.s at.notes at.is act after acted in
      rw at.is.same (its_row at.s.network device (kept_at at.s at.notes at.is).node (moment_of at.s device state.time)
      act new.0 new.1)

  staged : (s : Scenario) (notes : List Note) (old : Old s notes) → First_ s notes old → (act : Act) (after : Kept M)
      → HasActed (keeps stands) s.network device (moment_of s device state.time) act machine after
      → (node : Node) × StageAt (keeps stands) s (happenings s.network notes) (map (settled_at network state.time) state.settled.items) state.time device machine node
      (rank_of_act act) (act_rest s.network device act)
  staged s notes old first act after acted =
      let at = stage_of reading (keeps stands) s (world_of network state) notes old device machine after act
      (rw old.same at lt)
      (comes s notes old act after first acted) (parted s notes old act after acted) there (task_now s notes old) acted in
      (at.0, at.2)

  -- its records are those of the law
  pub proper_at : (s : Scenario) (notes : List Note) (old : Old s notes) (first : First_ s notes old) (act : Act) (after : Kept M) (was : Standing)
      (adjustment : Units) (outcomes : Outcomes) → HasActed (keeps stands) s.network device (moment_of s device state.time) act machine after
      → AreOutcomes s state.stored.items state.time (state.given + 1) device was adjustment act outcomes
      → AreProper s (happenings s.network notes) state.time device was adjustment act outcomes
  proper_at s notes old first act after was adjustment outcomes acted are =
      let number : state.given + 1 ≡ length (happenings s.network notes) + 1 = rw (old.given ∙ length_is s notes) in
      let st = staged s notes old first act after acted in
      let new = acted st.0 st.1.is (may_act_now s device st.0 state.time st.1.work.ready st.1.steady st.1.limit) st.1.task in
      proper state.stored.items new.0 was adjustment
      act outcomes st.1
      (rw old.same at old.stored) new.1
      (rw number at are)

  -- what is settled stays fit
  pub octets_then : {s : Scenario} {hs : List Happening} {was : Standing} {adjustment : Units} {act : Act} {outcomes : Outcomes} (mid new : List Settled)
      → AreProper s hs state.time device was adjustment act outcomes → IsSomePut outcomes.first state.settled.items mid
      → IsSomePut outcomes.second mid new → All have_octets state.settled.items → All have_octets new
  octets_then {outcomes} mid new own one two all =
      all_put_some have_octets outcomes.second mid new two (λ z e. (subst (IsFine 7) e own.second_fine).0)
      (all_put_some have_octets outcomes.first state.settled.items mid one (λ z e. (subst (IsFine 4) e own.first_fine).0) all)

  -- where the first of its records does not stand where it is done, all that is settled stays of a higher rank
  pub above_then : {s : Scenario} {hs : List Happening} {was : Standing} {adjustment : Units} {act : Act} {outcomes : Outcomes} (mid new : List Settled)
      → AreProper s hs state.time device was adjustment act outcomes → IfSome outcomes.first (λ z. 6 < rank z.body)
      → IsSomePut outcomes.first state.settled.items mid → IsSomePut outcomes.second mid new → All
      (λ z. part_rank part < rank z.body) new
  above_then {outcomes} mid new own late one two =
      let most = part_most part in
      all_put_some (λ z. part_rank part < rank z.body) outcomes.second mid new two
      (λ z e. let fine = (subst (IsFine 7) e own.second_fine).1 in omega arith)
      (all_put_some (λ z. part_rank part < rank z.body) outcomes.first state.settled.items mid one
      (λ z e.
      let high : 6 < rank z.body = rw e at late in
      omega arith) above)

  -- what the device has to do then is of no earlier part
  no_sooner_then : (s : Scenario) (notes : List Note) (old : Old s notes) (act : Act) (after : Kept M) {new : Node}
      → HasActed (keeps stands) s.network device (moment_of s device state.time) act machine after
      → IsActOf s.network device (kept_at s notes old).node (moment_of s device state.time) act new → {left : Part}
      → IsFirstPart s.network device new (pos (s.reading device state.time)) left → part_rank part ≤ part_rank left
  no_sooner_then s notes old act after {new} acted is {left} first =
      let k = kept_at s notes old in
      let law = lawful reading (keeps stands) s (world_of network state) notes old device in
      let same = of_rank s notes old act after acted in
      let grows = left_no_sooner act old.range old.rules
      (kept_from_zero (keeps stands) s (happenings s.network notes)
      (map (settled_at network state.time) state.settled.items) old.frontier state.time device machine k law)
      (may_act_now s device k.node state.time k.ready (old.steady device) old.limit) is first in
      omega arith

  pub later_then : IsAt reading stands network state (part_place part state.time device) → (act : Act) (after : Kept M) (left : ToDo)
      → ((s : Scenario) (notes : List Note) → Old s notes → HasActed (keeps stands) s.network device (moment_of s device state.time) act machine after)
      → ((s : Scenario) (notes : List Note) → Old s notes → IsLeftIn stands s state.time device after left) → IsNoSoonerLeft part left
  later_then at act after (Next due) acted is = tt
  later_then at act after (Now left) acted is =
      let new = acted_at at.s at.notes at.is act after (acted at.s at.notes at.is) in
      no_sooner_then at.s at.notes at.is act after (acted at.s at.notes at.is) new.1 (is at.s at.notes at.is new.0 new.2)

  -- the act is worked off, and these are its records
  pub acted_turns : {after : Kept M} (was is : Standing) (before adjustment : Units) (act : Act) (outcomes : Outcomes)
      (machines : List (Kept M)) → IsSet device.0 after state.machines.items machines → (s : Scenario) (notes : List Note)
      (old : Old s notes) → First_ s notes old → HasActed (keeps stands) s.network device
      (moment_of s device state.time) act machine after
      → IsStateOf (keeps stands) s.network device machine was before → IsStateOf (keeps stands) s.network device after is adjustment
      → AreOutcomes s state.stored.items state.time (state.given + 1) device was adjustment act outcomes
      → TurnsIn reading stands network s notes (record (world_of network state) { early = false; machines = machines })
      (task_place s.network state.time device (task_of act)) outcomes.first outcomes.second
  acted_turns {after} was is before adjustment act outcomes machines set s notes old first acted stood stands_then are =
      record {
        order = settled_in_order old;
        first_is = rw old.same own.first;
        second_is = rw old.same own.second;
        by = acted_turn reading (keeps stands) s (world_of network state) notes device after (bodies_of outcomes) machines
            old acts_are set;
      }
    where
      own : AreProper s (happenings s.network notes) state.time device was adjustment act outcomes
      own = proper_at s notes old first act after was adjustment outcomes acted are

      acts_are : Acts reading (keeps stands) s (world_of network state) notes old device after (bodies_of outcomes)
      acts_are = record {
        of_it = rw old.same at lt;
        act = act;
        first = comes s notes old act after first acted;
        apart = parted s notes old act after acted;
        machine = machine;
        there = there;
        due = task_now s notes old;
        acted = acted;
        was = was;
        before = before;
        stood = stood;
        is = is;
        adjustment = adjustment;
        stands_then = stands_then;
        are = own.bodies;
      }

  -- where the first of its records is of a higher rank than any act, none of them stands where it is done
  pub acts_late : (s : Scenario) (hs : List Happening) {was : Standing} {adjustment : Units} {act : Act} {outcomes : Outcomes}
      → AreProper s hs state.time device was adjustment act outcomes → IfSome outcomes.first (λ z. 6 < rank z.body)
      → starts_there (bodies_of outcomes) ≡ false
  acts_late s hs {was} {adjustment} {act} {outcomes} own late =
      act_starts_late s hs state.time device was adjustment act (bodies_of outcomes) own.bodies
      (first_high outcomes.first outcomes.second late own.second_fine)

  -- what is behind the act is not before where its part begins
  pub behind_part : (s : Scenario) (notes : List Note) (old : Old s notes) (act : Act) (after : Kept M)
      → HasActed (keeps stands) s.network device (moment_of s device state.time) act machine after → {frontier : List ℕ}
      → frontier ≡ behind (task_place s.network state.time device (task_of act))
      → IsBefore frontier (part_place part state.time device) → ⊥
  behind_part s notes old act after acted at b =
      let place = task_place s.network state.time device (task_of act) in
      not_before_own state.time (rank_of_act act) device.0 (act_more s.network act)
      (chain (state.time ∷ rank_of_act act ∷ device.0 ∷ act_more s.network act) (behind place)
      (place_of_act state.time device act)
      (subst (λ q. IsBefore q (behind place)) (act_stands s.network state.time device act) (before_behind place))
      (subst (λ q. IsBefore (behind place) q) (sym (of_part s notes old act after acted))
      (subst (λ q. IsBefore q (part_place part state.time device)) at b)))
