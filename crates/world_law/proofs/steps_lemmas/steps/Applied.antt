-- An event befalls before all else of its instant: the world and each of its devices then.
use Rattle.std.proofs.lemmas.{Bool.and_from, List.length_push, Option.slice_get_within}
use Rattle.run_law.proofs.{law.FirstDeliveries.numbered_next}
use Rattle.run_law.proofs.{runs.{NetworkRuns.one_more, Places.{before_next_time, before_of_time}}}
use Rattle.run_law.proofs.scenario.Devices.{on_by}
use Rattle.world_law.proofs.{devices.{Befalls.{is_turned_on, stands_still}, Standing.{fold_still, other_comes}}}
use Rattle.world_law.proofs.runs.Worlds.{coming_of, line_before, numbered_more, numbered_still, run_goes_on_by_event}
use Rattle.world_law.proofs.runs.Worlds.{run_to, same_length}
use Rattle.run_law.specs.{machines.Answers.node_turned_on, runs.DueRecords.{EndsAt, IsScenarioRun}}
use Rattle.run_law.specs.{scenario.Hypothesis.breaks_at}
use Rattle.tte_units.proofs.general_lemmas.Lists.{pushed as get_more}
use Rattle.world_law.proofs.{giving.{GivenParts.up_to_place, Storing.stored_still}}
use Rattle.world_law.proofs.{rows.AtHand.{frames_alike, frames_end}}
use Rattle.world_law.proofs.devices.{Working.{rested, worked_by}}
use Rattle.world_law.proofs.steps_lemmas.Words
use Words.{if◌then◌else◌, ◌&&◌, ◌++◌, ◌+◌, ◌-ℤ◌, ◌<◌, ◌==◌, ◌||◌, ◌↔◌, ◌∙◌, ◌∷◌, ◌≡◌, ◌≤ℤ◌, ◌≤◌, ◌⊎◌, AreComing}
use Words.{AreOfNetwork, AreUntold, Befell, Bool, ClockTask, Compressed, Contains-push, Contains-push_cases, DeviceId}
use Words.{Event, Happening, HasDoneFrom, HasSentFrom, Integrating, IsBefore, IsDeedOf, IsEventBody, IsHeld, IsIn}
use Words.{IsKept, IsLeft, IsNoTaking, IsOnWire, IsOut, IsPending, IsReadyAt, IsUndone, IsWaiting, LinkId, List}
use Words.{Network, Node, NoteBody, Off, OnWire, Scenario, Some, State, Task, Units, What, [], act_place, acts_before}
use Words.{adjustment_after, adjustment_with, amount, and_right, ap, append-nil, arith, bears_on, before_behind, behind}
use Words.{both_ways, cases_Bool, chain, changed_at, clock_place, correcting, cycle_in, dispatching, doing, earlier}
use Words.{emitting, eq-eqb, false, fold, frames_taken, happening, happenings, has_outcome, in_left, in_parts, in_right}
use Words.{inl, inr, ints, is_broken, is_timed, is_turned_on_at, length, moves, never_self, next_is_up_to, not}
use Words.{not_turned_on, numbered, numbered_within, place_of, pos, reading_for, refl, same_before, scenario, sending}
use Words.{slice_get, some_same, state_after, state_with, subst, sym, time_of, true, turns_on, unsigned_abs, up_to}
use Words.{value_of, waiting_alike, whole, ℕ}
use Rattle.world_law.proofs.steps_lemmas.steps.{Passed.no_task}
use Rattle.world_law.proofs.steps_lemmas.steps.AppliedParts
use AppliedParts.{IsBefalling, agree_before, before_others, broken_more, nothing_due, ports_apply, turned_more}
use AppliedParts.{waiting_apply, wires_apply}
use Rattle.world_law.specs.{source.Applying.{MayBefall, note_of_event, place_of_event}}
use Rattle.world_law.specs.{steps.Steps.{AppliedStep, FitsWorld}}
use Rattle.world_law.specs.world.{Outcomes.{also_befell, befallen_node, ends_world}}
use Rattle.world_law.specs.world.{World.{AreInOrder, IsCalledBy, IsFromEnd}}
use Rattle.net_plan.specs.declared.event.What.TheVariants as events
use Rattle.run_law.specs.declared.note.NoteBody.TheVariants as kinds

-- ---- an event befalls before all else of its instant: each device then

none_or : (b : Bool) → (b || false) ≡ b
none_or true = refl
none_or false = refl

or_true : (b : Bool) → (b || true) ≡ true
or_true true = refl
or_true false = refl

-- ---- what an event makes of a node

abbrev broken_so : Bool → Node → Node
broken_so on node = record node { broken = true; standing = record node.standing { state = if on then Off else node.standing.state } }

pub node_breaks : (on : Bool) (what : What) (device : DeviceId) (node : Node) → breaks_at device.0 what ≡ true → node.broken ≡ false
    → befallen_node on what device node ≡ broken_so on node
node_breaks on (events.Break other) device node it sound =
    rw (and_from (other.0 == device.0) (not node.broken) it (ap not sound))
node_breaks on other device node it sound = absurd cc

pub node_on : (on : Bool) (what : What) (device : DeviceId) (node : Node) → turns_on device what ≡ true → node.broken ≡ false
    → befallen_node on what device node ≡ node_turned_on node
node_on on (events.On other) device node it sound =
    rw (and_from (device.0 == other.0) (not node.broken) it (ap not sound))
node_on on other device node it sound = absurd cc

pub node_stays : (on : Bool) (what : What) (device : DeviceId) (node : Node) → breaks_at device.0 what ≡ false → turns_on device what ≡ false
    → befallen_node on what device node ≡ node
node_stays on (events.Break other) device node sound off = rw sound
node_stays on (events.On other) device node sound off = rw off
node_stays on other device node sound off = refl

pub node_out : (on : Bool) (what : What) (device : DeviceId) (node : Node) → node.broken ≡ true → befallen_node on what device node ≡ node
node_out on (events.Break other) device node out =
    rw (and_right (other.0 == device.0) (not node.broken) (ap not out))
node_out on (events.On other) device node out =
    rw (and_right (device.0 == other.0) (not node.broken) (ap not out))
node_out on other device node out = refl

-- ---- records of events bear on no device

module _ (device : DeviceId) where
  pub event_moves : (body : NoteBody) → IsEventBody body → moves device body ≡ false
  event_moves (kinds.Event line what) is = refl
  event_moves other is = absurd is

  event_bears : (body : NoteBody) → IsEventBody body → bears_on device body ≡ false
  event_bears (kinds.Event line what) is = refl
  event_bears other is = absurd is

  event_takes : (body : NoteBody) → IsEventBody body → IsNoTaking device body
  event_takes (kinds.Event line what) is at = refl
  event_takes other is at = absurd is

  event_state : (old : State) (body : NoteBody) → IsEventBody body → state_with device old body ≡ old
  event_state old (kinds.Event line what) is = refl
  event_state old other is = absurd is

event_adjustment : (s : Scenario) (device : DeviceId) (cycle : ℕ) (old : Units) (body : NoteBody) → IsEventBody body
    → adjustment_with s device cycle old body ≡ old
event_adjustment s device cycle old (kinds.Event line what) is = refl
event_adjustment s device cycle old other is = absurd is

-- ---- the records with that of the event

pub record IsOnlyEvents (hs : List Happening) (now : ℕ) (ev : Happening) : Type 0 where
  pub sooner : (h : Happening) → IsIn h hs → (time_of h < now) ⊎ ((time_of h ≡ now) × IsEventBody h.note.body)
  pub at : time_of ev ≡ now
  pub is : IsEventBody ev.note.body

module _ {hs : List Happening} {now : ℕ} {ev : Happening} (m : IsOnlyEvents hs now ev) where
  each_past : (h : Happening) → IsIn h hs → time_of h ≤ now
  each_past h i = elim (m.sooner h i) [ inl lt ↦ omega arith | inr same ↦ let at = same.0 in omega arith ]

  with_event : (h : Happening) → IsIn h ((hs ++ ev ∷ []) ++ [])
      → (time_of h < now) ⊎ ((time_of h ≡ now) × IsEventBody h.note.body)
  with_event h i =
      elim (in_parts h hs (ev ∷ []) (rw (append-nil (hs ++ ev ∷ [])) at i)) [
        | inl old ↦ m.sooner h old
        | inr (inl e) ↦ inr (ap time_of e ∙ m.at, rw e m.is)
        | inr (inr none) ↦ absurd none
      ]

  same_earlier : earlier now ((hs ++ ev ∷ []) ++ []) ≡ earlier now hs
  same_earlier =
      ap (earlier now) (append-nil (hs ++ ev ∷ [])) ∙ same_before now hs ev (let at = m.at in omega arith)

-- what is up to the time is what is before it, for what events do not change
up_to_before : {B : Type 0} (step : B → Happening → B) (z : B) (hs : List Happening) (now : ℕ)
    → ((h : Happening) → IsIn h hs → (time_of h < now) ⊎ ((time_of h ≡ now) × IsEventBody h.note.body))
    → ((b : B) (h : Happening) → IsEventBody h.note.body → step b h ≡ b) → fold step z (up_to now hs) ≡ fold step z (earlier now hs)
up_to_before step z hs now sooner same =
    ap (fold step z) (sym (next_is_up_to now hs))
    ∙ fold_still step now (now + 1) (omega arith) hs
    (λ h i from lt b. elim (sooner h i) [ inl less ↦ absurd (omega arith) | inr at ↦ same b h at.1 ]) z

module _ (s : Scenario) (hs : List Happening) (now : ℕ) (device : DeviceId)
    (sooner : ((h : Happening) → IsIn h hs → (time_of h < now) ⊎ ((time_of h ≡ now) × IsEventBody h.note.body))) where
  state_up_to : state_after s (up_to now hs) device ≡ state_after s (earlier now hs) device
  state_up_to =
      up_to_before (λ state h. state_with device state h.note.body) _ hs now sooner
      (λ b h is. event_state device b h.note.body is)

  adjustment_up_to : adjustment_after s (up_to now hs) device ≡ adjustment_after s (earlier now hs) device
  adjustment_up_to =
      search (arith, up_to_before, cycle_in, event_adjustment)

-- ---- a node with no more to do than another, and the same else

pub record HasNoMore (network : Network) (device : DeviceId) (node new : Node) : Type 0 where
  pub adjustment : new.standing.adjustment ≡ node.standing.adjustment
  pub changed : new.changed ≡ node.changed
  pub broken : new.broken ≡ node.broken
  pub last : new.last ≡ node.last
  pub phase : new.phase ≡ node.phase
  pub points : new.points ≡ node.points
  pub emitted : new.emitted ≡ node.emitted
  pub done : new.done ≡ node.done
  pub taken : new.taken ≡ node.taken
  pub number : new.standing.number ≡ node.standing.number
  pub deed : (deed : ClockTask) → IsDeedOf network device new deed → IsDeedOf network device node deed

module _ (network : Network) (device : DeviceId) (node : Node) where
  pub itself : HasNoMore network device node node
  itself = grind arith

  no_deed : (deed : ClockTask) → IsDeedOf network device (node_turned_on node) deed
      → IsDeedOf network device node deed
  no_deed (sending cycle) own = absurd (let bad = own.1 in cc)
  no_deed (correcting cycle) own = absurd (let bad = own in cc)
  no_deed (dispatching row cycle) own = absurd (let bad = own.0 in cc)

module _ (network : Network) (device : DeviceId) (node : Node) where
  pub turned_on_less : HasNoMore network device node (node_turned_on node)
  turned_on_less = grind (arith, no_deed)

  undone_less : {new : Node} {deed : ClockTask} → HasNoMore network device node new
      → IsUndone network device new deed → IsUndone network device node deed
  undone_less a u = grind (arith, value_of)

  waiting_less : {new : Node} {sent : Compressed} → HasNoMore network device node new
      → IsWaiting network device new sent → IsWaiting network device node sent
  waiting_less {new} a w =
      waiting_alike network device node new a.points
      (λ c there. rw a.emitted there) w

  pending_less : {new : Node} (task : Task) → HasNoMore network device node new → IsPending network device new task
      → IsPending network device node task × (reading_for network node task ≡ reading_for network new task)
  pending_less (emitting sent) a p = ((sym a.broken ∙ p.0, waiting_less a p.1), refl)
  pending_less (doing deed) a p =
      ((sym a.broken ∙ p.0, undone_less a p.1), rw (sym a.adjustment))

-- ---- the device is kept

-- what a device starts from
pub record IsApplying (network : Network) (f g : DeviceId → ℕ → ℕ) (past : List Event) (event : Event)
    (hs : List Happening) (frontier : List ℕ) (now number : ℕ)
    (ev : Happening) : Type 0 where
  pub events : IsOnlyEvents hs now ev
  pub at : amount event.time ≡ now
  pub reads : (device : DeviceId) (x : ℕ) → x ≤ now → f device x ≡ g device x
  pub early : (p : List ℕ) → IsBefore p frontier → IsBefore p (now ∷ 2 ∷ [])
  pub there : numbered (hs ++ ev ∷ []) number ≡ Some ev
  pub is : ev.note.body ≡ kinds.Event (length past + 1) event.what

never_there : {A : Type 0} (now : ℕ) (frontier : List ℕ)
    → ((p : List ℕ) → IsBefore p frontier → IsBefore p (now ∷ 2 ∷ [])) → IsBefore (now ∷ 2 ∷ []) frontier → A
never_there now frontier early b = absurd (never_self (now ∷ 2 ∷ []) (early (now ∷ 2 ∷ []) b))

ready_less : {network : Network} (f g : DeviceId → ℕ → ℕ) {device : DeviceId} {now : ℕ} {node : Node} (new : Node)
    → ((x : ℕ) → x ≤ now → f device x ≡ g device x) → IsReadyAt (f device) network device node now
    → new.last ≡ node.last → ((task : Task) → IsPending network device new task
    → IsPending network device node task × (reading_for network node task ≡ reading_for network new task))
    → IsReadyAt (g device) network device new now
ready_less f g new reads ready last pending = grind (arith, whole, amount, ints, reading_for)

module _ {M : Type 0} (stands : M → Network → DeviceId → Node → Type 0) {network : Network} {f g : DeviceId → ℕ → ℕ}
    {past : List Event} {event : Event} {hs : List Happening} {frontier : List ℕ} {now number : ℕ}
    {ev : Happening} where
  pub kept_less : {device : DeviceId} {machine : M} (after : M) {new : Node}
      → IsApplying network f g past event hs frontier now number ev
      → (k : IsKept stands (scenario network f past) hs [] frontier now device machine)
      → HasNoMore network device k.node new → stands after network device new
      → is_broken (scenario network g (past ++ event ∷ [])) device now ≡ false
      → (k.up ≡ now → IsLeft (scenario network g (past ++ event ∷ [])) hs device now new)
      → (k.up ≡ now → is_turned_on_at (scenario network g (past ++ event ∷ [])) device now ≡ true
      → state_after (scenario network f past) (earlier now hs) device ≡ Off)
      → IsKept stands (scenario network g (past ++ event ∷ [])) (hs ++ ev ∷ []) [] (now ∷ 2 ∷ []) now device after
  kept_less {device} after {new} m k a is sound left off =
      let r = scenario network g (past ++ event ∷ []) in
      let js = hs ++ ev ∷ [] in
      let up : k.up ≡ now =
      elim k.acted [
        | inl yet ↦ yet.0
        | inr over ↦ never_there now frontier m.early
            (over.1 (now ∷ 2 ∷ []) (inr (refl, inl (omega arith))))
      ]
      in
      let rests = rested now k.worked (omega arith)
      (λ b. late_act now device (m.early (act_place now device) b)) in
      let change : changed_at (js ++ []) device now ≡ changed_at (hs ++ []) device k.up =
      rw (same_earlier m.events ∙ sym (ap (earlier now) (append-nil hs))) (rw (sym up)) in
      let only = with_event m.events in
      let past_all = each_past m.events in
      let left_so =
      other_comes hs [] ev (event_bears device ev.note.body m.events.is)
      (rw (append-nil hs) (left up)) in
      let done_so : HasDoneFrom network (r.reading device) device new (changed_at (js ++ []) device now) now now =
      record {
        undone = λ deed u x from lt.
            let before = rests.done.undone deed (undone_less network device k.node a u) x
            (omega arith) (omega arith) in
            rw (sym (m.reads device x (omega (arith, lt)))) (rw (sym a.adjustment) at before);
        done = λ deed there.
            let x = rests.done.done deed (rw a.done at there) in (
              x.0,
              omega (arith, x.1),
              omega (arith, x.2),
              subst (λ n. (value_of network deed -ℤ new.standing.adjustment.0) ≤ℤ pos n)
                  (m.reads device x.0 (omega (arith, x.2)))
                  (subst (λ w. (value_of network deed -ℤ w.0) ≤ℤ pos (f device x.0)) (sym a.adjustment) x.3),
            );
      } in
      let sent_so : HasSentFrom r device new now now = record {
        unsent =
            λ c w x lt. rw (m.reads device x (omega (arith, lt))) at (rests.sent.unsent c
            (waiting_less network device k.node a w) x (omega arith));
        sent = λ c there.
            let x = rests.sent.sent c (rw a.emitted at there) in
            (x.0, omega (arith, x.1), rw (m.reads device x.0 (omega (arith, x.1, up))) at x.2);
      } in
      record {
        node = new;
        is = is;
        sound = sound;
        up = now;
        acted = inl (refl, λ task b acts. absurd (late_act now device (acts_before network now device task (now ∷ 2 ∷ []) b)));
        told = λ over. absurd (let bad = over in omega arith);
        left = left_so;
        taken =
            a.taken ∙ k.taken ∙ ap (λ l. frames_taken (scenario network f past) l device)
            (append-nil hs)
            ∙ frames_alike (scenario network f past) r hs device now (λ x. refl) (m.reads device) past_all
            ∙ sym (rw (append-nil js)
            (frames_end r hs ev device (event_takes device ev.note.body m.events.is)
            (λ h i. let early = past_all h i in let at = m.events.at in omega arith)));
        worked = worked_by (now ∷ 2 ∷ []) (record { done = done_so; sent = sent_so }) (λ x task lt. inl lt);
        bare = λ other. (a.points ∙ (k.bare other).0, a.emitted ∙ (k.bare other).1);
        ready = ready_less f g new (m.reads device) k.ready a.last
            (λ task p. pending_less network device k.node task a p);
        still = λ same h i at. elim (only h
            i) [ inl lt ↦ absurd (omega arith) | inr it ↦ inl (event_moves device h.note.body it.1) ];
        turned = λ on. record {
          off = rw (same_earlier m.events) (off up on);
          number = number;
          event = ev;
          befell = record { there = m.there; same_time = m.events.at };
          turned = λ b. absurd (never_self (now ∷ 2 ∷ []) b);
        };
        cleared =
            λ cycle there. rw a.number (k.cleared cycle (rw a.done at there));
        phase =
            λ at p b. m.early p (k.phase (rw (sym a.last) at) p
            (rw a.phase at b));
      }
    where
      late_act : (now : ℕ) (device : DeviceId) → IsBefore (act_place now device) (now ∷ 2 ∷ []) → ⊥
      late_act now device (inl lt) = omega arith
      late_act now device (inr (e, inl lt)) = omega arith
      late_act now device (inr (e, inr (two, none))) = none

  -- ---- a broken one stays out, and one that breaks is out from then on

  out_so : {device : DeviceId} (after : M) {node : Node} (new : Node)
      → IsApplying network f g past event hs frontier now number ev → stands after network device new
      → is_broken (scenario network g (past ++ event ∷ [])) device now ≡ true → new.broken ≡ true
      → new.standing.state ≡ state_after (scenario network f past) (earlier now hs) device
      → new.standing.adjustment ≡ adjustment_after (scenario network f past) (earlier now hs) device
      → IsReadyAt (f device) network device node now → new.last ≡ node.last → IsCalledBy new frontier now
      → IsOut stands (scenario network g (past ++ event ∷ [])) (hs ++ ev ∷ []) [] (now ∷ 2 ∷ []) now device after
  out_so {device} after {node} new m is broken shows state adjustment ready last called =
      let r = scenario network g (past ++ event ∷ []) in
      let js = (hs ++ ev ∷ []) ++ [] in
      record {
        node = new;
        is = is;
        broken = broken;
        shows = shows;
        state =
            state ∙ ap (λ l. state_after r l device) (sym (same_earlier m.events))
            ∙ sym (state_up_to r js now device (with_event m.events));
        adjustment =
            adjustment ∙ adjustment_same ∙ ap (λ l. adjustment_after r l device)
            (sym (same_earlier m.events))
            ∙ sym (adjustment_up_to r js now device (with_event m.events));
        ready = ready_less f g new (m.reads device) ready last
            (λ task p. absurd (no_task network device new task shows p));
        phase = λ at p b. m.early p (called at p b);
      }
    where
      adjustment_same : adjustment_after (scenario network f past) (earlier now hs) device ≡ adjustment_after
          (scenario network g (past ++ event ∷ []))
          (earlier now hs) device
      adjustment_same = refl

  -- ---- each device

  pub held_apply : {device : DeviceId} {machine : M} (after : M)
      → IsApplying network f g past event hs frontier now number ev
      → IsHeld stands (scenario network f past) hs [] frontier now device machine
      → ((node : Node) → stands machine network device node
      → (event.what ≡ events.On device → node.standing.state ≡ Off)
      → stands after network device (befallen_node (is_turned_on_at (scenario network f past) device now) event.what
      device node)) → FitsWorld (scenario network f past) hs now event.what
      → IsHeld stands (scenario network g (past ++ event ∷ [])) (hs ++ ev ∷ []) [] (now ∷ 2 ∷ []) now device after
  held_apply {device} after m (inr k) been fits =
      let s = scenario network f past in
      let only : (h : Happening) → IsIn h (hs ++ []) → (time_of h < now)
      ⊎ ((time_of h ≡ now) × IsEventBody h.note.body) = λ h i. m.events.sooner h
      (rw (append-nil hs) at i) in
      let on = is_turned_on_at s device now in
      let broken = broken_more network f g past event now device m.at ∙ ap
      (λ b. b || breaks_at device.0 event.what) k.broken in
      let still = rw (node_out on event.what device k.node k.shows) at (been k.node k.is
      (λ turns. absurd (both_ways (is_broken s device now)
      (subst (FitsWorld s hs now) turns fits).2 k.broken))) in
      inr (out_so after k.node m still broken k.shows
      (k.state ∙ state_up_to s (hs ++ []) now device only ∙ ap
      (λ l. state_after s (earlier now l) device) (append-nil hs))
      (k.adjustment ∙ adjustment_up_to s (hs ++ []) now device only ∙ ap
      (λ l. adjustment_after s (earlier now l) device) (append-nil hs))
      k.ready refl k.phase)
  held_apply {device} after m (inl k) been fits =
      elim (cases_Bool (breaks_at device.0 event.what)) [
        | inl breaks ↦ inr (goes_out breaks)
        | inr stays ↦ elim (cases_Bool (turns_on device
            event.what)) [ inl on ↦ inl (comes_on on stays) | inr not_on ↦ inl (goes_on stays not_on) ]
      ]
    where
      s : Scenario
      s = scenario network f past

      r : Scenario
      r = scenario network g (past ++ event ∷ [])

      is_at : k.up ≡ now
      is_at = elim k.acted [
        | inl yet ↦ yet.0
        | inr over ↦ never_there now frontier m.early
            (over.1 (now ∷ 2 ∷ []) (inr (refl, inl (omega arith))))
      ]

      sound : k.node.broken ≡ false
      sound = k.left.counted.broken ∙ ap (is_broken s device) is_at ∙ k.sound

      left : IsLeft s hs device now k.node
      left = rw (append-nil hs) at (rw is_at at k.left)

      -- it is off where it is turned on
      off : event.what ≡ events.On device → k.node.standing.state ≡ Off
      off turns = left.state ∙ (subst (FitsWorld s hs now) turns fits).1

      same_off : is_turned_on_at s device now ≡ true → state_after s (earlier now hs) device ≡ Off
      same_off on = let it = k.turned on in rw (sym (append-nil hs)) it.off

      broken_as : breaks_at device.0 event.what ≡ false → is_broken s device now ≡ is_broken r device now
      broken_as stays =
          sym (broken_more network f g past event now device m.at ∙ ap (λ b. is_broken s device now || b)
          stays ∙ none_or (is_broken s device now))

      turned_as : turns_on device event.what ≡ false → is_turned_on_at s device now ≡ is_turned_on_at r device now
      turned_as not_on =
          sym (turned_more network f g past event now device ∙ ap
          (λ b. is_turned_on_at s device now || (b && amount event.time == now)) not_on
          ∙ none_or (is_turned_on_at s device now))

      goes_out : breaks_at device.0 event.what ≡ true → IsOut stands r (hs ++ ev ∷ []) [] (now ∷ 2 ∷ []) now device
          after
      goes_out breaks =
          let on = is_turned_on_at s device now in
          let new = broken_so on k.node in
          let is = rw (node_breaks on event.what device k.node breaks sound) at (been k.node k.is off) in
          let broken =
          broken_more network f g past event now device m.at ∙ ap (λ b. is_broken s device now || b) breaks
          ∙ or_true (is_broken s device now) in
          out_so after new m is broken refl
          (elim (cases_Bool on) [
            | inl was ↦ rw was (sym (same_off was))
            | inr off_then ↦ rw off_then (left.state
                ∙ not_turned_on s hs device now off_then)
          ])
          left.counted.adjustment k.ready refl k.phase

      comes_on : turns_on device event.what ≡ true → breaks_at device.0 event.what ≡ false → IsKept stands r
          (hs ++ ev ∷ []) [] (now ∷ 2 ∷ []) now device after
      comes_on on stays =
          let is = rw (node_on (is_turned_on_at s device now) event.what device k.node on sound) at (been k.node k.is
          off) in
          let state = off (on_by device event.what on) in
          let time_is = eq-eqb (amount event.time) now m.at in
          let turned = turned_more network f g past event now device
          ∙ ap (λ b. is_turned_on_at s device now || (b && amount event.time == now)) on ∙ ap
          (λ b. is_turned_on_at s device now || b)
          time_is ∙ or_true (is_turned_on_at s device now) in
          let was_off : is_turned_on_at s device now ≡ true → ⊥ = λ was.
          (let bad = sym state ∙ left.state ∙ ap
          (λ b. if b then Integrating else state_after s (earlier now hs) device) was in cc)
          in
          kept_less after m k (turned_on_less network device k.node)
          is (sym (broken_as stays) ∙ k.sound)
          (λ up. is_turned_on network f g past (past ++ event
          ∷ []) m.reads (each_past m.events) (broken_as
          stays) turned
          (ap is_timed state) left)
          (λ up now_on. elim (cases_Bool (is_turned_on_at s device now))
          [ inl was ↦ absurd (was_off was) | inr off_then ↦ sym (not_turned_on s hs device now off_then) ∙ sym left.state ∙ state ])

      goes_on : breaks_at device.0 event.what ≡ false → turns_on device event.what ≡ false → IsKept stands r
          (hs ++ ev ∷ []) [] (now ∷ 2 ∷ []) now device after
      goes_on stays not_on =
          let is = rw (node_stays (is_turned_on_at s device now) event.what device k.node stays not_on) at (been k.node
          k.is off) in
          kept_less after m k (itself network device k.node) is
          (sym (broken_as stays) ∙ k.sound)
          (λ up. stands_still network f g past (past ++ event ∷ []) hs device now k.node m.reads (each_past m.events)
          (broken_as stays)
          (turned_as not_on) left)
          (λ up on. same_off (turned_as not_on ∙ on))

-- ---- an event befalls before all else of its instant: the world stands again: the end

is_end : (what : What) → ends_world what ≡ true → what ≡ events.End
is_end events.End e = refl
is_end other e = absurd cc

ended_then : (past : List Event) (event : Event) (now : ℕ) (time : Units) → event.time.0 ≡ pos now → ((u : Units) → EndsAt past u → ⊥)
    → EndsAt (past ++ event ∷ []) time ↔ ((ends_world event.what ≡ true) × (time.0 ≡ pos now))
ended_then past event now time at running = (
  λ ends. elim (Contains-push_cases past event (record { time = time; what = events.End }) ends) [
    | inl old ↦ absurd (running time old)
    | inr new ↦ (ap (λ e. ends_world e.what) new, ap (λ e. e.time.0) (sym new) ∙ at)
  ],
  λ it.
      let what = is_end event.what it.0 in
      let same : event ≡ record { time = time; what = events.End } = rw what
      (rw (at ∙ sym it.1)) in
      rw (sym same) (Contains-push past event),
)

-- ---- what is pending

told_once : (number : ℕ) (what : What) (e : Befell) → IsIn e (also_befell number what) → e ≡ record { number = number; what = what }
told_once number what e i = grind (arith, has_outcome)

told_there : (number : ℕ) (what : What) → has_outcome what ≡ true → IsIn (record { number = number; what = what }) (also_befell number what)
told_there number what out =
    rw out (inl refl)

-- it has the highest number
one_more_in_order : (befell : List Befell) (x : Befell) → AreInOrder befell → ((e : Befell) → IsIn e befell → e.number < x.number)
    → AreInOrder (befell ++ x ∷ [])
one_more_in_order [] x order less = (λ f i. absurd i, tt)
one_more_in_order (e ∷ befell) x order less = (
  λ f i. elim (in_parts f befell (x ∷ []) i) [
    | inl old ↦ order.0 f old
    | inr (inl same) ↦ rw same (less e (inl refl))
    | inr (inr none) ↦ absurd none
  ],
  one_more_in_order befell x order.1 (λ g i. less g (inr i)),
)

also_in_order : (number : ℕ) (what : What) (befell : List Befell) → AreInOrder befell → ((e : Befell) → IsIn e befell → e.number < number)
    → AreInOrder (befell ++ also_befell number what)
also_in_order number what befell order less = grind (arith, has_outcome, one_more_in_order, append-nil)

untold_apply : {hs : List Happening} {frontier : List ℕ} {now : ℕ} {number : ℕ} (line : ℕ) {pending : Bool}
    {befell : List Befell} (ev : Happening) (what : What) → AreUntold hs frontier now pending befell
    → ((p : List ℕ) → IsBefore p frontier → IsBefore p (now ∷ 2 ∷ [])) → number ≡ length hs + 1 → time_of ev ≡ now
    → ev.note.body ≡ kinds.Event line what → AreUntold (hs ++ ev ∷ []) (now ∷ 2 ∷ []) now true
    (befell ++ also_befell number what)
untold_apply {hs} {now} {number} line {pending} {befell} ev what untold early number_is at is = record {
  done = λ told. absurd cc;
  none = λ told. absurd cc;
  waits = λ open_. (number, ev, record { there = numbered_next hs [] ev number number_is; same_time = at });
  early = λ open_ p b. b;
  real = λ e i. elim (in_parts e befell (also_befell number what) i) [
    | inl old ↦ let was =
        untold.real e old in (
          was.0,
          was.1,
          record {
            there = numbered_still hs ev e.number was.2.there;
            same_time =
                was.2.same_time;
          },
          was.3,
        )
    | inr new ↦
        let same = told_once number what e new in (
          line,
          ev,
          record { there = numbered_next hs [] ev e.number (rw same number_is); same_time = at },
          is
              ∙ ap (λ w. kinds.Event line w) (sym (rw same)),
        )
  ];
  all = λ open_ n l w h it body out. elim (numbered_more hs ev n it.there) [
    | inl there ↦ elim (cases_Bool pending) [
      | inl was ↦ in_left _ befell (also_befell number what) (untold.all was n l w h (record { there = there; same_time = it.same_time }) body out)
      | inr told ↦ absurd (never_self (now ∷ 2 ∷ []) (early (now ∷ 2 ∷ []) (untold.done told n h (record { there = there; same_time = it.same_time }))))
    ]
    | inr new ↦
        let same : what ≡ w = cc in
        let count = number_is ∙ sym new.0 in
        rw (sym count) (rw (sym same) (in_right _ befell (also_befell number what)
        (told_there number what (ap has_outcome same ∙ out))))
  ];
  in_order = also_in_order number what befell untold.in_order (λ e i.
      let was = untold.real e i in
      let lt = numbered_within hs e.number was.1 was.2.there in
      omega arith);
}

-- ---- devices of the network

of_network : (s : Scenario) (hs : List Happening) (now : ℕ) (what : What) (device : DeviceId) → FitsWorld s hs now what
    → length s.network.device ≤ device.0 → turns_on device what ≡ false
of_network s hs now (events.On other) device may le =
    search arith
of_network s hs now other device may le = refl

known_apply : (network : Network) (f g : DeviceId → ℕ → ℕ) (past : List Event) (event : Event) (hs : List Happening) (now : ℕ) (ev : Happening)
    → FitsWorld (scenario network f past) hs now event.what → IsEventBody ev.note.body
    → AreOfNetwork (scenario network f past) (hs ++ []) → AreOfNetwork (scenario network g (past ++ event ∷ [])) ((hs ++ ev ∷ []) ++ [])
known_apply network f g past event hs now ev may is known = record {
  unmoved = λ device le h i. elim (in_parts h hs (ev ∷ []) (rw (append-nil (hs ++ ev ∷ [])) at i)) [
    | inl old ↦ known.unmoved device le h (rw (append-nil hs) old)
    | inr (inl e) ↦ event_moves device h.note.body (rw e is)
    | inr (inr none) ↦ absurd none
  ];
  never_on =
      λ device le t. turned_more network f g past event t device ∙
      (rw (known.never_on device le t)
      ((rw (of_network (scenario network f past) hs now event.what device may le))));
}

pub no_coming : (hs coming : List Happening) (s : Scenario) (frontier : List ℕ) (now : ℕ)
    → AreComing s hs coming frontier now
    → ((p : List ℕ) → IsBefore p frontier → IsBefore p (now ∷ 2 ∷ [])) → coming ≡ []
no_coming hs [] s frontier now are early = refl
no_coming hs (z ∷ coming) s frontier now are early =
    absurd (never_self (now ∷ 2 ∷ []) (early (now ∷ 2 ∷ []) (are.begun z (inl refl))))

-- ---- the step

-- octets are sent by an end system
sent_by : (s : Scenario) (hs : List Happening) (now : ℕ) (what : What) (link : LinkId) (octets : List ℕ) → FitsWorld s hs now what
    → what ≡ events.Send link octets → IsFromEnd s.network link
sent_by s hs now what link octets may is = subst (FitsWorld s hs now) is may

under_two : (now line : ℕ) → IsBefore (now ∷ 1 ∷ line ∷ []) (now ∷ 2 ∷ [])
under_two now line = inr (refl, inl (omega arith))

no_clock : (now : ℕ) (device : DeviceId) → IsBefore (clock_place now device) (now ∷ 2 ∷ []) → ⊥
no_clock now device (inl lt) = omega arith
no_clock now device (inr (e, inl lt)) = omega arith
no_clock now device (inr (e, inr (two, none))) = none

pub applied_step : {C M : Type 0} (reading : C → ℕ → ℕ) (stands : M → Network → DeviceId → Node → Type 0) → AppliedStep reading stands
applied_step {C} {M} reading stands network f g past event world notes clocks machines broken ups downs waiting old running time_is may fresh room reads steady
    clocks_are forward been broken_are ways waits =
    let s = scenario network f past in
    let more = past ++ event ∷ [] in
    let r = scenario network g more in
    let hs = happenings network notes in
    let now = world.now in
    let early = old.early fresh in
    let note = note_of_event notes past event in
    let ev = happening network hs note in
    let js = hs ++ ev ∷ [] in
    let at : amount event.time ≡ now = ap unsigned_abs time_is in
    let back = sym (one_more network notes note) in
    let empty = no_coming hs world.settled s old.frontier now old.are early in
    let over = old.of_now in
    let sooner : (h : Happening) → IsIn h hs → (time_of h < now) ⊎ ((time_of h ≡ now) × IsEventBody h.note.body) = λ h i. before_others h now
    (early (place_of h) (old.run.within h i)) in
    let long = same_length network notes in
    let number : length notes + 1 ≡ length hs + 1 = rw long in
    let running_so : (u : Units) → EndsAt past u → ⊥ = λ u ends. (both_ways _ running ((old.ended u).0 ends).0) in
    let place = place_of_event past event in
    let here = now ∷ 1 ∷ (length past + 1) ∷ [] in
    let place_is : place ≡ here = rw at in
    let agree = λ (t : ℕ) (lt : t < now). agree_before network f g past event t at reads lt in
    let befalls : MayBefall network f g past event old.frontier notes = record {
      begun = omega (arith, ints);
      agree = λ t lt. agree t (omega arith);
      running = running_so;
      in_order = λ i e get. let le = old.befallen.past i e get in omega arith;
      told = old.befallen.told;
      none_left = λ p b. old.of_now p (rw at at b);
      sooner = λ h i. elim (sooner h i) [ inl lt ↦ inl (omega arith) | inr it ↦ inr it.1 ];
    } in
    let run : IsScenarioRun r (behind here) (notes ++ note ∷ []) = subst (λ q. IsScenarioRun r (behind q) (notes ++ note ∷ [])) place_is
    (run_goes_on_by_event network f g past event old.frontier notes befalls old.run) in
    let m : IsBefalling network f g past event hs old.frontier now ev = record {
      at = at;
      agree = agree;
      sooner = sooner;
      early = early;
      over = over;
      ev_at = at;
      ev_is = refl;
    } in
    let applying : IsApplying network f g past event hs old.frontier now (length notes + 1) ev = record {
      events = record { sooner = sooner; at = at; is = tt };
      at = at;
      reads = λ device x le. sym (reads device x le);
      early = early;
      there = numbered_next hs [] ev (length notes + 1) number;
      is = refl;
    } in
    let pushed = length_push past event in
    let pushed_notes = length_push notes note in
    let before_here : (i : ℕ) (e : Event) → slice_get more i ≡ Some e → (amount e.time ≤ now) × IsBefore (amount e.time ∷ 1 ∷ (i + 1) ∷ []) (behind here) =
    λ i e get.
    elim (get_more past event e i get) [
      | inl was ↦
          let le = old.befallen.past i e was in
          let few = slice_get_within past i e was in (
            le,
            chain (amount e.time ∷ 1 ∷ (i + 1) ∷ []) here (behind here)
                (line_before (amount e.time) now (i + 1) (length past + 1) le (omega arith))
                (before_behind here),
          )
      | inr new ↦
          let same : amount e.time ≡ now = rw (sym new.1) at in (
            omega arith,
            subst (λ p. IsBefore p (behind here))
                (sym (ap (λ n. n ∷ 1 ∷ (i + 1) ∷ []) same ∙ ap (λ k. now ∷ 1 ∷ (k + 1) ∷ []) new.0))
                (before_behind here),
          )
    ] in
    let here_two = under_two now (length past + 1) in
    let two = now ∷ 2 ∷ [] in
    let due = nothing_due network g past event js at in
    let on : (p : List ℕ) → IsBefore p (behind here) → IsBefore p two = λ p b. elim (up_to_place p here b) [
      | inl e ↦ rw e here_two
      | inr lt ↦ chain p here two lt here_two
    ] in
    let none_now : (e : OnWire) → IsIn e world.wires → (it : IsOnWire s hs e) → time_of it.putting ≡ now → ⊥ = λ e i it put_at.
    let was = old.wires.real e i in
    let same = some_same it.putting was.0.putting _ it.there was.0.there in
    elim (cases_Bool world.pending) [
      | inl open_ ↦ was.1 open_ (ap time_of (sym same) ∙ put_at)
      | inr told ↦ never_self (now ∷ 2 ∷ []) (early (now ∷ 2 ∷ []) (old.untold.done told e.cause it.putting (record { there = it.there; same_time = put_at })))
    ] in
    record {
      same = old.same;
      range = old.range;
      rules = old.rules;
      forward = forward;
      steady = steady;
      precise = old.precise;
      frontier = two;
      run = run_to (notes ++ note ∷ []) two run (rw back at due)
          (λ w source waits b. waits b)
          (λ z i. absurd i) on;
      of_now = λ p b. before_of_time p now (2 ∷ []) b;
      not_later = λ p b. before_next_time p now (2 ∷ []) b;
      limit = old.limit;
      lines = let was = old.lines in omega (arith, pushed);
      given = let was = old.given in omega arith;
      ended = λ time. ended_then past event now time time_is running_so;
      befallen = record {
        past = λ i e get. (before_here i e get).0;
        told = λ i e get. on (amount e.time ∷ 1 ∷ (i + 1) ∷ []) (before_here i e get).1;
        begun = λ i e get. elim (get_more past event e i get) [
          | inl was ↦ old.befallen.begun i e was
          | inr new ↦ rw (sym new.1) (omega (arith, ints, time_is))
        ];
        sent = λ i e link octets get what. elim (get_more past event e i get) [
          | inl was ↦ old.befallen.sent i e link octets was what
          | inr new ↦ sent_by s hs now event.what link octets may (rw new.1 what)
        ];
      };
      clocks = clocks_are;
      broken = broken_are;
      ways = ways;
      room = let empty_length : length world.settled ≡ 0 = ap length empty in omega arith;
      known =
          rw empty (rw back at (known_apply network f g past event hs now ev may tt (rw empty at old.known)));
      devices = λ device lt.
          let k = old.devices device lt in
          let then_ = been.still device k.0 k.1 in (
            then_.0,
            then_.1,
            rw empty (rw back at (held_apply stands then_.0 applying
                (rw empty at k.2) then_.2 may)),
          );
      early = λ fresh p b. b;
      untold = rw back at (untold_apply (length past + 1) ev event.what old.untold early number at refl);
      wires =
          rw back at (wires_apply m none_now old.forward old.wires);
      ports =
          rw back at (ports_apply m old.ports);
      waiting =
          rw back at (waiting_apply waiting m old.waiting waits);
      stored = rw back at (stored_still ev (λ device vl. refl) old.stored);
      are =
          rw empty (rw back at (coming_of due on (λ z i. absurd i)));
      shown = λ device lt ended. (λ b. absurd (no_clock now device b), λ less. absurd (omega arith));
    }
