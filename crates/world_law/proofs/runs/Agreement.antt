-- What is due at a time, and what causes it, is so in each scenario that agrees up to then.
use Rattle.std.proofs.lemmas.Bool.{le-leb}
use Rattle.run_law.{proofs.{law.FirstDeliveries.numbered_in, records.Order.in_drop}}
use Rattle.run_law.specs.{control.{Corrections.standing_before, Leaving.departure}}
use Rattle.run_law.specs.scenario.{Scenarios.{last_set, turns_on}}
use Rattle.run_law.specs.scenario.{Ways.{cut_set, delay_at, hold_at, hold_set, wire_of, wire_set}}
use Rattle.sync_state.specs.membership.Summary.{Summarizes}
use Rattle.world_law.proofs.Words
use Words.{if◌then◌else◌, ◌&&◌, ◌<◌, ◌==◌, ◌∙◌, ◌∷◌, ◌≡◌, ◌≤◌, Agree, Arrival, Arrives, ArrivesAs, BecomesPermanent}
use Words.{Bool, ChangesState, ComesToCorrection, Compressed, Departs, Departure, DeviceId, Dispatches, Emits, Event}
use Words.{Happening, IfSome, IsArrivedRecord, IsCaused, IsDropped, IsIn, IsLost, IsReach, Judgement, LinkId, List}
use Words.{Network, None, NoteBody, Option, Pcf, Reaches, Reason, Ripe, Send, Sends, Signal, Some, State, Units, Up}
use Words.{Verdict, VlId, Way, What, Why, [], adjustment_at_hearing, adjustment_before, amount, and_parts, ap, arith}
use Words.{arrival_of, before_permanence, both_ways, cases_Bool, cases_lt, changed_at, control, correction_value}
use Words.{earlier, eqb-true, false, false_from_ne_true, filter, has_cleared, heard_as, heard_since, in_filter, inl}
use Words.{inr, int_le, int_lt, is_broken, is_cut, is_integration_cycle, is_turned_on_at, last_or, last_taken, launched}
use Words.{le-ltb, list_any, local_at_change, lt-ltb, nat_le, nat_lt, next_cycle, next_point, not, numbered}
use Words.{observation_window, option_map_or, plan_of, pos, recorded_cycle, refl, same_kept, scenario, standpoint}
use Words.{state_at_hearing, state_before, subst, sym, time_of, timed, timed_arrival, true, way_from, ℕ, ℤ}
use Rattle.run_law.specs.declared.judgement.Why.TheVariants as whys
use Rattle.run_law.specs.declared.note.NoteBody.TheVariants as notes

-- ---- what is due at a time is so in each scenario that agrees up to then: the events

pub setting_same : {V : Type 0} {n : Network} {f g : DeviceId → ℕ → ℕ} {events more : List Event} {t : ℕ} (u : ℕ)
    (setting : What → Option V) (initial : V) → Agree n f g events more t → u ≤ t
    → last_set (scenario n f events) setting initial u ≡ last_set (scenario n g more) setting initial u
setting_same u setting initial a le =
    rw (a.befell u le)

pub broken_same : {n : Network} {f g : DeviceId → ℕ → ℕ} {events more : List Event} {t : ℕ} (u : ℕ)
    (device : DeviceId) → Agree n f g events more t → u ≤ t
    → is_broken (scenario n f events) device u ≡ is_broken (scenario n g more) device u
broken_same u device a le = rw (a.befell u le)

any_kept : {X : Type 0} (p q : X → Bool) (xs : List X) → ((x : X) → p x ≡ true → q x ≡ true) → list_any p xs ≡ list_any p (filter q xs)
any_kept p q [] keeps = refl
any_kept {X} p q (x ∷ xs) keeps = grind (arith, cases_Bool, list_any, filter, false_from_ne_true, both_ways, (any_kept p q xs keeps))

at_time : (b : Bool) (a t : ℕ) → (b && a == t) ≡ true → nat_le a t ≡ true
at_time b a t e = let same = eqb-true a t (and_parts b (a == t) e).1 in le-leb a t (omega arith)

module _ (n : Network) (f g : DeviceId → ℕ → ℕ) (events more : List Event) where
  pub turned_on_same : {t : ℕ} (u : ℕ) (device : DeviceId) → Agree n f g events more t → u ≤ t
      → is_turned_on_at (scenario n f events) device u ≡ is_turned_on_at (scenario n g more) device u
  turned_on_same u device a le =
      let p = λ (e : Event). turns_on device e.what && amount e.time == u in
      let q = λ (e : Event). nat_le (amount e.time) u in
      let keeps : (x : Event) → p x ≡ true → q x ≡ true =
      λ x yes_it. at_time (turns_on device x.what) (amount x.time) u yes_it in
      any_kept p q events keeps ∙ ap (list_any p) (a.befell u le) ∙ sym (any_kept p q more keeps)

  pub state_same : (hs : List Happening) {t : ℕ} (u : ℕ) (device : DeviceId) → Agree n f g events more t → u ≤ t
      → state_before (scenario n f events) hs device u ≡ state_before (scenario n g more) hs device u
  state_same hs u device a le =
      rw (turned_on_same u device a le)

-- ---- the times of changes

pub last_within : (o : Option Happening) (xs : List Happening) (u : ℕ) → IfSome o (λ h. time_of h ≤ u) → ((h : Happening) → IsIn h xs → time_of h ≤ u)
    → option_map_or time_of (last_or o xs) 0 ≤ u
last_within None [] u first all = omega arith
last_within (Some h) [] u first all = first
last_within o (x ∷ xs) u first all = last_within (Some x) xs u (all x (inl refl)) (λ h i. all h (inr i))

pub in_earlier : (u : ℕ) (hs : List Happening) (h : Happening) → IsIn h (earlier u hs) → time_of h < u
in_earlier u [] h i = absurd i
in_earlier u (x ∷ hs) h i =
    elim (cases_lt (time_of x) u) [
      | inl lt ↦
          elim (rw (ap (λ (b : Bool). if b then x ∷ earlier u hs else earlier u hs) (lt-ltb (time_of x) u lt)) at i) [
            | inl e ↦ rw e lt
            | inr rest ↦ in_earlier u hs h rest
          ]
      | inr ge ↦ in_earlier u hs h
          (rw (ap (λ (b : Bool). if b then x ∷ earlier u hs else earlier u hs) (le-ltb (time_of x) u ge)) at i)
    ]

-- the last change before a time is not after it
pub changed_before : (hs : List Happening) (device : DeviceId) (u : ℕ) → changed_at hs device u ≤ u
changed_before hs device u =
    search (arith, last_within, earlier, in_earlier, in_filter)

pub local_same : {n : Network} {f g : DeviceId → ℕ → ℕ} {events more : List Event} (hs : List Happening) {t : ℕ}
    (u : ℕ) (device : DeviceId) → Agree n f g events more t → u ≤ t
    → local_at_change (scenario n f events) hs device u ≡ local_at_change (scenario n g more) hs device u
local_same {n} {f} {events} hs u device a le =
    let before = changed_before hs device u in
    rw (a.reads device (changed_at hs device u) (omega arith))

module _ (n : Network) (f g : DeviceId → ℕ → ℕ) (events more : List Event) (hs : List Happening) (t u : ℕ) where
  pub cleared_same : (by : ℕ) (device : DeviceId) → Agree n f g events more t → u ≤ t → by ≤ t
      → has_cleared (scenario n f events) hs device u by ≡ has_cleared (scenario n g more) hs device u by
  cleared_same by device a le sooner =
      grind (arith, correction_value, recorded_cycle, earlier, adjustment_before, scenario, is_integration_cycle, int_lt, int_le, local_same, local_at_change)

  pub next_same : (device : DeviceId) → Agree n f g events more t → u ≤ t
      → next_cycle (scenario n f events) hs device u ≡ next_cycle (scenario n g more) hs device u
  next_same device a le =
      rw (cleared_same u device a le le)

  pub heard_same : (device : DeviceId) → Agree n f g events more t → u ≤ t
      → ((h : Happening) → IsIn h hs → time_of h ≤ t) → heard_since (scenario n f events) hs device u
      ≡ heard_since (scenario n g more) hs device u
  heard_same device a le all =
      search (arith, same_kept, cleared_same, in_drop)

module _ (n : Network) (f g : DeviceId → ℕ → ℕ) (events more : List Event) where
  pub reach_same : {t : ℕ} (u : ℕ) (device : DeviceId) {from v : ℤ} → Agree n f g events more t → u ≤ t
      → IsReach (f device) from v (pos u) → IsReach (g device) from v (pos u)
  reach_same u device {v} a le r = search arith

  pub reaches_same : {hs : List Happening} {t u : ℕ} {device : DeviceId} {v : ℤ} → Agree n f g events more t → u ≤ t
      → Reaches (scenario n f events) hs device v u → Reaches (scenario n g more) hs device v u
  reaches_same {hs} {u} {device} {v} a le r = record {
    below = rw (local_same hs u device a le) at r.below;
    reach = reach_same u device a le r.reach;
  }

module _ {n : Network} {f g : DeviceId → ℕ → ℕ} {events more : List Event} (hs : List Happening) {t : ℕ} (u : ℕ)
    (device : DeviceId) where
  pub standing_same : Agree n f g events more t → u ≤ t
      → standing_before (scenario n f events) hs device u ≡ standing_before (scenario n g more) hs device u
  standing_same a le = grind (arith, scenario, state_same, state_before, next_same)

  -- ---- what is due

  pub sends_same : {cycle : ℕ} → Agree n f g events more t → u ≤ t → Sends (scenario n f events) hs device u cycle
      → Sends (scenario n g more) hs device u cycle
  sends_same a le d = grind (arith, state_same, broken_same, reaches_same)

  pub comes_same : {cycle : ℕ} {verdict : Verdict} → Agree n f g events more t → u ≤ t
      → ((h : Happening) → IsIn h hs → time_of h ≤ t) → ComesToCorrection
      (scenario n f events) hs device u cycle verdict → ComesToCorrection
      (scenario n g more) hs device u cycle verdict
  comes_same {cycle} {verdict} a le all d =
      let same = standing_same a le in
      record {
        next = subst (λ x. next_point x ≡ Some cycle) same d.next;
        reached = reaches_same n f g events more a le d.reached;
        correct = sym (broken_same u device a le) ∙ d.correct;
        summary = d.summary;
        heard = subst (Summarizes d.summary) (heard_same n f g events more hs t u device a le all) d.heard;
        comes = rw same at d.comes;
      }

-- ---- what causes a record at a time causes it in each scenario that agrees up to then

-- no record of the list is later than the time
abbrev pub AreUpTo : ℕ → List Happening → Type 0
AreUpTo t hs = (h : Happening) → IsIn h hs → time_of h ≤ t

sooner : (t : ℕ) (hs : List Happening) (number : ℕ) (h : Happening) → AreUpTo t hs → numbered hs number ≡ Some h → time_of h ≤ t
sooner t hs number h all there = all h (numbered_in hs number h there)

-- ---- ways

module _ (n : Network) (f g : DeviceId → ℕ → ℕ) (events more : List Event) (t u : ℕ) where
  cut_same : (link : LinkId) (way : Way) → Agree n f g events more t → u ≤ t
      → is_cut (scenario n f events) link way u ≡ is_cut (scenario n g more) link way u
  cut_same link way a le = setting_same u (cut_set link way) false a le

  pub hold_same : (link : LinkId) (way : Way) → Agree n f g events more t → u ≤ t
      → hold_at (scenario n f events) link way u ≡ hold_at (scenario n g more) link way u
  hold_same link way a le = setting_same u (hold_set link way) 0 a le

  delay_same : (link : LinkId) (way : Way) → Agree n f g events more t → u ≤ t
      → delay_at (scenario n f events) link way u ≡ delay_at (scenario n g more) link way u
  delay_same link way a le = setting_same u (wire_set link way) (wire_of n link) a le

  launched_same : (h : Happening) (body : NoteBody) → Agree n f g events more t → u ≤ t
      → launched (scenario n f events) h u body ≡ launched (scenario n g more) h u body
  launched_same h (notes.Event line (Send link octets)) a le =
      rw (cut_same link Up a le)
  launched_same h (notes.Left device link cause clock) a le = refl
  launched_same h (notes.TtSent device link cause vl cycle) a le = refl
  launched_same h other a le = refl

pub arrives_same : {n : Network} {f g : DeviceId → ℕ → ℕ} {events more : List Event} {t : ℕ} (h : Happening)
    (device : DeviceId) (link : LinkId) (at : ℕ) (signal : Signal) → Agree n f g events more t → time_of h ≤ t
    → Arrives (scenario n f events) h device link at signal → Arrives (scenario n g more) h device link at signal
arrives_same h device link at signal a le x = grind (arith, launched_same, time_of, delay_same)

-- ---- what arrives

module _ (n : Network) (f g : DeviceId → ℕ → ℕ) (events more : List Event) (hs : List Happening) (t u : ℕ)
    (device : DeviceId) where
  standpoint_same : Agree n f g events more t → u ≤ t → standpoint (scenario n f events) hs device u
      ≡ standpoint (scenario n g more) hs device u
  standpoint_same a le =
      grind (arith, not, adjustment_before, scenario, is_broken, state_same, state_before, broken_same)

  judged_same : (link : LinkId) (cause : ℕ) (signal : Signal) → Agree n f g events more t → u ≤ t
      → arrival_of (scenario n f events) hs device u link cause signal
      ≡ arrival_of (scenario n g more) hs device u link cause signal
  judged_same link cause (control frame) a le =
      rw (standpoint_same a le)
  judged_same link cause (timed octets) a le =
      ap (λ p. timed_arrival n device link p octets (last_taken hs device u link cause))
      (standpoint_same a le)

module _ (n : Network) (f g : DeviceId → ℕ → ℕ) (events more : List Event) (hs : List Happening) (t u : ℕ)
    (device : DeviceId) where
  arrival_same : {link : LinkId} {cause : ℕ} {is : Arrival} → Agree n f g events more t → u ≤ t → AreUpTo t hs
      → ArrivesAs (scenario n f events) hs device u link cause is
      → ArrivesAs (scenario n g more) hs device u link cause is
  arrival_same a le all x = grind (arith, arrives_same, sooner, judged_same)

  -- ---- what ripens

  hearing_state_same : Agree n f g events more t → u ≤ t
      → state_at_hearing (scenario n f events) hs device u ≡ state_at_hearing (scenario n g more) hs device u
  hearing_state_same a le =
      rw (state_same n f g events more hs u device a le)

module _ {n : Network} {f g : DeviceId → ℕ → ℕ} {events more : List Event} {hs : List Happening} {t u : ℕ}
    {device : DeviceId} where
  ripens_same : {link : LinkId} {cause : ℕ} {point : Units} {is : Ripe} → Agree n f g events more t → u ≤ t
      → AreUpTo t hs → BecomesPermanent (scenario n f events) hs device u link cause point is
      → BecomesPermanent (scenario n g more) hs device u link cause point is
  ripens_same {link} {cause} {point} {is} a le all x =
      let p = x.permanent in
      record {
        frame = x.frame;
        permanent = record {
          arrival = p.arrival;
          there = p.there;
          from = p.from;
          clock = p.clock;
          arrived = p.arrived;
          of_frame = p.of_frame;
          waits = p.waits;
          at_point =
              p.at_point ∙ (rw (a.reads device (time_of p.arrival) (sooner t hs cause p.arrival all p.there)));
          reached = reach_same n f g events more u device a le p.reached;
          correct = sym (broken_same u device a le) ∙ p.correct;
        };
        becomes =
            let judged = before_permanence hs device u link cause x.frame point in
            rw (hearing_state_same n f g events more judged t u device a le) at x.becomes;
      }

  emits_same : {sent : Compressed} {verdict : Judgement} → Agree n f g events more t → u ≤ t
      → Emits (scenario n f events) hs device u sent verdict → Emits (scenario n g more) hs device u sent verdict
  emits_same a le x =
      grind (arith, broken_same, reach_same, heard_as, plan_of, observation_window, adjustment_at_hearing, scenario, hearing_state_same)

-- ---- what leaves, and what is dispatched

departure_same : {n : Network} {f g : DeviceId → ℕ → ℕ} {events more : List Event} {t : ℕ} (given u : ℕ)
    (device : DeviceId) (link : LinkId) (frame : Pcf) → Agree n f g events more t → given ≤ t → u ≤ t
    → departure (scenario n f events) device link frame given u
    ≡ departure (scenario n g more) device link frame given u
departure_same given u device link frame a from le = grind (arith, nat_lt, amount, is_cut, scenario, way_from, cut_same)

module _ (n : Network) (f g : DeviceId → ℕ → ℕ) (events more : List Event) (hs : List Happening) (t u : ℕ)
    (device : DeviceId) where
  departs_same : {link : LinkId} {cause : ℕ} {is : Departure} → Agree n f g events more t → u ≤ t → AreUpTo t hs
      → Departs (scenario n f events) hs device u link cause is
      → Departs (scenario n g more) hs device u link cause is
  departs_same a le all x = grind (arith, sooner, time_of, hold_same, way_from, broken_same, departure_same)

  dispatches_same : {link : LinkId} {cause : ℕ} {vl : VlId} {cycle : ℕ} → Agree n f g events more t → u ≤ t
      → Dispatches (scenario n f events) hs device u link cause vl cycle
      → Dispatches (scenario n g more) hs device u link cause vl cycle
  dispatches_same a le x = grind (arith, state_same, broken_same, reaches_same)

  changes_same : (state : State) (cause : ℕ) (why : Why) → Agree n f g events more t → u ≤ t → AreUpTo t hs
      → ChangesState (scenario n f events) hs device u state cause why
      → ChangesState (scenario n g more) hs device u state cause why
  changes_same state cause whys.On a le all c = (c.0, sym (broken_same u device a le) ∙ c.1, c.2)
  changes_same state cause whys.Frame a le all c = c
  changes_same state cause whys.Correction a le all c =
      (c.0, sym (state_same n f g events more hs u device a le) ∙ c.1, c.2)
  changes_same state cause whys.SyncClique a le all c =
      (c.0, c.1, (c.2.0, comes_same hs u device a le all c.2.1))
  changes_same state cause whys.AsyncClique a le all c =
      (c.0, c.1, (c.2.0, comes_same hs u device a le all c.2.1))

  lost_same : {link : LinkId} {cause : ℕ} → Agree n f g events more t → u ≤ t → AreUpTo t hs
      → IsLost (scenario n f events) hs device u link cause → IsLost (scenario n g more) hs device u link cause
  lost_same a le all (inl d) = inl (departs_same a le all d)
  lost_same {link} a le all (inr (inl d)) =
      inr (inl (d.0, d.1, dispatches_same a le d.2, sym (cut_same n f g events more t u link _ a le) ∙ d.3))
  lost_same a le all (inr (inr l)) = grind (arith, cut_same)

  dropped_same : {link : LinkId} {cause : ℕ} (reason : Reason) → Agree n f g events more t → u ≤ t → AreUpTo t hs
      → IsDropped (scenario n f events) hs device u link cause reason
      → IsDropped (scenario n g more) hs device u link cause reason
  dropped_same reason a le all (inl x) = inl (arrival_same n f g events more hs t u device a le all x)
  dropped_same reason a le all (inr (inl x)) =
      inr (inl (x.0, ripens_same a le all x.1))
  dropped_same reason a le all (inr (inr x)) =
      inr (inr (departs_same a le all x.0, x.1))

  arrived_same : {link : LinkId} {cause clock : ℕ} → Agree n f g events more t → u ≤ t → AreUpTo t hs
      → IsArrivedRecord (scenario n f events) hs device u link cause clock
      → IsArrivedRecord (scenario n g more) hs device u link cause clock
  arrived_same a le all x = record {
    frame = x.frame;
    point = x.point;
    way = x.way;
    taken = elim x.taken [
      | inl w ↦ inl (arrival_same n f g events more hs t u device a le all w)
      | inr (inl p) ↦ inr (inl (arrival_same n f g events more hs t u device a le all p))
      | inr (inr b) ↦ inr (inr (arrival_same n f g events more hs t u device a le all b))
    ];
    shows = x.shows;
  }

-- it is no record of an event, nor of a clock
abbrev pub IsOwn : NoteBody → Type 0
IsOwn (notes.Event line what) = ⊥
IsOwn (notes.Clock device reading adjustment state) = ⊥
IsOwn other = Unit {0}

module _ {n : Network} {f g : DeviceId → ℕ → ℕ} {events more : List Event} (hs : List Happening) {t : ℕ}
    (time : Units) where
  -- what causes a record, but of an event and of a clock, up to the time, causes it in each scenario that agrees
  pub caused_same : (body : NoteBody) → Agree n f g events more t → amount time ≤ t → AreUpTo t hs → IsOwn body
      → IsCaused (scenario n f events) hs time body → IsCaused (scenario n g more) hs time body
  caused_same (notes.Event line what) a le all it c = absurd it
  caused_same (notes.Clock device reading adjustment state) a le all it c = absurd it
  caused_same (notes.Arrived device link cause clock) a le all it c =
      arrived_same n f g events more hs t _ device a le all c
  caused_same (notes.Permanent device link cause point verdict) a le all it c =
      ripens_same a le all c
  caused_same (notes.Compressed device opened at cycle members verdict) a le all it c =
      emits_same a le c
  caused_same (notes.Sent device cycle) a le all it c = sends_same hs _ device a le c
  caused_same (notes.Corrected device cycle by adjustment) a le all it c =
      record { corrected = comes_same hs _ device a le all c.corrected; sum = c.sum }
  caused_same (notes.State device state cause why) a le all it c =
      changes_same n f g events more hs t _ device state cause why a le all c
  caused_same (notes.Left device link cause clock) a le all it c =
      departs_same n f g events more hs t _ device a le all c
  caused_same (notes.Lost device link cause) a le all it c = lost_same n f g events more hs t _ device a le all c
  caused_same (notes.TtSent device link cause vl cycle) a le all it c = grind (arith, dispatches_same, cut_same)
  caused_same (notes.Accepted device link cause vl cycle) a le all it c =
      arrival_same n f g events more hs t _ device a le all c
  caused_same (notes.Delivered device link cause vl cycle) a le all it c =
      arrival_same n f g events more hs t _ device a le all c
  caused_same (notes.Dropped device link cause reason) a le all it c =
      dropped_same n f g events more hs t _ device reason a le all c
