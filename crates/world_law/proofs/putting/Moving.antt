-- The frontier goes by a source of the present instant, and the world stands behind it.
use Rattle.std.proofs.{Common.◌↔◌, lemmas.Bool.cases_eq}
use Rattle.world_law.{specs.world.{Calls.IsSet, Moves.{ComesFirst, IsWithout}, World.{AreUntold, IsDueAs}}}
use Rattle.world_law.proofs.{devices.Working.{out_on, worked_on}, giving.GivenParts.up_to_place}
use Rattle.world_law.proofs.Words
use Words.{◌++◌, ◌+◌, ◌<◌, ◌∙◌, ◌∷◌, ◌≡◌, ◌≤◌, ◌⊎◌, AllBefore, AreAtPorts, AreComing, AreOfNetwork, AreOnWires}
use Words.{AreWaiting, AtPort, DeviceId, Happening, HasTurnedOn, HaveBefallen, IsBefore, IsForward, IsHeld, IsIn}
use Words.{IsKept, IsOwnSource, IsScenarioRun, IsSource, List, Network, NoSourceBefore, Node, NoneBefore, Note, OnWire}
use Words.{Scenario, Some, Stands, Task, Waiting, World, [], amount, ap, append-nil, arith, before_behind, before_later}
use Words.{before_next_time, before_or_not, behind, both_ways, cases_Bool, chain, clock_place, either_way, false}
use Words.{happenings, in_left, inl, inr, is_at_source, length, members_in, never_self, numbers_end, place_of}
use Words.{port_place, refl, ripe_place, slice_get, subst, sym, task_place, time_of, true, wire_place, ℕ}
use Rattle.world_law.proofs.runs.{Over.StandsBehind, TaskPlaces.second}
use Rattle.world_law.proofs.runs.Worlds.{AreSettled, late_of, no_higher, none_pending, run_to, settled_of, source_back}

-- ---- the frontier goes by a source of the present instant

-- what a step that works off the source at this place of the instant starts from: the frontier stands there
pub record IsMoving (s : Scenario) (hs coming : List Happening) (now r : ℕ) (more : List ℕ) : Type 0 where
  pub forward : IsForward s
  pub later : IsBefore (now ∷ 2 ∷ []) (now ∷ r ∷ more)
  pub are : AreComing s hs coming (now ∷ r ∷ more) now

-- what is before a source is before what is just behind it
pub stays : (at p : List ℕ) → IsBefore p at → IsBefore p (behind at)
stays at p b = chain p at (behind at) b (before_behind at)

-- what is to come then does not stand at its source
pub off_source : {s : Scenario} {hs coming : List Happening} {now r : ℕ} {more : List ℕ}
    → IsMoving s hs coming now r more → (z : Happening) → IsIn z coming → is_at_source z.note.body ≡ false
off_source m z i = late_of m.are z i

-- ---- the frontier goes from one place to another

-- the sources that it goes by are these
pub record IsGoing (s : Scenario) (hs : List Happening) (from to : List ℕ) (Own : List ℕ → Type 0) : Type 0 where
  pub on : (p : List ℕ) → IsBefore p from → IsBefore p to
  pub own : (p : List ℕ) → Own p → IsBefore p to
  pub each : {p : List ℕ} → IsSource s hs p → IsBefore p to → IsBefore p from ⊎ Own p

-- the one at this place
pub goes_by : (s : Scenario) (hs : List Happening) (at : List ℕ) → IsGoing s hs at (behind at) (λ p. p ≡ at)
goes_by s hs at = record {
  on = stays at;
  own = λ p e. rw e (before_behind at);
  each = λ {p} source b. elim (up_to_place p at b) [ inl e ↦ inr e | inr lt ↦ inl lt ];
}

-- ---- what is settled

-- what comes from the source itself is among what is to come
abbrev pub IsAllOfIt : Scenario → List Happening → List Happening → List ℕ → Type 0
IsAllOfIt s hs coming p =
    (front back : List Happening) (y : Happening) → coming ≡ front ++ back → AllBefore place_of front (place_of y) → NoneBefore place_of back (place_of y)
    → IsDueAs s (hs ++ front) y → IsOwnSource s (hs ++ front) (time_of y) (members_in y) y.note.body p → (z : Happening) × IsIn z coming
    × (place_of z ≡ place_of y)

-- what is not before a place is not before what is just behind it
pub not_far : (at q : List ℕ) → (IsBefore q at → ⊥) → (p : List ℕ) → IsBefore p (behind at) → IsBefore p (behind q)
not_far at q not p b =
    let far : IsBefore at (behind q) = elim (either_way at q) [
      | inl lt ↦ chain at q (behind q) lt (before_behind q)
      | inr (inl e) ↦ rw e (before_behind q)
      | inr (inr gt) ↦ absurd (not gt)
    ] in
    elim (up_to_place p at b) [
      | inl e ↦ rw e far
      | inr under ↦ chain p at (behind q) under far
    ]

pub settled_moves : {s : Scenario} {hs coming : List Happening} {now r : ℕ} {more : List ℕ}
    → IsMoving s hs coming now r more → IsAllOfIt s hs coming (now ∷ r ∷ more)
    → AreSettled s hs coming (now ∷ r ∷ more) (behind (now ∷ r ∷ more)) now
settled_moves {s} {hs} {coming} {now} {r} {more} m all =
    let at = now ∷ r ∷ more in
    record {
      of_now = m.are.of_now;
      after = m.are.after;
      founded = m.are.founded;
      by = λ front rest z e. let was = m.are.by front rest z e in (was.0, was.1, was.2, stays at was.0 was.3);
      full = λ front back y e before none not due worked. elim (up_to_place worked.0 at worked.3) [
        | inr yet ↦ m.are.full front back y e before none not due (worked.0, worked.1, worked.2, yet)
        | inl here ↦ all front back y e before none due
            (rw here at worked.1)
      ];
      not_past = λ z i. not_far at (place_of z) (m.are.after z i);
      worked = λ z i is. absurd (both_ways _ (off_source m z i) is);
      begun = λ z i. stays at (now ∷ 2 ∷ []) (m.are.begun z i);
    }

-- no entry is at the place, which is that of a source of another kind
pub all_without : {X : Type 0} (place : X → List ℕ) (p : List ℕ) (xs : List X) → ((e : X) → place e ≡ p → ⊥) → IsWithout place p xs xs
all_without place p xs never e = (λ i. (i, never e), λ both. both.0)

module _ {s : Scenario} {hs : List Happening} {from to : List ℕ} {Own : List ℕ → Type 0}
    (g : IsGoing s hs from to Own) where
  -- ---- what is under way

  pub wires_move : {now : ℕ} {wires : List OnWire} (new : List OnWire) → AreOnWires s hs from now false wires
      → ((e : OnWire) → IsIn e new ↔ (IsIn e wires × (Own (wire_place e) → ⊥))) → AreOnWires s hs to now false new
  wires_move new are without = record {
    real = λ e i.
        let was = (without e).0 i in
        let it = are.real e was.0 in (
          it.0,
          λ open_. absurd cc,
          λ b. elim (g.each
              (IsSource.arriving e.at e.device e.link e.cause
              (record { putting = it.0.putting; there = it.0.there; signal = e.signal; arrives = it.0.arrives })) b) [
                | inl yet ↦ it.2 yet
                | inr here ↦ was.1 here
              ],
        );
    all = λ t device link cause a told not.
        let found = are.all t device link cause a told (λ b. not (g.on _ b)) in
        (found.0, (without found.0).1 (found.1, λ here. not (rw found.2 at (g.own _ here))), found.2);
  }

  pub ports_move : {ports : List AtPort} (new : List AtPort) → AreAtPorts s hs from ports
      → ((e : AtPort) → IsIn e new ↔ (IsIn e ports × (Own (port_place e) → ⊥))) → AreAtPorts s hs to new
  ports_move new are without = record {
    real = λ e i.
        let was = (without e).0 i in
        let it = are.real e was.0 in (
          it.0,
          λ b. elim (g.each
              (IsSource.departing e.at e.device e.link e.cause
              (record { giving = it.0.giving; there = it.0.there; gives = it.0.gave.gives; held = it.0.gave.held })) b) [
                | inl yet ↦ it.1 yet
                | inr here ↦ was.1 here
              ],
        );
    all = λ t device link cause d not.
        let found = are.all t device link cause d (λ b. not (g.on _ b)) in
        (found.0, (without found.0).1 (found.1, λ here. not (rw found.2 at (g.own _ here))), found.2);
  }

  -- the frames that wait, where the source is of another kind
  pub waiting_moves : {now : ℕ} {waiting : List Waiting} → ((t : ℕ) (more : List ℕ) → Own (t ∷ 3 ∷ more) → ⊥)
      → AreWaiting s hs from now waiting → AreWaiting s hs to now waiting
  waiting_moves other are = record {
    real = are.real;
    later = λ e i t x b.
        let it = are.real e i in
        let p = x.permanent in
        let arrival =
        Rattle.world_law.proofs.giving.GivenParts.some_same it.arrival p.arrival _ it.there p.there in
        let frame = Rattle.world_law.proofs.giving.GivenParts.some_same x.frame e.frame _
        p.of_frame (rw (sym arrival)
        it.awaited.of_frame) in
        let at : t ∷ 3 ∷ e.device.0 ∷ amount e.point ∷ x.frame.members.0 ∷ e.link.0 ∷ e.cause
        ∷ [] ≡ ripe_place t e =
        rw frame in
        elim (g.each (IsSource.ripening t e.device e.link e.cause e.point x)
        (rw at b)) [
          | inl yet ↦ are.later e i t x (rw at at yet)
          | inr here ↦ other t _ here
        ];
    sound = are.sound;
    all = λ e it sound not. are.all e it sound (λ t x b. not t x (g.on (ripe_place t e) b));
  }

  -- ---- a device, which is not the one that acts

  pub turned_moves : {coming : List Happening} {device : DeviceId} {now : ℕ} → (Own (now ∷ 2 ∷ []) → ⊥)
      → HasTurnedOn s hs coming from device now → HasTurnedOn s hs coming to device now
  turned_moves longer it = record {
    off = it.off;
    number = it.number;
    event = it.event;
    befell = it.befell;
    turned = λ b. elim (g.each (IsSource.following _ it.number it.event it.befell) b) [
      | inl yet ↦ it.turned yet
      | inr here ↦ absurd (longer here)
    ];
  }

  pub kept_moves : {M : Type 0} {stands : M → Network → DeviceId → Node → Type 0} {coming : List Happening} {now : ℕ}
      {device : DeviceId} {machine : M} → (Own (now ∷ 2 ∷ []) → ⊥)
      → ((task : Task) → Own (task_place s.network now device task) → ⊥)
      → IsKept stands s hs coming from now device machine → IsKept stands s hs coming to now device machine
  kept_moves {now} {device} longer other k = record {
    node = k.node;
    is = k.is;
    sound = k.sound;
    up = k.up;
    acted = elim k.acted [
      | inr over ↦ inr (over.0, λ p b. g.on p (over.1 p b))
      | inl still ↦ inl (
        still.0,
        λ task b a. elim (g.each (IsSource.acting now device task a) b) [
          | inl yet ↦ still.1 task yet a
          | inr here ↦ absurd (other task here)
        ],
      )
    ];
    told = λ over. elim (k.told over) [
      | inl past ↦ inl (out_on to g.on past)
      | inr just ↦ inr just
    ];
    left = k.left;
    taken = k.taken;
    worked = worked_on _ to refl g.on k.worked;
    bare = k.bare;
    ready = k.ready;
    still = k.still;
    turned = λ on. turned_moves longer (k.turned on);
    cleared = k.cleared;
    phase = λ at p b. g.on p (k.phase at p b);
  }

  pub held_moves : {M : Type 0} (stands : M → Network → DeviceId → Node → Type 0) {coming : List Happening} {now : ℕ}
      {device : DeviceId} {machine : M} → (Own (now ∷ 2 ∷ []) → ⊥)
      → ((task : Task) → Own (task_place s.network now device task) → ⊥)
      → IsHeld stands s hs coming from now device machine → IsHeld stands s hs coming to now device machine
  held_moves stands longer other (inl k) = inl (kept_moves longer other k)
  held_moves stands longer other (inr k) = search arith

-- the events of the instant stand elsewhere
pub not_there : {s : Scenario} {hs coming : List Happening} {now r : ℕ} {more : List ℕ} → IsMoving s hs coming now r more
    → now ∷ 2 ∷ [] ≡ now ∷ r ∷ more → ⊥
not_there {now} {r} {more} m same =
    never_self (now ∷ r ∷ more) (subst (λ p. IsBefore p (now ∷ r ∷ more)) same m.later)

pub turned_by : {s : Scenario} {hs coming : List Happening} {now r : ℕ} {more : List ℕ} {device : DeviceId}
    → IsMoving s hs coming now r more → HasTurnedOn s hs coming (now ∷ r ∷ more) device now
    → HasTurnedOn s hs coming (behind (now ∷ r ∷ more)) device now
turned_by {s} {hs} {now} {r} {more} m it = turned_moves (goes_by s hs (now ∷ r ∷ more)) (not_there m) it

-- ---- the source that comes first is worked off: the world stands behind it

-- a world that stands so that its frontier is at the source that comes first, at this place of the instant
pub record StandsHere {C M : Type 0} (reading : C → ℕ → ℕ) (stands : M → Network → DeviceId → Node → Type 0)
    (s : Scenario) (world : World C M) (notes : List Note) (r : ℕ) (more : List ℕ) : Type 0 where
  pub old : Stands reading stands s world notes
  pub on : (p : List ℕ) → IsBefore p old.frontier → IsBefore p (world.now ∷ r ∷ more)
  pub moving : IsMoving s (happenings s.network notes) world.settled world.now r more
  pub run : IsScenarioRun s (world.now ∷ r ∷ more) notes
  pub befallen : HaveBefallen s (world.now ∷ r ∷ more) world.now
  pub devices : (device : DeviceId) → device.0 < length s.network.device → (machine : M)
      × (slice_get world.machines device.0 ≡ Some machine)
      × IsHeld stands s (happenings s.network notes) world.settled (world.now ∷ r ∷ more) world.now device machine
  pub told : world.pending ≡ false
  pub wires : AreOnWires s (happenings s.network notes) (world.now ∷ r ∷ more) world.now false world.wires
  pub ports : AreAtPorts s (happenings s.network notes) (world.now ∷ r ∷ more) world.ports
  pub waiting : AreWaiting s (happenings s.network notes) (world.now ∷ r ∷ more) world.now world.waiting

-- the source at a place is one that comes later than the events of the instant, and none is before it, nor anything to come
pub record IsNext {C M : Type 0} {reading : C → ℕ → ℕ} {stands : M → Network → DeviceId → Node → Type 0}
    {s : Scenario} {world : World C M} {notes : List Note} (old : Stands reading stands s world notes)
    (at : List ℕ) : Type 0 where
  pub later : IsBefore (world.now ∷ 2 ∷ []) at
  pub waits : IsBefore at old.frontier → ⊥
  pub first : NoSourceBefore s (happenings s.network notes) old.frontier at
  pub after : (z : Happening) → IsIn z world.settled → IsBefore (place_of z) at → ⊥

module _ {C M : Type 0} {reading : C → ℕ → ℕ} {stands : M → Network → DeviceId → Node → Type 0} {s : Scenario}
    {world : World C M} {notes : List Note} (old : Stands reading stands s world notes) (r : ℕ) (more : List ℕ) where
  abbrev hs_of : List Happening
  hs_of = happenings s.network notes

  abbrev at_it : List ℕ
  at_it = world.now ∷ r ∷ more

  pub up_on : IsNext old at_it → (p : List ℕ) → IsBefore p old.frontier → IsBefore p at_it
  up_on x p b = before_later p at_it old.frontier b x.waits

  -- a source before it, by those given, is worked off
  by_given : IsNext old at_it → (w : List ℕ) → IsSource s hs_of w → IsBefore w at_it → IsBefore w old.frontier
  by_given x w source lt = elim (before_or_not w old.frontier)
      [ inl yet ↦ yet | inr not ↦ absurd (x.first w source not lt) ]

  -- and by some of those to come too
  by_coming : IsNext old at_it → (front back : List Happening) → world.settled ≡ front ++ back → {w : List ℕ}
      → IsSource s (hs_of ++ front) w → IsBefore w at_it → IsBefore w old.frontier
  by_coming x [] back e {w} source lt = by_given x w (rw (append-nil hs_of) at source) lt
  by_coming x (f ∷ front) back e {w} source lt =
      let inside : (y : Happening) → IsIn y (f ∷ front) → IsIn y world.settled =
      λ y i. rw e (in_left y (f ∷ front) back i) in
      elim (source_back hs_of (f ∷ front) world.now r more old.forward (λ y i. old.are.of_now y (inside y i))
      (λ y i. x.after y (inside y i)) source (inr lt)) [
        | inl old_one ↦ by_given x w old_one lt
        | inr (inl early) ↦ old.of_now w early
        | inr (inr same) ↦ rw same (old.are.begun f (inside f (inl refl)))
      ]

  goes_up : IsNext old at_it → IsGoing s hs_of old.frontier at_it (λ p. ⊥)
  goes_up x = record {
    on = up_on x;
    own = λ p never. absurd never;
    each = λ {p} source b. inl (by_given x p source b);
  }

  -- no event is pending where another source comes first
  told_first : IsNext old at_it → world.pending ≡ false
  told_first x = elim (cases_Bool world.pending) [
    | inr told ↦ told
    | inl open_ ↦
        let it = old.untold.waits open_ in
        absurd (x.first (world.now ∷ 2 ∷ []) (IsSource.following world.now it.0 it.1 it.2)
        (λ b. never_self (world.now ∷ 2 ∷ []) (old.untold.early open_ (world.now ∷ 2 ∷ []) b)) x.later)
  ]

  coming_up : IsNext old at_it → AreComing s hs_of world.settled at_it world.now
  coming_up x =
      let on = up_on x in
      record {
        of_now = old.are.of_now;
        after = x.after;
        founded = old.are.founded;
        by = λ front rest z e. let was = old.are.by front rest z e in (was.0, was.1, was.2, on was.0 was.3);
        full = λ front back y e before none not due off.
            old.are.full front back y e before none (λ b. not (on (place_of y) b)) due
            (off.0, off.1, off.2, by_coming x front back e off.2 off.3);
        begun = λ z i. on (world.now ∷ 2 ∷ []) (old.are.begun z i);
      }

  -- the frontier goes up to the source that comes first
  pub stands_here : IsNext old at_it → StandsHere reading stands s world notes r more
  stands_here x =
      let on = up_on x in
      let g = goes_up x in
      let told = told_first x in
      record {
        old = old;
        on = on;
        moving = record { forward = old.forward; later = x.later; are = coming_up x };
        run = run_to notes at_it old.run (settled_of old.are) x.first x.after on;
        befallen = record {
          past = old.befallen.past;
          told = λ i e at. on _ (old.befallen.told i e at);
          begun = old.befallen.begun;
          sent = old.befallen.sent;
        };
        devices = λ device lt.
            let k = old.devices device lt in
            (k.0, k.1, held_moves g stands (λ never. never) (λ task never. never) k.2);
        told = told;
        wires = wires_move g world.wires
            (rw told at old.wires)
            (λ e. (λ i. (i, λ never. never), λ both. both.0));
        ports = ports_move g world.ports old.ports (λ e. (λ i. (i, λ never. never), λ both. both.0));
        waiting = waiting_moves g (λ t ws never. never) old.waiting;
      }

  pub comes_first : {place : List ℕ} → IsBefore (world.now ∷ 2 ∷ []) at_it → place ≡ at_it
      → (IsBefore place old.frontier → ⊥) → ComesFirst reading stands s world notes old place
      → StandsHere reading stands s world notes r more
  comes_first later at waits first = stands_here (record {
    later = later;
    waits = λ b. waits (rw at b);
    first = subst (NoSourceBefore s hs_of old.frontier) at first.none;
    after = λ z there b. first.after z there (rw at b);
  })

module _ {C M : Type 0} {reading : C → ℕ → ℕ} {stands : M → Network → DeviceId → Node → Type 0} {s : Scenario}
    {world : World C M} {notes : List Note} {r : ℕ} {more : List ℕ}
    (c : StandsHere reading stands s world notes r more) where
  abbrev hs : List Happening
  hs = happenings s.network notes

  abbrev here : List ℕ
  here = world.now ∷ r ∷ more

  -- ---- what is shown at the end, where the source is of a lower rank

  pub shown_still : r < 14 → (device : DeviceId) → device.0 < length s.network.device → world.ended ≡ true
      → IsBefore (clock_place world.now device) (behind here) ↔ (device.0 < world.shown)
  shown_still low device lt ended = search (arith, no_higher, up_to_place, here, stays)

  untold_on : AreUntold hs (behind here) world.now world.pending world.befell
  untold_on =
      none_pending c.told (c.old.untold.none c.told) (λ number h it. stays here (world.now ∷ 2 ∷ []) c.moving.later)

  -- ---- what is under way stays as it was, where the source is of another kind

  pub wires_still : (2 ≡ r → ⊥) → AreOnWires s hs (behind here) world.now false world.wires
  wires_still not =
      wires_move (goes_by s hs here) world.wires c.wires (all_without wire_place here world.wires (λ e same. not (ap second same)))

  pub ports_still : (8 ≡ r → ⊥) → AreAtPorts s hs (behind here) world.ports
  ports_still not =
      ports_move (goes_by s hs here) world.ports c.ports (all_without port_place here world.ports (λ e same. not (ap second same)))

  pub waiting_still : (3 ≡ r → ⊥) → AreWaiting s hs (behind here) world.now world.waiting
  waiting_still not = waiting_moves (goes_by s hs here) (λ t ws same. not (ap second same)) c.waiting

  -- ---- the device whose source it is, and the others

  pub device_still : {device : DeviceId} {machine : M} → ((task : Task) → task_place s.network world.now device task ≡ here → ⊥)
      → IsHeld stands s hs world.settled here world.now device machine
      → IsHeld stands s hs world.settled (behind here) world.now device machine
  device_still other held = held_moves (goes_by s hs here) stands (not_there c.moving) other held

  pub devices_then : (device : DeviceId) {after : M} {machines : List M} {settled : List Happening}
      → ((other : DeviceId) → (other.0 ≡ device.0 → ⊥) → (task : Task)
      → task_place s.network world.now other task ≡ here → ⊥)
      → IsSet device.0 after world.machines machines
      → IsHeld stands s hs settled (behind here) world.now device after
      → ((other : DeviceId) (machine : M) → (other.0 ≡ device.0 → ⊥)
      → IsHeld stands s hs world.settled (behind here) world.now other machine
      → IsHeld stands s hs settled (behind here) world.now other machine)
      → (other : DeviceId) → other.0 < length s.network.device
      → (machine : M) × (slice_get machines other.0 ≡ Some machine)
      × IsHeld stands s hs settled (behind here) world.now other machine
  devices_then device {after} {machines} {settled} own set held others other lt = elim (cases_eq other.0 device.0) [
    | inl e ↦
        let same : device ≡ other = rw (sym e) in
        rw (sym same) (after, set.there, held)
    | inr not ↦
        let k = c.devices other lt in
        (k.0, set.same other.0 not ∙ k.1, others other k.0 not (device_still (own other not) k.2))
  ]

  -- ---- and the world stands behind it

  pub stands_on : (machines : List M) {wires : List OnWire} {ports : List AtPort} {waiting : List Waiting}
      {settled : List Happening} (shown : ℕ) → length notes + length settled < numbers_end
      → AreSettled s hs settled here (behind here) world.now → AreOfNetwork s (hs ++ settled)
      → ((device : DeviceId) → device.0 < length s.network.device
      → (machine : M) × (slice_get machines device.0 ≡ Some machine)
      × IsHeld stands s hs settled (behind here) world.now device machine)
      → AreOnWires s hs (behind here) world.now false wires → AreAtPorts s hs (behind here) ports
      → AreWaiting s hs (behind here) world.now waiting
      → ((device : DeviceId) → device.0 < length s.network.device → world.ended ≡ true
      → IsBefore (clock_place world.now device) (behind here) ↔ (device.0 < shown))
      → StandsBehind reading stands s
      (record world {
        machines = machines;
        wires = wires;
        ports = ports;
        waiting = waiting;
        early = false;
        settled = settled;
        shown = shown;
      }) notes here
  stands_on machines {wires} {ports} {waiting} shown room are known devices on_wires at_ports awaited shown_so =
      search (arith, stays, here, before_next_time, untold_on)

  -- where a device acts
  pub acts_on : {machines : List M} {settled : List Happening} → 4 ≤ r → r ≤ 6
      → length notes + length settled < numbers_end → AreSettled s hs settled here (behind here) world.now
      → AreOfNetwork s (hs ++ settled)
      → ((device : DeviceId) → device.0 < length s.network.device
      → (machine : M) × (slice_get machines device.0 ≡ Some machine)
      × IsHeld stands s hs settled (behind here) world.now device machine)
      → StandsBehind reading stands s (record world { early = false; machines = machines; settled = settled }) notes
      here
  acts_on {machines} high low room are known devices =
      stands_on machines world.shown room are known devices
      (wires_still (λ two. omega arith))
      (ports_still (λ eight. omega arith))
      (waiting_still (λ three. omega arith))
      (shown_still (omega arith))
