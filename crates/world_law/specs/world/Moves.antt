-- What the steps of a world are made of: a record is given, and what a source comes to is put in among others.
use Rattle.std.specs.Prelude.{◌++◌, ◌+◌, ◌<◌, ◌↔◌, ◌∷◌, ◌≡◌, ◌≤ℤ◌, ◌≤◌, ◌⊎◌, List}
use Rattle.std.specs.Prelude.{Some, [], false, length, pos, slice_get, true, ℕ}
use Rattle.net_plan.specs.declared.{ids.{DeviceId.DeviceId, LinkId.LinkId, VlId.VlId}, network.Network.Network}
use Rattle.{run_law.specs.control.{Leaving.Gives, Wires.{Arrives, Signal}}, world_law.specs.source.First.NoSourceBefore}
use Rattle.run_law.specs.{declared.note.{Note.Note, NoteBody.NoteBody}, records.Ranks.place_of}
use Rattle.run_law.specs.scenario.Ways.{hold_at, way_from}
use Rattle.run_law.specs.{machines.Nodes.Node, records.Order.{AllBefore, IsBefore, IsIn, NoneBefore, behind}}
use Rattle.run_law.specs.{machines.Tasks.{IsPending, Task, reading_for}, scenario.Scenarios.{Scenario, is_broken}}
use Rattle.run_law.specs.{records.Happenings.{Happening, happening, happenings, time_of}, timed.Dispatching.is_accepted}
use Rattle.tte_units.specs.Amount.{units_of}
use Rattle.world_law.specs.source.Sources.{task_place}
use Rattle.world_law.specs.world.World.{AtPort, IsAwaitedFor, IsGivenBy, OnWire, Stands, Stored, Waiting, World}
use Rattle.world_law.specs.world.World.{clock_place, note_of, numbers_end, port_place, ripe_place, wire_place}

-- ---- what a record launches

-- the wires with what the record of this number puts on one
pub record ArePut (s : Scenario) (x : Happening) (number : ℕ) (old new : List OnWire) : Type 0 where
  pub real : (e : OnWire) → IsIn e new → IsIn e old ⊎ ((e.cause ≡ number) × Arrives s x e.device e.link e.at e.signal)
  pub kept : (e : OnWire) → IsIn e old → IsIn e new
  pub all : (device : DeviceId) (link : LinkId) (t : ℕ) (signal : Signal) → Arrives s x device link t signal
      → (e : OnWire) × IsIn e new × (wire_place e ≡ t ∷ 2 ∷ device.0 ∷ link.0 ∷ number ∷ [])

-- the ports with the frame of the record of this number, where its device gives it
pub record AreGiven (s : Scenario) (x : Happening) (number : ℕ) (old new : List AtPort) : Type 0 where
  pub real : (e : AtPort) → IsIn e new → IsIn e old ⊎ ((e.cause ≡ number) × IsGivenBy s x e)
  pub kept : (e : AtPort) → IsIn e old → IsIn e new
  pub all : (device : DeviceId) (link : LinkId) → Gives s.network x.note.body device link
      → (e : AtPort) × IsIn e new
      × (port_place e ≡ (time_of x + hold_at s link (way_from s.network device link) (time_of x)) ∷ 8 ∷ device.0
      ∷ link.0 ∷ number ∷ [])

-- the frames that wait with that of the record of this number, where its device waits for it
pub record AreAwaited (s : Scenario) (x : Happening) (number : ℕ) (old new : List Waiting) : Type 0 where
  pub real : (e : Waiting) → IsIn e new → IsIn e old
      ⊎ ((e.cause ≡ number) × IsAwaitedFor s x e × (is_broken s e.device (time_of x) ≡ false))
  pub kept : (e : Waiting) → IsIn e old → IsIn e new
  pub all : (e : Waiting) → e.cause ≡ number → IsAwaitedFor s x e → is_broken s e.device (time_of x) ≡ false
      → IsIn e new

-- what the switches hold with the frame of the record of this number, where one took it
pub record AreTaken (x : Happening) (number : ℕ) (old new : List Stored) : Type 0 where
  pub real : (e : Stored) → IsIn e new → (IsIn e old × (is_accepted e.device e.vl x.note.body ≡ false))
      ⊎ ((is_accepted e.device e.vl x.note.body ≡ true) × (e.number ≡ number) × (e.octets ≡ x.octets))
  pub kept : (e : Stored) → IsIn e old → is_accepted e.device e.vl x.note.body ≡ false → IsIn e new
  pub all : (device : DeviceId) (vl : VlId) → is_accepted device vl x.note.body ≡ true
      → (e : Stored) × IsIn e new × (e.device ≡ device) × (e.vl ≡ vl)

-- ---- what is settled

-- a record of this body that is settled, with no number yet
abbrev pub settled_as : Network → List Happening → ℕ → NoteBody → Happening
settled_as network hs now body = happening network hs (record { number = 0; time = units_of now; body = body })

-- the record is put in at its place
pub record IsPutIn (w : Happening) (old new : List Happening) : Type 0 where
  pub front : List Happening
  pub back : List Happening
  pub was : old ≡ front ++ back
  pub is : new ≡ front ++ w ∷ back
  pub before : AllBefore place_of front (place_of w)
  pub none : NoneBefore place_of back (place_of w)

-- records of these bodies are put in one after the other
abbrev pub ArePutIn : Network → List Happening → ℕ → List NoteBody → List Happening → List Happening → Type 0
ArePutIn network hs now [] old new = new ≡ old
ArePutIn network hs now (body ∷ bodies) old new =
    (mid : List Happening) × IsPutIn (settled_as network hs now body) old mid × ArePutIn network hs now bodies mid new

-- a list without what is at a place
abbrev pub IsWithout : {X : Type 0} → (X → List ℕ) → List ℕ → List X → List X → Type 0
IsWithout {X} place p old new = (e : X) → IsIn e new ↔ (IsIn e old × (place e ≡ p → ⊥))

-- the source comes first: it stands at this place of the present instant, no other that is not worked off is before it,
-- and nothing that is settled; and there are numbers for what it brings
pub record ComesFirst {C M : Type 0} (reading : C → ℕ → ℕ) (stands : M → Network → DeviceId → Node → Type 0)
    (s : Scenario) (world : World C M) (notes : List Note) (old : Stands reading stands s world notes)
    (w : List ℕ) : Type 0 where
  pub none : NoSourceBefore s (happenings s.network notes) old.frontier w
  pub after : (z : Happening) → IsIn z world.settled → IsBefore (place_of z) w → ⊥
  pub room : length notes + length world.settled + 2 < numbers_end

-- the world stands with its frontier at this place
abbrev pub StandsAt : {C M : Type 0} → (C → ℕ → ℕ) → (M → Network → DeviceId → Node → Type 0) → Scenario → World C M
    → List Note → List ℕ → Type 0
StandsAt reading stands s world notes p = (st : Stands reading stands s world notes) × (st.frontier ≡ p)

-- ---- a record is given

-- the first of what is settled is given: with the next number, and what it puts on wires, gives to ports, waits for
-- and takes. Then the frontier is behind it
abbrev pub GivenStep : {C M : Type 0} → (C → ℕ → ℕ) → (M → Network → DeviceId → Node → Type 0) → Type 0
GivenStep {C} {M} reading stands =
    (s : Scenario) (world : World C M) (notes : List Note) (z : Happening) (rest : List Happening) (wires : List OnWire)
    (ports : List AtPort) (waiting : List Waiting) (stored : List Stored)
    → (old : Stands reading stands s world notes) → world.settled ≡ z ∷ rest
    → NoSourceBefore s (happenings s.network notes) old.frontier (place_of z)
    → ArePut s (happening s.network (happenings s.network notes) (note_of notes z)) (length notes + 1) world.wires wires
    → AreGiven s (happening s.network (happenings s.network notes) (note_of notes z)) (length notes + 1) world.ports
    ports
    → AreAwaited s (happening s.network (happenings s.network notes) (note_of notes z)) (length notes + 1) world.waiting
    waiting
    → AreTaken (happening s.network (happenings s.network notes) (note_of notes z)) (length notes + 1) world.stored
    stored
    → StandsAt reading stands s
    (record world {
      wires = wires;
      ports = ports;
      waiting = waiting;
      stored = stored;
      settled = rest;
      given = world.given + 1;
    }) (notes ++ note_of notes z ∷ []) (behind (place_of z))

-- ---- nothing is under way before a place

-- nothing of what the world has under way is before the place
pub record NothingBefore {C M : Type 0} (stands : M → Network → DeviceId → Node → Type 0) (s : Scenario)
    (world : World C M) (p : List ℕ) : Type 0 where
  pub wires : (e : OnWire) → IsIn e world.wires → IsBefore (wire_place e) p → ⊥
  pub ports : (e : AtPort) → IsIn e world.ports → IsBefore (port_place e) p → ⊥
  pub waiting : (e : Waiting) → IsIn e world.waiting → (t : ℕ) → world.now ≤ t
      → e.point.0 ≤ℤ pos (s.reading e.device t) → IsBefore (ripe_place t e) p → ⊥
  pub acting : (device : DeviceId) (machine : M) (node : Node) (task : Task)
      → slice_get world.machines device.0 ≡ Some machine → stands machine s.network device node
      → IsPending s.network device node task
      → (t : ℕ) → world.now ≤ t → reading_for s.network node task ≤ℤ pos (s.reading device t)
      → IsBefore (task_place s.network t device task) p → ⊥
  pub befell : world.pending ≡ true → IsBefore (world.now ∷ 2 ∷ []) p → ⊥
  pub clocks : (device : DeviceId) → device.0 < length s.network.device → world.ended ≡ true → world.shown ≤ device.0
      → IsBefore (clock_place world.now device) p → ⊥

-- then, where nothing to come is before it either, no source that is not worked off is
abbrev pub NothingComesBefore : {C M : Type 0} → (C → ℕ → ℕ) → (M → Network → DeviceId → Node → Type 0) → Type 0
NothingComesBefore {C} {M} reading stands =
    (s : Scenario) (world : World C M) (notes : List Note) (p : List ℕ) (old : Stands reading stands s world notes)
    → ((z : Happening) → IsIn z world.settled → IsBefore (place_of z) p → ⊥)
    → NothingBefore stands s world p → NoSourceBefore s (happenings s.network notes) old.frontier p
