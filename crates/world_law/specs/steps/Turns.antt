-- The turn of a source: of its records the one that stands where the source does is given in it, and what comes later
-- is put in.
use Rattle.std.specs.Prelude.{◌++◌, ◌+◌, ◌<◌, ◌^◌, ◌∷◌, ◌≡◌, ◌≤ℤ◌, ◌≤◌, Bool, List, Some, [], false, length, pos, slice_get}
use Rattle.std.specs.Prelude.{true, ℕ}
use Rattle.net_plan.specs.Ranges.{IsInRange}
use Rattle.net_plan.specs.declared.{ids.DeviceId.DeviceId, network.Network.Network}
use Rattle.run_law.specs.{control.Wires.signal_of, declared.{note.{Note.Note, NoteBody.NoteBody}, steps.{Arrival.Arrival, Ripe.Ripe}}}
use Rattle.run_law.specs.{machines.{Calls.MayArrive, Nodes.Node}, records.{Order.{IsIn, behind}, Ranks.place_of}}
use Rattle.run_law.specs.{runs.{DueRecords.IsDue, Runs.IsFounded}, scenario.Scenarios.{Scenario, is_broken}}
use Rattle.run_law.specs.records.Happenings.{Happening, happening, happenings}
use Rattle.sync_state.specs.declared.state.State.{State}
use Rattle.tte_units.specs.{Amount.{amount, units_of}, declared.units.Units.Units}
use Rattle.world_law.specs.{device.Ready.IsSteady, source.Sources.task_place}
use Rattle.world_law.specs.steps.{Acting.{Acts, task_of}, Ripening.{HasRipened, ripe_bodies}, Steps.departure_bodies}
use Rattle.world_law.specs.world.{Calls.{HasHeard, IsSet, IsStateOf, moment_of}, Outcomes.arrival_body}
use Rattle.world_law.specs.world.Moves.{AreAwaited, AreGiven, ArePut, ArePutIn, AreTaken, ComesFirst, IsWithout, StandsAt, settled_as}
use Rattle.world_law.specs.world.World.{AreWays, AtPort, IsClockOf, IsDueAs, OnWire, Stands, Waiting, World, clock_place, is_at_source}
use Rattle.world_law.specs.world.World.{port_place, ripe_place, wire_place}
use Rattle.run_law.specs.declared.note.NoteBody.TheVariants as kinds

-- the next record, of this body
abbrev pub next_note : List Note → ℕ → NoteBody → Note
next_note notes now body = record { number = length notes + 1; time = units_of now; body = body }

-- what it launches is under way: what it puts on wires, gives to ports, waits for and takes is there
pub record IsLaunched {C M : Type 0} (s : Scenario) (notes : List Note) (body : NoteBody) (old new : World C M)
    : Type 0 where
  pub wires : ArePut s (happening s.network (happenings s.network notes) (next_note notes old.now body))
      (length notes + 1) old.wires new.wires
  pub ports : AreGiven s (happening s.network (happenings s.network notes) (next_note notes old.now body))
      (length notes + 1) old.ports new.ports
  pub waiting : AreAwaited s (happening s.network (happenings s.network notes) (next_note notes old.now body))
      (length notes + 1) old.waiting new.waiting
  pub stored : AreTaken (happening s.network (happenings s.network notes) (next_note notes old.now body))
      (length notes + 1) old.stored new.stored

-- it is given: it has the next number, what it launches is under way, and these others are put in at their places
pub record IsGivenNow {C M : Type 0} (s : Scenario) (notes : List Note) (body : NoteBody) (others : List NoteBody)
    (old new : World C M)
    (more : List Note) : Type 0 where
  pub note : more ≡ next_note notes old.now body ∷ []
  pub launched : IsLaunched s notes body old new
  pub put : ArePutIn s.network (happenings s.network notes) old.now others old.settled new.settled
  pub same : new ≡ record old {
    wires = new.wires;
    ports = new.ports;
    waiting = new.waiting;
    stored = new.stored;
    settled = new.settled;
    given = old.given + 1;
  }

-- all of them come later: they are put in
pub record IsPutAll {C M : Type 0} (s : Scenario) (notes : List Note) (bodies : List NoteBody) (old new : World C M)
    (more : List Note) : Type 0 where
  pub none : more ≡ []
  pub put : ArePutIn s.network (happenings s.network notes) old.now bodies old.settled new.settled
  pub same : new ≡ record old { settled = new.settled }

-- does the first of them stand where its source does?
abbrev pub starts_there : List NoteBody → Bool
starts_there [] = false
starts_there (body ∷ bodies) = is_at_source body

-- from the world in which the source is worked off to that in which its records are given and put in
pub data IsTurn {C M : Type 0} (s : Scenario) (notes : List Note) (bodies : List NoteBody) (old new : World C M)
    (more : List Note) : Type 0 where
  gives : (body : NoteBody) (others : List NoteBody) → bodies ≡ body ∷ others → is_at_source body ≡ true
      → IsGivenNow s notes body others old new more → IsTurn s notes bodies old new more
  puts : starts_there bodies ≡ false → IsPutAll s notes bodies old new more → IsTurn s notes bodies old new more

-- a record of this body is the next: the world shows the scenario, and the record is due given those before it
pub record IsNext {C M : Type 0} (reading : C → ℕ → ℕ) (s : Scenario) (notes : List Note) (world : World C M)
    (body : NoteBody) : Type 0 where
  pub same : world.network ≡ s.network
  pub range : IsInRange s.network
  pub steady : (device : DeviceId) → IsSteady (s.reading device) (amount s.network.precision)
  pub limit : world.now ≤ 2 ^ 60
  pub given : world.given ≡ length notes
  pub clocks : (device : DeviceId) → device.0 < length s.network.device → (clock : C)
      × (slice_get world.clocks device.0 ≡ Some clock) × IsClockOf reading s world.now device clock
  pub broken : (device : DeviceId) → device.0 < length s.network.device
      → slice_get world.broken device.0 ≡ Some (is_broken s device world.now)
  pub ways : AreWays s world.now world.ups world.downs
  pub founded : IsFounded place_of (IsDue s) (happenings s.network notes)
  pub due : IsDueAs s (happenings s.network notes) (settled_as s.network (happenings s.network notes) world.now body)

-- the source at this place is worked off, and its records are of these bodies: where the first stands at its source, it
-- is the next, once the others are put in; and once it is given too, the world stands behind the place
pub record TurnsBy {C M : Type 0} (reading : C → ℕ → ℕ) (stands : M → Network → DeviceId → Node → Type 0) (s : Scenario)
    (notes : List Note) (bodies : List NoteBody) (mid : World C M) (place : List ℕ) : Type 0 where
  pub next : (body : NoteBody) (others : List NoteBody) → bodies ≡ body ∷ others → is_at_source body ≡ true
      → (rest : List Happening) → ArePutIn s.network (happenings s.network notes) mid.now others mid.settled rest
      → IsNext reading s notes (record mid { settled = rest }) body
  pub then_stands : (new : World C M) (more : List Note) → IsTurn s notes bodies mid new more
      → StandsAt reading stands s new (notes ++ more) (behind place)

-- the turn by which the clock of the next device is shown, at the end
abbrev pub ClockTurn : {C M : Type 0} → (C → ℕ → ℕ) → (M → Network → DeviceId → Node → Type 0) → Type 0
ClockTurn {C} {M} reading stands =
    (s : Scenario) (world : World C M) (notes : List Note) (device : DeviceId) (machine : M)
    (state : State) (adjustment : Units)
    (old : Stands reading stands s world notes) → device.0 < length s.network.device → world.ended ≡ true
    → world.shown ≡ device.0 → ComesFirst reading stands s world notes old (clock_place world.now device)
    → slice_get world.machines device.0 ≡ Some machine → IsStateOf stands s.network device machine state adjustment
    → TurnsBy reading stands s notes (kinds.Clock device (units_of (s.reading device world.now)) adjustment state ∷ [])
    (record world { early = false; shown = world.shown + 1 }) (clock_place world.now device)

-- the turn by which the first frame at a port leaves
abbrev pub LeftTurn : {C M : Type 0} → (C → ℕ → ℕ) → (M → Network → DeviceId → Node → Type 0) → Type 0
LeftTurn {C} {M} reading stands =
    (s : Scenario) (world : World C M) (notes : List Note) (e : AtPort) (ports : List AtPort)
    (old : Stands reading stands s world notes) → IsIn e world.ports → e.at ≡ world.now
    → ComesFirst reading stands s world notes old (port_place e)
    → IsWithout port_place (port_place e) world.ports ports
    → TurnsBy reading stands s notes (departure_bodies s e world.now) (record world { ports = ports; early = false })
    (port_place e)

-- the turn by which the first frame on a wire arrives, and its device's machine hears it
abbrev pub HeardTurn : {C M : Type 0} → (C → ℕ → ℕ) → (M → Network → DeviceId → Node → Type 0) → Type 0
HeardTurn {C} {M} reading stands =
    (s : Scenario) (world : World C M) (notes : List Note) (e : OnWire) (machine heard : M)
    (octets : List ℕ) (result : Arrival)
    (machines : List M) (wires : List OnWire)
    (old : Stands reading stands s world notes) → IsIn e world.wires → e.at ≡ world.now
    → ComesFirst reading stands s world notes old (wire_place e)
    → slice_get world.machines e.device.0 ≡ Some machine → signal_of octets ≡ e.signal
    → MayArrive s.network e.device e.link octets
    → HasHeard stands s.network e.device (moment_of s e.device world.now) e.link octets result machine heard
    → IsSet e.device.0 heard world.machines machines → IsWithout wire_place (wire_place e) world.wires wires
    → TurnsBy reading stands s notes (arrival_body e.device e.link e.cause result ∷ [])
    (record world { early = false; machines = machines; wires = wires }) (wire_place e)

-- the turn by which the first frame that waits is permanent
abbrev pub RipenedTurn : {C M : Type 0} → (C → ℕ → ℕ) → (M → Network → DeviceId → Node → Type 0) → Type 0
RipenedTurn {C} {M} reading stands =
    (s : Scenario) (world : World C M) (notes : List Note) (e : Waiting) (machine ripe : M)
    (result : Ripe) (machines : List M)
    (waiting : List Waiting)
    (old : Stands reading stands s world notes) → IsIn e world.waiting
    → e.point.0 ≤ℤ pos (s.reading e.device world.now)
    → ComesFirst reading stands s world notes old (ripe_place world.now e)
    → slice_get world.machines e.device.0 ≡ Some machine
    → HasRipened stands s.network e.device (moment_of s e.device world.now) e.link e.frame e.point result machine ripe
    → IsSet e.device.0 ripe world.machines machines → IsWithout (ripe_place world.now)
    (ripe_place world.now e) world.waiting waiting
    → TurnsBy reading stands s notes (ripe_bodies (length notes + 1) e.device e.link e.cause e.point result)
    (record world { early = false; machines = machines; waiting = waiting }) (ripe_place world.now e)

-- the turn by which a device acts
abbrev pub ActedTurn : {C M : Type 0} → (C → ℕ → ℕ) → (M → Network → DeviceId → Node → Type 0) → Type 0
ActedTurn {C} {M} reading stands =
    (s : Scenario) (world : World C M) (notes : List Note) (device : DeviceId) (after : M)
    (bodies : List NoteBody)
    (machines : List M) (old : Stands reading stands s world notes)
    → (a : Acts reading stands s world notes old device after bodies)
    → IsSet device.0 after world.machines machines
    → TurnsBy reading stands s notes bodies (record world { early = false; machines = machines })
    (task_place s.network world.now device (task_of a.act))
