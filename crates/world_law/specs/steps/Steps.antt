-- The steps of a world: where it stands, and a step's call answers as its contract says, it stands again.
use Rattle.std.specs.Prelude.{if◌then◌else◌, ◌++◌, ◌+◌, ◌-◌, ◌<◌, ◌^◌, ◌↔◌, ◌∷◌, ◌≡◌, ◌≤ℤ◌, ◌≤◌, Bool, List, Some, []}
use Rattle.std.specs.Prelude.{false, length, nat_lt, pos, slice_get, true, ℕ}
use Rattle.net_plan.specs.{Ranges.IsInRange, declared.{event.{Event.Event, What.What}, ids.DeviceId.DeviceId}}
use Rattle.net_plan.specs.declared.network.Network.{Network}
use Rattle.run_law.specs.{control.Leaving.{Departure, leaves, on_cut_way, too_old}, declared.note.Note.Note}
use Rattle.run_law.specs.{declared.note.NoteBody.NoteBody, device.States.state_before, machines.Nodes.{Node, begun_node}}
use Rattle.run_law.specs.records.{Happenings.{Happening, happenings}, Order.IsIn}
use Rattle.run_law.specs.scenario.{Scenarios.{Scenario, is_broken, is_turned_on_at}, Ways.{is_cut, way_from}}
use Rattle.schedule_tables.specs.Rules.{KeepsRules}
use Rattle.sync_state.specs.declared.state.State.{TheVariants.Off}
use Rattle.tte_units.specs.Amount.{amount}
use Rattle.world_law.specs.{device.Ready.IsSteady, source.{Agreeing.scenario, Applying.note_of_event}}
use Rattle.world_law.specs.world.Moves.{NothingBefore, StandsAt}
use Rattle.world_law.specs.world.Outcomes.{also_befell, befallen_node, departure_body, ends_world}
use Rattle.world_law.specs.world.World.{AreWays, AtPort, IsClockOf, IsForward, IsFromEnd, Stands, Waiting, WayNow}
use Rattle.world_law.specs.world.World.{World, numbers_end}
use Rattle.net_plan.specs.declared.event.What.TheVariants as events

-- ---- time passes

-- where nothing is under way before a later time, the world stands at that time
abbrev pub PassedStep : {C M : Type 0} → (C → ℕ → ℕ) → (M → Network → DeviceId → Node → Type 0) → Type 0
PassedStep {C} {M} reading stands =
    (s : Scenario) (world : World C M) (notes : List Note) (t : ℕ) (old : Stands reading stands s world notes)
    → world.settled ≡ [] → world.now < t → t ≤ 2 ^ 60 → world.ended ≡ false
    → NothingBefore stands s world (t ∷ [])
    → StandsAt reading stands s (record world { now = t; early = true }) notes (t ∷ [])

-- ---- a frame at a port leaves

-- what becomes of a frame at a port that leaves now
abbrev pub departure_now : Scenario → AtPort → ℕ → Departure
departure_now s e now =
    let clock = e.frame.clock + (s.reading e.device now - e.reading) in
    if nat_lt (amount s.network.dmax) clock then too_old
    else (if is_cut s e.link (way_from s.network e.device e.link) now then on_cut_way else leaves clock)

-- its records: a broken device has none
abbrev pub departure_bodies : Scenario → AtPort → ℕ → List NoteBody
departure_bodies s e now = if is_broken s e.device now then [] else departure_body e (departure_now s e now) ∷ []

-- ---- an event befalls

-- what the event makes of a device's machine: what `turn_on` ensures of a device that is off, and a broken one stands
-- for the broken device
pub record HaveBeen {M : Type 0} (stands : M → Network → DeviceId → Node → Type 0) (s : Scenario) (what : What)
    (now : ℕ) (old new : List M) : Type 0 where
  pub still : (device : DeviceId) (machine : M) → slice_get old device.0 ≡ Some machine → (after : M)
      × (slice_get new device.0 ≡ Some after)
      × ((node : Node) → stands machine s.network device node
      → (what ≡ events.On device → node.standing.state ≡ Off)
      → stands after s.network device (befallen_node (is_turned_on_at s device now) what device node))

-- the event fits the world as the records leave it: it turns on a device of the network only where it is off and not
-- broken, and has octets sent only by an end system
abbrev pub FitsWorld : Scenario → List Happening → ℕ → What → Type 0
FitsWorld s hs now (events.On device) =
    (device.0 < length s.network.device) × (state_before s hs device now ≡ Off) × (is_broken s device now ≡ false)
FitsWorld s hs now (events.Send link octets) = IsFromEnd s.network link
FitsWorld s hs now other = Unit {0}

-- an event befalls before all else of its instant is worked off. A clock may read otherwise from then on, and a broken
-- device waits for nothing
abbrev pub AppliedStep : {C M : Type 0} → (C → ℕ → ℕ) → (M → Network → DeviceId → Node → Type 0) → Type 0
AppliedStep {C} {M} reading stands =
    (network : Network) (f g : DeviceId → ℕ → ℕ) (past : List Event) (event : Event) (world : World C M)
    (notes : List Note)
    (clocks : List C) (machines : List M) (broken : List Bool) (ups downs : List WayNow) (waiting : List Waiting)
    (old : Stands reading stands (scenario network f past) world notes) → world.ended ≡ false
    → event.time.0 ≡ pos world.now
    → FitsWorld (scenario network f past) (happenings network notes) world.now event.what
    → world.early ≡ true → length notes + 1 < numbers_end
    → ((device : DeviceId) (x : ℕ) → x ≤ world.now → g device x ≡ f device x)
    → ((device : DeviceId) → IsSteady (g device) (amount network.precision))
    → ((device : DeviceId) → device.0 < length network.device → (clock : C) × (slice_get clocks device.0 ≡ Some clock)
    × IsClockOf reading (scenario network g (past ++ event ∷ [])) world.now device clock)
    → IsForward (scenario network g (past ++ event ∷ [])) → HaveBeen stands (scenario network f past) event.what
    world.now world.machines machines
    → ((device : DeviceId) → device.0 < length network.device
    → slice_get broken device.0 ≡ Some (is_broken (scenario network g (past ++ event ∷ [])) device world.now))
    → AreWays (scenario network g (past ++ event ∷ [])) world.now ups downs
    → ((e : Waiting)
    → IsIn e waiting ↔
    (IsIn e world.waiting × (is_broken (scenario network g (past ++ event ∷ [])) e.device world.now ≡ false)))
    → Stands reading stands (scenario network g (past ++ event ∷ []))
    (record world {
      clocks = clocks;
      machines = machines;
      broken = broken;
      ups = ups;
      downs = downs;
      waiting = waiting;
      pending = true;
      befell = world.befell ++ also_befell (length notes + 1) event.what;
      lines = world.lines + 1;
      given = world.given + 1;
      ended = ends_world event.what;
      shown = 0;
    })
    (notes ++ note_of_event notes past event ∷ [])

-- ---- at the beginning

-- a fresh world
pub record IsFresh {C M : Type 0} (reading : C → ℕ → ℕ) (stands : M → Network → DeviceId → Node → Type 0)
    (network : Network) (f : DeviceId → ℕ → ℕ) (world : World C M) : Type 0 where
  pub of_it : world.network ≡ network
  pub clocks : (device : DeviceId) → device.0 < length network.device → (clock : C)
      × (slice_get world.clocks device.0 ≡ Some clock) × IsClockOf reading (scenario network f []) 0 device clock
  pub machines : (device : DeviceId) → device.0 < length network.device → (machine : M)
      × (slice_get world.machines device.0 ≡ Some machine) × stands machine network device (begun_node network device)
  pub broken : (device : DeviceId) → device.0 < length network.device → slice_get world.broken device.0 ≡ Some false
  pub ways : AreWays (scenario network f []) 0 world.ups world.downs
  pub wires : world.wires ≡ []
  pub ports : world.ports ≡ []
  pub waiting : world.waiting ≡ []
  pub stored : world.stored ≡ []
  pub settled : world.settled ≡ []
  pub early : world.early ≡ true
  pub pending : world.pending ≡ false
  pub befell : world.befell ≡ []
  pub now : world.now ≡ 0
  pub lines : world.lines ≡ 0
  pub given : world.given ≡ 0
  pub ended : world.ended ≡ false
  pub shown : world.shown ≡ 0

-- a fresh world stands, where each reading is 0 at time 0
abbrev pub Begun : {C M : Type 0} → (C → ℕ → ℕ) → (M → Network → DeviceId → Node → Type 0) → Type 0
Begun {C} {M} reading stands =
    (network : Network) (f : DeviceId → ℕ → ℕ) (world : World C M)
    → IsFresh reading stands network f world → IsForward (scenario network f [])
    → ((device : DeviceId) → IsSteady (f device) (amount network.precision))
    → ((device : DeviceId) → f device 0 ≡ 0) → pos 0 ≤ℤ network.precision.0
    → IsInRange network → KeepsRules network
    → Stands reading stands (scenario network f []) world []
