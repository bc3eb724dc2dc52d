-- A world while a source is worked off and its own record is not given yet.
use Rattle.std.proofs.Common.{◌↔◌, arith}
use Rattle.world_law.proofs.Words.{◌++◌, ◌+◌, ◌<◌, ◌^◌, ◌∷◌, ◌≡◌, ◌≤ℤ◌, ◌≤◌, AreAtPorts, AreOfNetwork, AreOnWires, AreWaiting, DeviceId, Happening}
use Rattle.world_law.proofs.Words.{HaveBefallen, IsBefore, IsForward, IsHeld, IsIn, IsScenarioRun, List, Network, Node, Note, Scenario, Some, Stands, World}
use Rattle.world_law.proofs.Words.{[], amount, behind, clock_place, happenings, length, numbers_end, place_of, pos, refl, slice_get, true, ℕ}
use Rattle.world_law.proofs.runs.Worlds.{AreSettled, coming_of, run_to, settled_of}
use Rattle.world_law.{specs.{device.Ready.IsSteady, world.Moves.StandsAt}}
use Rattle.world_law.specs.world.World.{AreStored, AreUntold, AreWays, IsClockOf}
use Rattle.{net_plan.specs.Ranges.IsInRange, run_law.specs.{runs.DueRecords.EndsAt, scenario.Scenarios.is_broken}}
use Rattle.{schedule_tables.specs.Rules.KeepsRules, tte_units.specs.declared.units.Units.Units}

-- up to the first place the records given are the run, and each source before the second is worked off
pub record StandsOver {C M : Type 0} (reading : C → ℕ → ℕ) (stands : M → Network → DeviceId → Node → Type 0)
    (s : Scenario) (world : World C M) (notes : List Note) (from to : List ℕ) : Type 0 where
  pub same : world.network ≡ s.network
  pub range : IsInRange s.network
  pub rules : KeepsRules s.network
  pub forward : IsForward s
  pub steady : (device : DeviceId) → IsSteady (s.reading device) (amount s.network.precision)
  pub precise : pos 0 ≤ℤ s.network.precision.0
  pub run : IsScenarioRun s from notes
  pub on : (p : List ℕ) → IsBefore p from → IsBefore p to
  pub of_now : (p : List ℕ) → IsBefore p (world.now ∷ []) → IsBefore p from
  pub not_later : (p : List ℕ) → IsBefore p to → IsBefore p ((world.now + 1) ∷ [])
  pub limit : world.now ≤ 2 ^ 60
  pub lines : world.lines ≡ length s.events
  pub given : world.given ≡ length notes
  pub ended : (time : Units) → EndsAt s.events time ↔ ((world.ended ≡ true) × (time.0 ≡ pos world.now))
  pub befallen : HaveBefallen s from world.now
  pub clocks : (device : DeviceId) → device.0 < length s.network.device → (clock : C)
      × (slice_get world.clocks device.0 ≡ Some clock) × IsClockOf reading s world.now device clock
  pub broken : (device : DeviceId) → device.0 < length s.network.device
      → slice_get world.broken device.0 ≡ Some (is_broken s device world.now)
  pub ways : AreWays s world.now world.ups world.downs
  pub room : length notes + length world.settled < numbers_end
  pub known : AreOfNetwork s (happenings s.network notes ++ world.settled)
  pub devices : (device : DeviceId) → device.0 < length s.network.device → (machine : M)
      × (slice_get world.machines device.0 ≡ Some machine)
      × IsHeld stands s (happenings s.network notes) world.settled to world.now device machine
  pub early : world.early ≡ true → (p : List ℕ) → IsBefore p to → IsBefore p (world.now ∷ 2 ∷ [])
  pub untold : AreUntold (happenings s.network notes) to world.now world.pending world.befell
  pub wires : AreOnWires s (happenings s.network notes) to world.now world.pending world.wires
  pub ports : AreAtPorts s (happenings s.network notes) to world.ports
  pub waiting : AreWaiting s (happenings s.network notes) to world.now world.waiting
  pub stored : AreStored (happenings s.network notes) world.stored
  pub are : AreSettled s (happenings s.network notes) world.settled from to world.now
  pub shown : (device : DeviceId) → device.0 < length s.network.device → world.ended ≡ true
      → IsBefore (clock_place world.now device) to ↔ (device.0 < world.shown)

-- the source at this place is worked off, and its records are among those to come
abbrev pub StandsBehind : {C M : Type 0} → (C → ℕ → ℕ) → (M → Network → DeviceId → Node → Type 0) → Scenario → World C M
    → List Note → List ℕ → Type 0
StandsBehind reading stands s world notes at = StandsOver reading stands s world notes at (behind at)

module _ {C M : Type 0} {reading : C → ℕ → ℕ} {stands : M → Network → DeviceId → Node → Type 0} {s : Scenario}
    {world : World C M} {notes : List Note} where
  pub over_of : (st : Stands reading stands s world notes)
      → StandsOver reading stands s world notes st.frontier st.frontier
  over_of st = search (arith, settled_of)

  -- where nothing to come is before the second place, that is the frontier
  pub stand_of : {from to : List ℕ} → StandsOver reading stands s world notes from to
      → ((z : Happening) → IsIn z world.settled → IsBefore (place_of z) to → ⊥)
      → StandsAt reading stands s world notes to
  stand_of {from} {to} o none = (
    record {
      same = o.same;
      range = o.range;
      rules = o.rules;
      forward = o.forward;
      steady = o.steady;
      precise = o.precise;
      frontier = to;
      run = run_to notes to o.run o.are (λ w source waits b. waits b) none o.on;
      of_now = λ p b. o.on p (o.of_now p b);
      not_later = o.not_later;
      limit = o.limit;
      lines = o.lines;
      given = o.given;
      ended = o.ended;
      befallen = record {
        past = o.befallen.past;
        told = λ i e at. o.on _ (o.befallen.told i e at);
        begun = o.befallen.begun;
        sent = o.befallen.sent;
      };
      clocks = o.clocks;
      broken = o.broken;
      ways = o.ways;
      room = o.room;
      known = o.known;
      devices = o.devices;
      early = o.early;
      untold = o.untold;
      wires = o.wires;
      ports = o.ports;
      waiting = o.waiting;
      stored = o.stored;
      are = coming_of o.are o.on none;
      shown = o.shown;
    },
    refl,
  )
