-- What the events of an instant leave is settled.
use Rattle.std.specs.Option.{option_map_or}
use Rattle.std.specs.Prelude.{if◌then◌else◌, ◌+◌, ◌<◌, ◌∷◌, ◌≡◌, List, Some, [], false, flat_map, length, true, ℕ}
use Rattle.net_plan.specs.{Places.link_at, declared.{event.What.What, ids.DeviceId.DeviceId, network.Network.Network}}
use Rattle.{net_plan.specs.declared.tables.Way.TheVariants.Up, run_law.specs.scenario.Scenarios.{Scenario, is_broken}}
use Rattle.{run_law.specs.declared.note.Note.Note, sync_state.specs.declared.state.State.TheVariants.Integrating}
use Rattle.run_law.specs.{declared.note.NoteBody.NoteBody, records.Happenings.{Happening, happenings, numbered}}
use Rattle.run_law.specs.machines.Nodes.{Node}
use Rattle.{run_law.specs.records.Order.behind, world_law.specs.world.World.{Befell, OnWire, Stands, World, numbers_end}}
use Rattle.{run_law.specs.scenario.Ways.is_cut, world_law.specs.world.Moves.{ArePut, ArePutIn, StandsAt}}
use Rattle.net_plan.specs.declared.event.What.TheVariants as events
use Rattle.run_law.specs.declared.judgement.Why.TheVariants as whys
use Rattle.run_law.specs.declared.note.NoteBody.TheVariants as kinds

-- the records of what comes of an event that befell: the device is turned on, unless it is broken; or the octets of a
-- broken master meet a cut way
abbrev pub bodies_of : Scenario → ℕ → ℕ → What → List NoteBody
bodies_of s now number (events.On device) =
    if is_broken s device now then [] else kinds.State device Integrating number whys.On ∷ []
bodies_of s now number (events.Send link octets) =
    option_map_or (λ way. if is_cut s link Up now then kinds.Lost way.child link number ∷ [] else [])
    (link_at s.network link) []
bodies_of s now number other = []

-- the records of what comes of all that befell
abbrev pub befell_bodies : Scenario → ℕ → List Befell → List NoteBody
befell_bodies s now befell = flat_map (λ e. bodies_of s now e.number e.what) befell

-- the wires with what the pending events put on them
abbrev pub ArePutBy : Scenario → List Happening → List Befell → List OnWire → List OnWire → Type 0
ArePutBy s hs [] old new = new ≡ old
ArePutBy s hs (e ∷ befell) old new =
    (mid : List OnWire) × (h : Happening) × (numbered hs e.number ≡ Some h) × ArePut s h e.number old mid
    × ArePutBy s hs befell mid new

-- the outcomes of the instant's events are put in, before all else of it is worked off; there are numbers for them
abbrev pub BefellStep : {C M : Type 0} → (C → ℕ → ℕ) → (M → Network → DeviceId → Node → Type 0) → Type 0
BefellStep {C} {M} reading stands =
    (s : Scenario) (world : World C M) (notes : List Note) (wires : List OnWire) (settled : List Happening)
    (old : Stands reading stands s world notes) → world.pending ≡ true
    → length notes + length world.befell < numbers_end
    → ArePutBy s (happenings s.network notes) world.befell world.wires wires
    → ArePutIn s.network (happenings s.network notes) world.now (befell_bodies s world.now world.befell) [] settled
    → StandsAt reading stands s
    (record world { wires = wires; early = false; pending = false; befell = []; settled = settled }) notes
    (behind (world.now ∷ 2 ∷ []))
