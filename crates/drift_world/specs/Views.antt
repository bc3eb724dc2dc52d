-- A world as its law sees it, from the parts of its state.
use Rattle.std.specs.Prelude.{filter_map, map}
use Rattle.{drift_world.specs.declared.state.State.State, world_state.specs.declared.kept.Kept.Kept}
use Rattle.{net_plan.specs.declared.network.Network.Network, world_law.specs.world.World.World}
use Rattle.world_state.specs.Views.{at_port, befell_as, on_wire, settled_at, stored_as, waiting_as, way_as}

-- the world of a state
abbrev pub world_of : {C M : Type 0} → Network → State C M → World C (Kept M)
world_of network s = record {
  network = network;
  clocks = s.clocks.items;
  machines = s.machines.items;
  broken = s.broken.items;
  ups = map way_as s.ups.items;
  downs = map way_as s.downs.items;
  wires = filter_map (on_wire network) s.under_way.entries;
  ports = filter_map at_port s.under_way.entries;
  waiting = map waiting_as s.waiting.items;
  stored = map (stored_as network) s.stored.items;
  early = s.early;
  pending = s.pending;
  befell = map befell_as s.befell.items;
  settled = map (settled_at network s.time) s.settled.items;
  now = s.time;
  lines = s.lines;
  given = s.given;
  ended = s.ended;
  shown = s.shown;
}
