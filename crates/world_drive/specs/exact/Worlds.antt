-- The world of the program, and where it stands.
use Rattle.std.specs.Prelude.{◌≡◌, List, pos, true}
use Rattle.drift_clock.specs.Segment.{Segment, fresh_segment, segment_reading, stepped_segment}
use Rattle.{drift_world.specs.Running.StandsUnder, world_state.specs.declared.kept.Kept.Kept}
use Rattle.{net_plan.specs.declared.event.Event.Event, tte_units.specs.declared.units.Units.Units}
use Rattle.{net_plan.specs.declared.network.Network.Network, world_drive.specs.machines.Standing.StandsAsDevice}
use Rattle.{run_law.specs.declared.note.Note.Note, world_law.specs.world.World.World}
use Rattle.world_drive.specs.declared.machines.device_machine.DeviceMachine.{DeviceMachine}

-- the world of the program, whose clocks are exact
abbrev pub ExactWorld : Type 0
ExactWorld = World Segment (Kept DeviceMachine)

-- it stands where these events and records leave it
abbrev pub StandsExact : Network → ExactWorld → List Event → List Note → Type 0
StandsExact network world events notes =
    StandsUnder fresh_segment stepped_segment segment_reading StandsAsDevice network world events notes

-- the world has come to the time, and nothing of it but events is worked off
pub record IsReached (world : ExactWorld) (time : Units) : Type 0 where
  pub now : pos world.now ≡ time.0
  pub early : world.early ≡ true
