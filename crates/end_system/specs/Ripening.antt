-- What an end system does with a frame that is permanent.
use Rattle.std.specs.Prelude.{if◌then◌else◌, ◌≡◌, Bool}
use Rattle.net_plan.specs.declared.{ids.{DeviceId.DeviceId, LinkId.LinkId}, network.Network.Network}
use Rattle.tte_units.specs.declared.frames.pcf.Pcf.{Pcf}
use Rattle.run_law.specs.declared.steps.{Moment.Moment, Ripe.{Ripe, TheVariants.{Integrates, Outside, Within}}}
use Rattle.run_law.specs.machines.{Answers.{called, with_heard, with_joined}, Calls.{MayCall, MayRipen, StandsFor}}
use Rattle.run_law.specs.{machines.Nodes.{Node, ripening}, scenario.Devices.channel_of_link}
use Rattle.tte_units.specs.declared.units.Units.{Units}
use Rattle.end_system.specs.{Controls.heard_by, Standing.StandsAsEnd, declared.end_system.EndSystem.EndSystem}

-- how a frame is heard that is within its time, or not
abbrev pub heard_so : Bool → Ripe
heard_so within = if within then Within else Outside

-- it has kept a frame that is heard so
abbrev pub Keeps : EndSystem → Moment → LinkId → Pcf → Units → Bool → EndSystem → Type 0
Keeps old moment link frame point within new =
    (network : Network) (device : DeviceId) (node : Node) → StandsAsEnd old network device node
    → MayCall network device node moment ripening → MayRipen network device node moment link frame point
    → heard_by old.own old.sync frame point ≡ heard_so within
    → StandsAsEnd new network device
    (called moment ripening (with_heard node (channel_of_link network link) frame point within))

-- the frame tells it the time
pub record IsTold (old : EndSystem) (network : Network) (device : DeviceId) (node : Node) (moment : Moment)
    (link : LinkId) (frame : Pcf) (point : Units) : Type 0 where
  pub call : MayCall network device node moment ripening
  pub ripens : MayRipen network device node moment link frame point
  pub integrates : heard_by old.own old.sync frame point ≡ Integrates

-- it may take the time from the frame
abbrev pub MayJoin : EndSystem → Moment → Pcf → Units → Type 0
MayJoin e moment frame point =
    StandsFor StandsAsEnd e
    (λ network device node. (link : LinkId) × IsTold e network device node moment link frame point)

-- it has taken the time from the frame
abbrev pub Joins : EndSystem → Moment → Pcf → Units → EndSystem → Type 0
Joins old moment frame point new =
    (network : Network) (device : DeviceId) (node : Node) (link : LinkId) → StandsAsEnd old network device node
    → IsTold old network device node moment link frame point
    → StandsAsEnd new network device (called moment ripening (with_joined node moment frame point))
