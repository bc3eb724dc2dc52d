-- What an act leaves of a device's tasks.
use Rattle.std.specs.Prelude.{◌<ℤ◌, ◌≡◌, ◌⊎◌}
use Rattle.net_plan.specs.declared.{ids.DeviceId.DeviceId, network.Network.Network}
use Rattle.run_law.specs.{declared.steps.Moment.Moment, machines.{Nodes.Node, Tasks.{IsPending, Task, reading_for}}}

-- the device had the task before too, at the same reading; or it is one for a later reading
abbrev pub IsCarried : Network → DeviceId → Node → Node → Moment → Task → Type 0
IsCarried network device node new moment task =
    (IsPending network device node task × (reading_for network new task ≡ reading_for network node task))
    ⊎ (moment.reading.0 <ℤ reading_for network new task)
