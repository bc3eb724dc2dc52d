-- The parts of what a device does by itself: its emissions, its sendings, and what comes behind them.
use Rattle.device_rules.specs.FirstKinds.{IsFirstKind, kind_of}
use Rattle.device_rules.specs.declared.first_kind.TaskKind.{TaskKind, TheVariants.{Emission, Sending}}
use Rattle.drift_world.specs.declared.part.Part.{Part, TheVariants.{Emissions, Late, Sendings}}
use Rattle.drift_world.specs.declared.part.ToDo.{ToDo, TheVariants.{Next, Now}}
use Rattle.net_plan.specs.declared.{ids.DeviceId.DeviceId, network.Network.Network}
use Rattle.run_law.specs.machines.{Nodes.Node, Tasks.{IsPending, Task, reading_for}}
use Rattle.std.specs.Prelude.{◌<◌, ◌∷◌, ◌≡◌, ◌≤ℤ◌, ◌≤◌, List, [], ℕ, ℤ}

-- the part of a thing of this kind
abbrev pub part_of : TaskKind → Part
part_of Emission = Emissions
part_of Sending = Sendings
part_of other = Late

-- the rank at which the part stands
abbrev pub part_rank : Part → ℕ
part_rank Emissions = 4
part_rank Sendings = 5
part_rank Late = 6

-- where it begins
abbrev pub part_place : Part → ℕ → DeviceId → List ℕ
part_place part now device = now ∷ part_rank part ∷ device.0 ∷ []

-- the first of all that is due at the reading is of the part
pub record IsFirstPart (network : Network) (device : DeviceId) (node : Node) (reading : ℤ) (part : Part) : Type 0 where
  pub kind : TaskKind
  pub is : IsFirstKind network device node reading kind
  pub of_part : part_of kind ≡ part

-- nothing that is due at the reading is of an earlier part
abbrev pub IsNoSooner : Network → DeviceId → Node → ℤ → Part → Type 0
IsNoSooner network device node reading part =
    (task : Task) → IsPending network device node task → reading_for network node task ≤ℤ reading
    → part_rank part ≤ part_rank (part_of (kind_of task))

-- what is left to do is of a later part than this
abbrev pub IsLaterThan : Part → ToDo → Type 0
IsLaterThan part (Next due) = Unit {0}
IsLaterThan part (Now other) = part_rank part < part_rank other

-- or of this
abbrev pub IsNoSoonerLeft : Part → ToDo → Type 0
IsNoSoonerLeft part (Next due) = Unit {0}
IsNoSoonerLeft part (Now other) = part_rank part ≤ part_rank other
