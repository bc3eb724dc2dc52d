-- What a device does at one moment comes in its order, and is not much.
use Rattle.std.specs.{List.Contains, Prelude.{◌+ℤ◌, ◌<ℤ◌, ◌∷◌, ◌≡◌, ◌≤ℤ◌, ◌≤◌, All, List, [], length, pos, true, ℕ, ℤ}}
use Rattle.compression.specs.{Clusters.{AreClusters, Cluster}, Emission.compressed}
use Rattle.compression.specs.declared.compressed.Compressed.{Compressed}
use Rattle.net_plan.specs.{Ranges.IsInRange, declared.{ids.DeviceId.DeviceId, network.Network.Network}}
use Rattle.run_law.specs.{control.Collections.observation_window, declared.steps.{Act.Act, Moment.Moment}}
use Rattle.run_law.specs.{machines.{Answers.IsActOf, Calls.MayCall, Nodes.{Node, acting}}, scenario.Devices.is_cm}
use Rattle.run_law.specs.{machines.Tasks.{IsPending, Task, order_of, reading_for}, records.Order.{IsBefore, IsIn}}
use Rattle.schedule_tables.specs.{Dispatches.dispatch_order, Rules.KeepsRules}
use Rattle.tte_units.specs.Amount.{amount}
use Rattle.run_law.specs.declared.steps.Act.TheVariants as acts

-- the place of an act among those of one moment: that of the task that it does
abbrev pub order_of_act : Network → Act → List ℕ
order_of_act network (acts.Emit sent heard) = 0 ∷ amount sent.opened ∷ []
order_of_act network (acts.Send frame) = 1 ∷ frame.cycle ∷ []
order_of_act network (acts.Correct cycle verdict) = 2 ∷ cycle ∷ []
order_of_act network (acts.Dispatch row cycle) = 3 ∷ dispatch_order network row

-- no point that a compression master has collected lies before reading 0
abbrev pub IsFromZero : Network → DeviceId → Node → Type 0
IsFromZero network device node = is_cm network device ≡ true → All (λ p. pos 0 ≤ℤ p.reading) node.points

-- where a device has acted, each task that is still due at the moment stands behind what it did
abbrev pub ActsGrow : Type 0
ActsGrow =
    (network : Network) (device : DeviceId) (node : Node) (moment : Moment) (act : Act) (new : Node) (task : Task)
    → IsInRange network → KeepsRules network → IsFromZero network device node
    → MayCall network device node moment acting
    → IsActOf network device node moment act new → IsPending network device new task
    → reading_for network new task ≤ℤ moment.reading.0
    → IsBefore (order_of_act network act) (order_of network task)

-- the frame of a cluster of the node's points, whether or not it is emitted, which is due at the reading and has not
-- waited for as long as the precision
pub record IsDueFrame (network : Network) (node : Node) (reading : ℤ) (sent : Compressed) : Type 0 where
  pub clusters : List Cluster
  pub are : AreClusters (observation_window network) node.points clusters
  pub cluster : Cluster
  pub there : Contains clusters cluster
  pub is : sent ≡ compressed (observation_window network) (pos (amount network.calc)) cluster
  pub due : sent.at.0 ≤ℤ reading
  pub in_time : reading <ℤ (sent.at.0 +ℤ network.precision.0)

-- each collection opened after the one before it
abbrev pub AreRising : List Compressed → Type 0
AreRising [] = Unit {0}
AreRising (a ∷ []) = Unit {0}
AreRising (a ∷ b ∷ more) = (a.opened.0 <ℤ b.opened.0) × AreRising (b ∷ more)

-- at most two frames are due at once and have not waited for as long as the precision
abbrev pub FewAreEmitted : Type 0
FewAreEmitted =
    (network : Network) (node : Node) (reading : ℤ) (sent : List Compressed) → IsInRange network
    → ((c : Compressed) → IsIn c sent → IsDueFrame network node reading c) → AreRising sent → length sent ≤ 2

-- the device does these at the moment, one after the other, each the first of what is due
abbrev pub AreActs : Network → DeviceId → Moment → Node → List Act → Node → Type 0
AreActs network device moment node [] new = new ≡ node
AreActs network device moment node (act ∷ acts) new =
    (mid : Node) × IsActOf network device node moment act mid × AreActs network device moment mid acts new

-- they are at most so many: two emissions, a sending, and the dispatches of its rows
abbrev pub ActsAreFew : Type 0
ActsAreFew =
    (network : Network) (device : DeviceId) (moment : Moment) (node : Node) (acts : List Act) (new : Node)
    → IsInRange network → KeepsRules network → IsFromZero network device node
    → MayCall network device node moment acting
    → AreActs network device moment node acts new → length acts ≤ 259
