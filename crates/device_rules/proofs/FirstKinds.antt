-- The kind of the first task is the first kind.
use Rattle.device_rules.specs.FirstKinds.{IsFirstKind, kind_of, order_of_kind}
use Rattle.net_plan.specs.declared.{ids.DeviceId.DeviceId, network.Network.Network}
use Rattle.run_law.specs.machines.Nodes.{Node, correcting, dispatching, sending}
use Rattle.run_law.specs.{machines.Tasks.{IsFirstTask, Task, doing, emitting, order_of}, records.Order.IsBefore}
use Rattle.std.proofs.Common.{◌<◌, ◌∷◌, ◌≡◌, List, inl, inr, refl, ℕ, ℤ}
use Rattle.std.proofs.lemmas.Bool.{cases_lt}

-- the order of a task begins with that of its kind
order_from : (network : Network) (task : Task) → (rest : List ℕ) × (order_of network task ≡ order_of_kind (kind_of task) ∷ rest)
order_from network (emitting sent) = (_, refl)
order_from network (doing (sending cycle)) = (_, refl)
order_from network (doing (correcting cycle)) = (_, refl)
order_from network (doing (dispatching row cycle)) = (_, refl)

-- a task of an earlier kind comes earlier
earlier_kind : (network : Network) (task other : Task) → order_of_kind (kind_of other) < order_of_kind (kind_of task)
    → IsBefore (order_of network other) (order_of network task)
earlier_kind network task other lt =
    let a = order_from network other in
    let b = order_from network task in
    rw a.1 (rw b.1 (inl lt))

pub first_kind_of : {network : Network} {device : DeviceId} {node : Node} {reading : ℤ} {task : Task}
    → IsFirstTask network device node reading task → IsFirstKind network device node reading (kind_of task)
first_kind_of {network} {task} is = record {
  task = task;
  pending = is.pending;
  due = is.due;
  of_kind = refl;
  first = λ other p due. elim (cases_lt (order_of_kind (kind_of other)) (order_of_kind (kind_of task))) [
    | inr ge ↦ ge
    | inl lt ↦ absurd (is.first other p due (earlier_kind network task other lt))
  ];
}
