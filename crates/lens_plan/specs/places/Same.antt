-- Attempts that are the same, and that a plan is one.
use Rattle.std.specs.{List.AllZip, Prelude.{◌≡◌, List}}
use Rattle.lens_plan.specs.declared.places.{best.Attempt.Attempt, offsets.Taken.Taken, planning.NoPlan.NoPlan}
use Rattle.lens_plan.specs.declared.places.planning.NoPlan.TheVariants.{Excess, Impossible, OutOfMemory, Unplaced}
use Rattle.lens_plan.specs.{messages.Message.Message, places.{Fitting.IsBestBehind, Planning.{IsNoPlan, IsPlan}}}
use Rattle.net_plan.specs.{Paths.IsTree, declared.network.Network.Network}

-- the attempts have the same phase, rows and score
pub record IsSameAttempt (a b : Attempt) : Type 0 where
  pub phase : a.phase ≡ b.phase
  pub rows : a.placed.items ≡ b.placed.items
  pub score : a.score ≡ b.score

-- the best attempt of a message behind rows is one
abbrev pub BestIsOne : Type 0
BestIsOne =
    (network : Network) (rows : List Taken) (m : Message) (a b : Attempt) → IsTree network
    → IsBestBehind network rows m a → IsBestBehind network rows m b → IsSameAttempt a b

-- a plan is one
abbrev pub PlanIsOne : Type 0
PlanIsOne =
    (network : Network) (ms : List Message) (one other : List Attempt) → IsTree network → IsPlan network ms one
    → IsPlan network ms other → AllZip IsSameAttempt one other

-- the same is told of why there is no plan; memory may run out in any
abbrev pub IsSameNoPlan : NoPlan → NoPlan → Type 0
IsSameNoPlan OutOfMemory other = Unit {0}
IsSameNoPlan one OutOfMemory = Unit {0}
IsSameNoPlan (Excess one) (Excess other) = one ≡ other
IsSameNoPlan (Impossible place a) (Impossible other b) = (place ≡ other) × IsSameAttempt a b
IsSameNoPlan (Unplaced place a) (Unplaced other b) = (place ≡ other) × IsSameAttempt a b
IsSameNoPlan one other = ⊥

-- why there is no plan is one
abbrev pub NoPlanIsOne : Type 0
NoPlanIsOne =
    (network : Network) (ms : List Message) (one other : NoPlan) → IsTree network → IsNoPlan network ms one
    → IsNoPlan network ms other → IsSameNoPlan one other

-- where there is a plan, only memory can keep it away
abbrev pub PlanOrNone : Type 0
PlanOrNone =
    (network : Network) (ms : List Message) (attempts : List Attempt) (why : NoPlan) → IsTree network
    → IsPlan network ms attempts → IsNoPlan network ms why → why ≡ OutOfMemory
