-- The rows of all messages, or why they have none.
use Rattle.std.specs.{List.All, Prelude.{◌<◌, List, length}}
use Rattle.lens_plan.specs.declared.places.{best.Attempt.Attempt, offsets.Taken.Taken}
use Rattle.lens_plan.specs.declared.places.planning.NoPlan.{NoPlan}
use Rattle.lens_plan.specs.declared.places.planning.NoPlan.TheVariants.{Excess, Impossible, OutOfMemory, Unplaced}
use Rattle.lens_plan.specs.declared.places.{fitting.NoPlaces.NoPlaces, moving.NoOrder.NoOrder}
use Rattle.lens_plan.specs.declared.places.fitting.NoPlaces.TheVariants as places
use Rattle.lens_plan.specs.declared.places.moving.NoOrder.TheVariants as orders
use Rattle.lens_plan.specs.messages.Message.{Message}
use Rattle.lens_plan.specs.places.{Fitting.IsUnfit, Limits.{IsExcess, IsWithinLimits}, Moving.{ArePlanned, IsUnplaced}}
use Rattle.lens_plan.specs.places.{Placing.IsOrdered, There.AreThere}
use Rattle.net_plan.specs.declared.network.Network.{Network}

-- all rows may be, and it holds of the rows that are there
abbrev pub HoldsThere : Network → List Message → (List Taken → Type 0) → Type 0
HoldsThere network ms Holds =
    IsWithinLimits network ms × ((there : List Taken) × AreThere network there × Holds there)

-- the plan of the messages: an attempt each, in the order of the lines
abbrev pub IsPlan : Network → List Message → List Attempt → Type 0
IsPlan network ms attempts = HoldsThere network ms (λ there. ArePlanned network ms there attempts)

-- why there is none; memory may run out in any
abbrev pub IsNoPlan : Network → List Message → NoPlan → Type 0
IsNoPlan network ms (Excess excess) = IsExcess network ms excess
IsNoPlan network ms (Impossible place a) = HoldsThere network ms (λ there. IsUnfit network there ms place a)
IsNoPlan network ms (Unplaced place a) = HoldsThere network ms (λ there. IsUnplaced network ms there place a)
IsNoPlan network ms OutOfMemory = Unit {0}

-- the place that is told is one of a message, and the windows of its rows end in the range of times
abbrev pub IsPlaceOf : List Message → NoPlan → Type 0
IsPlaceOf ms (Excess excess) = Unit {0}
IsPlaceOf ms (Impossible place a) = (place < length ms) × All IsOrdered a.placed.items
IsPlaceOf ms (Unplaced place a) = (place < length ms) × All IsOrdered a.placed.items
IsPlaceOf ms OutOfMemory = Unit {0}

-- what follows where a message has no place behind the rows that are there
abbrev pub no_places : NoPlaces → NoPlan
no_places (places.Unfit place a) = Impossible place a
no_places places.OutOfMemory = OutOfMemory

-- what follows where messages have no places in any order that was tried
abbrev pub no_order : NoOrder → NoPlan
no_order (orders.Unplaced place a) = Unplaced place a
no_order orders.OutOfMemory = OutOfMemory
