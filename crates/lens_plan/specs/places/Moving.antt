-- Placing messages in one order after another: a message that has no place goes to the front.
use Rattle.std.specs.Prelude.{◌≡◌, ◌≤◌, List, length, suc, zero, ℕ}
use Rattle.lens_plan.specs.declared.places.{best.Attempt.Attempt, filling.Misfit.Misfit, offsets.Taken.Taken}
use Rattle.lens_plan.specs.declared.places.moving.NoOrder.{NoOrder, TheVariants.{OutOfMemory, Unplaced}}
use Rattle.lens_plan.specs.messages.Message.{Message}
use Rattle.lens_plan.specs.places.{Filling.{ArePlaced, IsMisfit}, Fitting.HavePlaces, Ordering.{IsByRoom, with_first}}
use Rattle.net_plan.specs.declared.network.Network.{Network}

-- the order after so many moves: with each, the first message that has no place goes to the front
abbrev pub IsMoved : Network → List Message → List Taken → List ℕ → ℕ → List ℕ → Type 0
IsMoved network ms there first zero order = order ≡ first
IsMoved network ms there first (suc moves) order =
    (earlier : List ℕ) × (misfit : Misfit) × IsMoved network ms there first moves earlier
    × ((unfit : IsMisfit network ms there earlier misfit) × (order ≡ with_first misfit.turn unfit.place earlier))

-- the order after so many moves, where at first it is that by the room that each message has behind the rows that are
-- there
pub record IsReached (network : Network) (ms : List Message) (there : List Taken) (moves : ℕ) (order : List ℕ)
    : Type 0 where
  pub attempts : List Attempt
  pub have : HavePlaces network there ms (length ms) attempts
  pub first : List ℕ
  pub by_room : IsByRoom attempts first
  pub moved : IsMoved network ms there first moves order

-- the messages have places by these attempts, in the order of the lines: they were placed in an order that at most 512
-- moves reach
pub record ArePlanned (network : Network) (ms : List Message) (there : List Taken) (attempts : List Attempt)
    : Type 0 where
  pub counted : length attempts ≡ length ms
  pub moves : ℕ
  pub few : moves ≤ 512
  pub order : List ℕ
  pub reached : IsReached network ms there moves order
  pub taken : List Taken
  pub placed : ArePlaced network ms attempts there order taken

-- after 512 moves the message of this place is the first that has no place, and this is its best attempt
pub record IsUnplaced (network : Network) (ms : List Message) (there : List Taken) (place : ℕ) (a : Attempt)
    : Type 0 where
  pub order : List ℕ
  pub reached : IsReached network ms there 512 order
  pub misfit : Misfit
  pub unfit : IsMisfit network ms there order misfit
  pub place_is : place ≡ unfit.place
  pub attempt_is : a ≡ misfit.attempt

-- why messages have no places in any order that was tried; memory may run out in any
abbrev pub IsNoOrder : Network → List Message → List Taken → NoOrder → Type 0
IsNoOrder network ms there (Unplaced place a) = IsUnplaced network ms there place a
IsNoOrder network ms there OutOfMemory = Unit {0}
