-- All rows of a message in a phase.
use Rattle.std.specs.{List.All, Option.unwrap_or, Prelude.{◌++◌, ◌^◌, ◌∷◌, ◌≡◌, ◌≤◌, IfSome, List, [], max, ℕ}}
use Rattle.lens_plan.specs.declared.places.{placing.{Placed.Placed, Trial.Trial}, ways.Hop.Hop}
use Rattle.lens_plan.specs.places.{Placing.IsPlacedWay, Ways.IsWay}
use Rattle.net_plan.specs.{Places.IsEndSystem, declared.ids.DeviceId.DeviceId}
use Rattle.tte_units.specs.{Amount.amount, declared.frames.channel.Channel.{Channel, TheVariants.{A, B}}}

-- where a row that leaves the sender may begin
abbrev pub start_of : Trial → ℕ
start_of trial = max (amount trial.network.now.tt_start) (unwrap_or trial.message.now.after 0)

-- the sender and the receivers are end systems, and what is asked for lies in the range of places
pub record HasEnds (trial : Trial) : Type 0 where
  pub sender : IsEndSystem trial.network.now trial.message.now.sender
  pub receivers : All (IsEndSystem trial.network.now) trial.message.now.receivers
  pub after : IfSome trial.message.now.after (λ n. n ≤ 2 ^ 40)

-- the rows of the way to the receiver by the channel
pub record IsPlacedTo (trial : Trial) (channel : Channel) (receiver : DeviceId) (ps : List Placed) : Type 0 where
  pub hops : List Hop
  pub way : IsWay trial.network.now trial.message.now.sender receiver channel hops
  pub rows : IsPlacedWay trial (start_of trial) hops ps

-- the rows of the ways to these receivers, by channel a and channel b each
abbrev pub AreTried : Trial → List DeviceId → List Placed → Type 0
AreTried trial [] ps = ps ≡ []
AreTried trial (receiver ∷ receivers) ps =
    (a b others : List Placed) × IsPlacedTo trial A receiver a × IsPlacedTo trial B receiver b
    × AreTried trial receivers others × (ps ≡ a ++ (b ++ others))
