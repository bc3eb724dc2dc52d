-- Whether each message has a place behind the rows that are there.
use Rattle.std.specs.{List.All, Prelude.{◌<◌, ◌^◌, ◌≡◌, ◌≤◌, IfSome, List, Some, length, slice_get, ℕ}}
use Rattle.lens_plan.specs.declared.places.fitting.NoPlaces.{NoPlaces, TheVariants.{OutOfMemory, Unfit}}
use Rattle.lens_plan.specs.declared.places.{best.Attempt.Attempt, offsets.Taken.Taken, placing.Trial.Trial}
use Rattle.{lens_plan.specs.{messages.Message.Message, places.Best.IsBest}, net_plan.specs.Places.IsEndSystem}
use Rattle.{lens_plan.specs.places.Placing.IsTrial, net_plan.specs.declared.network.Network.Network}

-- the message is one that may be asked of the network
pub record IsAsked (network : Network) (m : Message) : Type 0 where
  pub length : m.length ≤ 1514
  pub period : 1 ≤ m.period
  pub after : IfSome m.after (λ n. n ≤ 2 ^ 40)
  pub sender : IsEndSystem network m.sender
  pub receivers : All (IsEndSystem network) m.receivers

-- the trial is that of the message behind these rows
pub record IsTrialOf (network : Network) (m : Message) (rows : List Taken) (trial : Trial) : Type 0 where
  pub network_is : trial.network.now ≡ network
  pub message_is : trial.message.now ≡ m
  pub rows_are : trial.rows.now ≡ rows
  pub is : IsTrial trial

-- the best attempt of the message behind these rows
pub record IsBestBehind (network : Network) (rows : List Taken) (m : Message) (a : Attempt) : Type 0 where
  pub trial : Trial
  pub of_message : IsTrialOf network m rows trial
  pub best : IsBest trial a

-- it is the best attempt of the message behind these rows, and none of its rows ends behind its limit
pub record HasPlace (network : Network) (rows : List Taken) (m : Message) (a : Attempt) : Type 0 where
  pub best : IsBestBehind network rows m a
  pub fits : a.score.short ≡ 0

-- each of the first messages has a place behind these rows, by this attempt
pub record HavePlaces (network : Network) (rows : List Taken) (ms : List Message) (count : ℕ) (attempts : List Attempt)
    : Type 0 where
  pub counted : length attempts ≡ count
  pub each : (k : ℕ) (a : Attempt) → slice_get attempts k ≡ Some a
      → (m : Message) × (slice_get ms k ≡ Some m) × HasPlace network rows m a

-- the first message that has no place behind these rows, with its best attempt
pub record IsUnfit (network : Network) (rows : List Taken) (ms : List Message) (turn : ℕ) (a : Attempt) : Type 0 where
  pub attempts : List Attempt
  pub before : HavePlaces network rows ms turn attempts
  pub message : Message
  pub there : slice_get ms turn ≡ Some message
  pub best : IsBestBehind network rows message a
  pub short : 0 < a.score.short

-- why messages have no places behind these rows; memory may run out in any
abbrev pub HaveNoPlaces : Network → List Taken → List Message → NoPlaces → Type 0
HaveNoPlaces network rows ms (Unfit turn a) = IsUnfit network rows ms turn a
HaveNoPlaces network rows ms OutOfMemory = Unit {0}
