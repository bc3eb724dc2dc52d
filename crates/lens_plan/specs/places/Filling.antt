-- Messages placed one after another, each behind the rows that are there and those placed before it.
use Rattle.std.specs.{List.{Sorted.IsPermutation, range_with_len}, Prelude.{None, Option, Some, map, slice_get, take}}
use Rattle.std.specs.Prelude.{◌++◌, ◌<◌, ◌^◌, ◌∷◌, ◌≡◌, ◌≤◌, List, [], ℕ}
use Rattle.lens_plan.specs.declared.places.{best.Attempt.Attempt, filling.Misfit.Misfit, offsets.Taken.Taken}
use Rattle.lens_plan.specs.declared.places.placing.Placed.{Placed}
use Rattle.lens_plan.specs.{messages.Message.Message, places.{Fitting.{HasPlace, IsBestBehind}, Placing.port_on}}
use Rattle.net_plan.specs.declared.network.Network.{Network}

-- the row that the message takes in a phase
abbrev pub taken_of : Network → Message → ℕ → Placed → Taken
taken_of network m phase p = record {
  slot = record {
    link = p.hop.link;
    way = p.hop.way;
    period = m.period;
    phase = phase;
    port = port_on network m.length p.hop.link;
  };
  offset = p.offset;
}

-- the rows that it takes
abbrev pub rows_of : Network → Message → Attempt → List Taken
rows_of network m a = map (taken_of network m a.phase) a.placed.items

-- the offset is one of a file
abbrev pub IsEarly : Placed → Type 0
IsEarly p = p.offset ≤ 2 ^ 40

-- an order of so many messages: their places, each once
abbrev pub IsOrder : ℕ → List ℕ → Type 0
IsOrder count order = IsPermutation (range_with_len 0 count) order

-- the messages of these places have places, one after another, by these attempts, each behind the rows that are there
-- and those of the ones before it; and in the end these rows are taken
abbrev pub ArePlaced : Network → List Message → List Attempt → List Taken → List ℕ → List Taken → Type 0
ArePlaced network ms attempts rows [] taken = taken ≡ rows
ArePlaced network ms attempts rows (place ∷ order) taken =
    (m : Message) × (a : Attempt) × (slice_get ms place ≡ Some m) × (slice_get attempts place ≡ Some a)
    × HasPlace network rows m a × ArePlaced network ms attempts (rows ++ rows_of network m a) order taken

-- the message of this turn is the first of the order that has no place so: this is its best attempt
pub record IsMisfit (network : Network) (ms : List Message) (rows : List Taken) (order : List ℕ) (misfit : Misfit)
    : Type 0 where
  pub attempts : List Attempt
  pub taken : List Taken
  pub before : ArePlaced network ms attempts rows (take misfit.turn order) taken
  pub place : ℕ
  pub here : slice_get order misfit.turn ≡ Some place
  pub message : Message
  pub there : slice_get ms place ≡ Some message
  pub best : IsBestBehind network taken message misfit.attempt
  pub short : 0 < misfit.attempt.score.short

-- all messages of the order have places by these attempts, or this is the first that has none
abbrev pub IsFilling : Network → List Message → List Taken → List ℕ → List Attempt → Option Misfit → Type 0
IsFilling network ms rows order attempts None = (taken : List Taken) × ArePlaced network ms attempts rows order taken
IsFilling network ms rows order attempts (Some misfit) = IsMisfit network ms rows order misfit
