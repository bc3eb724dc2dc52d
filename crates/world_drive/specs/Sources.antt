-- Where the events of a run come from.
use Rattle.std.specs.Prelude.{◌++◌, ◌+◌, ◌<◌, ◌^◌, ◌∷◌, ◌≤ℤ◌, Bool, Err, List, None, Ok, Option, Result, Some, []}
use Rattle.std.specs.Prelude.{false, length, pos, true, ℕ}
use Rattle.{drift_world.specs.Running.HoldsATime, net_plan.specs.Belonging.IsOfNetwork}
use Rattle.{net_plan.specs.declared.event.Event.Event, world_drive.specs.exact.Records.HaveEnded}
use Rattle.{net_plan.specs.declared.network.Network.Network, run_law.specs.scenario.Hypothesis.IsWithinHypothesis}

-- the event may befall the network after these, of which none is the end
pub record MayGive (network : Network) (events : List Event) (event : Event) : Type 0 where
  pub unended : HaveEnded events → ⊥
  pub number : length events + 1 < 2 ^ 64
  pub of_network : IsOfNetwork network event.what
  pub begun : pos 0 ≤ℤ event.time.0
  pub limit : event.time.0 ≤ℤ pos (2 ^ 60)
  pub hold : HoldsATime event.what
  pub within : IsWithinHypothesis network events event

abbrev pub Gave : Type 0 → Type 0 → Type 1
Gave B E = Network → B → E → List Event → B → E → Type 0

abbrev pub Stopped : Type 0 → Type 0 → Type 0 → Type 0 → Type 1
Stopped B S K E = Network → B → E → List Event → S → B → E → K → K → Type 0

-- what a call gives that answers whether there is an event, which is then put in the place of another
abbrev pub given_in : {S : Type 0} → Result Bool S → Event → Result (Option Event) S
given_in (Ok true) event = Ok (Some event)
given_in (Ok false) event = Ok None
given_in (Err stop) event = Err stop

-- the source gives one more event; or the end was given; or it stops
abbrev pub GivesNext : {B S K E : Type 0} → Gave B E → Gave B E → Stopped B S K E → (E → ℕ) → Network → B → E
    → List Event
    → Result (Option Event) S → B → E → E → K → K → Type 0
GivesNext gave ended stopped left network first origin events (Ok (Some event)) from old new before after =
    MayGive network events event × (left new < left old) × gave network first origin (events ++ event ∷ []) from new
GivesNext gave ended stopped left network first origin events (Ok None) from old new before after =
    HaveEnded events × ended network first origin events from new
GivesNext gave ended stopped left network first origin events (Err stop) from old new before after =
    stopped network first origin events stop from new before after
