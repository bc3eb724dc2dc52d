-- How a watch stands to the events that it admitted.
use Rattle.std.specs.{List.All, Prelude.{◌++◌, ◌↔◌, ◌∷◌, ◌≡◌, List, None, Option, Some, [], slice_get, true}}
use Rattle.{fault_hypothesis.specs.declared.watch.Watch.Watch, tte_units.specs.declared.frames.channel.Channel.Channel}
use Rattle.net_plan.specs.{Belonging.{HasDevice, IsOfNetwork}, declared.{event.Event.Event, network.Network.Network}}
use Rattle.{net_plan.specs.declared.ids.DeviceId.DeviceId, tte_units.specs.declared.units.Units.Units}
use Rattle.run_law.specs.scenario.{Faults.{IsBroken, IsFaulty, IsTurnedOn}, Hypothesis.AreWithinHypothesis}

-- the last of the events has this time, or there is none
abbrev pub IsLastTime : List Event → Option Units → Type 0
IsLastTime events None = events ≡ []
IsLastTime events (Some time) =
    (front : List Event) × (last : Event) × (events ≡ front ++ last ∷ []) × (last.time ≡ time)

-- the devices and the links of the events are the network's
abbrev pub AreOfNetwork : Network → List Event → Type 0
AreOfNetwork network events = All (λ e. IsOfNetwork network e.what) events

-- the watch is over this network and admitted these events, which are the network's and within the
-- hypothesis: it has the time of the last, the broken device, the faulty channel and the devices turned on
pub record Watches (network : Network) (watch : Watch) (admitted : List Event) : Type 0 where
  pub over : watch.accepted.now ≡ network
  pub of_network : AreOfNetwork network admitted
  pub within : AreWithinHypothesis network admitted
  pub last : IsLastTime admitted watch.last
  pub broken : (device : DeviceId) → (watch.broken ≡ Some device) ↔ IsBroken admitted device
  pub faulty : (channel : Channel) → (watch.faulty ≡ Some channel) ↔ IsFaulty network admitted channel
  pub turned_on : (device : DeviceId) → HasDevice network device
      → (slice_get watch.turned_on device.0 ≡ Some true) ↔ IsTurnedOn admitted device
