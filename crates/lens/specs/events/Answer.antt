-- What `events` answers for the octets of a network file.
use Rattle.std.specs.Prelude.{◌≡◌, List, map, ℕ}
use Rattle.{fault_hypothesis.specs.storm.Events.IsStorm, net_plan.specs.declared.event.Event.Event}
use Rattle.{net_plan.specs.declared.network.Network.Network, tte_forms.specs.declared.status.Status.TheVariants.Done}
use Rattle.{trace_text.specs.EventLine.event_line, tte_forms.specs.Answering.Answer}

-- the lines of events, each with its LF
abbrev pub event_lines : Network → List Event → List (List ℕ)
event_lines network events = map (event_line network) events

-- the lines of the events of the storm of the seed over so many cycles, on an accepted network
pub record IsEventsAnswer (seed cycles : ℕ) (network : Network) (a : Answer) : Type 0 where
  pub events : List Event
  pub storm : IsStorm network seed cycles events
  pub answer : a ≡ record { status = Done; lines = event_lines network events }
