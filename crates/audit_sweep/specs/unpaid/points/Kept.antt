-- What is kept of a report.
use Rattle.std.specs.Prelude.{List, ℕ}
use Rattle.audit_devices.specs.Keeping.{Stands}
use Rattle.{audit_devices.specs.declared.standings.Standings.Standings, net_plan.specs.declared.network.Network.Network}
use Rattle.audit_law.specs.{declared.events.history.EventHistory.EventHistory, events.Readings.scenario_under}
use Rattle.audit_law.specs.events.Remembering.{Remembers}
use Rattle.{audit_sweep.specs.records.places.Placing.ArePlacesOf, run_law.specs.records.Happenings.Happening}
use Rattle.net_plan.specs.declared.event.Event.{Event}

-- these events befell the network and these are the records: so the histories and the places are of them
pub record IsKept (network : Network) (befallen : List Event) (hs : List Happening) (events : EventHistory)
    (standings : Standings) (places : List (List ℕ)) : Type 0 where
  pub remembers : Remembers network befallen events
  pub stands : Stands (scenario_under network befallen) hs standings
  pub places_are : ArePlacesOf hs places

-- they are of some events and records
abbrev pub IsSomeKept : Network → EventHistory → Standings → List (List ℕ) → Type 0
IsSomeKept network events standings places =
    (befallen : List Event) × (hs : List Happening) × IsKept network befallen hs events standings places

-- the history is of some events of the network
abbrev pub RemembersSomeOf : Network → EventHistory → Type 0
RemembersSomeOf network history = (befallen : List Event) × Remembers network befallen history
