-- What is kept of a report.
use Rattle.std.specs.Prelude.{◌≡◌, List, true, ℕ}
use Rattle.audit_law.specs.{declared.events.history.EventHistory.EventHistory, events.Remembering.Remembers}
use Rattle.audit_sweep.specs.records.places.Placing.{ArePlacesOf}
use Rattle.audit_devices.specs.{stretches.Standing.Stands, declared.stretches.history.StretchHistory.StretchHistory}
use Rattle.net_plan.specs.declared.{event.Event.Event, ids.DeviceId.DeviceId, network.Network.Network}
use Rattle.run_law.specs.{records.Happenings.Happening, scenario.Devices.is_cm}

-- these events befell the network and these are the records: so the histories and the places are of them
pub record IsKept (network : Network) (befallen : List Event) (hs : List Happening) (events : EventHistory)
    (stretches : StretchHistory) (places : List (List ℕ)) : Type 0 where
  pub remembers : Remembers network befallen events
  pub stands : Stands network hs stretches
  pub places_are : ArePlacesOf hs places

-- they are of some events and records
abbrev pub IsSomeKept : Network → EventHistory → StretchHistory → List (List ℕ) → Type 0
IsSomeKept network events stretches places =
    (befallen : List Event) × (hs : List Happening) × IsKept network befallen hs events stretches places

-- the stretches are of some records of a network of which the device is a compression master
abbrev pub IsKeptOfMaster : DeviceId → StretchHistory → Type 0
IsKeptOfMaster device stretches =
    (network : Network) × (hs : List Happening) × Stands network hs stretches × (is_cm network device ≡ true)
