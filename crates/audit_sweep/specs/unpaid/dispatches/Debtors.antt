-- What is known of the records that owe those of dispatches.
use Rattle.std.specs.Prelude.{◌^◌, ◌≡◌, ◌≤◌, List, length}
use Rattle.{audit_devices.specs.Keeping.{Stands, device_count}, audit_law.specs.events.Readings.scenario_under}
use Rattle.{audit_devices.specs.Takings.{HasTaken, taker_count}, audit_sweep.specs.records.dispatches.Exits.AreExits}
use Rattle.{audit_law.specs.events.Remembering.Remembers, run_law.specs.records.Happenings.Happening}
use Rattle.audit_sweep.specs.{declared.unpaid.dispatches.debtor.RowDebtor.RowDebtor, records.places.Placing.ArePlacesOf}
use Rattle.{net_plan.specs.{Ranges.IsInRange, declared.event.Event.Event}, run_law.specs.scenario.Scenarios.Scenario}

-- the network under the events
abbrev pub scenario_of : RowDebtor → List Event → Scenario
scenario_of debtor befallen = scenario_under debtor.network.now befallen

-- these records are those of which this is known, under these events
pub record AreKnown (befallen : List Event) (hs : List Happening) (debtor : RowDebtor) : Type 0 where
  pub remembers : Remembers debtor.network.now befallen debtor.events.now
  pub stands : Stands (scenario_of debtor befallen) hs debtor.standings.now
  pub taken : HasTaken debtor.network.now hs debtor.takings.now
  pub places : ArePlacesOf hs debtor.places.now

-- some records are, under some events
abbrev pub AreSomeKnown : RowDebtor → Type 0
AreSomeKnown debtor = (befallen : List Event) × (hs : List Happening) × AreKnown befallen hs debtor

-- the network is in range, what is kept is of its rows and of each of its devices, and the time is at most 2^60
pub record IsFit (debtor : RowDebtor) : Type 0 where
  pub range : IsInRange debtor.network.now
  pub exits : AreExits debtor.network.now debtor.exits.now
  pub standing : device_count debtor.standings.now ≡ length debtor.network.now.device
  pub taking : taker_count debtor.takings.now ≡ length debtor.network.now.device
  pub timely : debtor.until ≤ 2 ^ 60
