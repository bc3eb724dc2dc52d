-- What is known of a run.
use Rattle.std.specs.Prelude.{◌≡◌, ◌≤◌, ◌^◌, List, length}
use Rattle.{audit_devices.specs.Keeping.{Stands, device_count}, lens_flows.specs.declared.judge.course.Course.Course}
use Rattle.audit_law.specs.events.{Readings.scenario_under, Remembering.Remembers}
use Rattle.{net_plan.specs.{Ranges.IsInRange, declared.event.Event.Event}, run_law.specs.records.Happenings.Happening}
use Rattle.run_law.specs.scenario.Scenarios.{Scenario}

-- the network under the events
abbrev pub scenario_of : Course → List Event → Scenario
scenario_of course befallen = scenario_under course.network.now befallen

-- the run is that of these records under these events
pub record IsCourse (befallen : List Event) (hs : List Happening) (course : Course) : Type 0 where
  pub remembers : Remembers course.network.now befallen course.events.now
  pub stands : Stands (scenario_of course befallen) hs course.standings.now

-- it is that of some records under some events
abbrev pub IsSomeCourse : Course → Type 0
IsSomeCourse course = (befallen : List Event) × (hs : List Happening) × IsCourse befallen hs course

-- the network is in range, each of its devices is known, and the end is at most 2^60
pub record IsFit (course : Course) : Type 0 where
  pub range : IsInRange course.network.now
  pub standing : device_count course.standings.now ≡ length course.network.now.device
  pub timely : course.until ≤ 2 ^ 60
