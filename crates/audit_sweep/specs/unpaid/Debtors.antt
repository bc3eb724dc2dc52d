-- What is known of the records that owe.
use Rattle.std.specs.Prelude.{◌≡◌, List, Option, Some, length}
use Rattle.{audit_devices.specs.Keeping.{Stands, device_count}, net_plan.specs.declared.event.What.TheVariants.On}
use Rattle.{audit_law.specs.events.Readings.scenario_under, audit_sweep.specs.unpaid.Payments.ArePayments}
use Rattle.{audit_law.specs.events.Remembering.Remembers, audit_sweep.specs.records.Keeping.records_of}
use Rattle.{audit_law.specs.law.DueRecords.IsDue, run_law.specs.{records.Ranks.place_of, scenario.Scenarios.Scenario}}
use Rattle.audit_sweep.specs.{declared.unpaid.debtor.Debtor.Debtor, records.places.Placing.ArePlacesOf}
use Rattle.{net_plan.specs.Belonging.HasDevice, run_law.specs.{records.Order.IsIn, runs.Runs.IsFounded}}
use Rattle.{net_plan.specs.declared.event.Event.Event, run_law.specs.records.{Causes.device_of, Happenings.Happening}}
use Rattle.{net_plan.specs.declared.ids.DeviceId.DeviceId, run_law.specs.declared.note.NoteBody.NoteBody}
use Rattle.run_law.specs.declared.note.NoteBody.TheVariants as notes

-- the device that a record names: that of which it is, or that which its event turns on
abbrev pub device_named : NoteBody → Option DeviceId
device_named (notes.Event line (On device)) = Some device
device_named body = device_of body

-- the network under the events
abbrev pub scenario_of : Debtor → List Event → Scenario
scenario_of debtor befallen = scenario_under debtor.network.now befallen

-- these records, each due given those before it under these events, are those of which this is known
pub record AreKnown (befallen : List Event) (hs : List Happening) (debtor : Debtor) : Type 0 where
  pub remembers : Remembers debtor.network.now befallen debtor.history.now
  pub founded : IsFounded place_of (IsDue (scenario_of debtor befallen)) hs
  pub kept : debtor.records.now ≡ records_of hs
  pub paid : ArePayments hs debtor.payments.now
  pub stands : Stands (scenario_of debtor befallen) hs debtor.standings.now
  pub standing : device_count debtor.standings.now ≡ length debtor.network.now.device
  pub places : ArePlacesOf hs debtor.places.now
  pub devices : (h : Happening) (device : DeviceId) → IsIn h hs → device_named h.note.body ≡ Some device
      → HasDevice debtor.network.now device
