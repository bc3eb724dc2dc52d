-- What is kept of a report that was swept.
use Rattle.std.specs.Prelude.{◌↔◌, ◌∷◌, ◌≡◌, List, [], length, ℕ, ℤ}
use Rattle.audit_devices.specs.Keeping.{Stands, device_count, records_before}
use Rattle.{audit_sweep.specs.declared.index.Permanence.Permanence, net_plan.specs.declared.network.Network.Network}
use Rattle.{audit_sweep.specs.declared.index.Index.Index, net_plan.specs.declared.event.Event.Event}
use Rattle.audit_law.specs.events.{Readings.scenario_under, Remembering.Remembers}
use Rattle.{audit_sweep.specs.records.Keeping.records_of, run_law.specs.records.Happenings.Happening}
use Rattle.{net_plan.specs.declared.ids.DeviceId.DeviceId, run_law.specs.scenario.Scenarios.Scenario}
use Rattle.run_law.specs.declared.{judgement.Judgement.TheVariants.Ignored, note.NoteBody.TheVariants.Permanent}
use Rattle.run_law.specs.{device.Standpoints.{clock_of, standpoint}, records.Ranks.place_at}
use Rattle.{run_law.specs.runs.DueRecords.EndsAt, tte_units.specs.declared.units.Units.Units}

-- under these events of the network, this is what the records show
pub record IsIndex (network : Network) (befallen : List Event) (hs : List Happening) (index : Index) : Type 0 where
  pub events : Remembers network befallen index.events
  pub end : (time : Units) → (time ≡ index.end) ↔ EndsAt befallen time
  pub records : index.records ≡ records_of hs
  pub standings : Stands (scenario_under network befallen) hs index.standings
  pub devices : device_count index.standings ≡ length network.device

-- it is what some records show
abbrev pub IsSomeIndex : Network → Index → Type 0
IsSomeIndex network index = (befallen : List Event) × (hs : List Happening) × IsIndex network befallen hs index

-- what the local clock of a device shows when something comes to it at the time: after the records of earlier times
abbrev pub clock_at : Scenario → List Happening → DeviceId → ℕ → ℤ
clock_at s hs device t = clock_of (standpoint s hs device t)

-- where the permanence of a frame of these members stands in the order of the records, whatever the judgement
abbrev pub permanence_place : ℕ → ℕ → Permanence → List ℕ
permanence_place time members frame =
    place_at time members (Permanent frame.device frame.link frame.cause frame.point Ignored)

-- the records before the corrections of the time, which are of rank 6
abbrev pub before_corrections : ℕ → List Happening → List Happening
before_corrections t hs = records_before (t ∷ 6 ∷ []) hs
