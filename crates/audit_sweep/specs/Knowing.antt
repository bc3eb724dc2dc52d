-- What is known of a report.
use Rattle.std.specs.Prelude.{◌↔◌, ◌≡◌, ◌≤◌, List, Some, length, ℕ}
use Rattle.{audit_devices.specs.Takings.{HasTaken, taker_count}, net_plan.specs.declared.network.Network.Network}
use Rattle.{audit_law.specs.events.Readings.scenario_under, net_plan.specs.declared.ids.DeviceId.DeviceId}
use Rattle.{audit_law.specs.events.Remembering.Remembers, audit_sweep.specs.declared.known.Known.Known}
use Rattle.audit_sweep.specs.records.{Keeping.records_of, dispatches.Exits.AreExits, wires.Signals.ShowsByCause}
use Rattle.{device_rules.specs.Entering.AreEntrances, run_law.specs.runs.DueRecords.EndsAt}
use Rattle.{net_plan.specs.declared.{event.Event.Event, ids.LinkId.LinkId}, tte_units.specs.declared.units.Units.Units}
use Rattle.run_law.specs.{declared.note.NoteBody.TheVariants.Arrived, records.Happenings.{Happening, numbered}}
use Rattle.tte_units.specs.Amount.{amount}
use Rattle.audit_devices.specs.Keeping as showing
use Rattle.audit_devices.specs.stretches.Standing as stretching

-- each of the records has the frame and the octets that it has by its cause
abbrev pub AllShowByCause : Network → List Happening → Type 0
AllShowByCause network hs = (number : ℕ) (h : Happening) → numbered hs number ≡ Some h → ShowsByCause network h

-- a control frame that arrived has been on its way for no longer than the greatest delay
abbrev pub AllYoung : Network → List Happening → Type 0
AllYoung network hs =
    (number : ℕ) (h : Happening) (device : DeviceId) (link : LinkId) (cause clock : ℕ) → numbered hs number ≡ Some h
    → h.note.body ≡ Arrived device link cause clock → clock ≤ amount network.dmax

-- what the events have set is known, and what these records show, each of which has its frame by its cause
pub record IsKnown (network : Network) (befallen : List Event) (hs : List Happening) (known : Known) : Type 0 where
  pub events : Remembers network befallen known.events
  pub end : (time : Units) → (time ≡ known.end) ↔ EndsAt befallen time
  pub entrances : AreEntrances network known.entrances
  pub exits : AreExits network known.exits
  pub records : known.records ≡ records_of hs
  pub by_cause : AllShowByCause network hs
  pub young : AllYoung network hs
  pub standings : showing.Stands (scenario_under network befallen) hs known.standings
  pub standing : showing.device_count known.standings ≡ length network.device
  pub takings : HasTaken network hs known.takings
  pub takers : taker_count known.takings ≡ length network.device
  pub stretches : stretching.Stands network hs known.stretches
  pub collectors : stretching.device_count known.stretches ≡ length network.device

-- it is known of some events and some records
abbrev pub KnowsSome : Network → Known → Type 0
KnowsSome network known = (befallen : List Event) × (hs : List Happening) × IsKnown network befallen hs known
