-- What a device dispatches at a time, judged by what is known of the records before.
use Rattle.std.specs.Prelude.{◌<◌, ◌≡◌, List, Option, option_map, true, ℕ}
use Rattle.{audit_devices.specs.Showing.{Shown, Shows}, run_law.specs.scenario.Scenarios.Scenario}
use Rattle.audit_devices.specs.{Takings.{HasTaken, taker_count}, declared.takings.Takings.Takings}
use Rattle.audit_law.specs.{declared.events.history.EventHistory.EventHistory, events.Readings.scenario_under}
use Rattle.{audit_law.specs.events.Remembering.Remembers, run_law.specs.timed.Dispatching.Dispatches}
use Rattle.audit_sweep.specs.{declared.records.{dispatches.judging.At.At, kept.Kept.Kept}, records.Keeping.kept_of}
use Rattle.net_plan.specs.{Belonging.HasDevice, declared.ids.VlId.VlId}
use Rattle.net_plan.specs.declared.{event.Event.Event, ids.{DeviceId.DeviceId, LinkId.LinkId}, network.Network.Network}
use Rattle.run_law.specs.{records.Happenings.{Happening, earlier, numbered}, scenario.Ways.{is_cut, way_from}}

-- the events and the records are these, and this is what is known of them and shown of the device before the time
pub record IsKnown (network : Network) (befallen : List Event) (hs : List Happening) (events : EventHistory)
    (takings : Takings) (shown : Shown) (at : At) : Type 0 where
  pub remembered : Remembers network befallen events
  pub taken : HasTaken network hs takings
  pub device : HasDevice network at.device
  pub shows : Shows (scenario_under network befallen) (earlier at.time hs) at.device shown

-- the device is one of those whose takings are kept
abbrev pub IsTaker : Takings → At → Type 0
IsTaker takings at = at.device.0 < taker_count takings

-- this is what is kept of the record of the number, if there is one
abbrev pub IsKeptOf : List Happening → ℕ → Option Kept → Type 0
IsKeptOf hs number kept = kept ≡ option_map (λ h. kept_of h.note.body) (numbered hs number)

-- the device dispatches a frame on the link, by the record of the number `cause`
abbrev pub DispatchesSome : Scenario → List Happening → DeviceId → ℕ → LinkId → ℕ → Type 0
DispatchesSome s hs device t link cause = (vl : VlId) × (cycle : ℕ) × Dispatches s hs device t link cause vl cycle

-- it does, on a way that is cut
abbrev pub LosesDispatch : Scenario → List Happening → DeviceId → ℕ → LinkId → ℕ → Type 0
LosesDispatch s hs device t link cause =
    (vl : VlId) × (cycle : ℕ) × Dispatches s hs device t link cause vl cycle
    × (is_cut s link (way_from s.network device link) t ≡ true)
