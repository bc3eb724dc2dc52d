-- When a record of a run is due, given those before it.
use Rattle.std.specs.{List.Contains, Prelude.{◌+ℤ◌, ◌+◌, ◌≡◌, ◌≤ℤ◌, ◌⊎◌, List, Some, length, pos, slice_get, ℕ}}
use Rattle.{net_plan.specs.{Places.device_at, declared.event.What.What}, tte_units.specs.Amount.{amount, units_of}}
use Rattle.{net_plan.specs.declared.{event.Event.Event, ids.LinkId.LinkId}, tte_units.specs.declared.units.Units.Units}
use Rattle.{net_plan.specs.declared.event.What.TheVariants.End, run_law.specs.control.Corrections.ComesToCorrection}
use Rattle.net_plan.specs.declared.{ids.DeviceId.DeviceId, network.Network.Network, tables.{Device.Device, Way.Way}}
use Rattle.run_law.specs.{control.Emissions.Emits, scenario.Scenarios.Scenario, timed.Receptions.ArrivesAs}
use Rattle.{run_law.specs.control.Leaving.{Departs, leaves}, tte_units.specs.declared.frames.pcf.Pcf.Pcf}
use Rattle.run_law.specs.control.{Losses.{IsDispatchedOn, IsDropped, IsLost}, Permanence.{BecomesPermanent, ripe_as}}
use Rattle.run_law.specs.{declared.note.Note.Note, records.Ranks.place_of, runs.Runs.IsRun, timed.Dispatching.Sends}
use Rattle.run_law.specs.{declared.note.NoteBody.NoteBody, records.Happenings.{Happening, happening, happenings, up_to}}
use Rattle.run_law.specs.device.{StateChanges.ChangesState, States.{adjustment_after, adjustment_before, state_after}}
use Rattle.sync_state.specs.declared.{answers.Verdict.TheVariants.Corrected, state.State.State}
use Rattle.run_law.specs.declared.note.NoteBody.TheVariants as notes
use Rattle.run_law.specs.declared.steps.Arrival.TheVariants as arrivals

-- the record is that of the event of this line
pub record IsEventRecord (events : List Event) (time : Units) (line : ℕ) (what : What) : Type 0 where
  pub event : Event
  pub before : ℕ
  pub line_is : line ≡ before + 1
  pub is : slice_get events before ≡ Some event
  pub at : time ≡ event.time
  pub same : what ≡ event.what

-- the control frame that arrives is taken with this transparent clock: it waits, is passed on, or both
pub record IsArrivedRecord (s : Scenario) (hs : List Happening) (device : DeviceId) (t : ℕ) (link : LinkId)
    (cause clock : ℕ) : Type 0 where
  pub frame : Pcf
  pub point : Units
  pub way : Way
  pub taken : ArrivesAs s hs device t link cause (arrivals.Waits frame point)
      ⊎ (ArrivesAs s hs device t link cause (arrivals.Passes frame way)
      ⊎ ArrivesAs s hs device t link cause (arrivals.PassesAndWaits frame way point))
  pub shows : clock ≡ frame.clock

-- the correction point comes to a correction, which is added to the adjustment
pub record IsCorrectedRecord (s : Scenario) (hs : List Happening) (device : DeviceId) (t : ℕ) (cycle : ℕ)
    (by adjustment : Units) : Type 0 where
  pub corrected : ComesToCorrection s hs device t cycle (Corrected by)
  pub sum : adjustment.0 ≡ ((adjustment_before s hs device t).0 +ℤ by.0)

-- the events end at this time
abbrev pub EndsAt : List Event → Units → Type 0
EndsAt events time = Contains events (record { time = time; what = End })

-- the record is that of the device's clock, at the time of the end: what it reads, and the adjustment and the state
-- that the records up to then leave it with
pub record IsClockRecord (s : Scenario) (hs : List Happening) (device : DeviceId) (time : Units)
    (shown adjustment : Units) (state : State) : Type 0 where
  pub is : Device
  pub there : device_at s.network device ≡ Some is
  pub ends : EndsAt s.events time
  pub reads : shown ≡ units_of (s.reading device (amount time))
  pub adjusted : adjustment ≡ adjustment_after s (up_to (amount time) hs) device
  pub in_state : state ≡ state_after s (up_to (amount time) hs) device

-- what causes a record of this body at the time
abbrev pub IsCaused : Scenario → List Happening → Units → NoteBody → Type 0
IsCaused s hs time (notes.Event line what) = IsEventRecord s.events time line what
IsCaused s hs time (notes.Arrived device link cause clock) = IsArrivedRecord s hs device (amount time) link cause clock
IsCaused s hs time (notes.Permanent device link cause point verdict) =
    BecomesPermanent s hs device (amount time) link cause point (ripe_as verdict)
IsCaused s hs time (notes.Compressed device opened at cycle members verdict) =
    Emits s hs device (amount time) (record { opened = opened; at = at; cycle = cycle; members = members }) verdict
IsCaused s hs time (notes.Sent device cycle) = Sends s hs device (amount time) cycle
IsCaused s hs time (notes.Corrected device cycle by adjustment) =
    IsCorrectedRecord s hs device (amount time) cycle by adjustment
IsCaused s hs time (notes.State device state cause why) = ChangesState s hs device (amount time) state cause why
IsCaused s hs time (notes.Left device link cause clock) = Departs s hs device (amount time) link cause (leaves clock)
IsCaused s hs time (notes.Lost device link cause) = IsLost s hs device (amount time) link cause
IsCaused s hs time (notes.TtSent device link cause vl cycle) =
    IsDispatchedOn s hs device (amount time) link cause vl cycle
IsCaused s hs time (notes.Accepted device link cause vl cycle) =
    ArrivesAs s hs device (amount time) link cause (arrivals.Accepted vl cycle)
IsCaused s hs time (notes.Delivered device link cause vl cycle) =
    ArrivesAs s hs device (amount time) link cause (arrivals.Delivered vl cycle)
IsCaused s hs time (notes.Dropped device link cause reason) = IsDropped s hs device (amount time) link cause reason
IsCaused s hs time (notes.Clock device reading adjustment state) =
    IsClockRecord s hs device time reading adjustment state

-- a record is due given those before it: it has the next number, the frame that it has by its cause, a time from 0
-- on, and a cause
pub record IsDue (s : Scenario) (before : List Happening) (h : Happening) : Type 0 where
  pub number : h.note.number ≡ length before + 1
  pub same : h ≡ happening s.network before h.note
  pub begun : pos 0 ≤ℤ h.note.time.0
  pub cause : IsCaused s before h.note.time h.note.body

-- the records are the run of the scenario up to the mark
abbrev pub IsScenarioRun : Scenario → List ℕ → List Note → Type 0
IsScenarioRun s mark ns = IsRun place_of (IsDue s) mark (happenings s.network ns)

-- the records are the run of the network under the events up to the mark, where the devices' clocks read so
abbrev pub IsRunOf : Network → (DeviceId → ℕ → ℕ) → List Event → List ℕ → List Note → Type 0
IsRunOf network reading events mark ns =
    IsScenarioRun (record { network = network; reading = reading; events = events }) mark ns
