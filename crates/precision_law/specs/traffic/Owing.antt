-- Frames that are owed by events alone: nothing is asked of the states of their sender and their receiver.
use Rattle.std.specs.Prelude.{◌*◌, ◌+◌, ◌<◌, ◌≡◌, ◌≤◌, List, Some, false, slice_get, ℕ}
use Rattle.net_plan.specs.{Bounds.IsGreatest, Places.IsEndSystem, declared.ids.{DeviceId.DeviceId, VlId.VlId}}
use Rattle.net_plan.specs.declared.tables.VirtualLink.{VirtualLink}
use Rattle.precision_law.specs.{Precision.IsRunUpTo, traffic.Ports.IsRunTo}
use Rattle.run_law.specs.{declared.note.Note.Note, device.States.{is_off, state_after}}
use Rattle.run_law.specs.scenario.Scenarios.{Scenario, is_broken}
use Rattle.run_law.specs.law.Safety.{IsDelivered, IsOwed, IsRowInto, IsWindowEnd, ReachesPlace}
use Rattle.run_law.specs.records.Happenings.{Happening, happenings, up_to}
use Rattle.schedule_tables.specs.{Windows.OccursIn, declared.entry.Entry.Entry}
use Rattle.tte_units.specs.Amount.{amount}

-- the frame of the virtual link in the cycle is due at the device: the virtual link occurs in it and enters the device,
-- which is an end system; the sender and the device are on three cycles before the device's clock reaches the cycle's
-- beginning, and are not broken when it reaches the end of the last window
pub record IsDueAt (s : Scenario) (hs : List Happening) (until : ℕ) (vl : VlId) (of_vl : VirtualLink) (cycle : ℕ)
    (device : DeviceId) : Type 0 where
  pub there : slice_get s.network.vl vl.0 ≡ Some of_vl
  pub occurs : OccursIn of_vl cycle
  pub end_system : IsEndSystem s.network device
  pub into : Entry
  pub enters : IsRowInto s.network vl device into
  pub last : ℕ
  pub greatest : IsGreatest (IsWindowEnd s.network vl device) last
  pub from : ℕ
  pub to : ℕ
  pub begins : ReachesPlace s hs device cycle 0 from
  pub ends : ReachesPlace s hs device cycle last to
  pub in_order : from < to
  pub in_run : to ≤ until
  pub on_at : ℕ
  pub long : on_at + 3 * amount s.network.cycle ≤ from
  pub sender_on : is_off (state_after s (up_to on_at hs) of_vl.sender) ≡ false
  pub device_on : is_off (state_after s (up_to on_at hs) device) ≡ false
  pub sender : is_broken s of_vl.sender to ≡ false
  pub receiver : is_broken s device to ≡ false

-- each frame that is due is owed
abbrev pub DueFramesAreOwed : Type 0
DueFramesAreOwed =
    (s : Scenario) (mark : List ℕ) (ns : List Note) (until : ℕ) → IsRunUpTo s mark ns until
    → (vl : VlId) (of_vl : VirtualLink) (cycle : ℕ) (device : DeviceId)
    → IsDueAt s (happenings s.network ns) until vl of_vl cycle device
    → IsOwed s (happenings s.network ns) until vl of_vl cycle device

-- and so it is delivered
abbrev pub DueFramesCome : Type 0
DueFramesCome =
    (s : Scenario) (mark : List ℕ) (ns : List Note) (until : ℕ) → IsRunTo s mark ns until
    → (vl : VlId) (of_vl : VirtualLink) (cycle : ℕ) (device : DeviceId)
    → IsDueAt s (happenings s.network ns) until vl of_vl cycle device
    → IsDelivered s (happenings s.network ns) vl of_vl cycle device
