-- What it is for a run to be safe up to a time.
use Rattle.std.specs.{Option.option_map_or, Prelude.{ℕ, ℤ}}
use Rattle.std.specs.Prelude.{◌*◌, ◌+ℤ◌, ◌+◌, ◌<◌, ◌≡◌, ◌≢◌, ◌≤ℤ◌, ◌≤◌, ◌⊎◌, List, Some, false, length, pos, slice_get}
use Rattle.net_plan.specs.{Bounds.IsGreatest, Places.{IsEndSystem, link_at}, declared.ids.{LinkId.LinkId, VlId.VlId}}
use Rattle.net_plan.specs.declared.{ids.DeviceId.DeviceId, network.Network.Network, tables.VirtualLink.VirtualLink}
use Rattle.schedule_tables.specs.{Entries.{IsEntry, source_of, target_of}, Windows.{OccursIn, window_end, window_of}}
use Rattle.schedule_tables.specs.declared.entry.Entry.{Entry}
use Rattle.sync_state.specs.declared.state.State.TheVariants.{Synchronised}
use Rattle.tte_units.specs.{Amount.amount, OctetTime.octet_time}
use Rattle.run_law.specs.{declared.note.NoteBody.NoteBody, device.LocalClocks.{Reaches, local, local_before}}
use Rattle.run_law.specs.device.{Standpoints.offset_in_cycle, States.{state_after, state_before}}
use Rattle.run_law.specs.records.{Causes.GoesBackTo, Frames.tt_frame_by, Happenings.{Happening, time_of, up_to}}
use Rattle.run_law.specs.{records.Order.IsIn, scenario.Scenarios.{Scenario, is_broken}}
use Rattle.run_law.specs.declared.note.NoteBody.TheVariants as notes

-- ---- precision

-- two local values differ by at most the precision
pub record AreClose (network : Network) (x y : ℤ) : Type 0 where
  pub one : x ≤ℤ (y +ℤ network.precision.0)
  pub other : y ≤ℤ (x +ℤ network.precision.0)

-- the device is correct and synchronised at the time, once all records of this time have come
pub record IsInStep (s : Scenario) (hs : List Happening) (device : DeviceId) (t : ℕ) : Type 0 where
  pub correct : is_broken s device t ≡ false
  pub synchronised : state_after s (up_to t hs) device ≡ Synchronised

-- the same when something comes at the time
pub record IsInStepBefore (s : Scenario) (hs : List Happening) (device : DeviceId) (t : ℕ) : Type 0 where
  pub correct : is_broken s device t ≡ false
  pub synchronised : state_before s hs device t ≡ Synchronised

-- at each instant the local clocks of any two correct synchronised devices differ by at most the precision
pub record ClocksAgree (s : Scenario) (hs : List Happening) (until : ℕ) : Type 0 where
  pub after : (t : ℕ) (d e : DeviceId) → t ≤ until → IsInStep s hs d t → IsInStep s hs e t
      → AreClose s.network (local s hs d t) (local s hs e t)
  pub before : (t : ℕ) (d e : DeviceId) → t ≤ until → IsInStepBefore s hs d t → IsInStepBefore s hs e t
      → AreClose s.network (local_before s hs d t) (local_before s hs e t)

-- ---- ports

-- how long a frame of so many octets occupies the port of the link: they and 24 more (IEEE 802.3)
abbrev pub time_of_octets : Network → LinkId → ℕ → ℕ
time_of_octets network link octets = option_map_or (λ l. (octets + 24) * octet_time l.speed) (link_at network link) 0

-- the time-triggered frame of the record occupies the device's port on the link at the instant: from its dispatch to
-- before its port time is over
abbrev pub IsTtOnPort : Scenario → Happening → NoteBody → DeviceId → LinkId → ℕ → Type 0
IsTtOnPort s h (notes.TtSent sender by cause vl cycle) device link t =
    (sender ≡ device) × (by ≡ link) × (time_of h ≤ t)
    × (t < time_of h + time_of_octets s.network link (length h.octets))
IsTtOnPort s h other device link t = ⊥

-- the same of the control frame of 60 octets of the record
abbrev pub IsControlOnPort : Scenario → Happening → NoteBody → DeviceId → LinkId → ℕ → Type 0
IsControlOnPort s h (notes.Left sender by cause clock) device link t =
    (sender ≡ device) × (by ≡ link) × (time_of h ≤ t) × (t < time_of h + time_of_octets s.network link 60)
IsControlOnPort s h other device link t = ⊥

-- the record's frame occupies the port at the instant
abbrev pub IsOnPort : Scenario → Happening → DeviceId → LinkId → ℕ → Type 0
IsOnPort s h device link t = IsTtOnPort s h h.note.body device link t ⊎ IsControlOnPort s h h.note.body device link t

-- while a time-triggered frame occupies a port of a correct device, no other frame does
abbrev pub PortsAreApart : Scenario → List Happening → Type 0
PortsAreApart s hs =
    (h g : Happening) (device : DeviceId) (link : LinkId) (t : ℕ)
    → IsIn h hs → IsIn g hs → h.note.number ≢ g.note.number → is_broken s device t ≡ false
    → IsTtOnPort s h h.note.body device link t → IsOnPort s g device link t → ⊥

-- ---- delivery

-- the entry is a row of the virtual link that enters the device
pub record IsRowInto (network : Network) (vl : VlId) (device : DeviceId) (entry : Entry) : Type 0 where
  pub place : ℕ
  pub is : IsEntry network place entry
  pub of_vl : entry.row.vl ≡ vl
  pub enters : target_of entry ≡ device

-- so far into the cycle a window of the virtual link at the device ends
abbrev pub IsWindowEnd : Network → VlId → DeviceId → ℕ → Type 0
IsWindowEnd network vl device end =
    (entry : Entry) × IsRowInto network vl device entry × (end ≡ window_end network entry)

-- the device's clock reaches this place of the cycle at the time
abbrev pub ReachesPlace : Scenario → List Happening → DeviceId → ℕ → ℕ → ℕ → Type 0
ReachesPlace s hs device cycle place t = Reaches s hs device (pos (cycle * amount s.network.cycle + place)) t

-- the frame of the virtual link in the cycle is owed to the device: the virtual link occurs in it and enters the
-- device, which is an end system; from the beginning of the cycle to the end of its last window the device is correct
-- and synchronised; the sender was synchronised when its clock reached its offsets, and is correct at that end
pub record IsOwed (s : Scenario) (hs : List Happening) (until : ℕ) (vl : VlId) (of_vl : VirtualLink) (cycle : ℕ)
    (device : DeviceId) : Type 0 where
  pub there : slice_get s.network.vl vl.0 ≡ Some of_vl
  pub occurs : OccursIn of_vl cycle
  pub end_system : IsEndSystem s.network device
  pub into : Entry
  pub enters : IsRowInto s.network vl device into
  pub last : ℕ
  pub greatest : IsGreatest (IsWindowEnd s.network vl device) last
  pub from : ℕ
  pub to : ℕ
  pub begins : ReachesPlace s hs device cycle 0 from
  pub ends : ReachesPlace s hs device cycle last to
  pub in_order : from < to
  pub in_run : to ≤ until
  pub receiver : (t : ℕ) → from ≤ t → t ≤ to → IsInStep s hs device t
  pub rows : (place : ℕ) (entry : Entry) → IsEntry s.network place entry → entry.row.vl ≡ vl
      → source_of entry ≡ of_vl.sender
      → (t : ℕ) × (t < to) × ReachesPlace s hs of_vl.sender cycle (amount entry.row.offset) t
      × (state_after s (up_to t hs) of_vl.sender ≡ Synchronised)
  pub sender : is_broken s of_vl.sender to ≡ false

-- the record's frame came by a row of the virtual link into the device, within the row's window
pub record IsInWindow (s : Scenario) (hs : List Happening) (h : Happening) (vl : VlId) (device : DeviceId)
    (link : LinkId) : Type 0 where
  pub entry : Entry
  pub row : IsRowInto s.network vl device entry
  pub by : entry.row.link ≡ link
  pub not_before : (window_of s.network entry).from.0 ≤ℤ offset_in_cycle s.network
      (local_before s hs device (time_of h))
  pub not_behind : offset_in_cycle s.network (local_before s hs device (time_of h)) ≤ℤ (window_of s.network entry).to.0

-- the record is the first dispatch of the virtual link's frame of the cycle, by its sender
abbrev pub IsFirstDispatch : VlId → VirtualLink → ℕ → NoteBody → Type 0
IsFirstDispatch vl of_vl cycle (notes.TtSent device link cause other number) =
    (device ≡ of_vl.sender) × (cause ≡ 0) × (other ≡ vl) × (number ≡ cycle)
IsFirstDispatch vl of_vl cycle other = ⊥

-- the frame of the virtual link in the cycle is delivered to the device exactly once, inside its window, as its
-- sender dispatched it
pub record IsDelivered (s : Scenario) (hs : List Happening) (vl : VlId) (of_vl : VirtualLink) (cycle : ℕ)
    (device : DeviceId) : Type 0 where
  pub delivery : Happening
  pub there : IsIn delivery hs
  pub link : LinkId
  pub cause : ℕ
  pub is : delivery.note.body ≡ notes.Delivered device link cause vl cycle
  pub once : (other : Happening) (by : LinkId) (from : ℕ) → IsIn other hs
      → other.note.body ≡ notes.Delivered device by from vl cycle → other ≡ delivery
  pub in_window : IsInWindow s hs delivery vl device link
  pub first : Happening
  pub back : GoesBackTo hs delivery first
  pub begins : IsFirstDispatch vl of_vl cycle first.note.body
  pub whole : delivery.octets ≡ tt_frame_by s.network of_vl cycle

-- each frame that is owed is delivered
abbrev pub FramesAreDelivered : Scenario → List Happening → ℕ → Type 0
FramesAreDelivered s hs until =
    (vl : VlId) (of_vl : VirtualLink) (cycle : ℕ) (device : DeviceId)
    → IsOwed s hs until vl of_vl cycle device → IsDelivered s hs vl of_vl cycle device

-- ---- safety

-- the run is safe up to the time: the clocks agree, no time-triggered frame meets another frame on a port, and each
-- frame that is owed is delivered
pub record IsSafe (s : Scenario) (hs : List Happening) (until : ℕ) : Type 0 where
  pub precision : ClocksAgree s hs until
  pub ports : PortsAreApart s hs
  pub delivery : FramesAreDelivered s hs until
