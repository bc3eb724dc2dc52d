-- How protocol control frames are given to links, and how they leave.
use Rattle.std.specs.Prelude.{if◌then◌else◌, ◌+◌, ◌-◌, ◌≡◌, ◌⊎◌, List, Some, false, nat_lt, true, ℕ}
use Rattle.net_plan.specs.{Rules.IsChildOf, declared.{ids.{DeviceId.DeviceId, LinkId.LinkId}, network.Network.Network}}
use Rattle.{run_law.specs.declared.note.NoteBody.NoteBody, tte_units.specs.{Amount.amount, declared.frames.pcf.Pcf.Pcf}}
use Rattle.run_law.specs.{records.Happenings.{Happening, numbered, time_of}, scenario.Ways.{hold_at, is_cut, way_from}}
use Rattle.run_law.specs.scenario.{Devices.{IsParentOf, is_relay}, Scenarios.{Scenario, is_broken}}
use Rattle.run_law.specs.declared.note.NoteBody.TheVariants as notes

-- a relay passes a frame from a child link up by its parent link, and one from its parent link down by all its
-- child links
pub record Passes (network : Network) (device : DeviceId) (by link : LinkId) : Type 0 where
  pub relay : is_relay network device ≡ true
  pub on : (IsParentOf network device by × IsChildOf network device link)
      ⊎ (IsChildOf network device by × IsParentOf network device link)

-- the device gives the frame of the record to the link: a master its own to both links, a compression master its
-- own to all child links, a relay what it passes
abbrev pub Gives : Network → NoteBody → DeviceId → LinkId → Type 0
Gives network (notes.Sent master cycle) device link = (device ≡ master) × IsChildOf network device link
Gives network (notes.Compressed cm opened at cycle members verdict) device link =
    (device ≡ cm) × IsParentOf network device link
Gives network (notes.Arrived relay by cause clock) device link = (device ≡ relay) × Passes network device by link
Gives network other device link = ⊥

-- what becomes of a frame at its leaving: it leaves with this transparent clock, it has been on its way for too
-- long, or its way is cut
pub data Departure : Type 0 where
  leaves : ℕ → Departure
  too_old : Departure
  on_cut_way : Departure

-- what the frame's transparent clock shows at its leaving: what the device has measured of the hold is added
abbrev pub clock_at_leaving : Scenario → DeviceId → Pcf → ℕ → ℕ → ℕ
clock_at_leaving s device frame given t = frame.clock + (s.reading device t - s.reading device given)

-- what becomes of the frame that the device gave to the link, when it leaves
abbrev pub departure : Scenario → DeviceId → LinkId → Pcf → ℕ → ℕ → Departure
departure s device link frame given t =
    if nat_lt (amount s.network.dmax) (clock_at_leaving s device frame given t) then too_old
    else (if is_cut s link (way_from s.network device link) t then on_cut_way
    else leaves (clock_at_leaving s device frame given t))

-- the frame of the record with the number `cause`, which the device gave to the link, leaves at the time, after
-- the hold, and this becomes of it. A device that broke by then sends nothing
pub record Departs (s : Scenario) (hs : List Happening) (device : DeviceId) (t : ℕ) (link : LinkId) (cause : ℕ)
    (is : Departure) : Type 0 where
  pub giving : Happening
  pub there : numbered hs cause ≡ Some giving
  pub gives : Gives s.network giving.note.body device link
  pub frame : Pcf
  pub of_frame : giving.frame ≡ Some frame
  pub held : t ≡ time_of giving + hold_at s link (way_from s.network device link) (time_of giving)
  pub correct : is_broken s device t ≡ false
  pub becomes : is ≡ departure s device link frame (time_of giving) t
