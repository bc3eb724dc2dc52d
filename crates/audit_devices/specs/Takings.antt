-- What is kept of the frames that were taken.
use Rattle.std.specs.{Option.option_map_or, Prelude.{◌<◌, ◌≡◌, List, [], false, length, slice_get, true, ℕ}}
use Rattle.{audit_devices.specs.Taking.{AscendAll, takings_of}, net_plan.specs.declared.network.Network.Network}
use Rattle.audit_devices.specs.declared.{taking.Taking.Taking, takings.{DeviceTakings.DeviceTakings, Takings.Takings}}
use Rattle.{net_plan.specs.declared.ids.{DeviceId.DeviceId, VlId.VlId}, run_law.specs.declared.note.NoteBody.NoteBody}
use Rattle.run_law.specs.{records.{Happenings.Happening, Order.IsIn}, scenario.Devices.is_end}
use Rattle.run_law.specs.declared.note.NoteBody.TheVariants as notes

-- what is kept of the virtual link
abbrev pub taken_of : DeviceTakings → VlId → List Taking
taken_of device vl = option_map_or (λ takings. takings.items) (slice_get device.vls.items vl.0) []

-- how many devices they are of
abbrev pub taker_count : Takings → ℕ
taker_count takings = length takings.devices.items

-- what is kept of the device and the virtual link
abbrev pub kept_of : Takings → DeviceId → VlId → List Taking
kept_of takings device vl = option_map_or (λ d. taken_of d vl) (slice_get takings.devices.items device.0) []

-- a switch accepts frames, and an end system has them delivered
abbrev pub TakesRightly : Network → NoteBody → Type 0
TakesRightly network (notes.Accepted device link cause vl cycle) = is_end network device ≡ false
TakesRightly network (notes.Delivered device link cause vl cycle) = is_end network device ≡ true
TakesRightly network other = Unit {0}

-- these are the frames that each device took of each virtual link, as the records say it
pub record HasTaken (network : Network) (hs : List Happening) (takings : Takings) : Type 0 where
  pub kept : (device : DeviceId) (vl : VlId) → device.0 < taker_count takings
      → kept_of takings device vl ≡ takings_of hs device vl
  pub ascend : (device : DeviceId) (vl : VlId) → AscendAll (takings_of hs device vl)
  pub rightly : (h : Happening) → IsIn h hs → TakesRightly network h.note.body
