-- What the history of a network's stretches keeps.
use Rattle.std.specs.Prelude.{◌≡◌, List, Option, length, slice_get, ℕ}
use Rattle.audit_devices.specs.{Keeping.time_at, stretches.Keeping.{KeepsAll, Stretches}}
use Rattle.audit_law.specs.{collections.Kept.History, declared.collections.gathering.Gathering.Gathering}
use Rattle.audit_devices.specs.declared.stretches.{history.StretchHistory.StretchHistory, kept.Entry.Entry}
use Rattle.net_plan.specs.declared.{ids.DeviceId.DeviceId, network.Network.Network}
use Rattle.run_law.specs.records.Happenings.{Happening}

-- the stretches of each compression master are kept, up to these records
abbrev pub Stands : Network → List Happening → StretchHistory → Type 0
Stands network hs history = KeepsAll network hs history.kept.items

-- how many devices it is of
abbrev pub device_count : StretchHistory → ℕ
device_count history = length history.kept.items

-- what it keeps of a device
abbrev pub kept_of : StretchHistory → DeviceId → Option Stretches
kept_of history device = slice_get history.kept.items device.0

-- this is the stretch behind the entry's record, and the record's time
pub record IsBehind (kept : Stretches) (e : Entry) (time : ℕ) (collections : History) (gathering : Gathering)
    : Type 0 where
  pub time_is : time ≡ time_at e.place
  pub collections_are : collections ≡ kept.collections
  pub gathering_is : gathering ≡ e.gathering
