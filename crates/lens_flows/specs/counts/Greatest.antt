-- The greatest number of a kind.
use Rattle.std.specs.Prelude.{ℕ, ◌≤◌, Option, MatchOption, Some, None, max, ◌≡◌}
use Rattle.net_plan.specs.declared.{ids.{DeviceId.DeviceId, VlId.VlId}, network.Network.Network}
use Rattle.schedule_tables.specs.{Entries.{IsEntry, target_of}, Windows.window_end, declared.entry.Entry.Entry}

-- the greatest number of the kind, or none where there is none
abbrev pub TellsGreatest : (ℕ → Type 0) → Option ℕ → Type 0
TellsGreatest Has r = MatchOption r ((n : ℕ) → Has n → ⊥) (λ m. Has m × ((n : ℕ) → Has n → n ≤ m))

-- the greater of the two, where there are any
abbrev pub later_of : Option ℕ → Option ℕ → Option ℕ
later_of None second = second
later_of (Some first) None = Some first
later_of (Some first) (Some second) = Some (max first second)

-- the row at the place is one of the virtual link into the device, and its window ends there
pub record EndsAt (network : Network) (vl : VlId) (device : DeviceId) (place end : ℕ) : Type 0 where
  pub entry : Entry
  pub is : IsEntry network place entry
  pub of_vl : entry.row.vl ≡ vl
  pub enters : target_of entry ≡ device
  pub end_is : end ≡ window_end network entry
