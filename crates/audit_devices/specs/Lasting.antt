-- How long the same is shown of a device.
use Rattle.std.specs.Prelude.{◌+◌, ◌<◌, ◌∷◌, ◌≡◌, ◌≤◌, List, None, Option, Some, [], min, ℕ, ⊤}
use Rattle.net_plan.specs.declared.ids.DeviceId.{DeviceId}
use Rattle.run_law.specs.{records.Happenings.{Happening, earlier}, scenario.Scenarios.Scenario}
use Rattle.audit_devices.specs.{Keeping.shown_before, Showing.{Shown, Shows}, declared.history.History.History}

-- the time is no later than the next one, if there is one
abbrev pub IsUpTo : Option ℕ → ℕ → Type 0
IsUpTo None t = ⊤
IsUpTo (Some next) t = t ≤ next

-- at each time later than this, up to the next one, the same is shown
abbrev pub Lasts : History → ℕ → Option ℕ → Type 0
Lasts history time next =
    (t : ℕ) → time < t → IsUpTo next t
    → shown_before (t ∷ []) history ≡ shown_before ((time + 1) ∷ []) history

-- the next time, or the last one where that comes before, or there is no next one
abbrev pub end_of : Option ℕ → ℕ → ℕ
end_of None until = until
end_of (Some next) until = min next until

-- at each time later than `after`, up to `until`, the records of earlier times show this of the device
abbrev pub ShowsWithin : Scenario → List Happening → DeviceId → ℕ → ℕ → Shown → Type 0
ShowsWithin s hs device after until shown = (t : ℕ) → after < t → t ≤ until → Shows s (earlier t hs) device shown
