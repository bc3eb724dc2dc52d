-- How far apart the local clocks of a run are.
use Rattle.std.specs.Prelude.{◌-ℤ◌, IfSome, List, None, Option, Some, fold, if◌then◌else◌, int_le, length, option_map, unsigned_abs, ℕ, ℤ}
use Rattle.device_rules.specs.Widths.{IsLocal}
use Rattle.{lens_overview.specs.{Ranges.each_below, declared.spread.LocalExtremes.LocalExtremes}, net_plan.specs.declared.ids.DeviceId.DeviceId}
use Rattle.run_law.specs.{declared.note.NoteBody.NoteBody, device.{LocalClocks.local, States.{is_synchronised, state_after}}}
use Rattle.run_law.specs.{records.Happenings.{Happening, up_to}, scenario.Scenarios.{Scenario, is_broken}}
use Rattle.run_law.specs.declared.note.NoteBody.TheVariants.{Corrected}

-- what the device's local clock shows at the time, once all records of this time have come, if it is correct and
-- synchronised
abbrev pub local_at : Scenario → List Happening → ℕ → DeviceId → Option ℤ
local_at s hs t device =
    if is_broken s device t then None
    else if is_synchronised (state_after s (up_to t hs) device) then Some (local s hs device t)
    else None

-- the lesser and the greater of two clocks
abbrev pub lesser : ℤ → ℤ → ℤ
lesser x y = if int_le x y then x else y

abbrev pub greater : ℤ → ℤ → ℤ
greater x y = if int_le x y then y else x

-- the least and the greatest with one more clock, if there is one
abbrev pub with_local : Option LocalExtremes → Option ℤ → Option LocalExtremes
with_local ends None = ends
with_local None (Some local) = Some (record { least = local; greatest = local })
with_local (Some ends) (Some local) =
    Some (record { least = lesser ends.least local; greatest = greater ends.greatest local })

-- their values are some that local clocks show
abbrev pub AreWide : Option LocalExtremes → Type 0
AreWide ends = IfSome ends (λ e. IsLocal e.least × IsLocal e.greatest)

-- those of the first so many devices
abbrev pub ends_at : Scenario → List Happening → ℕ → ℕ → Option LocalExtremes
ends_at s hs t count = fold with_local None (each_below (λ place. local_at s hs t (record { 0 = place })) count)

-- how far apart the ends are
abbrev pub apart : LocalExtremes → ℕ
apart ends = unsigned_abs (ends.greatest -ℤ ends.least)

-- how far apart the clocks of the correct synchronised devices are at the time, if there are any
abbrev pub spread_at : Scenario → List Happening → ℕ → Option ℕ
spread_at s hs t = option_map apart (ends_at s hs t (length s.network.device))

-- the same at the time of a correction
abbrev pub spread_by : Scenario → List Happening → ℕ → NoteBody → Option ℕ
spread_by s hs t (Corrected device cycle by adjustment) = spread_at s hs t
spread_by s hs t body = None
