-- The masters that a break leaves.
use Rattle.std.specs.{Option.option_map_or, Prelude.{◌&&◌, ◌==◌, Bool, Option, false, is_some, not, ℕ}}
use Rattle.net_plan.specs.{Places.is_master, declared.{ids.DeviceId.DeviceId, tables.Device.Device}}

-- is the device at the place a master that began on, and neither the broken one nor the other?
abbrev pub is_sound_beside : Option DeviceId → DeviceId → ℕ × Device → Bool
is_sound_beside broken other placed =
    is_master placed.1.role && is_some placed.1.start && not (option_map_or (λ b. b.0 == placed.0) broken false)
    && not (other.0 == placed.0)
