-- Parts of the rules of times.
use Rattle.std.specs.Prelude.{◌*◌, ◌+◌, ◌≤◌, List, ℕ}
use Rattle.{net_plan.specs.{Bounds.gamma_of, Paths.IsPath, Places.IsDeviceOf}, tte_units.specs.Amount.amount}
use Rattle.{net_plan.specs.declared.ids.{DeviceId.DeviceId, LinkId.LinkId}, schedule_tables.specs.Delays.delay_on}
use Rattle.{net_plan.specs.declared.network.Network.Network, tte_units.specs.declared.frames.channel.Channel.Channel}

-- on the channel, if the device is of it, dmax has room for beta and for the delays of the device's path
abbrev pub DelaysFitOn : Network → ℕ → Channel → DeviceId → Type 0
DelaysFitOn network beta channel device =
    (links : List LinkId) → IsDeviceOf network channel device → IsPath network channel device links
    → beta + delay_on network links ≤ amount network.dmax

-- how far the errors of a resynchronisation may spread the clocks
abbrev pub errors_of : Network → ℕ → ℕ
errors_of network beta = 8 * beta + 12 * gamma_of network + 40 * amount network.grain
