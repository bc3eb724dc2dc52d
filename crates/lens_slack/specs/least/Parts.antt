-- What the least times are made of.
use Rattle.std.specs.Prelude.{◌*◌, ◌+◌, ◌/◌, ◌^◌, ◌≡◌, Some, pos, slice_get, ℕ}
use Rattle.{lens_slack.specs.declared.least.times.Times.Times, schedule_tables.specs.Delays.{delay_on, pcf_port_time}}
use Rattle.{lens_slack.specs.least.Times.with_times, net_plan.specs.declared.tables.{Device.Device, Link.Link}}
use Rattle.net_plan.specs.{Bounds.{IsBeta, IsGreatest, IsOfPath}, declared.network.Network.Network}
use Rattle.tte_units.specs.Amount.{units_of}

-- how far two clocks drift apart over dmax
abbrev pub drift_over : Network → ℕ → ℕ
drift_over network dmax = 4 * network.rho * dmax / 10 ^ 9

-- whatever the times are, beta is so much and the drift over dmax
abbrev pub IsSteady : Network → ℕ → Type 0
IsSteady network steady =
    (times : Times) → IsBeta (with_times network times) (pos (steady + drift_over network times.dmax))

-- the longest delay of a path
abbrev pub IsLongest : Network → ℕ → Type 0
IsLongest network delay = IsGreatest (IsOfPath network (delay_on network)) delay

-- a device begins with so much
abbrev pub IsStartOf : Network → ℕ → Type 0
IsStartOf network n =
    (place : ℕ) × (device : Device) × (slice_get network.device place ≡ Some device)
    × (device.start ≡ Some (units_of n))

-- a protocol control frame occupies the port of a link for so long
abbrev pub IsPortTimeOf : Network → ℕ → Type 0
IsPortTimeOf network n =
    (place : ℕ) × (link : Link) × (slice_get network.link place ≡ Some link) × (pcf_port_time link ≡ n)
