-- The rules of a network's times: each bounds what the delays, the drift of the clocks and the
-- roundings of their readings may add up to.
use Rattle.std.specs.{List.{All, sum_by}, Option.option_map_or, Prelude.{◌*◌, ◌+◌, ◌≤◌, List, pos, ℕ}}
use Rattle.{net_plan.specs.Bounds.{IsBeta, gamma_of}, tte_units.specs.{Amount.amount, OctetTime.octet_time}}
use Rattle.net_plan.specs.{Paths.IsPath, Places.{IsDeviceOf, link_at}, declared.{ids.LinkId.LinkId, tables.Link.Link}}
use Rattle.{net_plan.specs.declared.network.Network.Network, tte_units.specs.declared.frames.channel.Channel.Channel}

-- how long a link delays a frame at most: its wire, its jitter and its hold
abbrev pub delay_by : Link → ℕ
delay_by link = amount link.wire + amount link.jitter + amount link.hold

-- how long the link of this id delays a frame at most
abbrev pub delay_of : Network → LinkId → ℕ
delay_of network link = option_map_or delay_by (link_at network link) 0

-- how long these links delay a frame together at most
abbrev pub delay_on : Network → List LinkId → ℕ
delay_on network links = sum_by (delay_of network) links

-- how long a protocol control frame of 60 octets occupies the port of a link
abbrev pub pcf_port_time : Link → ℕ
pcf_port_time link = 84 * octet_time link.speed

-- on each channel of the device at the place, dmax has room for the delays of its path and for beta
abbrev pub DelaysFit : Network → ℕ → Type 0
DelaysFit network place =
    (beta : ℕ) (channel : Channel) (links : List LinkId) → IsBeta network (pos beta)
    → IsDeviceOf network channel (record { 0 = place }) → IsPath network channel (record { 0 = place }) links
    → beta + delay_on network links ≤ amount network.dmax

-- the spread of the starts has room for the errors of a resynchronisation
abbrev pub ErrorsSettle : Network → Type 0
ErrorsSettle network =
    (beta : ℕ) → IsBeta network (pos beta)
    → 8 * beta + 12 * gamma_of network + 40 * amount network.grain ≤ amount network.settled

-- the precision has room for the spread of the starts with twice these errors, and for a compression
pub record PrecisionFits (network : Network) : Type 0 where
  pub errors : (beta : ℕ) → IsBeta network (pos beta) → amount network.settled + 16 * beta + 24 * gamma_of
      network + 80 * amount network.grain ≤ amount network.precision
  pub calc : amount network.calc ≤ amount network.precision

-- when the clocks are corrected, each frame of the cycle has been heard
abbrev pub CorrectionFits : Network → Type 0
CorrectionFits network =
    2 * amount network.dmax + amount network.calc + 10 * amount network.precision ≤ amount network.correction

-- the schedule begins behind the correction and the last protocol control frame on any link, and
-- before the cycle's end
pub record ScheduleFits (network : Network) : Type 0 where
  pub begins : All
      (λ link. amount network.correction + amount network.dmax + 4 * amount network.precision + pcf_port_time
      link ≤ amount network.tt_start) network.link
  pub ends : amount network.tt_start + 4 * amount network.precision ≤ amount network.cycle
