-- What the times of an accepted network leave room for. The proofs that clocks stay together and that
-- frames meet their windows rest on these inequalities alone.
use Rattle.std.specs.{List.All, Prelude.{◌*◌, ◌+◌, ◌/◌, ◌^◌, ◌≡◌, ◌≤◌, List, pos, ℕ}}
use Rattle.net_plan.specs.{Bounds.{IsBeta, gamma_of}, Ranges.IsInRange, declared.ids.{DeviceId.DeviceId, LinkId.LinkId}}
use Rattle.{net_plan.specs.{Paths.IsPath, Places.IsDeviceOf}, tte_units.specs.Amount.amount}
use Rattle.{net_plan.specs.declared.network.Network.Network, tte_units.specs.declared.frames.channel.Channel.Channel}
use Rattle.schedule_tables.specs.{Delays.{delay_by, delay_on, pcf_port_time}, Rules.KeepsRules}

-- how far a clock may drift over two cycles, with the roundings of two readings
abbrev pub drift_of : Network → ℕ
drift_of network = 2 * network.rho * amount network.cycle / 10 ^ 9 + 2 * amount network.grain

-- how far the base of a compressed frame may be off: the path, the drift, and a rounding
abbrev pub base_error : Network → ℕ → ℕ
base_error network beta = beta + drift_of network + 2 * amount network.grain

-- how far a corrected clock may be off: two paths, two drifts, and the roundings
abbrev pub clock_error : Network → ℕ → ℕ
clock_error network beta = 2 * beta + 2 * drift_of network + 4 * amount network.grain + 1

-- how far the instant may be off at which a corrected clock reaches a value
abbrev pub reach_error : Network → ℕ → ℕ
reach_error network beta = clock_error network beta + drift_of network + 2 * amount network.grain

-- how far apart the dispatches of correct masters in one cycle may lie
abbrev pub dispatch_spread : Network → ℕ
dispatch_spread network = amount network.settled + 2 * gamma_of network + 2

-- how long a collection and its compression take: two observation windows and the calculation
abbrev pub compression_time : Network → ℕ
compression_time network = 2 * amount network.precision + amount network.calc

-- when a receiver expects a compressed frame, from the beginning of the cycle
abbrev pub expected_offset : Network → ℕ
expected_offset network = 2 * amount network.dmax + compression_time network

-- a drift holds the roundings of its readings, and gamma holds two drifts
pub record DriftHasRoom (network : Network) : Type 0 where
  pub grain : 1 ≤ amount network.grain
  pub two_drifts : 2 * drift_of network ≤ gamma_of network
  pub two_readings : 2 * amount network.grain ≤ drift_of network
  pub four_readings : 4 * amount network.grain ≤ gamma_of network

-- the precision holds the spread of the dispatches and eight errors of a reached value
pub record PrecisionHasRoom (network : Network) (beta : ℕ) : Type 0 where
  pub eight_errors : dispatch_spread network + 8 * reach_error network beta ≤ amount network.precision
  pub compression_most : compression_time network ≤ 3 * amount network.precision
  pub compression_least : 2 * amount network.precision + 1 ≤ compression_time network

-- the cycle holds the correction, the last control frame, and the schedule's begin, with room for the
-- precision between them
pub record CycleHasRoom (network : Network) (beta : ℕ) : Type 0 where
  pub correction : expected_offset network + 8 * amount network.precision ≤ amount network.correction
  pub last_frame : All
      (λ link. amount network.correction + amount network.dmax + 8 * amount network.precision + pcf_port_time
      link ≤ amount network.cycle) network.link
  pub eighteen_precisions : 18 * amount network.precision + 3 * amount network.dmax ≤ amount network.cycle
  pub many_errors : 144 * reach_error network beta ≤ amount network.cycle
  pub eighteen_starts : 18 * amount network.settled ≤ amount network.cycle
  pub next_correction : amount network.correction + dispatch_spread network + 2 * reach_error network beta ≤ amount
      network.cycle

-- dmax holds beta and the delays of each link and of each path
pub record DmaxHasRoom (network : Network) (beta : ℕ) : Type 0 where
  pub path : beta ≤ amount network.dmax
  pub links : All (λ link. beta + delay_by link ≤ amount network.dmax) network.link
  pub paths : (channel : Channel) (device : DeviceId) (links : List LinkId)
      → IsDeviceOf network channel device → IsPath network channel device links
      → beta + delay_on network links ≤ amount network.dmax

-- the spread of the starts holds the errors of one resynchronisation, and that of the dispatches holds
-- the starts
pub record SettledHasRoom (network : Network) (beta : ℕ) : Type 0 where
  pub errors : 6 * beta + 8 * drift_of network + 12 * amount network.grain + 1 ≤ amount network.settled
  pub spread : amount network.settled + 2 * drift_of network + 2 * amount network.grain ≤ dispatch_spread network
  pub more : amount network.settled + 2 ≤ dispatch_spread network

-- each single error is at most that of a reached value, and two of a clock with their drifts are two
pub record ErrorsAreSmall (network : Network) (beta : ℕ) : Type 0 where
  pub paths : beta ≤ reach_error network beta
  pub drifts : drift_of network ≤ reach_error network beta
  pub readings : 2 * amount network.grain ≤ reach_error network beta
  pub bases : base_error network beta ≤ reach_error network beta
  pub clocks : clock_error network beta ≤ reach_error network beta
  pub two_clocks : 2 * clock_error network beta + 2 * drift_of network + 4 * amount network.grain ≡ 2 * reach_error
      network beta

-- all of these
pub record HasMargins (network : Network) (beta : ℕ) : Type 0 where
  pub drift : DriftHasRoom network
  pub precision : PrecisionHasRoom network beta
  pub cycle : CycleHasRoom network beta
  pub dmax : DmaxHasRoom network beta
  pub settled : SettledHasRoom network beta
  pub errors : ErrorsAreSmall network beta

-- a network that keeps the rules has these margins
abbrev pub RulesGiveMargins : Type 0
RulesGiveMargins =
    (network : Network) (beta : ℕ) → IsInRange network → KeepsRules network → IsBeta network (pos beta)
    → HasMargins network beta
