-- The five times of a network that the rules of times bound from below.
use Rattle.std.specs.Prelude.{◌≡◌, ◌≤◌}
use Rattle.{lens_slack.specs.declared.least.times.Times.Times, net_plan.specs.declared.network.Network.Network}
use Rattle.tte_units.specs.Amount.{amount, units_of}

-- the five times of a network
abbrev pub times_of : Network → Times
times_of network = record {
  dmax = amount network.dmax;
  settled = amount network.settled;
  precision = amount network.precision;
  correction = amount network.correction;
  tt_start = amount network.tt_start;
}

-- the network with these five times
abbrev pub with_times : Network → Times → Network
with_times network times = record {
  version = network.version;
  cycle = network.cycle;
  rho = network.rho;
  grain = network.grain;
  dmax = units_of times.dmax;
  calc = network.calc;
  settled = units_of times.settled;
  precision = units_of times.precision;
  correction = units_of times.correction;
  tt_start = units_of times.tt_start;
  sync_threshold = network.sync_threshold;
  priority = network.priority;
  domain = network.domain;
  pcf_destination = network.pcf_destination;
  marker = network.marker;
  device = network.device;
  link = network.link;
  vl = network.vl;
  row = network.row;
}

-- the other network is this one but for the five times
abbrev pub IsButForTimes : Network → Network → Type 0
IsButForTimes network other = other ≡ with_times network (times_of other)

-- none of these times is greater than that of the others
pub record AreAtMost (times others : Times) : Type 0 where
  pub dmax : times.dmax ≤ others.dmax
  pub settled : times.settled ≤ others.settled
  pub precision : times.precision ≤ others.precision
  pub correction : times.correction ≤ others.correction
  pub tt_start : times.tt_start ≤ others.tt_start
