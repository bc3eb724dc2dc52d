-- A network with events that the laws on runs speak of.
use Rattle.std.specs.Prelude.{◌*◌, ◌-◌, ◌∷◌, List, None, Option, Some, [], codes, ℕ}
use Rattle.drift_clock.specs.Segment.{fresh_segment, segment_reading, stepped_segment}
use Rattle.net_plan.specs.declared.{event.{Event.Event, What.TheVariants.{Break, Cut, End}}, network.Network.Network}
use Rattle.{net_plan.specs.declared.tables.Device.Device, tte_units.specs.declared.frames.channel.Channel.Channel}
use Rattle.{net_plan.specs.declared.tables.{Link.Link, Role.Role, Row.Row, Way.Way}, tte_units.specs.Amount.units_of}
use Rattle.net_plan.specs.declared.tables.{Role.TheVariants.{Client, Cm, Master, Relay}, Way.TheVariants.{Down, Up}}
use Rattle.{precision_law.specs.traffic.safety.Under.scenario_of, run_law.specs.scenario.Scenarios.Scenario}
use Rattle.tte_units.specs.declared.{frames.channel.Channel.TheVariants.{A, B}, speed.Speed.TheVariants.Mbit100}

-- a device that begins on, with the adjustment 0
abbrev pub device_of : List ℕ → Role → ℕ → Option ℕ → Option Channel → Device
device_of name role mac member channel = record {
  name = name;
  role = role;
  mac = mac;
  member = member;
  channel = channel;
  start = Some (units_of 0);
}

-- a link with a wire of 500 ns, a jitter of 20 ns and a hold of 20 us
abbrev pub link_of : List ℕ → ℕ → ℕ → Link
link_of name child parent = record {
  name = name;
  child = record { 0 = child };
  parent = record { 0 = parent };
  wire = units_of 32768000;
  jitter = units_of 1310720;
  hold = units_of 1310720000;
  speed = Mbit100;
}

-- a row of the first virtual link
abbrev pub row_of : ℕ → Way → ℕ → Row
row_of link way offset = record {
  vl = record { 0 = 0 };
  link = record { 0 = link };
  way = way;
  offset = units_of offset;
}

-- the worked network: four masters and a client, on each channel a relay and a compression master, and one virtual link
-- from the first master to the client
abbrev pub worked : Network
worked = record {
  version = 1;
  cycle = units_of 131072000000;
  rho = 50000;
  grain = units_of 1;
  dmax = units_of 3276800000;
  calc = units_of 65536000;
  settled = units_of 345000000;
  precision = units_of 1048576000;
  correction = units_of 18350080000;
  tt_start = units_of 26542080000;
  sync_threshold = 3;
  priority = 0;
  domain = 0;
  pcf_destination = 0x030000000001;
  marker = 0x03040506;
  device =
      device_of (codes "m1") Master 0x020000000011 (Some 0) None
      ∷ device_of (codes "m2") Master 0x020000000012 (Some 1) None
      ∷ device_of (codes "m3") Master 0x020000000013 (Some 2) None
      ∷ device_of (codes "m4") Master 0x020000000014 (Some 3) None
      ∷ device_of (codes "c1") Client 0x020000000015 None None
      ∷ device_of (codes "ra") Relay 0x020000000021 None (Some A)
      ∷ device_of (codes "ca") Cm 0x020000000022 None (Some A)
      ∷ device_of (codes "rb") Relay 0x020000000023 None (Some B)
      ∷ device_of (codes "cb") Cm 0x020000000024 None (Some B)
      ∷ [];
  link =
      link_of (codes "m1_a") 0 5
      ∷ link_of (codes "m2_a") 1 5
      ∷ link_of (codes "m3_a") 2 5
      ∷ link_of (codes "m4_a") 3 5
      ∷ link_of (codes "c1_a") 4 5
      ∷ link_of (codes "ra_ca") 5 6
      ∷ link_of (codes "m1_b") 0 7
      ∷ link_of (codes "m2_b") 1 7
      ∷ link_of (codes "m3_b") 2 7
      ∷ link_of (codes "m4_b") 3 7
      ∷ link_of (codes "c1_b") 4 7
      ∷ link_of (codes "rb_cb") 7 8
      ∷ [];
  vl = record {
    name = codes "v1";
    id = 1;
    length = 60;
    ethertype = 2048;
    sender = record { 0 = 0 };
    period = 1;
    phase = 0;
  } ∷ [];
  row =
      row_of 0 Up 26542080000
      ∷ row_of 6 Up 26542080000
      ∷ row_of 4 Down 28180480000
      ∷ row_of 10 Down 28180480000
      ∷ [];
}

-- the fourth master breaks in the second cycle, then a link of channel b is cut, and the run ends with the twentieth
-- cycle
abbrev pub rough_events : List Event
rough_events =
    record { time = units_of 131072000000; what = Break (record { 0 = 3 }) }
    ∷ record { time = units_of 200000000000; what = Cut (record { 0 = 11 }) Up }
    ∷ record { time = units_of (20 * 131072000000 - 1); what = End }
    ∷ []

-- the worked network under these events, with the clocks that the program gives its devices
abbrev pub rough_day : Scenario
rough_day = scenario_of fresh_segment stepped_segment segment_reading worked rough_events
