-- The strikes of a storm: a master breaks, and then sends forged frames.
use Rattle.std.specs.Prelude.{◌%◌, ◌+◌, ◌/◌, ◌<◌, ◌≡◌, ◌⊎◌, IsSomeAnd, List, Some, slice_index, true, ℕ}
use Rattle.fault_hypothesis.specs.{declared.storm.draw.StormDraw.StormDraw, storm.Choosing.channel_of}
use Rattle.{hex.specs.Hex.IsBytes, net_plan.specs.Paths.IsUplink, tte_units.specs.Amount.amount}
use Rattle.net_plan.specs.{Places.{device_at, is_master}, declared.{event.Event.Event, ids.DeviceId.DeviceId}}
use Rattle.net_plan.specs.declared.{event.What.TheVariants.{Break, Send}, network.Network.Network, tables.Device.Device}
use Rattle.{net_plan.specs.declared.{event.What.What, ids.LinkId.LinkId}, run_law.specs.scenario.Faults.IsBroken}
use Rattle.{pcf_codec.specs.Spelling.{IsPadding, Spells}, sync_state.specs.membership.Members.single}
use Rattle.tte_units.specs.declared.{frames.pcf.{Pcf.Pcf, PcfKind.TheVariants.Integration}, units.Units.Units}

-- the device is a master
abbrev pub IsMaster : Network → DeviceId → Type 0
IsMaster network device = IsSomeAnd (device_at network device) (λ d. is_master d.role ≡ true)

-- the device is a master, and no device behind it is one
pub record IsLastMaster (network : Network) (device : DeviceId) : Type 0 where
  pub master : IsMaster network device
  pub last : (later : DeviceId) → device.0 < later.0 → IsMaster network later → ⊥

-- the frame that a broken master of this member number forges at the time: the one that it would send
-- if it were correct, but for its clock, which the third word chooses
abbrev pub forged : Network → Device → ℕ → Units → StormDraw → Pcf
forged network master member time draw = record {
  destination = network.pcf_destination;
  source = master.mac;
  cycle = amount time / amount network.cycle;
  members = single member;
  priority = network.priority;
  domain = network.domain;
  kind = Integration;
  clock = draw.size % (amount network.dmax + 1);
}

-- the broken master sends its forged frame by its link of the channel that is chosen
pub record SendsForged (network : Network) (device : DeviceId) (time : Units) (draw : StormDraw) (what : What) : Type 0 where
  pub master : Device
  pub member : ℕ
  pub link : LinkId
  pub octets : List ℕ
  pub at : device_at network device ≡ Some master
  pub numbered : master.member ≡ Some member
  pub uplink : IsUplink network (channel_of draw) device link
  pub spells : Spells octets (forged network master member time draw)
  pub padding : (i : ℕ) → IsPadding i → slice_index octets i ≡ 0
  pub bytes : IsBytes octets
  pub sends : what ≡ Send link octets

-- none is broken, and the last master breaks
pub record BreaksLast (network : Network) (before : List Event) (what : What) : Type 0 where
  pub master : DeviceId
  pub none : (device : DeviceId) → IsBroken before device → ⊥
  pub last : IsLastMaster network master
  pub breaks : what ≡ Break master

-- a strike: the last master breaks where none is broken, and otherwise the broken one sends
abbrev pub Strikes : Network → List Event → Units → StormDraw → What → Type 0
Strikes network before time draw what =
    BreaksLast network before what
    ⊎ ((device : DeviceId) × IsBroken before device × SendsForged network device time draw what)
