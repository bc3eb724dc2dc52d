-- The ways of the links: who sends and who receives on them, their delays and holds, and whether they are cut.
use Rattle.std.specs.Option.{option_map_or}
use Rattle.std.specs.Prelude.{if◌then◌else◌, ◌&&◌, ◌==◌, Bool, None, Option, Some, false, option_map, true, ℕ}
use Rattle.{net_plan.specs.Places.link_at, tte_units.specs.Amount.amount}
use Rattle.net_plan.specs.declared.{event.What.TheVariants.{Cut, Heal, Hold, Wire}, tables.Way.TheVariants.{Down, Up}}
use Rattle.{net_plan.specs.declared.{event.What.What, tables.Way.Way}, schedule_tables.specs.Entries.target_by}
use Rattle.{net_plan.specs.declared.ids.{DeviceId.DeviceId, LinkId.LinkId}, run_law.specs.scenario.Devices.is_parent_of}
use Rattle.{net_plan.specs.declared.network.Network.Network, run_law.specs.scenario.Scenarios.{Scenario, last_set}}

-- are the two ways one?
abbrev pub is_way : Way → Way → Bool
is_way Up Up = true
is_way Up Down = false
is_way Down Up = false
is_way Down Down = true

-- is this way of this link the other one?
abbrev pub is_way_of : LinkId → Way → LinkId → Way → Bool
is_way_of link way other turned = link.0 == other.0 && is_way way turned

-- the way on which the device sends on the link: down from the parent, up from the child
abbrev pub way_from : Network → DeviceId → LinkId → Way
way_from network device link = if is_parent_of network device link then Down else Up

-- the way on which the device receives by the link
abbrev pub way_to : Network → DeviceId → LinkId → Way
way_to network device link = if is_parent_of network device link then Up else Down

-- the device that receives what is sent on the way of the link
abbrev pub receiver_of : Network → LinkId → Way → Option DeviceId
receiver_of network link way = option_map (target_by way) (link_at network link)

-- the wire delay that this sets on the way, if it does
abbrev pub wire_set : LinkId → Way → What → Option ℕ
wire_set link way (Wire other turned delay) = if is_way_of link way other turned then Some (amount delay) else None
wire_set link way other = None

-- the hold that this sets on the way, if it does
abbrev pub hold_set : LinkId → Way → What → Option ℕ
hold_set link way (Hold other turned delay) = if is_way_of link way other turned then Some (amount delay) else None
hold_set link way other = None

-- whether the way is cut from this on, if this says so
abbrev pub cut_set : LinkId → Way → What → Option Bool
cut_set link way (Cut other turned) = if is_way_of link way other turned then Some true else None
cut_set link way (Heal other turned) = if is_way_of link way other turned then Some false else None
cut_set link way other = None

-- the nominal delay of the link's wire
abbrev pub wire_of : Network → LinkId → ℕ
wire_of network link = option_map_or (λ l. amount l.wire) (link_at network link) 0

-- the wire delay of the way at the time: at first the nominal one
abbrev pub delay_at : Scenario → LinkId → Way → ℕ → ℕ
delay_at s link way t = last_set s (wire_set link way) (wire_of s.network link) t

-- how long a frame that is given to the way at the time is held
abbrev pub hold_at : Scenario → LinkId → Way → ℕ → ℕ
hold_at s link way t = last_set s (hold_set link way) 0 t

-- is the way cut at the time?
abbrev pub is_cut : Scenario → LinkId → Way → ℕ → Bool
is_cut s link way t = last_set s (cut_set link way) false t
