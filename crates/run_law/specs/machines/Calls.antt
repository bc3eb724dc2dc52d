-- When a device may be called.
use Rattle.std.specs.Prelude.{◌+ℤ◌, ◌+◌, ◌<ℤ◌, ◌^◌, ◌≡◌, ◌≤ℤ◌, ◌≤◌, ◌⊎◌, All, IsSomeAnd, List, Ok, false, length, pos}
use Rattle.std.specs.Prelude.{true, ℕ, ℤ}
use Rattle.net_plan.specs.Places.{link_at}
use Rattle.net_plan.specs.{Rules.IsChildOf, declared.{ids.{DeviceId.DeviceId, LinkId.LinkId}, network.Network.Network}}
use Rattle.tte_units.specs.declared.frames.{members.Members.Members, pcf.{Pcf.Pcf, PcfKind.TheVariants.Integration}}
use Rattle.run_law.specs.{control.Permanence.waits_for, machines.Tasks.{IsPending, Task, reading_for}}
use Rattle.run_law.specs.{control.Wires.{control, signal_of}, scenario.Devices.{IsParentOf, is_end, member_of}}
use Rattle.{run_law.specs.declared.steps.Moment.Moment, tte_units.specs.{Amount.amount, declared.units.Units.Units}}
use Rattle.run_law.specs.{device.States.is_off, machines.Nodes.{Node, Phase, acting, arriving, ripening, turning_on}}

-- the place of a kind of call among those of one instant
abbrev pub order_of_phase : Phase → ℕ
order_of_phase turning_on = 0
order_of_phase arriving = 1
order_of_phase ripening = 2
order_of_phase acting = 3

-- the moment is in the range of runs, and neither its time nor its reading is less than at the last call
pub record IsLaterMoment (last moment : Moment) : Type 0 where
  pub time : last.time.0 ≤ℤ moment.time.0
  pub reading : last.reading.0 ≤ℤ moment.reading.0
  pub early_enough : moment.time.0 ≤ℤ pos (2 ^ 60)
  pub low_enough : moment.reading.0 ≤ℤ pos (2 ^ 60 + 2 ^ 51)

-- the device may be called so at the moment: the calls of an instant come in their order, before a later instant all
-- is done that was due, and what is due has not waited for as long as the precision
pub record MayCall (network : Network) (device : DeviceId) (node : Node) (moment : Moment)
    (phase : Phase) : Type 0 where
  pub later : IsLaterMoment node.last moment
  pub in_order : moment.time ≡ node.last.time → order_of_phase node.phase ≤ order_of_phase phase
  pub all_done : node.last.time.0 <ℤ moment.time.0 → (task : Task) → IsPending network device node task
      → node.last.reading.0 <ℤ reading_for network node task
  pub in_time : (task : Task) → IsPending network device node task
      → moment.reading.0 <ℤ (reading_for network node task +ℤ network.precision.0)

-- the link is one of the device
abbrev pub IsLinkAt : Network → DeviceId → LinkId → Type 0
IsLinkAt network device link = IsChildOf network device link ⊎ IsParentOf network device link

-- the members are the bit of one master of the network
abbrev pub IsOneMaster : Network → Members → Type 0
IsOneMaster network members =
    (master : DeviceId) × IsSomeAnd (member_of network master) (λ member. members.0 ≡ 2 ^ member)

-- the link leads from a switch to the device, its parent
pub record IsFromSwitch (network : Network) (device : DeviceId) (link : LinkId) : Type 0 where
  pub parent : IsParentOf network device link
  pub from_switch : IsSomeAnd (link_at network link) (λ l. is_end network l.child ≡ false)

-- these octets may arrive at the device by the link
pub record MayArrive (network : Network) (device : DeviceId) (link : LinkId) (octets : List ℕ) : Type 0 where
  pub at : IsLinkAt network device link
  pub least : 60 ≤ length octets
  pub most : length octets ≤ 1514
  pub one_master : IsFromSwitch network device link → (frame : Pcf) → signal_of octets ≡ control (Ok frame)
      → IsOneMaster network frame.members

-- the frame that comes by a link from below is that of one master: of the link's child, where this is an end system
pub record IsOfMaster (network : Network) (device : DeviceId) (link : LinkId) (members : Members) : Type 0 where
  pub one : IsOneMaster network members
  pub own : (child : DeviceId) → IsChildOf network child link → is_end network child ≡ true
      → IsSomeAnd (member_of network child) (λ member. members.0 ≡ 2 ^ member)

-- this frame may be permanent at the device at the moment
pub record MayRipen (network : Network) (device : DeviceId) (node : Node) (moment : Moment) (link : LinkId)
    (frame : Pcf) (point : Units) : Type 0 where
  pub at : IsLinkAt network device link
  pub waits : waits_for network device link ≡ true
  pub reached : point.0 ≤ℤ moment.reading.0
  pub in_time : moment.reading.0 <ℤ (point.0 +ℤ network.precision.0)
  pub kind : frame.kind ≡ Integration
  pub priority : frame.priority ≡ network.priority
  pub domain : frame.domain ≡ network.domain
  pub clock : frame.clock ≤ amount network.dmax
  pub from_below : IsParentOf network device link → IsOfMaster network device link frame.members
  pub not_before : node.last.time.0 <ℤ moment.time.0 → node.last.reading.0 ≤ℤ point.0
  pub from_zero : pos 0 ≤ℤ point.0
  pub after_points : All (λ p. p.reading ≤ℤ point.0) node.points
  pub after_emitted : All (λ sent. sent.at.0 ≤ℤ point.0) node.emitted

-- the device has something left to do
abbrev pub HasTask : Network → DeviceId → Node → Type 0
HasTask network device node = (task : Task) × IsPending network device node task

-- something that it has left to do is due at the reading
abbrev pub HasDue : Network → DeviceId → Node → ℤ → Type 0
HasDue network device node reading =
    (task : Task) × IsPending network device node task × (reading_for network node task ≤ℤ reading)

-- some link is at the device
abbrev pub HasLink : Network → DeviceId → Type 0
HasLink network device = (link : LinkId) × IsLinkAt network device link

-- the device takes what is permanent: it is at some link, and neither off nor broken
pub record IsHearing (network : Network) (device : DeviceId) (node : Node) : Type 0 where
  pub linked : HasLink network device
  pub on : is_off node.standing.state ≡ false
  pub sound : node.broken ≡ false

-- ---- what each call asks of a device: nothing is asked where such a call never comes

-- it may act: if it has anything left to do, something is due
pub record MayAct (network : Network) (device : DeviceId) (node : Node) (moment : Moment) : Type 0 where
  pub call : MayCall network device node moment acting
  pub due : HasTask network device node → HasDue network device node moment.reading.0

-- a frame of these octets may come to it by the link
pub record MayHear (network : Network) (device : DeviceId) (node : Node) (moment : Moment) (link : LinkId)
    (octets : List ℕ) : Type 0 where
  pub call : MayCall network device node moment arriving
  pub least : 60 ≤ length octets
  pub most : length octets ≤ 1514
  pub arrives : HasLink network device → MayArrive network device link octets

-- this frame may be permanent
pub record MayTake (network : Network) (device : DeviceId) (node : Node) (moment : Moment) (link : LinkId) (frame : Pcf)
    (point : Units) : Type 0 where
  pub call : MayCall network device node moment ripening
  pub reached : point.0 ≤ℤ moment.reading.0
  pub in_time : moment.reading.0 <ℤ (point.0 +ℤ network.precision.0)
  pub ripens : IsHearing network device node → MayRipen network device node moment link frame point

-- the machine stands as some device of some network, for which this holds
abbrev pub StandsFor : {M : Type 0} → (M → Network → DeviceId → Node → Type 0) → M
    → (Network → DeviceId → Node → Type 0) → Type 0
StandsFor stands machine P =
    (network : Network) × (device : DeviceId) × (node : Node) × stands machine network device node
    × P network device node
