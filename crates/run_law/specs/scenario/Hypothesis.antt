-- The fault hypothesis: which events may befall a network, given those before.
use Rattle.std.specs.List.{count_by, enumerate_from, list_any}
use Rattle.std.specs.Prelude.{◌&&◌, ◌*◌, ◌++◌, ◌+ℤ◌, ◌<ℤ◌, ◌<◌, ◌==◌, ◌^◌, ◌∷◌, ◌≡◌, ◌≢◌, ◌⊎◌, Bool, IsSomeAnd, List}
use Rattle.std.specs.Prelude.{[], false, is_some, not, pos, true, unsigned_abs, ℕ}
use Rattle.net_plan.specs.Places.{device_at, is_master, link_at}
use Rattle.tte_units.specs.declared.frames.channel.Channel.{Channel}
use Rattle.{net_plan.specs.declared.{event.Event.Event, ids.LinkId.LinkId}, tte_units.specs.declared.units.Units.Units}
use Rattle.{net_plan.specs.declared.event.What.What, tte_units.specs.{Amount.amount, declared.rates.Ppb.Ppb}}
use Rattle.net_plan.specs.declared.{ids.DeviceId.DeviceId, network.Network.Network, tables.{Device.Device, Way.Way}}
use Rattle.run_law.specs.declared.outside.Outside.TheVariants.{Channel as OtherChannel, Hold, Late, NotBroken}
use Rattle.run_law.specs.declared.outside.Outside.TheVariants.{NotMaster, NotOff, Order, Rate, SecondBreak}
use Rattle.run_law.specs.declared.outside.Outside.{Outside, TheVariants.{TooFewMasters, Wire}}
use Rattle.run_law.specs.scenario.Faults.{BeginsOn, Breaks, IsBroken, IsFaulty, IsLinkOf, IsTurnedOn}
use Rattle.net_plan.specs.declared.event.What.TheVariants as events

-- the last of the events is later
pub record ComesTooEarly (before : List Event) (event : Event) : Type 0 where
  pub front : List Event
  pub last : Event
  pub order : before ≡ front ++ last ∷ []
  pub later : event.time.0 <ℤ last.time.0

-- the event comes behind the last cycle of a run
abbrev pub ComesTooLate : Network → Event → Type 0
ComesTooLate network event = pos (2 ^ 20 * amount network.cycle) <ℤ event.time.0

-- it sets a rate of a greater magnitude than rho
pub record SetsFastRate (network : Network) (event : Event) : Type 0 where
  pub device : DeviceId
  pub rate : Ppb
  pub what : event.what ≡ events.Rate device rate
  pub fast : network.rho < unsigned_abs rate.0

-- it sets a wire delay that is less than the link's wire, or more than that and the jitter
pub record SetsOtherWire (network : Network) (event : Event) : Type 0 where
  pub link : LinkId
  pub way : Way
  pub delay : Units
  pub what : event.what ≡ events.Wire link way delay
  pub other : IsSomeAnd (link_at network link) (λ l. (delay.0 <ℤ l.wire.0) ⊎ ((l.wire.0 +ℤ l.jitter.0) <ℤ delay.0))

-- it sets a hold that is more than the link's
pub record SetsLongHold (network : Network) (event : Event) : Type 0 where
  pub link : LinkId
  pub way : Way
  pub delay : Units
  pub what : event.what ≡ events.Hold link way delay
  pub long : IsSomeAnd (link_at network link) (λ l. l.hold.0 <ℤ delay.0)

-- it cuts a link of one channel, and the other channel is the faulty one
pub record CutsOtherChannel (network : Network) (before : List Event) (event : Event) : Type 0 where
  pub link : LinkId
  pub way : Way
  pub channel : Channel
  pub faulty : Channel
  pub what : event.what ≡ events.Cut link way
  pub on : IsLinkOf network channel link
  pub is_faulty : IsFaulty network before faulty
  pub other : faulty ≢ channel

-- it breaks a device that is no master
pub record BreaksNoMaster (network : Network) (event : Event) : Type 0 where
  pub device : DeviceId
  pub breaks : Breaks device event
  pub no_master : IsSomeAnd (device_at network device) (λ d. is_master d.role ≡ true) → ⊥

-- it breaks a device, and one is broken
pub record BreaksSecond (before : List Event) (event : Event) : Type 0 where
  pub device : DeviceId
  pub broken : DeviceId
  pub breaks : Breaks device event
  pub is_broken : IsBroken before broken

-- does the event break the device at the place?
abbrev pub breaks_at : ℕ → What → Bool
breaks_at place (events.Rate device rate) = false
breaks_at place (events.Wire link way delay) = false
breaks_at place (events.Hold link way delay) = false
breaks_at place (events.Cut link way) = false
breaks_at place (events.Heal link way) = false
breaks_at place (events.On device) = false
breaks_at place (events.Break device) = device.0 == place
breaks_at place (events.Send link octets) = false
breaks_at place events.End = false

-- is the device at the place a master that began on and that none of the events breaks?
abbrev pub is_sound_master : List Event → ℕ × Device → Bool
is_sound_master befallen placed =
    is_master placed.1.role && is_some placed.1.start && not (list_any (λ e. breaks_at placed.0 e.what) befallen)

-- how many masters began on and are not broken by the events
abbrev pub sound_masters : Network → List Event → ℕ
sound_masters network befallen = count_by (is_sound_master befallen) (enumerate_from 0 network.device)

-- it breaks a device, and leaves fewer sound masters than count as enough
pub record LeavesTooFew (network : Network) (before : List Event) (event : Event) : Type 0 where
  pub device : DeviceId
  pub breaks : Breaks device event
  pub few : sound_masters network (before ++ event ∷ []) < network.sync_threshold

-- it sends on a link whose child is not broken
pub record SendsUnbroken (network : Network) (before : List Event) (event : Event) : Type 0 where
  pub link : LinkId
  pub octets : List ℕ
  pub what : event.what ≡ events.Send link octets
  pub unbroken : IsSomeAnd (link_at network link) (λ l. IsBroken before l.child) → ⊥

-- it turns a device on that began on, that was turned on, or that is broken
pub record TurnsOnAgain (network : Network) (before : List Event) (event : Event) : Type 0 where
  pub device : DeviceId
  pub what : event.what ≡ events.On device
  pub known : BeginsOn network device ⊎ IsTurnedOn before device ⊎ IsBroken before device

-- the event breaks the condition, given those before it
abbrev pub Violates : Network → List Event → Event → Outside → Type 0
Violates network before event Order = ComesTooEarly before event
Violates network before event Late = ComesTooLate network event
Violates network before event Rate = SetsFastRate network event
Violates network before event Wire = SetsOtherWire network event
Violates network before event Hold = SetsLongHold network event
Violates network before event OtherChannel = CutsOtherChannel network before event
Violates network before event NotMaster = BreaksNoMaster network event
Violates network before event SecondBreak = BreaksSecond before event
Violates network before event TooFewMasters = LeavesTooFew network before event
Violates network before event NotBroken = SendsUnbroken network before event
Violates network before event NotOff = TurnsOnAgain network before event

-- the number of the condition
abbrev pub condition_number : Outside → ℕ
condition_number Order = 1
condition_number Late = 2
condition_number Rate = 3
condition_number Wire = 4
condition_number Hold = 5
condition_number OtherChannel = 6
condition_number NotMaster = 7
condition_number SecondBreak = 8
condition_number TooFewMasters = 9
condition_number NotBroken = 10
condition_number NotOff = 11

-- the event is within the hypothesis, given those before it
abbrev pub IsWithinHypothesis : Network → List Event → Event → Type 0
IsWithinHypothesis network before event = (condition : Outside) → Violates network before event condition → ⊥

-- the event is outside by this condition, the first that it breaks
pub record IsOutsideBy (network : Network) (before : List Event) (event : Event) (condition : Outside) : Type 0 where
  pub violates : Violates network before event condition
  pub first : (earlier : Outside) → condition_number earlier < condition_number condition
      → Violates network before event earlier → ⊥

-- each of the events is within the hypothesis, given those before it
abbrev pub AreWithinHypothesis : Network → List Event → Type 0
AreWithinHypothesis network all =
    (before behind : List Event) (event : Event) → all ≡ before ++ event ∷ behind
    → IsWithinHypothesis network before event
