-- How protocol control frames travel.
use Rattle.std.specs.Option.{option_map_or}
use Rattle.std.specs.Prelude.{◌+◌, ◌<◌, ◌^◌, ◌∷◌, ◌≡◌, ◌≤◌, ◌⊎◌, List, Some, [], false, fold, map, pos, ℕ, ℤ}
use Rattle.drift_clock.specs.Reach.{IsReach}
use Rattle.{drift_clock.specs.transparent.Points.point_of, net_plan.specs.declared.tables.Way.TheVariants.{Down, Up}}
use Rattle.net_plan.specs.{Paths.IsPath, Places.{IsCmOf, IsDeviceOf, IsSwitchOf}}
use Rattle.net_plan.specs.declared.{ids.LinkId.LinkId, tables.Way.Way}
use Rattle.{net_plan.specs.declared.ids.DeviceId.DeviceId, precision_law.specs.Bases.{IsEmission, IsHeard, base_of}}
use Rattle.precision_law.specs.{Standings.IsTimely, Views.{IsBad, IsDispatch, IsGood, IsView, View}}
use Rattle.run_law.specs.{control.Arrivals.is_gate_shut, scenario.Devices.{channel_of, channel_of_link, member_of}}
use Rattle.run_law.specs.{control.Leaving.Gives, records.{Order.IsIn, Ranks.members_in}}
use Rattle.run_law.specs.{device.Standpoints.standpoint, records.{Causes.GoesBackTo, Happenings.{Happening, time_of}}}
use Rattle.run_law.specs.device.States.{cycle_in, is_off, state_before}
use Rattle.run_law.specs.scenario.{Faults.IsLinkOf, Ways.{is_cut, receiver_of, way_from, way_to}}
use Rattle.tte_units.specs.declared.frames.{channel.Channel.Channel, members.Members.Members}
use Rattle.run_law.specs.declared.note.NoteBody.TheVariants as notes

-- ---- legs

-- one link of a frame's way: the record by which it is given to the link, those of its leaving and of its arrival
pub record Leg : Type 0 where
  pub link : LinkId
  pub giving : Happening
  pub leaving : Happening
  pub arriving : Happening

-- the records are those of one frame on the way of the link, from a device to another
pub record IsLeg (v : View) (way : Way) (leg : Leg) : Type 0 where
  pub sender : DeviceId
  pub receiver : DeviceId
  pub given : IsIn leg.giving v.records
  pub gives : Gives v.scenario.network leg.giving.note.body sender leg.link
  pub left : IsIn leg.leaving v.records
  pub left_clock : ℕ
  pub leaves : leg.leaving.note.body ≡ notes.Left sender leg.link leg.giving.note.number left_clock
  pub arrived : IsIn leg.arriving v.records
  pub arrived_clock : ℕ
  pub arrives : leg.arriving.note.body ≡ notes.Arrived receiver leg.link leg.leaving.note.number arrived_clock
  pub from_way : way_from v.scenario.network sender leg.link ≡ way
  pub on_way : way_to v.scenario.network receiver leg.link ≡ way
  pub comes_to : receiver_of v.scenario.network leg.link way ≡ Some receiver

-- the legs lead the frame from the first record to the last
abbrev pub IsTrip : View → Way → Happening → List Leg → Happening → Type 0
IsTrip v way first [] last = first ≡ last
IsTrip v way first (leg ∷ legs) last = (leg.giving ≡ first) × IsLeg v way leg × IsTrip v way leg.arriving legs last

-- the links of the legs
abbrev pub links_of : List Leg → List LinkId
links_of legs = map (λ leg. leg.link) legs

-- the same, from the last to the first
abbrev pub links_back : List Leg → List LinkId
links_back legs = fold (λ links leg. leg.link ∷ links) [] legs

-- ---- how long a trip takes

-- the frame's clock, at the record
abbrev pub clock_in : Happening → ℕ
clock_in h = option_map_or (λ frame. frame.clock) h.frame 0

-- the frame that arrived by the record is permanent at q, at this point
pub record IsPermanentAt (v : View) (arrival : Happening) (device : DeviceId) (point : ℤ) (q : ℕ) : Type 0 where
  pub link : LinkId
  pub from : ℕ
  pub clock : ℕ
  pub is : arrival.note.body ≡ notes.Arrived device link from clock
  pub at_point : point ≡ point_of (pos (v.scenario.reading device (time_of arrival))) clock (pos v.sizes.dmax)
  pub reached : IsReach (v.scenario.reading device) (pos (time_of arrival)) point (pos q)

-- dmax after the first record of a trip, but for the path error, the frame is permanent
pub record IsInTime (v : View) (first : Happening) (q : ℕ) : Type 0 where
  pub not_early : time_of first + v.sizes.dmax ≤ q + v.sizes.path
  pub not_late : q ≤ time_of first + v.sizes.dmax + v.sizes.path

-- so is each frame that went up the path of a device
abbrev pub TripsUpTakeDmax : Type 0
TripsUpTakeDmax =
    (v : View) (first last : Happening) (legs : List Leg) (channel : Channel) (device cm : DeviceId) (point : ℤ) (q : ℕ)
    → IsView v
    → IsDeviceOf v.scenario.network channel device → IsPath v.scenario.network channel device (links_of legs)
    → clock_in first ≡ 0 → IsTrip v Up first legs last → (p : IsPermanentAt v last cm point q) → clock_in last ≡ p.clock
    → IsInTime v first q

-- and each that came down to a device
abbrev pub TripsDownTakeDmax : Type 0
TripsDownTakeDmax =
    (v : View) (first last : Happening) (legs : List Leg) (channel : Channel) (device : DeviceId) (point : ℤ) (q : ℕ)
    → IsView v
    → IsDeviceOf v.scenario.network channel device → IsPath v.scenario.network channel device (links_back legs)
    → clock_in first ≡ 0 → IsTrip v Down first legs last → (p : IsPermanentAt v last device point q)
    → clock_in last ≡ p.clock → IsInTime v first q

-- ---- where frames come from

-- the frame of the record is that of a good master, and came up from it leg by leg
pub record IsOfGood (v : View) (h : Happening) : Type 0 where
  pub first : Happening
  pub master : DeviceId
  pub dispatch : IsDispatch v first master (cycle_in h)
  pub member : ℕ
  pub is_member : member_of v.scenario.network master ≡ Some member
  pub members : members_in h ≡ 2 ^ member
  pub legs : List Leg
  pub trip : IsTrip v Up first legs h
  pub in_order : time_of first < time_of h

-- it is one of a broken master
pub record IsOfBad (v : View) (h : Happening) : Type 0 where
  pub master : DeviceId
  pub bad : IsBad v master
  pub member : ℕ
  pub is_member : member_of v.scenario.network master ≡ Some member
  pub members : members_in h ≡ 2 ^ member

-- what arrives on a way up is a master's
abbrev pub FramesUpAreOfMasters : Type 0
FramesUpAreOfMasters =
    (v : View) (h : Happening) (switch : DeviceId) (link : LinkId) (cause clock : ℕ) → IsView v → IsIn h v.records
    → h.note.body ≡ notes.Arrived switch link cause clock → way_to v.scenario.network switch link ≡ Up
    → IsOfGood v h ⊎ IsOfBad v h

-- the frame of the record is a compressed one, and came down from its compression master leg by leg
pub record IsOfCm (v : View) (h : Happening) : Type 0 where
  pub first : Happening
  pub cm : DeviceId
  pub emission : IsEmission v first cm (cycle_in h) (record { 0 = members_in h })
  pub legs : List Leg
  pub trip : IsTrip v Down first legs h
  pub back : GoesBackTo v.records h first
  pub in_order : time_of first ≤ time_of h
  pub same_channel : (device : DeviceId) (link : LinkId) (cause clock : ℕ)
      → h.note.body ≡ notes.Arrived device link cause clock → channel_of_link v.scenario.network link ≡ channel_of
      v.scenario.network cm

-- what arrives on a way down is such a frame
abbrev pub FramesDownAreOfCms : Type 0
FramesDownAreOfCms =
    (v : View) (h : Happening) (device : DeviceId) (link : LinkId) (cause clock : ℕ) → IsView v → IsIn h v.records
    → h.note.body ≡ notes.Arrived device link cause clock → way_to v.scenario.network device link ≡ Down
    → IsOfCm v h

-- ---- what the sound channel delivers

-- the gate of the device, if it is a relay, is open for what arrives at the time
abbrev pub IsOpen : View → DeviceId → ℕ → Type 0
IsOpen v device t = is_gate_shut v.scenario.network device (standpoint v.scenario v.records device t) ≡ false

-- each switch of the channel is open while a trip that begins at the time may last
abbrev pub AreOpenOn : View → Channel → ℕ → Type 0
AreOpenOn v channel t =
    (switch : DeviceId) (u : ℕ) → IsSwitchOf v.scenario.network channel switch → t ≤ u
    → u + v.sizes.path ≤ t + v.sizes.dmax → IsOpen v switch u

-- those of the sound channel are
abbrev pub AreOpenFrom : View → ℕ → Type 0
AreOpenFrom v t = AreOpenOn v v.channel t

-- from the time on no way of a link of the channel is cut, and its switches are on
pub record IsWholeFrom (v : View) (channel : Channel) (from : ℕ) : Type 0 where
  pub ways : (link : LinkId) (way : Way) (t : ℕ) → IsLinkOf v.scenario.network channel link → from ≤ t → t ≤ v.until
      → is_cut v.scenario link way t ≡ false
  pub on : (switch : DeviceId) (t : ℕ) → IsSwitchOf v.scenario.network channel switch → from ≤ t
      → is_off (state_before v.scenario v.records switch t) ≡ false

-- the frame comes to the device over these legs, and is permanent there
pub record IsBrought (v : View) (way : Way) (first : Happening) (device : DeviceId) : Type 0 where
  pub legs : List Leg
  pub last : Happening
  pub trip : IsTrip v way first legs last
  pub point : ℤ
  pub q : ℕ
  pub permanent : IsPermanentAt v last device point q
  pub in_time : IsInTime v first q

-- the dispatch of a good master comes to the compression master of a channel that is whole from it on
abbrev pub FramesGoUp : Type 0
FramesGoUp =
    (v : View) (channel : Channel) (h : Happening) (master cm : DeviceId) (cycle : ℕ) → IsView v
    → IsWholeFrom v channel (time_of h) → IsDispatch v h master cycle → IsCmOf v.scenario.network channel cm
    → AreOpenOn v channel (time_of h) → time_of h + v.sizes.dmax + v.sizes.path ≤ v.until
    → IsBrought v Up h cm

-- so it does on the sound channel
abbrev pub SoundFramesGoUp : Type 0
SoundFramesGoUp =
    (v : View) (h : Happening) (master cm : DeviceId) (cycle : ℕ) → IsView v → IsDispatch v h master cycle
    → IsCmOf v.scenario.network v.channel cm → AreOpenFrom v (time_of h)
    → time_of h + v.sizes.dmax + v.sizes.path ≤ v.until
    → IsBrought v Up h cm

-- the frame that this sends comes to each device of the channel that is good and on
abbrev pub FramesGoDown : Type 0
FramesGoDown =
    (v : View) (channel : Channel) (h : Happening) (device cm : DeviceId) (cycle : ℕ) (members : Members) → IsView v
    → IsWholeFrom v channel (time_of h) → IsEmission v h cm cycle members
    → IsCmOf v.scenario.network channel cm → IsDeviceOf v.scenario.network channel device → IsGood v device
    → (device ≡ cm → ⊥)
    → AreOpenOn v channel (time_of h) → time_of h + v.sizes.dmax + v.sizes.path ≤ v.until
    → ((u : ℕ) → time_of h ≤ u → u + v.sizes.path ≤ time_of h + v.sizes.dmax
    → is_off (state_before v.scenario v.records device u) ≡ false)
    → IsBrought v Down h device

-- so it does on the sound channel
abbrev pub SoundFramesGoDown : Type 0
SoundFramesGoDown =
    (v : View) (h : Happening) (device cm : DeviceId) (cycle : ℕ) (members : Members) → IsView v
    → IsEmission v h cm cycle members
    → IsCmOf v.scenario.network v.channel cm → IsDeviceOf v.scenario.network v.channel device → IsGood v device
    → (device ≡ cm → ⊥)
    → AreOpenFrom v (time_of h) → time_of h + v.sizes.dmax + v.sizes.path ≤ v.until
    → ((u : ℕ) → time_of h ≤ u → u + v.sizes.path ≤ time_of h + v.sizes.dmax
    → is_off (state_before v.scenario v.records device u) ≡ false)
    → IsBrought v Down h device

-- what a device hears is timely
abbrev pub HeardFramesAreTimely : Type 0
HeardFramesAreTimely =
    (v : View) (device : DeviceId) (channel : Channel) (cycle : ℕ) (members : Members) (h : Happening) (q : ℕ)
    (point : ℤ) (expected : ℕ) → IsView v
    → IsHeard v device channel cycle members h q point expected
    → IsTimely v.sizes (v.scenario.reading device) (base_of v.sizes (time_of h)) q point expected
