-- What a world keeps, and where the events applied to it and the records that it gave leave it.
use Rattle.std.specs.{List.last_or, Prelude.{true, ℕ}}
use Rattle.std.specs.Prelude.{◌++◌, ◌+◌, ◌-◌, ◌<◌, ◌==◌, ◌^◌, ◌↔◌, ◌∷◌, ◌≡◌, ◌≤ℤ◌, ◌≤◌, ◌⊎◌, Bool, IsSomeAnd, List}
use Rattle.std.specs.Prelude.{None, Option, Some, [], false, filter, length, pos, slice_get}
use Rattle.{drift_clock.specs.transparent.Points.point_of, world_law.specs.device.Ready.{IsReadyAt, IsSteady}}
use Rattle.net_plan.specs.Places.{link_at}
use Rattle.{net_plan.specs.Ranges.IsInRange, world_law.specs.{device.Takings.frames_taken, source.First.NoSourceBefore}}
use Rattle.{net_plan.specs.declared.{event.Event.Event, ids.LinkId.LinkId}, run_law.specs.records.Causes.IsOfThisTime}
use Rattle.{net_plan.specs.declared.{event.What.What, tables.Way.Way}, schedule_tables.specs.Rules.KeepsRules}
use Rattle.net_plan.specs.declared.{ids.DeviceId.DeviceId, network.Network.Network, tables.Way.TheVariants.{Down, Up}}
use Rattle.{net_plan.specs.declared.ids.VlId.VlId, sync_state.specs.declared.state.State.TheVariants.{Integrating, Off}}
use Rattle.{run_law.specs.control.{Leaving.Gives, Permanence.waits_for}, tte_units.specs.declared.units.Units.Units}
use Rattle.run_law.specs.{control.Wires.{Arrives, Signal}, scenario.Scenarios.{Scenario, is_broken, is_turned_on_at}}
use Rattle.run_law.specs.{declared.judgement.Why.TheVariants.On, runs.DueRecords.{EndsAt, IsCaused, IsScenarioRun}}
use Rattle.run_law.specs.{declared.note.Note.Note, machines.Nodes.{Node, Phase, acting, arriving, ripening, turning_on}}
use Rattle.{run_law.specs.declared.note.NoteBody.NoteBody, world_law.specs.device.Left.IsLeft}
use Rattle.run_law.specs.device.States.{adjustment_after, is_joined_by, state_after, state_before}
use Rattle.run_law.specs.device.LocalClocks.{changed_at}
use Rattle.run_law.specs.records.Happenings.{Happening, earlier, happening, happenings, numbered, time_of, up_to}
use Rattle.run_law.specs.records.{Order.{AllBefore, IsBefore, IsIn, NoneBefore, behind}, Ranks.{members_in, place_of, rank}}
use Rattle.run_law.specs.scenario.{Devices.{is_cm, is_end}, Ways.{delay_at, hold_at, is_cut, receiver_of, way_from}}
use Rattle.{run_law.specs.timed.Dispatching.is_accepted, tte_units.specs.{Amount.amount, declared.frames.pcf.Pcf.Pcf}}
use Rattle.world_law.specs.device.{Deeds.{HasDoneTask, HasWorkedTo}, Own.moves}
use Rattle.world_law.specs.device.Recorded.{HasCleared}
use Rattle.run_law.specs.machines.Tasks.{IsPending, Task, reading_for}
use Rattle.world_law.specs.source.Sources.{IsActing, IsArriving, IsDeparting, IsOwnSource, IsRipening, IsSource}
use Rattle.world_law.specs.source.Sources.{task_place}
use Rattle.net_plan.specs.declared.event.What.TheVariants as events
use Rattle.run_law.specs.declared.note.NoteBody.TheVariants as notes

-- what is on a wire: when it arrives, where, by which link, the record that put it there, and what it is
pub record OnWire : Type 0 where
  pub at : ℕ
  pub device : DeviceId
  pub link : LinkId
  pub cause : ℕ
  pub signal : Signal

-- a control frame at a port: when it leaves, of which device, by which link, the record that gave it, the frame, and
-- what the device's clock read when it gave it
pub record AtPort : Type 0 where
  pub at : ℕ
  pub device : DeviceId
  pub link : LinkId
  pub cause : ℕ
  pub frame : Pcf
  pub reading : ℕ

-- a frame that waits at a device for its permanence
pub record Waiting : Type 0 where
  pub device : DeviceId
  pub link : LinkId
  pub cause : ℕ
  pub frame : Pcf
  pub point : Units

-- the frame of a virtual link that a switch holds: the number of the record by which it took it, and the octets
pub record Stored : Type 0 where
  pub device : DeviceId
  pub vl : VlId
  pub number : ℕ
  pub octets : List ℕ

-- an event of the present instant, by the number of its record, whose outcome is not settled yet
pub record Befell : Type 0 where
  pub number : ℕ
  pub what : What

-- they befell in this order: each has a higher number than those before it
abbrev pub AreInOrder : List Befell → Type 0
AreInOrder [] = Unit {0}
AreInOrder (e ∷ befell) = ((f : Befell) → IsIn f befell → e.number < f.number) × AreInOrder befell

-- how a way of a link is at present
pub record WayNow : Type 0 where
  pub delay : ℕ
  pub hold : ℕ
  pub cut : Bool

-- a world. While it is `early` at the present instant, nothing but events of it is worked off. While some are
-- `pending`, what befell is kept: a later event of the instant may change what comes of it. What is settled are records
-- of the present instant that are still to be given, in their order, with the number 0
pub record World (C M : Type 0) : Type 0 where
  pub network : Network
  pub clocks : List C
  pub machines : List M
  pub broken : List Bool
  pub ups : List WayNow
  pub downs : List WayNow
  pub wires : List OnWire
  pub ports : List AtPort
  pub waiting : List Waiting
  pub stored : List Stored
  pub early : Bool
  pub pending : Bool
  pub befell : List Befell
  pub settled : List Happening
  pub now : ℕ
  pub lines : ℕ
  pub given : ℕ
  pub ended : Bool
  pub shown : ℕ

-- ---- the places of what is under way

-- where what is on a wire arrives
abbrev pub wire_place : OnWire → List ℕ
wire_place e = e.at ∷ 2 ∷ e.device.0 ∷ e.link.0 ∷ e.cause ∷ []

-- where what is at a port leaves
abbrev pub port_place : AtPort → List ℕ
port_place e = e.at ∷ 8 ∷ e.device.0 ∷ e.link.0 ∷ e.cause ∷ []

-- where a frame that waits is permanent, if that is at this time
abbrev pub ripe_place : ℕ → Waiting → List ℕ
ripe_place t e = t ∷ 3 ∷ e.device.0 ∷ amount e.point ∷ e.frame.members.0 ∷ e.link.0 ∷ e.cause ∷ []

-- a place before all that a device does by itself at the time
abbrev pub act_place : ℕ → DeviceId → List ℕ
act_place t device = t ∷ 4 ∷ device.0 ∷ []

-- where it corrects its clock; and each of its dispatches stands behind this place by its row
abbrev pub rows_place : ℕ → DeviceId → List ℕ
rows_place t device = t ∷ 6 ∷ device.0 ∷ []

-- where a device's clock is shown, at the end
abbrev pub clock_place : ℕ → DeviceId → List ℕ
clock_place t device = t ∷ 14 ∷ device.0 ∷ []

-- ---- numbers

-- more than the number of any record
abbrev pub numbers_end : ℕ
numbers_end = 2 ^ 64 - 1

-- ---- what is under way, by the records

-- each frame needs some time on its wire
abbrev pub IsForward : Scenario → Type 0
IsForward s =
    (link : LinkId) (way : Way) (device : DeviceId) (t : ℕ) → receiver_of s.network link way ≡ Some device
    → 1 ≤ delay_at s link way t

-- the record of this number put it on the wire
pub record IsOnWire (s : Scenario) (hs : List Happening) (e : OnWire) : Type 0 where
  pub putting : Happening
  pub there : numbered hs e.cause ≡ Some putting
  pub arrives : Arrives s putting e.device e.link e.at e.signal

-- the wires have what the records put there, and is not worked off; but not what pending events of the instant put
-- there
pub record AreOnWires (s : Scenario) (hs : List Happening) (frontier : List ℕ) (now : ℕ) (pending : Bool)
    (wires : List OnWire) : Type 0 where
  pub real : (e : OnWire) → IsIn e wires → (it : IsOnWire s hs e) × (pending ≡ true → time_of it.putting ≡ now → ⊥)
      × (IsBefore (wire_place e) frontier → ⊥)
  pub all : (t : ℕ) (device : DeviceId) (link : LinkId) (cause : ℕ) → (a : IsArriving s hs t device link cause)
      → (pending ≡ true → time_of a.putting ≡ now → ⊥)
      → (IsBefore (t ∷ 2 ∷ device.0 ∷ link.0 ∷ cause ∷ []) frontier → ⊥)
      → (e : OnWire) × IsIn e wires × (wire_place e ≡ t ∷ 2 ∷ device.0 ∷ link.0 ∷ cause ∷ [])

-- the record gave the frame to the link
pub record IsGivenBy (s : Scenario) (giving : Happening) (e : AtPort) : Type 0 where
  pub gives : Gives s.network giving.note.body e.device e.link
  pub held : e.at ≡ time_of giving + hold_at s e.link (way_from s.network e.device e.link) (time_of giving)
  pub of_frame : giving.frame ≡ Some e.frame
  pub read : e.reading ≡ s.reading e.device (time_of giving)

-- the record of this number gave it to the port
pub record IsAtPort (s : Scenario) (hs : List Happening) (e : AtPort) : Type 0 where
  pub giving : Happening
  pub there : numbered hs e.cause ≡ Some giving
  pub gave : IsGivenBy s giving e

-- the ports have what the records gave them, and is not worked off
pub record AreAtPorts (s : Scenario) (hs : List Happening) (frontier : List ℕ) (ports : List AtPort) : Type 0 where
  pub real : (e : AtPort) → IsIn e ports → IsAtPort s hs e × (IsBefore (port_place e) frontier → ⊥)
  pub all : (t : ℕ) (device : DeviceId) (link : LinkId) (cause : ℕ) → IsDeparting s hs t device link cause
      → (IsBefore (t ∷ 8 ∷ device.0 ∷ link.0 ∷ cause ∷ []) frontier → ⊥)
      → (e : AtPort) × IsIn e ports × (port_place e ≡ t ∷ 8 ∷ device.0 ∷ link.0 ∷ cause ∷ [])

-- for this arrival the device waits
pub record IsAwaitedFor (s : Scenario) (arrival : Happening) (e : Waiting) : Type 0 where
  pub from : ℕ
  pub clock : ℕ
  pub arrived : arrival.note.body ≡ notes.Arrived e.device e.link from clock
  pub of_frame : arrival.frame ≡ Some e.frame
  pub waits : waits_for s.network e.device e.link ≡ true
  pub at_point : e.point.0 ≡ point_of (pos (s.reading e.device (time_of arrival))) clock s.network.dmax.0

-- the record of this number is its arrival
pub record IsWaitingFor (s : Scenario) (hs : List Happening) (e : Waiting) : Type 0 where
  pub arrival : Happening
  pub there : numbered hs e.cause ≡ Some arrival
  pub awaited : IsAwaitedFor s arrival e

-- the frames that wait are those of the records for whose permanence their devices wait, and that are not worked off,
-- whether or not a reading ever comes to their points
pub record AreWaiting (s : Scenario) (hs : List Happening) (frontier : List ℕ) (now : ℕ)
    (waiting : List Waiting) : Type 0 where
  pub real : (e : Waiting) → IsIn e waiting → IsWaitingFor s hs e
  pub later : (e : Waiting) → IsIn e waiting → (t : ℕ) → IsRipening s hs t e.device e.link e.cause e.point
      → IsBefore (ripe_place t e) frontier → ⊥
  pub sound : (e : Waiting) → IsIn e waiting → is_broken s e.device now ≡ false
  pub all : (e : Waiting) → IsWaitingFor s hs e → is_broken s e.device now ≡ false
      → ((t : ℕ) → IsRipening s hs t e.device e.link e.cause e.point → IsBefore (ripe_place t e) frontier → ⊥)
      → IsIn e waiting

-- ---- what switches hold

-- the last record by which the switch took a frame of the virtual link
abbrev pub last_taking : List Happening → DeviceId → VlId → Option Happening
last_taking hs device vl = last_or None (filter (λ h. is_accepted device vl h.note.body) hs)

-- it is the frame of that record
pub record IsStored (hs : List Happening) (e : Stored) : Type 0 where
  pub taking : Happening
  pub last : last_taking hs e.device e.vl ≡ Some taking
  pub number : e.number ≡ taking.note.number
  pub octets : e.octets ≡ taking.octets

-- the switches hold, of each virtual link of which they took a frame, the last
pub record AreStored (hs : List Happening) (stored : List Stored) : Type 0 where
  pub real : (e : Stored) → IsIn e stored → IsStored hs e
  pub all : (device : DeviceId) (vl : VlId) (taking : Happening) → last_taking hs device vl ≡ Some taking
      → (e : Stored) × IsIn e stored × (e.device ≡ device) × (e.vl ≡ vl)

-- ---- a device

-- the time up to which the device has acted: the present instant, at which it has done each of its acts that is worked
-- off; or that instant is over for it, where it has corrected its clock, or a frame has told it the time, so that no frame
-- arrives any more
abbrev pub IsActedUpTo : Scenario → List Happening → ℕ → DeviceId → Node → List ℕ → ℕ → Type 0
IsActedUpTo s hs now device node frontier up =
    ((up ≡ now) × ((task : Task) → IsBefore (task_place s.network now device task) frontier
    → IsActing s hs now device task → HasDoneTask node task))
    ⊎ ((up ≡ now + 1) × ((p : List ℕ) → IsBefore p (now ∷ 3 ∷ []) → IsBefore p frontier))

-- its acts of the instant are worked off
pub record IsActedOut (s : Scenario) (hs : List Happening) (now : ℕ) (device : DeviceId) (frontier : List ℕ)
    : Type 0 where
  pub past : IsBefore (act_place now device) frontier
  pub all : (task : Task) → IsActing s hs now device task → IsBefore (task_place s.network now device task) frontier

-- the kind of call as the rank of its source
abbrev pub rank_of_call : Phase → ℕ
rank_of_call turning_on = 1
rank_of_call arriving = 2
rank_of_call ripening = 3
rank_of_call acting = 4

-- the record that the device looks for the common time, as an event turned it on
abbrev pub is_turning : DeviceId → NoteBody → Bool
is_turning device (notes.State other Integrating cause On) = device.0 == other.0
is_turning device other = false

-- the record that it was turned on at this time is there
pub record IsTurnedOnBy (hs : List Happening) (device : DeviceId) (now : ℕ) : Type 0 where
  pub by : Happening
  pub there : IsIn by hs
  pub at : time_of by ≡ now
  pub turning : is_turning device by.note.body ≡ true

-- it is turned on at this very time: before it was off, an event's record is given, and once what befell is settled,
-- the record that it was turned on is there
pub record HasTurnedOn (s : Scenario) (hs coming : List Happening) (frontier : List ℕ) (device : DeviceId)
    (now : ℕ) : Type 0 where
  pub off : state_after s (earlier now (hs ++ coming)) device ≡ Off
  pub number : ℕ
  pub event : Happening
  pub befell : IsOfThisTime hs now number event
  pub turned : IsBefore (now ∷ 2 ∷ []) frontier → IsTurnedOnBy (hs ++ coming) device now

-- the record does not move the device, or it is that it was turned on, as it was at this time
abbrev pub IsAtRest : Scenario → DeviceId → ℕ → NoteBody → Type 0
IsAtRest s device now body =
    (moves device body ≡ false) ⊎ ((is_turning device body ≡ true) × (is_turned_on_at s device now ≡ true))

-- before the time the device looked for the common time, and no compression master does so by a frame that it waits for
pub record IsJustTold (s : Scenario) (hs : List Happening) (device : DeviceId) (now : ℕ) : Type 0 where
  pub looking : state_before s hs device now ≡ Integrating
  pub other : is_cm s.network device ≡ false

-- the last call of the device's machine is not later than the place up to which all is worked off
abbrev pub IsCalledBy : Node → List ℕ → ℕ → Type 0
IsCalledBy node frontier now =
    node.last.time.0 ≡ pos now → (p : List ℕ) → IsBefore p (now ∷ rank_of_call node.phase ∷ []) → IsBefore p frontier

-- a task of it that stands at the place is due at the time
abbrev pub HasTaskAt : Scenario → DeviceId → Node → ℕ → List ℕ → Type 0
HasTaskAt s device node t place =
    (task : Task) × IsPending s.network device node task
    × (reading_for s.network node task ≤ℤ pos (s.reading device t)) × (task_place s.network t device task ≡ place)

-- it looked for the common time, and a frame of its own has told it the time, whose record is to come: by that its points
-- are gone
pub record IsJoiningNow (s : Scenario) (hs coming : List Happening) (device : DeviceId) (now : ℕ) : Type 0 where
  pub looking : state_before s hs device now ≡ Integrating
  pub by : Happening
  pub there : IsIn by coming
  pub sent : rank by.note.body ≡ 4
  pub joins : is_joined_by device by.note.body ≡ true

-- the machine of a sound device stands for a node that the records, those given and those to come, leave it; it has
-- taken what they say, it has done and sent what its clock had come to, and it may be called from now on. Only a
-- compression master has points, and sends for them. While the instant is not over for it, no record of the instant moves
-- it but that it was turned on; once it is, its acts are worked off, or it had none, as a frame told it the time
pub record IsKept {M : Type 0} (stands : M → Network → DeviceId → Node → Type 0) (s : Scenario)
    (hs coming : List Happening) (frontier : List ℕ) (now : ℕ) (device : DeviceId) (machine : M) : Type 0 where
  pub node : Node
  pub is : stands machine s.network device node
  pub sound : is_broken s device now ≡ false
  pub up : ℕ
  pub acted : IsActedUpTo s hs now device node frontier up
  pub told : up ≡ now + 1 → IsActedOut s hs now device frontier
      ⊎ (IsJustTold s (hs ++ coming) device now ⊎ IsJoiningNow s hs coming device now)
  pub left : IsLeft s (hs ++ coming) device up node
  pub taken : node.taken ≡ frames_taken s (hs ++ coming) device
  pub worked : HasWorkedTo s device node (changed_at (hs ++ coming) device up) up frontier
  pub bare : is_cm s.network device ≡ false → (node.points ≡ []) × (node.emitted ≡ [])
  pub ready : IsReadyAt (s.reading device) s.network device node now
  pub still : up ≡ now → (h : Happening) → IsIn h (hs ++ coming) → time_of h ≡ now → IsAtRest s device now h.note.body
  pub turned : is_turned_on_at s device now ≡ true → HasTurnedOn s hs coming frontier device now
  pub cleared : HasCleared node
  pub phase : IsCalledBy node frontier now

-- the machine stands for a device that is broken: it keeps the state and the adjustment of the records, and has no
-- task. What it heard, has done and sent does not count any more
pub record IsOut {M : Type 0} (stands : M → Network → DeviceId → Node → Type 0) (s : Scenario)
    (hs coming : List Happening) (frontier : List ℕ) (now : ℕ) (device : DeviceId) (machine : M) : Type 0 where
  pub node : Node
  pub is : stands machine s.network device node
  pub broken : is_broken s device now ≡ true
  pub shows : node.broken ≡ true
  pub state : node.standing.state ≡ state_after s (up_to now (hs ++ coming)) device
  pub adjustment : node.standing.adjustment ≡ adjustment_after s (up_to now (hs ++ coming)) device
  pub ready : IsReadyAt (s.reading device) s.network device node now
  pub phase : IsCalledBy node frontier now

-- the machine stands for its device, sound or broken
abbrev pub IsHeld : {M : Type 0} → (M → Network → DeviceId → Node → Type 0) → Scenario → List Happening → List Happening
    → List ℕ → ℕ → DeviceId → M → Type 0
IsHeld stands s hs coming frontier now device machine =
    IsKept stands s hs coming frontier now device machine ⊎ IsOut stands s hs coming frontier now device machine

-- ---- what is settled

-- it is due given those before it, but for its number, which it has once it is given
pub record IsDueAs (s : Scenario) (before : List Happening) (z : Happening) : Type 0 where
  pub same : z ≡ happening s.network before z.note
  pub begun : pos 0 ≤ℤ z.note.time.0
  pub cause : IsCaused s before z.note.time z.note.body

-- the source that the record comes from is worked off
abbrev pub IsWorkedOff : Scenario → List Happening → List ℕ → Happening → Type 0
IsWorkedOff s hs frontier y =
    (w : List ℕ) × IsOwnSource s hs (time_of y) (members_in y) y.note.body w × IsSource s hs w × IsBefore w frontier

-- does such a record stand at the very place of its source?
abbrev pub is_at_source : NoteBody → Bool
is_at_source (notes.Arrived device link cause clock) = true
is_at_source (notes.Permanent device link cause point verdict) = true
is_at_source (notes.Compressed device opened at cycle members verdict) = true
is_at_source (notes.Sent device cycle) = true
is_at_source (notes.Corrected device cycle by adjustment) = true
is_at_source (notes.Left device link cause clock) = true
is_at_source (notes.Clock device reading adjustment state) = true
is_at_source other = false

-- the records that are to come are together with those given the run of the sources before the frontier, but for their
-- numbers: each is not before the frontier, stands after those before it, is due given them, and comes from such a
-- source, behind the instant's events; and each that is due by such a source, and not before the frontier, has a record
-- at its place
pub record AreComing (s : Scenario) (hs coming : List Happening) (frontier : List ℕ) (now : ℕ) : Type 0 where
  pub of_now : (z : Happening) → IsIn z coming → time_of z ≡ now
  pub after : (z : Happening) → IsIn z coming → IsBefore (place_of z) frontier → ⊥
  pub founded : (front rest : List Happening) (z : Happening) → coming ≡ front ++ z ∷ rest
      → AllBefore place_of front (place_of z) × IsDueAs s (hs ++ front) z
  pub by : (front rest : List Happening) (z : Happening) → coming ≡ front ++ z ∷ rest
      → IsWorkedOff s (hs ++ front) frontier z
  pub full : (front back : List Happening) (y : Happening) → coming ≡ front ++ back
      → AllBefore place_of front (place_of y) → NoneBefore place_of back (place_of y)
      → (IsBefore (place_of y) frontier → ⊥) → IsDueAs s (hs ++ front) y → IsWorkedOff s (hs ++ front) frontier y
      → (z : Happening) × IsIn z coming × (place_of z ≡ place_of y)
  pub begun : (z : Happening) → IsIn z coming → IsBefore (now ∷ 2 ∷ []) frontier

-- ---- the ways

-- how the way of the link is at the time
abbrev pub way_now : Scenario → ℕ → LinkId → Way → WayNow
way_now s t link way = record { delay = delay_at s link way t; hold = hold_at s link way t; cut = is_cut s link way t }

-- the ways of all links are as the events leave them
pub record AreWays (s : Scenario) (now : ℕ) (ups downs : List WayNow) : Type 0 where
  pub up : (link : LinkId) → link.0 < length s.network.link → slice_get ups link.0 ≡ Some (way_now s now link Up)
  pub down : (link : LinkId) → link.0 < length s.network.link → slice_get downs link.0 ≡ Some (way_now s now link Down)

-- ---- the world

-- a clock of the device in the scenario: from the time on it reads what the scenario says. What it says of times before
-- is that of the last step of its rate
abbrev pub IsClockOf : {C : Type 0} → (C → ℕ → ℕ) → Scenario → ℕ → DeviceId → C → Type 0
IsClockOf reading s now device clock = (t : ℕ) → now ≤ t → s.reading device t ≡ reading clock t

-- the link leads from an end system
abbrev pub IsFromEnd : Network → LinkId → Type 0
IsFromEnd network link = IsSomeAnd (link_at network link) (λ l. is_end network l.child ≡ true)

-- the events so far: they have befallen, at times from 0 on, and are in the records given; and octets are sent by end
-- systems alone
pub record HaveBefallen (s : Scenario) (frontier : List ℕ) (now : ℕ) : Type 0 where
  pub past : (i : ℕ) (e : Event) → slice_get s.events i ≡ Some e → amount e.time ≤ now
  pub told : (i : ℕ) (e : Event) → slice_get s.events i ≡ Some e → IsBefore (amount e.time ∷ 1 ∷ (i + 1) ∷ []) frontier
  pub begun : (i : ℕ) (e : Event) → slice_get s.events i ≡ Some e → pos 0 ≤ℤ e.time.0
  pub sent : (i : ℕ) (e : Event) (link : LinkId) (octets : List ℕ) → slice_get s.events i ≡ Some e
      → e.what ≡ events.Send link octets → IsFromEnd s.network link

-- no record moves a device that the network does not have, and no event turns one on
pub record AreOfNetwork (s : Scenario) (hs : List Happening) : Type 0 where
  pub unmoved : (device : DeviceId) → length s.network.device ≤ device.0 → (h : Happening) → IsIn h hs
      → moves device h.note.body ≡ false
  pub never_on : (device : DeviceId) → length s.network.device ≤ device.0 → (t : ℕ) → is_turned_on_at s device t ≡ false

-- may something else come of the event than what a clock or a way does from then on? A device is turned on, or octets
-- are sent
abbrev pub has_outcome : What → Bool
has_outcome (events.On device) = true
has_outcome (events.Send link octets) = true
has_outcome other = false

-- the outcomes of the instant's events are settled, before all else of the instant; or they are pending, nothing else
-- of the instant is worked off, and what befell is that of the records
pub record AreUntold (hs : List Happening) (frontier : List ℕ) (now : ℕ) (pending : Bool)
    (befell : List Befell) : Type 0 where
  pub done : pending ≡ false → (number : ℕ) (h : Happening) → IsOfThisTime hs now number h
      → IsBefore (now ∷ 2 ∷ []) frontier
  pub none : pending ≡ false → befell ≡ []
  pub waits : pending ≡ true → (number : ℕ) × (h : Happening) × IsOfThisTime hs now number h
  pub early : pending ≡ true → (p : List ℕ) → IsBefore p frontier → IsBefore p (now ∷ 2 ∷ [])
  pub real : (e : Befell) → IsIn e befell → (line : ℕ) × (h : Happening) × IsOfThisTime hs now e.number h
      × (h.note.body ≡ notes.Event line e.what)
  pub all : pending ≡ true → (number line : ℕ) (what : What) (h : Happening) → IsOfThisTime hs now number h
      → h.note.body ≡ notes.Event line what → has_outcome what ≡ true
      → IsIn (record { number = number; what = what }) befell
  pub in_order : AreInOrder befell

-- up to the frontier the records given are the run of the scenario, and each source before it is worked off; and each
-- part is as the events and the records leave it
pub record Stands {C M : Type 0} (reading : C → ℕ → ℕ) (stands : M → Network → DeviceId → Node → Type 0) (s : Scenario)
    (world : World C M) (notes : List Note) : Type 0 where
  pub same : world.network ≡ s.network
  pub range : IsInRange s.network
  pub rules : KeepsRules s.network
  pub forward : IsForward s
  pub steady : (device : DeviceId) → IsSteady (s.reading device) (amount s.network.precision)
  pub precise : pos 0 ≤ℤ s.network.precision.0
  pub frontier : List ℕ
  pub run : IsScenarioRun s frontier notes
  pub of_now : (p : List ℕ) → IsBefore p (world.now ∷ []) → IsBefore p frontier
  pub not_later : (p : List ℕ) → IsBefore p frontier → IsBefore p ((world.now + 1) ∷ [])
  pub limit : world.now ≤ 2 ^ 60
  pub lines : world.lines ≡ length s.events
  pub given : world.given ≡ length notes
  pub ended : (time : Units) → EndsAt s.events time ↔ ((world.ended ≡ true) × (time.0 ≡ pos world.now))
  pub befallen : HaveBefallen s frontier world.now
  pub clocks : (device : DeviceId) → device.0 < length s.network.device → (clock : C)
      × (slice_get world.clocks device.0 ≡ Some clock) × IsClockOf reading s world.now device clock
  pub broken : (device : DeviceId) → device.0 < length s.network.device
      → slice_get world.broken device.0 ≡ Some (is_broken s device world.now)
  pub ways : AreWays s world.now world.ups world.downs
  pub room : length notes + length world.settled < numbers_end
  pub known : AreOfNetwork s (happenings s.network notes ++ world.settled)
  pub devices : (device : DeviceId) → device.0 < length s.network.device → (machine : M)
      × (slice_get world.machines device.0 ≡ Some machine)
      × IsHeld stands s (happenings s.network notes) world.settled frontier world.now device machine
  pub early : world.early ≡ true → (p : List ℕ) → IsBefore p frontier → IsBefore p (world.now ∷ 2 ∷ [])
  pub untold : AreUntold (happenings s.network notes) frontier world.now world.pending world.befell
  pub wires : AreOnWires s (happenings s.network notes) frontier world.now world.pending world.wires
  pub ports : AreAtPorts s (happenings s.network notes) frontier world.ports
  pub waiting : AreWaiting s (happenings s.network notes) frontier world.now world.waiting
  pub stored : AreStored (happenings s.network notes) world.stored
  pub are : AreComing s (happenings s.network notes) world.settled frontier world.now
  pub shown : (device : DeviceId) → device.0 < length s.network.device → world.ended ≡ true
      → IsBefore (clock_place world.now device) frontier ↔ (device.0 < world.shown)

-- ---- what the next record is

-- the record of what is settled, with the next number
abbrev pub note_of : List Note → Happening → Note
note_of notes z = record z.note { number = length notes + 1 }

-- where something is to come, and no source that is not worked off is before it, the run goes on by the first of it
abbrev pub FirstSettledIsNext : Type 0
FirstSettledIsNext =
    (s : Scenario) (notes : List Note) (z : Happening) (rest : List Happening) (frontier : List ℕ) (now : ℕ)
    → IsScenarioRun s frontier notes → AreComing s (happenings s.network notes) (z ∷ rest) frontier now
    → NoSourceBefore s (happenings s.network notes) frontier (place_of z)
    → IsScenarioRun s (behind (place_of z)) (notes ++ note_of notes z ∷ [])

-- where nothing is to come, and no source that is not worked off is before the time, the records are the run up to it
abbrev pub NothingSettledIsAll : Type 0
NothingSettledIsAll =
    (s : Scenario) (notes : List Note) (frontier : List ℕ) (now until : ℕ)
    → IsScenarioRun s frontier notes → AreComing s (happenings s.network notes) [] frontier now
    → ((p : List ℕ) → IsBefore p frontier → IsBefore p (until ∷ []))
    → NoSourceBefore s (happenings s.network notes) frontier (until ∷ [])
    → IsScenarioRun s (until ∷ []) notes
