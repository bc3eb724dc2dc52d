-- What the lines of `latency` have to do with the runs of the network.
use Rattle.std.specs.{List.Contains, Prelude.{◌+◌, ◌≡◌, ◌≤ℤ◌, ◌≤◌, List, max, min, pos, ℕ}}
use Rattle.lens_latency.specs.{Arrivals.IsArrival, Comings.AreComings}
use Rattle.lens_latency.specs.declared.{arrivals.FrameArrival.FrameArrival, comings.Coming.Coming, trips.Trip.Trip}
use Rattle.net_plan.specs.declared.ids.{DeviceId.DeviceId, LinkId.LinkId, VlId.VlId}
use Rattle.{run_law.specs.scenario.Faults.IsLinkOf, precision_law.specs.Precision.IsRunUpTo}
use Rattle.{net_plan.specs.declared.tables.VirtualLink.VirtualLink, precision_law.specs.traffic.Ports.IsRunTo}
use Rattle.precision_law.specs.traffic.Latency.{HasCorrectSender, IsDeliveryBy, IsDispatchOn}
use Rattle.run_law.specs.{declared.note.Note.Note, device.{LocalClocks.local_before, Standpoints.offset_in_cycle}}
use Rattle.run_law.specs.{law.Safety.{IsDelivered, IsOwed}, records.Happenings.{Happening, happenings, time_of}}
use Rattle.{run_law.specs.{records.Order.IsIn, scenario.Scenarios.Scenario}, schedule_tables.specs.declared.entry.Entry.Entry}
use Rattle.schedule_tables.specs.Entries.{IsOnChannel, source_of, target_of}
use Rattle.tte_units.specs.declared.frames.channel.Channel.{Channel, TheVariants.{A, B}}
use Rattle.run_law.specs.declared.note.NoteBody.TheVariants as notes

-- the frame is delivered exactly once, at a place of the device's cycle from the first to the last that the line tells
pub record ComesWithin (s : Scenario) (hs : List Happening) (vl : VlId) (of_vl : VirtualLink) (cycle : ℕ)
    (device : DeviceId) (c : Coming) : Type 0 where
  pub delivered : IsDelivered s hs vl of_vl cycle device
  pub not_before : pos (min c.a.from c.b.from) ≤ℤ offset_in_cycle s.network
      (local_before s hs device (time_of delivered.delivery))
  pub not_behind : offset_in_cycle s.network (local_before s hs device (time_of delivered.delivery)) ≤ℤ pos
      (max c.a.to c.b.to)

-- the frame of each virtual link that is owed to a device has a line, and comes within it
abbrev pub ComesAtItsPlace : Type 0
ComesAtItsPlace =
    (s : Scenario) (mark : List ℕ) (ns : List Note) (until : ℕ) (cs : List Coming)
    → IsRunTo s mark ns until → AreComings s.network cs
    → (vl : VlId) (of_vl : VirtualLink) (cycle : ℕ) (device : DeviceId)
    → IsOwed s (happenings s.network ns) until vl of_vl cycle device
    → (c : Coming) × Contains cs c × (c.vl ≡ vl) × (c.device ≡ device)
    × ComesWithin s (happenings s.network ns) vl of_vl cycle device c

-- the trip by the channel
abbrev pub trip_by : Channel → Coming → Trip
trip_by A c = c.a
trip_by B c = c.b

-- the sender dispatched the virtual link's frame of the cycle on its row of the channel by the one record, the receiver
-- delivered it by its row of the channel by the other, and the sender is not broken by then
pub record GoesBy (s : Scenario) (hs : List Happening) (c : Coming) (cycle : ℕ) (channel : Channel) (f z : Happening)
    : Type 0 where
  pub sent : IsIn f hs
  pub came : IsIn z hs
  pub in_order : time_of f ≤ time_of z
  pub first : Entry
  pub dispatched : IsDispatchOn s.network c.vl cycle f first.vl.sender first
  pub leaves : source_of first ≡ first.vl.sender
  pub by_first : IsOnChannel s.network channel first
  pub last : Entry
  pub delivered : IsDeliveryBy s.network c.vl cycle z c.device last
  pub enters : target_of last ≡ c.device
  pub by_last : IsOnChannel s.network channel last
  pub sender : HasCorrectSender s c.vl (time_of z)

-- what went by a channel was on its way as long as the line says, in world time
abbrev pub ComesInItsTime : Type 0
ComesInItsTime =
    (s : Scenario) (mark : List ℕ) (ns : List Note) (until : ℕ) (cs : List Coming) (c : Coming) (cycle : ℕ)
    (channel : Channel) (f z : Happening)
    → IsRunUpTo s mark ns until → AreComings s.network cs → Contains cs c → time_of z ≤ until
    → GoesBy s (happenings s.network ns) c cycle channel f z
    → (time_of f + (trip_by channel c).least ≤ time_of z) × (time_of z ≤ time_of f + (trip_by channel c).most)

-- the delivery is one of those that are seen, and took as long as the line says by the channel
pub record IsSeenWithin (hs : List Happening) (c : Coming) (channel : Channel) (h : Happening) : Type 0 where
  pub arrival : FrameArrival
  pub arrives : IsArrival hs h arrival
  pub of_vl : arrival.vl ≡ c.vl
  pub at : arrival.device ≡ c.device
  pub least : (trip_by channel c).least ≤ arrival.time
  pub most : arrival.time ≤ (trip_by channel c).most

-- so it is with each delivery of a frame by the channel, where its sender is not broken by then
abbrev pub DeliveriesAreSeen : Type 0
DeliveriesAreSeen =
    (s : Scenario) (mark : List ℕ) (ns : List Note) (until : ℕ) (cs : List Coming) (c : Coming) (channel : Channel)
    (h : Happening) (link : LinkId) (cause cycle : ℕ)
    → IsRunUpTo s mark ns until → AreComings s.network cs → Contains cs c → IsIn h (happenings s.network ns)
    → time_of h ≤ until → h.note.body ≡ notes.Delivered c.device link cause c.vl cycle → IsLinkOf s.network channel link
    → HasCorrectSender s c.vl (time_of h) → IsSeenWithin (happenings s.network ns) c channel h
