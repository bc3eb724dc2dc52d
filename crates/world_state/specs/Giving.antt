-- Frames that are given to links.
use Rattle.std.specs.{List.Sorted.IsPermutation, Option.option_map_or}
use Rattle.std.specs.Prelude.{if◌then◌else◌, ◌&&◌, ◌+◌, ◌<◌, ◌^◌, ◌∷◌, ◌≡◌, ◌≤◌, ◌⊎◌, Bool, List, None, Option, Some}
use Rattle.std.specs.Prelude.{length, not, option_and_then, option_map, pos, slice_get, true, ℕ}
use Rattle.{drift_clock.specs.transparent.Points.point_of, net_plan.specs.declared.ids.DeviceId.DeviceId}
use Rattle.{net_plan.specs.Rules.IsChildOf, run_law.specs.records.Order.IsIn, tte_units.specs.Amount.amount}
use Rattle.{net_plan.specs.declared.ids.LinkId.LinkId, run_law.specs.control.{Leaving.Gives, Permanence.waits_for}}
use Rattle.{net_plan.specs.declared.network.Network.Network, run_law.specs.control.Wires.{time_on_port, timed}}
use Rattle.{run_law.specs.declared.note.NoteBody.NoteBody, world_state.specs.declared.queue.Entry.Entry}
use Rattle.run_law.specs.scenario.{Devices.{IsParentOf, is_parent_of}, Ways.{receiver_of, way_from}}
use Rattle.{tte_units.specs.declared.frames.pcf.Pcf.Pcf, world_state.specs.{Views.octets_of, declared.giving.Directions.Directions}}
use Rattle.world_state.specs.declared.contents.{Content.{Content, TheVariants.{Port, Wire}}, WayState.WayState}
use Rattle.world_state.specs.declared.{contents.{Timed.Timed, Waits.Waits}, giving.Giving.Giving, queue.DueAt.DueAt}
use Rattle.world_state.specs.declared.contents.Signal.TheVariants as signals
use Rattle.run_law.specs.declared.note.NoteBody.TheVariants as kinds

-- there are so many links that what arrived came by one
abbrev pub CameBy : ℕ → NoteBody → Type 0
CameBy n (kinds.Arrived device link cause clock) = link.0 < n
CameBy n other = Unit {0}

-- how long a frame that the device gives to the link is held
abbrev pub hold_by : Network → List WayState → List WayState → DeviceId → LinkId → ℕ
hold_by network ups downs device link =
    option_map_or (λ w. w.hold) (slice_get (if is_parent_of network device link then downs else ups) link.0) 0

-- what is given so goes to the link, of which the device is the child or the parent
abbrev pub IsGivenBy : Network → Directions → DeviceId → LinkId → Type 0
IsGivenBy network ends device link =
    ((ends.up ≡ true) × IsChildOf network device link) ⊎ ((ends.down ≡ true) × IsParentOf network device link)

-- where it is at the port
abbrev pub place_at_port : Network → List WayState → List WayState → Giving → LinkId → DueAt
place_at_port network ups downs giving link = record {
  at = giving.time + hold_by network ups downs giving.device link;
  rank = 8;
  device = giving.device.0;
  link = link.0;
  cause = giving.number;
}

-- what is put to the port of the link
abbrev pub entry_at_port : Network → List WayState → List WayState → Giving → LinkId → Entry Content
entry_at_port network ups downs giving link = record {
  place = place_at_port network ups downs giving link;
  content = Port giving.frame giving.reading;
}

-- what is given to the links before this one is put to their ports
pub record ArePutTo (n : ℕ) (network : Network) (ups downs : List WayState) (body : NoteBody) (giving : Giving)
    (old new : List (Entry Content)) : Type 0 where
  pub real : (e : Entry Content) → IsIn e new → IsIn e old
      ⊎ ((link : LinkId) × (link.0 < n) × Gives network body giving.device link
      × (e ≡ entry_at_port network ups downs giving link))
  pub kept : (e : Entry Content) → IsIn e old → IsIn e new
  pub all : (link : LinkId) → link.0 < n → Gives network body giving.device link
      → IsIn (entry_at_port network ups downs giving link) new

-- ---- what is put on a wire

-- how long what the device sends on the link is on the wire
abbrev pub delay_by : Network → List WayState → List WayState → DeviceId → LinkId → ℕ
delay_by network ups downs device link =
    option_map_or (λ w. w.delay) (slice_get (if is_parent_of network device link then downs else ups) link.0) 0

-- where what the device sends on the link arrives, where it is so long on the port
abbrev pub place_on_wire : Network → List WayState → List WayState → DeviceId → LinkId → ℕ → ℕ → ℕ → Option DueAt
place_on_wire network ups downs device link time on_port number =
    option_map
    (λ receiver. record {
      at = time + on_port + delay_by network ups downs device link;
      rank = 2;
      device = receiver.0;
      link = link.0;
      cause = number;
    })
    (receiver_of network link (way_from network device link))

abbrev pub control_on_wire : Pcf → DueAt → Entry Content
control_on_wire frame place = record { place = place; content = Wire (signals.Control frame) }

abbrev pub timed_on_wire : Timed → DueAt → Entry Content
timed_on_wire octets place = record { place = place; content = Wire (signals.Timed octets) }

-- what the record of this number, given at the time, puts on a wire
abbrev pub wire_entry : Network → List WayState → List WayState → NoteBody → Option Pcf → Option Timed → ℕ → ℕ
    → Option (Entry Content)
wire_entry network ups downs (kinds.Left device link cause clock) frame octets time number =
    option_and_then (λ f. option_map (control_on_wire f) (place_on_wire network ups downs device link time 0 number))
    frame
wire_entry network ups downs (kinds.TtSent device link cause vl cycle) frame octets time number =
    option_and_then
    (λ o. option_map (timed_on_wire o) (place_on_wire network ups downs device link time
    (time_on_port network link (timed (octets_of network o))) number)) octets
wire_entry network ups downs other frame octets time number = None

-- it is put under way, where there is one
abbrev pub IsPutOn : Option (Entry Content) → List (Entry Content) → List (Entry Content) → Type 0
IsPutOn None old new = new ≡ old
IsPutOn (Some e) old new = IsPermutation (e ∷ old) new

-- ---- what waits

-- what arrived has a transparent clock of at most so much
abbrev pub IsYoung : ℕ → NoteBody → Type 0
IsYoung most (kinds.Arrived device link cause clock) = clock ≤ most
IsYoung most other = Unit {0}

-- a frame that waits from its arrival on, where its device's clock reads this
abbrev pub waits_from : Network → DeviceId → LinkId → ℕ → ℕ → ℕ → Pcf → Waits
waits_from network device link clock reading number frame = record {
  device = device;
  link = link;
  cause = number;
  frame = frame;
  point = record { 0 = point_of (pos reading) clock network.dmax.0 };
}

-- what waits by the record of this number, at a device that is broken or not
abbrev pub awaited_by : Network → Bool → NoteBody → Option Pcf → ℕ → ℕ → Option Waits
awaited_by network broken (kinds.Arrived device link cause clock) frame reading number =
    if not broken && waits_for network device link
    then option_map (waits_from network device link clock reading number) frame else None
awaited_by network broken other frame reading number = None

-- the device that gives the frame of a record to links, or waits for it
abbrev pub giver_of : NoteBody → Option DeviceId
giver_of (kinds.Sent device cycle) = Some device
giver_of (kinds.Compressed device opened at cycle members verdict) = Some device
giver_of (kinds.Arrived device link cause clock) = Some device
giver_of other = None

-- what is settled is no event, and a frame of the schedule that is dispatched, or that a switch took, has its octets
abbrev pub HasItsOctets : NoteBody → Option Timed → Type 0
HasItsOctets (kinds.Event line what) octets = ⊥
HasItsOctets (kinds.TtSent device link cause vl cycle) (Some octets) = Unit {0}
HasItsOctets (kinds.TtSent device link cause vl cycle) None = ⊥
HasItsOctets (kinds.Accepted device link cause vl cycle) (Some octets) = Unit {0}
HasItsOctets (kinds.Accepted device link cause vl cycle) None = ⊥
HasItsOctets other octets = Unit {0}

-- what arrived has arrived at one of so many devices
abbrev pub ArrivedAt : ℕ → NoteBody → Type 0
ArrivedAt n (kinds.Arrived device link cause clock) = device.0 < n
ArrivedAt n other = Unit {0}

-- it has a frame, where its device gives one to links
abbrev pub HasItsFrame : NoteBody → Option Pcf → Type 0
HasItsFrame body frame = (device : DeviceId) → giver_of body ≡ Some device → frame ≡ None → ⊥

-- what is settled may be given
pub record MayBeGiven (network : Network) (body : NoteBody) (frame : Option Pcf) (octets : Option Timed) : Type 0 where
  pub by : CameBy (length network.link) body
  pub young : IsYoung (amount network.dmax) body
  pub arrived : ArrivedAt (length network.device) body
  pub with_octets : HasItsOctets body octets
  pub framed : HasItsFrame body frame

-- the device whose waiting frames may change by the record: 2^32, which is none, where it is not an arrival
abbrev pub changed_device : NoteBody → ℕ
changed_device (kinds.Arrived device link cause clock) = device.0
changed_device other = 2 ^ 32
