-- The way of a virtual link's frames to a receiver by one channel.
use Rattle.std.specs.Prelude.{◌-◌, ◌<◌, ◌≡◌, ◌⊎◌, None, Option, Some, ℕ}
use Rattle.lens_latency.specs.declared.trips.{TripEnd.{TripEnd, TheVariants.{First, Last}}, Trip.Trip}
use Rattle.net_plan.specs.declared.{ids.{DeviceId.DeviceId, VlId.VlId}, network.Network.Network}
use Rattle.schedule_tables.specs.{Entries.{IsEntry, IsOnChannel, source_of, target_of}, declared.entry.Entry.Entry}
use Rattle.{schedule_tables.specs.Windows.{arrival_of, tolerance, window_end}, tte_units.specs.Amount.amount}
use Rattle.tte_units.specs.declared.frames.channel.Channel.{Channel}

-- the row leaves its virtual link's sender, or it enters the receiver
abbrev pub Joins : TripEnd → Entry → Type 0
Joins First entry = source_of entry ≡ entry.vl.sender
Joins (Last device) entry = target_of entry ≡ device

-- the row is the virtual link's, on the channel, and at this end
pub record IsHop (network : Network) (vl : VlId) (channel : Channel) (hop : TripEnd) (entry : Entry) : Type 0 where
  pub own : entry.row.vl ≡ vl
  pub on_channel : IsOnChannel network channel entry
  pub joins : Joins hop entry

-- the first of the network's rows for which this holds, or none where it holds for no row
abbrev pub IsFirstOf : Network → (Entry → Type 0) → Option Entry → Type 0
IsFirstOf network Has None = (k : ℕ) (entry : Entry) → IsEntry network k entry → Has entry → ⊥
IsFirstOf network Has (Some entry) =
    (place : ℕ) × IsEntry network place entry × Has entry
    × ((k : ℕ) (other : Entry) → k < place → IsEntry network k other → Has other → ⊥)

-- the first place in the receiver's cycle at which the frame may arrive
abbrev pub window_begin : Network → Entry → ℕ
window_begin network entry = arrival_of entry - tolerance network

-- the trip by these two rows: the window of the last one, and how far its ends lie behind the offset of the first
abbrev pub trip_of : Network → Entry → Entry → Trip
trip_of network first last = record {
  least = window_begin network last - amount first.row.offset;
  most = window_end network last - amount first.row.offset;
  from = window_begin network last;
  to = window_end network last;
}

-- the trip of the virtual link's frames to the device by the channel, or none where no row leaves the sender or none
-- enters the device
abbrev pub IsTrip : Network → VlId → DeviceId → Channel → Option Trip → Type 0
IsTrip network vl device channel None =
    IsFirstOf network (IsHop network vl channel First) None
    ⊎ IsFirstOf network (IsHop network vl channel (Last device)) None
IsTrip network vl device channel (Some trip) =
    (first last : Entry) × IsFirstOf network (IsHop network vl channel First) (Some first)
    × IsFirstOf network (IsHop network vl channel (Last device)) (Some last) × (trip ≡ trip_of network first last)
