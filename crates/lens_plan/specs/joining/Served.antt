-- What it is for a network to serve messages.
use Rattle.std.specs.{List.{All, Contains}, Prelude.{◌+◌, ◌≡◌, ◌≤◌, IfSome, IsSomeAnd, List, Some, length, slice_get, ℕ}}
use Rattle.net_plan.specs.{Places.IsEndSystem, declared.{network.Network.Network, tables.VirtualLink.VirtualLink}}
use Rattle.{net_plan.specs.declared.ids.{DeviceId.DeviceId, VlId.VlId}, lens_plan.specs.messages.Message.Message}
use Rattle.schedule_tables.specs.{Entries.{IsEntry, IsOnChannel, source_of, target_of}, Schedule.EntersOn, Windows.window_end}
use Rattle.{schedule_tables.specs.declared.entry.Entry.Entry, tte_units.specs.Amount.amount}
use Rattle.tte_units.specs.declared.frames.channel.Channel.{Channel}

-- the virtual link is one that the message asks for
pub record IsAskedFor (m : Message) (vl : VirtualLink) : Type 0 where
  pub name : vl.name ≡ m.name
  pub id : IfSome m.id (λ id. vl.id ≡ id)
  pub length : vl.length ≡ m.length
  pub ethertype : vl.ethertype ≡ m.ethertype
  pub sender : vl.sender ≡ m.sender
  pub period : vl.period ≡ m.period
  pub phase : IfSome m.phase (λ phase. vl.phase ≡ phase)

-- the row, if it leaves the sender, does so no earlier than the message asks for; if it enters an end system, that is a
-- receiver, and the window there ends no later than the message asks for
pub record KeepsMessage (network : Network) (m : Message) (entry : Entry) : Type 0 where
  pub after : source_of entry ≡ m.sender → IfSome m.after (λ t. t ≤ amount entry.row.offset)
  pub receiver : IsEndSystem network (target_of entry) → Contains m.receivers (target_of entry)
  pub by : IsEndSystem network (target_of entry) → IfSome m.by (λ t. window_end network entry ≤ t)

-- the row is the virtual link's, and enters the device on the channel
pub record Comes (network : Network) (vl : VlId) (channel : Channel) (device : DeviceId) (entry : Entry) : Type 0 where
  pub own : entry.row.vl ≡ vl
  pub on_channel : IsOnChannel network channel entry
  pub target : target_of entry ≡ device

-- each row of the virtual link does so
abbrev pub RowsKeepMessage : Network → VlId → Message → Type 0
RowsKeepMessage network vl m =
    (place : ℕ) (entry : Entry) → IsEntry network place entry → entry.row.vl ≡ vl → KeepsMessage network m entry

-- rows of the virtual link enter the device on both channels
abbrev pub IsReached : Network → VlId → DeviceId → Type 0
IsReached network vl device = (channel : Channel) → EntersOn network vl channel device

-- the virtual link serves the message: it is as the message asks for, its rows keep to the message, and they enter each
-- receiver on both channels
pub record IsServedBy (network : Network) (vl : VlId) (m : Message) : Type 0 where
  pub asked : IsSomeAnd (slice_get network.vl vl.0) (IsAskedFor m)
  pub rows : RowsKeepMessage network vl m
  pub reached : All (IsReached network vl) m.receivers

-- the planned network has one more virtual link for each message, in their order, which serves it
pub record AreServed (network planned : Network) (ms : List Message) : Type 0 where
  pub counted : length planned.vl ≡ length network.vl + length ms
  pub each : (k : ℕ) (m : Message) → slice_get ms k ≡ Some m
      → IsServedBy planned (record { 0 = length network.vl + k }) m
