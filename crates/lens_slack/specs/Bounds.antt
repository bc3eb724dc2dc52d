-- What a network has where a rule bounds a number of it, and what the rule wants there at least.
use Rattle.std.specs.Prelude.{if◌then◌else◌, ◌*◌, ◌+◌, ◌<◌, ◌≡◌, ◌≢◌, ◌⊎◌, List, Some, nat_lt, pos, slice_get, ℕ}
use Rattle.lens_slack.specs.declared.spot.{Beside.TheVariants.{Before, Behind, Calc, Nothing}, Finding.Finding}
use Rattle.{lens_slack.specs.declared.spot.BoundedNumber.BoundedNumber, net_plan.specs.declared.ids.{DeviceId.DeviceId, LinkId.LinkId}}
use Rattle.net_plan.specs.{Bounds.{IsBeta, gamma_of}, Places.IsDeviceOf, declared.{ids.RowId.RowId, tables.Link.Link}}
use Rattle.{net_plan.specs.Paths.IsPath, tte_units.specs.Amount.amount}
use Rattle.{net_plan.specs.declared.network.Network.Network, tte_units.specs.declared.frames.channel.Channel.Channel}
use Rattle.schedule_tables.specs.{Delays.{delay_on, pcf_port_time}, Entries.{IsEntry, source_of, target_of}}
use Rattle.schedule_tables.specs.{Schedule.Coincide, Windows.{port_time, window_end}, declared.entry.Entry.Entry}
use Rattle.lens_slack.specs.declared.spot.BoundedNumber.TheVariants as spots

-- at this spot the network has so much, and so much is wanted
abbrev pub found : BoundedNumber → ℕ → ℕ → Finding
found spot has wants = record { spot = spot; has = has; wants = wants; beside = Nothing }

-- dmax, and beta with the delays of the device's path on the channel
pub record IsPathBound (network : Network) (device : DeviceId) (channel : Channel) (f : Finding) : Type 0 where
  pub beta : ℕ
  pub is_beta : IsBeta network (pos beta)
  pub links : List LinkId
  pub member : IsDeviceOf network channel device
  pub path : IsPath network channel device links
  pub is : f ≡ found (spots.Path device channel) (amount network.dmax) (beta + delay_on network links)

-- the spread of the starts, and the errors of a resynchronisation
pub record IsSettledBound (network : Network) (f : Finding) : Type 0 where
  pub beta : ℕ
  pub is_beta : IsBeta network (pos beta)
  pub is : f ≡ found spots.Settled (amount network.settled) (8 * beta + 12 * gamma_of network + 40
      * amount network.grain)

-- the precision, and the spread of the starts with twice these errors
pub record IsErrorsBound (network : Network) (f : Finding) : Type 0 where
  pub beta : ℕ
  pub is_beta : IsBeta network (pos beta)
  pub is : f ≡ found spots.Precision (amount network.precision)
      (amount network.settled + 16 * beta + 24 * gamma_of network + 80 * amount network.grain)

-- the precision, and the time of a compression
abbrev pub calc_bound : Network → Finding
calc_bound network = record {
  spot = spots.Precision;
  has = amount network.precision;
  wants = amount network.calc;
  beside = Calc;
}

-- the errors are the first bound of the precision, and the compression is the second
abbrev pub IsPrecisionBound : Network → ℕ → Finding → Type 0
IsPrecisionBound network n f = ((n ≡ 0) × IsErrorsBound network f) ⊎ ((n ≡ 1) × (f ≡ calc_bound network))

-- the place of the correction, and the time by which each frame of the cycle has been heard
abbrev pub correction_bound : Network → Finding
correction_bound network =
    found spots.Correction (amount network.correction)
    (2 * amount network.dmax + amount network.calc + 10 * amount network.precision)

-- where the schedule begins, and when the last protocol control frame has left the link
abbrev pub begin_bound : Network → Link → Finding
begin_bound network link =
    found spots.Begin (amount network.tt_start)
    (amount network.correction + amount network.dmax + 4 * amount network.precision + pcf_port_time link)

-- that of the link of this number
abbrev pub IsBeginBound : Network → ℕ → Finding → Type 0
IsBeginBound network n f = (link : Link) × (slice_get network.link n ≡ Some link) × (f ≡ begin_bound network link)

-- the cycle, and where the schedule begins with room for the precision
abbrev pub end_bound : Network → Finding
end_bound network = found spots.End (amount network.cycle) (amount network.tt_start + 4 * amount network.precision)

-- the cycle, and the end of the row's window with room for the precision
abbrev pub IsWindowBound : Network → RowId → Finding → Type 0
IsWindowBound network row f =
    (entry : Entry) × IsEntry network row.0 entry
    × (f ≡ found (spots.Window row) (amount network.cycle) (window_end network entry + 4 * amount network.precision))

-- when the entry's frame has left the port, and the clocks may have drifted
abbrev pub clear_time : Network → Entry → ℕ
clear_time network entry = amount entry.row.offset + port_time entry + gamma_of network

-- of two entries of one port, the offset of the later, and when the other is clear of it
abbrev pub gap_bound : Network → RowId → Entry → Entry → Finding
gap_bound network row earlier entry =
    if nat_lt (amount entry.row.offset) (amount earlier.row.offset)
    then record {
      spot = spots.Gap row;
      has = amount earlier.row.offset;
      wants = clear_time network entry;
      beside = Before earlier.row.vl;
    }
    else record {
      spot = spots.Gap row;
      has = amount entry.row.offset;
      wants = clear_time network earlier;
      beside = Behind earlier.row.vl;
    }

-- the rows go by one link and way, and their virtual links occur in one cycle
pub record AreOfPort (earlier entry : Entry) : Type 0 where
  pub same_link : entry.row.link ≡ earlier.row.link
  pub same_way : entry.row.way ≡ earlier.row.way
  pub coincide : Coincide entry.vl earlier.vl

-- the row and the earlier one of this number are of one port
pub record IsGapBound (network : Network) (row : RowId) (n : ℕ) (f : Finding) : Type 0 where
  pub earlier : Entry
  pub entry : Entry
  pub before : n < row.0
  pub is_earlier : IsEntry network n earlier
  pub is_entry : IsEntry network row.0 entry
  pub of_port : AreOfPort earlier entry
  pub is : f ≡ gap_bound network row earlier entry

-- the row leaves its sender: its offset, and where the schedule begins
pub record IsSenderBound (network : Network) (row : RowId) (f : Finding) : Type 0 where
  pub entry : Entry
  pub is_entry : IsEntry network row.0 entry
  pub sender : source_of entry ≡ entry.vl.sender
  pub is : f ≡ found (spots.Coming row) (amount entry.row.offset) (amount network.tt_start)

-- the one row, of the same virtual link, enters the device that the other leaves
pub record EntersSource (entering entry : Entry) : Type 0 where
  pub same_vl : entry.row.vl ≡ entering.row.vl
  pub enters : target_of entering ≡ source_of entry

-- the row's offset, and the place behind the window of the other
abbrev pub entering_bound : Network → RowId → Entry → Entry → Finding
entering_bound network row entering entry =
    found (spots.Coming row) (amount entry.row.offset) (window_end network entering + 1)

-- the row does not leave its sender, and the row of this number enters the device that it leaves
pub record IsEnteringBound (network : Network) (row : RowId) (n : ℕ) (f : Finding) : Type 0 where
  pub entering : Entry
  pub entry : Entry
  pub is_entering : IsEntry network n entering
  pub is_entry : IsEntry network row.0 entry
  pub no_sender : source_of entry ≢ entry.vl.sender
  pub enters : EntersSource entering entry
  pub is : f ≡ entering_bound network row entering entry

-- a row has the bound of its sender, or those of the rows that enter its source
abbrev pub IsComingBound : Network → RowId → ℕ → Finding → Type 0
IsComingBound network row n f = ((n ≡ 0) × IsSenderBound network row f) ⊎ IsEnteringBound network row n f

-- this is the bound of this number at the spot; a spot has none, one or several
abbrev pub IsBoundAt : Network → BoundedNumber → ℕ → Finding → Type 0
IsBoundAt network (spots.Path device channel) n f = (n ≡ 0) × IsPathBound network device channel f
IsBoundAt network spots.Settled n f = (n ≡ 0) × IsSettledBound network f
IsBoundAt network spots.Precision n f = IsPrecisionBound network n f
IsBoundAt network spots.Correction n f = (n ≡ 0) × (f ≡ correction_bound network)
IsBoundAt network spots.Begin n f = IsBeginBound network n f
IsBoundAt network spots.End n f = (n ≡ 0) × (f ≡ end_bound network)
IsBoundAt network (spots.Window row) n f = (n ≡ 0) × IsWindowBound network row f
IsBoundAt network (spots.Gap row) n f = IsGapBound network row n f
IsBoundAt network (spots.Coming row) n f = IsComingBound network row n f
