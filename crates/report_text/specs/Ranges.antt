-- Which records have a line.
use Rattle.std.specs.{Int.w64, Prelude.{◌<◌, ◌^◌, FitsSigned, length, ℕ, ⊤}}
use Rattle.net_plan.specs.{Belonging.{HasDevice, HasLink, HasVl, IsOfNetwork}, declared.network.Network.Network}
use Rattle.{net_plan.specs.declared.ids.{DeviceId.DeviceId, VlId.VlId}, run_law.specs.declared.note.NoteBody.NoteBody}
use Rattle.{net_plan.specs.declared.ids.LinkId.LinkId, tte_units.specs.declared.units.Units.Units}
use Rattle.run_law.specs.declared.judgement.Reason.{Reason, TheVariants.{RefusedKind, RefusedLength, RefusedReserved}}
use Rattle.{run_law.specs.declared.note.Note.Note, trace_text.specs.Ranges.IsWhatInRange}
use Rattle.run_law.specs.declared.note.NoteBody.TheVariants.{Accepted, Arrived, Clock, Compressed, Corrected, Delivered}
use Rattle.run_law.specs.declared.note.NoteBody.TheVariants.{Dropped, Event, Left, Lost, Permanent, Sent, State, TtSent}

-- the device and the link are the network's
abbrev pub HasPassage : Network → DeviceId → LinkId → Type 0
HasPassage network device link = HasDevice network device × HasLink network link

-- the device, the link and the virtual link are the network's
abbrev pub HasStream : Network → DeviceId → LinkId → VlId → Type 0
HasStream network device link vl = HasDevice network device × HasLink network link × HasVl network vl

-- the devices, the links and the virtual links of what a record says are the network's
abbrev pub IsBodyOf : Network → NoteBody → Type 0
IsBodyOf network (Event line what) = IsOfNetwork network what
IsBodyOf network (Arrived device link cause clock) = HasPassage network device link
IsBodyOf network (Permanent device link cause point verdict) = HasPassage network device link
IsBodyOf network (Compressed device opened at cycle members verdict) = HasDevice network device
IsBodyOf network (Sent device cycle) = HasDevice network device
IsBodyOf network (Corrected device cycle by adjustment) = HasDevice network device
IsBodyOf network (State device state cause why) = HasDevice network device
IsBodyOf network (Left device link cause clock) = HasPassage network device link
IsBodyOf network (Lost device link cause) = HasPassage network device link
IsBodyOf network (TtSent device link cause vl cycle) = HasStream network device link vl
IsBodyOf network (Accepted device link cause vl cycle) = HasStream network device link vl
IsBodyOf network (Delivered device link cause vl cycle) = HasStream network device link vl
IsBodyOf network (Dropped device link cause reason) = HasPassage network device link
IsBodyOf network (Clock device reading adjustment state) = HasDevice network device

-- the devices, the links and the virtual links of the record are the network's
abbrev pub IsNoteOf : Network → Note → Type 0
IsNoteOf network note = IsBodyOf network note.body

-- a number of 64 bits
abbrev pub IsCount : ℕ → Type 0
IsCount n = n < 2 ^ 64

-- a number of 32 bits
abbrev pub IsShortCount : ℕ → Type 0
IsShortCount n = n < 2 ^ 32

-- a number of units of 64 bits, with its sign
abbrev pub IsSignedUnits : Units → Type 0
IsSignedUnits units = FitsSigned w64 units.0

-- the numbers of why a frame is refused lie in their ranges
abbrev pub IsReasonInRange : Reason → Type 0
IsReasonInRange (RefusedLength length) = IsShortCount length
IsReasonInRange (RefusedReserved offset) = offset < 2 ^ 8
IsReasonInRange (RefusedKind octet) = octet < 2 ^ 8
IsReasonInRange reason = ⊤

-- the numbers of what a record says lie in their ranges
abbrev pub IsBodyInRange : NoteBody → Type 0
IsBodyInRange (Event line what) = IsCount line × IsWhatInRange what
IsBodyInRange (Arrived device link cause clock) = IsCount cause × IsCount clock
IsBodyInRange (Permanent device link cause point verdict) = IsCount cause × IsSignedUnits point
IsBodyInRange (Compressed device opened at cycle members verdict) =
    IsSignedUnits opened × IsSignedUnits at × IsShortCount cycle × IsShortCount members.0
IsBodyInRange (Sent device cycle) = IsShortCount cycle
IsBodyInRange (Corrected device cycle by adjustment) = IsShortCount cycle × IsSignedUnits by × IsSignedUnits adjustment
IsBodyInRange (State device state cause why) = IsCount cause
IsBodyInRange (Left device link cause clock) = IsCount cause × IsCount clock
IsBodyInRange (Lost device link cause) = IsCount cause
IsBodyInRange (TtSent device link cause vl cycle) = IsCount cause × IsShortCount cycle
IsBodyInRange (Accepted device link cause vl cycle) = IsCount cause × IsShortCount cycle
IsBodyInRange (Delivered device link cause vl cycle) = IsCount cause × IsShortCount cycle
IsBodyInRange (Dropped device link cause reason) = IsCount cause × IsReasonInRange reason
IsBodyInRange (Clock device reading adjustment state) = IsSignedUnits reading × IsSignedUnits adjustment

-- the record's numbers lie in their ranges
pub record IsNoteInRange (note : Note) : Type 0 where
  pub number : IsCount note.number
  pub time : IsSignedUnits note.time
  pub body : IsBodyInRange note.body
