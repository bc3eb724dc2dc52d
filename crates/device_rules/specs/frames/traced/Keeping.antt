-- What a trace keeps of records.
use Rattle.std.specs.Prelude.{◌++◌, ◌+◌, ◌≡◌, ◌≤◌, List, None, Option, Some, [], drop, length, map, option_map}
use Rattle.std.specs.Prelude.{slice_get, suc, take, zero, ℕ}
use Rattle.device_rules.specs.declared.frames.traced.kept.{KeptFrame.KeptFrame, SentPiece.SentPiece}
use Rattle.device_rules.specs.frames.traced.RecordOctets.{record_octets, shown}
use Rattle.{net_plan.specs.declared.network.Network.Network, run_law.specs.declared.note.{Note.Note, NoteBody.NoteBody}}
use Rattle.{pcf_codec.specs.{Decoding.decoded, Encoded.encoded}, tte_units.specs.declared.frames.pcf.Pcf.Pcf}
use Rattle.run_law.specs.records.{Frames.tt_frame, Happenings.{Happening, frame_by, frame_in, happenings, octets_by}}
use Rattle.device_rules.specs.declared.frames.traced.kept.KeptFrame.TheVariants as kept

-- what is kept of a record: its control frame, its octets, and those that it shows
pub record Traced : Type 0 where
  pub frame : Option Pcf
  pub octets : List ℕ
  pub shown : Option (List ℕ)

-- what is kept of a record, as its run has it
abbrev pub traced : Happening → Traced
traced h = record { frame = h.frame; octets = h.octets; shown = record_octets h }

-- the same of a further record with this body
abbrev pub traced_by : Network → List Happening → NoteBody → Traced
traced_by network before body = record {
  frame = frame_by network before body;
  octets = octets_by network before body;
  shown = shown body (frame_by network before body) (octets_by network before body);
}

-- a trace: the records of a network so far
pub record TraceView : Type 0 where
  pub network : Network
  pub records : List Traced

-- the trace keeps these records of the network
pub record Keeps (network : Network) (ns : List Note) (trace : TraceView) : Type 0 where
  pub network_is : trace.network ≡ network
  pub records_are : trace.records ≡ map traced (happenings network ns)

-- the entry of this number, from 1; 0 is the number of none
abbrev pub at_number : {X : Type 0} → List X → ℕ → Option X
at_number xs zero = None
at_number xs (suc before) = slice_get xs before

-- these octets of those of all `send` events
abbrev pub piece_in : List ℕ → SentPiece → List ℕ
piece_in pool piece = take piece.len (drop piece.from pool)

-- the octets stand there, and are no more than a frame has
pub record IsPieceOf (pool : List ℕ) (piece : SentPiece) : Type 0 where
  pub there : piece.from + piece.len ≤ length pool
  pub most : piece.len ≤ 1514

-- the octets that are kept stand there
abbrev pub IsHeld : List ℕ → KeptFrame → Type 0
IsHeld pool (kept.Send piece) = IsPieceOf pool piece
IsHeld pool (kept.Came piece) = IsPieceOf pool piece
IsHeld pool other = Unit {0}

-- the control frame that is kept
abbrev pub kept_frame : List ℕ → KeptFrame → Option Pcf
kept_frame pool (kept.Control frame) = Some frame
kept_frame pool (kept.Silent frame) = Some frame
kept_frame pool (kept.Send piece) = frame_in (decoded (piece_in pool piece))
kept_frame pool other = None

-- the octets of a `send` event or of a time-triggered frame that are kept
abbrev pub kept_octets : Network → List ℕ → KeptFrame → List ℕ
kept_octets network pool (kept.Made vl cycle) = tt_frame network vl cycle
kept_octets network pool (kept.Send piece) = piece_in pool piece
kept_octets network pool (kept.Came piece) = piece_in pool piece
kept_octets network pool other = []

-- the octets that are shown
abbrev pub kept_shown : Network → List ℕ → KeptFrame → Option (List ℕ)
kept_shown network pool kept.Nothing = None
kept_shown network pool (kept.Control frame) = Some (encoded frame)
kept_shown network pool (kept.Silent frame) = None
kept_shown network pool (kept.Made vl cycle) = Some (tt_frame network vl cycle)
kept_shown network pool (kept.Send piece) = Some (piece_in pool piece)
kept_shown network pool (kept.Came piece) = Some (piece_in pool piece)

-- what is kept of a record, seen with all octets that are kept
abbrev pub view_of : Network → List ℕ → KeptFrame → Traced
view_of network pool kept = record {
  frame = kept_frame pool kept;
  octets = kept_octets network pool kept;
  shown = kept_shown network pool kept;
}

-- the same of each record
abbrev pub views_of : Network → List ℕ → List KeptFrame → List Traced
views_of network pool records = map (view_of network pool) records

-- a frame with these octets, which a later record than its own shows
abbrev pub came : List ℕ → Traced
came octets = record { frame = None; octets = octets; shown = Some octets }

-- a control frame that the record shows, if there is one
abbrev pub control : Option Pcf → Traced
control frame = record { frame = frame; octets = []; shown = option_map encoded frame }

-- a control frame that the record does not show, if there is one
abbrev pub silent : Option Pcf → Traced
silent frame = record { frame = frame; octets = []; shown = None }

-- further octets stand behind those of before
abbrev pub Grows : List ℕ → List ℕ → Type 0
Grows old new = (more : List ℕ) × (new ≡ old ++ more)
