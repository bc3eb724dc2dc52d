-- Reading what was written.
use Rattle.std.specs.Prelude.{◌<◌, ◌^◌, ◌∷◌, ◌≡◌, ◌≤◌, All, List, None, Ok, Some, [], false, length, slice_range, ℕ}
use Rattle.tte_observers.specs.captures.pcap.{Layout.{head_length, most_written}, Writing.{Stamped, capture_octets}}
use Rattle.tte_observers.specs.captures.pcap.Reading.{opened, packet_at}
use Rattle.tte_observers.specs.declared.captures.pcap.capture.{CaptureHead.CaptureHead, Packet.Packet}

-- the octets and their stamp can be written
pub record IsWritable (s : Stamped) : Type 0 where
  pub seconds : s.seconds < 2 ^ 32
  pub micros : s.micros < 2 ^ 32
  pub short : length s.octets ≤ most_written

-- the packet in the file shows the stamp and the octets, and that none was left out
pub record Shows (file : List ℕ) (p : Packet) (s : Stamped) : Type 0 where
  pub seconds : p.seconds ≡ s.seconds
  pub micros : p.micros ≡ s.micros
  pub octets : slice_range file p.from p.to ≡ s.octets
  pub original : p.original ≡ length s.octets

-- from a place on, reading gives packets that show these octets, in order, and then the end
abbrev pub Reads : CaptureHead → List ℕ → ℕ → List Stamped → Type 0
Reads head file at [] = packet_at head file at ≡ Ok None
Reads head file at (s ∷ ss) =
    (p : Packet) × (packet_at head file at ≡ Ok (Some p)) × Shows file p s × Reads head file p.to ss

-- the byte order in which a capture is written
abbrev pub written_head : CaptureHead
written_head = record { big = false }

-- the capture of these octets is opened, and its packets are read behind the header
pub record IsReadBack (ss : List Stamped) : Type 0 where
  pub head : opened (capture_octets ss) ≡ Ok written_head
  pub packets : Reads written_head (capture_octets ss) head_length ss

-- whatever is written is read back
abbrev pub ReadsBack : Type 0
ReadsBack = (ss : List Stamped) → All IsWritable ss → IsReadBack ss
