-- What reading has to do with the layout of a capture.
use Rattle.std.specs.Prelude.{◌%◌, ◌+◌, ◌<◌, ◌↔◌, ◌≡◌, ◌≢◌, ◌≤◌, ◌⊎◌, Bool, Err, List, None, Ok, Some, length}
use Rattle.std.specs.Prelude.{slice_index, ℕ}
use Rattle.tte_observers.specs.captures.pcap.Layout.{IsHead, IsPacket, ethernet, head_length, magic, most_captured}
use Rattle.tte_observers.specs.captures.pcap.{Layout.{number, stamp_length}, Reading.{opened, packet_at}}
use Rattle.tte_observers.specs.declared.captures.pcap.refusal.CaptureRefusal.TheVariants.{Cut, Header, LinkType, Magic}
use Rattle.tte_observers.specs.declared.captures.pcap.refusal.CaptureRefusal.TheVariants.{PacketLength, Version}
use Rattle.tte_observers.specs.declared.captures.pcap.refusal.CaptureRefusal.{CaptureRefusal}
use Rattle.tte_observers.specs.declared.captures.pcap.capture.{CaptureHead.CaptureHead, Packet.Packet}

-- the file is long enough, and the magic stands in this byte order
pub record HasMagic (file : List ℕ) (big : Bool) : Type 0 where
  pub size : head_length ≤ length file
  pub magic : number big 4 0 file ≡ magic

-- the version is 2.4
abbrev pub HasVersion : List ℕ → Bool → Type 0
HasVersion file big = (number big 2 4 file ≡ 2) × (number big 2 6 file ≡ 4)

-- the header has this fault, and none that is judged before it
abbrev pub HasHeadFault : List ℕ → CaptureRefusal → Type 0
HasHeadFault file (Header n) = (length file ≡ n) × (n < head_length)
HasHeadFault file Magic = (head_length ≤ length file) × ((big : Bool) → number big 4 0 file ≢ magic)
HasHeadFault file Version = (big : Bool) × HasMagic file big × ¬ HasVersion file big
HasHeadFault file LinkType =
    (big : Bool) × HasMagic file big × HasVersion file big × (number big 4 20 file % 65536 ≢ ethernet)
HasHeadFault file (PacketLength n) = ⊥
HasHeadFault file Cut = ⊥

-- what stands at a place has this fault, and none that is judged before it
abbrev pub HasPacketFault : CaptureHead → List ℕ → ℕ → CaptureRefusal → Type 0
HasPacketFault head file at (PacketLength n) =
    (at + stamp_length ≤ length file) × (number head.big 4 (at + 8) file ≡ n) × (most_captured < n)
HasPacketFault head file at Cut =
    ((at < length file) × (length file < at + stamp_length))
    ⊎ ((number head.big 4 (at + 8) file ≤ most_captured)
    × (at + stamp_length ≤ length file) × (length file < at + stamp_length + number head.big 4 (at + 8) file))
HasPacketFault head file at (Header n) = ⊥
HasPacketFault head file at Magic = ⊥
HasPacketFault head file at Version = ⊥
HasPacketFault head file at LinkType = ⊥

-- each number of the list is an octet
abbrev pub AreOctets : List ℕ → Type 0
AreOctets file = (i : ℕ) → slice_index file i < 256

-- opening finds the header that the octets spell, and refuses the fault that stands first
pub record FindsHead : Type 0 where
  pub found : (file : List ℕ) (head : CaptureHead) → AreOctets file → (opened file ≡ Ok head) ↔ IsHead file head
  pub refused : (file : List ℕ) (e : CaptureRefusal) → AreOctets file → (opened file ≡ Err e) ↔ HasHeadFault file e

-- a packet is found exactly where it stands, none exactly at the end, and a refusal exactly at the fault that stands
-- first
pub record FindsPackets : Type 0 where
  pub found : (head : CaptureHead) (file : List ℕ) (at : ℕ) (p : Packet) → at ≤ length file
      → (packet_at head file at ≡ Ok (Some p)) ↔ IsPacket head file at p
  pub ended : (head : CaptureHead) (file : List ℕ) (at : ℕ) → at ≤ length file
      → (packet_at head file at ≡ Ok None) ↔ (at ≡ length file)
  pub refused : (head : CaptureHead) (file : List ℕ) (at : ℕ) (e : CaptureRefusal) → at ≤ length file
      → (packet_at head file at ≡ Err e) ↔ HasPacketFault head file at e
