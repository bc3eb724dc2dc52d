-- The layout of a capture (the classic pcap file format): a header of 24 octets, and then packets.
use Rattle.std.specs.Prelude.{if◌then◌else◌, ◌%◌, ◌+◌, ◌≡◌, ◌≤◌, Bool, List, drop, length, ℕ}
use Rattle.byteorder.specs.Endian.{big_number, little_number}
use Rattle.tte_observers.specs.declared.captures.pcap.capture.{CaptureHead.CaptureHead, Packet.Packet}

-- how many octets the header has
abbrev pub head_length : ℕ
head_length = 24

-- the number at the front
abbrev pub magic : ℕ
magic = 0xa1b2c3d4

-- the link type of Ethernet
abbrev pub ethernet : ℕ
ethernet = 1

-- how many octets stand before those of a packet
abbrev pub stamp_length : ℕ
stamp_length = 16

-- how many octets of a packet are captured at most
abbrev pub most_captured : ℕ
most_captured = 262144

-- how many octets a packet has at most that is written: those of an Ethernet frame
abbrev pub most_written : ℕ
most_written = 1514

-- the number that n octets from an offset on spell, the greatest octet first or the least octet first
unfoldable pub number : Bool → ℕ → ℕ → List ℕ → ℕ
number big n at octets = if big then big_number n (drop at octets) else little_number n (drop at octets)

-- the file begins with a header in this byte order; the zone, the significant figures and the greatest captured length
-- may be any
pub record IsHead (file : List ℕ) (head : CaptureHead) : Type 0 where
  pub size : head_length ≤ length file
  pub magic : number head.big 4 0 file ≡ magic
  pub major : number head.big 2 4 file ≡ 2
  pub minor : number head.big 2 6 file ≡ 4
  pub link_type : number head.big 4 20 file % 65536 ≡ ethernet

-- this packet begins at a place in the file, and all its captured octets are there
pub record IsPacket (head : CaptureHead) (file : List ℕ) (at : ℕ) (p : Packet) : Type 0 where
  pub seconds : number head.big 4 at file ≡ p.seconds
  pub micros : number head.big 4 (at + 4) file ≡ p.micros
  pub from : at + stamp_length ≡ p.from
  pub to : p.from + number head.big 4 (at + 8) file ≡ p.to
  pub original : number head.big 4 (at + 12) file ≡ p.original
  pub small : p.to ≤ p.from + most_captured
  pub whole : p.to ≤ length file
