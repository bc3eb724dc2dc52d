-- The octets of a capture that is written, the least octet of each number first.
use Rattle.std.specs.Prelude.{◌++◌, ◌∷◌, List, [], length, replicate, ℕ}
use Rattle.byteorder.specs.Endian.{little_bytes}
use Rattle.tte_observers.specs.captures.pcap.Layout.{ethernet, magic, most_captured}

-- the header: the magic, version 2.4, no zone and no significant figures, the greatest captured length, the link type
unfoldable pub head_octets : List ℕ
head_octets =
    little_bytes 4 magic ++ (little_bytes 2 2 ++ (little_bytes 2 4 ++ (replicate 8 0
    ++ (little_bytes 4 most_captured ++ little_bytes 4 ethernet))))

-- what stands before the octets of a packet: its stamp, and its length as captured and before
unfoldable pub stamp_octets : ℕ → ℕ → ℕ → List ℕ
stamp_octets seconds micros n =
    little_bytes 4 seconds ++ (little_bytes 4 micros ++ (little_bytes 4 n ++ little_bytes 4 n))

-- a packet of these octets, all of which were captured
abbrev pub packet_octets : ℕ → ℕ → List ℕ → List ℕ
packet_octets seconds micros octets = stamp_octets seconds micros (length octets) ++ octets

-- octets and their stamp
pub record Stamped : Type 0 where
  pub seconds : ℕ
  pub micros : ℕ
  pub octets : List ℕ

-- packets of these octets, one after another
abbrev pub packets_octets : List Stamped → List ℕ
packets_octets [] = []
packets_octets (s ∷ ss) = packet_octets s.seconds s.micros s.octets ++ packets_octets ss

-- the capture of these octets
abbrev pub capture_octets : List Stamped → List ℕ
capture_octets ss = head_octets ++ packets_octets ss
