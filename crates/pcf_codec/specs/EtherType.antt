use Rattle.std.specs.Prelude.{◌≡◌, ◌≤◌, List, length, ℕ}
use Rattle.pcf_codec.specs.Fields.{field}

-- the EtherType of a protocol control frame (SAE AS6802)
abbrev pub pcf_type : ℕ
pcf_type = 0x891d

-- the least EtherType (IEEE 802.3)
abbrev pub least_type : ℕ
least_type = 0x0600

-- the octets reach to the EtherType, and it is that of a protocol control frame
abbrev pub HasPcfType : List ℕ → Type 0
HasPcfType octets = (14 ≤ length octets) × (field 12 2 octets ≡ pcf_type)
