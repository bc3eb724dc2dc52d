-- The octets that are written for a protocol control frame.
use Rattle.std.specs.Prelude.{◌++◌, ◌∷◌, List, replicate, ℕ}
use Rattle.byteorder.specs.Endian.{big_bytes}
use Rattle.{pcf_codec.specs.{EtherType.pcf_type, Spelling.code_of}, tte_units.specs.declared.frames.pcf.Pcf.Pcf}

-- the spelling of the frame with zero padding, field by field in the order of their offsets: the two addresses,
-- the EtherType, the cycle, the members; 4 zeros; the priority, the domain, the kind; 5 zeros; the clock; 18 zeros
unfoldable pub encoded : Pcf → List ℕ
encoded p =
    big_bytes 6 p.destination
    ++ (big_bytes 6 p.source
    ++ (big_bytes 2 pcf_type
    ++ (big_bytes 4 p.cycle
    ++ (big_bytes 4 p.members.0
    ++ (replicate 4 0
    ++ (p.priority ∷ p.domain ∷ code_of p.kind
    ∷ (replicate 5 0
    ++ (big_bytes 8 p.clock
    ++ replicate 18 0))))))))
