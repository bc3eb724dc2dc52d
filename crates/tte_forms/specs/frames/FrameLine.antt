-- The lines that `show` writes.
use Rattle.std.specs.{Fmt.decimal, Prelude.{◌++◌, List, codes, ℕ}}
use Rattle.{byteorder.specs.Endian.big_bytes, hex.specs.Hex.encode_lower}
use Rattle.{pcf_codec.specs.declared.refusal.PcfRefusal.PcfRefusal, tte_units.specs.declared.frames.pcf.Pcf.Pcf}
use Rattle.tte_units.specs.declared.frames.pcf.PcfKind.{PcfKind, TheVariants.{ColdStart, ColdStartAck, Integration}}
use Rattle.pcf_codec.specs.declared.refusal.PcfRefusal.TheVariants as refusals

-- the name of a frame's type
abbrev pub kind_text : PcfKind → List ℕ
kind_text Integration = codes "IN"
kind_text ColdStart = codes "CS"
kind_text ColdStartAck = codes "CA"

-- a number of n octets in lower-case hexadecimal
abbrev pub hex_text : ℕ → ℕ → List ℕ
hex_text n x = encode_lower (big_bytes n x)

-- the words of a frame, from its type on
unfoldable pub frame_words : Pcf → List ℕ
frame_words p =
    kind_text p.kind
    ++ codes " cycle " ++ decimal p.cycle ++ codes " members " ++ hex_text 4 p.members.0
    ++ codes " priority " ++ decimal p.priority ++ codes " domain " ++ decimal p.domain
    ++ codes " clock " ++ decimal p.clock
    ++ codes " to " ++ hex_text 6 p.destination ++ codes " from " ++ hex_text 6 p.source

-- the line of a frame
unfoldable pub frame_line : ℕ → Pcf → List ℕ
frame_line number p = codes "frame " ++ decimal number ++ codes " " ++ frame_words p ++ codes "\n"

-- why a frame is refused
abbrev pub refusal_text : PcfRefusal → List ℕ
refusal_text (refusals.Length n) = codes "length " ++ decimal n
refusal_text refusals.EtherType = codes "ethertype"
refusal_text (refusals.Reserved i) = codes "reserved " ++ decimal i
refusal_text (refusals.Kind k) = codes "type " ++ hex_text 1 k

-- the line of a frame that is refused
unfoldable pub refusal_line : ℕ → PcfRefusal → List ℕ
refusal_line number e = codes "refused frame " ++ decimal number ++ codes " " ++ refusal_text e ++ codes "\n"
