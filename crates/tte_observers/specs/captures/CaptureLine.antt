-- The lines that `capture` writes.
use Rattle.std.specs.{Fmt.decimal, Prelude.{slice_range, ℕ}}
use Rattle.std.specs.Prelude.{◌&&◌, ◌++◌, ◌==◌, Bool, Err, List, Ok, Result, codes, if◌then◌else◌, length, nat_le}
use Rattle.tte_observers.specs.declared.captures.pcap.{capture.Packet.Packet, refusal.CaptureRefusal.CaptureRefusal}
use Rattle.pcf_codec.specs.{Decoding.decoded, EtherType.pcf_type, Fields.field, declared.refusal.PcfRefusal.PcfRefusal}
use Rattle.tte_units.specs.declared.frames.pcf.Pcf.{Pcf}
use Rattle.tte_forms.specs.frames.FrameLine.{frame_words, refusal_text}
use Rattle.tte_observers.specs.declared.captures.pcap.refusal.CaptureRefusal.TheVariants as reasons

-- whether octets count as a control frame: they reach to the EtherType, and it is that of one
abbrev pub has_pcf_type : List ℕ → Bool
has_pcf_type octets = nat_le 14 (length octets) && (field 12 2 octets == pcf_type)

-- the words of octets that spell no control frame, by the fault that stands first
abbrev pub no_frame_words : List ℕ → PcfRefusal → List ℕ
no_frame_words octets e =
    if has_pcf_type octets
    then codes "refused " ++ refusal_text e
    else codes "other " ++ decimal (length octets)

-- the words of octets, by what they are read as
abbrev pub words_of : List ℕ → Result Pcf PcfRefusal → List ℕ
words_of octets (Ok frame) = frame_words frame
words_of octets (Err e) = no_frame_words octets e

-- the words of octets: of the control frame that they spell, why they spell none although they count as one, or how
-- many they are
abbrev pub octets_words : List ℕ → List ℕ
octets_words octets = words_of octets (decoded octets)

-- the octets of a packet that were captured
abbrev pub captured_octets : List ℕ → Packet → List ℕ
captured_octets file p = slice_range file p.from p.to

-- the line of a packet
unfoldable pub packet_line : ℕ → List ℕ → Packet → List ℕ
packet_line number file p =
    codes "packet " ++ decimal number ++ codes " time " ++ decimal p.seconds ++ codes " " ++ decimal p.micros
    ++ codes " " ++ octets_words (captured_octets file p) ++ codes "\n"

-- why a header or a packet is refused
abbrev pub reason_text : CaptureRefusal → List ℕ
reason_text (reasons.Header n) = codes "header " ++ decimal n
reason_text reasons.Magic = codes "magic"
reason_text reasons.Version = codes "version"
reason_text reasons.LinkType = codes "linktype"
reason_text (reasons.PacketLength n) = codes "length " ++ decimal n
reason_text reasons.Cut = codes "cut"

-- the line of a header that is refused
unfoldable pub head_refusal_line : CaptureRefusal → List ℕ
head_refusal_line e = codes "refused capture " ++ reason_text e ++ codes "\n"

-- the line of a packet that is refused
unfoldable pub packet_refusal_line : ℕ → CaptureRefusal → List ℕ
packet_refusal_line number e =
    codes "refused capture packet " ++ decimal number ++ codes " " ++ reason_text e ++ codes "\n"
