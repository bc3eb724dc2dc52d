-- What the answer of `capture` has to do with the packets that stand in a file.
use Rattle.std.specs.{Fmt.decimal, Prelude.{◌++◌, ◌+◌, ◌∷◌, ◌≡◌, ◌≤◌, ◌⊎◌, List, [], codes, length, ℕ}}
use Rattle.{pcf_codec.specs.EtherType.HasPcfType, tte_observers.specs.captures.Answer.{capture_answer, capture_limit}}
use Rattle.{pcf_codec.specs.Faults.IsFirstFault, tte_forms.specs.frames.FrameLine.{frame_words, refusal_text}}
use Rattle.{pcf_codec.specs.Spelling.Spells, tte_observers.specs.captures.pcap.Layout.{IsHead, IsPacket, head_length}}
use Rattle.{pcf_codec.specs.declared.refusal.PcfRefusal.PcfRefusal, tte_units.specs.declared.frames.pcf.Pcf.Pcf}
use Rattle.tte_forms.specs.{Answering.{Answer, line_answer}, declared.status.Status.TheVariants.{CaptureRefused, Done}}
use Rattle.tte_observers.specs.captures.CaptureLine.{head_refusal_line, octets_words, packet_line, packet_refusal_line}
use Rattle.tte_observers.specs.captures.pcap.ReadingLaw.{AreOctets, HasHeadFault, HasPacketFault}
use Rattle.tte_observers.specs.declared.captures.pcap.refusal.CaptureRefusal.{CaptureRefusal}
use Rattle.tte_observers.specs.declared.captures.pcap.capture.{CaptureHead.CaptureHead, Packet.Packet}

-- the octets have the words of the control frame that they spell; where they spell none, of their first fault, if they
-- count as one, and else of their number
pub record ShowsOctets : Type 0 where
  pub control : (octets : List ℕ) (p : Pcf) → Spells octets p → octets_words octets ≡ frame_words p
  pub refused : (octets : List ℕ) (e : PcfRefusal) → HasPcfType octets → IsFirstFault octets e
      → octets_words octets ≡ codes "refused " ++ refusal_text e
  pub other : (octets : List ℕ) → ¬ HasPcfType octets → octets_words octets ≡ codes "other " ++ decimal (length octets)

-- these packets stand one behind another, the first at a place, and the place behind the last is this one
abbrev pub StandFrom : CaptureHead → List ℕ → ℕ → List Packet → ℕ → Type 0
StandFrom head file at [] behind = at ≡ behind
StandFrom head file at (p ∷ ps) behind = IsPacket head file at p × StandFrom head file p.to ps behind

-- some packets stand one behind another from a place on, up to the end of the file, or up to one that is refused
abbrev pub HasPackets : CaptureHead → List ℕ → ℕ → Type 0
HasPackets head file at =
    (ps : List Packet)
    × (StandFrom head file at ps (length file)
    ⊎ ((behind : ℕ) × (e : CaptureRefusal) × StandFrom head file at ps behind × HasPacketFault head file behind e))

-- the header of the file is refused, or it stands there and packets stand behind it
abbrev pub IsJudged : List ℕ → Type 0
IsJudged file =
    ((e : CaptureRefusal) × HasHeadFault file e)
    ⊎ ((head : CaptureHead) × IsHead file head × HasPackets head file head_length)

-- the lines of packets, numbered from k on
abbrev pub packet_lines : ℕ → List ℕ → List Packet → List (List ℕ)
packet_lines k file [] = []
packet_lines k file (p ∷ ps) = packet_line k file p ∷ packet_lines (k + 1) file ps

-- the lines of the packets
abbrev pub whole_answer : List ℕ → List Packet → Answer
whole_answer file ps = record { status = Done; lines = packet_lines 1 file ps }

-- the lines of the packets, and then the refusal of what stands behind them
abbrev pub refused_behind : List ℕ → List Packet → CaptureRefusal → Answer
refused_behind file ps e =
    record { status = CaptureRefused; lines = packet_lines 1 file ps ++ packet_refusal_line (length ps + 1) e ∷ [] }

-- the file is none that is too long, and its octets are octets
pub record IsFile (file : List ℕ) : Type 0 where
  pub short : length file ≤ capture_limit
  pub octets : AreOctets file

-- a file shows its packets, up to the first that is refused, where one is, or the refusal of its header; each file is
-- one of these three
pub record ShowsPackets : Type 0 where
  pub each : (file : List ℕ) → IsFile file → IsJudged file
  pub unopened : (file : List ℕ) (e : CaptureRefusal) → IsFile file → HasHeadFault file e
      → capture_answer file ≡ line_answer CaptureRefused (head_refusal_line e)
  pub whole : (file : List ℕ) (head : CaptureHead) (ps : List Packet) → IsFile file → IsHead file head
      → StandFrom head file head_length ps (length file)
      → capture_answer file ≡ whole_answer file ps
  pub refused : (file : List ℕ) (head : CaptureHead) (ps : List Packet) (at : ℕ) (e : CaptureRefusal)
      → IsFile file → IsHead file head → StandFrom head file head_length ps at → HasPacketFault head file at e
      → capture_answer file ≡ refused_behind file ps e
