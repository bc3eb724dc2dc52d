-- The layout of a protocol control frame (SAE AS6802).
use Rattle.std.specs.Prelude.{◌<◌, ◌≡◌, ◌≤◌, ◌⊎◌, List, length, slice_index, ℕ}
use Rattle.{pcf_codec.specs.{EtherType.pcf_type, Fields.field}, tte_units.specs.declared.frames.pcf.Pcf.Pcf}
use Rattle.tte_units.specs.declared.frames.pcf.PcfKind.{PcfKind, TheVariants.{ColdStart, ColdStartAck, Integration}}

-- how many octets a frame has, without its check sequence
abbrev pub pcf_length : ℕ
pcf_length = 60

-- the type octet of each kind
abbrev pub code_of : PcfKind → ℕ
code_of Integration = 2
code_of ColdStart = 4
code_of ColdStartAck = 8

-- the offsets of the reserved octets, which are zero
abbrev pub IsReserved : ℕ → Type 0
IsReserved i = ((22 ≤ i) × (i ≤ 25)) ⊎ ((29 ≤ i) × (i ≤ 33))

-- the offsets of the padding, which is written as zeros and read with any content
abbrev pub IsPadding : ℕ → Type 0
IsPadding i = (42 ≤ i) × (i < pcf_length)

-- the octets spell the frame: each field stands at its offset
pub record Spells (octets : List ℕ) (p : Pcf) : Type 0 where
  pub size : length octets ≡ pcf_length
  pub destination : field 0 6 octets ≡ p.destination
  pub source : field 6 6 octets ≡ p.source
  pub ethertype : field 12 2 octets ≡ pcf_type
  pub cycle : field 14 4 octets ≡ p.cycle
  pub members : field 18 4 octets ≡ p.members.0
  pub priority : slice_index octets 26 ≡ p.priority
  pub domain : slice_index octets 27 ≡ p.domain
  pub kind : slice_index octets 28 ≡ code_of p.kind
  pub clock : field 34 8 octets ≡ p.clock
  pub reserved : (i : ℕ) → IsReserved i → slice_index octets i ≡ 0
