-- The head of a time-triggered frame.
use Rattle.std.specs.Prelude.{◌<◌, ◌≡◌, ◌≢◌, ◌≤◌, ◌⊎◌, List, length, ℕ}
use Rattle.{pcf_codec.specs.EtherType.{least_type, pcf_type}, tte_units.specs.declared.frames.tt.TtHead.TtHead}
use Rattle.pcf_codec.specs.{Fields.field, declared.refusal.TtRefusal.{TheVariants.{EtherType, Length}, TtRefusal}}

-- how many octets an Ethernet frame has, without its check sequence (IEEE 802.3)
pub record IsFrameLength (n : ℕ) : Type 0 where
  pub least : 60 ≤ n
  pub most : n ≤ 1514

-- the octets spell the head: each field stands at its offset
pub record SpellsHead (octets : List ℕ) (h : TtHead) : Type 0 where
  pub size : IsFrameLength (length octets)
  pub length : length octets ≡ h.length
  pub marker : field 0 4 octets ≡ h.marker
  pub id : field 4 2 octets ≡ h.id
  pub source : field 6 6 octets ≡ h.source
  pub ethertype : field 12 2 octets ≡ h.ethertype
  pub is_type : least_type ≤ h.ethertype
  pub no_pcf : h.ethertype ≢ pcf_type

-- the octets have this fault; the length is judged first
abbrev pub HasTtFault : List ℕ → TtRefusal → Type 0
HasTtFault octets (Length n) = (length octets ≡ n) × ((n < 60) ⊎ (1514 < n))
HasTtFault octets EtherType =
    IsFrameLength (length octets) × ((field 12 2 octets < least_type) ⊎ (field 12 2 octets ≡ pcf_type))
