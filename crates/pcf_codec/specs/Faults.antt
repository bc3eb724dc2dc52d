-- What can be wrong with octets that are to be a protocol control frame.
use Rattle.std.specs.Prelude.{◌≡◌, ◌≢◌, ◌≤◌, List, length, slice_index, ℕ}
use Rattle.tte_units.specs.declared.frames.pcf.PcfKind.{PcfKind}
use Rattle.pcf_codec.specs.{EtherType.pcf_type, Fields.field, Spelling.{IsReserved, code_of, pcf_length}}
use Rattle.pcf_codec.specs.declared.refusal.PcfRefusal.{PcfRefusal, TheVariants.{EtherType, Kind, Length, Reserved}}

-- the offset at which a fault stands; a wrong length comes before any
abbrev pub offset_of : PcfRefusal → ℕ
offset_of (Length n) = 0
offset_of EtherType = 12
offset_of (Reserved i) = i
offset_of (Kind k) = 28

-- the octets have this fault
abbrev pub HasFault : List ℕ → PcfRefusal → Type 0
HasFault octets (Length n) = (length octets ≡ n) × (n ≢ pcf_length)
HasFault octets EtherType = (length octets ≡ pcf_length) × (field 12 2 octets ≢ pcf_type)
HasFault octets (Reserved i) = (length octets ≡ pcf_length) × IsReserved i × (slice_index octets i ≢ 0)
HasFault octets (Kind k) =
    (length octets ≡ pcf_length) × (slice_index octets 28 ≡ k) × ((kind : PcfKind) → code_of kind ≢ k)

-- the octets have this fault, and none at a lesser offset
pub record IsFirstFault (octets : List ℕ) (e : PcfRefusal) : Type 0 where
  pub there : HasFault octets e
  pub least : (f : PcfRefusal) → HasFault octets f → offset_of e ≤ offset_of f
