-- Frames one after another.
use Rattle.std.specs.Prelude.{◌++◌, ◌<◌, ◌∷◌, ◌≡◌, ◌≤◌, Err, List, [], length, ℕ}
use Rattle.tte_units.specs.declared.frames.pcf.Pcf.{Pcf}
use Rattle.pcf_codec.specs.{Decoding.decoded, Spelling.{Spells, pcf_length}, declared.refusal.PcfRefusal.PcfRefusal}

-- the octets are the spellings of these frames, one after another
abbrev pub SpellsAll : List ℕ → List Pcf → Type 0
SpellsAll octets [] = octets ≡ []
SpellsAll octets (p ∷ ps) =
    (front : List ℕ) × (behind : List ℕ) × (octets ≡ front ++ behind) × Spells front p × SpellsAll behind ps

-- the frames are those of the longest front that spells a sequence, and the rest stands behind it
pub record IsLongestFront (octets : List ℕ) (ps : List Pcf) (rest : List ℕ) : Type 0 where
  pub front : List ℕ
  pub cut : octets ≡ front ++ rest
  pub spells : SpellsAll front ps
  pub longest : (other behind : List ℕ) (qs : List Pcf) → octets ≡ other ++ behind → SpellsAll other qs
      → length other ≤ length front

-- nothing, or the octets of a frame that is not whole
abbrev pub IsUnfinished : List ℕ → Type 0
IsUnfinished rest = length rest < pcf_length

-- a whole frame's octets, which spell nothing
abbrev pub IsRefusedFrame : List ℕ → PcfRefusal → Type 0
IsRefusedFrame rest e = (length rest ≡ pcf_length) × (decoded rest ≡ Err e)
