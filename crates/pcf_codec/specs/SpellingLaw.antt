-- What `decoded` has to do with the layout of a frame.
use Rattle.std.specs.Prelude.{◌++◌, ◌≡◌, Err, List, Ok, [], ℕ}
use Rattle.pcf_codec.specs.{Decoding.decoded, Faults.IsFirstFault, Spelling.Spells}
use Rattle.{pcf_codec.specs.declared.refusal.PcfRefusal.PcfRefusal, tte_units.specs.declared.frames.pcf.Pcf.Pcf}

-- reading and spelling agree in both directions, for every list of octets
pub record IsSpelling : Type 0 where
  pub read : (octets : List ℕ) (p : Pcf) → decoded octets ≡ Ok p → Spells octets p
  pub spelt : (octets : List ℕ) (p : Pcf) → Spells octets p → decoded octets ≡ Ok p
  pub faulty : (octets : List ℕ) (e : PcfRefusal) → decoded octets ≡ Err e → IsFirstFault octets e
  pub refused : (octets : List ℕ) (e : PcfRefusal) → IsFirstFault octets e → decoded octets ≡ Err e

-- no spelling is a proper prefix of another
abbrev pub IsPrefixFree : Type 0
IsPrefixFree = (octets behind : List ℕ) (p q : Pcf) → Spells octets p → Spells (octets ++ behind) q → behind ≡ []
