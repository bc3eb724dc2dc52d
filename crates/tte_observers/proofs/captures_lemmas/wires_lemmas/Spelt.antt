-- Octets that a broken master sent, as they are spelt anew.
use Rattle.{pcf_codec.specs.{Decoding.{decoded, fields_read}, declared.refusal.PcfRefusal.PcfRefusal}, run_law.specs.control.Wires.{control, signal_of, timed}}
use Rattle.pcf_codec.specs.{Encoded.encoded, EtherType.pcf_type, Fields.field}
use Rattle.{pcf_codec.specs.Spelling.pcf_length, tte_observers.proofs.captures_lemmas.wires_lemmas.Words.{if◌then◌else◌, length, refl, sym, true, ℕ}}
use Rattle.tte_observers.proofs.captures_lemmas.wires_lemmas.Words.{◌==◌, ◌∙◌, ◌≡◌, Bool, Err, IsSpelt, List, Ok, Pcf, Result, ap, both_ways, false}
use Rattle.pcf_codec.specs.declared.refusal.PcfRefusal.TheVariants as refusals

-- what decodes to a frame has its EtherType
has_type : (octets : List ℕ) (frame : Pcf) → decoded octets ≡ Ok frame → (field 12 2 octets == pcf_type) ≡ true
unfolding decoded
has_type octets frame is = by (length octets == pcf_length) (field 12 2 octets == pcf_type) refl is
  where
    by : (l t : Bool) → (field 12 2 octets == pcf_type) ≡ t
        → (if l then (if t then fields_read octets else Err refusals.EtherType) else Err (refusals.Length (length octets))) ≡ Ok frame
        → (field 12 2 octets == pcf_type) ≡ true
    by true true same ok = same
    by true false same ok = absurd cc
    by false t same ok = absurd cc

module _ (octets : List ℕ) where
  -- where they decode to a frame, it is spelt
  spelt_as : (b : Bool) (r : Result Pcf PcfRefusal) (frame : Pcf) → b ≡ true → r ≡ Ok frame → (spelt : List ℕ)
      → IsSpelt (if b then control r else timed octets) spelt → encoded frame ≡ spelt
  spelt_as true (Ok f) frame here is spelt as_ = let same : f ≡ frame = cc in ap encoded (sym same) ∙ sym as_
  spelt_as true (Err e) frame here is spelt as_ = absurd as_
  spelt_as false r frame here is spelt as_ = absurd (both_ways false refl here)

  pub spelt_frame : (frame : Pcf) → decoded octets ≡ Ok frame → (spelt : List ℕ) → IsSpelt (signal_of octets) spelt
      → encoded frame ≡ spelt
  spelt_frame frame is spelt as_ =
      spelt_as (field 12 2 octets == pcf_type) (decoded octets) frame (has_type octets frame is) is spelt as_

  -- where they do not, they are none
  octets_as : (b : Bool) (r : Result Pcf PcfRefusal) (refusal : PcfRefusal) → r ≡ Err refusal → (spelt : List ℕ)
      → IsSpelt (if b then control r else timed octets) spelt → octets ≡ spelt
  octets_as true (Ok f) refusal is spelt as_ = absurd (let e = is in cc)
  octets_as true (Err e) refusal is spelt as_ = absurd as_
  octets_as false r refusal is spelt as_ = sym as_

  pub spelt_octets : (refusal : PcfRefusal) → decoded octets ≡ Err refusal → (spelt : List ℕ)
      → IsSpelt (signal_of octets) spelt → octets ≡ spelt
  spelt_octets refusal is spelt as_ = octets_as (field 12 2 octets == pcf_type) (decoded octets) refusal is spelt as_
