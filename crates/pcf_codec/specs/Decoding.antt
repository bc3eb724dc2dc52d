-- Reading a protocol control frame.
use Rattle.std.specs.Prelude.{if◌then◌else◌, ◌+◌, ◌==◌, Err, List, Ok, Result, length, slice_index, suc, zero, ℕ}
use Rattle.pcf_codec.specs.{EtherType.pcf_type, Fields.field, Spelling.pcf_length}
use Rattle.{pcf_codec.specs.declared.refusal.PcfRefusal.PcfRefusal, tte_units.specs.declared.frames.pcf.Pcf.Pcf}
use Rattle.tte_units.specs.declared.frames.pcf.PcfKind.{PcfKind, TheVariants.{ColdStart, ColdStartAck, Integration}}
use Rattle.pcf_codec.specs.declared.refusal.PcfRefusal.TheVariants as refusals

-- the first of n octets from place i on that is not zero, as a fault
unfoldable pub zeros_read : ℕ → ℕ → List ℕ → Result (Unit {0}) PcfRefusal
zeros_read i zero octets = Ok tt
zeros_read i (suc n) octets =
    if slice_index octets i == 0 then zeros_read (i + 1) n octets else Err (refusals.Reserved i)

-- the kind of a type octet
abbrev pub kind_read : ℕ → Result PcfKind PcfRefusal
kind_read c =
    if c == 2 then Ok Integration
    else (if c == 4 then Ok ColdStart else (if c == 8 then Ok ColdStartAck else Err (refusals.Kind c)))

-- go on with what was read, or stop at the fault
infixl 10 ◌>>=◌
abbrev pub ◌>>=◌ : {A B : Type 0} → Result A PcfRefusal → (A → Result B PcfRefusal) → Result B PcfRefusal
(Ok x) >>= f = f x
(Err e) >>= f = Err e

-- the frame of this kind that the fields give
abbrev pub frame_in : List ℕ → PcfKind → Pcf
frame_in octets kind = record {
  destination = field 0 6 octets;
  source = field 6 6 octets;
  cycle = field 14 4 octets;
  members = record { 0 = field 18 4 octets };
  priority = slice_index octets 26;
  domain = slice_index octets 27;
  kind = kind;
  clock = field 34 8 octets;
}

-- the frame of 60 octets of the right EtherType, or the first fault behind it
unfoldable pub fields_read : List ℕ → Result Pcf PcfRefusal
fields_read octets = do
  first ← zeros_read 22 4 octets
  kind ← kind_read (slice_index octets 28)
  second ← zeros_read 29 5 octets
  Ok (frame_in octets kind)

-- the frame that the octets spell, or the fault that stands first
unfoldable pub decoded : List ℕ → Result Pcf PcfRefusal
decoded octets =
    if length octets == pcf_length
    then (if field 12 2 octets == pcf_type then fields_read octets else Err refusals.EtherType)
    else Err (refusals.Length (length octets))
