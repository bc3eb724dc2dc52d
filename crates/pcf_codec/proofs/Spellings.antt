-- How protocol control frames are spelled in octets, and what reading octets gives.
use Rattle.std.proofs.{lemmas.{Bool.{Decides.eqb_tells, cases_lt}, List.{get_or-drop, nil_from_length}}}
use Rattle.std.proofs.Common
use Common.{◌++◌, ◌+◌, ◌-◌, ◌<◌, ◌^◌, ◌∙◌, ◌≡◌, ◌≢◌, ◌≤◌, Err, List, Ok, [], ap, arith, drop, get_or, inl, inr}
use Common.{le_antisymm, length, length-append, refl, replicate, slice_index, slice_set, suc, sym, zero, ℕ}
use Rattle.byteorder.specs.{Endian.big_bytes, Numbers.big_number-reads_back}
use Rattle.pcf_codec.{proofs.Zeros.{ends, goes_on, stops}}
use Rattle.pcf_codec.specs.{Decoding.{decoded, fields_read, frame_in, kind_read, zeros_read}, Encoded.encoded}
use Rattle.pcf_codec.specs.{EtherType.pcf_type, Faults.{HasFault, IsFirstFault, offset_of}, Fields.field}
use Rattle.pcf_codec.specs.{Spelling.{IsPadding, IsReserved, Spells, code_of, pcf_length}}
use Rattle.pcf_codec.specs.{SpellingLaw.{IsPrefixFree, IsSpelling}}
use Rattle.pcf_codec.specs.{declared.refusal.PcfRefusal.{PcfRefusal, TheVariants.{EtherType, Kind, Length, Reserved}}}
use Rattle.tte_units.specs.declared.frames.pcf.{Pcf.Pcf}
use Rattle.tte_units.specs.declared.frames.pcf.{PcfKind.{PcfKind, TheVariants.{ColdStart, ColdStartAck, Integration}}}
use borrow.Rule.Slice.PartMut.{mid_of, put_mid}

-- ---- the octets that `encode` writes

-- zeros, over which the fields are written one after another
pub writes : (p : Pcf) (destination source kind : ℕ) (b1 b2 b3 b4 b5 b6 : List ℕ) → destination ≡ p.destination → source ≡ p.source → kind ≡ code_of p.kind
    → b1 ≡ big_bytes 6 destination ++ drop 6 (replicate 60 0) → b2 ≡ big_bytes 6 source ++ drop 6 (mid_of 6 54 b1)
    → b3 ≡ big_bytes 2 pcf_type ++ drop 2 (mid_of 12 48 (put_mid 6 54 b1 b2))
    → b4 ≡ big_bytes 4 p.cycle ++ drop 4 (mid_of 14 46 (put_mid 12 48 (put_mid 6 54 b1 b2) b3))
    → b5 ≡ big_bytes 4 p.members.0 ++ drop 4 (mid_of 18 42 (put_mid 14 46 (put_mid 12 48 (put_mid 6 54 b1 b2) b3) b4)) → b6 ≡ big_bytes 8 p.clock
    ++ drop 8 (mid_of 34 26
    (slice_set (slice_set (slice_set (put_mid 18 42 (put_mid 14 46 (put_mid 12 48 (put_mid 6 54 b1 b2) b3) b4) b5) 26 p.priority) 27 p.domain) 28 kind))
    → put_mid 34 26 (slice_set (slice_set (slice_set (put_mid 18 42 (put_mid 14 46 (put_mid 12 48 (put_mid 6 54 b1 b2) b3) b4) b5) 26 p.priority) 27 p.domain)
    28 kind) b6 ≡ encoded p
unfolding encoded
writes p destination source kind b1 b2 b3 b4 b5 b6 d s k h1 h2 h3 h4 h5 h6 = rw (h6, h5, h4, h3, h2, h1, d, s, k) refl

-- it has 60 octets
pub encoded_length : (p : Pcf) → length (encoded p) ≡ pcf_length
unfolding encoded
encoded_length p = refl

-- each field fits its octets
pub record Fits (p : Pcf) : Type 0 where
  pub destination : p.destination < 2 ^ 48
  pub source : p.source < 2 ^ 48
  pub cycle : p.cycle < 2 ^ 32
  pub members : p.members.0 < 2 ^ 32
  pub clock : p.clock < 2 ^ 64

zero_at : (n k : ℕ) (rest : List ℕ) → k < n → get_or (replicate n 0 ++ rest) k 0 ≡ 0
zero_at zero k rest h = absurd (omega arith)
zero_at (suc n) zero rest h = refl
zero_at (suc n) (suc k) rest h = zero_at n k rest (omega arith)

-- a place among n zeros that stand from place a on
zeros_at : (xs rest : List ℕ) (a n i : ℕ) → drop a xs ≡ replicate n 0 ++ rest → a ≤ i → i < a + n → get_or xs i 0 ≡ 0
zeros_at xs rest a n i e low high =
    let k : i ≡ a + (i - a) = omega arith in
    let there : get_or (drop a xs) (i - a) 0 ≡ 0 = rw e (zero_at n (i - a) rest (omega arith)) in
    rw k (sym (get_or-drop a xs (i - a) 0) ∙ there)

reserved : (p : Pcf) (i : ℕ) → IsReserved i → get_or (encoded p) i 0 ≡ 0
unfolding encoded
reserved p i (inl h) = zeros_at (encoded p) _ 22 4 i refl h.0 (omega arith)
reserved p i (inr h) = zeros_at (encoded p) _ 29 5 i refl h.0 (omega arith)

pub padding : (p : Pcf) (i : ℕ) → IsPadding i → get_or (encoded p) i 0 ≡ 0
unfolding encoded
padding p i h = zeros_at (encoded p) [] 42 18 i refl h.0 h.1

-- what is written spells the frame
pub spells : (p : Pcf) → Fits p → Spells (encoded p) p
unfolding encoded
spells p f = record {
  size = refl;
  destination = big_number-reads_back 6 p.destination (drop 6 (encoded p)) f.destination;
  source = big_number-reads_back 6 p.source (drop 12 (encoded p)) f.source;
  ethertype = refl;
  cycle = big_number-reads_back 4 p.cycle (drop 18 (encoded p)) f.cycle;
  members = big_number-reads_back 4 p.members.0 (drop 22 (encoded p)) f.members;
  priority = refl;
  domain = refl;
  kind = refl;
  clock = big_number-reads_back 8 p.clock (drop 42 (encoded p)) f.clock;
  reserved = reserved p;
}

-- ---- reading and spelling a protocol control frame agree

-- n octets from place i on are zero
abbrev pub AreZero : ℕ → ℕ → List ℕ → Type 0
AreZero i n octets = (j : ℕ) → i ≤ j → j < i + n → slice_index octets j ≡ 0

-- what `zeros_read` says of the octets
pub data ZerosRead (i n : ℕ) (octets : List ℕ) : Type 0 where
  zeros : AreZero i n octets → zeros_read i n octets ≡ Ok tt → ZerosRead i n octets
  other : (j : ℕ) → i ≤ j → j < i + n → slice_index octets j ≢ 0 → AreZero i (j - i) octets → zeros_read i n octets ≡ Err (Reserved j) → ZerosRead i n octets

zeros_behind : (i n : ℕ) (octets : List ℕ) → slice_index octets i ≡ 0 → AreZero (i + 1) n octets → AreZero i (suc n) octets
zeros_behind i n octets z h j low high = elim (eqb_tells j i) [
  | inl e ↦ rw e.1 z
  | inr e ↦ h j (omega arith) (omega arith)
]

zeros_told : (i n : ℕ) (octets : List ℕ) → ZerosRead i n octets
zeros_told i zero octets = zeros (λ j low high. absurd (omega arith)) (ends i zero octets refl)
zeros_told i (suc n) octets = elim (eqb_tells (slice_index octets i) 0) [
  | inl e ↦ elim (zeros_told (i + 1) n octets) [
    | zeros h r ↦ zeros (zeros_behind i n octets e.1 h) (goes_on i n octets e.1 ∙ r)
    | other j low high ne h r ↦ other j (omega arith) (omega arith) ne
        (λ k from to. zeros_behind i (j - (i + 1)) octets e.1 h k from (omega arith))
        (goes_on i n octets e.1 ∙ r)
  ]
  | inr e ↦ other i (omega arith) (omega arith) e.1 (λ j low high. absurd (omega arith)) (stops i (suc n) octets e.1 (omega arith))
]

-- what `kind_read` says of a type octet
pub data KindRead (c : ℕ) : Type 0 where
  kind : (k : PcfKind) → c ≡ code_of k → kind_read c ≡ Ok k → KindRead c
  none : ((k : PcfKind) → code_of k ≢ c) → kind_read c ≡ Err (Kind c) → KindRead c

no_kind : (c : ℕ) → c ≢ 2 → c ≢ 4 → c ≢ 8 → (k : PcfKind) → code_of k ≢ c
no_kind c two four eight Integration e = two (sym e)
no_kind c two four eight ColdStart e = four (sym e)
no_kind c two four eight ColdStartAck e = eight (sym e)

kind_told : (c : ℕ) → KindRead c
kind_told c = elim (eqb_tells c 2) [
  | inl e ↦ kind Integration e.1 (rw e.0 refl)
  | inr n2 ↦ elim (eqb_tells c 4) [
    | inl e ↦ kind ColdStart e.1 (rw (n2.0, e.0) refl)
    | inr n4 ↦ elim (eqb_tells c 8) [
      | inl e ↦ kind ColdStartAck e.1 (rw (n2.0, n4.0, e.0) refl)
      | inr n8 ↦ none (no_kind c n2.1 n4.1 n8.1) (rw (n2.0, n4.0, n8.0) refl)
    ]
  ]
]

wrong_length : (octets : List ℕ) → length octets ≢ pcf_length → decoded octets ≡ Err (Length (length octets))
unfolding decoded
wrong_length octets n = elim (eqb_tells (length octets) pcf_length) [ inl e ↦ absurd (n e.1) | inr e ↦ rw e.0 refl ]

wrong_type : (octets : List ℕ) → length octets ≡ pcf_length → field 12 2 octets ≢ pcf_type → decoded octets ≡ Err EtherType
unfolding decoded
wrong_type octets size n = elim (eqb_tells (field 12 2 octets) pcf_type) [ inl e ↦ absurd (n e.1) | inr e ↦ rw (size, e.0) refl ]

right_type : (octets : List ℕ) → length octets ≡ pcf_length → field 12 2 octets ≡ pcf_type → decoded octets ≡ fields_read octets
unfolding decoded
right_type octets size type = elim (eqb_tells (field 12 2 octets) pcf_type) [ inl e ↦ rw (size, e.0) refl | inr e ↦ absurd (e.1 type) ]

fields_first : (octets : List ℕ) (e : PcfRefusal) → zeros_read 22 4 octets ≡ Err e → fields_read octets ≡ Err e
unfolding fields_read
fields_first octets e z = rw z refl

fields_kind : (octets : List ℕ) (e : PcfRefusal) → zeros_read 22 4 octets ≡ Ok tt → kind_read (slice_index octets 28) ≡ Err e → fields_read octets ≡ Err e
unfolding fields_read
fields_kind octets e z k = rw (z, k) refl

fields_second : (octets : List ℕ) (k : PcfKind) (e : PcfRefusal) → zeros_read 22 4 octets ≡ Ok tt → kind_read (slice_index octets 28) ≡ Ok k
    → zeros_read 29 5 octets ≡ Err e → fields_read octets ≡ Err e
unfolding fields_read
fields_second octets k e z h y = rw (z, h, y) refl

fields_all : (octets : List ℕ) (k : PcfKind) → zeros_read 22 4 octets ≡ Ok tt → kind_read (slice_index octets 28) ≡ Ok k → zeros_read 29 5 octets ≡ Ok tt
    → fields_read octets ≡ Ok (frame_in octets k)
unfolding fields_read
fields_all octets k z h y = rw (z, h, y) refl

-- ---- octets spell a frame, or have a first fault, and `decoded` answers so

-- what is known once the length and the EtherType are right
record IsTyped (octets : List ℕ) : Type 0 where
  pub size : length octets ≡ pcf_length
  pub ethertype : field 12 2 octets ≡ pcf_type

first_length : (octets : List ℕ) → length octets ≢ pcf_length → IsFirstFault octets (Length (length octets))
first_length octets n = record { there = (refl, n); least = λ f h. omega arith }

first_type : (octets : List ℕ) → length octets ≡ pcf_length → field 12 2 octets ≢ pcf_type → IsFirstFault octets EtherType
first_type octets size n = record { there = (size, n); least = least }
  where
    least : (f : PcfRefusal) → HasFault octets f → 12 ≤ offset_of f
    least (Length m) h = absurd (h.1 (sym h.0 ∙ size))
    least EtherType h = omega arith
    least (Reserved i) (s, inl r, z) = omega arith
    least (Reserved i) (s, inr r, z) = omega arith
    least (Kind k) h = omega arith

first_reserved : (octets : List ℕ) (j : ℕ) → IsTyped octets → 22 ≤ j → j < 26 → slice_index octets j ≢ 0 → AreZero 22 (j - 22) octets
    → IsFirstFault octets (Reserved j)
first_reserved octets j t low high ne before = record { there = (t.size, inl (low, omega arith), ne); least = least }
  where
    least : (f : PcfRefusal) → HasFault octets f → j ≤ offset_of f
    least (Length m) h = absurd (h.1 (sym h.0 ∙ t.size))
    least EtherType h = absurd (h.1 t.ethertype)
    least (Reserved i) (s, inl r, z) = elim (cases_lt i j) [ inl lt ↦ absurd (z (before i r.0 (omega arith))) | inr le ↦ le ]
    least (Reserved i) (s, inr r, z) = omega arith
    least (Kind k) h = omega arith

first_kind : (octets : List ℕ) (k : ℕ) → IsTyped octets → AreZero 22 4 octets → slice_index octets 28 ≡ k → ((c : PcfKind) → code_of c ≢ k)
    → IsFirstFault octets (Kind k)
first_kind octets k t before at no_code = record { there = (t.size, at, no_code); least = least }
  where
    least : (f : PcfRefusal) → HasFault octets f → 28 ≤ offset_of f
    least (Length m) h = absurd (h.1 (sym h.0 ∙ t.size))
    least EtherType h = absurd (h.1 t.ethertype)
    least (Reserved i) (s, inl r, z) = absurd (z (before i r.0 (omega arith)))
    least (Reserved i) (s, inr r, z) = omega arith
    least (Kind k') h = omega arith

first_behind : (octets : List ℕ) (j : ℕ) (c : PcfKind) → IsTyped octets → AreZero 22 4 octets → slice_index octets 28 ≡ code_of c → 29 ≤ j → j < 34
    → slice_index octets j ≢ 0 → AreZero 29 (j - 29) octets → IsFirstFault octets (Reserved j)
first_behind octets j c t before at low high ne between = record { there = (t.size, inr (low, omega arith), ne); least = least }
  where
    least : (f : PcfRefusal) → HasFault octets f → j ≤ offset_of f
    least (Length m) h = absurd (h.1 (sym h.0 ∙ t.size))
    least EtherType h = absurd (h.1 t.ethertype)
    least (Reserved i) (s, inl r, z) = absurd (z (before i r.0 (omega arith)))
    least (Reserved i) (s, inr r, z) = elim (cases_lt i j) [ inl lt ↦ absurd (z (between i r.0 (omega arith))) | inr le ↦ le ]
    least (Kind k) h = absurd (h.2 c (sym at ∙ h.1))

reserved_zero : (octets : List ℕ) → AreZero 22 4 octets → AreZero 29 5 octets → (i : ℕ) → IsReserved i → slice_index octets i ≡ 0
reserved_zero octets a b i (inl r) = a i r.0 (omega arith)
reserved_zero octets a b i (inr r) = b i r.0 (omega arith)

spelt_so : (octets : List ℕ) (c : PcfKind) → IsTyped octets → AreZero 22 4 octets → slice_index octets 28 ≡ code_of c → AreZero 29 5 octets
    → Spells octets (frame_in octets c)
spelt_so octets c t before at behind = record {
  size = t.size;
  destination = refl;
  source = refl;
  ethertype = t.ethertype;
  cycle = refl;
  members = refl;
  priority = refl;
  domain = refl;
  kind = at;
  clock = refl;
  reserved = reserved_zero octets before behind;
}

-- what the octets are, and what `decoded` answers
data Outcome (octets : List ℕ) : Type 0 where
  spelt : (c : PcfKind) → Spells octets (frame_in octets c) → decoded octets ≡ Ok (frame_in octets c) → Outcome octets
  faulty : (e : PcfRefusal) → IsFirstFault octets e → decoded octets ≡ Err e → Outcome octets

fields_told : (octets : List ℕ) → IsTyped octets → Outcome octets
fields_told octets t =
    let fields = right_type octets t.size t.ethertype in
    elim (zeros_told 22 4 octets) [
      | other j low high ne before r ↦ faulty (Reserved j) (first_reserved octets j t low high ne before) (fields ∙ fields_first octets (Reserved j) r)
      | zeros before z ↦ elim (kind_told (slice_index octets 28)) [
        | none n r ↦ faulty (Kind (slice_index octets 28)) (first_kind octets (slice_index octets 28) t before refl n)
            (fields ∙ fields_kind octets (Kind (slice_index octets 28)) z r)
        | kind c at h ↦ elim (zeros_told 29 5 octets) [
          | other j low high ne between r ↦ faulty (Reserved j) (first_behind octets j c t before at low high ne between)
              (fields ∙ fields_second octets c (Reserved j) z h r)
          | zeros behind y ↦ spelt c (spelt_so octets c t before at behind) (fields ∙ fields_all octets c z h y)
        ]
      ]
    ]

told : (octets : List ℕ) → Outcome octets
told octets = elim (eqb_tells (length octets) pcf_length) [
  | inr e ↦ faulty (Length (length octets)) (first_length octets e.1) (wrong_length octets e.1)
  | inl size ↦ elim (eqb_tells (field 12 2 octets) pcf_type) [
    | inr e ↦ faulty EtherType (first_type octets size.1 e.1) (wrong_type octets size.1 e.1)
    | inl type ↦ fields_told octets (record { size = size.1; ethertype = type.1 })
  ]
]

-- octets that spell a frame have no fault
no_fault : (octets : List ℕ) (p : Pcf) (e : PcfRefusal) → Spells octets p → HasFault octets e → ⊥
no_fault octets p (Length n) s h = h.1 (sym h.0 ∙ s.size)
no_fault octets p EtherType s h = h.1 s.ethertype
no_fault octets p (Reserved i) s h = h.2 (s.reserved i h.1)
no_fault octets p (Kind k) s h = h.2 p.kind (sym s.kind ∙ h.1)

same_code : (a b : PcfKind) → code_of a ≡ code_of b → a ≡ b
same_code Integration Integration e = refl
same_code Integration ColdStart e = absurd (omega arith)
same_code Integration ColdStartAck e = absurd (omega arith)
same_code ColdStart Integration e = absurd (omega arith)
same_code ColdStart ColdStart e = refl
same_code ColdStart ColdStartAck e = absurd (omega arith)
same_code ColdStartAck Integration e = absurd (omega arith)
same_code ColdStartAck ColdStart e = absurd (omega arith)
same_code ColdStartAck ColdStartAck e = refl

-- the octets fix the frame that they spell
frame_is : (octets : List ℕ) (p : Pcf) → Spells octets p → p ≡ frame_in octets p.kind
frame_is octets p s = rw (s.destination, s.source, s.cycle, s.members, s.priority, s.domain, s.clock) refl

read : (octets : List ℕ) (p : Pcf) → decoded octets ≡ Ok p → Spells octets p
read octets p d = elim (told octets) [
  | spelt c s e ↦ let same : frame_in octets c ≡ p = cc in rw same at s
  | faulty e f r ↦ absurd cc
]

pub spelt_read : (octets : List ℕ) (p : Pcf) → Spells octets p → decoded octets ≡ Ok p
spelt_read octets p s = elim (told octets) [
  | spelt c t e ↦ e ∙ (rw (same_code c p.kind (sym t.kind ∙ s.kind)) (ap Ok (sym (frame_is octets p s))))
  | faulty e f r ↦ absurd (no_fault octets p e s f.there)
]

-- of two first faults each is the other
same_fault : (octets : List ℕ) (e f : PcfRefusal) → HasFault octets e → HasFault octets f → offset_of e ≡ offset_of f → e ≡ f
same_fault octets (Length n) (Length m) h k o = ap Length (sym h.0 ∙ k.0)
same_fault octets (Length n) EtherType h k o = absurd (h.1 (sym h.0 ∙ k.0))
same_fault octets (Length n) (Reserved j) h k o = absurd (h.1 (sym h.0 ∙ k.0))
same_fault octets (Length n) (Kind c) h k o = absurd (h.1 (sym h.0 ∙ k.0))
same_fault octets EtherType (Length m) h k o = absurd (k.1 (sym k.0 ∙ h.0))
same_fault octets EtherType EtherType h k o = refl
same_fault octets EtherType (Reserved j) h (s, inl r, z) o = absurd (omega arith)
same_fault octets EtherType (Reserved j) h (s, inr r, z) o = absurd (omega arith)
same_fault octets EtherType (Kind c) h k o = absurd (omega arith)
same_fault octets (Reserved i) (Length m) h k o = absurd (k.1 (sym k.0 ∙ h.0))
same_fault octets (Reserved i) EtherType (s, inl r, z) k o = absurd (omega arith)
same_fault octets (Reserved i) EtherType (s, inr r, z) k o = absurd (omega arith)
same_fault octets (Reserved i) (Reserved j) h k o = ap Reserved o
same_fault octets (Reserved i) (Kind c) (s, inl r, z) k o = absurd (omega arith)
same_fault octets (Reserved i) (Kind c) (s, inr r, z) k o = absurd (omega arith)
same_fault octets (Kind b) (Length m) h k o = absurd (k.1 (sym k.0 ∙ h.0))
same_fault octets (Kind b) EtherType h k o = absurd (omega arith)
same_fault octets (Kind b) (Reserved j) h (s, inl r, z) o = absurd (omega arith)
same_fault octets (Kind b) (Reserved j) h (s, inr r, z) o = absurd (omega arith)
same_fault octets (Kind b) (Kind c) h k o = ap Kind (sym h.1 ∙ k.1)

faulty_read : (octets : List ℕ) (e : PcfRefusal) → decoded octets ≡ Err e → IsFirstFault octets e
faulty_read octets e d = elim (told octets) [
  | spelt c s r ↦ absurd cc
  | faulty f h r ↦ let same : f ≡ e = cc in rw same at h
]

refused : (octets : List ℕ) (e : PcfRefusal) → IsFirstFault octets e → decoded octets ≡ Err e
refused octets e h = elim (told octets) [
  | spelt c s r ↦ absurd (no_fault octets (frame_in octets c) e s h.there)
  | faulty f k r ↦ r ∙ ap Err (same_fault octets f e k.there h.there (le_antisymm (k.least e h.there) (h.least f k.there)))
]

pub is_spelling : IsSpelling
is_spelling = record { read = read; spelt = spelt_read; faulty = faulty_read; refused = refused }

pub is_prefix_free : IsPrefixFree
is_prefix_free octets behind p q s t = nil_from_length behind (omega (arith, s.size, t.size, length-append octets behind))
