-- A file begins with a header, or has a first fault, and `opened` answers so.
use Rattle.std.proofs.Common.{◌%◌, ◌<◌, ◌∙◌, ◌≡◌, ◌≢◌, ◌≤◌, Bool, Err, List, Ok, Result, ap, arith, false, inl, inr, length, refl, subst, true, ℕ}
use Rattle.std.proofs.lemmas.Bool.{cases_lt, le-ltb, lt-ltb, Decides.eqb_tells}
use Rattle.tte_observers.specs.{captures.pcap.Layout.{IsHead, ethernet, head_length, magic, number}, declared.captures.pcap.capture.CaptureHead.CaptureHead}
use Rattle.tte_observers.specs.captures.pcap.{Reading.{judged, opened}, ReadingLaw.{AreOctets, FindsHead, HasHeadFault, HasMagic, HasVersion}}
use Rattle.tte_observers.specs.declared.captures.pcap.refusal.CaptureRefusal.{CaptureRefusal, TheVariants.{Cut, Header, LinkType, Magic, PacketLength, Version}}

-- the answers, step by step

pub judged_right : (big : Bool) (file : List ℕ) → HasVersion file big → number big 4 20 file % 65536 ≡ ethernet → judged big file ≡ Ok (record { big = big })
unfolding judged
judged_right big file v link = rw (v.0, v.1, link) refl

judged_version : (big : Bool) (file : List ℕ) → (HasVersion file big → ⊥) → judged big file ≡ Err Version
unfolding judged
judged_version big file wrong = elim (eqb_tells (number big 2 4 file) 2) [
  | inr e ↦ rw e.0 refl
  | inl major ↦ elim (eqb_tells (number big 2 6 file) 4) [
    | inr e ↦ rw (major.0, e.0) refl
    | inl minor ↦ absurd (wrong (major.1, minor.1))
  ]
]

judged_link : (big : Bool) (file : List ℕ) → HasVersion file big → number big 4 20 file % 65536 ≢ ethernet → judged big file ≡ Err LinkType
unfolding judged
judged_link big file v wrong = elim (eqb_tells (number big 4 20 file % 65536) ethernet) [
  | inl e ↦ absurd (wrong e.1)
  | inr e ↦ rw (v.0, v.1, e.0) refl
]

pub opened_short : (file : List ℕ) → length file < head_length → opened file ≡ Err (Header (length file))
unfolding opened
opened_short file short = rw (lt-ltb (length file) head_length short) refl

opened_big : (file : List ℕ) → HasMagic file true → opened file ≡ judged true file
unfolding opened
opened_big file m = rw (le-ltb (length file) head_length m.size, m.magic) refl

pub opened_little : (file : List ℕ) → number true 4 0 file ≢ magic → HasMagic file false → opened file ≡ judged false file
unfolding opened
opened_little file wrong m = elim (eqb_tells (number true 4 0 file) magic) [
  | inl e ↦ absurd (wrong e.1)
  | inr e ↦ rw (le-ltb (length file) head_length m.size, e.0, m.magic) refl
]

opened_none : (file : List ℕ) → head_length ≤ length file → ((big : Bool) → number big 4 0 file ≢ magic) → opened file ≡ Err Magic
unfolding opened
opened_none file size wrong = elim (eqb_tells (number true 4 0 file) magic) [
  | inl e ↦ absurd (wrong true e.1)
  | inr b ↦ elim (eqb_tells (number false 4 0 file) magic) [
    | inl e ↦ absurd (wrong false e.1)
    | inr l ↦ rw (le-ltb (length file) head_length size, b.0, l.0) refl
  ]
]

-- the magic is another number in the other byte order
one_order : (file : List ℕ) → AreOctets file → number true 4 0 file ≡ magic → number false 4 0 file ≢ magic
unfolding number
one_order file o big little = omega (arith, o 0, o 1, o 2, o 3, big, little)

opened_known : (file : List ℕ) (big : Bool) → AreOctets file → HasMagic file big → opened file ≡ judged big file
opened_known file true o m = opened_big file m
opened_known file false o m = opened_little file (λ b. one_order file o b m.magic) m

-- what opening finds
data Opening (file : List ℕ) : Type 0 where
  found : (head : CaptureHead) → IsHead file head → opened file ≡ Ok head → Opening file
  refused : (e : CaptureRefusal) → HasHeadFault file e → opened file ≡ Err e → Opening file

judged_told : {file : List ℕ} {big : Bool} → HasMagic file big → opened file ≡ judged big file → Opening file
judged_told {file} {big} m known = elim (eqb_tells (number big 2 4 file) 2) [
  | inr e ↦ refused Version (big, m, λ v. e.1 v.0) (known ∙ judged_version big file (λ v. e.1 v.0))
  | inl major ↦ elim (eqb_tells (number big 2 6 file) 4) [
    | inr e ↦ refused Version (big, m, λ v. e.1 v.1) (known ∙ judged_version big file (λ v. e.1 v.1))
    | inl minor ↦ elim (eqb_tells (number big 4 20 file % 65536) ethernet) [
      | inr e ↦ refused LinkType (big, m, (major.1, minor.1), e.1) (known ∙ judged_link big file (major.1, minor.1) e.1)
      | inl link ↦ found (record { big = big })
          (record { size = m.size; magic = m.magic; major = major.1; minor = minor.1; link_type = link.1 })
          (known ∙ judged_right big file (major.1, minor.1) link.1)
    ]
  ]
]

in_neither : (file : List ℕ) → number true 4 0 file ≢ magic → number false 4 0 file ≢ magic → (big : Bool) → number big 4 0 file ≢ magic
in_neither file b l true = b
in_neither file b l false = l

told : (file : List ℕ) → Opening file
told file = elim (cases_lt (length file) head_length) [
  | inl short ↦ refused (Header (length file)) (refl, short) (opened_short file short)
  | inr size ↦ elim (eqb_tells (number true 4 0 file) magic) [
    | inl b ↦ let m : HasMagic file true = record { size = size; magic = b.1 } in judged_told m (opened_big file m)
    | inr b ↦ elim (eqb_tells (number false 4 0 file) magic) [
      | inl l ↦ let m : HasMagic file false = record { size = size; magic = l.1 } in judged_told m
          (opened_little file b.1 m)
      | inr l ↦ refused Magic (size, in_neither file b.1 l.1) (opened_none file size (in_neither file b.1 l.1))
    ]
  ]
]

head_found : (file : List ℕ) (head : CaptureHead) → opened file ≡ Ok head → IsHead file head
head_found file head is = elim (told file) [
  | found h i r ↦ let same : h ≡ head = cc in subst (λ h. IsHead file h) same i
  | refused e f r ↦ let no : ⊥ = cc in absurd no
]

head_opens : {file : List ℕ} {head : CaptureHead} → AreOctets file → IsHead file head → opened file ≡ Ok head
head_opens {file} {head} o i = opened_known file head.big o
    (record { size = i.size; magic = i.magic }) ∙ judged_right head.big file (i.major, i.minor) i.link_type

fault_found : (file : List ℕ) (e : CaptureRefusal) → opened file ≡ Err e → HasHeadFault file e
fault_found file e is = elim (told file) [
  | found h i r ↦ let no : ⊥ = cc in absurd no
  | refused f h r ↦ let same : f ≡ e = cc in subst (λ x. HasHeadFault file x) same h
]

fault_refuses : (file : List ℕ) (e : CaptureRefusal) → AreOctets file → HasHeadFault file e → opened file ≡ Err e
fault_refuses file (Header n) o h =
    let refusal : ℕ → Result CaptureHead CaptureRefusal = λ n. Err (Header n) in
    opened_short file (omega (arith, h.0, h.1)) ∙ ap refusal h.0
fault_refuses file Magic o h = opened_none file h.0 h.1
fault_refuses file Version o (big, m, wrong) = opened_known file big o m ∙ judged_version big file wrong
fault_refuses file LinkType o (big, m, v, wrong) = opened_known file big o m ∙ judged_link big file v wrong
fault_refuses file (PacketLength n) o h = absurd h
fault_refuses file Cut o h = absurd h

pub finds_head : FindsHead
finds_head = record {
  found = λ file head o. (head_found file head, head_opens {file = file} {head = head} o);
  refused = λ file e o. (fault_found file e, fault_refuses file e o);
}
