-- The packets of a file: found at a place, written as octets, and read back.
use Rattle.std.proofs.{Math.Seq.{drop-append-add, drop-append_seam, take-append_seam}}
use Rattle.std.proofs.{lemmas.{Bool.{cases_lt, le-ltb, lt-ltb}, List.Elements.{All-head, All-tail}}}
use Rattle.std.proofs.Common
use Common.{◌%◌, ◌++◌, ◌+◌, ◌-◌, ◌<◌, ◌^◌, ◌∙◌, ◌∷◌, ◌≡◌, ◌≢◌, ◌≤◌, All, Bool, Err, List, None, Ok, Option, Result}
use Common.{Some, [], ap, append_assoc, arith, drop, eq-eqb, false, inl, inr, length, length-append, refl, replicate}
use Common.{slice_range, subst, sym, take, true, ℕ}
use Rattle.byteorder.specs.{Endian.little_bytes, Numbers.little_number-reads_back}
use Rattle.tte_observers.{proofs.captures_lemmas.pcap_lemmas.Heads.{judged_right, opened_little}}
use Rattle.tte_observers.specs.captures.pcap.{Layout.{IsPacket, ethernet, magic, most_captured, number, stamp_length}}
use Rattle.tte_observers.specs.captures.pcap.{Reading.{opened, packet_at, packet_of}}
use Rattle.tte_observers.specs.captures.pcap.{ReadingLaw.{FindsPackets, HasMagic, HasPacketFault}}
use Rattle.tte_observers.specs.captures.pcap.{RoundTrip.{IsWritable, Reads, ReadsBack, Shows, written_head}}
use Rattle.tte_observers.specs.captures.pcap.Writing
use Writing.{Stamped, capture_octets, head_octets, packet_octets, packets_octets, stamp_octets}
use Rattle.tte_observers.specs.declared.captures.pcap.{capture.{CaptureHead.CaptureHead, Packet.Packet}}
use Rattle.tte_observers.specs.declared.captures.pcap.refusal.CaptureRefusal.{CaptureRefusal}
use Rattle.tte_observers.specs.declared.captures.pcap.refusal.CaptureRefusal.TheVariants
use TheVariants.{Cut, Header, LinkType, Magic, PacketLength, Version}
use Rattle.tte_units.proofs.general_lemmas.Naturals.{goes_on}
use borrow.Rule.Slice.PartMut.{mid_of, put_mid}

-- ---- at a place of a file stands a packet, its end or a first fault, and `packet_at` answers so

-- how many octets of the packet at a place were captured
abbrev captured : CaptureHead → List ℕ → ℕ → ℕ
captured head file at = number head.big 4 (at + 8) file

-- the answers, step by step

at_end : (head : CaptureHead) (file : List ℕ) (at : ℕ) → length file ≡ at → packet_at head file at ≡ Ok None
unfolding packet_at
at_end head file at end = rw (eq-eqb (length file) at end) refl

at_cut_stamp : (head : CaptureHead) (file : List ℕ) (at : ℕ) → at < length file → length file < at + stamp_length → packet_at head file at ≡ Err Cut
unfolding packet_at
at_cut_stamp head file at more short = rw (goes_on (length file) at more, lt-ltb (length file) (at + stamp_length) short) refl

at_long : (head : CaptureHead) (file : List ℕ) (at : ℕ) → at + stamp_length ≤ length file → most_captured < captured head file at
    → packet_at head file at ≡ Err (PacketLength (captured head file at))
unfolding packet_at
at_long head file at stamp long =
    rw (goes_on (length file) at (omega arith), le-ltb (length file) (at + stamp_length) stamp, lt-ltb most_captured (captured head file at) long) refl

at_cut : (head : CaptureHead) (file : List ℕ) (at : ℕ) → at + stamp_length ≤ length file → captured head file at ≤ most_captured
    → length file < at + stamp_length + captured head file at → packet_at head file at ≡ Err Cut
unfolding packet_at
at_cut head file at stamp small short =
    rw (
      goes_on (length file) at (omega arith),
      le-ltb (length file) (at + stamp_length) stamp,
      le-ltb most_captured (captured head file at) small,
      lt-ltb (length file) (at + stamp_length + captured head file at) short,
    ) refl

at_packet : (head : CaptureHead) (file : List ℕ) (at : ℕ) → at + stamp_length ≤ length file → captured head file at ≤ most_captured
    → at + stamp_length + captured head file at ≤ length file → packet_at head file at ≡ Ok (Some (packet_of head file at (captured head file at)))
unfolding packet_at
at_packet head file at stamp small whole =
    rw (
      goes_on (length file) at (omega arith),
      le-ltb (length file) (at + stamp_length) stamp,
      le-ltb most_captured (captured head file at) small,
      le-ltb (length file) (at + stamp_length + captured head file at) whole,
    ) refl

-- what stands at a place
data Finding (head : CaptureHead) (file : List ℕ) (at : ℕ) : Type 0 where
  ended : at ≡ length file → packet_at head file at ≡ Ok None → Finding head file at
  found : (p : Packet) → IsPacket head file at p → packet_at head file at ≡ Ok (Some p) → Finding head file at
  refused : (e : CaptureRefusal) → HasPacketFault head file at e → packet_at head file at ≡ Err e → Finding head file at

module _ (head : CaptureHead) (file : List ℕ) where
  stands_there : (at : ℕ) → captured head file at ≤ most_captured
      → at + stamp_length + captured head file at ≤ length file
      → IsPacket head file at (packet_of head file at (captured head file at))
  stands_there at small whole = record {
    seconds = refl;
    micros = refl;
    from = refl;
    to = refl;
    original = refl;
    small = omega arith;
    whole = whole;
  }

  told : (at : ℕ) → at ≤ length file → Finding head file at
  told at within = elim (cases_lt at (length file)) [
    | inr none ↦ let end : length file ≡ at = omega arith in ended (sym end) (at_end head file at end)
    | inl more ↦ elim (cases_lt (length file) (at + stamp_length)) [
      | inl short ↦ refused Cut (inl (more, short)) (at_cut_stamp head file at more short)
      | inr stamp ↦ elim (cases_lt most_captured (captured head file at)) [
        | inl long ↦ refused (PacketLength (captured head file at)) (stamp, refl, long)
            (at_long head file at stamp long)
        | inr small ↦ elim (cases_lt (length file) (at + stamp_length + captured head file at)) [
          | inl short ↦ refused Cut (inr (small, stamp, short)) (at_cut head file at stamp small short)
          | inr whole ↦ found (packet_of head file at (captured head file at)) (stands_there at small whole)
              (at_packet head file at stamp small whole)
        ]
      ]
    ]
  ]

  -- the octets fix the packet
  packet_is : (at : ℕ) (p : Packet) → IsPacket head file at p → packet_of head file at (captured head file at) ≡ p
  packet_is at p i =
      let behind : at + stamp_length + captured head file at ≡ p.to =
      ap (λ n. n + captured head file at) i.from ∙ i.to in
      rw (i.seconds, i.micros, i.original, behind, i.from) refl

  pub packet_stands : (at : ℕ) (p : Packet) → IsPacket head file at p → packet_at head file at ≡ Ok (Some p)
  packet_stands at p i =
      let answer : Packet → Result (Option Packet) CaptureRefusal = λ p. Ok (Some p) in
      at_packet head file at (omega (arith, i.from, i.to, i.whole)) (omega (arith, i.to, i.small))
      (omega (arith, i.from, i.to, i.whole))
      ∙ ap answer (packet_is at p i)

  packet_found : (at : ℕ) (p : Packet) → at ≤ length file → packet_at head file at ≡ Ok (Some p)
      → IsPacket head file at p
  packet_found at p within is = elim (told at within) [
    | ended e r ↦ let no : ⊥ = cc in absurd no
    | found q i r ↦ let same : q ≡ p = cc in subst (λ x. IsPacket head file at x) same i
    | refused e f r ↦ let no : ⊥ = cc in absurd no
  ]

  end_found : (at : ℕ) → at ≤ length file → packet_at head file at ≡ Ok None → at ≡ length file
  end_found at within is = elim (told at within) [
    | ended e r ↦ e
    | found q i r ↦ let no : ⊥ = cc in absurd no
    | refused e f r ↦ let no : ⊥ = cc in absurd no
  ]

  fault_found : (at : ℕ) (e : CaptureRefusal) → at ≤ length file → packet_at head file at ≡ Err e
      → HasPacketFault head file at e
  fault_found at e within is = elim (told at within) [
    | ended h r ↦ let no : ⊥ = cc in absurd no
    | found q i r ↦ let no : ⊥ = cc in absurd no
    | refused f h r ↦ let same : f ≡ e = cc in subst (λ x. HasPacketFault head file at x) same h
  ]

  fault_refuses : (at : ℕ) (e : CaptureRefusal) → HasPacketFault head file at e → packet_at head file at ≡ Err e
  fault_refuses at (PacketLength n) (stamp, is, long) =
      let refusal : ℕ → Result (Option Packet) CaptureRefusal = λ n. Err (PacketLength n) in
      at_long head file at stamp (omega (arith, is, long)) ∙ ap refusal is
  fault_refuses at Cut (inl (more, short)) = at_cut_stamp head file at more short
  fault_refuses at Cut (inr (small, stamp, short)) = at_cut head file at stamp small short
  fault_refuses at (Header n) h = absurd h
  fault_refuses at Magic h = absurd h
  fault_refuses at Version h = absurd h
  fault_refuses at LinkType h = absurd h

pub finds_packets : FindsPackets
finds_packets = record {
  found = λ head file at p within. (packet_found head file at p within, packet_stands head file at p);
  ended = λ head file at within. (end_found head file at within, λ end. at_end head file at (sym end));
  refused = λ head file at e within. (fault_found head file at e within, fault_refuses head file at e);
}

-- ---- the octets that are written

-- zeros, over which the four numbers are written one after another
pub writes : (seconds micros n : ℕ) (b1 b2 b3 b4 : List ℕ) → b1 ≡ little_bytes 4 seconds ++ drop 4 (replicate 16 0)
    → b2 ≡ little_bytes 4 micros ++ drop 4 (mid_of 4 12 b1) → b3 ≡ little_bytes 4 n ++ drop 4 (mid_of 8 8 (put_mid 4 12 b1 b2))
    → b4 ≡ little_bytes 4 n ++ drop 4 (mid_of 12 4 (put_mid 8 8 (put_mid 4 12 b1 b2) b3))
    → put_mid 12 4 (put_mid 8 8 (put_mid 4 12 b1 b2) b3) b4 ≡ stamp_octets seconds micros n
unfolding stamp_octets
writes seconds micros n b1 b2 b3 b4 h1 h2 h3 h4 = rw (h4, h3, h2, h1) refl

pub length-stamp_octets : (seconds micros n : ℕ) → length (stamp_octets seconds micros n) ≡ 16
unfolding stamp_octets
length-stamp_octets seconds micros n = refl

pub length-packet_octets : (seconds micros : ℕ) (octets : List ℕ) → length (packet_octets seconds micros octets) ≡ 16 + length octets
length-packet_octets seconds micros octets =
    length-append (stamp_octets seconds micros (length octets)) octets
    ∙ ap (λ n. n + length octets) (length-stamp_octets seconds micros (length octets))

-- sixteen octets and then others, written to the front of a room
pub written_front : (stamp octets room rest : List ℕ) → length stamp ≡ 16
    → take (16 + length octets) (take 16 (stamp ++ drop 16 room) ++ (octets ++ rest)) ≡ stamp ++ octets
written_front stamp octets room rest size =
    let first : take 16 (stamp ++ drop 16 room) ≡ stamp =
    subst (λ (n : ℕ). take n (stamp ++ drop 16 room) ≡ stamp) size (take-append_seam stamp (drop 16 room)) in
    let whole : length (stamp ++ octets) ≡ 16 + length octets = length-append stamp octets ∙ ap (λ n. n + length octets) size in
    let all : take (16 + length octets) ((stamp ++ octets) ++ rest) ≡ stamp ++ octets =
    subst (λ (n : ℕ). take n ((stamp ++ octets) ++ rest) ≡ stamp ++ octets) whole (take-append_seam (stamp ++ octets) rest) in
    ap (λ (xs : List ℕ). take (16 + length octets) (xs ++ (octets ++ rest))) first
    ∙ ap (λ (xs : List ℕ). take (16 + length octets) xs) (sym (append_assoc stamp octets rest))
    ∙ all

-- the numbers that stand before the octets of a packet

pub seconds_read : (seconds micros : ℕ) (octets rest : List ℕ) → seconds < 2 ^ 32 → number false 4 0 (packet_octets seconds micros octets ++ rest) ≡ seconds
unfolding number stamp_octets
seconds_read seconds micros octets rest fits = little_number-reads_back 4 seconds (drop 4 (packet_octets seconds micros octets ++ rest)) fits

pub micros_read : (seconds micros : ℕ) (octets rest : List ℕ) → micros < 2 ^ 32 → number false 4 4 (packet_octets seconds micros octets ++ rest) ≡ micros
unfolding number stamp_octets
micros_read seconds micros octets rest fits = little_number-reads_back 4 micros (drop 8 (packet_octets seconds micros octets ++ rest)) fits

pub captured_read : (seconds micros : ℕ) (octets rest : List ℕ) → length octets < 2 ^ 32
    → number false 4 8 (packet_octets seconds micros octets ++ rest) ≡ length octets
unfolding number stamp_octets
captured_read seconds micros octets rest fits = little_number-reads_back 4 (length octets) (drop 12 (packet_octets seconds micros octets ++ rest)) fits

pub original_read : (seconds micros : ℕ) (octets rest : List ℕ) → length octets < 2 ^ 32
    → number false 4 12 (packet_octets seconds micros octets ++ rest) ≡ length octets
unfolding number stamp_octets
original_read seconds micros octets rest fits = little_number-reads_back 4 (length octets) (drop 16 (packet_octets seconds micros octets ++ rest)) fits

pub octets_behind : (seconds micros : ℕ) (octets rest : List ℕ) → drop 16 (packet_octets seconds micros octets ++ rest) ≡ octets ++ rest
unfolding stamp_octets
octets_behind seconds micros octets rest = refl

-- ---- what was written is read back

-- the header

length-head_octets : length head_octets ≡ 24
unfolding head_octets
length-head_octets = refl

other_order : (rest : List ℕ) → number true 4 0 (head_octets ++ rest) ≡ 0xd4c3b2a1
unfolding number head_octets
other_order rest = refl

magic_read : (rest : List ℕ) → number false 4 0 (head_octets ++ rest) ≡ magic
unfolding number head_octets
magic_read rest = refl

major_read : (rest : List ℕ) → number false 2 4 (head_octets ++ rest) ≡ 2
unfolding number head_octets
major_read rest = refl

minor_read : (rest : List ℕ) → number false 2 6 (head_octets ++ rest) ≡ 4
unfolding number head_octets
minor_read rest = refl

link_read : (rest : List ℕ) → number false 4 20 (head_octets ++ rest) ≡ ethernet
unfolding number head_octets
link_read rest = refl

head_opened : (rest : List ℕ) → opened (head_octets ++ rest) ≡ Ok written_head
head_opened rest =
    let file = head_octets ++ rest in
    let other : number true 4 0 file ≢ magic = λ e. omega (arith, e, other_order rest) in
    let m : HasMagic file false = record { size = omega (arith, length-append head_octets rest, length-head_octets); magic = magic_read rest } in
    let link : number false 4 20 file % 65536 ≡ ethernet = rw (link_read rest) refl in
    opened_little file other m ∙ judged_right false file (major_read rest, minor_read rest) link

-- the packets

number_here : (big : Bool) (n : ℕ) (front xs : List ℕ) → number big n (length front) (front ++ xs) ≡ number big n 0 xs
unfolding number
number_here big n front xs = rw (drop-append_seam front xs) refl

number_behind : (big : Bool) (n k : ℕ) (front xs : List ℕ) → number big n (length front + k) (front ++ xs) ≡ number big n k xs
unfolding number
number_behind big n k front xs = rw (drop-append-add front xs k) refl

-- the packet of these octets at a place
packet_there : Stamped → ℕ → Packet
packet_there s at = record {
  seconds = s.seconds;
  micros = s.micros;
  from = at + stamp_length;
  to = at + stamp_length + length s.octets;
  original = length s.octets;
}

stands : (front : List ℕ) (s : Stamped) (rest : List ℕ) → IsWritable s
    → IsPacket written_head (front ++ (packet_octets s.seconds s.micros s.octets ++ rest)) (length front) (packet_there s (length front))
unfolding packet_there
stands front s rest w =
    let packet = packet_octets s.seconds s.micros s.octets in
    let few : length s.octets < 2 ^ 32 = omega (arith, w.short) in
    let size : length (front ++ (packet ++ rest)) ≡ length front + (length packet + length rest) =
    length-append front (packet ++ rest) ∙ ap (λ n. length front + n) (length-append packet rest) in
    record {
      seconds = number_here false 4 front (packet ++ rest) ∙ seconds_read s.seconds s.micros s.octets rest w.seconds;
      micros = number_behind false 4 4 front (packet ++ rest) ∙ micros_read s.seconds s.micros s.octets rest w.micros;
      from = refl;
      to = ap (λ n. length front + stamp_length + n)
          (number_behind false 4 8 front (packet ++ rest) ∙ captured_read s.seconds s.micros s.octets rest few);
      original = number_behind false 4 12 front (packet ++ rest) ∙ original_read s.seconds s.micros s.octets rest few;
      small = omega (arith, w.short);
      whole = omega (arith, size, length-packet_octets s.seconds s.micros s.octets);
    }

octets_there : (front octets rest xs : List ℕ) → drop 16 xs ≡ octets ++ rest
    → slice_range (front ++ xs) (length front + stamp_length) (length front + stamp_length + length octets) ≡ octets
octets_there front octets rest xs behind =
    let size : length front + stamp_length + length octets - (length front + stamp_length) ≡ length octets = omega arith in
    let place : drop (length front + stamp_length) (front ++ xs) ≡ octets ++ rest = drop-append-add front xs 16 ∙ behind in
    rw (size, place) (take-append_seam octets rest)

shows : (front : List ℕ) (s : Stamped) (rest : List ℕ) → Shows (front ++ (packet_octets s.seconds s.micros s.octets ++ rest)) (packet_there s (length front)) s
unfolding packet_there
shows front s rest = record {
  seconds = refl;
  micros = refl;
  octets = octets_there front s.octets rest (packet_octets s.seconds s.micros s.octets ++ rest) (octets_behind s.seconds s.micros s.octets rest);
  original = refl;
}

place_behind : (front : List ℕ) (s : Stamped) → length (front ++ packet_octets s.seconds s.micros s.octets) ≡ (packet_there s (length front)).to
unfolding packet_there
place_behind front s = omega (arith, length-append front (packet_octets s.seconds s.micros s.octets), length-packet_octets s.seconds s.micros s.octets)

reads : (front : List ℕ) (ss : List Stamped) → All IsWritable ss → Reads written_head (front ++ packets_octets ss) (length front) ss
reads front [] all =
    let end : length front ≡ length (front ++ []) = omega (arith, length-append front []) in
    (finds_packets.ended written_head (front ++ []) (length front) (omega arith)).1 end
reads front (s ∷ ss) all =
    let packet = packet_octets s.seconds s.micros s.octets in
    let rest = packets_octets ss in
    let there = packet_stands written_head (front ++ (packet ++ rest)) (length front) (packet_there s (length front))
    (stands front s rest (All-head IsWritable s ss all)) in
    let next : Reads written_head ((front ++ packet) ++ rest) (length (front ++ packet)) ss = reads (front ++ packet) ss (All-tail IsWritable s ss all) in
    let same : Reads written_head (front ++ (packet ++ rest)) (length (front ++ packet)) ss =
    subst (λ xs. Reads written_head xs (length (front ++ packet)) ss) (append_assoc front packet rest) next in (
      packet_there s (length front),
      there,
      shows front s rest,
      subst (λ n. Reads written_head (front ++ (packet ++ rest)) n ss) (place_behind front s) same,
    )

pub reads_back : ReadsBack
reads_back ss all = record {
  head = head_opened (packets_octets ss);
  packets = subst (λ n. Reads written_head (capture_octets ss) n ss) length-head_octets (reads head_octets ss all);
}
