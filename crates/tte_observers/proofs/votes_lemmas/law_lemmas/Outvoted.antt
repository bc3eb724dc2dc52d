-- What a device takes of the frames owed to it: where two payloads are equal they outvote the third.
use Rattle.std.proofs.{Math.Seq.drop-append_seam}
use Rattle.std.proofs.{lemmas.Bool.{and_from, cases_Bool, eq-eqb, eqb-true, or_cases, or_right}}
use Rattle.std.proofs.Common
use Common.{◌&&◌, ◌++◌, ◌-◌, ◌==◌, ◌||◌, ◌∙◌, ◌∷◌, ◌≡◌, Bool, List, None, Option, Some, [], ap, append_assoc, arith}
use Common.{cond, drop, false, find, inl, inr, length, length-append, nat_eq, not, refl, replicate, sym, true, ℕ}
use Rattle.std.specs.{Cmp.Lexicographic.{other_text, pointwise, same_text}}
use Rattle.std.specs.{Prelude.{if◌then◌else◌, option_and_then, option_map}}
use Rattle.byteorder.specs.{Endian.big_bytes, Numbers.length-bytes_high_first}
use Rattle.device_rules.specs.frames.traced.RecordOctets.{record_octets, shown}
use Rattle.net_plan.{proofs.SameIds.{same_device, same_vl}}
use Rattle.net_plan.specs.declared.{ids.{DeviceId.DeviceId, LinkId.LinkId, VlId.VlId}, network.Network.Network}
use Rattle.net_plan.specs.declared.{tables.VirtualLink.VirtualLink}
use Rattle.run_law.specs.{declared.note.NoteBody.NoteBody, law.Safety.{FramesAreDelivered, IsDelivered, IsOwed}}
use Rattle.run_law.specs.{records.{Frames.{mac_of, tt_frame_by}, Happenings.Happening, Order.IsIn}}
use Rattle.run_law.specs.{scenario.Scenarios.Scenario}
use Rattle.tte_observers.specs.votes.{tmr.Vote.{Votes, are_equal, payload_of, voted}}
use Rattle.tte_observers.specs.votes.law.{Ballots.{ballot_of, delivery_of, is_delivery, payload_in, payload_taken}}
use Rattle.tte_observers.specs.votes.law.{Outvoting.{TwoOutvoteTheThird, sent_payload}, Voting.is_match}
use Rattle.tte_units.proofs.general_lemmas.Bools.{both_left, both_right}
use Rattle.run_law.specs.declared.note.NoteBody.TheVariants as notes

-- ---- the first of a list's entries that passes a test, where one alone does

-- the one entry that passes is found
pub find_one : {X : Type 0} (p : X → Bool) (xs : List X) (x : X) → IsIn x xs → p x ≡ true → ((y : X) → IsIn y xs → p y ≡ true → y ≡ x) → find p xs ≡ Some x
find_one p [] x at hit one = absurd at
find_one {X} p (y ∷ xs) x at hit one =
    by (p y) refl (λ there. find_one p xs x there hit (λ z is passes. one z (inr is) passes))
  where
    behind : (p y ≡ false) → IsIn x (y ∷ xs) → IsIn x xs
    behind e (inl same) = let no : true ≡ false = sym hit ∙ (ap p same ∙ e) in absurd cc
    behind e (inr there) = there

    by : (b : Bool) → p y ≡ b → (IsIn x xs → find p xs ≡ Some x) → find p (y ∷ xs) ≡ Some x
    by true e rest = ap (λ (b : Bool). cond b (Some y) (find p xs)) e ∙ ap Some (one y (inl refl) e)
    by false e rest = ap (λ (b : Bool). cond b (Some y) (find p xs)) e ∙ rest (behind e at)

-- ---- what a device takes of a frame that is owed to it: the payload that a sender makes

-- behind the first 14 octets of the frame stand the cycle and zeros
pub payload_made : (network : Network) (vl : VirtualLink) (cycle : ℕ) → payload_in (tt_frame_by network vl cycle) ≡ sent_payload vl cycle
payload_made network vl cycle =
    let a = big_bytes 4 network.marker in
    let b = big_bytes 2 vl.id in
    let c = big_bytes 6 (mac_of network vl.sender) in
    let d = big_bytes 2 vl.ethertype in
    let e = big_bytes 4 cycle in
    let head = a ++ (b ++ (c ++ (d ++ e))) in
    let zeros : List ℕ = replicate (vl.length - length head) 0 in
    let front = ((a ++ b) ++ c) ++ d in
    let of_marker = length-bytes_high_first 4 network.marker in
    let of_id = length-bytes_high_first 2 vl.id in
    let of_sender = length-bytes_high_first 6 (mac_of network vl.sender) in
    let of_type = length-bytes_high_first 2 vl.ethertype in
    let size : length front ≡ 14 = omega (
      arith,
      length-append ((a ++ b) ++ c) d,
      length-append (a ++ b) c,
      length-append a b,
      of_marker,
      of_id,
      of_sender,
      of_type,
    ) in
    let long : length head ≡ 18 = omega (
      arith,
      length-append a (b ++ (c ++ (d ++ e))),
      length-append b (c ++ (d ++ e)),
      length-append c (d ++ e),
      length-append d e,
      of_marker,
      of_id,
      of_sender,
      of_type,
      length-bytes_high_first 4 cycle,
    ) in
    let split : head ++ zeros ≡ front ++ (e ++ zeros) = append_assoc a (b ++ (c ++ (d ++ e))) zeros
    ∙ ap (λ (l : List ℕ). a ++ l) (append_assoc b (c ++ (d ++ e)) zeros ∙ ap (λ (l : List ℕ). b ++ l) (append_assoc c (d ++ e) zeros
    ∙ ap (λ (l : List ℕ). c ++ l) (append_assoc d e zeros)))
    ∙ sym (append_assoc a b (c ++ (d ++ (e ++ zeros))))
    ∙ sym (append_assoc (a ++ b) c (d ++ (e ++ zeros)))
    ∙ sym (append_assoc ((a ++ b) ++ c) d (e ++ zeros)) in
    ap (drop 14) split
    ∙ ap (λ (n : ℕ). drop n (front ++ (e ++ zeros))) (sym size)
    ∙ drop-append_seam front (e ++ zeros)
    ∙ ap (λ n. e ++ replicate (vl.length - n) 0) long

-- ---- the record of the delivery

-- the record is one of the device, the virtual link and the cycle
abbrev IsSuch : VlId → ℕ → DeviceId → NoteBody → Type 0
IsSuch vl cycle device body = (link : LinkId) × (cause : ℕ) × (body ≡ notes.Delivered device link cause vl cycle)

told : (vl : VlId) (cycle : ℕ) (device : DeviceId) (body : NoteBody) → is_delivery vl cycle device body ≡ true → IsSuch vl cycle device body
told vl cycle device (notes.Delivered other link cause of_vl of_cycle) e =
    let rest = both_right (device.0 == other.0) (vl.0 == of_vl.0 && cycle == of_cycle) e in
    let devices : device ≡ other = same_device device other
    (eqb-true device.0 other.0 (both_left (device.0 == other.0) (vl.0 == of_vl.0 && cycle == of_cycle) e)) in
    let vls : vl ≡ of_vl = same_vl vl of_vl (eqb-true vl.0 of_vl.0 (both_left (vl.0 == of_vl.0) (cycle == of_cycle) rest)) in
    let cycles : cycle ≡ of_cycle = eqb-true cycle of_cycle (both_right (vl.0 == of_vl.0) (cycle == of_cycle) rest) in
    (link, cause, cc)
told vl cycle device other e = absurd cc

hits : (vl : VlId) (cycle : ℕ) (device : DeviceId) (link : LinkId) (cause : ℕ) → is_delivery vl cycle device (notes.Delivered device link cause vl cycle) ≡ true
hits vl cycle device link cause =
    and_from (device.0 == device.0) (vl.0 == vl.0 && cycle == cycle) (eq-eqb device.0 device.0 refl)
    (and_from (vl.0 == vl.0) (cycle == cycle) (eq-eqb vl.0 vl.0 refl) (eq-eqb cycle cycle refl))

-- what is taken of a frame that is delivered once, as it was sent
pub payload_delivered : {s : Scenario} {hs : List Happening} {vl : VlId} {of_vl : VirtualLink} {cycle : ℕ}
    {device : DeviceId} → IsDelivered s hs vl of_vl cycle device
    → payload_taken hs vl cycle device ≡ Some (sent_payload of_vl cycle)
payload_delivered {s} {hs} {vl} {of_vl} {cycle} {device} d =
    let only : (y : Happening) → IsIn y hs → is_delivery vl cycle device y.note.body ≡ true → y ≡ d.delivery =
    (λ y there passes. let such = told vl cycle device y.note.body passes in d.once y such.0 such.1 there such.2) in
    let hit : is_delivery vl cycle device d.delivery.note.body ≡ true = ap (is_delivery vl cycle device) d.is ∙ hits vl cycle device d.link d.cause in
    let found : delivery_of hs vl cycle device ≡ Some d.delivery =
    find_one (λ (h : Happening). is_delivery vl cycle device h.note.body) hs d.delivery d.there hit only in
    let shows : record_octets d.delivery ≡ Some d.delivery.octets = ap (λ body. shown body d.delivery.frame d.delivery.octets) d.is in
    ap (λ (o : Option Happening). option_map payload_in (option_and_then record_octets o)) found
    ∙ ap (option_map payload_in) shows
    ∙ ap (λ octets. Some (payload_in octets)) d.whole
    ∙ ap Some (payload_made s.network of_vl cycle)

-- ---- the vote where two payloads are equal

equal_self : (p : List ℕ) → pointwise nat_eq p p ≡ true
equal_self p = elim (cases_Bool (pointwise nat_eq p p)) [ inl same ↦ same | inr other ↦ absurd (other_text p p (sym other) refl) ]

equal_both : (a b : Option (List ℕ)) (p : List ℕ) → a ≡ Some p → b ≡ Some p → are_equal a b ≡ true
equal_both a b p e f = rw (e, f) (equal_self p)

-- what equals a payload is that payload
equal_told : (a b : Option (List ℕ)) (p : List ℕ) → are_equal a b ≡ true → b ≡ Some p → a ≡ Some p
equal_told (Some x) (Some y) p e f = ap Some (same_text x y (sym e)) ∙ f
equal_told (Some x) None p e f = absurd cc
equal_told None b p e f = absurd cc

by_first : (v : Votes) (p : List ℕ) → v.first ≡ Some p → (are_equal v.first v.second || are_equal v.first v.third) ≡ true → voted v ≡ Some p
by_first v p e t =
    ap (λ (b : Bool). option_and_then (payload_of v)
    (if b then Some 0 else (if are_equal v.second v.third then Some 1 else None))) t ∙ e

by_second : (v : Votes) (p : List ℕ) → v.second ≡ Some p → (are_equal v.first v.second || are_equal v.first v.third) ≡ false
    → are_equal v.second v.third ≡ true → voted v ≡ Some p
by_second v p e none t =
    ap (λ (b : Bool). option_and_then (payload_of v)
    (if b then Some 0 else (if are_equal v.second v.third then Some 1 else None))) none
    ∙ ap (λ (b : Bool). option_and_then (payload_of v) (if b then Some 1 else None)) t ∙ e

pub first_and_second : (v : Votes) (p : List ℕ) → v.first ≡ Some p → v.second ≡ Some p → voted v ≡ Some p
first_and_second v p e f = by_first v p e (ap (λ (b : Bool). b || are_equal v.first v.third) (equal_both v.first v.second p e f))

pub first_and_third : (v : Votes) (p : List ℕ) → v.first ≡ Some p → v.third ≡ Some p → voted v ≡ Some p
first_and_third v p e f = by_first v p e (or_right (are_equal v.first v.second) (are_equal v.first v.third) (equal_both v.first v.third p e f))

pub second_and_third : (v : Votes) (p : List ℕ) → v.second ≡ Some p → v.third ≡ Some p → voted v ≡ Some p
second_and_third v p e f =
    let a = are_equal v.first v.second in
    let b = are_equal v.first v.third in
    elim (cases_Bool (a || b)) [
      | inl t ↦ elim (or_cases a b t) [
        | inl s ↦ by_first v p (equal_told v.first v.second p s e) t
        | inr s ↦ by_first v p (equal_told v.first v.third p s f) t
      ]
      | inr none ↦ by_second v p e none (equal_both v.second v.third p e f)
    ]

-- ---- two of three outvote the third

same_length : (a b : VirtualLink) → is_match a b ≡ true → a.length ≡ b.length
same_length a b e =
    eqb-true a.length b.length
    (both_left (a.length == b.length) (a.period == b.period && a.phase == b.phase)
    (both_right (not (a.sender.0 == b.sender.0)) (a.length == b.length && (a.period == b.period && a.phase == b.phase)) e))

-- senders of virtual links of one length make one payload
same_payload : (a b : VirtualLink) (cycle : ℕ) → is_match a b ≡ true → sent_payload b cycle ≡ sent_payload a cycle
same_payload a b cycle e = ap (λ n. big_bytes 4 cycle ++ replicate (n - 18) 0) (sym (same_length a b e))

-- what is taken of a frame that is owed
taken : {s : Scenario} {hs : List Happening} {until : ℕ} {vl : VlId} {of_vl : VirtualLink} {cycle : ℕ}
    {device : DeviceId} → FramesAreDelivered s hs until → IsOwed s hs until vl of_vl cycle device
    → payload_taken hs vl cycle device ≡ Some (sent_payload of_vl cycle)
taken {vl} {of_vl} {cycle} {device} delivered owed = payload_delivered (delivered vl of_vl cycle device owed)

pub two_outvote_the_third : TwoOutvoteTheThird
two_outvote_the_third s hs until voters a b c cycle device may delivered two =
    let ballot = ballot_of voters hs cycle device in
    let p = sent_payload a cycle in
    let of_a = both_left (is_match a b) (is_match a c && is_match b c) may.told in
    let of_b = both_left (is_match a c) (is_match b c) (both_right (is_match a b) (is_match a c && is_match b c) may.told) in
    let as_b = ap Some (same_payload a b cycle of_a) in
    let as_c = ap Some (same_payload a c cycle of_b) in
    elim two [
      | inl owed ↦ first_and_second ballot p (taken delivered owed.0)
          (taken delivered owed.1 ∙ as_b)
      | inr others ↦ elim others [
        | inl owed ↦ first_and_third ballot p (taken delivered owed.0)
            (taken delivered owed.1 ∙ as_c)
        | inr owed ↦ second_and_third ballot p (taken delivered owed.0 ∙ as_b)
            (taken delivered owed.1 ∙ as_c)
      ]
    ]
