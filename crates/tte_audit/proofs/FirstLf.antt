-- The first LF.
use Rattle.{memchr.specs.Find.{IsFirstByte, is_byte}, std.{proofs.{Common.nat_lt, lemmas.List.Sums.position_or_len_is}, specs.List.position_or_len}}
use Rattle.tte_audit.proofs.Words.{◌≡◌, Bool, List, None, Option, Some, ap, arith, false, get_or, is_line_end, length, nat_tests, position, refl, sym, true, ℕ}

not_so : (b : Bool) → ¬ (b ≡ true) → b ≡ false
not_so true h = absurd (h refl)
not_so false h = refl

pub first_is_position : (octets : List ℕ) (r : Option ℕ) → IsFirstByte (is_byte 10) octets r → r ≡ position is_line_end octets
first_is_position octets None h =
    let at = position_or_len_is is_line_end octets (length octets) 0 (omega arith)
    (λ k below. not_so (is_line_end (get_or octets k 0)) (h k (omega arith) below)) (λ l. absurd (omega (arith, l))) in
    let off : nat_lt (position_or_len is_line_end octets) (length octets) ≡ false = grind (arith, nat_tests, at) in
    rw off refl
first_is_position octets (Some i) h =
    let at = position_or_len_is is_line_end octets i 0 (omega (arith, h.0.high))
    (λ k below. not_so (is_line_end (get_or octets k 0)) (h.0.before k (omega arith) below)) (λ l. h.1) in
    let on : nat_lt (position_or_len is_line_end octets) (length octets) ≡ true = grind (arith, nat_tests, at, h.0.high) in
    rw on (ap (λ (k : ℕ). Some k) (sym at))
