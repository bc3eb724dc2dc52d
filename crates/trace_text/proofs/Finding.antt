-- The first octet that passes a test, as a place.
use Rattle.{memchr.specs.Find.IsFirstByte, std.{proofs.lemmas.{Bool.Decides.nat_tests, List.Sums.position_or_len_is}, specs.List.{position}}}
use Rattle.std.proofs.Common.{◌≡◌, Bool, List, None, Option, Some, arith, false, length, nat_lt, refl, sym, true, ℕ}

fails : (b : Bool) → ¬ (b ≡ true) → b ≡ false
fails false other = refl
fails true other = absurd (other refl)

-- a search for the first place is the place of the first
pub first_is_position : (test : ℕ → Bool) (text : List ℕ) (r : Option ℕ) → IsFirstByte test text r → r ≡ position test text
first_is_position test text None h =
    let here =
    position_or_len_is test text (length text) 0 (omega arith) (λ k below. fails _ (h k (omega arith) below)) (λ below. absurd (omega arith)) in
    let past : nat_lt (length text) (length text) ≡ false = grind (arith, nat_tests) in
    sym (rw here ((rw past)))
first_is_position test text (Some place) h =
    let within = h.0.high in
    let here =
    position_or_len_is test text place 0 (omega arith) (λ k below. fails _ (h.0.before k (omega arith) below)) (λ below. h.1) in
    let inside : nat_lt place (length text) ≡ true = grind (arith, nat_tests) in
    sym (rw here ((rw inside)))
