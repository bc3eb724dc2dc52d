use Rattle.std.proofs.{Common.{◌+◌, ◌-◌, ◌<◌, ◌∙◌, ◌≡◌, Err, List, Ok, Result, arith, get_or, refl, suc, sym, zero, ℕ}, lemmas.Bool.Decides.nat_tests}
use Rattle.pcf_codec.specs.{Decoding.zeros_read, declared.refusal.PcfRefusal.{PcfRefusal, TheVariants.Reserved}}

abbrev none : Result (Unit {0}) PcfRefusal
none = Ok tt

pub stops : (i n : ℕ) (octets : List ℕ) → (get_or octets i 0 ≡ 0 → ⊥) → 0 < n → zeros_read i n octets ≡ Err (Reserved i)
unfolding zeros_read
stops i zero octets h some = absurd (omega arith)
stops i (suc n) octets h some = grind (arith, nat_tests)

pub goes_on : (i n : ℕ) (octets : List ℕ) → get_or octets i 0 ≡ 0 → zeros_read i (suc n) octets ≡ zeros_read (i + 1) n octets
unfolding zeros_read
goes_on i n octets h = grind (arith, nat_tests)

pub ends : (i n : ℕ) (octets : List ℕ) → n ≡ 0 → zeros_read i n octets ≡ none
unfolding zeros_read
ends i zero octets z = refl
ends i (suc n) octets z = absurd (omega arith)

-- what is left to look at, and that it answers for the whole
pub record Looks (i from count : ℕ) (octets : List ℕ) : Type 0 where
  pub left : ℕ
  pub place : i + left ≡ from + count
  pub same : zeros_read i left octets ≡ zeros_read from count octets

more : (n : ℕ) → 0 < n → suc (n - 1) ≡ n
more n lt = omega arith

pub looks_on : (i from count : ℕ) (octets : List ℕ) → Looks i from count octets → i < from + count → get_or octets i 0 ≡ 0 → Looks (i + 1) from count octets
looks_on i from count octets l lt z = record {
  left = l.left - 1;
  place = omega (arith, l.place);
  same = sym (goes_on i (l.left - 1) octets z) ∙ rw (more l.left (omega (arith, l.place))) l.same;
}
