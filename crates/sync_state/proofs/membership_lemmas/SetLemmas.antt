-- Sets of masters by their bits.
use Rattle.{std.proofs.Common.{◌↔◌, ◌∙◌, ◌≡◌, ◌⊎◌, arith, inl, inr, sym, ℕ}, sync_state.specs.membership.Members.{IsMember, none, single, union}}
use Rattle.std.proofs.lemmas.{Bool.cases_eq, Nat.Bits.{bit_at-lt, bit_at-pow_other, bit_at-pow_same, bit_at-zero, bit_at_or, same_from_bits}}
use Rattle.{std.specs.Int.bit_at, tte_units.specs.declared.frames.members.Members.Members}

pub single-members : (k i : ℕ) → IsMember i (single k) ↔ (i ≡ k)
single-members k i = grind (arith, bit_at-pow_same, cases_eq, bit_at-pow_other)

pub union-members : (a b : Members) (i : ℕ) → IsMember i (union a b) ↔ (IsMember i a ⊎ IsMember i b)
union-members a b i = grind (arith, bit_at_or, cases_eq, bit_at-lt)

pub none-members : (i : ℕ) → IsMember i none → ⊥
none-members i set = omega (arith, bit_at-zero i)

-- two sets of the same masters are one
pub same_members : (a b : Members) → ((i : ℕ) → IsMember i a ↔ IsMember i b) → a ≡ b
same_members a b same = rw (same_from_bits a.0 b.0 each) where
  each : (i : ℕ) → bit_at a.0 i ≡ bit_at b.0 i
  each i = elim (cases_eq (bit_at a.0 i) 1) [
    | inl set ↦ set ∙ sym ((same i).0 set)
    | inr clear ↦
        elim (cases_eq (bit_at b.0 i) 1) [
          | inl set ↦ absurd (clear ((same i).1 set))
          | inr too ↦ omega (arith, bit_at-lt a.0 i, bit_at-lt b.0 i)
        ]
  ]
