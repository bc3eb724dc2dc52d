-- Places of which neither is before the other are one.
use Rattle.std.proofs.Common.{◌↔◌, ◌∙◌, ◌∷◌, ◌≡◌, Bool, IsTrue, List, ap, false, inl, inr, not, refl, sym, true, ℕ}
use Rattle.run_law.{proofs.{records.Order.{before_is, is_there}, runs.Places.{either_way, never_self}}}
use Rattle.run_law.{specs.records.Order.{IsBefore, is_before}}

pub not_true : (b : Bool) → not b ≡ true → b ≡ false
not_true true e = absurd cc
not_true false e = refl

pub neither : (p q : List ℕ) → is_before p q ≡ false → is_before q p ≡ false → p ≡ q
neither p q first second =
    elim (either_way p q) [
      | inl b ↦ let is = before_is p q b in absurd cc
      | inr (inl same) ↦ same
      | inr (inr b) ↦ let is = before_is q p b in absurd cc
    ]

never : (p q : List ℕ) → p ≡ q → (b : Bool) → is_before p q ≡ b → is_before p q ≡ false
never p q same false e = e
never p q same true e = absurd (never_self q (rw same at (is_there p q e)))

pub itself : (p q : List ℕ) → p ≡ q → is_before p q ≡ false
itself p q same = never p q same (is_before p q) refl

-- of time 0, places compare as what is behind the time
pub behind_time : (b : Bool) (p q xs ys : List ℕ) → xs ≡ 0 ∷ p → ys ≡ 0 ∷ q → b ≡ is_before xs ys → IsTrue b ↔ IsBefore p q
behind_time b p q xs ys first second e =
    let is = e ∙ (rw first (ap (is_before (0 ∷ p)) second)) in
    (λ yes. is_there p q (sym is ∙ yes), λ before. is ∙ before_is p q before)
