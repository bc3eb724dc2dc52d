-- A kind that lies within another has no more times.
use Rattle.lens_flows.specs.counts.Ordered.{IsCountOf, IsOrdered}
use Rattle.run_law.specs.records.Order.{IsIn}
use Rattle.std.proofs.Common.{◌<◌, ◌∷◌, ◌≤◌, List, [], arith, inl, inr, length, refl, ℕ}

abbrev before : ℕ → ℕ → Type 0
before t u = t < u

-- of two lists in order, one within the other
fewer : (ts us : List ℕ) → IsOrdered before ts → IsOrdered before us → ((t : ℕ) → IsIn t ts → IsIn t us) → length ts ≤ length us
fewer [] us first second within = omega arith
fewer (t ∷ ts) [] first second within = absurd (within t (inl refl))
fewer (t ∷ ts) (u ∷ us) first second within = elim (within t (inl refl)) [
  | inl same ↦
      let more = fewer ts us first.1 second.1 (λ x i. elim (within x (inr i)) [
        | inl is ↦ (let lt = first.0 x i in absurd (omega (arith, lt, is, same)))
        | inr there ↦ there
      ]) in
      omega (arith, more)
  | inr there ↦
      let lt = second.0 t there in
      let more = fewer (t ∷ ts) us first second.1 (λ x i. elim (within x i) [
        | inr deeper ↦ deeper
        | inl is ↦ absurd (elim i [
          | inl own ↦ omega (arith, lt, is, own)
          | inr later ↦ (let above = first.0 x later in omega (arith, lt, is, above))
        ])
      ]) in
      omega (arith, more)
]

pub counts_within : (P Q : ℕ → Type 0) (n m : ℕ) → ((t : ℕ) → P t → Q t) → IsCountOf P n → IsCountOf Q m → n ≤ m
counts_within P Q n m all (ts, are, is) (us, those, same) =
    let few = fewer ts us are.in_order those.in_order (λ t i. those.all t (all t (are.each t i))) in
    omega (arith, few, is, same)
