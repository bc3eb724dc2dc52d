-- The ends of local clocks, as they are found one after another.
use Rattle.run_law.proofs.Words.{◌+◌, ◌<◌, ◌∷◌, ◌≡◌, ◌≤ℤ◌, ◌⊎◌, Contains, List, Units, [], arith, cases_lt, inl, inr, length, refl, subst, suc, sym, zero, ℕ}
use Rattle.{std.proofs.Common.slice_index_or, tte_units.proofs.general_lemmas.Integers.through}

-- the least and the greatest of the first so many
pub record AreEndsOf (locals : List Units) (count : ℕ) (least greatest : Units) : Type 0 where
  pub least_there : Contains locals least
  pub greatest_there : Contains locals greatest
  pub bounds : (k : ℕ) (d : Units) → k < count → k < length locals → (least.0 ≤ℤ (slice_index_or locals k d).0) × ((slice_index_or locals k d).0 ≤ℤ greatest.0)

-- an element that is there does not depend on what stands for a missing one
pub same_there : (locals : List Units) (k : ℕ) (d e : Units) → k < length locals → slice_index_or locals k d ≡ slice_index_or locals k e
same_there [] k d e lt = absurd (omega arith)
same_there (x ∷ xs) zero d e lt = refl
same_there (x ∷ xs) (suc k) d e lt = same_there xs k d e (omega arith)

one_of : (locals : List Units) (r a b : Units) → Contains locals a → Contains locals b → (r ≡ a) ⊎ (r ≡ b) → Contains locals r
one_of locals r a b x y (inl e) = subst (Contains locals) (sym e) x
one_of locals r a b x y (inr e) = subst (Contains locals) (sym e) y

-- the next one may be an end
pub with_next : {locals : List Units} {count : ℕ} {least greatest : Units} (local low high : Units)
    → AreEndsOf locals count least greatest → count < length locals
    → ((d : Units) → slice_index_or locals count d ≡ local) → (low ≡ least) ⊎ (low ≡ local) → low.0 ≤ℤ least.0
    → low.0 ≤ℤ local.0 → (high ≡ greatest) ⊎ (high ≡ local) → greatest.0 ≤ℤ high.0 → local.0 ≤ℤ high.0
    → AreEndsOf locals (count + 1) low high
with_next {locals} {count} {least} {greatest} local low high ends there at one below under other above over =
    let here : Contains locals local = (count, there, at local) in
    record {
      least_there = one_of locals low least local ends.least_there here one;
      greatest_there = one_of locals high greatest local ends.greatest_there here other;
      bounds = λ k d before inside.
          elim (cases_lt k count) [
            | inl lt ↦
                let old = ends.bounds k d lt inside in
                (through low.0 least.0 _ below old.0, through _ greatest.0 high.0 old.1 above)
            | inr ge ↦
                let same : k ≡ count = omega arith in
                let is : slice_index_or locals k d ≡ local = rw same (at d) in
                (rw is under, rw is over)
          ];
    }
