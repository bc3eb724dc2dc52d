-- The lines of cycles, one after another.
use Rattle.lens_clocks.specs.{Answer.{cycle_lines, lines_to}, Laws.CyclesHavePassed}
use Rattle.run_law.specs.{records.Happenings.Happening, scenario.Scenarios.Scenario}
use Rattle.std.proofs.Common.{◌++◌, ◌+◌, ◌<◌, ◌∙◌, ◌≡◌, ◌≤◌, List, [], ap, append_assoc, arith, inl, inr, refl, subst, suc, sym, zero, ℕ}
use Rattle.std.proofs.Math.Nat.{le-div_iff_mul-le}
use Rattle.std.proofs.lemmas.{Bool.cases_lt, Int.ints, List.append-nil}
use Rattle.tte_forms.{proofs.Puts.{PutFails-behind, PutFails-more, PutsLines-append}}
use Rattle.tte_forms.{specs.Putting.{PutFails, PutsLines, PutsSome, Shown}}

pub cycles_have_passed : CyclesHavePassed
cycles_have_passed s until k range =
    let long = range.cycle.least in
    le-div_iff_mul-le (omega (arith, ints, long))

module _ (s : Scenario) (hs : List Happening) where
  -- the lines of more cycles begin with those of these
  front : (n count : ℕ) → n ≤ count → (rest : List (List ℕ)) × (lines_to s hs count ≡ lines_to s hs n ++ rest)
  front zero zero le = ([], refl)
  front (suc n) zero le = absurd (omega (arith, le))
  front n (suc m) le =
      elim (cases_lt m n) [
        | inl same ↦
            let all : suc m ≡ n = omega (arith, same, le) in
            ([], ap (λ k. lines_to s hs k) all ∙ sym (append-nil (lines_to s hs n)))
        | inr less ↦
            let h = front n m less in
            let last = cycle_lines s hs (suc m) in
            (h.0 ++ last, ap (λ (ls : List (List ℕ)). ls ++ last) h.1 ∙ append_assoc (lines_to s hs n) h.0 last)
      ]

  pub cycles_more : (n : ℕ) (a b c : Shown) → PutsLines (lines_to s hs n) a b → PutsLines (cycle_lines s hs (n + 1)) b c
      → PutsLines (lines_to s hs (n + 1)) a c
  cycles_more n a b c p q =
      let next : n + 1 ≡ suc n = omega arith in
      subst (λ k. PutsLines (lines_to s hs k) a c) (sym next)
      (PutsLines-append p (subst (λ k. PutsLines (cycle_lines s hs k) b c) next q))

  pub cycles_fail : (n count : ℕ) (a b c : Shown) → n < count → PutsLines (lines_to s hs n) a b → PutFails (cycle_lines s hs (n + 1)) b c
      → PutFails (lines_to s hs count) a c
  cycles_fail n count a b c lt p q =
      let next : n + 1 ≡ suc n = omega arith in
      let h = front (suc n) count (omega (arith, lt)) in
      subst (λ ls. PutFails ls a c) (sym h.1)
      (PutFails-more h.0
      (PutFails-behind (cycle_lines s hs (suc n)) c p (subst (λ k. PutFails (cycle_lines s hs k) b c) next q)))

  pub cycles_some : (n count : ℕ) (a b : Shown) → n < count → PutsLines (lines_to s hs n) a b → PutsSome (lines_to s hs count) a b
  cycles_some n count a b lt p = let h = front n count (omega (arith, lt)) in record { done = lines_to s hs n; left = h.0; order = h.1; puts = p }
