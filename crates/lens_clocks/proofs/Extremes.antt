-- Between which values clocks lie.
use Rattle.device_rules.specs.Widths.{IsLocal}
use Rattle.lens_clocks.specs.{Laws.EndsAreOfClocks, Spread.{ends_of, locals_of}, declared.{spread.Ends.Ends, telling.DeviceClock.DeviceClock}}
use Rattle.run_law.specs.records.Order.{IsIn}
use Rattle.std.proofs.Common.{◌∷◌, ◌≡◌, ◌≤ℤ◌, List, Some, [], ap, arith, fold, inl, inr, refl, subst, suc, sym, zero, ℤ}
use Rattle.std.proofs.lemmas.{Int.{fold-int_max_bounds, fold-int_max_reached, fold-int_min_bounds, fold-int_min_reached}, List.Elements.All-cons}
use Rattle.std.specs.{Int.{int_max, int_min}, List.{All, Contains}}
use Rattle.tte_units.proofs.general_lemmas.Options.{one}

contains_first : (x v : ℤ) (xs : List ℤ) → v ≡ x → Contains (x ∷ xs) v
contains_first x v xs same = (zero, omega arith, sym same)

contains_more : (x v : ℤ) (xs : List ℤ) → Contains xs v → Contains (x ∷ xs) v
contains_more x v xs (k, within, is) = (suc k, omega (arith, within), is)

-- the ends of clocks are shown by clocks, and all lie between them
pub ends_are_of_clocks : EndsAreOfClocks
ends_are_of_clocks [] ends e = absurd cc
ends_are_of_clocks (c ∷ cs) ends e =
    let values = locals_of cs in
    let made = one (ends_of (c ∷ cs)) (record { least = fold int_min c.local values; greatest = fold int_max c.local values }) ends refl e in
    let least : ends.least ≡ fold int_min c.local values = sym (ap (λ (x : Ends). x.least) made) in
    let greatest : ends.greatest ≡ fold int_max c.local values = sym (ap (λ (x : Ends). x.greatest) made) in
    let low = fold-int_min_bounds c.local values ends.least least in
    let high = fold-int_max_bounds c.local values ends.greatest greatest in
    record {
      least =
          elim (fold-int_min_reached c.local values ends.least least) [
            | inl first ↦ contains_first c.local ends.least values first
            | inr more ↦ contains_more c.local ends.least values more
          ];
      greatest =
          elim (fold-int_max_reached c.local values ends.greatest greatest) [
            | inl first ↦ contains_first c.local ends.greatest values first
            | inr more ↦ contains_more c.local ends.greatest values more
          ];
      between =
          All-cons (λ v. (ends.least ≤ℤ v) × (v ≤ℤ ends.greatest)) c.local values (low.0, high.0) (λ k d within. (low.1 k d within, high.1 k d within));
    }

-- the clock that shows a value
pub shown_by : (cs : List DeviceClock) (v : ℤ) → Contains (locals_of cs) v → (c : DeviceClock) × IsIn c cs × (c.local ≡ v)
shown_by [] v (k, within, is) = absurd (omega (arith, within))
shown_by (c ∷ cs) v (zero, within, is) = (c, inl refl, is)
shown_by (c ∷ cs) v (suc k, within, is) = let h = shown_by cs v (k, omega (arith, within), is) in (h.0, inr h.1, h.2)

in_all : {X : Type 0} (P : X → Type 0) (xs : List X) (x : X) → All P xs → IsIn x xs → P x
in_all P [] x all i = absurd i
in_all P (y ∷ ys) x all (inl same) = subst P (sym same) (all zero y (omega arith))
in_all P (y ∷ ys) x all (inr i) = in_all P ys x (λ k d within. all (suc k) d (omega (arith, within))) i

-- the ends of clocks in their range lie there
pub ends_fit : (cs : List DeviceClock) (ends : Ends) → All (λ (c : DeviceClock). IsLocal c.local) cs → ends_of cs ≡ Some ends → IsLocal ends.least × IsLocal ends.greatest
ends_fit cs ends fit e =
    let are = ends_are_of_clocks cs ends e in
    let low = shown_by cs ends.least are.least in
    let high = shown_by cs ends.greatest are.greatest in
    let fits = in_all (λ (c : DeviceClock). IsLocal c.local) cs in
    (subst IsLocal low.2 (fits low.0 fit low.1), subst IsLocal high.2 (fits high.0 fit high.1))
