-- Rate steps in the order of time.
use Rattle.std.proofs.{Common.{◌<◌, ◌∙◌, ◌∷◌, ◌≡◌, ◌≤◌, List, [], arith, refl, suc, unsigned_abs, ℕ}, lemmas.Bool.{le-leb, lt-leb}}
use Rattle.std.{proofs.lemmas.List.Sorted.IsNonDecreasingBy-drop, specs.{List.Sorted.IsNonDecreasingBy, Prelude.All}}
use Rattle.drift_clock.specs.RateSteps.{IsHistory, RateStep, up_to}

-- steps from a time on, each after the one before it
abbrev pub InOrder : ℕ → ℕ → List RateStep → Type 0
InOrder rho from [] = Unit {0}
InOrder rho from (s ∷ steps) = (from ≤ s.at) × (unsigned_abs s.rate ≤ rho) × InOrder rho s.at steps

-- what holds of all steps holds of those after the first
rest_in_order : (s : RateStep) (steps : List RateStep) → IsNonDecreasingBy (λ s. s.at) (s ∷ steps) → IsNonDecreasingBy (λ s. s.at) steps
rest_in_order s steps sorted = IsNonDecreasingBy-drop (λ s. s.at) 1 (s ∷ steps) sorted

rest_within : (P : RateStep → Type 0) (s : RateStep) (steps : List RateStep) → All P (s ∷ steps) → All P steps
rest_within P s steps all k d lt = all (suc k) d (omega arith)

after_first : (s : RateStep) (steps : List RateStep) → IsNonDecreasingBy (λ s. s.at) (s ∷ steps) → All (λ x. s.at ≤ x.at) steps
after_first s steps sorted k d lt = sorted 0 (suc k) d (omega arith) (omega arith)

in_order_from : (rho from : ℕ) (steps : List RateStep) → IsNonDecreasingBy (λ s. s.at) steps → All (λ s. unsigned_abs s.rate ≤ rho) steps
    → All (λ s. from ≤ s.at) steps → InOrder rho from steps
in_order_from rho from [] sorted small after = tt
in_order_from rho from (s ∷ steps) sorted small after = (
  after 0 s (omega arith),
  small 0 s (omega arith),
  in_order_from rho s.at steps (rest_in_order s steps sorted)
      (rest_within (λ x. unsigned_abs x.rate ≤ rho) s steps small) (after_first s steps sorted),
)

pub in_order : (rho : ℕ) (steps : List RateStep) → IsHistory rho steps → InOrder rho 0 steps
in_order rho steps h = in_order_from rho 0 steps h.in_order h.within (λ k d lt. omega arith)

-- the first step counts, or none does
pub up_to-cons : (t : ℕ) (s : RateStep) (steps : List RateStep) → s.at ≤ t → up_to t (s ∷ steps) ≡ s ∷ up_to t steps
up_to-cons t s steps le = rw (le-leb s.at t le) refl

pub up_to-late : (t : ℕ) (s : RateStep) (steps : List RateStep) → t < s.at → up_to t (s ∷ steps) ≡ up_to t steps
up_to-late t s steps lt = rw (lt-leb s.at t lt) refl

pub up_to-none : (rho t from : ℕ) (steps : List RateStep) → InOrder rho from steps → t < from → up_to t steps ≡ []
up_to-none rho t from [] i lt = refl
up_to-none rho t from (s ∷ steps) i lt = up_to-late t s steps (omega (arith, i.0)) ∙ up_to-none rho t s.at steps i.2 (omega (arith, i.0))

pub up_to-all : (t : ℕ) (steps : List RateStep) → All (λ s. s.at ≤ t) steps → up_to t steps ≡ steps
up_to-all t [] all = refl
up_to-all t (s ∷ steps) all = up_to-cons t s steps (all 0 s (omega arith)) ∙
    (rw (up_to-all t steps (rest_within (λ x. x.at ≤ t) s steps all)))
