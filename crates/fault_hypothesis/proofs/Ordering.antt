-- The conditions in the order in which they are judged.
use Rattle.{fault_hypothesis.specs.Own.{behind_own, first_own}, run_law.specs.scenario.Hypothesis.{Violates, condition_number}}
use Rattle.net_plan.specs.declared.event.Event.{Event}
use Rattle.{net_plan.specs.declared.network.Network.Network, run_law.specs.declared.outside.Outside.Outside, std.proofs.lemmas.Bool.{cases_lt, cases_order}}
use Rattle.run_law.specs.declared.outside.Outside.TheVariants.{Channel, Hold, Late, NotBroken, NotMaster, NotOff, Order, Rate, SecondBreak, TooFewMasters, Wire}
use Rattle.std.{proofs.Common.{◌+◌, ◌-◌, ◌<◌, ◌∷◌, ◌≡◌, ◌≤◌, ◌⊎◌, List, [], arith, inl, inr, refl, suc, sym, zero, ℕ}, specs.List.slice_index_or}

-- the conditions, by their numbers
abbrev pub conditions : List Outside
conditions = Order ∷ Late ∷ Rate ∷ Wire ∷ Hold ∷ Channel ∷ NotMaster ∷ SecondBreak ∷ TooFewMasters ∷ NotBroken ∷ NotOff ∷ []

-- each condition stands at the place below its number
pub stands_by_number : (condition other : Outside) → slice_index_or conditions (condition_number condition - 1) other ≡ condition
stands_by_number Order other = refl
stands_by_number rest other = refl

-- the condition at a place has the number above it
pub number_of_place : (place : ℕ) (other : Outside) → place < 11 → condition_number (slice_index_or conditions place other) ≡ place + 1
number_of_place zero other within = refl
number_of_place (suc zero) other within = refl
number_of_place (suc (suc zero)) other within = refl
number_of_place (suc (suc (suc zero))) other within = refl
number_of_place (suc (suc (suc (suc zero)))) other within = refl
number_of_place (suc (suc (suc (suc (suc zero))))) other within = refl
number_of_place (suc (suc (suc (suc (suc (suc zero)))))) other within = refl
number_of_place (suc (suc (suc (suc (suc (suc (suc zero))))))) other within = refl
number_of_place (suc (suc (suc (suc (suc (suc (suc (suc zero)))))))) other within = refl
number_of_place (suc (suc (suc (suc (suc (suc (suc (suc (suc zero))))))))) other within = refl
number_of_place (suc (suc (suc (suc (suc (suc (suc (suc (suc (suc zero)))))))))) other within = refl
number_of_place (suc (suc (suc (suc (suc (suc (suc (suc (suc (suc (suc place))))))))))) other within =
    absurd (omega arith)

-- a condition of a number up to that at a place has a lower one, or stands there
pub up_to_place : (place : ℕ) (other earlier : Outside) → condition_number earlier ≤ place + 1 → (condition_number earlier ≤ place)
    ⊎ (slice_index_or conditions place other ≡ earlier)
up_to_place place other earlier low =
    elim (cases_order (condition_number earlier) (place + 1)) [
      | inl same ↦
          let here : condition_number earlier - 1 ≡ place = omega arith in
          inr (rw (sym here) (stands_by_number earlier other))
      | inr (inl less) ↦ inl (omega arith)
      | inr (inr more) ↦ absurd (omega arith)
    ]

-- but for the first two, a condition that an event breaks is one of its own
pub own_violated : (network : Network) (before : List Event) (event : Event) (condition : Outside) → 2 < condition_number condition
    → Violates network before event condition → (first_own event.what < condition_number condition) × (condition_number condition ≤ behind_own event.what)
own_violated network before event Order above v = absurd (omega arith)
own_violated network before event Late above v = absurd (omega arith)
own_violated network before event NotMaster above v = rw v.breaks (omega arith, omega arith)
own_violated network before event SecondBreak above v = rw v.breaks (omega arith, omega arith)
own_violated network before event TooFewMasters above v = rw v.breaks (omega arith, omega arith)
own_violated network before event other above v = rw v.what (omega arith, omega arith)

-- what holds of the first two holds of all up to them
pub first_two : (P : Outside → Type 0) → P Order → P Late → (condition : Outside) → condition_number condition ≤ 2 → P condition
first_two P first second Order low = first
first_two P first second Late low = second
first_two P first second other low = absurd (omega arith)

-- an event that breaks neither of them breaks none before its own
pub none_before : (network : Network) (before : List Event) (event : Event) → (Violates network before event Order → ⊥)
    → (Violates network before event Late → ⊥) → (condition : Outside) → condition_number condition ≤ first_own event.what
    → Violates network before event condition → ⊥
none_before network before event early late condition low v =
    elim (cases_lt 2 (condition_number condition)) [
      | inl above ↦ let own = own_violated network before event condition above v in absurd (omega (arith, own.0))
      | inr upto ↦ first_two (λ c. Violates network before event c → ⊥) early late condition (omega arith) v
    ]

-- an event that breaks none up to a place behind its own breaks none
pub none_behind : (network : Network) (before : List Event) (event : Event) (place : ℕ) → 2 ≤ place → behind_own event.what ≤ place
    → ((condition : Outside) → condition_number condition ≤ place → Violates network before event condition → ⊥) → (condition : Outside)
    → Violates network before event condition → ⊥
none_behind network before event place least behind none condition v =
    elim (cases_lt place (condition_number condition)) [
      | inl above ↦ let own = own_violated network before event condition (omega arith) v in
          absurd (omega (arith, own.1))
      | inr upto ↦ none condition (omega arith) v
    ]
