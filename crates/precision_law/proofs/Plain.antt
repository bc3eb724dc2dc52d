-- Plain facts of choices, lists, roles and states that several files use.
use Rattle.precision_law.proofs.words.{Laws.has_time, Runs.{rank, time_of}, Std.{option_and_then, option_map_or, refl, subst, true, ℕ}}
use Rattle.{precision_law.proofs.words.Plans.{Device, Master, Role, State, Synchronised, is_end_system}, tte_units.proofs.general_lemmas.Options.passed}
use Rattle.precision_law.proofs.words.Runs.{Happening, IsBefore, IsIn, any_first, any_later, any_of_none, any_parts, is_cm_role, is_synchronised, place_of}
use Rattle.precision_law.proofs.words.Std.{◌<◌, ◌∷◌, ◌≡◌, ◌≤◌, Any, Bool, List, None, Option, Some, [], arith, cases_lt, false, if◌then◌else◌, inl, inr}

-- ---- choices

pub reached : {X Y : Type 0} (f : X → Option Y) (o : Option X) (y : Y) → option_and_then f o ≡ Some y → (x : X) × (o ≡ Some x) × (f x ≡ Some y)
reached f None y e = absurd cc
reached f (Some x) y e = (x, refl, e)

pub some_if : {X : Type 0} (b : Bool) (x y : X) → (if b then Some x else None) ≡ Some y → (b ≡ true) × (x ≡ y)
some_if true x y e = (refl, cc)
some_if false x y e = absurd cc

-- a number is below another, or at most it, where the contrary is not
pub lt_by : {a b : ℕ} → (b ≤ a → ⊥) → a < b
lt_by {a} {b} never = elim (cases_lt a b) [ inl lt ↦ lt | inr ge ↦ absurd (never ge) ]

pub le_by : {a b : ℕ} → (b < a → ⊥) → a ≤ b
le_by {a} {b} never = elim (cases_lt b a) [ inl lt ↦ absurd (never lt) | inr ge ↦ ge ]

-- ---- lists

-- a record that is before one of a lower rank is of an earlier time
pub higher_before : (h g : Happening) → IsBefore (place_of h) (place_of g) → rank g.note.body < rank h.note.body → time_of h < time_of g
higher_before h g (inl lt) low = lt
higher_before h g (inr (same, inl less)) low = absurd (omega arith)
higher_before h g (inr (same, inr more)) low = absurd (omega (arith, more.0))

-- the element of which something holds
pub any_is : {X : Type 0} (P : X → Type 0) (xs : List X) → Any P xs → (x : X) × IsIn x xs × P x
any_is P [] any = absurd (any_of_none P any)
any_is {X} P (x ∷ xs) any = elim (any_parts P x xs any) as (λ _. (y : X) × IsIn y (x ∷ xs) × P y) [
  | inl p ↦ (x, inl refl, p)
  | inr more ↦ (let r = any_is P xs more in (r.0, inr r.1, r.2))
]

pub any_of_in : {X : Type 0} (P : X → Type 0) (x : X) (xs : List X) → IsIn x xs → P x → Any P xs
any_of_in P x [] i p = absurd i
any_of_in P x (y ∷ xs) (inl same) p = any_first P y xs (subst P same p)
any_of_in P x (y ∷ xs) (inr i) p = any_later P y xs (any_of_in P x xs i p)

-- ---- roles and states

-- a device of which this holds is there
pub device_of : (f : Role → Bool) (o : Option Device) → option_map_or (λ d. f d.role) o false ≡ true → (d : Device) × (o ≡ Some d) × (f d.role ≡ true)
device_of f o e = passed (λ d. f d.role) o e

pub cm_is_no_end : (role : Role) → is_cm_role role ≡ true → is_end_system role ≡ true → ⊥
cm_is_no_end Master a b = absurd cc
cm_is_no_end role a b = absurd cc

-- who is synchronised has the time
pub synchronised_has_time : (state : State) → is_synchronised state ≡ true → has_time state ≡ true
synchronised_has_time Synchronised e = refl
synchronised_has_time state e = absurd cc
