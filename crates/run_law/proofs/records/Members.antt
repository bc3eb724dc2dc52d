-- What is among the elements of lists that are made of others.
use Rattle.{run_law.{proofs.runs.Places.{in_left, in_parts, in_right}, specs.records.Order.IsIn}, std.specs.Prelude.{flat_map, map}}
use Rattle.std.proofs.Common.{◌∷◌, ◌≡◌, ◌⊎◌, Bool, List, [], ap, false, filter, if◌then◌else◌, inl, inr, refl, true}

pub in_map : {X Y : Type 0} (f : X → Y) (xs : List X) (x : X) → IsIn x xs → IsIn (f x) (map f xs)
in_map f [] x among = absurd among
in_map f (z ∷ xs) x (inl same) = inl (ap f same)
in_map f (z ∷ xs) x (inr among) = inr (in_map f xs x among)

pub from_map : {X Y : Type 0} (f : X → Y) (xs : List X) (y : Y) → IsIn y (map f xs) → (x : X) × IsIn x xs × (y ≡ f x)
from_map f [] y among = absurd among
from_map f (z ∷ xs) y (inl same) = (z, inl refl, same)
from_map f (z ∷ xs) y (inr among) = let h = from_map f xs y among in (h.0, inr h.1, h.2)

pub in_flat : {X Y : Type 0} (f : X → List Y) (xs : List X) (x : X) (y : Y) → IsIn x xs → IsIn y (f x) → IsIn y (flat_map f xs)
in_flat f [] x y among of = absurd among
in_flat f (z ∷ xs) x y (inl same) of = in_left y (f z) (flat_map f xs) (rw same at of)
in_flat f (z ∷ xs) x y (inr among) of = in_right y (f z) (flat_map f xs) (in_flat f xs x y among of)

pub from_flat : {X Y : Type 0} (f : X → List Y) (xs : List X) (y : Y) → IsIn y (flat_map f xs) → (x : X) × IsIn x xs × IsIn y (f x)
from_flat f [] y among = absurd among
from_flat {X = X} f (z ∷ xs) y among = by (in_parts y (f z) (flat_map f xs) among) (from_flat f xs y)
  where
    by : IsIn y (f z) ⊎ IsIn y (flat_map f xs) → (IsIn y (flat_map f xs) → (x : X) × IsIn x xs × IsIn y (f x)) → (x : X) × IsIn x (z ∷ xs) × IsIn y (f x)
    by (inl here) more = (z, inl refl, here)
    by (inr there) more = let h = more there in (h.0, inr h.1, h.2)

-- what passes the test is kept
pub in_kept : {X : Type 0} (p : X → Bool) (xs : List X) (x : X) → IsIn x xs → p x ≡ true → IsIn x (filter p xs)
in_kept p [] x i e = absurd i
in_kept {X} p (y ∷ xs) x i e =
    elim (p y) as (λ b. p y ≡ b → IsIn x (if b then y ∷ filter p xs else filter p xs)) [
      | true ↦ λ at. elim i [ inl same ↦ inl same | inr more ↦ inr (in_kept p xs x more e) ]
      | false ↦ λ at. elim i [ inl same ↦ (absurd cc) | inr more ↦ in_kept p xs x more e ]
    ] refl
