-- A record that bears on nothing else is put in: what is settled then.
use Rattle.world_law.proofs.Words.{◌++◌, ◌∷◌, ◌≡◌, ◌≤◌, ◌⊎◌, Happening, IsOwnSource, IsSource, List, NoteBody, Scenario}
use Rattle.world_law.proofs.Words.{[], arith, inl, inr, rank, refl, sym, ℕ}
use Rattle.run_law.specs.declared.judgement.Why.TheVariants as whys
use Rattle.run_law.specs.declared.note.NoteBody.TheVariants as notes

-- ---- lists

pub split_three : (front more : List Happening) (w : Happening) (f rest : List Happening) (y : Happening) → front ++ w ∷ more ≡ f ++ y ∷ rest
    → ((r : List Happening) × (front ≡ f ++ y ∷ r)) ⊎ (((front ≡ f) × (w ≡ y)) ⊎ ((b : List Happening) × (f ≡ front ++ w ∷ b) × (more ≡ b ++ y ∷ rest)))
split_three [] more w [] rest y e = inr (inl (refl, cc))
split_three [] more w (g ∷ f) rest y e = let a : g ≡ w = cc in let b : more ≡ f ++ y ∷ rest = cc in
    inr (inr (f, rw a, b))
split_three (h ∷ front) more w [] rest y e = let a : h ≡ y = cc in inl (front, rw a)
split_three (h ∷ front) more w (g ∷ f) rest y e =
    search (arith, (split_three front more w f rest y))

pub split_two : (front more : List Happening) (w : Happening) (f back : List Happening) → front ++ w ∷ more ≡ f ++ back
    → ((r : List Happening) × (front ≡ f ++ r) × (back ≡ r ++ w ∷ more)) ⊎ ((b : List Happening) × (f ≡ front ++ w ∷ b) × (more ≡ b ++ back))
split_two front more w [] back e = inl (front, refl, sym e)
split_two [] more w (g ∷ f) back e = let a : g ≡ w = cc in let b : more ≡ f ++ back = cc in inr (f, rw a, b)
split_two (h ∷ front) more w (g ∷ f) back e =
    search (arith, (split_two front more w f back))

-- ---- own sources

module _ (s : Scenario) (hs : List Happening) where
  -- an own source is of the record's time, and its rank is no higher
  pub own_time : (t members : ℕ) (body : NoteBody) (w : List ℕ) → IsOwnSource s hs t members body w
      → (k : ℕ) × (ws : List ℕ) × (w ≡ t ∷ k ∷ ws) × (k ≤ rank body)
  own_time t m (notes.State device state cause whys.SyncClique) w o = (_, _, o.1, omega arith)
  own_time t m (notes.State device state cause whys.AsyncClique) w o = (_, _, o.1, omega arith)
  own_time t m (notes.Lost device link cause) w (inl o) = (_, _, o.0, omega arith)
  own_time t m (notes.Lost device link cause) w (inr (inl o)) = (_, _, o.4, omega arith)
  own_time t m (notes.Lost device link cause) w (inr (inr o)) = (_, _, o.0, omega arith)
  own_time t m (notes.TtSent device link cause vl cycle) w o = (_, _, o.1, omega arith)
  own_time t m (notes.Dropped device link cause reason) w (inl o) = (_, _, o.0, omega arith)
  own_time t m (notes.Dropped device link cause reason) w (inr (inl o)) = (_, _, o.2, omega arith)
  own_time t m (notes.Dropped device link cause reason) w (inr (inr o)) = (_, _, o.0, omega arith)
  own_time t m other w o = (_, _, o, omega arith)

  pub at_place : {w : List ℕ} {p : List ℕ} → w ≡ p → IsSource s hs p → IsSource s hs w
  at_place e source = rw e source
