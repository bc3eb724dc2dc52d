-- The vote, by which payloads are equal.
use Rattle.std.proofs.Common.{◌≡◌, ◌≤◌, ◌⊎◌, Bool, List, None, Option, Some, arith, false, inl, inr, refl, suc, true, zero, ℕ}
use Rattle.tte_observers.specs.votes.tmr.Vote.{AreEqual, IsSeconded, IsVote, Votes}

absent_other : (a : Option (List ℕ)) → AreEqual a None → ⊥
absent_other a (payload, of_a, of_b) = absurd cc

-- who seconds the first seat
first_by : (v : Votes) → IsSeconded v 0 → AreEqual v.first v.second ⊎ AreEqual v.first v.third
first_by v (zero, ne, e) = absurd (ne refl)
first_by v (suc zero, ne, e) = inl e
first_by v (suc (suc zero), ne, e) = inr e
first_by v (suc (suc (suc n)), ne, e) = absurd (absent_other v.first e)

either : {A B : Type 0} → A ⊎ B → (A → ⊥) → (B → ⊥) → ⊥
either (inl a) no_a no_b = no_a a
either (inr b) no_a no_b = no_b b

pub vote_first : (v : Votes) → AreEqual v.first v.second ⊎ AreEqual v.first v.third → IsVote v (Some 0)
vote_first v (inl e) = ((1, (λ same. omega (arith, same)), e), λ other h. omega arith)
vote_first v (inr e) = ((2, (λ same. omega (arith, same)), e), λ other h. omega arith)

pub vote_second : (v : Votes) → (AreEqual v.first v.second → ⊥) → (AreEqual v.first v.third → ⊥) → AreEqual v.second v.third → IsVote v (Some 1)
vote_second v no_second no_third e = ((2, (λ same. omega (arith, same)), e), least)
  where
    least : (other : ℕ) → IsSeconded v other → 1 ≤ other
    least zero h = absurd (either (first_by v h) no_second no_third)
    least (suc n) h = omega arith

-- what would make a test true does not hold where it is false
pub denied : {A : Type 0} (r : Bool) → (A → r ≡ true) → r ≡ false → A → ⊥
denied r holds isnt a = let t : r ≡ true = holds a in absurd cc
