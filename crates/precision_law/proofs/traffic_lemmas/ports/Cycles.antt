-- What two instants of the blocks of a run have in common.
use Rattle.precision_law.{proofs.traffic_lemmas.Words.{last_correction, pos, room, same_some, suc, within_run, zero, ℕ}, specs.Hulls.IsOverBefore}
use Rattle.precision_law.proofs.traffic_lemmas.Words.{◌+ℤ◌, ◌<◌, ◌≡◌, ◌≤ℤ◌, Hull, IsView, Some, Stands, View, ap, arith, cases_lt, has_before, hull_of, inl}
use Rattle.precision_law.proofs.traffic_lemmas.Words.{inr, ints}

-- the block of a cycle ends at one time
pub same_end : (v : View) (n a b : ℕ) → IsOverBefore v n a → IsOverBefore v n b → a ≡ b
same_end v zero a b one two = omega arith
same_end v (suc n) a b one two = grind (arith, same_some, hull_of, last_correction, ints)

-- a cycle has one hull
pub same_hull : (v : View) (n : ℕ) (one two : Stands v n) → one.hull ≡ two.hull
same_hull v n one two = same_some (hull_of v n) one.hull two.hull one.is_hull two.is_hull

-- and its span one beginning
pub same_next : {v : View} {n : ℕ} (one two : Stands v n) → one.next ≡ two.next
same_next {v} {n} one two = same_end v n one.next two.next one.is_over two.is_over

-- the hulls of later cycles are later by a cycle, but for an error
pub hulls_grow : {v : View} (n m : ℕ) (a b : Hull) → IsView v → n < m → hull_of v n ≡ Some a → hull_of v m ≡ Some b
    → (a.least +ℤ pos v.sizes.cycle) ≤ℤ (b.least +ℤ pos v.sizes.reach)
hulls_grow n zero a b is lt one two = absurd (omega arith)
hulls_grow {v} n (suc m) a b is lt one two =
    let has = has_before v m b (within_run is) two in
    let space = room is in
    elim (cases_lt n m) [
      | inl less ↦
          let more = hulls_grow n m a has.before is less one has.is_before in
          omega (arith, ints, has.follows.least, space.many_errors)
      | inr ge ↦
          let same : n ≡ m = omega arith in
          let equal = same_some (hull_of v m) a has.before (rw same at one) has.is_before in
          let least : a.least ≡ has.before.least = ap (λ (h : Hull). h.least) equal in
          omega (arith, ints, has.follows.least)
    ]
