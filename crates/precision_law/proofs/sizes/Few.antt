-- The cycles of a run are few enough for frames to name them.
use Rattle.precision_law.proofs.words.Clocks.{cycles_are_few, has_before, hulls_go_on, room, sizes_are, within_run}
use Rattle.precision_law.proofs.words.{Laws.{Hull, IsNotBefore, IsView, View, hull_of, start_hull}, Runs.same_some}
use Rattle.precision_law.proofs.words.Std.{◌+◌, ◌^◌, ◌≡◌, ◌≤ℤ◌, ◌≤◌, Some, ap, arith, ints, pos, refl, suc, zero, ℕ}

-- the hull of a cycle is not before the cycle's time, but for the errors
pub not_before : {v : View} (n : ℕ) (hull : Hull) → IsView v → hull_of v n ≡ Some hull → IsNotBefore v.sizes n hull
not_before {v} zero hull is e =
    omega (arith, ints, ap (λ w. w.least) (same_some (hull_of v zero) (start_hull v.sizes) hull refl e))
not_before {v} (suc c) hull is e =
    let has = has_before v c hull (within_run is) e in
    hulls_go_on v.sizes c has.before hull (not_before c has.before is has.is_before) has.follows

-- a cycle whose hull begins within the run is one that frames may name
pub few_cycles : {v : View} (n : ℕ) (hull : Hull) → IsView v → hull_of v n ≡ Some hull → hull.least ≤ℤ pos v.until
    → n ≤ 2 ^ 20 + 2 ^ 17
few_cycles {v} n hull is e begun =
    let size = (sizes_are is).cycle in
    cycles_are_few v.sizes n v.until hull (room is) (not_before n hull is e) begun
    (rw size is.short)
