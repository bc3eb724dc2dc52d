-- Parts of a store.
use Rattle.std.{proofs.{Common.{◌+◌, ◌-◌, ◌∙◌, ◌≡◌, ◌≤◌, List, ap, arith, drop, take, ℕ}, lemmas.List.{drop-drop, drop-take}}, specs.List.slice_range}

pub drop-slice_range : (xs : List ℕ) (i n j : ℕ) → i + n ≤ j → drop n (slice_range xs i j) ≡ slice_range xs (i + n) j
drop-slice_range xs i n j within =
    let size : j - i ≡ n + (j - (i + n)) = omega arith in
    rw size (drop-take n (j - (i + n)) (drop i xs) ∙ ap (take (j - (i + n))) (drop-drop n i xs))
