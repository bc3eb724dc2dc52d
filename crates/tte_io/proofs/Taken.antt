-- What was taken from a source was left in it.
use Rattle.std.proofs.Common.{◌++◌, ◌+◌, ◌<◌, ◌∙◌, ◌≡◌, ◌≤◌, IfSome, List, None, Some, ap, arith, drop, drop-drop, length, length-append, sym, take, take_all}
use Rattle.std.proofs.Common.{ℕ}
use Rattle.{std.{proofs.lemmas.List.{length-take, take-append-drop, take-append-le}, specs.declared.option.Option.Option}, tte_io.specs.Whole.TakesTooMany}

pub too_many-left : (old new : Option (List ℕ)) (limit : ℕ) → TakesTooMany old new limit → IfSome old (λ left. limit < length left)
too_many-left None new limit taken = tt
too_many-left (Some xs) None limit taken = absurd taken.2
too_many-left (Some xs) (Some ys) limit taken = omega (arith, ap length taken.2, length-append taken.0 ys, taken.1)

-- the octets at the front of a buffer and those behind them are what was left
pub given_front : (xs left copied rest : List ℕ) (taken n : ℕ) → drop taken xs ≡ left → copied ≡ take n left → n ≤ length left
    → left ≡ take n (copied ++ rest) ++ drop (taken + n) xs
given_front xs left copied rest taken n is copy within =
    let size : length copied ≡ n = omega (arith, ap (λ l. length l) copy, length-take n left) in
    let front = take-append-le n copied rest (omega arith) ∙ take_all n copied (omega arith) ∙ copy in
    let back = sym (drop-drop n taken xs) ∙ (rw is) in
    rw (front, back) (sym (take-append-drop n left))
