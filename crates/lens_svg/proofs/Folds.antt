-- A fold, one element further, over a list that is told by a call.
use Rattle.std.{proofs.{Common.{◌+◌, ◌<◌, ◌∙◌, ◌≡◌, List, ap, get_or, length, subst, sym, take, ℕ}, lemmas.List.Sums.fold_more}, specs.Prelude.fold}

pub fold_listed : {X Y : Type 0} (f : Y → X → Y) (a : Y) (all listed : List X) → listed ≡ all → (i : ℕ) (d : X) → i < length listed → (y z : Y)
    → y ≡ fold f a (take i all) → z ≡ f y (get_or listed i d) → z ≡ fold f a (take (i + 1) all)
fold_listed {X = X} {Y = Y} f a all listed same i d within y z before next =
    next
    ∙ ap (λ (v : Y). f v (get_or listed i d)) before
    ∙ ap (λ (xs : List X). f (fold f a (take i all)) (get_or xs i d)) same
    ∙ sym (fold_more f a all i d (subst (λ (xs : List X). i < length xs) same within))
