-- A list is mapped from its front on.
use Rattle.std.proofs.Common.{◌++◌, ◌+◌, ◌<◌, ◌∙◌, ◌∷◌, ◌≡◌, ◌≤◌, List, [], ap, arith, get_or, length, map, sym, take, ℕ}
use Rattle.std.proofs.lemmas.List.{map_more, take_all}

-- what one more is mapped to is put behind those before
pub mapped_push : {X Y : Type 0} (f : X → Y) {xs items : List X} (i : ℕ) {x : X} {ys : List Y} {y : Y} → items ≡ xs → i < length items → x ≡ get_or items i x
    → ys ≡ map f (take i xs) → y ≡ f x → ys ++ y ∷ [] ≡ map f (take (i + 1) xs)
mapped_push f {xs} i {x} {y} same lt read is made =
    let within : i < length xs = omega (arith, ap length same) in
    let own = made ∙ ap f read ∙ ap (λ l. f (get_or l i x)) same in
    rw is (ap (λ z. map f (take i xs) ++ z ∷ []) own ∙ sym (map_more f xs i x within))

pub mapped_all : {X Y : Type 0} (f : X → Y) {xs items : List X} (i : ℕ) {ys : List Y} → items ≡ xs → length items ≤ i → ys ≡ map f (take i xs) → ys ≡ map f xs
mapped_all f {xs} i same le is = is ∙ ap (map f) (take_all i xs (omega (arith, ap length same)))
