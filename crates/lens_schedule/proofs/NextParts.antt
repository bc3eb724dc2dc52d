-- The next part of a picture.
use Rattle.std.proofs.{Common.{◌++◌, ◌+◌, ◌<◌, ◌∙◌, ◌∷◌, ◌≡◌, List, [], ap, append_assoc, get_or, length, map, sym, take, ℕ}, lemmas.List.{map-append, take_more}}

-- one more of a list is added
pub map_next : {X Y : Type 0} (f : X → Y) (xs : List X) (n : ℕ) (d : X) (old m p : List Y) (y : Y) → n < length xs
    → m ≡ old ++ map f (take n xs) → p ≡ m ++ y ∷ [] → y ≡ f (get_or xs n d) → p ≡ old ++ map f (take (n + 1) xs)
map_next {X} {Y} f xs n d old m p y lt before after is =
    let front = map f (take n xs) in
    let whole : map f (take (n + 1) xs) ≡ front ++ f (get_or xs n d) ∷ [] =
    ap (λ (zs : List X). map f zs) (take_more xs n d lt) ∙ map-append f (take n xs) (get_or xs n d ∷ []) in
    after ∙ ap (λ (zs : List Y). zs ++ y ∷ []) before ∙ append_assoc old front (y ∷ [])
    ∙ ap (λ (z : Y). old ++ (front ++ z ∷ [])) is ∙ ap (λ (zs : List Y). old ++ zs) (sym whole)
