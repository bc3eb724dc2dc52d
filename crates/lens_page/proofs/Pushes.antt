-- Lines that are added one after another.
use Rattle.std.proofs.Common.{◌++◌, ◌+◌, ◌<◌, ◌∙◌, ◌∷◌, ◌≡◌, List, [], ap, append_assoc, get_or, length, map, refl, sym, take, ℕ}
use Rattle.{std.proofs.lemmas.List.{Folds.concat-append, append-nil, map-append, take_more}, std.specs.List.concat}

-- the line of the next one was added
pub pushed : {X : Type 0} (line : X → List ℕ) (all : List X) (d : X) (n : ℕ) (begun text next : List ℕ) → n < length all
    → text ≡ begun ++ concat (map line (take n all)) → next ≡ line (get_or all n d) → text ++ next ≡ begun ++ concat (map line (take (n + 1) all))
pushed line all d n begun text next within is same =
    let one = get_or all n d in
    let front = map line (take n all) in
    let lines : map line (take (n + 1) all) ≡ front ++ line one ∷ [] =
    ap (map line) (take_more all n d within) ∙ map-append line (take n all) (one ∷ []) in
    let joined : concat (front ++ line one ∷ []) ≡ concat front ++ line one =
    concat-append front (line one ∷ []) ∙ ap (λ (t : List ℕ). concat front ++ t) (append-nil (line one)) in
    ap (λ (t : List ℕ). t ++ next) is
    ∙ append_assoc begun (concat front) next
    ∙ ap (λ (t : List ℕ). begun ++ (concat front ++ t)) same
    ∙ sym (ap (λ (t : List ℕ). begun ++ t) (ap concat lines ∙ joined))

-- two texts, and then all lines
pub joined : (a b : List ℕ) (ds ls vs : List (List ℕ)) (t₀ t₁ t₂ t₃ t₄ t₅ : List ℕ) → t₀ ≡ [] → t₁ ≡ t₀ ++ a → t₂ ≡ t₁ ++ b → t₃ ≡ t₂ ++ concat ds
    → t₄ ≡ t₃ ++ concat ls → t₅ ≡ t₄ ++ concat vs → t₅ ≡ a ++ (b ++ concat (ds ++ (ls ++ vs)))
joined a b ds ls vs t₀ t₁ t₂ t₃ t₄ t₅ e₀ e₁ e₂ e₃ e₄ e₅ =
    let others : concat (ds ++ (ls ++ vs)) ≡ concat ds ++ (concat ls ++ concat vs) =
    concat-append ds (ls ++ vs) ∙ ap (λ (t : List ℕ). concat ds ++ t) (concat-append ls vs) in
    let spread : (((a ++ b) ++ concat ds) ++ concat ls) ++ concat vs ≡ a ++ (b ++ (concat ds ++ (concat ls ++ concat vs))) = simp append_assoc refl in
    let first = e₁ ∙ ap (λ (t : List ℕ). t ++ a) e₀ in
    let third = e₃ ∙ ap (λ (t : List ℕ). t ++ concat ds) (e₂ ∙ ap (λ (t : List ℕ). t ++ b) first) in
    e₅
    ∙ ap (λ (t : List ℕ). t ++ concat vs) (e₄ ∙ ap (λ (t : List ℕ). t ++ concat ls) third)
    ∙ spread
    ∙ sym (ap (λ (t : List ℕ). a ++ (b ++ t)) others)
