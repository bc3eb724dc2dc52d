-- What was found by its name, or is not there.
use Rattle.{net_plan.proofs.Bearing.behind, std.proofs.lemmas.Option.{slice_get-map, slice_get_within}, tte_units.proofs.general_lemmas.Lists.some_at}
use Rattle.{net_plan.specs.Bearers.{HasNoBearer, IsFirstBearer}, tte_audit.proofs.Words.{◌<◌, ◌∙◌, ◌≡◌, List, None, Option, Some, [], ap, length, sym, ℕ}}
use Rattle.std.{proofs.Common.map, specs.{Option.{option_map, option_map_or}, Prelude.{IfNone, IfSome, slice_get}}}

-- the thing is among these and has the name
abbrev pub Bears : {I X : Type 0} → (I → ℕ) → (X → List ℕ) → List X → List ℕ → I → Type 0
Bears {I} {X} number f xs text i = (number i < length xs) × (text ≡ option_map_or f (slice_get xs (number i)) [])

module _ {I X : Type 0} (number : I → ℕ) (f : X → List ℕ) (xs : List X) (text : List ℕ) where
  pub none_bears : HasNoBearer (map f xs) text → (i : I) → Bears number f xs text i → ⊥
  none_bears none i h =
      let at = some_at xs (number i) h.0 in
      none (number i) (slice_get-map f xs (number i) ∙ ap (option_map f) at.1 ∙ ap Some
      (sym (h.1 ∙ ap (λ o. option_map_or f o []) at.1)))

  pub first_bears : (found : Option I) → IfSome found (λ i. IsFirstBearer (map f xs) text (number i))
      → IfSome found (Bears number f xs text)
  first_bears None first = tt
  first_bears (Some i) first =
      let b = behind f xs (number i) text first.bears in
      (slice_get_within xs (number i) b.0 b.1, sym b.2 ∙ sym (ap (λ o. option_map_or f o []) b.1))

  pub not_missed : (found : Option I) → IfNone found (HasNoBearer (map f xs) text) → (i : I)
      → Bears number f xs text i → found ≡ None → ⊥
  not_missed None none i h e = none_bears none i h
  not_missed (Some j) none i h e = absurd cc
