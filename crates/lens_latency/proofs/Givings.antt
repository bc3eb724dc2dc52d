-- What each of a list gives, one behind the other.
use Rattle.lens_latency.specs.Arrivals.{AreGiven}
use Rattle.std.proofs.Common.{◌++◌, ◌∙◌, ◌∷◌, ◌≡◌, List, None, Option, Some, [], ap, refl, sym}
use Rattle.std.specs.List.{cons_option}

module _ {X Y : Type 0} (Gives : X → Option Y → Type 0) where
  behind : (given : Option Y) (ys more : List Y) → cons_option given (ys ++ more) ≡ cons_option given ys ++ more
  behind None ys more = refl
  behind (Some y) ys more = refl

  -- one more
  pub given_more : (xs : List X) (ys : List Y) (x : X) (given : Option Y) → AreGiven Gives xs ys → Gives x given
      → AreGiven Gives (xs ++ x ∷ []) (ys ++ cons_option given [])
  given_more [] ys x given none gives = (given, [], gives, refl, ap (λ (zs : List Y). zs ++ cons_option given []) none)
  given_more (z ∷ xs) ys x given (first, others, is, rest, same) gives = (
    first,
    others ++ cons_option given [],
    is,
    given_more xs others x given rest gives,
    ap (λ (zs : List Y). zs ++ cons_option given []) same ∙ sym (behind first others (cons_option given [])),
  )

  -- one list, where each gives one
  pub given_once : ((x : X) (a b : Option Y) → Gives x a → Gives x b → a ≡ b) → (xs : List X) (ys zs : List Y) → AreGiven Gives xs ys
      → AreGiven Gives xs zs → ys ≡ zs
  given_once once [] ys zs none empty = none ∙ sym empty
  given_once once (x ∷ xs) ys zs (a, others, is, rest, same) (b, more, its, left, there) =
      same ∙ ap (λ (o : Option Y). cons_option o others) (once x a b is its)
      ∙ ap (λ (us : List Y). cons_option b us) (given_once once xs others more rest left) ∙ sym there
