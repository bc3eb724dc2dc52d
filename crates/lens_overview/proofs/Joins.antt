-- Texts added to a line one after another.
use Rattle.std.proofs.Common.{◌++◌, ◌∙◌, ◌≡◌, List, ap, append_assoc, ℕ}

-- one more
pub joined : (o a b s t : List ℕ) → s ≡ o ++ a → t ≡ s ++ b → t ≡ o ++ (a ++ b)
joined o a b s t p q = q ∙ ap (λ (x : List ℕ). x ++ b) p ∙ append_assoc o a b
