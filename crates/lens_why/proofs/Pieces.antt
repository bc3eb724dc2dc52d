-- Texts put piece after piece.
use Rattle.std.proofs.Common.{◌++◌, ◌∙◌, ◌≡◌, List, ap, append_assoc, ℕ}

-- four pieces
pub four : (old a b c d first second third last : List ℕ) → first ≡ old ++ a → second ≡ first ++ b → third ≡ second ++ c → last ≡ third ++ d
    → last ≡ old ++ (a ++ (b ++ (c ++ d)))
four old a b c d first second third last p q r s =
    s
    ∙ ap (λ (t : List ℕ). t ++ d) (r ∙ ap (λ (t : List ℕ). t ++ c) (q ∙ ap (λ (t : List ℕ). t ++ b) p))
    ∙ append_assoc ((old ++ a) ++ b) c d
    ∙ append_assoc (old ++ a) b (c ++ d)
    ∙ append_assoc old a (b ++ (c ++ d))

-- five pieces
pub five : (old a b c d e first second third fourth last : List ℕ) → first ≡ old ++ a → second ≡ first ++ b → third ≡ second ++ c → fourth ≡ third ++ d
    → last ≡ fourth ++ e → last ≡ old ++ (a ++ (b ++ (c ++ (d ++ e))))
five old a b c d e first second third fourth last p q r s t =
    t
    ∙ ap (λ (x : List ℕ). x ++ e) (four old a b c d first second third fourth p q r s)
    ∙ append_assoc old (a ++ (b ++ (c ++ d))) e
    ∙ ap (λ (x : List ℕ). old ++ x)
    (append_assoc a (b ++ (c ++ d)) e
    ∙ ap (λ (x : List ℕ). a ++ x) (append_assoc b (c ++ d) e ∙ ap (λ (x : List ℕ). b ++ x) (append_assoc c d e)))
