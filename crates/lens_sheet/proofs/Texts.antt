-- Texts that are added one behind the other.
use Rattle.std.proofs.Common.{◌++◌, ◌∙◌, ◌≡◌, List, ap, append_assoc, ℕ}

pub two : (line a b one two_of : List ℕ) → one ≡ line ++ a → two_of ≡ one ++ b → two_of ≡ line ++ (a ++ b)
two line a b one two_of p q = q ∙ ap (λ (xs : List ℕ). xs ++ b) p ∙ append_assoc line a b

pub three : (line a b c one two_of three_of : List ℕ) → one ≡ line ++ a → two_of ≡ one ++ b → three_of ≡ two_of ++ c → three_of ≡ line ++ (a ++ (b ++ c))
three line a b c one two_of three_of p q r = two line a (b ++ c) one three_of p (two one b c two_of three_of q r)

pub four : (line a b c d one two_of three_of four_of : List ℕ) → one ≡ line ++ a → two_of ≡ one ++ b → three_of ≡ two_of ++ c → four_of ≡ three_of ++ d
    → four_of ≡ line ++ (a ++ (b ++ (c ++ d)))
four line a b c d one two_of three_of four_of p q r s = two line a (b ++ (c ++ d)) one four_of p (three one b c d two_of three_of four_of q r s)
