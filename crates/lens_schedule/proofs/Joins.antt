-- What is added one after another.
use Rattle.std.proofs.{Common.{◌++◌, ◌∙◌, ◌≡◌, List, [], ap, append_assoc, sym}, lemmas.List.append-nil}

module _ {X : Type 0} where
  -- nothing more
  pub nothing_more : (xs : List X) → xs ≡ xs ++ []
  nothing_more xs = sym (append-nil xs)

  pub joined2 : (old a b m n : List X) → m ≡ old ++ a → n ≡ m ++ b → n ≡ old ++ (a ++ b)
  joined2 old a b m n p q = q ∙ ap (λ (ls : List X). ls ++ b) p ∙ append_assoc old a b

  pub joined3 : (old a b c m1 m2 m3 : List X)
      → m1 ≡ old ++ a → m2 ≡ m1 ++ b → m3 ≡ m2 ++ c
      → m3 ≡ old ++ ((a ++ b) ++ c)
  joined3 old a b c m1 m2 m3 p1 p2 p3 =
      joined2 old (a ++ b) c m2 m3 (joined2 old a b m1 m2 p1 p2) p3

  pub joined4 : (old a b c d m1 m2 m3 m4 : List X)
      → m1 ≡ old ++ a → m2 ≡ m1 ++ b → m3 ≡ m2 ++ c → m4 ≡ m3 ++ d
      → m4 ≡ old ++ (((a ++ b) ++ c) ++ d)
  joined4 old a b c d m1 m2 m3 m4 p1 p2 p3 p4 =
      joined2 old ((a ++ b) ++ c) d m3 m4 (joined3 old a b c m1 m2 m3 p1 p2 p3) p4

  pub joined5 : (old a b c d e m1 m2 m3 m4 m5 : List X)
      → m1 ≡ old ++ a → m2 ≡ m1 ++ b → m3 ≡ m2 ++ c → m4 ≡ m3 ++ d → m5 ≡ m4 ++ e
      → m5 ≡ old ++ ((((a ++ b) ++ c) ++ d) ++ e)
  joined5 old a b c d e m1 m2 m3 m4 m5 p1 p2 p3 p4 p5 =
      joined2 old (((a ++ b) ++ c) ++ d) e m4 m5 (joined4 old a b c d m1 m2 m3 m4 p1 p2 p3 p4) p5

  pub joined6 : (old a b c d e f m1 m2 m3 m4 m5 m6 : List X)
      → m1 ≡ old ++ a → m2 ≡ m1 ++ b → m3 ≡ m2 ++ c → m4 ≡ m3 ++ d → m5 ≡ m4 ++ e → m6 ≡ m5 ++ f
      → m6 ≡ old ++ (((((a ++ b) ++ c) ++ d) ++ e) ++ f)
  joined6 old a b c d e f m1 m2 m3 m4 m5 m6 p1 p2 p3 p4 p5 p6 =
      joined2 old ((((a ++ b) ++ c) ++ d) ++ e) f m5 m6 (joined5 old a b c d e m1 m2 m3 m4 m5 p1 p2 p3 p4 p5) p6

  pub joined7 : (old a b c d e f g m1 m2 m3 m4 m5 m6 m7 : List X)
      → m1 ≡ old ++ a → m2 ≡ m1 ++ b → m3 ≡ m2 ++ c → m4 ≡ m3 ++ d → m5 ≡ m4 ++ e → m6 ≡ m5 ++ f → m7 ≡ m6 ++ g
      → m7 ≡ old ++ ((((((a ++ b) ++ c) ++ d) ++ e) ++ f) ++ g)
  joined7 old a b c d e f g m1 m2 m3 m4 m5 m6 m7 p1 p2 p3 p4 p5 p6 p7 =
      joined2 old (((((a ++ b) ++ c) ++ d) ++ e) ++ f) g m6 m7 (joined6 old a b c d e f m1 m2 m3 m4 m5 m6 p1 p2 p3 p4 p5 p6) p7

  pub joined8 : (old a b c d e f g h m1 m2 m3 m4 m5 m6 m7 m8 : List X)
      → m1 ≡ old ++ a → m2 ≡ m1 ++ b → m3 ≡ m2 ++ c → m4 ≡ m3 ++ d → m5 ≡ m4 ++ e → m6 ≡ m5 ++ f → m7 ≡ m6 ++ g → m8 ≡ m7 ++ h
      → m8 ≡ old ++ (((((((a ++ b) ++ c) ++ d) ++ e) ++ f) ++ g) ++ h)
  joined8 old a b c d e f g h m1 m2 m3 m4 m5 m6 m7 m8 p1 p2 p3 p4 p5 p6 p7 p8 =
      joined2 old ((((((a ++ b) ++ c) ++ d) ++ e) ++ f) ++ g) h m7 m8 (joined7 old a b c d e f g m1 m2 m3 m4 m5 m6 m7 p1 p2 p3 p4 p5 p6 p7) p8
