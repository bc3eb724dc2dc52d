-- Octets that a source or a sink tells.
use Rattle.std.specs.{Io.KnownBytes.Appends, Prelude.{◌++◌, ◌<◌, ◌↔◌, ◌≡◌, IfSome, List, [], length, ℕ}}
use Rattle.std.specs.declared.option.Option.{Option}

-- what was written grows by a front of these octets
abbrev pub AppendsFront : Option (List ℕ) → Option (List ℕ) → List ℕ → Type 0
AppendsFront old new octets = (front rest : List ℕ) × (octets ≡ front ++ rest) × Appends old new front

-- n is 0, for a buffer that is not empty, exactly where no octet was left
abbrev pub IsZeroExactlyAtEnd : Option (List ℕ) → List ℕ → ℕ → Type 0
IsZeroExactlyAtEnd left buffer n = IfSome left (λ octets. 0 < length buffer → (n ≡ 0) ↔ (octets ≡ []))

-- more was passed on than before, or as much; and it is a front of what was put
pub record PassesSome (old new written : Option (List ℕ)) : Type 0 where
  pub more : List ℕ
  pub grown : Appends old new more
  pub held : List ℕ
  pub front : Appends new written held
