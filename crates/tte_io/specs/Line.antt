-- Lines of octets.
use Rattle.std.specs.Prelude.{if◌then◌else◌, ◌+◌, ◌<◌, ◌==◌, ◌∷◌, ◌≢◌, ◌≤◌, All, List, [], length, take, ℕ}

-- the octet that ends a line
abbrev pub lf : ℕ
lf = 10

-- how many octets a line has at most, without its LF
abbrev pub line_limit : ℕ
line_limit = 4096

-- how many octets are read at a time at most
abbrev pub ahead_limit : ℕ
ahead_limit = 4096

-- no octet is an LF
abbrev pub IsUnbroken : List ℕ → Type 0
IsUnbroken octets = All (λ octet. octet ≢ lf) octets

-- the text of a line, or of one whose end has not come
pub record IsLine (octets : List ℕ) : Type 0 where
  pub unbroken : IsUnbroken octets
  pub within : length octets ≤ line_limit

-- more octets came without an LF than a line has
pub record IsTooLong (octets : List ℕ) : Type 0 where
  pub more : line_limit < length octets
  pub unbroken : IsUnbroken (take (line_limit + 1) octets)

-- the octets before the first LF, or all
abbrev pub first_line : List ℕ → List ℕ
first_line [] = []
first_line (octet ∷ octets) = if octet == lf then [] else octet ∷ first_line octets

-- the octets behind the first LF, or none
abbrev pub behind_line : List ℕ → List ℕ
behind_line [] = []
behind_line (octet ∷ octets) = if octet == lf then octets else behind_line octets
