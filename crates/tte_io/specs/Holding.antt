-- Octets that are held until they are written.
use Rattle.std.specs.Prelude.{◌≡◌, List, drop, ℕ}

-- how many octets are held at most
abbrev pub held_limit : ℕ
held_limit = 16384

-- a front of what was held is gone
abbrev pub LosesFront : List ℕ → List ℕ → Type 0
LosesFront old new = (count : ℕ) × (new ≡ drop count old)
