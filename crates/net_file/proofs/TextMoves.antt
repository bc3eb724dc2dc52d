-- An octet moves the place in a text by one line or one character at most.
use Rattle.std.proofs.Common.{arith, if◌then◌else◌, ◌&&◌, ◌+◌, ◌==◌, ◌≤◌, Bool, false, true, nat_le, ℕ}
use Rattle.net_file.specs.{TextPlaces.place_after, declared.text_place.TextPlace.TextPlace}

abbrev pub IsNear : TextPlace → TextPlace → Type 0
IsNear p q = (q.line ≤ p.line + 1) × (q.column ≤ p.column + 1)

pub moves_by_one : (octet : ℕ) (p : TextPlace) → IsNear p (place_after octet p)
moves_by_one octet p = cases (octet == 10) (nat_le 128 octet && nat_le octet 191)
  where
    moved : Bool → Bool → TextPlace
    moved ends goes_on =
        if ends then record { line = p.line + 1; column = 1 }
        else if goes_on then p
        else record { line = p.line; column = p.column + 1 }

    cases : (ends goes_on : Bool) → IsNear p (moved ends goes_on)
    cases true goes_on = (omega (arith), omega (arith))
    cases false true = (omega (arith), omega (arith))
    cases false false = (omega (arith), omega (arith))
