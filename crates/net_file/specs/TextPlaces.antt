-- Where in a text something stands: its line, and which character of the line.
use Rattle.std.specs.Prelude.{if◌then◌else◌, ◌&&◌, ◌+◌, ◌==◌, ◌∷◌, List, [], nat_le, ℕ}
use Rattle.net_file.specs.declared.text_place.TextPlace.{TextPlace}

-- the beginning of a text
abbrev pub text_start : TextPlace
text_start = record { line = 1; column = 1 }

-- the place behind an octet: a line ends with LF, and an octet from 128 to 191 goes on with a character
abbrev pub place_after : ℕ → TextPlace → TextPlace
place_after octet p =
    if octet == 10 then record { line = p.line + 1; column = 1 }
    else if nat_le 128 octet && nat_le octet 191 then p
    else record { line = p.line; column = p.column + 1 }

-- the place behind these octets, which stand at a place
unfoldable pub place_behind : List ℕ → TextPlace → TextPlace
place_behind [] p = p
place_behind (octet ∷ octets) p = place_behind octets (place_after octet p)
