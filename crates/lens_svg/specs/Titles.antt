-- The name of a picture.
use Rattle.std.specs.{List.list_all, Prelude.{nat_le, not, take, true, ℕ}}
use Rattle.std.specs.Prelude.{◌&&◌, ◌++◌, ◌==◌, ◌∷◌, ◌≡◌, List, [], codes, flat_map, if◌then◌else◌, length}

-- an octet as SVG reads it: a visible one of ASCII as itself, all else as `?`
abbrev pub octet_text : ℕ → List ℕ
octet_text c =
    if c == 60 then codes "&lt;"
    else if c == 62 then codes "&gt;"
    else if c == 38 then codes "&amp;"
    else if nat_le 33 c && nat_le c 126 then c ∷ []
    else codes "?"

-- a word, or the first 60 octets of a longer one and two dots
abbrev pub cut_text : List ℕ → List ℕ
cut_text word =
    if nat_le (length word) 60 then flat_map octet_text word
    else flat_map octet_text (take 60 word) ++ codes ".."

-- a word behind a space
abbrev pub word_text : List ℕ → List ℕ
word_text word = codes " " ++ cut_text word

-- the program and the words of the call, of which there are at most seven
abbrev pub title_of : List (List ℕ) → List ℕ
title_of words = codes "lens" ++ flat_map word_text (take 7 words)

-- how many octets a title has at most
abbrev pub title_limit : ℕ
title_limit = 2125

-- the line by which a picture is named
unfoldable pub title_line : List ℕ → List ℕ
title_line title = codes "<title>" ++ title ++ codes "</title>\n"

-- the line of the title at the head of a picture
unfoldable pub heading_line : List ℕ → List ℕ
heading_line title = codes "<text class=\"top\" x=\"12\" y=\"24\">" ++ title ++ codes "</text>\n"

-- no octet of the text is `<`
abbrev pub IsClosed : List ℕ → Type 0
IsClosed text = list_all (λ c. not (c == 60)) text ≡ true

-- so it is with each title
abbrev pub NoneOpens : Type 0
NoneOpens = (words : List (List ℕ)) → IsClosed (title_of words)
