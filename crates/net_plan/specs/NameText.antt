use Rattle.std.specs.{Char.{is_ascii_digit, is_ascii_lowercase}, List.list_all}
use Rattle.std.specs.Prelude.{◌==◌, ◌||◌, ◌≤◌, Bool, IsTrue, List, length, ℕ}

-- a lower-case ASCII letter, a digit or the underscore, which is ASCII's 95
abbrev pub is_name_character : ℕ → Bool
is_name_character c = is_ascii_lowercase c || is_ascii_digit c || (c == 95)

-- 1 to 16 characters of names
pub record IsNameText (text : List ℕ) : Type 0 where
  pub some : 1 ≤ length text
  pub short : length text ≤ 16
  pub plain : IsTrue (list_all is_name_character text)
