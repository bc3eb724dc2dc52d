-- Readings, step by step, of a line's words from the left.
use Rattle.std.specs.{List.slice_split, Prelude.{◌==◌, ◌∷◌, ◌≡◌, Bool, Err, List, Ok, Result, [], ℕ}}
use Rattle.trace_text.specs.declared.refusal.LineRefusal.{LineRefusal, TheVariants.Form}

-- the words of a line, or those that are left of them
abbrev pub Words : Type 0
Words = List (List ℕ)

-- ASCII's space
abbrev pub space : ℕ
space = 32

-- the octet is a space
abbrev pub is_space : ℕ → Bool
is_space octet = octet == space

-- the texts between the spaces
abbrev pub words : List ℕ → Words
words line = slice_split is_space line

-- what is read, or the first fault
abbrev pub Read : Type 0 → Type 0
Read A = Result A LineRefusal

-- a reading of the next words, with the words that it leaves
abbrev pub Reader : Type 0 → Type 0
Reader A = Words → Read (A × Words)

-- go on with what was read and the words that it left, or stop at the fault
abbrev pub and_then : {A B : Type 0} → Read (A × Words) → (A → Reader B) → Read (B × Words)
and_then (Ok step) next = next step.0 step.1
and_then (Err fault) next = Err fault

-- one reading and then another, by what the first one read
infixl 10 ◌>>=◌
abbrev pub ◌>>=◌ : {A B : Type 0} → Reader A → (A → Reader B) → Reader B
(first >>= next) left = and_then (first left) next

-- a reading that takes no word
abbrev pub give : {A : Type 0} → A → Reader A
give x left = Ok (x, left)

-- what one word means, beside the words that are left
abbrev pub with_rest : {A : Type 0} → Words → Read A → Read (A × Words)
with_rest left (Ok x) = Ok (x, left)
with_rest left (Err fault) = Err fault

-- the meaning of the next word; where the line has ended, its form is wrong
abbrev pub next_word : {A : Type 0} → (List ℕ → Read A) → Reader A
next_word meaning [] = Err Form
next_word meaning (word ∷ left) = with_rest left (meaning word)

-- a word too many makes the line's form wrong
unfoldable pub line_end : Reader (Unit {0})
line_end [] = Ok (tt, [])
line_end (word ∷ left) = Err Form

-- what is read of a line, or the first fault
abbrev pub outcome : {A : Type 0} → Read (A × Words) → Read A
outcome (Ok step) = Ok step.0
outcome (Err fault) = Err fault

-- what a call reads that puts it in the place of another
abbrev pub read_in : {A : Type 0} → Read (Unit {0}) → A → Read A
read_in (Ok _) x = Ok x
read_in (Err fault) x = Err fault

-- the result of a call is what the reading gives, and the call leaves these words
abbrev pub Reads : {A : Type 0} → Read (A × Words) → Read A → Words → Type 0
Reads reading (Ok x) left = reading ≡ Ok (x, left)
Reads reading (Err fault) left = reading ≡ Err fault
