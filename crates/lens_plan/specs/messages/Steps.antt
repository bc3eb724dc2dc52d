-- Readings, step by step, of the words of a message's line from the left.
use Rattle.std.specs.{Borrow.Bor, Prelude.{◌∷◌, ◌≡◌, Bool, Err, List, None, Ok, Option, Result, Some, [], bytes_eq, false, if◌then◌else◌, ℕ}}
use Rattle.lens_plan.specs.declared.messages.refusal.LineFault.{LineFault, TheVariants.{OutOfMemory, Refused}}
use Rattle.lens_plan.specs.declared.messages.refusal.MessageRefusal.{MessageRefusal, TheVariants.Form}
use Rattle.trace_text.specs.Steps.{Words}

-- the next word, and those behind it; none where the line has ended
abbrev pub words_from : Option (Bor (List ℕ)) → Words → Words
words_from None rest = []
words_from (Some word) rest = word.now ∷ rest

-- what is read, or the first fault
abbrev pub Read : Type 0 → Type 0
Read A = Result A MessageRefusal

-- a reading of the next words, with the words that it leaves
abbrev pub Reader : Type 0 → Type 0
Reader A = Words → Read (A × Words)

-- go on with what was read and the words that it left, or stop at the fault
abbrev pub and_then : {A B : Type 0} → Read (A × Words) → (A → Reader B) → Read (B × Words)
and_then (Ok step) next = next step.0 step.1
and_then (Err fault) next = Err fault

-- one reading and then another, by what the first one read
infixl 10 ◌>>=◌
abbrev pub ◌>>=◌ : {A B : Type 0} → Reader A → (A → Reader B) → Reader B
(first >>= next) left = and_then (first left) next

-- a reading that takes no word
abbrev pub give : {A : Type 0} → A → Reader A
give x left = Ok (x, left)

-- what one word means, beside the words that are left
abbrev pub with_rest : {A : Type 0} → Words → Read A → Read (A × Words)
with_rest left (Ok x) = Ok (x, left)
with_rest left (Err fault) = Err fault

-- the meaning of the next word; where the line has ended, its form is wrong
abbrev pub next_word : {A : Type 0} → (List ℕ → Read A) → Reader A
next_word meaning [] = Err Form
next_word meaning (word ∷ left) = with_rest left (meaning word)

-- is the word the next one?
abbrev pub begins_with : List ℕ → Words → Bool
begins_with key [] = false
begins_with key (word ∷ left) = bytes_eq word key

-- the words behind it, if it is
abbrev pub behind_key : List ℕ → Words → Words
behind_key key [] = []
behind_key key (word ∷ left) = if bytes_eq word key then left else word ∷ left

-- the word must stand next
abbrev pub fixed : List ℕ → Reader (Unit {0})
fixed key left = if begins_with key left then Ok (tt, behind_key key left) else Err Form

-- what was read behind a word that may be absent
abbrev pub some_read : {A : Type 0} → Read (A × Words) → Read (Option A × Words)
some_read (Ok step) = Ok (Some step.0, step.1)
some_read (Err fault) = Err fault

-- a word that may be absent, and what is read behind it
abbrev pub optional : {A : Type 0} → List ℕ → Reader A → Reader (Option A)
optional key read left = if begins_with key left then some_read (read (behind_key key left)) else Ok (None, left)

-- what is read of a line, or the first fault
abbrev pub outcome : {A : Type 0} → Read (A × Words) → Read A
outcome (Ok step) = Ok step.0
outcome (Err fault) = Err fault

-- the result of a call is what the reading gives, and the call leaves these words
abbrev pub Reads : {A : Type 0} → Read (A × Words) → Read A → Words → Type 0
Reads reading (Ok x) left = reading ≡ Ok (x, left)
Reads reading (Err fault) left = reading ≡ Err fault

-- this was read, and some words were left
abbrev pub IsRead : {A : Type 0} → Read (A × Words) → A → Type 0
IsRead reading x = (left : Words) × (reading ≡ Ok (x, left))

-- the fault of the reading; memory may run out in any
abbrev pub IsFault : {A : Type 0} → Read A → LineFault → Type 0
IsFault reading (Refused fault) = reading ≡ Err fault
IsFault reading OutOfMemory = Unit {0}
