-- What the program owes: an answer, whole or cut short.
use Rattle.std.specs.Prelude.{◌∷◌, ◌≡◌, ◌⊎◌, List, None, Option, Some, [], ℕ}
use Rattle.tte_forms.specs.Putting.{IsPassedOn, PutsLines, PutsNone, PutsSome, Shown, WriteFails}
use Rattle.tte_forms.specs.declared.status.Status.{Status, TheVariants.{Done, OutOfMemory, ReadFault, WriteFault}}

-- a status, and lines with their ends
pub record Answer : Type 0 where
  pub status : Status
  pub lines : List (List ℕ)

-- a status and these lines
abbrev pub lines_answer : Status → List (List ℕ) → Answer
lines_answer status lines = record { status = status; lines = lines }

-- a status and one line
abbrev pub line_answer : Status → List ℕ → Answer
line_answer status line = record { status = status; lines = line ∷ [] }

-- the same answer with one more line in front
abbrev pub with_line : List ℕ → Answer → Answer
with_line line a = record { status = a.status; lines = line ∷ a.lines }

-- the whole answer was given and passed on, or the first lines of it were put until writing failed, or until a read
-- failed or memory ran out
abbrev pub Gives : Answer → Status → Shown → Shown → Type 0
Gives a status old new =
    ((status ≡ a.status) × PutsLines a.lines old new × IsPassedOn new)
    ⊎ ((status ≡ WriteFault) × WriteFails a.lines old new)
    ⊎ (((status ≡ ReadFault) ⊎ (status ≡ OutOfMemory)) × PutsSome a.lines old new)

-- nothing more was put; and all was passed on, with the wanted status, or that failed
abbrev pub Ends : Status → Status → Shown → Shown → Type 0
Ends wanted status old new = PutsNone old new × (((status ≡ wanted) × IsPassedOn new) ⊎ (status ≡ WriteFault))

-- the fact holds for the octets that a source has left, or for some where the source does not tell them
abbrev pub ForOctets : Option (List ℕ) → (List ℕ → Type 0) → Type 0
ForOctets None P = (octets : List ℕ) × P octets
ForOctets (Some octets) P = P octets

-- the answer for the octets of a source was given so
abbrev pub Answers : (List ℕ → Answer) → Option (List ℕ) → Status → Shown → Shown → Type 0
Answers answer left status old new = ForOctets left (λ octets. Gives (answer octets) status old new)

-- one answer with the property was given whole and passed on; or of each one with it, the first lines were put, until
-- writing failed, or until a read failed or memory ran out
abbrev pub GivesOne : (Answer → Type 0) → Status → Shown → Shown → Type 0
GivesOne IsAnswer status old new =
    ((a : Answer) × IsAnswer a × (status ≡ a.status) × PutsLines a.lines old new × IsPassedOn new)
    ⊎ ((status ≡ WriteFault) × ((a : Answer) → IsAnswer a → WriteFails a.lines old new))
    ⊎ (((status ≡ ReadFault) ⊎ (status ≡ OutOfMemory)) × ((a : Answer) → IsAnswer a → PutsSome a.lines old new))

-- an answer with the property was given, whole or cut short; or a read failed or memory ran out, and nothing was put
abbrev pub GivesAnswer : (Answer → Type 0) → Status → Shown → Shown → Type 0
GivesAnswer IsAnswer status old new =
    ((a : Answer) × IsAnswer a × Gives a status old new)
    ⊎ (((status ≡ ReadFault) ⊎ (status ≡ OutOfMemory)) × PutsNone old new)

-- an answer for the octets of a source was given so
abbrev pub AnswersOne : (List ℕ → Answer → Type 0) → Option (List ℕ) → Status → Shown → Shown → Type 0
AnswersOne IsAnswer left status old new = ForOctets left (λ octets. GivesAnswer (IsAnswer octets) status old new)

-- done, or out of memory
abbrev pub IsDone : Status → Type 0
IsDone status = (status ≡ Done) ⊎ (status ≡ OutOfMemory)
