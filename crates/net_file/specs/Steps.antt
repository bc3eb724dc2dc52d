-- Steps of a reading, each of which may be a fault.
use Rattle.std.specs.Prelude.{◌≡◌, ◌⊎◌, Bool, Err, None, Ok, Option, Result, Some, false, true}
use Rattle.net_file.specs.declared.refusal.FileRefusal.{FileRefusal, TheVariants.OutOfMemory}

-- what is read, or the first fault
abbrev pub Read : Type 0 → Type 0
Read A = Result A FileRefusal

-- go on with what was read, or stop at the fault
infixl 10 ◌>>=◌
abbrev pub ◌>>=◌ : {A B : Type 0} → Read A → (A → Read B) → Read B
(Ok x) >>= f = f x
(Err e) >>= f = Err e

-- what is read where there is something to read
abbrev pub where_there : {A B : Type 0} → Option B → Read A → Read (Option A)
where_there None step = Ok None
where_there (Some b) step = do
  x ← step
  Ok (Some x)

-- what is read where that is asked for
abbrev pub only_if : {A : Type 0} → Bool → Read A → Read (Option A)
only_if false step = Ok None
only_if true step = do
  x ← step
  Ok (Some x)

-- the result, seen by `shown`, is what is read, but for want of memory
abbrev pub Gives : {A B : Type 0} → (B → A) → Read A → Read B → Type 0
Gives shown reading (Ok b) = reading ≡ Ok (shown b)
Gives shown reading (Err e) = (e ≡ OutOfMemory) ⊎ (reading ≡ Err e)
