-- What was put of an answer is safe, also where the call was cut short.
use Rattle.std.specs.Prelude.{List, ℕ}
use Rattle.tte_forms.specs.Putting.{PutsSo, PutsSome, Shown, WriteFails}
use Rattle.tte_forms.specs.declared.status.Status.{Status, TheVariants.{OutOfMemory, ReadFault, WriteFault}}

-- where the call was cut short, the first of lines that are safe were put; else what the status promises of all lines
abbrev pub PutsSafely : (Status → Shown → Shown → Type 0) → (List (List ℕ) → Type 0) → Status → Shown → Shown → Type 0
PutsSafely Whole IsSafe WriteFault old new = PutsSo IsSafe WriteFails old new
PutsSafely Whole IsSafe ReadFault old new = PutsSo IsSafe PutsSome old new
PutsSafely Whole IsSafe OutOfMemory old new = PutsSo IsSafe PutsSome old new
PutsSafely Whole IsSafe other old new = Whole other old new
