-- What a sink shows of the lines that were put.
use Rattle.std.specs.{Io.KnownBytes.Appends, List.concat, declared.result.Result.Result}
use Rattle.std.specs.Prelude.{◌++◌, ◌∷◌, ◌≡◌, ◌⊎◌, List, MatchResult, Option, length, suc, zero, ℕ}
use Rattle.tte_io.specs.{Faults.next_count, Told.AppendsFront, declared.ends.{Sink.Ghosts, SinkFailed.SinkFailed}}

-- the octets that were put and those that were passed on, where they are told, and the count of puts
pub record Shown : Type 0 where
  pub written : Option (List ℕ)
  pub passed : Option (List ℕ)
  pub puts : ℕ

-- what a sink shows
abbrev pub shown_by : {K : Type 0} → Ghosts K → K → Shown
shown_by sink out = record { written = sink.written out; passed = sink.passed out; puts = sink.puts out }

-- from what a sink showed before a call to what it shows after it
abbrev pub Over : {K : Type 0} → Ghosts K → K → K → (Shown → Shown → Type 0) → Type 0
Over sink old new Leads = Leads (shown_by sink old) (shown_by sink new)

-- all that was put was passed on
abbrev pub IsPassedOn : Shown → Type 0
IsPassedOn s = s.passed ≡ s.written

-- nothing was put
abbrev pub PutsNone : Shown → Shown → Type 0
PutsNone old new = (new.written ≡ old.written) × (new.puts ≡ old.puts)

-- the count of puts after n more
abbrev pub puts_after : ℕ → ℕ → ℕ
puts_after zero puts = puts
puts_after (suc n) puts = puts_after n (next_count puts)

-- these lines were put, each in one put
pub record PutsLines (lines : List (List ℕ)) (old new : Shown) : Type 0 where
  pub written : Appends old.written new.written (concat lines)
  pub counted : new.puts ≡ puts_after (length lines) old.puts

-- some of these lines were put, the first ones
pub record PutsSome (lines : List (List ℕ)) (old new : Shown) : Type 0 where
  pub done : List (List ℕ)
  pub left : List (List ℕ)
  pub order : lines ≡ done ++ left
  pub puts : PutsLines done old new

-- some of these lines were put, and then the put of the next one failed after a front of it
pub record PutFails (lines : List (List ℕ)) (old new : Shown) : Type 0 where
  pub done : List (List ℕ)
  pub line : List ℕ
  pub left : List (List ℕ)
  pub order : lines ≡ done ++ line ∷ left
  pub before : Shown
  pub puts : PutsLines done old before
  pub front : AppendsFront before.written new.written line
  pub counted : new.puts ≡ next_count before.puts

-- these lines were put, each in one put, or the put of one of them failed
abbrev pub Puts : List (List ℕ) → Result (Unit {0}) SinkFailed → Shown → Shown → Type 0
Puts lines result old new = MatchResult result (λ _. PutsLines lines old new) (λ _. PutFails lines old new)

-- these lines were to be written: the put of one failed; or all were put, and passing them on failed
abbrev pub StopsWriting : List (List ℕ) → Shown → Shown → Type 0
StopsWriting lines old new = PutFails lines old new ⊎ PutsLines lines old new

-- the same, where the first ones were to be passed on before the others were put
abbrev pub WriteFails : List (List ℕ) → Shown → Shown → Type 0
WriteFails lines old new = PutFails lines old new ⊎ PutsSome lines old new

-- lines with the property were put so
abbrev pub PutsSo : (List (List ℕ) → Type 0) → (List (List ℕ) → Shown → Shown → Type 0) → Shown → Shown → Type 0
PutsSo IsSo Puts old new = (lines : List (List ℕ)) × IsSo lines × Puts lines old new
