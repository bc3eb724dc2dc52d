-- How much of a trace `vote` has taken, and what was put by then: the votes are put at the end.
use Rattle.std.specs.Prelude.{◌≢◌, List, Option, [], ℕ}
use Rattle.tte_forms.specs.{Putting.Shown, declared.status.Status.{Status, TheVariants.{NameRefused, VoteRefused}}}
use Rattle.tte_traces.specs.{Answer.LinesOf, Streaming.{ReadsLittle, StopsReading}}

-- no lines are put along a run
abbrev pub no_lines : LinesOf
no_lines network events notes = []

-- a read of the trace failed: nothing was put, and it stops behind the lines that were taken
abbrev pub VoteStops : Option (List ℕ) → Option (List ℕ) → Option (List ℕ) → Shown → Shown → Type 0
VoteStops first second left old new = StopsReading no_lines first second left old new

-- little was taken of the trace behind the lines that were judged
abbrev pub VoteTakesLittle : Option (List ℕ) → Option (List ℕ) → Option (List ℕ) → Shown → Shown → Type 0
VoteTakesLittle first second left old new = ReadsLittle no_lines first second left old new

-- neither a name nor the vote was refused
abbrev pub IsOfRun : Status → Type 0
IsOfRun status = (status ≢ NameRefused) × (status ≢ VoteRefused)
