-- What the forms do with their files.
use Rattle.std.specs.Prelude.{◌≡◌, ◌≢◌, ◌⊎◌, List, None, Option, Some, [], ℕ}
use Rattle.tte_forms.specs.{Answering.ForOctets, declared.form.Form.{Form, TheVariants.{Audit, Capture, Run, Stamp, Vote, Wire}}}
use Rattle.tte_forms.specs.{Putting.Shown, declared.status.Status.{Status, TheVariants.GranuleRefused}}
use Rattle.{tte_forms.specs.{Taking.TakesUpTo, frames.Answer.file_limit}, tte_observers.specs.captures.Answer.capture_limit}
use Rattle.tte_observers.specs.stamps.Answer.{StampStops, StampTakesLittle}
use Rattle.tte_observers.specs.votes.Streaming.{IsOfRun, VoteStops, VoteTakesLittle}
use Rattle.tte_observers.specs.captures.wires.Streaming.{WireStops, WireTakesLittle}
use Rattle.tte_traces.specs.Streaming.{RunStops, RunTakesLittle}

-- what the second file is, if there is one
pub data Second : Type 0 where
  no_second : Second
  trace_file : Second
  report_file : Second

-- what it is for the words of a form, or of none
abbrev pub second_of : Option Form → Second
second_of (Some Run) = trace_file
second_of (Some (Stamp granule)) = trace_file
second_of (Some (Wire link way)) = trace_file
second_of (Some (Vote one two three)) = trace_file
second_of (Some Audit) = report_file
second_of other = no_second

-- the fact holds for the octets of the second file, if there is one
abbrev pub ForSecond : Second → Option (List ℕ) → (List ℕ → Type 0) → Type 0
ForSecond no_second left P = P []
ForSecond trace_file left P = ForOctets left P
ForSecond report_file left P = ForOctets left P

-- a read failed: of the first file, and then nothing was put and the second was not read; or of the second, and then,
-- for a trace, what was put stops behind the lines that were taken, and for a report nothing was put
abbrev pub FailsToRead : Second → Type 0 → Type 0 → Type 0 → Type 0 → Type 0 → Type 0
FailsToRead no_second InFirst InSecond Unput Unread Stops = InFirst × Unput × Unread
FailsToRead trace_file InFirst InSecond Unput Unread Stops = (InFirst × Unput × Unread) ⊎ (InSecond × Stops)
FailsToRead report_file InFirst InSecond Unput Unread Stops = (InFirst × Unput × Unread) ⊎ (InSecond × Unput)

-- what was put from a trace stops behind the lines that were taken, for the form
abbrev pub FormStops : Option Form → Option (List ℕ) → Option (List ℕ) → Option (List ℕ) → Shown → Shown → Type 0
FormStops (Some Run) first second left old new = RunStops first second left old new
FormStops (Some (Stamp granule)) first second left old new = StampStops granule first second left old new
FormStops (Some (Wire link way)) first second left old new = WireStops link way first second left old new
FormStops (Some (Vote one two three)) first second left old new = VoteStops first second left old new
FormStops other first second left old new = Unit {0}

-- how many octets the first file of a form has at most
abbrev pub first_limit : Form → ℕ
first_limit Capture = capture_limit
first_limit other = file_limit

-- of the first file its limit and a little more are taken at most; words of no form take nothing of it
abbrev pub TakesFirst : Option Form → Option (List ℕ) → Option (List ℕ) → Type 0
TakesFirst None left after = after ≡ left
TakesFirst (Some form) left after = TakesUpTo (first_limit form) left after

-- a trace is read, and by that little more of it than what was put is of; a report is read for an accepted network; and
-- where there is neither, no second file is read
abbrev pub TakesSecond : Second → Type 0 → Type 0 → Type 0 → Type 0
TakesSecond no_second Unread Little Whole = Unread
TakesSecond trace_file Unread Little Whole = Unread ⊎ Little
TakesSecond report_file Unread Little Whole = Unread ⊎ Whole

-- little more of a trace was taken than what was put is of, for the form; where a granule, a name or a vote was
-- refused, nothing was
abbrev pub FormTakesLittle : Option Form → Option (List ℕ) → Option (List ℕ) → Option (List ℕ) → Status
    → Shown → Shown → Type 0
FormTakesLittle (Some Run) first second left status old new = RunTakesLittle first second left old new
FormTakesLittle (Some (Stamp granule)) first second left status old new =
    (status ≢ GranuleRefused) × StampTakesLittle granule first second left old new
FormTakesLittle (Some (Wire link way)) first second left status old new =
    WireTakesLittle link way first second left old new
FormTakesLittle (Some (Vote one two three)) first second left status old new =
    IsOfRun status × VoteTakesLittle first second left old new
FormTakesLittle other first second left status old new = Unit {0}
