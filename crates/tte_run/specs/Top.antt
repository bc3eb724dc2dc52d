-- What the program answers.
use Rattle.std.specs.Prelude.{◌++◌, ◌≡◌, ◌≢◌, List, None, Option, Some, codes, ℕ}
use Rattle.tte_forms.specs.{Answering.{Answer, ForOctets, Gives, GivesAnswer, line_answer}, frames.Answer.show_answer}
use Rattle.tte_forms.specs.{Forms.form_of, Putting.Shown}
use Rattle.tte_forms.specs.declared.form.Form.TheVariants.{Audit, Capture, Check, Run, Show, Stamp, Storm, Vote, Wire}
use Rattle.{tte_forms.specs.declared.form.Form.Form, tte_traces.specs.{Answer.IsRunAnswer, storms.Answer.IsStormAnswer}}
use Rattle.tte_forms.specs.{declared.status.Status.{Status, TheVariants.Usage}, networks.Accepting.IsNetworkAnswer}
use Rattle.{tte_forms.specs.networks.Checking.IsCheckAnswer, tte_observers.specs.stamps.Answer.IsStampAnswer}
use Rattle.tte_observers.specs.{captures.Answer.capture_answer, votes.Answer.{IsVoteAnswer, the_names}}
use Rattle.tte_observers.specs.captures.wires.{Answer.{IsWireAnswer, IsWireNetworkAnswer}, Safely.WiresSafely}
use Rattle.{tte_observers.specs.stamps.Safely.StampsSafely, tte_traces.specs.storms.Safely.SummarisesSafely}
use Rattle.{tte_observers.specs.votes.Safely.VotesSafely, tte_run.specs.SecondFiles.{ForSecond, second_of}}
use Rattle.{tte_reports.specs.{Reports.IsAuditAnswer, Safely.AuditsSafely}, tte_traces.specs.Safely.WritesSafely}

-- the line for words of no form
abbrev pub usage_line : List ℕ
usage_line =
    codes "usage: tte show FILE | check NETWORK | run NETWORK TRACE | storm NETWORK SEED CYCLES | "
    ++ codes "stamp NETWORK TRACE GRANULE | audit NETWORK REPORT | capture FILE | "
    ++ codes "wire NETWORK TRACE LINK WAY | vote NETWORK TRACE VL VL VL\n"

-- the answer for words of no form: the usage line
abbrev pub usage_answer : Answer
usage_answer = line_answer Usage usage_line

-- an answer for a form and the octets of its files, of which many have no second
abbrev pub IsFormAnswer : Option Form → List ℕ → List ℕ → Answer → Type 0
IsFormAnswer None octets trace a = a ≡ usage_answer
IsFormAnswer (Some Show) octets trace a = a ≡ show_answer octets
IsFormAnswer (Some Check) octets trace a = IsCheckAnswer octets a
IsFormAnswer (Some Run) octets trace a = IsNetworkAnswer (IsRunAnswer trace) octets a
IsFormAnswer (Some (Storm seed cycles)) octets trace a = IsNetworkAnswer (IsStormAnswer seed cycles) octets a
IsFormAnswer (Some (Stamp granule)) octets trace a = IsNetworkAnswer (IsStampAnswer granule trace) octets a
IsFormAnswer (Some Audit) octets report a = IsNetworkAnswer (IsAuditAnswer report) octets a
IsFormAnswer (Some Capture) octets trace a = a ≡ capture_answer octets
IsFormAnswer (Some (Wire link way)) octets trace a = IsWireNetworkAnswer (IsWireAnswer link way trace) octets a
IsFormAnswer (Some (Vote one two three)) octets trace a =
    IsNetworkAnswer (IsVoteAnswer (the_names one two three) trace) octets a

-- an answer for the words and the octets of the files
abbrev pub IsAnswer : List (List ℕ) → List ℕ → List ℕ → Answer → Type 0
IsAnswer words octets trace a = IsFormAnswer (form_of words) octets trace a

-- the words and the octets of the files have one answer
abbrev pub AnswerIsOne : Type 0
AnswerIsOne =
    (words : List (List ℕ)) (octets trace : List ℕ) (a b : Answer)
    → IsAnswer words octets trace a → IsAnswer words octets trace b → a ≡ b

-- words of no form are answered by usage, and no others are; to those of a form its answer was given, for the octets
-- of both files
abbrev pub AnswersWords : Option Form → Option (List ℕ) → Option (List ℕ) → Status → Shown → Shown → Type 0
AnswersWords None first second status old new = Gives usage_answer status old new
AnswersWords (Some form) first second status old new =
    (status ≢ Usage)
    × ForOctets first (λ octets.
    ForSecond (second_of (Some form)) second (λ trace.
    GivesAnswer (IsFormAnswer (Some form) octets trace) status old new))

-- what was put of a run, for `run`, `storm`, `stamp`, `wire` and `vote`, is of one that goes well; and so is what was
-- audited
abbrev pub AnswersSafely : Option Form → Option (List ℕ) → Option (List ℕ) → Status → Shown → Shown → Type 0
AnswersSafely (Some Run) first second status old new = WritesSafely first second status old new
AnswersSafely (Some (Storm seed cycles)) first second status old new = SummarisesSafely seed cycles first status old new
AnswersSafely (Some (Stamp granule)) first second status old new = StampsSafely granule first second status old new
AnswersSafely (Some Audit) first second status old new = AuditsSafely first second status
AnswersSafely (Some (Wire link way)) first second status old new = WiresSafely link way first second status old new
AnswersSafely (Some (Vote one two three)) first second status old new =
    VotesSafely (the_names one two three) first second status old new
AnswersSafely other first second status old new = Unit {0}
