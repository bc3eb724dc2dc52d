-- What the program `lens` answers.
use Rattle.{lens.specs.declared.forms.Form.TheVariants.Sheet, lens_sheet.specs.Answer.IsSheetAnswer}
use Rattle.{lens.specs.declared.forms.Form.TheVariants.Schedule, lens_schedule.specs.Answer.IsScheduleAnswer}
use Rattle.{lens_latency.specs.Answer.IsLatencyAnswer, lens_plan.specs.Answer.IsPlanAnswer}
use Rattle.std.specs.Prelude.{◌++◌, ◌≡◌, ◌≢◌, ◌⊎◌, List, None, Option, Some, [], codes, ℕ}
use Rattle.{lens.specs.{Forms.form_of, Limit.report_limit, Questions.IsQuestionAnswer}, lens_slack.specs.least.Answer.IsLeastAnswer}
use Rattle.{lens.specs.events.Answer.IsEventsAnswer, tte_reports.specs.Reports.IsReportAnswer}
use Rattle.lens.specs.declared.forms.Form.{Form, TheVariants.{DrawNamed, Events, Latency, Least, Plan, Report, Slack}}
use Rattle.lens.specs.{declared.forms.Form.TheVariants.SlackOf, draw.Naming.{CompletesNamed, IsNamedAnswer, LeavesUnnamed}}
use Rattle.{lens_slack.specs.Answer.{IsSlackAnswer, IsSlackAnswerOf}, tte_forms.specs.Putting.Shown}
use Rattle.tte_forms.specs.Answering.{Answer, ForOctets, Gives, GivesAnswer, line_answer}
use Rattle.tte_forms.specs.{Taking.TakesUpTo, declared.status.Status.{Status, TheVariants.Usage}, frames.Answer.file_limit}
use Rattle.tte_forms.specs.networks.Accepting.{ForAccepted, IsNetworkAnswer}
use Rattle.tte_reports.specs.{Commands.CompletesReport, Safely.AuditsSafely}

-- the line for words of no form
abbrev pub usage_line : List ℕ
usage_line =
    codes "usage: lens slack NETWORK [RULE] | least NETWORK | sheet NETWORK | plan NETWORK MESSAGES | "
    ++ codes "latency NETWORK [REPORT] | why NETWORK REPORT N | draw NETWORK [REPORT] | "
    ++ codes "draw NETWORK REPORT CYCLE [NAME] | draw NETWORK REPORT FROM TO [NAME] | page NETWORK REPORT | "
    ++ codes "clocks NETWORK REPORT | flows NETWORK REPORT | events NETWORK SEED CYCLES\n"

-- the answer for words of no form: the usage line
abbrev pub usage_answer : Answer
usage_answer = line_answer Usage usage_line

-- an answer for the words, their form and the octets of its files, of which only a plan and what is asked of a report
-- have a second
abbrev pub IsFormAnswer : List (List ℕ) → Form → List ℕ → List ℕ → Answer → Type 0
IsFormAnswer words Slack octets report a = IsSlackAnswer octets a
IsFormAnswer words (SlackOf rule) octets report a = IsSlackAnswerOf rule octets a
IsFormAnswer words Least octets report a = IsLeastAnswer octets a
IsFormAnswer words Sheet octets report a = IsSheetAnswer octets a
IsFormAnswer words Latency octets report a = IsLatencyAnswer octets a
IsFormAnswer words Schedule octets report a = IsScheduleAnswer words octets a
IsFormAnswer words Plan octets messages a = IsPlanAnswer messages octets a
IsFormAnswer words (Report question) octets report a =
    IsNetworkAnswer (IsReportAnswer report_limit (IsQuestionAnswer words question) report) octets a
IsFormAnswer words (DrawNamed part name) octets report a =
    IsNetworkAnswer (IsNamedAnswer words part name report) octets a
IsFormAnswer words (Events seed cycles) octets report a = IsNetworkAnswer (IsEventsAnswer seed cycles) octets a

-- an answer for the words and the octets of the files
abbrev pub IsAnswerBy : List (List ℕ) → Option Form → List ℕ → List ℕ → Answer → Type 0
IsAnswerBy words None octets report a = a ≡ usage_answer
IsAnswerBy words (Some form) octets report a = IsFormAnswer words form octets report a

-- the words and the octets of the files have one answer
abbrev pub AnswerIsOne : Type 0
AnswerIsOne =
    (words : List (List ℕ)) (octets report : List ℕ) (a b : Answer)
    → IsAnswerBy words (form_of words) octets report a → IsAnswerBy words (form_of words) octets report b → a ≡ b

-- the fact holds for the octets of the second file, if the form has one
abbrev pub ForSecond : Form → Option (List ℕ) → (List ℕ → Type 0) → Type 0
ForSecond (Report question) left P = ForOctets left P
ForSecond (DrawNamed part name) left P = ForOctets left P
ForSecond Plan left P = ForOctets left P
ForSecond other left P = P []

-- words of no form are answered by usage, and no others are; to those of a form its answer was given, for the octets of
-- the files
abbrev pub AnswersWords : List (List ℕ) → Option Form → Option (List ℕ) → Option (List ℕ) → Status → Shown → Shown
    → Type 0
AnswersWords words None first second status old new = Gives usage_answer status old new
AnswersWords words (Some form) first second status old new =
    (status ≢ Usage)
    × ForOctets first (λ octets.
    ForSecond form second (λ report. GivesAnswer (IsFormAnswer words form octets report) status old new))

-- where a report was asked and this is done, the report is that of a run that goes well, under events within the
-- hypothesis
abbrev pub AnswersSafely : Option Form → Option (List ℕ) → Option (List ℕ) → Status → Type 0
AnswersSafely (Some (Report question)) first second status = AuditsSafely first second status
AnswersSafely (Some (DrawNamed part name)) first second status = AuditsSafely first second status
AnswersSafely other first second status = Unit {0}

-- what is asked of the report of a run is answered to its end, where no count of faults rose, unless memory ran out
abbrev pub AnswersReports : List (List ℕ) → Option Form → Option (List ℕ) → Option (List ℕ) → Type 0 → Type 0 → Status
    → Type 0
AnswersReports words (Some (Report question)) first second SourceRose SinkRose status =
    CompletesReport report_limit (IsQuestionAnswer words question) first second SourceRose SinkRose status
AnswersReports words (Some (DrawNamed part name)) first second SourceRose SinkRose status =
    CompletesNamed words part name first second SourceRose SinkRose status
AnswersReports words other first second SourceRose SinkRose status = Unit {0}

-- a read failed, and nothing was put: of the first file, and then the second was not read, or of the second
abbrev pub FailsToRead : Option Form → Type 0 → Type 0 → Type 0 → Type 0 → Type 0
FailsToRead (Some (Report question)) InFirst InSecond Unput Unread = (InFirst × Unput × Unread) ⊎ (InSecond × Unput)
FailsToRead (Some (DrawNamed part name)) InFirst InSecond Unput Unread =
    (InFirst × Unput × Unread) ⊎ (InSecond × Unput)
FailsToRead (Some Plan) InFirst InSecond Unput Unread = (InFirst × Unput × Unread) ⊎ (InSecond × Unput)
FailsToRead other InFirst InSecond Unput Unread = InFirst × Unput × Unread

-- of the first file its limit and 4,096 octets are taken at most; words of no form take none of it
abbrev pub TakesFirst : Option Form → Option (List ℕ) → Option (List ℕ) → Type 0
TakesFirst None left after = after ≡ left
TakesFirst (Some form) left after = TakesUpTo file_limit left after

-- only a plan and what is asked of a report read a second file, for an accepted network, and where a name is given it
-- is judged before that
abbrev pub TakesSecond : Option Form → Option (List ℕ) → Type 0 → Type 0 → Type 0 → Type 0
TakesSecond (Some (Report question)) first Unread OfReport OfMessages = Unread ⊎ OfReport
TakesSecond (Some (DrawNamed part name)) first Unread OfReport OfMessages =
    LeavesUnnamed name first Unread × (Unread ⊎ OfReport)
TakesSecond (Some Plan) first Unread OfReport OfMessages = Unread ⊎ OfMessages
TakesSecond other first Unread OfReport OfMessages = Unread

-- its limit and 4,096 octets are taken of messages at most, for an accepted network
abbrev pub ReadsMessages : Option (List ℕ) → Option (List ℕ) → Option (List ℕ) → Type 0
ReadsMessages first left after = ForAccepted first (λ network. TakesUpTo file_limit left after)
