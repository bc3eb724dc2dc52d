-- The form of words by their count and their first, and the answer for them.
use Rattle.std.proofs.{lemmas.Bool.{Decides.nat_tests, and_parts}}
use Rattle.std.proofs.Common
use Common.{◌∙◌, ◌∷◌, ◌≡◌, ◌≤◌, Bool, List, None, Some, [], ap, arith, false, length, refl, subst, sym, true, ℕ}
use Rattle.std.specs.{Option.{option_and_then, option_map}}
use Rattle.std.specs.{Prelude.{if◌then◌else◌, ◌&&◌, ◌==◌, IfSome, Option, bytes_eq, codes, decimal, nat_le, slice_get}}
use Rattle.std.specs.{Str.Parse.digits_value}
use Rattle.fault_hypothesis.proofs.storm_lemmas.OneStorm.{one_storm}
use Rattle.lens_latency.{proofs.{Latencies.latency_one, OneReport.latency_report_one}, specs.Answer.IsLatencyOf}
use Rattle.lens_plan.{proofs.Plans.plan_one_for, specs.{Answer.IsPlanFor, messages.Values.{is_name_text, time_spelled}}}
use Rattle.tte_reports.{proofs.Reports.report_one, specs.Reports.IsOneFor}
use Rattle.lens.{proofs.draw_lemmas.Naming.named_one}
use Rattle.lens.specs.{Limit.report_limit, Questions.{EndsFor, IsQuestionAnswer}}
use Rattle.lens.specs.{Top.{AnswerIsOne, AnswersWords, IsAnswerBy}, events.Answer.{IsEventsAnswer, event_lines}}
use Rattle.lens.specs.Forms
use Forms.{IsFormInRange, IsPartInRange, cycle_part, draw_form, events_form, five_words_form, form_of, four_words_form}
use Forms.{greatest_cycle, greatest_number, inequality_spelled, named_form, network_form, part_between, reads_as_time}
use Forms.{six_words_form, slack_of_form, three_words_form, times_part, two_words_form, why_form}
use Rattle.lens.specs.declared.forms.{RunPart.{RunPart, TheVariants.{Cycle, Times}}}
use Rattle.lens.specs.declared.forms.Form.{Form}
use Rattle.lens.specs.declared.forms.Form.TheVariants
use TheVariants.{DrawNamed, Events, Latency, Least, Plan, Report, Schedule, Sheet, Slack, SlackOf}
use Rattle.lens.specs.declared.forms.Question.{Question}
use Rattle.lens.specs.declared.forms.Question.{TheVariants.{Clocks, Draw, DrawWhole, Flows, LatencySeen, Page, Why}}
use Rattle.lens_flows.proofs.AllTold.{flows_answer_one}
use Rattle.lens_overview.proofs.OneAnswer.{overview_answer_one}
use Rattle.lens_schedule.{proofs.LawProofs.schedule_one, specs.Answer.IsScheduleOf}
use Rattle.lens_sheet.{proofs.Sheets.sheet_one, specs.Answer.IsSheetOf}
use Rattle.lens_slack.{proofs.{Verdict.{octets_one, slack_one}, least_lemmas.OneLeast.least_one}}
use Rattle.lens_slack.specs.{Answer.IsSlackOf, Inequalities.IsInequality, Steps.{all_steps, rule_steps}}
use Rattle.lens_slack.specs.{least.Answer.{IsLeastOf, with_late}}
use Rattle.lens_why.proofs.Chains.{why_answer_one}
use Rattle.net_plan.{proofs.Trees.rules_give_trees, specs.declared.{event.Event.Event, network.Network.Network}}
use Rattle.schedule_checker.specs.Refusals.{RefusalIsOne}
use Rattle.schedule_tables.{proofs.{Margins.shape_rules, SlotLemmas.one_entry}}
use Rattle.schedule_tables.{specs.{Rules.KeepsRules, declared.rule.Rule.Rule}}
use Rattle.trace_text.specs.Numbers.{number_up_to}
use Rattle.tte_forms.{proofs.{FormLemmas.form_in_range as storm_in_range, networks.Answers.network_answer_one}}
use Rattle.tte_forms.specs.{Answering.Answer, Putting.Shown}
use Rattle.tte_forms.specs.{declared.{form.Form.TheVariants.Storm, status.Status.{Status, TheVariants.{Done, Usage}}}}
use Rattle.tte_forms.specs.{networks.Accepting.IsNetworkAnswer}
use Rattle.tte_forms.specs.Forms.{IsFormInRange as IsStormInRange, cycles_spelled, form_of as storm_form_of, if_some, seed_spelled, storm_form}

-- ---- the form of words by their count and their first, and the numbers of forms

pub no_words : (words : List (List ℕ)) → length words ≤ 0 → None ≡ form_of words
unfolding form_of
no_words [] e = refl
no_words (a ∷ words) e = absurd (omega (arith, e))

pub other_count : (words : List (List ℕ)) → (length words ≡ 2 → ⊥) → (length words ≡ 3 → ⊥) → (length words ≡ 4 → ⊥) → (length words ≡ 5 → ⊥)
    → (length words ≡ 6 → ⊥) → None ≡ form_of words
unfolding form_of
other_count [] h k l m n = refl
other_count (a ∷ []) h k l m n = refl
other_count (a ∷ b ∷ []) h k l m n = absurd (h refl)
other_count (a ∷ b ∷ c ∷ []) h k l m n = absurd (k refl)
other_count (a ∷ b ∷ c ∷ d ∷ []) h k l m n = absurd (l refl)
other_count (a ∷ b ∷ c ∷ d ∷ e ∷ []) h k l m n = absurd (m refl)
other_count (a ∷ b ∷ c ∷ d ∷ e ∷ x ∷ []) h k l m n = absurd (n refl)
other_count (a ∷ b ∷ c ∷ d ∷ e ∷ x ∷ y ∷ rest) h k l m n = refl

pub network_words : (words : List (List ℕ)) (command : List ℕ) → length words ≡ 2 → slice_get words 0 ≡ Some command → form_of words ≡ network_form command
unfolding form_of
network_words (a ∷ b ∷ []) command n e = let same : a ≡ command = cc in rw same refl
network_words words command n e = absurd (omega arith)

pub three_words : (words : List (List ℕ)) (command third : List ℕ) → length words ≡ 3 → slice_get words 0 ≡ Some command → slice_get words 2 ≡ Some third
    → form_of words ≡ three_words_form command third
unfolding form_of
three_words (a ∷ b ∷ c ∷ []) command third n e f = grind arith
three_words words command third n e f = absurd (omega arith)

pub four_words : (words : List (List ℕ)) (command third last : List ℕ) → length words ≡ 4 → slice_get words 0 ≡ Some command
    → slice_get words 2 ≡ Some third → slice_get words 3 ≡ Some last → form_of words ≡ four_words_form command third last
unfolding form_of
four_words (a ∷ b ∷ c ∷ d ∷ []) command third last n e f g = grind arith
four_words words command third last n e f g = absurd (omega arith)

pub five_words : (words : List (List ℕ)) (command fourth last : List ℕ) → length words ≡ 5 → slice_get words 0 ≡ Some command
    → slice_get words 3 ≡ Some fourth → slice_get words 4 ≡ Some last → form_of words ≡ five_words_form command fourth last
unfolding form_of
five_words (a ∷ b ∷ c ∷ d ∷ e' ∷ []) command fourth last n e f g = grind arith
five_words words command fourth last n e f g = absurd (omega arith)

pub six_words : (words : List (List ℕ)) (command from to name : List ℕ) → length words ≡ 6 → slice_get words 0 ≡ Some command
    → slice_get words 3 ≡ Some from → slice_get words 4 ≡ Some to → slice_get words 5 ≡ Some name → form_of words ≡ six_words_form command from to name
unfolding form_of
six_words (a ∷ b ∷ c ∷ d ∷ e' ∷ x ∷ []) command from to name n e f g h =
    let first : a ≡ command = cc in
    let begin : d ≡ from = cc in
    let end : e' ≡ to = cc in
    let last : x ≡ name = cc in
    rw (first, begin, end, last) refl
six_words words command from to name n e f g h = absurd (omega arith)

-- ---- the numbers of forms

-- those of a storm are in their ranges
storm_range : (seed cycles : List ℕ) → IfSome (storm_form seed cycles) IsStormInRange
unfolding storm_form_of
storm_range seed cycles = storm_in_range (codes "storm" ∷ [] ∷ seed ∷ cycles ∷ [])

-- and so are those of its events
events_by : (seed cycles : Option ℕ) → IfSome (option_and_then (λ s. option_map (λ c. Storm s c) cycles) seed) IsStormInRange
    → IfSome (option_and_then (λ s. option_map (λ c. Events s c) cycles) seed) IsFormInRange
events_by None cycles range = tt
events_by (Some s) None range = tt
events_by (Some s) (Some c) range = range

-- the number of a record is not 0
some_number : (n : ℕ) (b : Bool) → (b ≡ false → 1 ≤ n) → IfSome (option_map (λ m. Report (Why m)) (if b then None else Some n)) IsFormInRange
some_number n true some = tt
some_number n false some = some refl

why_by : (o : Option ℕ) → IfSome (option_map (λ m. Report (Why m)) (option_and_then if_some o)) IsFormInRange
why_by None = tt
why_by (Some n) = some_number n (n == 0) (λ e. grind (arith, nat_tests, e))

-- a cycle that is drawn has one of their numbers
cycle_some : (n : ℕ) (b : Bool) → (b ≡ true → n ≤ greatest_cycle) → IfSome (option_map (λ m. Cycle m) (if b then Some n else None)) IsPartInRange
cycle_some n true few = few refl
cycle_some n false few = tt

cycle_by : (text : List ℕ) → IfSome (cycle_part text) IsPartInRange
cycle_by text =
    let n = digits_value 10 text in
    cycle_some n (bytes_eq text (decimal n) && nat_le n greatest_cycle)
    (λ e. let parts = and_parts (bytes_eq text (decimal n)) (nat_le n greatest_cycle) e in grind (arith, nat_tests, parts.1))

-- a part of a run ends no earlier than it begins
between_by : (from to : ℕ) (b : Bool) → (b ≡ true → from ≤ to) → IfSome (if b then Some (Times from to) else None) IsPartInRange
between_by from to true later = later refl
between_by from to false later = tt

times_by : (from to : Option ℕ) → IfSome (option_and_then (λ f. option_and_then (part_between f) to) from) IsPartInRange
times_by None to = tt
times_by (Some f) None = tt
times_by (Some f) (Some t) = between_by f t (nat_le f t) (λ e. grind (arith, nat_tests, e))

times_range : (from to : List ℕ) → IfSome (times_part from to) IsPartInRange
times_range from to = times_by (time_spelled greatest_number from) (time_spelled greatest_number to)

draw_by : (part : Option RunPart) → IfSome part IsPartInRange → IfSome (draw_form part) IsFormInRange
draw_by None h = tt
draw_by (Some p) h = h

name_by : (name : List ℕ) (part : RunPart) (b : Bool) → IsPartInRange part → IfSome (if b then Some (DrawNamed part name) else None) IsFormInRange
name_by name part true h = h
name_by name part false h = tt

named_range : (name : List ℕ) (part : Option RunPart) → IfSome part IsPartInRange → IfSome (named_form part name) IsFormInRange
named_range name None h = tt
named_range name (Some p) h = name_by name p (is_name_text name) h

either_by : (b : Bool) (one other : Option Form) → IfSome one IsFormInRange → IfSome other IsFormInRange → IfSome (if b then one else other) IsFormInRange
either_by true one other h k = h
either_by false one other h k = k

two_words_range : (fourth last : List ℕ) → IfSome (two_words_form fourth last) IsFormInRange
two_words_range fourth last =
    either_by (reads_as_time last) (draw_form (times_part fourth last)) (named_form (cycle_part fourth) last)
    (draw_by (times_part fourth last) (times_range fourth last)) (named_range last (cycle_part fourth) (cycle_by fourth))

four_words_by : (b c d : Bool) (why cycle events : Option Form) → IfSome why IsFormInRange → IfSome cycle IsFormInRange → IfSome events IsFormInRange
    → IfSome (if b then why else if c then cycle else if d then events else None) IsFormInRange
four_words_by true c d why cycle events h i k = h
four_words_by false true d why cycle events h i k = i
four_words_by false false true why cycle events h i k = k
four_words_by false false false why cycle events h i k = tt

-- a rule that is spelled is an inequality
spelled_by : (b : Bool) (rule : Rule) (o : Option Rule) → IsInequality rule → IfSome o IsInequality → IfSome (if b then Some rule else o) IsInequality
spelled_by true rule o is others = is
spelled_by false rule o is others = others

inequality_by : (text : List ℕ) → IfSome (inequality_spelled text) IsInequality
inequality_by text = grind (arith, spelled_by)

network_by : (slack least sheet latency draw : Bool)
    → IfSome (if slack then Some Slack else if least then Some Least else if sheet then Some Sheet else if latency then Some Latency
    else if draw then Some Schedule else None) IsFormInRange
network_by true least sheet latency draw = tt
network_by false true sheet latency draw = tt
network_by false false true latency draw = tt
network_by false false false true draw = tt
network_by false false false false true = tt
network_by false false false false false = tt

slack_of_by : (o : Option Rule) → IfSome o IsInequality → IfSome (option_map (λ r. SlackOf r) o) IsFormInRange
slack_of_by None is = tt
slack_of_by (Some rule) is = is

three_words_by : (slack plan draw page flows latency clocks : Bool) (of : Option Form) → IfSome of IsFormInRange
    → IfSome (if slack then of else if plan then Some Plan else if draw then Some (Report DrawWhole) else if page then Some (Report Page)
    else if flows then Some (Report Flows) else if latency then Some (Report LatencySeen) else if clocks then Some (Report Clocks) else None) IsFormInRange
three_words_by true plan draw page flows latency clocks of h = h
three_words_by false true draw page flows latency clocks of h = tt
three_words_by false false true page flows latency clocks of h = tt
three_words_by false false false true flows latency clocks of h = tt
three_words_by false false false false true latency clocks of h = tt
three_words_by false false false false false true clocks of h = tt
three_words_by false false false false false false true of h = tt
three_words_by false false false false false false false of h = tt

five_words_by : (b : Bool) (draw : Option Form) → IfSome draw IsFormInRange → IfSome (if b then draw else None) IsFormInRange
five_words_by true draw h = h
five_words_by false draw h = tt

-- the numbers of the form of words lie in their ranges
pub form_in_range : (words : List (List ℕ)) → IfSome (form_of words) IsFormInRange
unfolding form_of
form_in_range [] = tt
form_in_range (command ∷ []) = tt
form_in_range (command ∷ network ∷ []) =
    network_by (bytes_eq command (codes "slack")) (bytes_eq command (codes "least")) (bytes_eq command (codes "sheet"))
    (bytes_eq command (codes "latency")) (bytes_eq command (codes "draw"))
form_in_range (command ∷ network ∷ third ∷ []) =
    three_words_by (bytes_eq command (codes "slack")) (bytes_eq command (codes "plan")) (bytes_eq command (codes "draw"))
    (bytes_eq command (codes "page")) (bytes_eq command (codes "flows")) (bytes_eq command (codes "latency"))
    (bytes_eq command (codes "clocks")) (slack_of_form third)
    (slack_of_by (inequality_spelled third) (inequality_by third))
form_in_range (command ∷ network ∷ third ∷ last ∷ []) =
    four_words_by (bytes_eq command (codes "why")) (bytes_eq command (codes "draw")) (bytes_eq command (codes "events")) (why_form last)
    (draw_form (cycle_part last)) (events_form third last)
    (why_by (number_up_to greatest_number last)) (draw_by (cycle_part last) (cycle_by last)) (events_by (seed_spelled third) (cycles_spelled last) (storm_range third last))
form_in_range (command ∷ network ∷ report ∷ fourth ∷ last ∷ []) =
    five_words_by (bytes_eq command (codes "draw")) (two_words_form fourth last) (two_words_range fourth last)
form_in_range (command ∷ network ∷ report ∷ from ∷ to ∷ name ∷ []) =
    five_words_by (bytes_eq command (codes "draw")) (named_form (times_part from to) name) (named_range name (times_part from to) (times_range from to))
form_in_range (command ∷ network ∷ report ∷ fourth ∷ fifth ∷ last ∷ more ∷ words) = tt

-- ---- the answer for the words

-- what is answered for the form is answered for the words
pub words_as : (words : List (List ℕ)) {f form : Option Form} → f ≡ form → (first second : Option (List ℕ)) (status : Status) (old new : Shown)
    → AnswersWords words f first second status old new → AnswersWords words form first second status old new
words_as words {f} {form} same first second status old new a = subst (λ x. AnswersWords words x first second status old new) same a

-- the events of a storm have one answer
events_answer_one : (seed cycles : ℕ) (network : Network) → cycles ≤ 100000 → KeepsRules network → (a b : Answer) → IsEventsAnswer seed cycles network a
    → IsEventsAnswer seed cycles network b → a ≡ b
events_answer_one seed cycles network few rules a b p q =
    let events = one_storm network seed cycles p.events q.events rules few p.storm q.storm in
    p.answer ∙ ap (λ (es : List Event). record { status = Done; lines = event_lines network es }) events ∙ sym q.answer

events_one : RefusalIsOne → (seed cycles : ℕ) → cycles ≤ 100000 → (octets : List ℕ) (a b : Answer) → IsNetworkAnswer (IsEventsAnswer seed cycles) octets a
    → IsNetworkAnswer (IsEventsAnswer seed cycles) octets b → a ≡ b
events_one one seed cycles few octets a b p q =
    network_answer_one one (IsEventsAnswer seed cycles) octets (λ network accepted. events_answer_one seed cycles network few accepted.rules) a b p q

question_one : (words : List (List ℕ)) (question : Question) → IsOneFor (IsQuestionAnswer words question)
question_one words (Why number) = why_answer_one number
question_one words DrawWhole = overview_answer_one words
question_one words (Draw part) = λ network text notes end x y rules of i j. i ∙ sym j
question_one words Page = λ network text notes end x y rules of i j. i ∙ sym j
question_one words Flows = flows_answer_one
question_one words LatencySeen = latency_report_one
question_one words Clocks = λ network text notes end x y rules of i j. i ∙ sym j

-- no question ends as words of no form do
pub no_usage_for : (question : Question) → EndsFor question Usage → ⊥
no_usage_for (Why number) h = h
no_usage_for other h = h

answer_one : RefusalIsOne → (words : List (List ℕ)) (form : Option Form) → IfSome form IsFormInRange → (octets report : List ℕ) (a b : Answer)
    → IsAnswerBy words form octets report a → IsAnswerBy words form octets report b → a ≡ b
answer_one one words None range octets report a b p q = p ∙ sym q
answer_one one words (Some Slack) range octets report a b p q =
    octets_one (IsSlackOf all_steps) (slack_one all_steps) a b p q
answer_one one words (Some (SlackOf rule)) range octets report a b p q =
    octets_one (IsSlackOf (rule_steps rule)) (slack_one (rule_steps rule)) a b p q
answer_one one words (Some Least) range octets report a b p q =
    octets_one (λ network. IsLeastOf (with_late network)) (λ network. least_one {n = with_late network}) a b p q
answer_one one words (Some Sheet) range octets report a b p q =
    network_answer_one one IsSheetOf octets (λ network accepted. sheet_one network) a b p q
answer_one one words (Some Latency) range octets report a b p q =
    network_answer_one one IsLatencyOf octets (λ network accepted. latency_one network) a b p q
answer_one one words (Some Schedule) range octets report a b p q =
    network_answer_one one (IsScheduleOf words) octets
    (λ network accepted x y. schedule_one {words = words} {a = x} {b = y} one_entry
    (rules_give_trees network (shape_rules network accepted.rules)))
    a b p q
answer_one one words (Some Plan) range octets messages a b p q =
    network_answer_one one (IsPlanFor messages octets) octets
    (λ network accepted. plan_one_for {text = messages} octets
    (rules_give_trees network (shape_rules network accepted.rules))) a b p q
answer_one one words (Some (Report question)) range octets report a b p q =
    report_one one report_limit (IsQuestionAnswer words question) (question_one words question) report a b p q
answer_one one words (Some (DrawNamed part name)) range octets report a b p q =
    named_one one words part name report a b p q
answer_one one words (Some (Events seed cycles)) range octets report a b p q = events_one one seed cycles range.1 octets a b p q

pub one_answer : RefusalIsOne → AnswerIsOne
one_answer one words octets report a b p q = answer_one one words (form_of words) (form_in_range words) octets report a b p q
