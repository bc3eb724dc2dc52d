-- The forms of the words of `lens`.
use Rattle.std.specs.{Char.is_ascii_digit, List.list_all, Option.{option_and_then, option_map}, Str.bytes_eq}
use Rattle.std.specs.Prelude.{◌&&◌, ◌-◌, ◌^◌, ◌||◌, ◌∷◌, ◌≤◌, Bool, List, None, Option, Some, [], codes, drop, if◌then◌else◌}
use Rattle.std.specs.Prelude.{length, nat_le, take, ℕ}
use Rattle.lens.specs.declared.forms.{Form.{Form, TheVariants.{DrawNamed, Events, Latency, Least, Plan}}, Question.Question}
use Rattle.lens.specs.declared.forms.Form.TheVariants.{Report, Schedule, Sheet, Slack, SlackOf}
use Rattle.lens.specs.declared.forms.{RunPart.{RunPart, TheVariants.{Cycle, Times}}, Question.TheVariants.{Clocks, Draw, DrawWhole}}
use Rattle.{lens.specs.declared.forms.Question.TheVariants.{Flows, LatencySeen, Page, Why}, trace_text.specs.Numbers.number_up_to}
use Rattle.lens_plan.specs.messages.Values.{is_name_text, time_spelled}
use Rattle.lens_slack.specs.Inequalities.{IsInequality}
use Rattle.schedule_tables.specs.declared.rule.Rule.TheVariants.{Correction, Delays, Forwarding, Precision}
use Rattle.schedule_tables.specs.declared.rule.Rule.{Rule, TheVariants.{ScheduleStart, Settling, Spacing, WindowEnds}}
use Rattle.tte_forms.specs.Forms.{cycles_spelled, if_some, most_cycles, seed_spelled}

-- a network alone: `slack NETWORK`, `least NETWORK`, `sheet NETWORK`, `latency NETWORK` or `draw NETWORK`
abbrev pub network_form : List ℕ → Option Form
network_form command =
    if bytes_eq command (codes "slack") then Some Slack
    else if bytes_eq command (codes "least") then Some Least
    else if bytes_eq command (codes "sheet") then Some Sheet
    else if bytes_eq command (codes "latency") then Some Latency
    else if bytes_eq command (codes "draw") then Some Schedule
    else None

-- the rule of this number, if it is an inequality
abbrev pub inequality_spelled : List ℕ → Option Rule
inequality_spelled text =
    if bytes_eq text (codes "8") then Some Delays
    else if bytes_eq text (codes "9") then Some Settling
    else if bytes_eq text (codes "10") then Some Precision
    else if bytes_eq text (codes "11") then Some Correction
    else if bytes_eq text (codes "12") then Some ScheduleStart
    else if bytes_eq text (codes "13") then Some WindowEnds
    else if bytes_eq text (codes "21") then Some Spacing
    else if bytes_eq text (codes "23") then Some Forwarding
    else None

-- a network and a rule: `slack NETWORK RULE`
abbrev pub slack_of_form : List ℕ → Option Form
slack_of_form rule = option_map (λ r. SlackOf r) (inequality_spelled rule)

-- the greatest number of a time, of a record and of a seed
abbrev pub greatest_number : ℕ
greatest_number = 2 ^ 64 - 1

-- a command with three words: `slack NETWORK RULE`, `plan NETWORK MESSAGES`, `draw NETWORK REPORT`, `page NETWORK REPORT`,
-- `flows NETWORK REPORT`, `latency NETWORK REPORT` or `clocks NETWORK REPORT`
abbrev pub three_words_form : List ℕ → List ℕ → Option Form
three_words_form command third =
    if bytes_eq command (codes "slack") then slack_of_form third
    else if bytes_eq command (codes "plan") then Some Plan
    else if bytes_eq command (codes "draw") then Some (Report DrawWhole)
    else if bytes_eq command (codes "page") then Some (Report Page)
    else if bytes_eq command (codes "flows") then Some (Report Flows)
    else if bytes_eq command (codes "latency") then Some (Report LatencySeen)
    else if bytes_eq command (codes "clocks") then Some (Report Clocks)
    else None

-- the number of a record, at least 1, in decimal without leading zeros
abbrev pub number_spelled : List ℕ → Option ℕ
number_spelled text = option_and_then if_some (number_up_to greatest_number text)

-- a record of a report, by its number: `why NETWORK REPORT N`
abbrev pub why_form : List ℕ → Option Form
why_form number = option_map (λ n. Report (Why n)) (number_spelled number)

-- the events of a storm, by its seed and its cycles: `events NETWORK SEED CYCLES`
abbrev pub events_form : List ℕ → List ℕ → Option Form
events_form seed cycles =
    option_and_then (λ s. option_map (λ c. Events s c) (cycles_spelled cycles)) (seed_spelled seed)

-- the greatest number of a cycle that is drawn
abbrev pub greatest_cycle : ℕ
greatest_cycle = 2 ^ 20

-- a cycle of a run, by its number in decimal without leading zeros
abbrev pub cycle_part : List ℕ → Option RunPart
cycle_part cycle = option_map (λ n. Cycle n) (number_up_to greatest_cycle cycle)

-- a part of a run, from a time to one that is no earlier
abbrev pub part_between : ℕ → ℕ → Option RunPart
part_between from to = if nat_le from to then Some (Times from to) else None

-- a part of a run, by its two times, each a number of units, or of ns, us or ms
abbrev pub times_part : List ℕ → List ℕ → Option RunPart
times_part from to =
    option_and_then (λ f. option_and_then (part_between f) (time_spelled greatest_number to))
    (time_spelled greatest_number from)

-- a part of a run: `draw NETWORK REPORT CYCLE` or `draw NETWORK REPORT FROM TO`
abbrev pub draw_form : Option RunPart → Option Form
draw_form part = option_map (λ p. Report (Draw p)) part

-- of one thing, where the name is one: `draw NETWORK REPORT CYCLE NAME` or `draw NETWORK REPORT FROM TO NAME`
abbrev pub named_by : List ℕ → RunPart → Option Form
named_by name part = if is_name_text name then Some (DrawNamed part name) else None

abbrev pub named_form : Option RunPart → List ℕ → Option Form
named_form part name = option_and_then (named_by name) part

-- digits, at least one
abbrev pub is_number : List ℕ → Bool
is_number text = nat_le 1 (length text) && list_all is_ascii_digit text

-- the word of a unit of time
abbrev pub is_unit : List ℕ → Bool
is_unit text = bytes_eq text (codes "ns") || bytes_eq text (codes "us") || bytes_eq text (codes "ms")

-- digits, or digits with the word of a unit right behind them
unfoldable pub reads_as_time : List ℕ → Bool
reads_as_time text =
    is_number text || (is_unit (drop (length text - 2) text) && is_number (take (length text - 2) text))

-- two words behind the report: times where the second reads as one, and else a cycle and a name
abbrev pub two_words_form : List ℕ → List ℕ → Option Form
two_words_form fourth last =
    if reads_as_time last then draw_form (times_part fourth last) else named_form (cycle_part fourth) last

-- a command with four words: `why NETWORK REPORT N`, `draw NETWORK REPORT CYCLE` or `events NETWORK SEED CYCLES`
abbrev pub four_words_form : List ℕ → List ℕ → List ℕ → Option Form
four_words_form command third last =
    if bytes_eq command (codes "why") then why_form last
    else if bytes_eq command (codes "draw") then draw_form (cycle_part last)
    else if bytes_eq command (codes "events") then events_form third last
    else None

-- a command with five words
abbrev pub five_words_form : List ℕ → List ℕ → List ℕ → Option Form
five_words_form command fourth last = if bytes_eq command (codes "draw") then two_words_form fourth last else None

-- a command with six words
abbrev pub six_words_form : List ℕ → List ℕ → List ℕ → List ℕ → Option Form
six_words_form command from to name =
    if bytes_eq command (codes "draw") then named_form (times_part from to) name else None

-- the cycle may be drawn, or the end is no earlier than the beginning
abbrev pub IsPartInRange : RunPart → Type 0
IsPartInRange (Cycle number) = number ≤ greatest_cycle
IsPartInRange (Times from to) = from ≤ to

-- the numbers of what is asked lie in their ranges
abbrev pub IsQuestionInRange : Question → Type 0
IsQuestionInRange (Why number) = 1 ≤ number
IsQuestionInRange DrawWhole = Unit {0}
IsQuestionInRange (Draw part) = IsPartInRange part
IsQuestionInRange Page = Unit {0}
IsQuestionInRange Flows = Unit {0}
IsQuestionInRange LatencySeen = Unit {0}
IsQuestionInRange Clocks = Unit {0}

-- the rule of the form is an inequality, and its numbers lie in their ranges
abbrev pub IsFormInRange : Form → Type 0
IsFormInRange Slack = Unit {0}
IsFormInRange (SlackOf rule) = IsInequality rule
IsFormInRange Least = Unit {0}
IsFormInRange Sheet = Unit {0}
IsFormInRange Latency = Unit {0}
IsFormInRange Schedule = Unit {0}
IsFormInRange Plan = Unit {0}
IsFormInRange (Report question) = IsQuestionInRange question
IsFormInRange (DrawNamed part name) = IsPartInRange part
IsFormInRange (Events seed cycles) = (1 ≤ cycles) × (cycles ≤ most_cycles)

-- the form of the words
unfoldable pub form_of : List (List ℕ) → Option Form
form_of [] = None
form_of (command ∷ []) = None
form_of (command ∷ network ∷ []) = network_form command
form_of (command ∷ network ∷ third ∷ []) = three_words_form command third
form_of (command ∷ network ∷ third ∷ last ∷ []) = four_words_form command third last
form_of (command ∷ network ∷ report ∷ fourth ∷ last ∷ []) = five_words_form command fourth last
form_of (command ∷ network ∷ report ∷ from ∷ to ∷ name ∷ []) = six_words_form command from to name
form_of (command ∷ network ∷ report ∷ fourth ∷ fifth ∷ last ∷ more ∷ words) = None
