-- The forms of the words.
use Rattle.std.specs.{Option.{option_and_then, option_map}, Str.bytes_eq}
use Rattle.std.specs.Prelude.{◌-◌, ◌==◌, ◌^◌, ◌∷◌, ◌≤◌, List, None, Option, Some, [], codes, if◌then◌else◌, ℕ}
use Rattle.{net_plan.specs.{Ranges.IsWithin, declared.tables.Way.Way}, tte_forms.specs.declared.form.Form.Form}
use Rattle.{net_plan.specs.declared.tables.Way.TheVariants.{Down, Up}, tte_units.specs.declared.units.Units.Units}
use Rattle.{trace_text.specs.Numbers.number_up_to, tte_units.specs.Amount.units_of}
use Rattle.tte_forms.specs.declared.form.Form.TheVariants.{Audit, Capture, Check, Run, Show, Stamp, Storm, Vote, Wire}

-- a command with one file: `show FILE`, `check NETWORK` or `capture FILE`
abbrev pub one_file_form : List ℕ → Option Form
one_file_form command =
    if bytes_eq command (codes "show") then Some Show
    else if bytes_eq command (codes "check") then Some Check
    else if bytes_eq command (codes "capture") then Some Capture
    else None

-- a command with two files: `run NETWORK TRACE` or `audit NETWORK REPORT`
abbrev pub two_files_form : List ℕ → Option Form
two_files_form command =
    if bytes_eq command (codes "run") then Some Run
    else if bytes_eq command (codes "audit") then Some Audit
    else None

-- the greatest seed of a storm
abbrev pub greatest_seed : ℕ
greatest_seed = 2 ^ 64 - 1

-- the most cycles of a storm
abbrev pub most_cycles : ℕ
most_cycles = 100000

-- the seed of a storm, in decimal without leading zeros
abbrev pub seed_spelled : List ℕ → Option ℕ
seed_spelled text = number_up_to greatest_seed text

-- this number, if it is not 0
abbrev pub if_some : ℕ → Option ℕ
if_some n = if n == 0 then None else Some n

-- the cycles of a storm, at least 1, in decimal without leading zeros
abbrev pub cycles_spelled : List ℕ → Option ℕ
cycles_spelled text = option_and_then if_some (number_up_to most_cycles text)

-- a storm's seed and cycles: `storm NETWORK SEED CYCLES`
abbrev pub storm_form : List ℕ → List ℕ → Option Form
storm_form seed cycles = option_and_then (λ s. option_map (λ c. Storm s c) (cycles_spelled cycles)) (seed_spelled seed)

-- the greatest granule of stamps, in units
abbrev pub greatest_granule : ℕ
greatest_granule = 2 ^ 60

-- the granule of stamps, at least 1 unit, in decimal without leading zeros
abbrev pub granule_spelled : List ℕ → Option Units
granule_spelled text = option_map units_of (option_and_then if_some (number_up_to greatest_granule text))

-- the granule of stamps: `stamp NETWORK TRACE GRANULE`
abbrev pub stamp_form : List ℕ → Option Form
stamp_form granule = option_map (λ g. Stamp g) (granule_spelled granule)

-- a command with four words: `storm NETWORK SEED CYCLES` or `stamp NETWORK TRACE GRANULE`
abbrev pub four_words_form : List ℕ → List ℕ → List ℕ → Option Form
four_words_form command third last =
    if bytes_eq command (codes "storm") then storm_form third last
    else if bytes_eq command (codes "stamp") then stamp_form last
    else None

-- the way of a link whose word this is
abbrev pub way_spelled : List ℕ → Option Way
way_spelled text =
    if bytes_eq text (codes "up") then Some Up
    else if bytes_eq text (codes "down") then Some Down
    else None

-- a link and a way of it: `wire NETWORK TRACE LINK WAY`
abbrev pub wire_form : List ℕ → List ℕ → List ℕ → Option Form
wire_form command link way =
    if bytes_eq command (codes "wire") then option_map (λ w. Wire link w) (way_spelled way) else None

-- three virtual links: `vote NETWORK TRACE VL VL VL`
abbrev pub vote_form : List ℕ → List ℕ → List ℕ → List ℕ → Option Form
vote_form command first second third = if bytes_eq command (codes "vote") then Some (Vote first second third) else None

-- the numbers of the form lie in their ranges
abbrev pub IsFormInRange : Form → Type 0
IsFormInRange (Storm seed cycles) = (1 ≤ cycles) × (cycles ≤ most_cycles)
IsFormInRange (Stamp granule) = IsWithin 1 greatest_granule granule
IsFormInRange other = Unit {0}

-- the form of the words
unfoldable pub form_of : List (List ℕ) → Option Form
form_of [] = None
form_of (command ∷ []) = None
form_of (command ∷ file ∷ []) = one_file_form command
form_of (command ∷ file ∷ other ∷ []) = two_files_form command
form_of (command ∷ file ∷ third ∷ last ∷ []) = four_words_form command third last
form_of (command ∷ file ∷ trace ∷ link ∷ way ∷ []) = wire_form command link way
form_of (command ∷ file ∷ trace ∷ first ∷ second ∷ third ∷ []) = vote_form command first second third
form_of (command ∷ file ∷ other ∷ third ∷ fourth ∷ fifth ∷ sixth ∷ words) = None
