-- The form of words by their count and their first, and the numbers that words spell.
use Rattle.std.proofs.Common
use Common.{◌<◌, ◌^◌, ◌∙◌, ◌∷◌, ◌≡◌, ◌≤◌, Bool, Err, List, None, Ok, Some, [], ap, arith, cond, false, length, refl}
use Common.{sym, true, ℕ}
use Rattle.std.proofs.lemmas.{Bool.{Decides.nat_tests, and_parts}, Fmt.{decimal_is_IsNumeral, parse-decimal}, Int.ints}
use Rattle.std.specs.{Cmp.Lexicographic.bytes_decides, Option.{option_and_then, option_map}}
use Rattle.std.specs.{Str.Parse.{ParsesUnsigned, digits_value}}
use Rattle.std.specs.Prelude
use Prelude.{if◌then◌else◌, ◌&&◌, ◌==◌, IfSome, Option, Result, bytes_eq, codes, decimal, nat_le, slice_get}
use Rattle.net_plan.specs.declared.tables.Way.{Way}
use Rattle.trace_text.specs.Numbers.{number_up_to}
use Rattle.tte_forms.specs.Forms
use Forms.{IsFormInRange, cycles_spelled, form_of, four_words_form, greatest_granule, if_some, most_cycles}
use Forms.{one_file_form, seed_spelled, stamp_form, storm_form, two_files_form, vote_form, way_spelled, wire_form}
use Rattle.tte_forms.specs.declared.form.Form.{Form}
use Rattle.tte_forms.specs.declared.form.Form.{TheVariants.{Audit, Capture, Check, Run, Show, Stamp, Storm, Vote, Wire}}
use Rattle.tte_units.specs.Amount.{units_of}

-- ---- the form of words by their count and their first, and the numbers of forms

pub no_words : (words : List (List ℕ)) → length words ≤ 0 → None ≡ form_of words
unfolding form_of
no_words [] e = refl
no_words (a ∷ words) e = absurd (omega arith)

-- how many words a form has, with its command
abbrev pub IsCount : ℕ → Type 0
IsCount n = (2 ≤ n) × (n ≤ 6)

pub other_count : (words : List (List ℕ)) → (IsCount (length words) → ⊥) → None ≡ form_of words
unfolding form_of
other_count [] other = refl
other_count (a ∷ []) other = refl
other_count (a ∷ b ∷ []) other = absurd (other (omega arith, omega arith))
other_count (a ∷ b ∷ c ∷ []) other = absurd (other (omega arith, omega arith))
other_count (a ∷ b ∷ c ∷ d ∷ []) other = absurd (other (omega arith, omega arith))
other_count (a ∷ b ∷ c ∷ d ∷ e ∷ []) other = absurd (other (omega arith, omega arith))
other_count (a ∷ b ∷ c ∷ d ∷ e ∷ f ∷ []) other = absurd (other (omega arith, omega arith))
other_count (a ∷ b ∷ c ∷ d ∷ e ∷ f ∷ g ∷ rest) other = refl

pub one_file : (words : List (List ℕ)) (command : List ℕ) → length words ≡ 2 → slice_get words 0 ≡ Some command → form_of words ≡ one_file_form command
unfolding form_of
one_file (a ∷ b ∷ []) command n e = let same : a ≡ command = cc in rw same refl
one_file words command n e = absurd (omega arith)

pub two_files : (words : List (List ℕ)) (command : List ℕ) → length words ≡ 3 → slice_get words 0 ≡ Some command → form_of words ≡ two_files_form command
unfolding form_of
two_files (a ∷ b ∷ c ∷ []) command n e = let same : a ≡ command = cc in rw same refl
two_files words command n e = absurd (omega arith)

pub four_words : (words : List (List ℕ)) (command third last : List ℕ) → length words ≡ 4 → slice_get words 0 ≡ Some command
    → slice_get words 2 ≡ Some third → slice_get words 3 ≡ Some last → form_of words ≡ four_words_form command third last
unfolding form_of
four_words (a ∷ b ∷ c ∷ d ∷ []) command third last n e f g =
    let first : a ≡ command = cc in
    let behind : c ≡ third = cc in
    let end : d ≡ last = cc in
    rw (first, behind, end) refl
four_words words command third last n e f g = absurd (omega arith)

pub five_words : (words : List (List ℕ)) (command link way : List ℕ) → length words ≡ 5 → slice_get words 0 ≡ Some command
    → slice_get words 3 ≡ Some link → slice_get words 4 ≡ Some way → form_of words ≡ wire_form command link way
unfolding form_of
five_words (a ∷ b ∷ c ∷ d ∷ x ∷ []) command link way n e f g =
    let first : a ≡ command = cc in
    let behind : d ≡ link = cc in
    let end : x ≡ way = cc in
    rw (first, behind, end) refl
five_words words command link way n e f g = absurd (omega arith)

pub six_words : (words : List (List ℕ)) (command first second third : List ℕ) → length words ≡ 6 → slice_get words 0 ≡ Some command
    → slice_get words 3 ≡ Some first → slice_get words 4 ≡ Some second → slice_get words 5 ≡ Some third → form_of words ≡ vote_form command first second third
unfolding form_of
six_words (a ∷ b ∷ c ∷ d ∷ x ∷ y ∷ []) command first second third n e f g h =
    let same : a ≡ command = cc in
    let one : d ≡ first = cc in
    let two : x ≡ second = cc in
    let three : y ≡ third = cc in
    rw (same, one, two, three) refl
six_words words command first second third n e f g h = absurd (omega arith)

-- ---- the numbers of forms

up_to_by : (most n : ℕ) (b : Bool) → (b ≡ true → n ≤ most) → IfSome (cond b (Some n) None) (λ m. m ≤ most)
up_to_by most n false within = tt
up_to_by most n true within = within refl

up_to : (most : ℕ) (text : List ℕ) → IfSome (number_up_to most text) (λ n. n ≤ most)
up_to most text =
    let n = digits_value 10 text in
    let same = bytes_eq text (decimal n) in
    up_to_by most n (same && nat_le n most) (λ e. grind (arith, nat_tests, (and_parts same (nat_le n most) e).1))

-- the number of cycles is in its range
abbrev AreCycles : ℕ → Type 0
AreCycles n = (1 ≤ n) × (n ≤ most_cycles)

some_by : (n : ℕ) (b : Bool) → (b ≡ false → 1 ≤ n) → n ≤ most_cycles → IfSome (if b then None else Some n) AreCycles
some_by n true some few = tt
some_by n false some few = (some refl, few)

some_cycles : (n : ℕ) → n ≤ most_cycles → IfSome (if_some n) AreCycles
some_cycles n few = some_by n (n == 0) (λ e. grind (arith, nat_tests)) few

cycles_by : (o : Option ℕ) → IfSome o (λ n. n ≤ most_cycles) → IfSome (option_and_then if_some o) AreCycles
cycles_by None few = tt
cycles_by (Some n) few = some_cycles n few

storm_by : (seed cycles : Option ℕ) → IfSome cycles AreCycles → IfSome (option_and_then (λ s. option_map (λ c. Storm s c) cycles) seed) IsFormInRange
storm_by None cycles range = tt
storm_by (Some s) None range = tt
storm_by (Some s) (Some c) range = range

some_units : (n : ℕ) (b : Bool) → (b ≡ false → 1 ≤ n) → n ≤ greatest_granule
    → IfSome (option_map (λ g. Stamp g) (option_map units_of (if b then None else Some n))) IsFormInRange
some_units n true some few = tt
some_units n false some few = record { least = omega (arith, ints, some refl); most = omega (arith, ints) }

stamp_by : (o : Option ℕ) → IfSome o (λ n. n ≤ greatest_granule)
    → IfSome (option_map (λ g. Stamp g) (option_map units_of (option_and_then if_some o))) IsFormInRange
stamp_by None few = tt
stamp_by (Some n) few = some_units n (n == 0) (λ e. grind (arith, nat_tests)) few

four_words_by : (b d : Bool) (storm stamp : Option Form) → IfSome storm IsFormInRange → IfSome stamp IsFormInRange
    → IfSome (if b then storm else if d then stamp else None) IsFormInRange
four_words_by true d storm stamp h k = h
four_words_by false true storm stamp h k = k
four_words_by false false storm stamp h k = tt

wire_by : (b : Bool) (link : List ℕ) (way : Option Way) → IfSome (if b then option_map (λ w. Wire link w) way else None) IsFormInRange
wire_by false link way = tt
wire_by true link None = tt
wire_by true link (Some w) = tt

vote_by : (b : Bool) (first second third : List ℕ) → IfSome (if b then Some (Vote first second third) else None) IsFormInRange
vote_by false first second third = tt
vote_by true first second third = tt

one_file_by : (b d e : Bool) → IfSome (if b then Some Show else if d then Some Check else if e then Some Capture else None) IsFormInRange
one_file_by true d e = tt
one_file_by false true e = tt
one_file_by false false true = tt
one_file_by false false false = tt

two_files_by : (b d : Bool) → IfSome (if b then Some Run else if d then Some Audit else None) IsFormInRange
two_files_by true d = tt
two_files_by false true = tt
two_files_by false false = tt

-- the numbers of the form of words lie in their ranges
pub form_in_range : (words : List (List ℕ)) → IfSome (form_of words) IsFormInRange
unfolding form_of
form_in_range [] = tt
form_in_range (command ∷ []) = tt
form_in_range (command ∷ file ∷ []) = one_file_by (bytes_eq command (codes "show")) (bytes_eq command (codes "check")) (bytes_eq command (codes "capture"))
form_in_range (command ∷ file ∷ other ∷ []) = two_files_by (bytes_eq command (codes "run")) (bytes_eq command (codes "audit"))
form_in_range (command ∷ file ∷ third ∷ last ∷ []) =
    four_words_by (bytes_eq command (codes "storm")) (bytes_eq command (codes "stamp")) (storm_form third last) (stamp_form last)
    (storm_by (seed_spelled third) (cycles_spelled last) (cycles_by (number_up_to most_cycles last) (up_to most_cycles last)))
    (stamp_by (number_up_to greatest_granule last) (up_to greatest_granule last))
form_in_range (command ∷ file ∷ trace ∷ link ∷ way ∷ []) = wire_by (bytes_eq command (codes "wire")) link (way_spelled way)
form_in_range (command ∷ file ∷ trace ∷ first ∷ second ∷ third ∷ []) = vote_by (bytes_eq command (codes "vote")) first second third
form_in_range (command ∷ file ∷ other ∷ third ∷ fourth ∷ fifth ∷ sixth ∷ words) = tt

-- ---- the decimals of numbers of 64 bits

-- the decimal of a number is read as that number
pub number_spelled : (most n : ℕ) (text : List ℕ) → n < 2 ^ 64 → n ≤ most → decimal n ≡ text → Some n ≡ number_up_to most text
number_spelled most n text fits within spelled =
    let value : digits_value 10 text ≡ n = rw spelled at (decimal_is_IsNumeral n fits).1 in
    let same : bytes_eq text (decimal (digits_value 10 text)) ≡ true =
    (bytes_decides text (decimal (digits_value 10 text))).1 (sym spelled ∙ ap decimal (sym value)) in
    let few : nat_le (digits_value 10 text) most ≡ true = grind (arith, nat_tests) in
    rw (same, few, value) refl

none_by : (most : ℕ) (text : List ℕ) (b : Bool) → (bytes_eq text (decimal (digits_value 10 text)) && nat_le (digits_value 10 text) most) ≡ b
    → ((n : ℕ) → n ≤ most → text ≡ decimal n → ⊥) → None ≡ cond b (Some (digits_value 10 text)) None
none_by most text false e other = refl
none_by most text true e other =
    let n = digits_value 10 text in
    let parts = and_parts (bytes_eq text (decimal n)) (nat_le n most) e in
    absurd (other n (grind (arith, nat_tests, parts.1)) ((bytes_decides text (decimal n)).0 parts.0))

-- a text that is the decimal of no such number is not read
pub none_spelled : (most : ℕ) (text : List ℕ) → ((n : ℕ) → n ≤ most → text ≡ decimal n → ⊥) → None ≡ number_up_to most text
none_spelled most text other = none_by most text (bytes_eq text (decimal (digits_value 10 text)) && nat_le (digits_value 10 text) most) refl other

-- what was parsed is the number whose decimal the text is
pub parsed_one : {E : Type 0} (n m : ℕ) (text : List ℕ) (r : Result ℕ E) → n < 2 ^ 64 → text ≡ decimal n → ParsesUnsigned 64 10 text r → r ≡ Ok m → n ≡ m
parsed_one n m text r fits is h e = let here = parse-decimal 64 n text r fits fits is h in cc

pub parsed_none : {E : Type 0} (n : ℕ) (text : List ℕ) (r : Result ℕ E) (error : E) → n < 2 ^ 64 → text ≡ decimal n → ParsesUnsigned 64 10 text r
    → r ≡ Err error → ⊥
parsed_none n text r error fits is h e = let here = parse-decimal 64 n text r fits fits is h in cc
