-- What words are read as: names of a network and decimals, which read back as they are printed.
use Rattle.std.proofs.Common
use Common.{◌+◌, ◌-◌, ◌<◌, ◌^◌, ◌∙◌, ◌∷◌, ◌≡◌, ◌≢◌, ◌≤◌, Bool, Err, List, None, Ok, Option, Some, [], ap, arith, cond}
use Common.{false, get_or, length, map, refl, subst, suc, sym, true, zero, ℕ}
use Rattle.std.proofs.lemmas.{Bool.{Decides.nat_tests, and_parts, false≢true}, Int.ints}
use Rattle.std.proofs.lemmas.{List.{Elements.{All-cons, All-weaker}, Sums.AllPass-from_list_all, length-map}}
use Rattle.std.proofs.lemmas.{Option.{get_or_from_slice_get, slice_get-map, slice_get_within}}
use Rattle.std.proofs.lemmas.Fmt
use Fmt.{decimal-digits_value, decimal_digit, decimal_is_IsNumeral, decimal_nonempty, first_decimal}
use Rattle.std.proofs.lemmas.Str.{Ascii.IsAscii-from_all, IsUtf8-from_ascii}
use Rattle.std.proofs.lemmas.Str.{Parse.{IsNumeralModel, digit_at, numerals_by_value, tells_digits}}
use Rattle.std.specs.{Char.{digit_value, is_ascii_digit}, Cmp.Lexicographic.bytes_decides, Fmt.signed_decimal}
use Rattle.std.specs.{List.{All, position_from}, Option.{SomeIff, ok_or, option_and_then, option_map}}
use Rattle.std.specs.{Str.{IsUtf8, Parse.{AllDigits, digits_value}}}
use Rattle.std.specs.Prelude
use Prelude.{◌&&◌, ◌==◌, ◌≤ℤ◌, IfNone, IfSome, bytes_eq, decimal, is_some, nat_le, neg_ℤ, negsuc, pos, slice_get, ℤ}
use Rattle.hex.{proofs.HexLemmas.decode_of-encode_lower, specs.Hex.encode_lower}
use Rattle.net_plan.{proofs.Bearing.behind}
use Rattle.net_plan.specs.{Bearers.{HasNoBearer, IsFirstBearer, device_names, link_names}}
use Rattle.net_plan.specs.{Belonging.{HasDevice, HasLink, IsOfNetwork, device_name, link_name}}
use Rattle.net_plan.specs.{NameText.{IsNameText, is_name_character}, Ranges.{IsDeviceInRange, IsInRange, IsLinkInRange}}
use Rattle.net_plan.specs.{Rules.{DeviceIsNew, LinkIsNew}}
use Rattle.net_plan.specs.declared.{event.{Event.Event, What.What}, ids.{DeviceId.DeviceId, LinkId.LinkId}}
use Rattle.net_plan.specs.declared.{network.Network.Network}
use Rattle.net_plan.specs.declared.{tables.{Device.Device, Link.Link, Way.{TheVariants.{Down, Up}, Way}}}
use Rattle.trace_text.{proofs.Splitting.{IsWord, decimal_is_word, name_is_word}}
use Rattle.trace_text.specs.{EventReading.{event_read, event_reader, what_behind}}
use Rattle.trace_text.specs.{EventWords.{event_word_spelled, event_word_text, way_spelled, way_text}}
use Rattle.trace_text.specs.{Names.{device_id, device_spelled, first_place, link_id, link_spelled}}
use Rattle.trace_text.specs.{Numbers.{fastest, latest, minus, number_up_to, ppb_of, rate_spelled, units_spelled}}
use Rattle.trace_text.specs.{Ranges.{IsFrame, IsRate, IsTime}}
use Rattle.trace_text.specs.{WordReading.{device, event_word, frame_of, link, octets, octets_spelled, rate, units, way}}
use Rattle.trace_text.specs.Steps
use Steps.{◌>>=◌, Read, Reader, Words, and_then, give, is_space, line_end, outcome, with_rest, words}
use Rattle.trace_text.specs.declared.{refusal.LineRefusal.TheVariants.Name}
use Rattle.trace_text.specs.declared.event_word.EventWord.{EventWord}
use Rattle.trace_text.specs.declared.event_word.EventWord.TheVariants
use TheVariants.{Break, Cut, End, Heal, Hold, On, Rate, Send, Wire}
use Rattle.tte_units.{proofs.general_lemmas.Lists.{same_name, some_at}}
use Rattle.tte_units.{specs.{Amount.units_of, declared.{rates.Ppb.Ppb, units.Units.Units}}}
use Rattle.net_plan.specs.declared.event.What.TheVariants as events

-- ---- the place of a name among those of a network

other_case : (text name : List ℕ) (b : Bool) → bytes_eq text name ≡ b → name ≢ text → b ≡ false
other_case text name true e other = absurd (other (sym ((bytes_decides text name).0 e)))
other_case text name false e other = refl

other : (text name : List ℕ) → name ≢ text → bytes_eq text name ≡ false
other text name h = other_case text name (bytes_eq text name) refl h

found_from : (s : ℕ) (names : List (List ℕ)) (text : List ℕ) (i : ℕ) → IsFirstBearer names text i → position_from (bytes_eq text) s names ≡ Some (s + i)
found_from s [] text i h = absurd (false≢true (ap is_some h.bears))
found_from s (name ∷ names) text zero h =
    let here : bytes_eq text name ≡ true = (bytes_decides text name).1 (sym (same_name name text h.bears)) in
    rw here (ap (λ k. Some k) (omega arith))
found_from s (name ∷ names) text (suc i) h =
    let there = other text name (λ e. h.first 0 (omega arith) (rw e)) in
    let later = found_from (s + 1) names text i
    (record { bears = h.bears; first = λ k lt. h.first (suc k) (omega arith) }) in
    rw there (later ∙ ap (λ k. Some k) (omega arith))

pub place_found : (names : List (List ℕ)) (text : List ℕ) (i : ℕ) → IsFirstBearer names text i → first_place names text ≡ Some i
place_found names text i h = found_from 0 names text i h ∙ ap (λ k. Some k) (omega arith)

absent_from : (s : ℕ) (names : List (List ℕ)) (text : List ℕ) → HasNoBearer names text → position_from (bytes_eq text) s names ≡ None
absent_from s [] text none = refl
absent_from s (name ∷ names) text none =
    let there = other text name (λ e. none 0 (rw e)) in
    rw there (absent_from (s + 1) names text (λ k. none (suc k)))

pub place_absent : (names : List (List ℕ)) (text : List ℕ) → HasNoBearer names text → first_place names text ≡ None
place_absent names text none = absent_from 0 names text none

ascii_character : (c : ℕ) → is_name_character c ≡ true → c < 128
ascii_character c h = grind (arith, nat_tests)

pub name_is_utf8 : (text : List ℕ) → IsNameText text → IsUtf8 text
name_is_utf8 text h =
    IsUtf8-from_ascii text
    (IsAscii-from_all text
    (All-weaker (λ c. is_name_character c ≡ true) (λ c. c < 128) ascii_character text (AllPass-from_list_all is_name_character text h.plain)))

-- nothing has a name that is not in UTF-8
pub bears_utf8 : {X : Type 0} (f : X → List ℕ) (xs : List X) (text : List ℕ) → All (λ x. IsNameText (f x)) xs → ¬ (IsUtf8 text) → HasNoBearer (map f xs) text
bears_utf8 f xs text names not_utf8 k e =
    let b = behind f xs k text e in
    let here : IsNameText (f b.0) =
    rw (get_or_from_slice_get xs k b.0 b.0 b.1) at (names k b.0 (slice_get_within xs k b.0 b.1)) in
    not_utf8 (subst IsUtf8 b.2 (name_is_utf8 (f b.0) here))

-- a bearer is one of the things
pub bearer_within : {X : Type 0} (f : X → List ℕ) (xs : List X) (text : List ℕ) (i : ℕ) → IsFirstBearer (map f xs) text i → i < length xs
bearer_within f xs text i h = let b = behind f xs i text h.bears in slice_get_within xs i b.0 b.1

-- the answer of a search by name
pub record IsNamed {I : Type 0} (number : I → ℕ) (names : List (List ℕ)) (text : List ℕ) (found : Option I) : Type 0 where
  pub first : IfSome found (λ i. IsFirstBearer names text (number i))
  pub none : IfNone found (HasNoBearer names text)

pub named_place : {I : Type 0} (id : ℕ → I) (number : I → ℕ) → ((i : I) → id (number i) ≡ i) → (names : List (List ℕ)) (text : List ℕ) (found : Option I)
    → IsNamed number names text found → found ≡ option_map id (first_place names text)
named_place id number same names text None h = sym (ap (option_map id) (place_absent names text h.none))
named_place id number same names text (Some i) h = ap Some (sym (same i)) ∙ sym (ap (option_map id) (place_found names text (number i) h.first))

pub named_within : {I X : Type 0} (number : I → ℕ) (f : X → List ℕ) (xs : List X) (text : List ℕ) (found : Option I) → IsNamed number (map f xs) text found
    → IfSome found (λ i. number i < length xs)
named_within number f xs text None h = tt
named_within number f xs text (Some i) h = bearer_within f xs text (number i) h.first

-- ---- the devices and links of an event that is read are the network's

-- ---- what is read, step by step

-- what is read, if anything is, has the property
abbrev pub Gives : {A : Type 0} → Read (A × Words) → (A → Type 0) → Type 0
Gives (Ok step) P = P step.0
Gives (Err fault) P = Unit {0}

-- a property of what the next reading gives, by one of what the first gave
pub with_first : {A B : Type 0} (first : Read (A × Words)) (next : A → Reader B) (P : A → Type 0) (Q : B → Type 0) → Gives first P
    → ((x : A) (left : Words) → P x → Gives (next x left) Q) → Gives (and_then first next) Q
with_first (Ok step) next P Q p q = q step.0 step.1 p
with_first (Err fault) next P Q p q = tt

pub with_any : {A B : Type 0} (first : Read (A × Words)) (next : A → Reader B) (Q : B → Type 0) → ((x : A) (left : Words) → Gives (next x left) Q)
    → Gives (and_then first next) Q
with_any (Ok step) next Q q = q step.0 step.1
with_any (Err fault) next Q q = tt

-- and of what the whole reading gives
pub from_outcome : {A : Type 0} (P : A → Type 0) (r : Read (A × Words)) (x : A) → Gives r P → outcome r ≡ Ok x → P x
from_outcome P (Ok step) x p e = let same : step.0 ≡ x = cc in subst P same p
from_outcome P (Err fault) x p e = absurd cc

-- ---- the things of the network

place_within : (test : List ℕ → Bool) (from : ℕ) (names : List (List ℕ)) (place : ℕ) → position_from test from names ≡ Some place → place < from + length names
place_within test from [] place e = absurd cc
place_within test from (name ∷ names) place e =
    elim (test name) as (λ b. cond b (Some from) (position_from test (from + 1) names) ≡ Some place → place < from + length (name ∷ names)) [
      | true ↦ λ here. let same : from ≡ place = cc in omega arith
      | false ↦ λ there. let more = place_within test (from + 1) names place there in omega arith
    ] e

found : {A : Type 0} (make : ℕ → A) (P : A → Type 0) (place : Option ℕ) (left : Words) → ((i : ℕ) → place ≡ Some i → P (make i))
    → Gives (with_rest left (ok_or (option_map make place) Name)) P
found make P None left there = tt
found make P (Some i) left there = there i refl

device_is_there : (network : Network) (ws : Words) → Gives (device network ws) (HasDevice network)
unfolding device device_spelled
device_is_there network [] = tt
device_is_there network (text ∷ left) =
    found device_id (HasDevice network) (first_place (device_names network.device) text) left
    (λ i e. let within = place_within (bytes_eq text) 0 (device_names network.device) i e in omega
    (arith, length-map network.device (λ (d : Device). d.name)))

link_is_there : (network : Network) (ws : Words) → Gives (link network ws) (HasLink network)
unfolding link link_spelled
link_is_there network [] = tt
link_is_there network (text ∷ left) =
    found link_id (HasLink network) (first_place (link_names network.link) text) left
    (λ i e. let within = place_within (bytes_eq text) 0 (link_names network.link) i e in
    omega (arith, length-map network.link (λ (l : Link). l.name)))

-- ---- the event

what_is : (network : Network) (word : EventWord) (ws : Words) → Gives (what_behind network word ws) (IsOfNetwork network)
unfolding what_behind
what_is network Rate ws =
    with_first (device network ws) (λ d. rate >>= λ r. give (events.Rate d r)) (HasDevice network) (IsOfNetwork network) (device_is_there network ws)
    (λ d left there. with_any (rate left) (λ r. give (events.Rate d r)) (IsOfNetwork network) (λ r rest. there))
what_is network Wire ws =
    with_first (link network ws) (λ l. way >>= λ w. units >>= λ u. give (events.Wire l w u)) (HasLink network) (IsOfNetwork network) (link_is_there network ws)
    (λ l left there. with_any (way left) (λ w. units >>= λ u. give (events.Wire l w u)) (IsOfNetwork network)
    (λ w more. with_any (units more) (λ u. give (events.Wire l w u)) (IsOfNetwork network) (λ u rest. there)))
what_is network Hold ws =
    with_first (link network ws) (λ l. way >>= λ w. units >>= λ u. give (events.Hold l w u)) (HasLink network) (IsOfNetwork network) (link_is_there network ws)
    (λ l left there. with_any (way left) (λ w. units >>= λ u. give (events.Hold l w u)) (IsOfNetwork network)
    (λ w more. with_any (units more) (λ u. give (events.Hold l w u)) (IsOfNetwork network) (λ u rest. there)))
what_is network Cut ws =
    with_first (link network ws) (λ l. way >>= λ w. give (events.Cut l w)) (HasLink network) (IsOfNetwork network) (link_is_there network ws)
    (λ l left there. with_any (way left) (λ w. give (events.Cut l w)) (IsOfNetwork network) (λ w rest. there))
what_is network Heal ws =
    with_first (link network ws) (λ l. way >>= λ w. give (events.Heal l w)) (HasLink network) (IsOfNetwork network) (link_is_there network ws)
    (λ l left there. with_any (way left) (λ w. give (events.Heal l w)) (IsOfNetwork network) (λ w rest. there))
what_is network On ws =
    with_first (device network ws) (λ d. give (events.On d)) (HasDevice network) (IsOfNetwork network) (device_is_there network ws) (λ d left there. there)
what_is network Break ws =
    with_first (device network ws) (λ d. give (events.Break d)) (HasDevice network) (IsOfNetwork network) (device_is_there network ws) (λ d left there. there)
what_is network Send ws =
    with_first (link network ws) (λ l. octets >>= λ o. give (events.Send l o)) (HasLink network) (IsOfNetwork network) (link_is_there network ws)
    (λ l left there. with_any (octets left) (λ o. give (events.Send l o)) (IsOfNetwork network) (λ o rest. there))
what_is network End ws = tt

abbrev event_made : Units → What → Event
event_made time what = record { time = time; what = what }

event_is : (network : Network) (ws : Words) → Gives (event_reader network ws) (λ e. IsOfNetwork network e.what)
unfolding event_reader
event_is network ws =
    let Q = λ (e : Event). IsOfNetwork network e.what in
    with_any (units ws) (λ time. event_word >>= λ word. what_behind network word >>= λ what. line_end >>= λ end. give (event_made time what)) Q
    (λ time left. with_any (event_word left) (λ word. what_behind network word >>= λ what. line_end >>= λ end. give (event_made time what)) Q
    (λ word left. with_first (what_behind network word left) (λ what. line_end >>= λ end. give (event_made time what)) (IsOfNetwork network) Q
    (what_is network word left)
    (λ what left own. with_any (line_end left) (λ end. give (event_made time what)) Q (λ end left. own))))

-- a line's event is of the network
pub read_of_network : (network : Network) (text : List ℕ) (event : Event) → event_read network text ≡ Ok event → IsOfNetwork network event.what
unfolding event_read
read_of_network network text event e =
    from_outcome (λ d. IsOfNetwork network d.what) (event_reader network (words text)) event
    (event_is network (words text)) e

-- ---- when a text is the decimal of a number

own : IsNumeralModel (AllDigits 10) (digits_value 10)
own = numerals_by_value (AllDigits 10) tells_digits

-- the text is the decimal of its value, which is at most this
record IsDecimal (most : ℕ) (text : List ℕ) : Type 0 where
  same : text ≡ decimal (digits_value 10 text)
  within : digits_value 10 text ≤ most

number_yes : (most : ℕ) (text : List ℕ) → IsDecimal most text → number_up_to most text ≡ Some (digits_value 10 text)
number_yes most text h =
    let n = digits_value 10 text in
    let same : bytes_eq text (decimal n) ≡ true = (bytes_decides text (decimal n)).1 h.same in
    let within : nat_le n most ≡ true = grind (arith, nat_tests, h.within) in
    rw (same, within) refl

no_number : (most : ℕ) (text : List ℕ) (b : Bool) → (bytes_eq text (decimal (digits_value 10 text)) && nat_le (digits_value 10 text) most) ≡ b
    → ¬ (IsDecimal most text) → cond b (Some (digits_value 10 text)) None ≡ None
no_number most text false e differs = refl
no_number most text true e differs =
    let parts = and_parts (bytes_eq text (decimal (digits_value 10 text))) (nat_le (digits_value 10 text) most) e in
    absurd (differs (record { same = (bytes_decides text (decimal (digits_value 10 text))).0 parts.0; within = grind (arith, nat_tests, parts.1) }))

number_no : (most : ℕ) (text : List ℕ) → ¬ (IsDecimal most text) → number_up_to most text ≡ None
number_no most text differs = no_number most text (bytes_eq text (decimal (digits_value 10 text)) && nat_le (digits_value 10 text) most) refl differs

-- a decimal has digits only
decimal_digits : (most : ℕ) (text : List ℕ) → most ≤ 2 ^ 60 → IsDecimal most text → AllDigits 10 text
decimal_digits most text bound h = subst (AllDigits 10) (sym h.same) ((decimal_is_IsNumeral (digits_value 10 text) (omega (arith, h.within))).0).1

-- no digits are no decimal
pub number_empty : (most : ℕ) (text : List ℕ) → length text ≡ 0 → number_up_to most text ≡ None
number_empty most (x ∷ xs) none = absurd (omega arith)
number_empty most [] none = number_no most [] (λ h. let e = decimal_nonempty 0 (omega arith) in
    omega (arith, ap length h.same))

zero_or_more : (n : ℕ) → n < 2 ^ 64 → get_or (decimal n) 0 0 ≡ 48 → length (decimal n) ≡ 1
zero_or_more zero bound e = ap length (decimal_digit 0 (omega arith))
zero_or_more (suc n) bound e = absurd (omega (arith, first_decimal (suc n) (omega arith) bound))

-- a leading zero is the whole of a decimal
pub number_leading_zero : (most : ℕ) (text : List ℕ) → most ≤ 2 ^ 60 → get_or text 0 0 ≡ 48 → 1 < length text → number_up_to most text ≡ None
number_leading_zero most text bound leading longer =
    number_no most text (λ h.
    let n = digits_value 10 text in
    let here : get_or (decimal n) 0 0 ≡ 48 = rw (sym h.same) leading in
    let one = zero_or_more n (omega (arith, h.within)) here in
    omega (arith, ap length h.same))

-- the value of digits without a leading zero
pub number_of_digits : (most : ℕ) (text : List ℕ) (found : Option ℕ) → most ≤ 2 ^ 60 → 0 < length text → (get_or text 0 0 ≡ 48 → length text ≡ 1)
    → SomeIff found (AllDigits 10 text × (digits_value 10 text ≤ most)) (digits_value 10 text) → found ≡ number_up_to most text
number_of_digits most text None bound some plain h = sym (number_no most text (λ d. h (decimal_digits most text bound d, d.within)))
number_of_digits most text (Some n) bound some plain h =
    rw h.1 (sym (number_yes most text (record {
      same = sym (decimal-digits_value own text h.0.0 some plain (omega (arith, h.0.1)));
      within = h.0.1;
    })))

-- a decimal reads back
number_of_decimal : (most n : ℕ) → most ≤ 2 ^ 60 → n ≤ most → number_up_to most (decimal n) ≡ Some n
number_of_decimal most n bound within =
    let value : digits_value 10 (decimal n) ≡ n = (decimal_is_IsNumeral n (omega arith)).1 in
    number_yes most (decimal n) (record { same = ap decimal (sym value); within = omega arith }) ∙ (rw value)

-- a digit's value
pub digit_shows : (c : ℕ) → is_ascii_digit c ≡ true → digit_value c < 10
digit_shows c h = grind (arith, nat_tests)

pub digit_spells : (c : ℕ) → is_ascii_digit c ≡ true → digit_value c ≡ c - 48
digit_spells c h = grind (arith, nat_tests)

-- digits pass the test of each
pub digits_pass : (text : List ℕ) (i : ℕ) → AllDigits 10 text → i < length text → is_ascii_digit (get_or text i 0) ≡ true
digits_pass text i all below =
    let range = digit_at text i all below in
    grind (arith, nat_tests)

-- ---- words that are printed read back

-- a time is written and read

time_spelled : (z : ℤ) → pos 0 ≤ℤ z → z ≤ℤ pos latest → units_spelled (signed_decimal z) ≡ Some (record { 0 = z })
time_spelled (pos n) least most = ap (option_map units_of)
    (number_of_decimal latest n (omega arith) (omega (arith, ints)))
time_spelled (negsuc n) least most = absurd (omega (arith, ints))

pub units_back : (time : Units) (left : Words) → IsTime time → units (signed_decimal time.0 ∷ left) ≡ Ok (time, left)
unfolding units
units_back time left h = rw (time_spelled time.0 h.least h.most)

signed_is_word : (z : ℤ) → neg_ℤ (pos (2 ^ 60)) ≤ℤ z → z ≤ℤ pos (2 ^ 60) → IsWord (signed_decimal z)
signed_is_word (pos n) least most = decimal_is_word n (omega (arith, ints))
signed_is_word (negsuc n) least most = All-cons (λ c. is_space c ≡ false) 45 (decimal (suc n)) refl
    (decimal_is_word (suc n) (omega (arith, ints)))

pub time_is_word : (time : Units) → IsTime time → IsWord (signed_decimal time.0)
time_is_word time h = signed_is_word time.0 (omega (arith, ints, h.least)) (omega (arith, ints, h.most))

-- a rate is written and read

rate_of_digits : (text : List ℕ) → AllDigits 10 text → 0 < length text → rate_spelled text ≡ option_map (λ n. ppb_of (pos n)) (number_up_to fastest text)
rate_of_digits [] digits some = absurd (omega arith)
rate_of_digits (first ∷ rest) digits some =
    let plain : first ≢ 45 = λ e. absurd (grind (arith, nat_tests, digits.0)) in
    grind (arith, nat_tests)

-- a rate below 0 has a sign
pub minus_some : (n : ℕ) → minus (suc n) ≡ Some (ppb_of (negsuc n))
minus_some n =
    let some : (suc n == 0) ≡ false = grind (arith, nat_tests) in
    rw some refl

rate_read : (z : ℤ) → neg_ℤ (pos fastest) ≤ℤ z → z ≤ℤ pos fastest → rate_spelled (signed_decimal z) ≡ Some (ppb_of z)
rate_read (pos n) least most =
    let numeral = (decimal_is_IsNumeral n (omega (arith, ints))).0 in
    rate_of_digits (decimal n) numeral.1 numeral.0
    ∙ ap (option_map (λ m. ppb_of (pos m))) (number_of_decimal fastest n (omega arith) (omega (arith, ints)))
rate_read (negsuc n) least most = ap (option_and_then minus)
    (number_of_decimal fastest (suc n) (omega arith) (omega (arith, ints))) ∙ minus_some n

pub rate_back : (r : Ppb) (left : Words) → IsRate r → rate (signed_decimal r.0 ∷ left) ≡ Ok (r, left)
unfolding rate
rate_back r left h = rw (rate_read r.0 h.least h.most)

pub rate_is_word : (r : Ppb) → IsRate r → IsWord (signed_decimal r.0)
rate_is_word r h = signed_is_word r.0 (omega (arith, ints, h.least)) (omega (arith, ints, h.most))

-- a name is written and read

-- a thing whose name none before it has is the first bearer of its name
pub first_bearer : {X : Type 0} (f : X → List ℕ) (xs : List X) (i : ℕ) (x : X) → slice_get xs i ≡ Some x
    → ((k : ℕ) (earlier thing : X) → k < i → slice_get xs k ≡ Some earlier → slice_get xs i ≡ Some thing → f thing ≢ f earlier)
    → IsFirstBearer (map f xs) (f x) i
first_bearer f xs i x here new = record {
  bears = slice_get-map f xs i ∙ ap (option_map f) here;
  first = λ k lt e. let b = behind f xs k (f x) e in new k b.0 x lt b.1 here (sym b.2);
}

pub device_read : (network : Network) (d : DeviceId) → ((i : ℕ) → DeviceIsNew network i) → HasDevice network d
    → device_spelled network (device_name network d) ≡ Some d
unfolding device_spelled
device_read network d new of_network =
    let f = λ (x : Device). x.name in
    let at = some_at network.device d.0 of_network in
    let first = first_bearer f network.device d.0 at.0 at.1 (λ k earlier thing lt e here. (new d.0 k earlier thing lt e here).0) in
    rw at.1 (ap (option_map device_id) (place_found (map f network.device) at.0.name d.0 first))

pub device_back : (network : Network) (d : DeviceId) (left : Words) → ((i : ℕ) → DeviceIsNew network i) → HasDevice network d
    → device network (device_name network d ∷ left) ≡ Ok (d, left)
unfolding device
device_back network d left new of_network = rw (device_read network d new of_network)

pub link_read : (network : Network) (l : LinkId) → ((i : ℕ) → LinkIsNew network i) → HasLink network l → link_spelled network (link_name network l) ≡ Some l
unfolding link_spelled
link_read network l new of_network =
    let f = λ (x : Link). x.name in
    let at = some_at network.link l.0 of_network in
    let first = first_bearer f network.link l.0 at.0 at.1 (λ k earlier thing lt e here. new l.0 k earlier thing lt e here) in
    rw at.1 (ap (option_map link_id) (place_found (map f network.link) at.0.name l.0 first))

pub link_back : (network : Network) (l : LinkId) (left : Words) → ((i : ℕ) → LinkIsNew network i) → HasLink network l
    → link network (link_name network l ∷ left) ≡ Ok (l, left)
unfolding link
link_back network l left new of_network = rw (link_read network l new of_network)

pub in_list : {X : Type 0} (P : X → Type 0) (xs : List X) (i : ℕ) (x : X) → slice_get xs i ≡ Some x → All P xs → P x
in_list P xs i x here all = subst P (get_or_from_slice_get xs i x x here) (all i x (slice_get_within xs i x here))

pub device_is_word : (network : Network) (d : DeviceId) → IsInRange network → HasDevice network d → IsWord (device_name network d)
device_is_word network d h of_network =
    let at = some_at network.device d.0 of_network in
    rw at.1 (name_is_word at.0.name (in_list IsDeviceInRange network.device d.0 at.0 at.1 h.devices).name)

pub link_is_word : (network : Network) (l : LinkId) → IsInRange network → HasLink network l → IsWord (link_name network l)
link_is_word network l h of_network =
    let at = some_at network.link l.0 of_network in
    rw at.1 (name_is_word at.0.name (in_list (IsLinkInRange network) network.link l.0 at.0 at.1 h.links).name)

-- the words of ways and events

way_read : (w : Way) → way_spelled (way_text w) ≡ Some w
unfolding way_spelled
way_read Up = refl
way_read Down = refl

pub way_back : (w : Way) (left : Words) → way (way_text w ∷ left) ≡ Ok (w, left)
unfolding way
way_back w left = rw (way_read w)

event_word_read : (w : EventWord) → event_word_spelled (event_word_text w) ≡ Some w
unfolding event_word_spelled
event_word_read Rate = refl
event_word_read Wire = refl
event_word_read Hold = refl
event_word_read Cut = refl
event_word_read Heal = refl
event_word_read On = refl
event_word_read Break = refl
event_word_read Send = refl
event_word_read End = refl

pub event_word_back : (w : EventWord) (left : Words) → event_word (event_word_text w ∷ left) ≡ Ok (w, left)
unfolding event_word
event_word_back w left = rw (event_word_read w)

-- the octets of a frame

frame_read : (octets : List ℕ) → IsFrame octets → frame_of (Ok octets) ≡ Ok octets
frame_read octets h = grind (arith, nat_tests, h.least, h.most)

octets_read : (octets : List ℕ) → IsFrame octets → octets_spelled (encode_lower octets) ≡ Ok octets
unfolding octets_spelled
octets_read octets h = ap frame_of (decode_of-encode_lower octets h.bytes) ∙ frame_read octets h

pub octets_back : (o : List ℕ) (left : Words) → IsFrame o → octets (encode_lower o ∷ left) ≡ Ok (o, left)
unfolding octets
octets_back o left h = rw (octets_read o h)
