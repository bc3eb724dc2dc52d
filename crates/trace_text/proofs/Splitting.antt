-- The words that a text is split into, also one that words were joined to.
use Rattle.std.proofs.Common
use Common.{◌%◌, ◌+◌, ◌/◌, ◌<◌, ◌∙◌, ◌∷◌, ◌≡◌, ◌≤◌, Bool, List, MatchOption, None, Option, Some, [], arith, cond, drop}
use Common.{false, length, nat_lt, refl, slice_index, suc, take, true, zero, ℕ}
use Rattle.std.proofs.lemmas.{Bool.{Decides.nat_tests, and_parts, not-true}, Fmt.decimal_is_IsNumeral}
use Rattle.std.proofs.lemmas.List.{Elements.{All-cons, All-from_get_or, All-nil, All-weaker}}
use Rattle.std.proofs.lemmas.List.{Splits.{slice_split_at, slice_split_first, slice_split_none}}
use Rattle.std.proofs.lemmas.List.{Sums.{AllPass-from_list_all, fails_before_first}}
use Rattle.std.specs.{Char.digit_value, List.{join_with_byte, list_all, position_or_len, slice_split}}
use Rattle.std.specs.{Prelude.{◌^◌, All, decimal, not, position, ⊤}, Str.Parse.AllDigits}
use Rattle.hex.specs.Hex.{encode_lower, encode_with, lower_digits}
use Rattle.net_plan.specs.{NameText.{IsNameText, is_name_character}, declared.tables.Way.{TheVariants.{Down, Up}, Way}}
use Rattle.trace_text.specs.{EventWords.{event_word_text, way_text}, Steps.{Words, is_space, space, words}}
use Rattle.trace_text.specs.declared.event_word.EventWord.{EventWord}
use Rattle.trace_text.specs.declared.event_word.EventWord.TheVariants
use TheVariants.{Break, Cut, End, Heal, Hold, On, Rate, Send, Wire}

-- ---- the words of a text that words were joined to

-- no space is in the text
abbrev pub IsWord : List ℕ → Type 0
IsWord text = All (λ c. is_space c ≡ false) text

abbrev pub AreWords : Words → Type 0
AreWords [] = ⊤
AreWords (w ∷ ws) = IsWord w × AreWords ws

pub words_joined : (w : List ℕ) (ws : Words) → IsWord w → AreWords ws → words (join_with_byte space (w ∷ ws)) ≡ w ∷ ws
words_joined w [] h hs = slice_split_none is_space w h
words_joined w (v ∷ vs) h hs =
    slice_split_at is_space w space (join_with_byte space (v ∷ vs)) h refl ∙ (rw (words_joined v vs hs.0 hs.1))

abbrev pub no_space : List ℕ → Bool
no_space text = list_all (λ c. not (is_space c)) text

pub word_from_test : (text : List ℕ) → no_space text ≡ true → IsWord text
word_from_test text h =
    All-weaker (λ c. not (is_space c) ≡ true) (λ c. is_space c ≡ false) (λ c q. not-true (is_space c) q) text
    (AllPass-from_list_all (λ c. not (is_space c)) text h)

pub event_word_is_word : (word : EventWord) → IsWord (event_word_text word)
event_word_is_word Rate = word_from_test (event_word_text Rate) refl
event_word_is_word Wire = word_from_test (event_word_text Wire) refl
event_word_is_word Hold = word_from_test (event_word_text Hold) refl
event_word_is_word Cut = word_from_test (event_word_text Cut) refl
event_word_is_word Heal = word_from_test (event_word_text Heal) refl
event_word_is_word On = word_from_test (event_word_text On) refl
event_word_is_word Break = word_from_test (event_word_text Break) refl
event_word_is_word Send = word_from_test (event_word_text Send) refl
event_word_is_word End = word_from_test (event_word_text End) refl

pub way_is_word : (way : Way) → IsWord (way_text way)
way_is_word Up = word_from_test (way_text Up) refl
way_is_word Down = word_from_test (way_text Down) refl

name_character : (c : ℕ) → is_name_character c ≡ true → is_space c ≡ false
name_character c h = grind (arith, nat_tests)

pub name_is_word : (text : List ℕ) → IsNameText text → IsWord text
name_is_word text h =
    All-weaker (λ c. is_name_character c ≡ true) (λ c. is_space c ≡ false) name_character text (AllPass-from_list_all is_name_character text h.plain)

digit_character : (c : ℕ) → digit_value c < 10 → is_space c ≡ false
digit_character c h = grind (arith, nat_tests)

digits_are_word : (text : List ℕ) → AllDigits 10 text → IsWord text
digits_are_word [] h = All-nil (λ c. is_space c ≡ false)
digits_are_word (c ∷ cs) h = All-cons (λ c. is_space c ≡ false) c cs (digit_character c h.0) (digits_are_word cs h.1)

pub decimal_is_word : (n : ℕ) → n < 2 ^ 64 → IsWord (decimal n)
decimal_is_word n h = digits_are_word (decimal n) ((decimal_is_IsNumeral n h).0).1

-- at each place of such a table, and beyond it
table_character : (t : List ℕ) (i : ℕ) → no_space t ≡ true → is_space (slice_index t i) ≡ false
table_character [] i h = refl
table_character (c ∷ cs) zero h = not-true (is_space c) (and_parts (not (is_space c)) (no_space cs) h).0
table_character (c ∷ cs) (suc i) h = table_character cs i (and_parts (not (is_space c)) (no_space cs) h).1

encoded_is_word : (t octets : List ℕ) → no_space t ≡ true → IsWord (encode_with t octets)
unfolding encode_with
encoded_is_word t [] h = All-nil (λ c. is_space c ≡ false)
encoded_is_word t (b ∷ rest) h =
    let P = λ (c : ℕ). is_space c ≡ false in
    All-cons P (slice_index t (b / 16)) (slice_index t (b % 16) ∷ encode_with t rest) (table_character t (b / 16) h)
    (All-cons P (slice_index t (b % 16)) (encode_with t rest) (table_character t (b % 16) h) (encoded_is_word t rest h))

pub hex_is_word : (octets : List ℕ) → IsWord (encode_lower octets)
hex_is_word octets = encoded_is_word lower_digits octets refl

-- ---- the words of a text

-- what stands at the first place that passes, if there is one, parts a list
abbrev pub PartedAt : (ℕ → Bool) → List ℕ → Option ℕ → Type 0
PartedAt p xs found = MatchOption found (slice_split p xs ≡ xs ∷ []) (λ i. slice_split p xs ≡ take i xs ∷ slice_split p (drop (i + 1) xs))

parted_case : (p : ℕ → Bool) (xs : List ℕ) (b : Bool) → nat_lt (position_or_len p xs) (length xs) ≡ b
    → PartedAt p xs (cond b (Some (position_or_len p xs)) None)
parted_case p xs true e = slice_split_first p xs 0 (grind (arith, nat_tests))
parted_case p xs false e =
    let none : length xs ≤ position_or_len p xs = grind (arith, nat_tests) in
    slice_split_none p xs (All-from_get_or (λ x. p x ≡ false) xs 0 (λ i h. fails_before_first p xs i 0 (omega arith)))

pub parted : (p : ℕ → Bool) (xs : List ℕ) → PartedAt p xs (position p xs)
parted p xs = parted_case p xs (nat_lt (position_or_len p xs) (length xs)) refl

pub words_parted : (text : List ℕ) (i : ℕ) → position is_space text ≡ Some i → words text ≡ take i text ∷ words (drop (i + 1) text)
words_parted text i e = let h = parted is_space text in rw e at h

pub words_whole : (text : List ℕ) → position is_space text ≡ None → words text ≡ text ∷ []
words_whole text e = let h = parted is_space text in rw e at h
