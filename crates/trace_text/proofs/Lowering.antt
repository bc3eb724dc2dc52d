-- What words that are read spell, in lower case, and octets by their digits.
use Rattle.std.proofs.Common
use Common.{◌%◌, ◌*◌, ◌+◌, ◌/◌, ◌<◌, ◌^◌, ◌∙◌, ◌∷◌, ◌≡◌, ◌≤◌, ◌⊎◌, Bool, Err, List, None, Ok, Option, Some, [], ap}
use Common.{arith, cond, drop, inl, inr, length, map, refl, slice_index, slice_set, suc, sym, take, zero, ℕ}
use Rattle.std.proofs.lemmas.{Bool.{Decides.nat_tests, and_parts, cases_lt, eqb-true}, Fmt.decimal_is_IsNumeral}
use Rattle.std.proofs.lemmas.{List.{Elements.{All-head, All-tail}, Sums.AllPass-from_list_all}}
use Rattle.std.specs.{Char.{digit_char, digit_value, to_ascii_lowercase}, Cmp.Lexicographic.bytes_decides}
use Rattle.std.specs.{Fmt.signed_decimal, List.{AllPass, position_from}}
use Rattle.std.specs.{Option.{ok_or, option_and_then, option_map, option_map_or}, Result.result_unwrap_or}
use Rattle.std.specs.{Str.{Parse.{AllDigits, digits_value}, str_to_ascii_lowercase}}
use Rattle.std.specs.Prelude
use Prelude.{◌&&◌, ◌==◌, All, IfSome, IsFalse, IsTrue, MatchResult, Result, bytes_eq, decimal, false, nat_le, nat_lt}
use Prelude.{pos, slice_get, true, unwrap_or}
use Rattle.hex.proofs.{HexLemmas.{decode_of-digits, decode_of-even, decode_of-ok}}
use Rattle.hex.proofs.{Pairs.{decode_done, decode_err, decode_step, prepend}}
use Rattle.hex.specs.{declared.error.FromHexError.FromHexError}
use Rattle.hex.specs.Hex.{◌>>=◌, decode_of, decode_pairs, digit_or_error, encode_lower, encode_with, hex_digit_value}
use Rattle.hex.specs.Hex.{is_hex_digit, lower_digits, pair_value, value_at}
use Rattle.net_plan.{proofs.Bearing.behind}
use Rattle.net_plan.specs.{Bearers.{device_names, link_names}, Belonging.{device_name, link_name}}
use Rattle.net_plan.specs.{NameText.{IsNameText, is_name_character}, Ranges.{IsDeviceInRange, IsInRange, IsLinkInRange}}
use Rattle.net_plan.specs.declared.{ids.{DeviceId.DeviceId, LinkId.LinkId}, network.Network.Network}
use Rattle.net_plan.specs.declared.{tables.Way.{TheVariants.{Down, Up}, Way}}
use Rattle.trace_text.{proofs.WordsBack.{in_list, minus_some}}
use Rattle.trace_text.specs.{EventWords.{event_word_spelled, event_word_text, event_words, way_spelled, way_text}}
use Rattle.trace_text.specs.{Names.{device_id, device_spelled, first_place, link_id, link_spelled}}
use Rattle.trace_text.specs.{Numbers.{fastest, latest, minus, number_up_to, ppb_of, rate_spelled, units_spelled}}
use Rattle.trace_text.specs.{Steps.{Read, Words, next_word, with_rest}}
use Rattle.trace_text.specs.WordReading
use WordReading.{device, digit_number, event_word, frame_of, link, octets, octets_spelled, rate, units, way}
use Rattle.trace_text.specs.declared.{refusal.LineRefusal.{LineRefusal, TheVariants.{Form, Hex, Name, Number, Octets}}}
use Rattle.trace_text.specs.declared.event_word.EventWord.{EventWord}
use Rattle.trace_text.specs.declared.event_word.EventWord.TheVariants
use TheVariants.{Break, Cut, End, Heal, Hold, On, Rate, Send, Wire}
use Rattle.tte_units.{proofs.general_lemmas.{Lists.found_passes, Options.mapped}}
use Rattle.tte_units.{specs.{Amount.units_of, declared.{rates.Ppb.Ppb, units.Units.Units}}}

-- ---- two digits at a time become an octet, or one that is none spoils the text

small_value : (c : ℕ) (o : Option ℕ) → hex_digit_value c ≡ o → IfSome o (λ v. v < 16)
small_value c None e = tt
small_value c (Some v) e = grind arith

-- what two digits are, by what each of them is
abbrev pair_of : ℕ → ℕ → ℕ → Option ℕ → Option ℕ → Result ℕ FromHexError
pair_of high low i h l = digit_or_error high i h >>= (λ x. digit_or_error low (i + 1) l >>= (λ y. Ok (x * 16 + y)))

good_pair : (a b i : ℕ) (h l : Option ℕ) → unwrap_or h 16 < 16 → unwrap_or l 16 < 16 → pair_of a b i h l ≡ Ok (unwrap_or h 16 * 16 + unwrap_or l 16)
good_pair a b i None l high low = absurd (omega arith)
good_pair a b i (Some x) None high low = absurd (omega arith)
good_pair a b i (Some x) (Some y) high low = refl

bad_pair : (a b i : ℕ) (h l : Option ℕ) → IfSome h (λ v. v < 16) → IfSome l (λ v. v < 16)
    → (16 ≤ unwrap_or h 16) ⊎ (16 ≤ unwrap_or l 16) → (e : FromHexError) × (pair_of a b i h l ≡ Err e)
bad_pair a b i None l hs ls bad = (_, refl)
bad_pair a b i (Some x) None hs ls bad = (_, refl)
bad_pair a b i (Some x) (Some y) hs ls (inl bad) = absurd (omega arith)
bad_pair a b i (Some x) (Some y) hs ls (inr bad) = absurd (omega arith)

-- the octets before this place are read
abbrev pub IsRead : List ℕ → List ℕ → ℕ → Type 0
IsRead text octets i = decode_pairs 0 text ≡ prepend (take i octets) (decode_pairs (2 * i) (drop (2 * i) text))

-- some octet of the text is no digit
abbrev pub IsSpoilt : List ℕ → Type 0
IsSpoilt text = (e : FromHexError) × (decode_pairs 0 text ≡ Err e)

-- two more digits are read
pub read_more : (text octets : List ℕ) (i v : ℕ) → 2 * i + 1 < length text → i < length octets
    → digit_number (slice_index text (2 * i)) < 16 → digit_number (slice_index text (2 * i + 1)) < 16
    → v ≡ digit_number (slice_index text (2 * i)) * 16 + digit_number (slice_index text (2 * i + 1))
    → IsRead text octets i → IsRead text (slice_set octets i v) (i + 1)
read_more text octets i v fits room high low value read =
    let a = slice_index text (2 * i) in
    let b = slice_index text (2 * i + 1) in
    decode_step text octets i v fits room (good_pair a b (2 * i) (hex_digit_value a) (hex_digit_value b) high low ∙ ap Ok (sym value)) read

-- one of the next two is no digit
pub spoilt_here : (text octets : List ℕ) (i : ℕ) → 2 * i + 1 < length text
    → (16 ≤ digit_number (slice_index text (2 * i))) ⊎ (16 ≤ digit_number (slice_index text (2 * i + 1))) → IsRead text octets i → IsSpoilt text
spoilt_here text octets i fits bad read =
    let a = slice_index text (2 * i) in
    let b = slice_index text (2 * i + 1) in
    let is = bad_pair a b (2 * i) (hex_digit_value a) (hex_digit_value b) (small_value a (hex_digit_value a) refl) (small_value b (hex_digit_value b) refl)
    bad in
    (is.0, decode_err text octets i is.0 fits is.1 read)

-- what is known of the octets before a place, by the greatest number of a digit
pub record Deciphers (text octets : List ℕ) (i greatest : ℕ) : Type 0 where
  pub read : greatest < 16 → IsRead text octets i
  pub spoilt : 16 ≤ greatest → IsSpoilt text

-- one octet more, of two digits with these numbers
pub decipher_more : (text octets : List ℕ) (i greatest h l next : ℕ) → 2 * i + 1 < length text → i < length octets
    → h ≡ digit_number (slice_index text (2 * i)) → l ≡ digit_number (slice_index text (2 * i + 1))
    → (next < 16 → (greatest < 16) × (h < 16) × (l < 16)) → (16 ≤ next → (16 ≤ greatest) ⊎ ((16 ≤ h) ⊎ (16 ≤ l)))
    → Deciphers text octets i greatest → Deciphers text (slice_set octets i ((h * 16 % 256 + l) % 256)) (i + 1) next
decipher_more text octets i greatest h l next fits room eh el low high known = record {
  read = λ few.
      let parts = low few in
      read_more text octets i ((h * 16 % 256 + l) % 256) fits room (omega (arith, parts.1)) (omega (arith, parts.2))
      (omega (arith, parts.1, parts.2)) (known.read parts.0);
  spoilt = λ many.
      elim (cases_lt greatest 16) [
        | inl good ↦
            elim (high many) [
              | inl bad ↦ absurd (omega arith)
              | inr bad ↦ spoilt_here text octets i fits (elim bad [
                | inl b ↦ inl (omega arith)
                | inr b ↦
                    inr (omega arith)
              ])
                  (known.read good)
            ]
        | inr bad ↦ known.spoilt bad
      ];
}

-- at the end all are read, or one was no digit
pub deciphered : (text octets : List ℕ) (i greatest : ℕ) → length text ≡ 2 * length octets → length octets ≤ i
    → (greatest < 16 → IsRead text octets i) → (16 ≤ greatest → IsSpoilt text)
    → MatchResult (decode_of text) (λ decoded. IsTrue (nat_lt greatest 16) × (octets ≡ decoded)) (λ e. IsFalse (nat_lt greatest 16))
deciphered text octets i greatest size all read spoilt =
    let whole = decode_of-even text (omega arith) in
    elim (cases_lt greatest 16) [
      | inl low ↦
          let yes : nat_lt greatest 16 ≡ true = grind (arith, nat_tests) in
          let done = whole ∙ decode_done text octets i all (omega arith) (read low) in
          rw (done, yes) (refl, refl)
      | inr high ↦
          let no : nat_lt greatest 16 ≡ false = grind (arith, nat_tests) in
          let fault = spoilt high in
          rw (whole ∙ fault.1, no) refl
    ]

-- ---- what words that are read spell, in lower case, and which digits are no frame's

-- ---- texts that are no frame's

-- digits of either case, an even number of them
abbrev pub IsHexadecimal : List ℕ → Type 0
IsHexadecimal text = (length text % 2 ≡ 0) × AllPass is_hex_digit text

miscounted : (octets : List ℕ) → (length octets < 60) ⊎ (1514 < length octets) → frame_of (Ok octets) ≡ Err Octets
miscounted octets (inl few) = grind (arith, nat_tests)
miscounted octets (inr many) = grind (arith, nat_tests)

pub miscounted_digits : (text : List ℕ) → IsHexadecimal text → (length text / 2 < 60) ⊎ (1514 < length text / 2) → octets_spelled text ≡ Err Octets
unfolding octets_spelled
miscounted_digits text h count =
    let d = decode_of-digits text h.0 h.1 in
    let twice = (decode_of-ok text d.0 d.1).2 in
    let half : length text / 2 ≡ length d.0 = omega arith in
    ap frame_of d.1 ∙ miscounted d.0 (rw half at count)

wrong_case : (text : List ℕ) (r : Result (List ℕ) FromHexError) → decode_of text ≡ r → ¬ (IsHexadecimal text) → frame_of r ≡ Err Hex
wrong_case text (Ok octets) e wrong = let d = decode_of-ok text octets e in absurd (wrong (d.0, d.1))
wrong_case text (Err fault) e wrong = refl

pub wrong_digits : (text : List ℕ) → ¬ (IsHexadecimal text) → octets_spelled text ≡ Err Hex
unfolding octets_spelled
wrong_digits text wrong = wrong_case text (decode_of text) refl wrong

-- ---- what words that are read spell, in lower case

-- a text in lower case
abbrev pub lower : List ℕ → List ℕ
lower text = str_to_ascii_lowercase text

abbrev pub lower_words : Words → Words
lower_words ws = map lower ws

-- the text has no capital letter
abbrev IsLower : List ℕ → Type 0
IsLower text = lower text ≡ text

lower_cons : (c : ℕ) (cs : List ℕ) → to_ascii_lowercase c ≡ c → IsLower cs → IsLower (c ∷ cs)
lower_cons c cs h t = rw h ((rw t))

lower_digit : (c : ℕ) → digit_value c < 10 → to_ascii_lowercase c ≡ c
lower_digit c h = grind (arith, nat_tests)

digits_are_lower : (text : List ℕ) → AllDigits 10 text → IsLower text
digits_are_lower [] h = refl
digits_are_lower (c ∷ cs) h = lower_cons c cs (lower_digit c h.0) (digits_are_lower cs h.1)

decimal_is_lower : (n : ℕ) → n < 2 ^ 64 → IsLower (decimal n)
decimal_is_lower n h = digits_are_lower (decimal n) ((decimal_is_IsNumeral n h).0).1

lower_character : (c : ℕ) → is_name_character c ≡ true → to_ascii_lowercase c ≡ c
lower_character c h = grind (arith, nat_tests)

characters_are_lower : (text : List ℕ) → All (λ c. is_name_character c ≡ true) text → IsLower text
characters_are_lower [] h = refl
characters_are_lower (c ∷ cs) h =
    let P = λ (x : ℕ). is_name_character x ≡ true in
    lower_cons c cs (lower_character c (All-head P c cs h)) (characters_are_lower cs (All-tail P c cs h))

name_is_lower : (text : List ℕ) → IsNameText text → IsLower text
name_is_lower text h = characters_are_lower text (AllPass-from_list_all is_name_character text h.plain)

-- what is read of one word

record Bound {A : Type 0} (r : Read A) (rest left : Words) (x : A) : Type 0 where
  read : r ≡ Ok x
  same : rest ≡ left

bound : {A : Type 0} (r : Read A) (rest left : Words) (x : A) → with_rest rest r ≡ Ok (x, left) → Bound r rest left x
bound {A} (Ok y) rest left x e =
    let same : (y, rest) ≡ (x, left) = ap (λ p. result_unwrap_or p (y, rest)) e in
    record { read = ap (λ p. Ok p.0) same; same = ap (λ p. p.1) same }
bound (Err fault) rest left x e = absurd (cc e)

word_forth : {A : Type 0} (meaning : List ℕ → Read A) (printed : A → List ℕ) → ((text : List ℕ) (x : A) → meaning text ≡ Ok x → printed x ≡ lower text)
    → (ws : Words) (x : A) (left : Words) → next_word meaning ws ≡ Ok (x, left) → lower_words ws ≡ printed x ∷ lower_words left
word_forth meaning printed spells [] x left e = absurd (cc e)
word_forth meaning printed spells (w ∷ rest) x left e =
    let b = bound (meaning w) rest left x e in
    rw (sym (spells w x b.read)) ((rw b.same))

meant : {A : Type 0} (o : Option A) (fault : LineRefusal) (x : A) → ok_or o fault ≡ Ok x → o ≡ Some x
meant (Some y) fault x e = cc e
meant None fault x e = absurd (cc e)

-- numbers

number_case : (n : ℕ) (text : List ℕ) (most k : ℕ) (b : Bool) → (bytes_eq text (decimal n) && nat_le n most) ≡ b → cond b (Some n) None ≡ Some k → (k ≡ n)
    × (text ≡ decimal n) × (n ≤ most)
number_case n text most k true test e =
    let parts = and_parts (bytes_eq text (decimal n)) (nat_le n most) test in
    (cc e, (bytes_decides text (decimal n)).0 parts.0, grind (arith, nat_tests, parts.1))
number_case n text most k false test e = absurd (cc e)

number_forth : (most : ℕ) (text : List ℕ) (n : ℕ) → most ≤ 2 ^ 60 → number_up_to most text ≡ Some n → decimal n ≡ lower text
number_forth most text n bound e =
    let m = digits_value 10 text in
    let h = number_case m text most n (bytes_eq text (decimal m) && nat_le m most) refl e in
    sym (decimal_is_lower n (omega (arith, h.0, h.2))) ∙ ap lower (ap decimal h.0 ∙ sym h.1)

units_text : (text : List ℕ) (u : Units) → ok_or (units_spelled text) Number ≡ Ok u → signed_decimal u.0 ≡ lower text
units_text text u e =
    let m = mapped units_of (number_up_to latest text) u (meant (units_spelled text) Number u e) in
    rw (sym m.2) (number_forth latest text m.0 (omega arith) m.1)

pub units_forth : (ws : Words) (u : Units) (left : Words) → units ws ≡ Ok (u, left) → lower_words ws ≡ signed_decimal u.0 ∷ lower_words left
unfolding units
units_forth ws u left e = word_forth (λ text. ok_or (units_spelled text) Number) (λ v. signed_decimal v.0) units_text ws u left e

minus_case : (n : ℕ) (r : Ppb) → minus n ≡ Some r → signed_decimal r.0 ≡ 45 ∷ decimal n
minus_case zero r e = absurd (cc e)
minus_case (suc n) r e = ap (λ o. signed_decimal (option_map_or (λ p. p.0) o (pos 0))) (sym e ∙ minus_some n)

chained : (o : Option ℕ) (r : Ppb) → option_and_then minus o ≡ Some r → (n : ℕ) × (o ≡ Some n) × (minus n ≡ Some r)
chained (Some n) r e = (n, refl, e)
chained None r e = absurd (cc e)

rate_case : (first : ℕ) (rest : List ℕ) (r : Ppb) (b : Bool) → (first == 45) ≡ b
    → cond b (option_and_then minus (number_up_to fastest rest)) (option_map (λ n. ppb_of (pos n)) (number_up_to fastest (first ∷ rest))) ≡ Some r
    → signed_decimal r.0 ≡ lower (first ∷ rest)
rate_case first rest r true test e =
    let m = chained (number_up_to fastest rest) r e in
    let sign : 45 ≡ to_ascii_lowercase first = grind (arith, nat_tests) in
    minus_case m.0 r m.2 ∙ (rw (number_forth fastest rest m.0 (omega arith) m.1) ((rw sign)))
rate_case first rest r false test e =
    let m = mapped (λ n. ppb_of (pos n)) (number_up_to fastest (first ∷ rest)) r e in
    rw (sym m.2) (number_forth fastest (first ∷ rest) m.0 (omega arith) m.1)

rate_spells : (text : List ℕ) (r : Ppb) → rate_spelled text ≡ Some r → signed_decimal r.0 ≡ lower text
rate_spells [] r e = absurd (cc e)
rate_spells (first ∷ rest) r e = rate_case first rest r (first == 45) refl e

pub rate_forth : (ws : Words) (r : Ppb) (left : Words) → rate ws ≡ Ok (r, left) → lower_words ws ≡ signed_decimal r.0 ∷ lower_words left
unfolding rate
rate_forth ws r left e =
    word_forth (λ text. ok_or (rate_spelled text) Number) (λ p. signed_decimal p.0) (λ text p q. rate_spells text p (meant (rate_spelled text) Number p q)) ws r
    left e

-- names

place_case : (text name : List ℕ) (names : List (List ℕ)) (s i : ℕ) (b : Bool) → bytes_eq text name ≡ b
    → cond b (Some s) (position_from (bytes_eq text) (s + 1) names) ≡ Some i
    → ((i ≡ s) × (text ≡ name)) ⊎ (position_from (bytes_eq text) (s + 1) names ≡ Some i)
place_case text name names s i true test e = inl (cc e, (bytes_decides text name).0 test)
place_case text name names s i false test e = inr e

found_at : (s : ℕ) (names : List (List ℕ)) (text : List ℕ) (i : ℕ) → position_from (bytes_eq text) s names ≡ Some i → (k : ℕ) × (i ≡ s + k)
    × (slice_get names k ≡ Some text)
found_at s [] text i e = absurd (cc e)
found_at s (name ∷ names) text i e =
    elim (place_case text name names s i (bytes_eq text name) refl e) [
      | inl here ↦ (0, omega (arith, here.0), rw (sym here.1))
      | inr there ↦ let f = found_at (s + 1) names text i there in (suc f.0, omega (arith, f.1), f.2)
    ]

place_bears : (names : List (List ℕ)) (text : List ℕ) (i : ℕ) → first_place names text ≡ Some i → slice_get names i ≡ Some text
place_bears names text i e =
    let f = found_at 0 names text i e in
    let same : f.0 ≡ i = omega (arith, f.1) in
    rw same at f.2

device_spells : (network : Network) → IsInRange network → (text : List ℕ) (d : DeviceId) → device_spelled network text ≡ Some d
    → device_name network d ≡ lower text
unfolding device_spelled
device_spells network n text d e =
    let m = mapped device_id (first_place (device_names network.device) text) d e in
    let b = behind (λ x. x.name) network.device m.0 text (place_bears (device_names network.device) text m.0 m.1) in
    let name : IsNameText b.0.name = (in_list IsDeviceInRange network.device m.0 b.0 b.1 n.devices).name in
    ap (device_name network) (sym m.2) ∙ (rw b.1 (sym (name_is_lower b.0.name name)
    ∙ ap lower b.2))

pub device_forth : (network : Network) → IsInRange network → (ws : Words) (d : DeviceId) (left : Words) → device network ws ≡ Ok (d, left)
    → lower_words ws ≡ device_name network d ∷ lower_words left
unfolding device
device_forth network n ws d left e =
    word_forth (λ text. ok_or (device_spelled network text) Name) (device_name network)
    (λ text x q. device_spells network n text x (meant (device_spelled network text) Name x q)) ws d left e

link_spells : (network : Network) → IsInRange network → (text : List ℕ) (l : LinkId) → link_spelled network text ≡ Some l → link_name network l ≡ lower text
unfolding link_spelled
link_spells network n text l e =
    let m = mapped link_id (first_place (link_names network.link) text) l e in
    let b = behind (λ x. x.name) network.link m.0 text (place_bears (link_names network.link) text m.0 m.1) in
    let name : IsNameText b.0.name = (in_list (IsLinkInRange network) network.link m.0 b.0 b.1 n.links).name in
    ap (link_name network) (sym m.2) ∙ (rw b.1 (sym (name_is_lower b.0.name name)
    ∙ ap lower b.2))

pub link_forth : (network : Network) → IsInRange network → (ws : Words) (l : LinkId) (left : Words) → link network ws ≡ Ok (l, left)
    → lower_words ws ≡ link_name network l ∷ lower_words left
unfolding link
link_forth network n ws l left e =
    word_forth (λ text. ok_or (link_spelled network text) Name) (link_name network)
    (λ text x q. link_spells network n text x (meant (link_spelled network text) Name x q)) ws l left e

-- the words of ways and events

way_is_lower : (w : Way) → IsLower (way_text w)
way_is_lower Up = refl
way_is_lower Down = refl

way_spells : (text : List ℕ) (w : Way) → way_spelled text ≡ Some w → way_text w ≡ lower text
unfolding way_spelled
way_spells text w e =
    let same : way_text w ≡ text = (bytes_decides (way_text w) text).0
    (found_passes (λ v. bytes_eq (way_text v) text) (Up ∷ Down ∷ []) w e) in
    sym (way_is_lower w) ∙ ap lower same

pub way_forth : (ws : Words) (w : Way) (left : Words) → way ws ≡ Ok (w, left) → lower_words ws ≡ way_text w ∷ lower_words left
unfolding way
way_forth ws w left e =
    word_forth (λ text. ok_or (way_spelled text) Form) way_text (λ text x q. way_spells text x (meant (way_spelled text) Form x q)) ws w left e

event_word_is_lower : (w : EventWord) → IsLower (event_word_text w)
event_word_is_lower Rate = refl
event_word_is_lower Wire = refl
event_word_is_lower Hold = refl
event_word_is_lower Cut = refl
event_word_is_lower Heal = refl
event_word_is_lower On = refl
event_word_is_lower Break = refl
event_word_is_lower Send = refl
event_word_is_lower End = refl

event_word_spells : (text : List ℕ) (w : EventWord) → event_word_spelled text ≡ Some w → event_word_text w ≡ lower text
unfolding event_word_spelled
event_word_spells text w e =
    let same : event_word_text w ≡ text = (bytes_decides (event_word_text w) text).0
    (found_passes (λ v. bytes_eq (event_word_text v) text) event_words w e) in
    sym (event_word_is_lower w) ∙ ap lower same

pub event_word_forth : (ws : Words) (w : EventWord) (left : Words) → event_word ws ≡ Ok (w, left) → lower_words ws ≡ event_word_text w ∷ lower_words left
unfolding event_word
event_word_forth ws w left e =
    word_forth (λ text. ok_or (event_word_spelled text) Form) event_word_text (λ text x q. event_word_spells text x (meant (event_word_spelled text) Form x q))
    ws w left e

-- the octets of a frame

abbrev spells_digit : ℕ → Bool
spells_digit v = slice_index lower_digits v == digit_char v

abbrev all_spell : ℕ → Bool
all_spell zero = true
all_spell (suc v) = spells_digit v && all_spell v

spelled_below : (n v : ℕ) → all_spell n ≡ true → v < n → spells_digit v ≡ true
spelled_below zero v h lt = absurd (omega arith)
spelled_below (suc n) v h lt =
    let parts = and_parts (spells_digit n) (all_spell n) h in
    elim (cases_lt v n) [
      | inl below ↦ spelled_below n v parts.1 below
      | inr top ↦ let same : v ≡ n = omega arith in rw same parts.0
    ]

digit_spelled : (v : ℕ) → v < 16 → slice_index lower_digits v ≡ digit_char v
digit_spelled v h = eqb-true (slice_index lower_digits v) (digit_char v) (spelled_below 16 v refl h)

-- a digit's value and its spelling
record IsDigit (c v : ℕ) : Type 0 where
  small : v < 16
  lowered : digit_char v ≡ to_ascii_lowercase c

digit_value_is : (c v : ℕ) → hex_digit_value c ≡ Some v → IsDigit c v
digit_value_is c v h = record { small = grind (arith, nat_tests); lowered = grind (arith, nat_tests) }

digit_read : (c i : ℕ) (o : Option ℕ) (v : ℕ) → digit_or_error c i o ≡ Ok v → o ≡ Some v
digit_read c i (Some w) v h = cc h
digit_read c i None v h = absurd (cc h)

hex_bound : {A B : Type 0} (r : Result A FromHexError) (f : A → Result B FromHexError) (y : B) → (r >>= f) ≡ Ok y → (x : A) × (r ≡ Ok x) × (f x ≡ Ok y)
hex_bound (Ok x) f y h = (x, refl, h)
hex_bound (Err e) f y h = absurd (cc h)

pair_spells : (high low i byte : ℕ) → pair_value high low i ≡ Ok byte → (slice_index lower_digits (byte / 16) ≡ to_ascii_lowercase high)
    × (slice_index lower_digits (byte % 16) ≡ to_ascii_lowercase low)
pair_spells high low i byte e =
    let h = hex_bound (value_at high i) _ byte e in
    let l = hex_bound (value_at low (i + 1)) _ byte h.2 in
    let dh = digit_value_is high h.0 (digit_read high i (hex_digit_value high) h.0 h.1) in
    let dl = digit_value_is low l.0 (digit_read low (i + 1) (hex_digit_value low) l.0 l.1) in
    let sum : h.0 * 16 + l.0 ≡ byte = cc (l.2) in
    let small_high = dh.small in
    let small_low = dl.small in
    let top : byte / 16 ≡ h.0 = omega arith in
    let bottom : byte % 16 ≡ l.0 = omega arith in
    (rw top (digit_spelled h.0 dh.small ∙ dh.lowered), rw bottom (digit_spelled l.0 dl.small ∙ dl.lowered))

pairs_spell : (i : ℕ) (text bytes : List ℕ) → decode_pairs i text ≡ Ok bytes → encode_with lower_digits bytes ≡ lower text
unfolding decode_pairs encode_with
pairs_spell i [] bytes e = let none : [] ≡ bytes = cc e in rw (← none) refl
pairs_spell i (digit ∷ []) bytes e = absurd (cc e)
pairs_spell i (high ∷ low ∷ rest) bytes e =
    let b = hex_bound (pair_value high low i) _ bytes e in
    let r = hex_bound (decode_pairs (i + 2) rest) _ bytes b.2 in
    let whole : b.0 ∷ r.0 ≡ bytes = cc (r.2) in
    let pair = pair_spells high low i b.0 b.1 in
    rw (← whole) (ap (λ c. c ∷ slice_index lower_digits (b.0 % 16) ∷ encode_with lower_digits r.0) pair.0
    ∙ (rw pair.1
    ((rw (pairs_spell (i + 2) rest r.0 r.1)))))

frame_case : (r : Result (List ℕ) FromHexError) (o : List ℕ) → frame_of r ≡ Ok o → r ≡ Ok o
frame_case (Ok octets) o e = grind (arith, nat_tests)
frame_case (Err fault) o e = absurd (cc e)

octets_spell : (text o : List ℕ) → octets_spelled text ≡ Ok o → encode_lower o ≡ lower text
unfolding octets_spelled
octets_spell text o e =
    let decoded = frame_case (decode_of text) o e in
    pairs_spell 0 text o (sym (decode_of-even text ((decode_of-ok text o decoded).0)) ∙ decoded)

pub octets_forth : (ws : Words) (o : List ℕ) (left : Words) → octets ws ≡ Ok (o, left) → lower_words ws ≡ encode_lower o ∷ lower_words left
unfolding octets
octets_forth ws o left e = word_forth octets_spelled encode_lower octets_spell ws o left e
