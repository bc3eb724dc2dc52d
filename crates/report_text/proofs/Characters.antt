-- The characters of words: none is a space or an LF.
use Rattle.hex.{proofs.HexLemmas.{decode_of-encode_lower, decode_of-ok, decode_of-same}, specs.Hex.{IsBytes, decode_of, encode_lower, is_hex_digit}}
use Rattle.{net_plan.specs.NameText.{IsNameText, is_name_character}, std.proofs.lemmas.{Bool.{Decides.nat_tests, and_from}, Fmt.decimal_is_IsNumeral}}
use Rattle.std.proofs.{Common.{◌<◌, ◌^◌, ◌||◌, ◌∙◌, ◌∷◌, ◌≡◌, Bool, List, [], ap, arith, refl, suc, true, zero, ℕ}, lemmas.List.Sums.AllPass-from_list_all}
use Rattle.std.{proofs.lemmas.List.Elements.{All-cons, All-nil, All-weaker}, specs.Prelude.{◌&&◌, ◌==◌, All, decimal, nat_lt, negsuc, not, pos, ℤ}}
use Rattle.std.specs.{Char.digit_value, Fmt.signed_decimal, Int.Signed.mag, List.list_all}
use Rattle.{std.specs.{Int.{byte_at, bytes_high_first, to_be_bytes, w32}, Str.Parse.AllDigits}, tte_units.proofs.general_lemmas.Naturals.byte_at_small}

-- the character is above ASCII's space, and neither `&` nor `<`, which a picture's text reads as its own
abbrev pub is_visible : ℕ → Bool
is_visible c = nat_lt 32 c && not (c == 60 || c == 38)

-- each character is
abbrev pub IsVisible : List ℕ → Type 0
IsVisible text = All (λ c. is_visible c ≡ true) text

pub visible_from_test : (text : List ℕ) → list_all is_visible text ≡ true → IsVisible text
visible_from_test text h = AllPass-from_list_all is_visible text h

name_character : (c : ℕ) → is_name_character c ≡ true → is_visible c ≡ true
name_character c h = and_from (nat_lt 32 c) (not (c == 60 || c == 38)) (grind (arith, nat_tests)) (grind (arith, nat_tests))

pub name_visible : (text : List ℕ) → IsNameText text → IsVisible text
name_visible text h =
    All-weaker (λ c. is_name_character c ≡ true) (λ c. is_visible c ≡ true) name_character text (AllPass-from_list_all is_name_character text h.plain)

digit_character : (c : ℕ) → digit_value c < 10 → is_visible c ≡ true
digit_character c h = and_from (nat_lt 32 c) (not (c == 60 || c == 38)) (grind (arith, nat_tests)) (grind (arith, nat_tests))

digits_visible : (text : List ℕ) → AllDigits 10 text → IsVisible text
digits_visible [] h = All-nil (λ c. is_visible c ≡ true)
digits_visible (c ∷ cs) h = All-cons (λ c. is_visible c ≡ true) c cs (digit_character c h.0) (digits_visible cs h.1)

pub decimal_visible : (n : ℕ) → n < 2 ^ 64 → IsVisible (decimal n)
decimal_visible n h = digits_visible (decimal n) ((decimal_is_IsNumeral n h).0).1

pub signed_visible : (z : ℤ) → mag z < 2 ^ 63 → IsVisible (signed_decimal z)
signed_visible (pos n) h = decimal_visible n (omega arith)
signed_visible (negsuc n) h = All-cons (λ c. is_visible c ≡ true) 45 (decimal (suc n)) refl (decimal_visible (suc n) (omega arith))

hex_character : (c : ℕ) → is_hex_digit c ≡ true → is_visible c ≡ true
hex_character c h = and_from (nat_lt 32 c) (not (c == 60 || c == 38)) (grind (arith, nat_tests)) (grind (arith, nat_tests))

pub hex_visible : (octets : List ℕ) → IsBytes octets → IsVisible (encode_lower octets)
hex_visible octets bytes =
    let text = encode_lower octets in
    All-weaker (λ c. is_hex_digit c ≡ true) (λ c. is_visible c ≡ true) hex_character text (decode_of-ok text octets (decode_of-encode_lower octets bytes)).1

IsBytes-cons : (b : ℕ) (rest : List ℕ) → b < 256 → IsBytes rest → IsBytes (b ∷ rest)
IsBytes-cons b rest h hs zero = h
IsBytes-cons b rest h hs (suc i) = hs i

bytes_are_bytes : (k n : ℕ) → IsBytes (bytes_high_first k n)
bytes_are_bytes zero n = λ i. omega arith
bytes_are_bytes (suc k) n = IsBytes-cons (byte_at k n) (bytes_high_first k n) (byte_at_small k n) (bytes_are_bytes k n)

pub octet_is_byte : (octet : ℕ) → octet < 2 ^ 8 → IsBytes (octet ∷ [])
octet_is_byte octet h = IsBytes-cons octet [] (omega arith) (λ i. omega arith)

pub word_is_bytes : (n : ℕ) → IsBytes (to_be_bytes w32 n)
word_is_bytes n = bytes_are_bytes 4 n

-- two texts of hexadecimal digits are one where the octets are
pub same_octets : (octets others : List ℕ) → IsBytes octets → IsBytes others → encode_lower octets ≡ encode_lower others → octets ≡ others
same_octets octets others h g same =
    decode_of-same (encode_lower octets) octets others (decode_of-encode_lower octets h) (ap decode_of same ∙ decode_of-encode_lower others g)
