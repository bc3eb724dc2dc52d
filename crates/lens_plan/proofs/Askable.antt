-- What messages and the receivers of their lines ask for may be asked of the network.
use Rattle.std.proofs.Common
use Common.{◌%◌, ◌&&◌, ◌++◌, ◌+◌, ◌-◌, ◌<◌, ◌==◌, ◌||◌, ◌∙◌, ◌∷◌, ◌≡◌, ◌≢◌, ◌≤◌, ◌⊎◌, Bool, Err, List, None, Ok, Option}
use Common.{Result, Some, [], ap, arith, cond, false, inl, inr, length, nat_lt, refl, subst, suc, sym, true, zero, ℕ}
use Rattle.std.proofs.lemmas.{Bool.{Decides.nat_tests, eq-eqb, eqb-true, false≢true, or_parts}}
use Rattle.std.proofs.lemmas.{List.{FromFn.{get_or-range_with_len, length-range_with_len}, length-append}}
use Rattle.std.proofs.lemmas.{Option.{same_Some, slice_get-get_or, slice_get_within}, Slice.Eq.bytes_eq-Decides}
use Rattle.std.specs.{Fmt.decimal, List.{Contains, list_all, list_any, range_with_len}}
use Rattle.std.specs.{Option.{ok_or, option_and_then, option_map_or, unwrap_or}}
use Rattle.std.specs.{Prelude.{IfSome, bytes_eq, codes, get_or, nat_le, not, slice_get}, Str.Parse.digits_value}
use Rattle.lens_plan.{proofs.Courses.end_is}
use Rattle.lens_plan.specs.declared.messages.{reading.{Head.Head, Timing.Timing}}
use Rattle.lens_plan.specs.declared.messages.refusal.{RefusedLine.RefusedLine}
use Rattle.lens_plan.specs.declared.messages.refusal.MessageRefusal.{MessageRefusal}
use Rattle.lens_plan.specs.declared.messages.refusal.MessageRefusal.{TheVariants.{Long, Name, Number, Taken, Twice}}
use Rattle.lens_plan.specs.messages.{Message.{Message, gives_id, id_is_taken, message_of, name_is_taken}}
use Rattle.lens_plan.specs.messages.{Words.{end_system, number, period, time}}
use Rattle.lens_plan.specs.messages.Lines
use Lines.{is_passed, line_limit, lines_of, messages_from, messages_read, refused, with_message}
use Rattle.lens_plan.specs.messages.Reading
use Reading.{ethertype, go_on, head, id, message_read, message_reader, name, name_read, new_id, new_receiver, receiver}
use Reading.{receivers, sender, some_receivers, timing}
use Rattle.lens_plan.specs.messages.Steps
use Steps.{◌>>=◌, Read, Reader, and_then, begins_with, behind_key, fixed, give, next_word, optional, outcome, some_read}
use Steps.{with_rest}
use Rattle.lens_plan.specs.messages.Values
use Values.{at_least, end_system_spelled, is_end, is_name_text, number_between, period_spelled}
use Rattle.net_plan.specs.{Places.IsEndSystem}
use Rattle.net_plan.specs.{declared.{ids.DeviceId.DeviceId, network.Network.Network, tables.VirtualLink.VirtualLink}}
use Rattle.trace_text.specs.{Names.device_spelled, Steps.{Words, words}}
use Rattle.tte_units.proofs.general_lemmas.{Bools.{both_left, both_right}, Lists.pushed}

-- ---- what the messages of a file ask for may be asked of the network

or_cases : (a b : Bool) → (a || b) ≡ true → (a ≡ true) ⊎ (b ≡ true)
or_cases true b is = inl refl
or_cases false b is = inr is

-- ---- readings one after another

-- what was read by two readings
record IsThen {A B : Type 0} (first : Reader A) (next : A → Reader B) (ws : Words) (y : B) (left : Words) : Type 0 where
  pub x : A
  pub mid : Words
  pub one : first ws ≡ Ok (x, mid)
  pub two : next x mid ≡ Ok (y, left)

module _ {A B : Type 0} (first : Reader A) (next : A → Reader B) (ws : Words) (y : B) (left : Words) where
  then_by : (r : Read (A × Words)) → first ws ≡ r → and_then r next ≡ Ok (y, left) → IsThen first next ws y left
  then_by (Ok (x, mid)) is read = record { x = x; mid = mid; one = is; two = read }
  then_by (Err fault) is read = absurd cc

  then_of : (first >>= next) ws ≡ Ok (y, left) → IsThen first next ws y left
  then_of read = then_by (first ws) refl read

abbrev ok_or_else : {A : Type 0} → A → Read A → A
ok_or_else d (Ok x) = x
ok_or_else d (Err fault) = d

abbrev value_or : {A : Type 0} → A → Read (A × Words) → A
value_or d (Ok step) = step.0
value_or d (Err fault) = d

-- the meaning of a word that was read
word_by : {A : Type 0} (r : Read A) (ws : Words) (x : A) (left : Words) → with_rest ws r ≡ Ok (x, left) → r ≡ Ok x
word_by (Ok y) ws x left read = ap (λ z. Ok z) (ap (value_or y) read)
word_by (Err fault) ws x left read = absurd cc

word_of : {A : Type 0} (meaning : List ℕ → Read A) (ws : Words) (x : A) (left : Words) → next_word meaning ws ≡ Ok (x, left)
    → (text : List ℕ) × (meaning text ≡ Ok x)
word_of meaning [] x left read = absurd cc
word_of meaning (word ∷ ws) x left read = (word, word_by (meaning word) ws x left read)

some_by : {A : Type 0} (o : Option A) (fault : MessageRefusal) (x : A) → ok_or o fault ≡ Ok x → o ≡ Some x
some_by None fault x read = absurd cc
some_by (Some y) fault x read = ap (λ z. Some z) (ap (ok_or_else y) read)

-- what was read behind a word that may be absent
record IsOptional {A : Type 0} (read : Reader A) (P : A → Type 0) : Type 0 where
  pub each : (ws : Words) (x : A) (left : Words) → read ws ≡ Ok (x, left) → P x

optional_by : {A : Type 0} {read : Reader A} (P : A → Type 0) (key : List ℕ) (ws : Words) (b : Bool) (o : Option A)
    (left : Words) → IsOptional read P → cond b (some_read (read (behind_key key ws))) (Ok (None, ws)) ≡ Ok (o, left)
    → IfSome o P
optional_by P key ws false o left of is = subst (λ (x : Option _). IfSome x P) (ap (value_or None) is) tt
optional_by {A} {read} P key ws true o left of is = by (read (behind_key key ws)) refl is
  where
    by : (r : Read (A × Words)) → read (behind_key key ws) ≡ r → some_read r ≡ Ok (o, left) → IfSome o P
    by (Ok (x, rest)) at is = subst (λ (y : Option A). IfSome y P) (ap (value_or None) is) (of.each (behind_key key ws) x rest at)
    by (Err fault) at is = absurd cc

optional_of : {A : Type 0} {read : Reader A} (P : A → Type 0) (key : List ℕ) (ws : Words) (o : Option A)
    (left : Words) → IsOptional read P → optional key read ws ≡ Ok (o, left) → IfSome o P
optional_of P key ws o left of is = optional_by P key ws (begins_with key ws) o left of is

-- ---- numbers

least_by : (b : Bool) (n k : ℕ) → cond b (Some n) None ≡ Some k → (b ≡ true) × (n ≡ k)
least_by true n k is = (refl, ap (some_or_zero) is)
  where
    some_or_zero : Option ℕ → ℕ
    some_or_zero None = 0
    some_or_zero (Some x) = x
least_by false n k is = absurd cc

in_by : (c : Bool) (least most d n : ℕ) → (c ≡ true → nat_le d most ≡ true) → option_and_then (at_least least) (cond c (Some d) None) ≡ Some n
    → (least ≤ n) × (n ≤ most)
in_by false least most d n holds is = absurd cc
in_by true least most d n holds is =
    let at = least_by (nat_le least d) d n is in
    let low = at.0 in
    let high = holds refl in
    let same = at.1 in
    (grind (arith, nat_tests, low, same), grind (arith, nat_tests, high, same))

number_in : (least most : ℕ) (text : List ℕ) (n : ℕ) → number_between least most text ≡ Some n → (least ≤ n) × (n ≤ most)
unfolding number_between
number_in least most text n is =
    let d = digits_value 10 text in
    in_by (bytes_eq text (decimal d) && nat_le d most) least most d n (both_right (bytes_eq text (decimal d)) (nat_le d most)) is

number_of : (least most : ℕ) (ws : Words) (n : ℕ) (left : Words) → number least most ws ≡ Ok (n, left) → (least ≤ n) × (n ≤ most)
unfolding number
number_of least most ws n left read =
    let w = word_of (λ text. ok_or (number_between least most text) Number) ws n left read in
    number_in least most w.0 n (some_by (number_between least most w.0) Number n w.1)

-- ---- periods

abbrev is_period : ℕ → Bool
is_period p = (p == 1) || ((p == 2) || ((p == 4) || ((p == 8) || ((p == 16) || ((p == 32) || (p == 64))))))

divides : ℕ → Bool
divides p = not (64 % p == 0) || is_period p

abbrev pub periods : List ℕ
periods = 1 ∷ 2 ∷ 4 ∷ 8 ∷ 16 ∷ 32 ∷ 64 ∷ []

period_among : (p : ℕ) → is_period p ≡ true → Contains periods p
period_among p is =
    elim (or_cases (p == 1) ((p == 2) || ((p == 4) || ((p == 8) || ((p == 16) || ((p == 32) || (p == 64)))))) is) [
      | inl at ↦ (0, omega arith, sym (eqb-true p 1 at))
      | inr more ↦ elim (or_cases (p == 2) ((p == 4) || ((p == 8) || ((p == 16) || ((p == 32) || (p == 64))))) more) [
        | inl at ↦ (1, omega arith, sym (eqb-true p 2 at))
        | inr more ↦ elim (or_cases (p == 4) ((p == 8) || ((p == 16) || ((p == 32) || (p == 64)))) more) [
          | inl at ↦ (2, omega arith, sym (eqb-true p 4 at))
          | inr more ↦ elim (or_cases (p == 8) ((p == 16) || ((p == 32) || (p == 64))) more) [
            | inl at ↦ (3, omega arith, sym (eqb-true p 8 at))
            | inr more ↦ elim (or_cases (p == 16) ((p == 32) || (p == 64)) more) [
              | inl at ↦ (4, omega arith, sym (eqb-true p 16 at))
              | inr more ↦ elim (or_cases (p == 32) (p == 64) more) [
                | inl at ↦ (5, omega arith, sym (eqb-true p 32 at))
                | inr at ↦ (6, omega arith, sym (eqb-true p 64 at))
              ]
            ]
          ]
        ]
      ]
    ]

all_divide : list_all divides (range_with_len 1 64) ≡ true
unfolding divides
all_divide = refl

all_at : {X : Type 0} (test : X → Bool) (xs : List X) (k : ℕ) (x : X) → list_all test xs ≡ true → slice_get xs k ≡ Some x → test x ≡ true
all_at test [] k x all at = absurd (grind (arith, at))
all_at test (y ∷ xs) zero x all at = ap test (sym (same_Some _ _ at)) ∙ both_left (test y) (list_all test xs) all
all_at test (y ∷ xs) (suc k) x all at = all_at test xs k x (both_right (test y) (list_all test xs) all) at

of_divisor : (b c : Bool) → (not b || c) ≡ true → b ≡ true → c ≡ true
of_divisor true c is at = is
of_divisor false c is at = absurd cc

period_is : (p : ℕ) → 1 ≤ p → p ≤ 64 → (64 % p == 0) ≡ true → Contains periods p
unfolding divides
period_is p least most divisor =
    let size = length-range_with_len 1 64 in
    let within : p - 1 < length (range_with_len 1 64) = omega (arith, least, most, size) in
    let at = slice_get-get_or (range_with_len 1 64) (p - 1) 0 within in
    let value : get_or (range_with_len 1 64) (p - 1) 0 ≡ p =
    (let e = get_or-range_with_len 1 64 (p - 1) 0 (omega (arith, least, most)) in omega (arith, e, least)) in
    let passes = all_at divides (range_with_len 1 64) (p - 1) p all_divide (at ∙ ap (λ n. Some n) value) in
    period_among p (of_divisor (64 % p == 0) (is_period p) passes divisor)

period_by : (o : Option ℕ) (p : ℕ) → ((n : ℕ) → o ≡ Some n → (1 ≤ n) × (n ≤ 64))
    → option_and_then (λ n. cond (64 % n == 0) (Some n) None) o ≡ Some p → Contains periods p
period_by None p each is = absurd cc
period_by (Some n) p each is =
    let bounds = each n refl in
    let at = least_by (64 % n == 0) n p is in
    subst (Contains periods) at.1 (period_is n bounds.0 bounds.1 at.0)

period_of : (ws : Words) (p : ℕ) (left : Words) → period ws ≡ Ok (p, left) → Contains periods p
unfolding period period_spelled
period_of ws p left read =
    let w = word_of (λ text. ok_or (period_spelled text) Number) ws p left read in
    period_by (number_between 1 64 w.0) p (λ n is. number_in 1 64 w.0 n is) (some_by (period_spelled w.0) Number p w.1)

-- ---- the parts of a line

-- the name that was read, and the id
record IsHeadOf (network : Network) (earlier : List Message) (h : Head) : Type 0 where
  pub name : name_is_taken network earlier h.name ≡ false
  pub id : IfSome h.id (λ n. id_is_taken network earlier n ≡ false)

name_by : (b c : Bool) (text : List ℕ) (x : List ℕ) → cond b (cond c (Err Taken) (Ok text)) (Err Name) ≡ Ok x → (c ≡ false) × (text ≡ x)
name_by true false text x read = (refl, ap (ok_or_else []) read)
name_by true true text x read = absurd cc
name_by false c text x read = absurd cc

name_of : (network : Network) (earlier : List Message) (ws : Words) (x : List ℕ) (left : Words) → name network earlier ws ≡ Ok (x, left)
    → name_is_taken network earlier x ≡ false
unfolding name
name_of network earlier ws x left read =
    let w = word_of (name_read network earlier) ws x left read in
    let it = name_by (is_name_text w.0) (name_is_taken network earlier w.0) w.0 x w.1 in
    ap (name_is_taken network earlier) (sym it.1) ∙ it.0

abbrev given : ℕ → Words → Read (ℕ × Words)
given n ws = Ok (n, ws)

new_by : (b : Bool) (n x : ℕ) (ws left : Words) → cond b (Err Taken) (given n ws) ≡ given x left → (b ≡ false) × (n ≡ x)
new_by false n x ws left read = (refl, ap (value_or 0) read)
new_by true n x ws left read = absurd cc

id_of : (network : Network) (earlier : List Message) (ws : Words) (x : ℕ) (left : Words) → id network earlier ws ≡ Ok (x, left)
    → id_is_taken network earlier x ≡ false
unfolding id
id_of network earlier ws x left read =
    let t = then_of (number 0 65535) (new_id network earlier) ws x left read in
    let it = new_by (id_is_taken network earlier t.x) t.x x t.mid left t.two in
    ap (id_is_taken network earlier) (sym it.1) ∙ it.0

abbrev head_by : List ℕ → Option ℕ → ℕ → Option ℕ → Head
head_by called numbered octets kind = record { name = called; id = numbered; length = octets; ethertype = unwrap_or kind 2048 }

abbrev behind_length : List ℕ → Option ℕ → Reader Head
behind_length called numbered =
    number 60 1514 >>= (λ octets. optional (codes "ethertype") ethertype >>= (λ kind. give (head_by called numbered octets kind)))

abbrev behind_id : List ℕ → Option ℕ → Reader Head
behind_id called numbered = fixed (codes "length") >>= (λ word. behind_length called numbered)

head_of : (network : Network) (earlier : List Message) (ws : Words) (h : Head) (left : Words) → head network earlier ws ≡ Ok (h, left)
    → IsHeadOf network earlier h
unfolding head
head_of network earlier ws h left read =
    let one = then_of (name network earlier) (λ called. optional (codes "id") (id network earlier) >>= behind_id called) ws h left read in
    let two = then_of (optional (codes "id") (id network earlier)) (behind_id one.x) one.mid h left one.two in
    let three = then_of (fixed (codes "length")) (λ word. behind_length one.x two.x) two.mid h left two.two in
    let four = then_of (number 60 1514) (λ octets. optional (codes "ethertype") ethertype >>= (λ kind. give (head_by one.x two.x octets kind))) three.mid h left
    three.two in
    let five = then_of (optional (codes "ethertype") ethertype) (λ kind. give (head_by one.x two.x four.x kind)) four.mid h left four.two in
    let same : head_by one.x two.x four.x five.x ≡ h = ap (value_or h) five.two in
    record {
      name = subst (λ (x : Head). name_is_taken network earlier x.name ≡ false) same (name_of network earlier ws one.x one.mid one.one);
      id = subst (λ (x : Head). IfSome x.id (λ n. id_is_taken network earlier n ≡ false)) same
          (optional_of {read = id network earlier} (λ n. id_is_taken network earlier n ≡ false) (codes "id") one.mid
          two.x two.mid
          (record { each = λ us x rest at. id_of network earlier us x rest at }) two.one);
    }

-- the period that was read, and the phase
pub record IsTimingOf (t : Timing) : Type 0 where
  pub period : Contains periods t.period
  pub phase : IfSome t.phase (λ n. n < t.period)

abbrev timing_by : ℕ → Option ℕ → Option ℕ → Option ℕ → Timing
timing_by cycles phase after by = record { period = cycles; phase = phase; after = after; by = by }

abbrev behind_phase : ℕ → Option ℕ → Reader Timing
behind_phase cycles phase =
    optional (codes "after") time >>= (λ after. optional (codes "by") time >>= (λ by. give (timing_by cycles phase after by)))

abbrev behind_period : ℕ → Reader Timing
behind_period cycles = optional (codes "phase") (number 0 (cycles - 1)) >>= behind_phase cycles

some_period : (p : ℕ) → Contains periods p → 1 ≤ p
some_period p (k, within, is) = by k within is
  where
    later : (k : ℕ) → k < 1 → get_or periods (suc (suc (suc (suc (suc (suc k)))))) p ≡ p → 1 ≤ p
    later zero within is = omega (arith, is)
    later (suc k) within is = absurd (omega (arith, within))

    by : (k : ℕ) → k < 7 → get_or periods k p ≡ p → 1 ≤ p
    by zero within is = omega (arith, is)
    by (suc zero) within is = omega (arith, is)
    by (suc (suc zero)) within is = omega (arith, is)
    by (suc (suc (suc zero))) within is = omega (arith, is)
    by (suc (suc (suc (suc zero)))) within is = omega (arith, is)
    by (suc (suc (suc (suc (suc zero))))) within is = omega (arith, is)
    by (suc (suc (suc (suc (suc (suc k)))))) within is = later k (omega (arith, within)) is

timing_of : (ws : Words) (t : Timing) (left : Words) → timing ws ≡ Ok (t, left) → IsTimingOf t
unfolding timing
timing_of ws t left read =
    let one = then_of (fixed (codes "period")) (λ word. period >>= behind_period) ws t left read in
    let two = then_of period behind_period one.mid t left one.two in
    let three = then_of (optional (codes "phase") (number 0 (two.x - 1))) (behind_phase two.x) two.mid t left two.two in
    let four = then_of (optional (codes "after") time) (λ after. optional (codes "by") time >>= (λ by. give (timing_by two.x three.x after by))) three.mid t left
    three.two in
    let five = then_of (optional (codes "by") time) (λ by. give (timing_by two.x three.x four.x by)) four.mid t left four.two in
    let same : timing_by two.x three.x four.x five.x ≡ t = ap (value_or t) five.two in
    let among = period_of one.mid two.x two.mid two.one in
    let some = some_period two.x among in
    record {
      period = subst (λ (x : Timing). Contains periods x.period) same among;
      phase = subst (λ (x : Timing). IfSome x.phase (λ n. n < x.period)) same
          (optional_of {read = number 0 (two.x - 1)} (λ n. n < two.x) (codes "phase") two.mid three.x three.mid
          (record { each = λ us n rest at. (let bounds = number_of 0 (two.x - 1) us n rest at in let most = bounds.1 in omega (arith, most, some)) }) three.one);
    }

-- ---- end systems

end_by : (network : Network) (o : Option DeviceId) (d : DeviceId) → option_and_then (λ e. cond (is_end network e) (Some e) None) o ≡ Some d
    → is_end network d ≡ true
end_by network None d is = absurd cc
end_by network (Some e) d is = by (is_end network e) refl is
  where
    device_or : Option DeviceId → DeviceId
    device_or None = d
    device_or (Some x) = x

    by : (b : Bool) → is_end network e ≡ b → cond b (Some e) None ≡ Some d → is_end network d ≡ true
    by true at is = ap (is_end network) (sym (same_Some _ _ is)) ∙ at
    by false at is = absurd cc

end_spelled : (network : Network) (text : List ℕ) (d : DeviceId) → end_system_spelled network text ≡ Some d → IsEndSystem network d
unfolding end_system_spelled
end_spelled network text d is = end_is network d (end_by network (device_spelled network text) d is)

end_of : (network : Network) (ws : Words) (d : DeviceId) (left : Words) → end_system network ws ≡ Ok (d, left) → IsEndSystem network d
unfolding end_system
end_of network ws d left read =
    let w = word_of (λ text. ok_or (end_system_spelled network text) Name) ws d left read in
    end_spelled network w.0 d (some_by (end_system_spelled network w.0) Name d w.1)

sender_of : (network : Network) (ws : Words) (d : DeviceId) (left : Words) → sender network ws ≡ Ok (d, left) → IsEndSystem network d
unfolding sender
sender_of network ws d left read =
    let one = then_of (fixed (codes "from")) (λ word. end_system network >>= (λ device. fixed (codes "to") >>= (λ behind. give device))) ws d left read in
    let two = then_of (end_system network) (λ device. fixed (codes "to") >>= (λ behind. give device)) one.mid d left one.two in
    let three = then_of (fixed (codes "to")) (λ behind. give two.x) two.mid d left two.two in
    let same : two.x ≡ d = ap (value_or d) three.two in
    subst (IsEndSystem network) same (end_of network one.mid two.x two.mid two.one)

-- the devices are end systems other than the sender
abbrev pub AreOthers : Network → DeviceId → List DeviceId → Type 0
AreOthers network from ds = (r : DeviceId) → Contains ds r → IsEndSystem network r × (r ≡ from → ⊥)

new_device : (network : Network) (from : DeviceId) (earlier : List DeviceId) (word : List ℕ) (o : Option DeviceId) (d : DeviceId)
    → end_system_spelled network word ≡ o → new_receiver from earlier o ≡ Ok d → IsEndSystem network d × (d ≡ from → ⊥)
new_device network from earlier word None d is read = absurd cc
new_device network from earlier word (Some e) d is read = by (e.0 == from.0 || list_any (λ x. x.0 == e.0) earlier) refl read
  where
    by : (b : Bool) → (e.0 == from.0 || list_any (λ x. x.0 == e.0) earlier) ≡ b → cond b (Err Twice) (Ok e) ≡ Ok d
        → IsEndSystem network d × (d ≡ from → ⊥)
    by true at read = absurd cc
    by false at read =
        let same : e ≡ d = ap (ok_or_else d) read in
        let apart = or_parts (e.0 == from.0) (list_any (λ x. x.0 == e.0) earlier) at in (
          subst (IsEndSystem network) same (end_spelled network word e is),
          λ equal. false≢true (sym apart.0 ∙ eq-eqb e.0 from.0 (ap (λ (x : DeviceId). x.0) (same ∙ equal))),
        )

others_more : (network : Network) (from : DeviceId) (earlier : List DeviceId) (d : DeviceId) → AreOthers network from earlier
    → IsEndSystem network d × (d ≡ from → ⊥) → AreOthers network from (earlier ++ d ∷ [])
others_more network from [] d all one r (zero, within, is) = subst (λ x. IsEndSystem network x × (x ≡ from → ⊥)) is one
others_more network from [] d all one r (suc k, within, is) = absurd (omega (arith, within))
others_more network from (e ∷ earlier) d all one r (zero, within, is) = all r (0, omega arith, is)
others_more network from (e ∷ earlier) d all one r (suc k, within, is) =
    others_more network from earlier d (λ x (h, less, at). all x (suc h, (omega (arith, less)), at)) one r (k, (omega (arith, within)), is)

-- what was read of the receivers
record AreReceivers (network : Network) (from : DeviceId) (earlier ds : List DeviceId) : Type 0 where
  pub others : AreOthers network from ds
  pub more : length earlier ≤ length ds

receivers_of : (network : Network) (from : DeviceId) (earlier : List DeviceId) (ws : Words) (ds : List DeviceId) (left : Words)
    → AreOthers network from earlier → receivers network from earlier ws ≡ Ok (ds, left) → AreReceivers network from earlier ds
receivers_of network from earlier [] ds left all read =
    let same : earlier ≡ ds = ap (value_or ds) read in
    record { others = subst (AreOthers network from) same all; more = (let size = ap length same in omega (arith, size)) }
receivers_of network from earlier (word ∷ ws) ds left all read =
    by (new_receiver from earlier (end_system_spelled network word)) refl read
    (λ d own more. receivers_of network from (earlier ++ d ∷ []) ws ds left (others_more network from earlier d all own) more)
  where
    by : (r : Read DeviceId) → new_receiver from earlier (end_system_spelled network word) ≡ r
        → go_on r (λ d. receivers network from (earlier ++ d ∷ []) ws) ≡ Ok (ds, left)
        → ((d : DeviceId) → IsEndSystem network d × (d ≡ from → ⊥) → receivers network from (earlier ++ d ∷ []) ws ≡ Ok (ds, left)
        → AreReceivers network from (earlier ++ d ∷ []) ds) → AreReceivers network from earlier ds
    by (Err fault) at read later = absurd cc
    by (Ok d) at read later =
        let own = new_device network from earlier word (end_system_spelled network word) d refl at in
        let it = later d own read in
        let size = length-append earlier (d ∷ []) in
        let more = it.more in
        record { others = it.others; more = omega (arith, size, more) }

some_of : (network : Network) (from : DeviceId) (ws : Words) (ds : List DeviceId) (left : Words) → some_receivers network from ws ≡ Ok (ds, left)
    → AreOthers network from ds × (1 ≤ length ds)
some_of network from [] ds left read = absurd cc
some_of network from (word ∷ ws) ds left read =
    by (new_receiver from [] (end_system_spelled network word)) refl read
  where
    by : (r : Read DeviceId) → new_receiver from [] (end_system_spelled network word) ≡ r
        → go_on r (λ d. receivers network from ([] ++ d ∷ []) ws) ≡ Ok (ds, left) → AreOthers network from ds × (1 ≤ length ds)
    by (Err fault) at read = absurd cc
    by (Ok d) at read =
        let own = new_device network from [] word (end_system_spelled network word) d refl at in
        let none : AreOthers network from [] = λ r (k, within, is). absurd (omega (arith, within)) in
        let it = receivers_of network from ([] ++ d ∷ []) ws ds left (others_more network from [] d none own) read in
        let more = it.more in
        (it.others, omega (arith, more))

-- ---- lines

-- what is asked for may be asked of the network
pub record IsAskable (network : Network) (m : Message) : Type 0 where
  pub period : Contains periods m.period
  pub phase : IfSome m.phase (λ n. n < m.period)
  pub sender : IsEndSystem network m.sender
  pub receivers : AreOthers network m.sender m.receivers
  pub some : 1 ≤ length m.receivers
  pub name : (k : ℕ) (vl : VirtualLink) → slice_get network.vl k ≡ Some vl → m.name ≢ vl.name
  pub id : (n k : ℕ) (vl : VirtualLink) → m.id ≡ Some n → slice_get network.vl k ≡ Some vl → n ≢ vl.id

-- and its name and id are not those of earlier ones
pub record IsOther (earlier : List Message) (m : Message) : Type 0 where
  pub name : (k : ℕ) (n : Message) → slice_get earlier k ≡ Some n → m.name ≢ n.name
  pub id : (k x y : ℕ) (n : Message) → slice_get earlier k ≡ Some n → n.id ≡ Some x → m.id ≡ Some y → y ≢ x

none_any : {X : Type 0} (test : X → Bool) (xs : List X) (k : ℕ) (x : X) → list_any test xs ≡ false → slice_get xs k ≡ Some x → test x ≡ false
none_any test [] k x none at = absurd (grind (arith, at))
none_any test (y ∷ xs) zero x none at = ap test (sym (same_Some _ _ at)) ∙ (or_parts (test y) (list_any test xs) none).0
none_any test (y ∷ xs) (suc k) x none at = none_any test xs k x (or_parts (test y) (list_any test xs) none).1 at

not_bytes : (a b : List ℕ) → bytes_eq a b ≡ false → b ≢ a
not_bytes a b none same = false≢true (sym none ∙ (bytes_eq-Decides a b).1 (sym same))

not_number : (a b : ℕ) → (a == b) ≡ false → b ≢ a
not_number a b none same = false≢true (sym none ∙ eq-eqb a b (sym same))

some_is : (P : ℕ → Type 0) (o : Option ℕ) (n : ℕ) → IfSome o P → o ≡ Some n → P n
some_is P o n holds is = subst (λ (x : Option ℕ). IfSome x P) is holds

module _ (network : Network) (earlier : List Message) where
  abbrev with_receivers : Head → Timing → DeviceId → List DeviceId → Message
  with_receivers h t from to = message_of h.name h.id h.length h.ethertype t.period t.phase t.after t.by from to

  abbrev behind_sender : Head → Timing → DeviceId → Reader Message
  behind_sender h t from = some_receivers network from >>= (λ to. give (with_receivers h t from to))

  abbrev behind_timing : Head → Timing → Reader Message
  behind_timing h t = sender network >>= behind_sender h t

  made : (h : Head) (t : Timing) (from : DeviceId) (to : List DeviceId) → IsHeadOf network earlier h → IsTimingOf t → IsEndSystem network from
      → AreOthers network from to × (1 ≤ length to)
      → IsAskable network (with_receivers h t from to) × IsOther earlier (with_receivers h t from to)
  made h t from to of_head of_timing end of =
      let names = or_parts (list_any (λ vl. bytes_eq vl.name h.name) network.vl) (list_any (λ m. bytes_eq m.name h.name) earlier) of_head.name in (
        record {
          period = of_timing.period;
          phase = of_timing.phase;
          sender = end;
          receivers = of.0;
          some = of.1;
          name = λ k vl at. not_bytes vl.name h.name (none_any (λ v. bytes_eq v.name h.name) network.vl k vl names.0 at);
          id = λ n k vl is at.
              let none = some_is (λ x. id_is_taken network earlier x ≡ false) h.id n of_head.id is in
              let ids = or_parts (list_any (λ v. v.id == n) network.vl) (list_any (gives_id n) earlier) none in
              not_number vl.id n (none_any (λ v. v.id == n) network.vl k vl ids.0 at);
        },
        record {
          name = λ k n at. not_bytes n.name h.name (none_any (λ m. bytes_eq m.name h.name) earlier k n names.1 at);
          id = λ k x y n at gives is.
              let none = some_is (λ z. id_is_taken network earlier z ≡ false) h.id y of_head.id is in
              let ids = or_parts (list_any (λ v. v.id == y) network.vl) (list_any (gives_id y) earlier) none in
              let other = none_any (gives_id y) earlier k n ids.1 at in
              not_number x y (ap (λ (o : Option ℕ). option_map_or (λ z. z == y) o false) (sym gives) ∙ other);
        },
      )

  of_line : (ws : Words) (m : Message) (left : Words) → message_reader network earlier ws ≡ Ok (m, left) → IsAskable network m × IsOther earlier m
  unfolding message_reader
  of_line ws m left read =
      let one = then_of (head network earlier) (λ h. timing >>= behind_timing h) ws m left read in
      let two = then_of timing (behind_timing one.x) one.mid m left one.two in
      let three = then_of (sender network) (behind_sender one.x two.x) two.mid m left two.two in
      let four = then_of (some_receivers network three.x) (λ to. give (with_receivers one.x two.x three.x to)) three.mid m left three.two in
      let same : with_receivers one.x two.x three.x four.x ≡ m = ap (value_or m) four.two in
      subst (λ x. IsAskable network x × IsOther earlier x) same
      (made one.x two.x three.x four.x (head_of network earlier ws one.x one.mid one.one) (timing_of one.mid two.x two.mid two.one)
      (sender_of network two.mid three.x three.mid three.one) (some_of network three.x three.mid four.x four.mid four.one))

  out_by : (r : Read (Message × Words)) (m : Message) → outcome r ≡ Ok m → (left : Words) × (r ≡ Ok (m, left))
  out_by (Ok (x, left)) m read = (left, ap (λ y. Ok (y, left)) (ap (ok_or_else x) read))
  out_by (Err fault) m read = absurd cc

  message_is : (text : List ℕ) (m : Message) → message_read network earlier text ≡ Ok m → IsAskable network m × IsOther earlier m
  unfolding message_read
  message_is text m read =
      let it = out_by (message_reader network earlier (words text)) m read in
      of_line (words text) m it.0 it.1

-- ---- all lines

-- each message may be asked, and is other than those before it
pub record AreAskable (network : Network) (ms : List Message) : Type 0 where
  pub each : (j : ℕ) (m : Message) → slice_get ms j ≡ Some m → IsAskable network m
  pub names : (i j : ℕ) (m n : Message) → i < j → slice_get ms i ≡ Some m → slice_get ms j ≡ Some n → n.name ≢ m.name
  pub ids : (i j : ℕ) (m n : Message) (x y : ℕ) → i < j → slice_get ms i ≡ Some m → slice_get ms j ≡ Some n → m.id ≡ Some x → n.id ≡ Some y → y ≢ x

none_askable : (network : Network) → AreAskable network []
none_askable network = record {
  each = λ j m at. absurd (grind (arith, at));
  names = λ i j m n less at there. absurd (grind (arith, at));
  ids = λ i j m n x y less at there gives too. absurd (grind (arith, at));
}

one_more : {network : Network} {ms : List Message} {m : Message} → AreAskable network ms
    → IsAskable network m × IsOther ms m → AreAskable network (ms ++ m ∷ [])
one_more {network} {ms} {m} all own = record {
  each = λ j n at. elim (pushed ms m n j at) [
    | inl old ↦ all.each j n old
    | inr last ↦ subst (IsAskable network) last.1 own.0
  ];
  names = λ i j n k less at there. elim (pushed ms m k j there) [
    | inl old ↦ elim (pushed ms m n i at) [
      | inl too ↦ all.names i j n k less too old
      | inr last ↦
          let within = slice_get_within ms j k old in
          let place = last.0 in
          absurd (omega (arith, less, within, place))
    ]
    | inr last ↦ elim (pushed ms m n i at) [
      | inl too ↦ subst (λ (x : Message). x.name ≢ n.name) last.1 (own.1.name i n too)
      | inr also ↦
          let here = last.0 in
          let place = also.0 in
          absurd (omega (arith, less, here, place))
    ]
  ];
  ids = λ i j n k x y less at there gives too. elim (pushed ms m k j there) [
    | inl old ↦ elim (pushed ms m n i at) [
      | inl both ↦ all.ids i j n k x y less both old gives too
      | inr last ↦
          let within = slice_get_within ms j k old in
          let place = last.0 in
          absurd (omega (arith, less, within, place))
    ]
    | inr last ↦ elim (pushed ms m n i at) [
      | inl both ↦ own.1.id i x y n both gives (ap (λ (z : Message). z.id) last.1 ∙ too)
      | inr also ↦
          let here = last.0 in
          let place = also.0 in
          absurd (omega (arith, less, here, place))
    ]
  ];
}

abbrev ok_list : Result (List Message) RefusedLine → List Message
ok_list (Ok ms) = ms
ok_list (Err line) = []

module _ (network : Network) where
  all_from : (number : ℕ) (earlier : List Message) (lines : List (List ℕ)) (ms : List Message) → AreAskable network earlier
      → messages_from network number earlier lines ≡ Ok ms → AreAskable network ms
  unfolding messages_from
  all_from number earlier [] ms all read = subst (AreAskable network) (ap ok_list read) all
  all_from number earlier (line ∷ lines) ms all read =
      by_length (nat_lt line_limit (length line)) read
      (λ more. all_from (number + 1) earlier lines ms all more)
      (λ m own more. all_from (number + 1) (earlier ++ m ∷ []) lines ms (one_more all own) more)
    where
      by_message : (r : Read Message) → message_read network earlier line ≡ r
          → with_message number earlier r (λ ns. messages_from network (number + 1) ns lines) ≡ Ok ms
          → ((m : Message) → IsAskable network m × IsOther earlier m → messages_from network (number + 1) (earlier ++ m ∷ []) lines ≡ Ok ms → AreAskable network ms)
          → AreAskable network ms
      by_message (Err fault) at read one = absurd cc
      by_message (Ok m) at read one = one m (message_is network earlier line m at) read

      by_passed : (b : Bool)
          → cond b (messages_from network (number + 1) earlier lines)
          (with_message number earlier (message_read network earlier line) (λ ns. messages_from network (number + 1) ns lines)) ≡ Ok ms
          → (messages_from network (number + 1) earlier lines ≡ Ok ms → AreAskable network ms)
          → ((m : Message) → IsAskable network m × IsOther earlier m → messages_from network (number + 1) (earlier ++ m ∷ []) lines ≡ Ok ms → AreAskable network ms)
          → AreAskable network ms
      by_passed true read none one = none read
      by_passed false read none one = by_message (message_read network earlier line) refl read one

      by_length : (b : Bool)
          → cond b (refused number Long) (cond (is_passed line) (messages_from network (number + 1) earlier lines)
          (with_message number earlier (message_read network earlier line) (λ ns. messages_from network (number + 1) ns lines))) ≡ Ok ms
          → (messages_from network (number + 1) earlier lines ≡ Ok ms → AreAskable network ms)
          → ((m : Message) → IsAskable network m × IsOther earlier m → messages_from network (number + 1) (earlier ++ m ∷ []) lines ≡ Ok ms → AreAskable network ms)
          → AreAskable network ms
      by_length true read none one = absurd cc
      by_length false read none one = by_passed (is_passed line) read none one

  pub askable : (octets : List ℕ) (ms : List Message) → messages_read network octets ≡ Ok ms → AreAskable network ms
  askable octets ms read = all_from 1 [] (lines_of octets) ms (none_askable network) read

-- ---- the receivers of a line, one after another

-- what was read, and the words that it left
device_read : DeviceId → Read (DeviceId × List (List ℕ)) → DeviceId
device_read other (Ok step) = step.0
device_read other (Err fault) = other

words_left : List (List ℕ) → Read (DeviceId × List (List ℕ)) → List (List ℕ)
words_left other (Ok step) = step.1
words_left other (Err fault) = other

-- the words behind one more receiver
pub record IsNext (network : Network) (sender : DeviceId) (earlier : List DeviceId) (ws left : List (List ℕ)) (d : DeviceId) : Type 0 where
  pub same : receivers network sender earlier ws ≡ receivers network sender (earlier ++ d ∷ []) left
  pub fewer : length left < length ws

next_by : (network : Network) (sender : DeviceId) (earlier : List DeviceId) (word : List ℕ) (ws left : List (List ℕ)) (d : DeviceId) (r : Read DeviceId)
    → new_receiver sender earlier (end_system_spelled network word) ≡ r → with_rest ws r ≡ Ok (d, left) → IsNext network sender earlier (word ∷ ws) left d
unfolding device_read words_left
next_by network sender earlier word ws left d (Ok e) is read =
    let device : e ≡ d = ap (device_read e) read in
    let rest : ws ≡ left = ap (words_left ws) read in
    record {
      same = rw (is, device, rest) refl;
      fewer = omega (arith, ap length rest);
    }
next_by network sender earlier word ws left d (Err f) is read = absurd cc

pub receivers_next : (network : Network) (sender : DeviceId) (earlier : List DeviceId) (ws left : List (List ℕ)) (d : DeviceId)
    → receiver network sender earlier ws ≡ Ok (d, left) → IsNext network sender earlier ws left d
unfolding receiver
receivers_next network sender earlier [] left d read = absurd cc
receivers_next network sender earlier (word ∷ ws) left d read =
    next_by network sender earlier word ws left d (new_receiver sender earlier (end_system_spelled network word)) refl read

stops_by : (network : Network) (sender : DeviceId) (earlier : List DeviceId) (word : List ℕ) (ws : List (List ℕ)) (f : MessageRefusal) (r : Read DeviceId)
    → new_receiver sender earlier (end_system_spelled network word) ≡ r → with_rest ws r ≡ Err f
    → receivers network sender earlier (word ∷ ws) ≡ Err f
stops_by network sender earlier word ws f (Ok e) is read = absurd cc
stops_by network sender earlier word ws f (Err g) is read =
    let same : g ≡ f = cc in
    rw (is, same) refl

pub receivers_stop : (network : Network) (sender : DeviceId) (earlier : List DeviceId) (ws : List (List ℕ)) (f : MessageRefusal)
    → (ws ≡ [] → ⊥) → receiver network sender earlier ws ≡ Err f → receivers network sender earlier ws ≡ Err f
unfolding receiver
receivers_stop network sender earlier [] f some read = absurd (some refl)
receivers_stop network sender earlier (word ∷ ws) f some read =
    stops_by network sender earlier word ws f (new_receiver sender earlier (end_system_spelled network word)) refl read

-- where there is a word, the receivers are those behind none
pub receivers_first : (network : Network) (sender : DeviceId) (ws : List (List ℕ)) → (ws ≡ [] → ⊥)
    → some_receivers network sender ws ≡ receivers network sender [] ws
receivers_first network sender [] some = absurd (some refl)
receivers_first network sender (word ∷ ws) some = refl
