-- What the words of a report's records tell, and how they are spelled and read back.
use Rattle.std.proofs.{Common.{◌-◌, drop}, Math.Nat.pow-le-pow_right}
use Rattle.std.proofs.lemmas.{Bool.Decides.nat_tests, Fmt.{decimal-digits_value, decimal_digit, decimal_injective}}
use Rattle.std.proofs.lemmas.{Int.Digits.digits_value-lt, Str.Parse.{IsNumeralModel, numerals_by_value, tells_digits}}
use Rattle.std.proofs.lemmas.List.{Elements.{All-cons, All-head, All-nil, All-tail}}
use Rattle.std.proofs.lemmas.List.{Splits.{join_with_byte-slice_split, slice_split_at, slice_split_none}}
use Rattle.std.proofs.lemmas.List.{length-take-le, take_at}
use Rattle.std.specs.{Char.to_ascii_lowercase, Cmp.Lexicographic.bytes_decides, Fmt.signed_decimal}
use Rattle.std.specs.{List.{AllPass, join_with_byte}, Prelude.{All, IfSome, MatchOption, bytes_eq, find, pos}}
use Rattle.std.specs.{Result.result_unwrap_or, Str.str_to_ascii_lowercase}
use Rattle.hex.specs.Hex.{encode_lower}
use Rattle.net_plan.specs.{Belonging.{HasDevice, IsOfNetwork, device_name}, Ranges.IsInRange}
use Rattle.net_plan.specs.{declared.ids.DeviceId.DeviceId}
use Rattle.report_text.proofs.{Characters.decimal_visible}
use Rattle.report_text.proofs.Visible.{AreOfLine, AreVisible, body_visible, units_visible, what_visible, words_of_line}
use Rattle.report_text.specs.{NoteLine.{body_text, body_words}, NoteWords.members_text}
use Rattle.report_text.specs.{Ranges.{IsShortCount, IsSignedUnits}}
use Rattle.run_law.specs.{declared.plain.bodies.PlainKind.PlainKind, plain.Bodies.body_of}
use Rattle.trace_text.{proofs.{EventsBack.{prints_back, words_back}, Splitting.decimal_is_word, WordsBack.units_back}}
use Rattle.trace_text.specs.{EventLine.{what_text, what_words}}
use Rattle.trace_text.specs.{EventReading.{event_read, event_reader, what_behind, what_reader}, Ranges.IsWhatInRange}
use Rattle.trace_text.specs.{Steps.{◌>>=◌, Read, Reader, and_then, give, is_space, line_end, outcome, space, words}}
use Rattle.trace_text.specs.{WordReading.event_word}
use Rattle.tte_audit.proofs.{ReportText.{events_on, fault_here, fault_on, few_events, right_none, right_on}}
use Rattle.tte_audit.proofs.Words.{◌++◌, ◌+◌, ◌<◌, ◌^◌, ◌∙◌, ◌∷◌, ◌≡◌, ◌≤◌, AllDigits, AreTold, Bool, Err, Event}
use Rattle.tte_audit.proofs.Words.{Follows, IsEventFault, IsReasonInRange, IsTextOf, Judgement, List, MayCome, Network}
use Rattle.tte_audit.proofs.Words.{None, Note, NoteBody, Ok, Option, Reason, Some, State, Units, What, Why, Words, []}
use Rattle.tte_audit.proofs.Words.{ap, append-nil, append_assoc, arith, behind_word, codes, decimal, digits_value}
use Rattle.tte_audit.proofs.Words.{events_of, false, get_or, head_word, is_some, judgement_text, kind_text, length}
use Rattle.tte_audit.proofs.Words.{length-append, note_text, reason_words, refl, rules, state_text, subst, sym, take}
use Rattle.tte_audit.proofs.Words.{true, why_text, with_event, ℕ}
use Rattle.tte_audit.specs.{Kinds.Tells, Named.IsNamed, Report.{HasNoEvent, saying}, Telling.AreFollowed}
use Rattle.tte_audit.specs.{declared.{kind.KindWord.KindWord, passes.RecordsTold.RecordsTold}}
use Rattle.tte_audit.specs.Spellings
use Spellings.{first_word, is_no_capital, judgement_spelled, kind_spelled, reason_spelled, state_spelled, why_spelled}
use Rattle.tte_units.{proofs.general_lemmas.{Lists.{differ, find_at, find_of, same_name}, Options.{none_at, some_of}}}
use Rattle.tte_units.{specs.{Amount.units_of, declared.frames.members.Members.Members}}
use Rattle.net_plan.specs.declared.event.What.TheVariants as events
use Rattle.run_law.specs.declared.judgement.Judgement.TheVariants as judgements
use Rattle.run_law.specs.declared.judgement.Reason.TheVariants as reasons
use Rattle.run_law.specs.declared.judgement.Why.TheVariants as whys
use Rattle.run_law.specs.declared.note.NoteBody.TheVariants as bodies
use Rattle.run_law.specs.declared.plain.bodies.PlainKind.TheVariants as said
use Rattle.sync_state.specs.declared.state.State.TheVariants as states
use Rattle.tte_audit.specs.declared.kind.KindWord.TheVariants as kinds

-- ---- when a text is the decimal of a number

own : IsNumeralModel (AllDigits 10) (digits_value 10)
own = numerals_by_value (AllDigits 10) tells_digits

-- some digits have a small value
pub few_digits : (text : List ℕ) (i : ℕ) → AllDigits 10 (take i text) → i < length text → i ≤ 18 → digits_value 10 (take i text) < 1000000000000000000
few_digits text i all below short =
    let value = digits_value-lt 10 (take i text) all in
    let long : length (take i text) ≡ i = length-take-le i text (omega (arith, below)) in
    let most = pow-le-pow_right {n = 10} (omega arith) {i = length (take i text)} {j = 18} (omega (arith, long, short)) in
    omega (arith, value, most)

-- digits at the front of a text that have no leading zero are the decimal of their value
pub decimal_front : (left front rest : List ℕ) (count number : ℕ) → front ≡ take count left → left ≡ front ++ rest → AllDigits 10 (take count left)
    → number ≡ digits_value 10 (take count left) → 0 < count → count ≤ length left → (get_or front 0 0 ≡ 48 → length front ≤ 1) → number < 2 ^ 64
    → left ≡ decimal number ++ rest
decimal_front left front rest count number is parts all value some within plain bound =
    let same : number ≡ digits_value 10 front = value ∙ ap (digits_value 10) (sym is) in
    let digits : AllDigits 10 front = subst (AllDigits 10) (sym is) all in
    let long : length front ≡ count = ap length is ∙ length-take-le count left within in
    let whole : decimal (digits_value 10 front) ≡ front = decimal-digits_value own front digits (omega (arith, long, some))
    (λ zero. omega (arith, plain zero, long, some)) (omega (arith, same, bound)) in
    parts ∙ ap (λ (t : List ℕ). t ++ rest) (sym whole ∙ ap decimal (sym same))

-- a number is the only word of its text, or the first one where a space follows
pub number_alone : (text rest : List ℕ) (n : ℕ) → n < 2 ^ 64 → text ≡ decimal n ++ rest → rest ≡ [] → words text ≡ decimal n ∷ []
number_alone text rest n range e none =
    ap words (e ∙ ap (λ (t : List ℕ). decimal n ++ t) none ∙ append-nil (decimal n)) ∙ slice_split_none is_space (decimal n) (decimal_is_word n range)

pub number_first : (text rest behind : List ℕ) (n : ℕ) → n < 2 ^ 64 → text ≡ decimal n ++ rest → rest ≡ space ∷ behind → words text ≡ decimal n ∷ words behind
number_first text rest behind n range e parts =
    ap words (e ∙ ap (λ (t : List ℕ). decimal n ++ t) parts) ∙ slice_split_at is_space (decimal n) space behind (decimal_is_word n range) refl

-- the first word is the decimal of one number alone
pub first_number : (ws rest : Words) (m n : ℕ) → m < 2 ^ 64 → n < 2 ^ 64 → ws ≡ decimal m ∷ rest → first_word ws ≡ Some (decimal n) → m ≡ n
first_number ws rest m n small range is first = decimal_injective m n small range (same_name (decimal m) (decimal n) (sym (ap first_word is) ∙ first))

-- ---- what a record says is an event, or words of a kind of record tell it

-- a record without an event begins with the word of a kind
pub record HasKind (ws : Words) : Type 0 where
  pub kind : KindWord
  pub is : first_word ws ≡ Some (kind_text kind)

pub has_kind : (network : Network) (p : PlainKind) → HasKind (body_words network (body_of p))
has_kind network (said.Arrived d l cause clock) = record { kind = kinds.Arrived; is = refl }
has_kind network (said.Permanent d l cause point verdict) = record { kind = kinds.Permanent; is = refl }
has_kind network (said.Compressed d opened at cycle m verdict) = record { kind = kinds.Compressed; is = refl }
has_kind network (said.Sent d cycle) = record { kind = kinds.Sent; is = refl }
has_kind network (said.Corrected d cycle by adjustment) = record { kind = kinds.Corrected; is = refl }
has_kind network (said.State d new cause y) = record { kind = kinds.State; is = refl }
has_kind network (said.Left d l cause clock) = record { kind = kinds.Left; is = refl }
has_kind network (said.Lost d l cause) = record { kind = kinds.Lost; is = refl }
has_kind network (said.TtSent d l cause v cycle) = record { kind = kinds.TtSent; is = refl }
has_kind network (said.Accepted d l cause v cycle) = record { kind = kinds.Accepted; is = refl }
has_kind network (said.Delivered d l cause v cycle) = record { kind = kinds.Delivered; is = refl }
has_kind network (said.Dropped d l cause r) = record { kind = kinds.Dropped; is = refl }
has_kind network (said.Clock d reading adjustment last) = record { kind = kinds.Clock; is = refl }

-- the text is that of no record without an event
abbrev pub IsOfNoPlain : Network → List ℕ → Type 0
IsOfNoPlain network text = (number : ℕ) (time : Units) (p : PlainKind) → IsTextOf network (saying number time (body_of p)) text → ⊥

-- the text is that of no record of an event
abbrev pub IsOfNoEvent : Network → List ℕ → Type 0
IsOfNoEvent network text = (number : ℕ) (time : Units) (line : ℕ) (w : What) → IsTextOf network (saying number time (bodies.Event line w)) text → ⊥

module _ (network : Network) (text : List ℕ) where
  no_plain_says : IsOfNoPlain network text → (number : ℕ) (time : Units) (b : NoteBody)
      → IsTextOf network (saying number time b) text → HasNoEvent b → ⊥
  no_plain_says plain n t (bodies.Event line w) h quiet = quiet
  no_plain_says plain n t (bodies.Arrived d l cause clock) h quiet = plain n t (said.Arrived d l cause clock) h
  no_plain_says plain n t (bodies.Permanent d l cause point verdict) h quiet =
      plain n t (said.Permanent d l cause point verdict) h
  no_plain_says plain n t (bodies.Compressed d opened at cycle m verdict) h quiet =
      plain n t (said.Compressed d opened at cycle m verdict) h
  no_plain_says plain n t (bodies.Sent d cycle) h quiet = plain n t (said.Sent d cycle) h
  no_plain_says plain n t (bodies.Corrected d cycle by adjustment) h quiet =
      plain n t (said.Corrected d cycle by adjustment) h
  no_plain_says plain n t (bodies.State d new cause y) h quiet = plain n t (said.State d new cause y) h
  no_plain_says plain n t (bodies.Left d l cause clock) h quiet = plain n t (said.Left d l cause clock) h
  no_plain_says plain n t (bodies.Lost d l cause) h quiet = plain n t (said.Lost d l cause) h
  no_plain_says plain n t (bodies.TtSent d l cause v cycle) h quiet = plain n t (said.TtSent d l cause v cycle) h
  no_plain_says plain n t (bodies.Accepted d l cause v cycle) h quiet = plain n t (said.Accepted d l cause v cycle) h
  no_plain_says plain n t (bodies.Delivered d l cause v cycle) h quiet = plain n t (said.Delivered d l cause v cycle) h
  no_plain_says plain n t (bodies.Dropped d l cause r) h quiet = plain n t (said.Dropped d l cause r) h
  no_plain_says plain n t (bodies.Clock d reading adjustment last) h quiet =
      plain n t (said.Clock d reading adjustment last) h

  no_event_says : IsOfNoEvent network text → (number : ℕ) (time : Units) (b : NoteBody)
      → IsTextOf network (saying number time b) text → HasNoEvent b
  no_event_says event n t (bodies.Event line w) h = absurd (event n t line w h)
  no_event_says event n t other h = tt

abbrev said_text : (network : Network) (text : List ℕ) (note : Note) → IsTextOf network note text
    → IsTextOf network (saying note.number note.time note.body) text
said_text network text note h = record {
  of_network = h.of_network;
  in_range = record { number = h.in_range.number; time = h.in_range.time; body = h.in_range.body };
  same = h.same;
}

module _ (network : Network) (text : List ℕ) where
  -- a text of no record without an event is not that of such a record
  pub no_plain_read : IsOfNoPlain network text → {note : Note} → IsTextOf network note text → HasNoEvent note.body → ⊥
  no_plain_read plain {note} h =
      no_plain_says network text plain note.number note.time note.body (said_text network text note h)

  -- and one of no record of an event is not that of any
  pub no_event_read : IsOfNoEvent network text → {note : Note} → IsTextOf network note text → HasNoEvent note.body
  no_event_read event {note} h =
      no_event_says network text event note.number note.time note.body (said_text network text note h)

  pub none_read : IsOfNoPlain network text → IsOfNoEvent network text → (note : Note) → IsTextOf network note text → ⊥
  none_read plain event note h = no_plain_read plain h (no_event_read event h)

-- what holds where there is no answer may be put in other words
pub with_none : {A : Type 0} {P Q : Type 0} (S : A → Type 0) (r : Option A) → (P → Q) → MatchOption r P S → MatchOption r Q S
with_none S None f h = f h
with_none S (Some x) f h = h

-- ---- the kinds with most words

-- no record of the kind is told by the words behind that of the kind
abbrev pub TellsNone : Network → KindWord → Words → Type 0
TellsNone network kind ws = (p : PlainKind) → Tells network kind ws p → ⊥

-- the words of a record of another kind begin otherwise
other_kind : (network : Network) (kind : KindWord) (ws : Words) (p : PlainKind) → bytes_eq (kind_text kind) (head_word (body_words network (body_of p))) ≡ false
    → Tells network kind ws p → ⊥
other_kind network kind ws p apart t = differ (kind_text kind) (head_word (body_words network (body_of p))) apart (ap head_word t.2)

pub none_compressed : (network : Network) (ws : Words)
    → ((d : DeviceId) (opened at : Units) (cycle : ℕ) (m : Members) (verdict : Judgement) → HasDevice network d → IsSignedUnits opened → IsSignedUnits at
    → IsShortCount cycle → IsShortCount m.0
    → ws ≡ device_name network d ∷ codes "opened" ∷ signed_decimal opened.0 ∷ codes "at" ∷ signed_decimal at.0 ∷ codes "cycle" ∷ decimal cycle
    ∷ codes "members" ∷ members_text m ∷ judgement_text verdict ∷ [] → ⊥) → TellsNone network kinds.Compressed ws
none_compressed network ws none (said.Compressed d opened at cycle m verdict) t =
    none d opened at cycle m verdict t.0 t.1.0 t.1.1 t.1.2 t.1.3 (ap behind_word t.2)
none_compressed network ws none other t = other_kind network kinds.Compressed ws other refl t

pub none_clock : (network : Network) (ws : Words)
    → ((d : DeviceId) (reading adjustment : Units) (last : State) → HasDevice network d → IsSignedUnits reading → IsSignedUnits adjustment
    → ws ≡ device_name network d ∷ codes "reading" ∷ signed_decimal reading.0 ∷ codes "adj" ∷ signed_decimal adjustment.0 ∷ codes "state"
    ∷ state_text last ∷ [] → ⊥) → TellsNone network kinds.Clock ws
none_clock network ws none (said.Clock d reading adjustment last) t = none d reading adjustment last t.0 t.1.0 t.1.1 (ap behind_word t.2)
none_clock network ws none other t = other_kind network kinds.Clock ws other refl t

-- ---- the words of a record's text

-- a record has a word at least, that of its kind
body_words_are : (network : Network) (b : NoteBody) → body_words network b ≡ head_word (body_words network b) ∷ behind_word (body_words network b)
body_words_are network (bodies.Event line w) = refl
body_words_are network other = refl

-- two words and more, joined by spaces
joined : (number time w : List ℕ) (ws : Words)
    → number ++ codes " " ++ time ++ codes " " ++ join_with_byte space (w ∷ ws) ≡ join_with_byte space (number ∷ time ∷ w ∷ ws)
joined number time w ws = simp append_assoc refl

text_joined : (network : Network) (note : Note)
    → note_text network note ≡ join_with_byte space (decimal note.number ∷ signed_decimal note.time.0 ∷ body_words network note.body)
unfolding body_text
text_joined network note =
    let number = decimal note.number in
    let time = signed_decimal note.time.0 in
    subst (λ (ws : Words). number ++ codes " " ++ time ++ codes " " ++ join_with_byte space ws ≡ join_with_byte space (number ∷ time ∷ ws))
    (sym (body_words_are network note.body))
    (joined number time (head_word (body_words network note.body)) (behind_word (body_words network note.body)))

some_visible : (ws : Words) → AreOfLine ws → AreVisible ws
some_visible [] h = absurd h
some_visible (w ∷ ws) h = h

-- the words of a record's text: its number, its time, and those of what it says
pub words_of_text : (network : Network) (note : Note) (text : List ℕ) → IsInRange network → IsTextOf network note text
    → words text ≡ decimal note.number ∷ signed_decimal note.time.0 ∷ body_words network note.body
words_of_text network note text in_range h =
    let body = body_visible network note.body in_range h.of_network h.in_range.body in
    ap words (h.same ∙ text_joined network note)
    ∙ words_of_line (decimal note.number ∷ signed_decimal note.time.0 ∷ body_words network note.body)
    (decimal_visible note.number h.in_range.number, (units_visible note.time h.in_range.time, some_visible (body_words network note.body) body))

-- the front of a line is its text
pub front_of_line : (text shown full : List ℕ) → full ≡ shown ++ codes "\n" → length full ≡ length text + 1 → take (length text) full ≡ shown
front_of_line text shown full e len =
    let same : length shown ≡ length text = omega (arith, ap length e, length-append shown (codes "\n"), len) in
    ap (take (length text)) e ∙ take_at shown (codes "\n") (length text) same

-- and such words make the text
pub text_of_words : (network : Network) (note : Note) (text : List ℕ)
    → words text ≡ decimal note.number ∷ signed_decimal note.time.0 ∷ body_words network note.body → text ≡ note_text network note
text_of_words network note text e = sym (join_with_byte-slice_split space text) ∙ ap (join_with_byte space) e ∙ sym (text_joined network note)

-- ---- what befalls the network, as it is read from the words that it was written for, and as it was written for these

-- the value that was read, if one was
abbrev pub value_read : Read (What × Words) → Option What
value_read (Ok step) = Some step.0
value_read (Err fault) = None

pub same_read : (r : Read (What × Words)) (one other : Read (What × Words)) → r ≡ one → r ≡ other → value_read one ≡ value_read other
same_read r one other a b = ap value_read (sym a ∙ b)

-- ---- what is read behind a time is an event, and no word is left

abbrev IsTimed : Units → What → Words → Read (Event × Words) → Type 0
IsTimed time what left r = (left ≡ []) × (r ≡ Ok (record { time = time; what = what }, []))

timed_end : (time : Units) (read what : What) (ws left : Words) → and_then (line_end ws) (λ end. give read) ≡ Ok (what, left)
    → IsTimed time what left (and_then (line_end ws) (λ end. give (record { time = time; what = read })))
unfolding line_end
timed_end time read what [] left e =
    let pairs : ◌≡◌ {A = What × Words} (read, []) (what, left) = ap (λ (r : Read (What × Words)). result_unwrap_or r (read, [])) e in
    (sym (ap (λ (p : What × Words). p.1) pairs), ap (λ (p : What × Words). Ok (record { time = time; what = p.0 }, [])) pairs)
timed_end time read what (w ∷ ws) left e = absurd (cc e)

timed_what : (time : Units) (r : Read (What × Words)) (what : What) (left : Words)
    → and_then r (λ read. line_end >>= λ end. give read) ≡ Ok (what, left)
    → IsTimed time what left (and_then r (λ read. line_end >>= λ end. give (record { time = time; what = read })))
timed_what time (Ok step) what left e = timed_end time step.0 what step.1 left e
timed_what time (Err fault) what left e = absurd (cc e)

timed_word : {W : Type 0} (time : Units) (behind : W → Reader What) (r : Read (W × Words)) (what : What) (left : Words)
    → and_then r (λ word. behind word >>= λ read. line_end >>= λ end. give read) ≡ Ok (what, left)
    → IsTimed time what left (and_then r (λ word. behind word >>= λ read. line_end >>= λ end. give (record { time = time; what = read })))
timed_word time behind (Ok step) what left e = timed_what time (behind step.0 step.1) what left e
timed_word time behind (Err fault) what left e = absurd (cc e)

timed : (network : Network) (ws : Words) (what : What) (left : Words) → what_reader network ws ≡ Ok (what, left)
    → IsTimed (units_of 0) what left (event_reader network (signed_decimal (pos 0) ∷ ws))
unfolding what_reader event_reader
timed network ws what left e =
    rw (units_back (units_of 0) ws (record { least = omega arith; most = omega arith })) (timed_word (units_of 0) (what_behind network) (event_word ws) what left e)

-- ---- capital letters

small : (c : ℕ) → is_no_capital c ≡ true → to_ascii_lowercase c ≡ c
small c h = grind (arith, nat_tests)

no_capital : (c : ℕ) → to_ascii_lowercase c ≡ c → is_no_capital c ≡ true
no_capital c h = grind (arith, nat_tests)

lowered : (text : List ℕ) → AllPass is_no_capital text → str_to_ascii_lowercase text ≡ text
lowered [] h = refl
lowered (c ∷ cs) h =
    let P = λ (x : ℕ). is_no_capital x ≡ true in
    ap (λ (x : ℕ). x ∷ str_to_ascii_lowercase cs) (small c (All-head P c cs h)) ∙ ap (λ (t : List ℕ). c ∷ t) (lowered cs (All-tail P c cs h))

no_capitals : (text : List ℕ) → str_to_ascii_lowercase text ≡ text → AllPass is_no_capital text
no_capitals [] e = All-nil (λ (x : ℕ). is_no_capital x ≡ true)
no_capitals (c ∷ cs) e =
    let head : to_ascii_lowercase c ≡ c = cc in
    let tail : str_to_ascii_lowercase cs ≡ cs = cc in
    All-cons (λ (x : ℕ). is_no_capital x ≡ true) c cs (no_capital c head) (no_capitals cs tail)

-- ---- the text

-- what is read of a text is written so, but for capital letters
text_read : (network : Network) (text : List ℕ) (what : What) (left : Words) → IsInRange network → what_reader network (words text) ≡ Ok (what, left)
    → (left ≡ []) × (what_text network what ≡ str_to_ascii_lowercase text)
unfolding event_read
text_read network text what left n e =
    let is = timed network (words text) what left e in
    let zero : signed_decimal (pos 0) ≡ codes "0" = decimal_digit 0 (omega arith) in
    let line = subst (λ (w : List ℕ). event_reader network (w ∷ words text) ≡ Ok (record { time = units_of 0; what = what }, [])) zero is.1 in
    let back = prints_back network (codes "0 " ++ text) (record { time = units_of 0; what = what }) n (ap outcome line) in
    let same = subst (λ (w : List ℕ). w ++ codes " " ++ what_text network what ≡ str_to_ascii_lowercase (codes "0 " ++ text)) zero back in
    (is.0, ap (drop 2) same)

are_of_line : (network : Network) (what : What) → AreVisible (what_words network what) → AreOfLine (what_words network what)
are_of_line network (events.Rate d r) h = h
are_of_line network other h = h

-- where no letter of a text is a capital, its words are those of what is read of it
pub words_read : (network : Network) (text : List ℕ) (what : What) (left : Words) → IsInRange network → IsOfNetwork network what → IsWhatInRange what
    → AllPass is_no_capital text → what_reader network (words text) ≡ Ok (what, left) → words text ≡ what_words network what
unfolding what_text
words_read network text what left n of_network range small e =
    let read = text_read network text what left n e in
    ap words (sym (lowered text small) ∙ sym read.1)
    ∙ words_of_line (what_words network what) (are_of_line network what (what_visible network what n of_network range))

-- what is written of an event has no capital letter
pub written_small : (network : Network) (text : List ℕ) (what : What) → IsNamed network → IsOfNetwork network what → IsWhatInRange what
    → words text ≡ what_words network what → AllPass is_no_capital text
unfolding what_text
written_small network text what named of_network range e =
    let back = ap (what_reader network) e ∙ words_back network what named.devices named.links of_network range in
    let read = text_read network text what [] named.in_range back in
    let whole : text ≡ what_text network what = sym (join_with_byte-slice_split space text) ∙ ap (join_with_byte space) e in
    no_capitals text (sym read.1 ∙ sym whole)

-- an event is written in some words
pub some_words : (network : Network) (what : What) → what_words network what ≡ [] → ⊥
some_words network (events.Rate d r) e = cc e
some_words network other e = cc e

-- ---- a word that was found among some is the word of what was found

found : {X : Type 0} (text : X → List ℕ) (xs : List X) (word : List ℕ) (r : Option X) → r ≡ find (λ x. bytes_eq (text x) word) xs
    → IfSome r (λ x. word ≡ text x)
found text xs word None e = tt
found text xs word (Some x) e =
    let h = find_at (λ x. bytes_eq (text x) word) xs x (sym e) in
    sym ((bytes_decides (text x) word).0 h.2)

pub kind_found : (word : List ℕ) (r : Option KindWord) → r ≡ kind_spelled word → IfSome r (λ kind. word ≡ kind_text kind)
unfolding kind_spelled
kind_found word r e = found kind_text (kinds.Arrived ∷ kinds.Permanent ∷ kinds.Compressed ∷ kinds.Sent ∷ kinds.Corrected ∷ kinds.State
    ∷ kinds.Left ∷ kinds.Lost ∷ kinds.TtSent ∷ kinds.Accepted ∷ kinds.Delivered ∷ kinds.Dropped ∷ kinds.Clock ∷ []) word r e

pub state_found : (word : List ℕ) (r : Option State) → r ≡ state_spelled word → IfSome r (λ x. word ≡ state_text x)
unfolding state_spelled
state_found word r e = found state_text (states.Off ∷ states.Integrating ∷ states.Joining ∷ states.Synchronised ∷ []) word r e

pub judgement_found : (word : List ℕ) (r : Option Judgement) → r ≡ judgement_spelled word → IfSome r (λ x. word ≡ judgement_text x)
unfolding judgement_spelled
judgement_found word r e = found judgement_text (judgements.Opened ∷ judgements.Joined ∷ judgements.Repeat ∷ judgements.Within ∷ judgements.Outside
    ∷ judgements.Integrates ∷ judgements.Ignored ∷ []) word r e

pub why_found : (word : List ℕ) (r : Option Why) → r ≡ why_spelled word → IfSome r (λ x. word ≡ why_text x)
unfolding why_spelled
why_found word r e = found why_text (whys.On ∷ whys.Frame ∷ whys.Correction ∷ whys.SyncClique ∷ whys.AsyncClique ∷ []) word r e

-- a reason of one word
abbrev IsOfOneWord : Reason → Type 0
IsOfOneWord r = IsReasonInRange r × (reason_words r ≡ head_word (reason_words r) ∷ [])

abbrev one_word_reasons : List Reason
one_word_reasons = reasons.Off ∷ reasons.ColdStart ∷ reasons.Domain ∷ reasons.Member ∷ reasons.Old ∷ reasons.Gate ∷ reasons.Cycle
    ∷ reasons.Unsynchronised ∷ reasons.Unknown ∷ reasons.Length ∷ reasons.Early ∷ reasons.Late ∷ reasons.Repeat ∷ []

all_of_one_word : All IsOfOneWord one_word_reasons
all_of_one_word = search rules

pub reason_found : (word : List ℕ) (r : Option Reason) → r ≡ reason_spelled word → IfSome r (λ r. IsReasonInRange r × (reason_words r ≡ word ∷ []))
unfolding reason_spelled
reason_found word None e = tt
reason_found word (Some r) e =
    let test = λ (x : Reason). bytes_eq (head_word (reason_words x)) word in
    let one = find_of IsOfOneWord test one_word_reasons r all_of_one_word (sym e) in
    let h = find_at test one_word_reasons r (sym e) in
    (one.0, one.1 ∙ ap (λ (w : List ℕ). w ∷ []) ((bytes_decides (head_word (reason_words r)) word).0 h.2))

-- ---- the words of records are spelled back

pub state_back : (state : State) → state_spelled (state_text state) ≡ Some state
unfolding state_spelled
state_back states.Off = refl
state_back other = refl

pub judgement_back : (verdict : Judgement) → judgement_spelled (judgement_text verdict) ≡ Some verdict
unfolding judgement_spelled
judgement_back judgements.Opened = refl
judgement_back other = refl

pub why_back : (why : Why) → why_spelled (why_text why) ≡ Some why
unfolding why_spelled
why_back whys.On = refl
why_back other = refl

pub kind_back : (kind : KindWord) → kind_spelled (kind_text kind) ≡ Some kind
unfolding kind_spelled
kind_back kinds.Arrived = refl
kind_back other = refl

-- ---- reasons

-- a reason of one word is found by it
pub reason_back : (r : Reason) (word : List ℕ) → reason_words r ≡ word ∷ [] → reason_spelled word ≡ Some r
unfolding reason_spelled
reason_back (reasons.RefusedLength n) word e = absurd (cc e)
reason_back reasons.RefusedEtherType word e = absurd (cc e)
reason_back (reasons.RefusedReserved n) word e = absurd (cc e)
reason_back (reasons.RefusedKind o) word e = absurd (cc e)
reason_back reason word e = ap reason_spelled (sym (ap head_word e))

-- a reason whose second word is that of a type
pub record IsOfType (rest : Words) : Type 0 where
  pub octet : ℕ
  pub range : octet < 2 ^ 8
  pub digits : rest ≡ encode_lower (octet ∷ []) ∷ []

pub of_type : (r : Reason) (rest : Words) → IsReasonInRange r → codes "refused" ∷ codes "type" ∷ rest ≡ reason_words r → IsOfType rest
of_type (reasons.RefusedKind n) rest range e = record { octet = n; range = range; digits = ap (λ ws. behind_word (behind_word ws)) e }
of_type other rest range e =
    absurd (differ (head_word (behind_word (reason_words other))) (codes "type") refl (sym (ap (λ ws. head_word (behind_word ws)) e)))

-- ---- the records of a report are told one by one

abbrev Judged : Network → List Note → RecordsTold → Option ℕ → Type 0
Judged network notes told fault = MatchOption fault (AreFollowed network notes told) (λ n. IsEventFault network notes n)

module _ (network : Network) (notes : List Note) (told : RecordsTold) where
  pub followed : AreTold network notes told → is_some told.fault ≡ false → AreFollowed network notes told
  followed h none = subst (Judged network notes told) (none_at told.fault none) h.judged

  pub faulty : (n : ℕ) → AreTold network notes told → told.fault ≡ Some n → IsEventFault network notes n
  faulty n h some = subst (Judged network notes told) some h.judged

  pub few : AreTold network notes told → is_some told.fault ≡ false → told.befallen.count ≤ told.records
  few h none =
      let own = followed h none in
      omega (arith, own.follows.counted, few_events notes, h.counted)

pub none_told : {network : Network} (told : RecordsTold) → told.records ≡ 0 → told.fault ≡ None
    → Follows network told.befallen.watch told.befallen.history told.befallen.count told.befallen.end []
    → AreTold network [] told
none_told {network} told zero none follows =
    record { counted = zero; judged = subst (Judged network [] told) (sym none) (record { right = right_none network; follows = follows }) }

one_more : (notes : List Note) (note : Note) (k n : ℕ) → k ≡ length notes → n ≡ k + 1 → n ≡ length (notes ++ note ∷ [])
one_more notes note k n counted next = omega (arith, counted, next, length-append notes (note ∷ []))

module _ {network : Network} {notes : List Note} (note : Note) {old : RecordsTold} (new : RecordsTold)
    (h : AreTold network notes old) where
  -- behind a fault
  pub fault_stays : is_some old.fault ≡ true → new.fault ≡ old.fault → new.records ≡ old.records + 1
      → AreTold network (notes ++ note ∷ []) new
  fault_stays some same next =
      let at = some_of old.fault some in
      record {
        counted = one_more notes note old.records new.records h.counted next;
        judged = subst (Judged network (notes ++ note ∷ []) new) (sym (same ∙ at.1))
            (fault_on note (faulty network notes old at.0 h at.1));
      }

  -- a record that may come
  pub goes_on : is_some old.fault ≡ false → new.fault ≡ old.fault → new.records ≡ old.records + 1
      → MayCome network (events_of notes) note.time note.body
      → Follows network new.befallen.watch new.befallen.history new.befallen.count new.befallen.end
      (with_event (events_of notes) note.time note.body) → AreTold network (notes ++ note ∷ []) new
  goes_on none same next may follows =
      let own = followed network notes old h none in
      record {
        counted = one_more notes note old.records new.records h.counted next;
        judged = subst (Judged network (notes ++ note ∷ []) new) (sym (same ∙ none_at old.fault none)) (record {
          right = right_on network notes note own.right may;
          follows = subst (λ es. Follows network new.befallen.watch new.befallen.history
              new.befallen.count new.befallen.end es)
              (sym (events_on notes note)) follows;
        });
      }

  -- a record that may not
  pub stops : is_some old.fault ≡ false → new.fault ≡ Some new.records → new.records ≡ old.records + 1
      → (MayCome network (events_of notes) note.time note.body → ⊥) → AreTold network (notes ++ note ∷ []) new
  stops none here next wrong =
      let own = followed network notes old h none in
      record {
        counted = one_more notes note old.records new.records h.counted next;
        judged = subst (Judged network (notes ++ note ∷ []) new) (sym here)
            (fault_here network notes note new.records own.right wrong (next ∙ ap (λ k. k + 1) h.counted));
      }

-- ---- records without an event

-- it may come, and adds no event
pub record GoesBy (network : Network) (befallen : List Event) (time : Units) (body : NoteBody) : Type 0 where
  pub may : MayCome network befallen time body
  pub same : with_event befallen time body ≡ befallen

module _ (network : Network) (befallen : List Event) (time : Units) where
  pub goes_by : (body : NoteBody) → HasNoEvent body → GoesBy network befallen time body
  goes_by (bodies.Event line what) h = absurd h
  goes_by body h = record { may = tt; same = refl }

module _ (network : Network) (notes : List Note) (note : Note) (old new : RecordsTold) where
  by_fault : (b : Bool) → is_some old.fault ≡ b → AreTold network notes old → HasNoEvent note.body
      → new.fault ≡ old.fault → new.records ≡ old.records + 1 → new.befallen ≡ old.befallen
      → AreTold network (notes ++ note ∷ []) new
  by_fault true e told quiet fault next befallen = fault_stays note new told e fault next
  by_fault false e told quiet fault next befallen =
      let by = goes_by network (events_of notes) note.time note.body quiet in
      let own = (followed network notes old told e).follows in
      let moved = subst (λ b. Follows network b.watch b.history b.count b.end (events_of notes)) (sym befallen) own in
      goes_on note new told e fault next by.may
      (subst (λ es. Follows network new.befallen.watch new.befallen.history new.befallen.count
      new.befallen.end es) (sym by.same) moved)

  -- one record more that has no event
  pub passed_on : AreTold network notes old → HasNoEvent note.body → new.fault ≡ old.fault
      → new.records ≡ old.records + 1 → new.befallen ≡ old.befallen → AreTold network (notes ++ note ∷ []) new
  passed_on told quiet fault next befallen =
      by_fault (is_some old.fault) refl told quiet fault next befallen
