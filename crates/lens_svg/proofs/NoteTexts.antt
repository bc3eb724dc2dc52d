-- The texts of records and titles are short, and have no character that SVG reads as its own.
use Rattle.std.proofs.{Math.Seq.take-append_seam}
use Rattle.std.proofs.Common
use Common.{◌*◌, ◌++◌, ◌+◌, ◌-◌, ◌<◌, ◌∙◌, ◌∷◌, ◌≡◌, ◌≤◌, Bool, List, Some, [], ap, append_assoc, arith, false, get_or}
use Common.{length, length-append, nat_lt, not, refl, subst, suc, sym, take, true, ℕ}
use Rattle.std.proofs.lemmas.{Bool.and_parts, Fmt.length-decimal-le, Grind.flat_map-append, Int.ints}
use Rattle.std.proofs.lemmas.{Option.{get_or_from_slice_get, slice_get_within}}
use Rattle.std.proofs.lemmas.List.{Elements.{All-append, All-cons, All-nil, All-weaker}, Folds.list_all-append}
use Rattle.std.proofs.lemmas.List.{append-nil, take_all, take_more}
use Rattle.std.specs.{Fmt.signed_decimal, Int.{to_be_bytes, w32, w64}, List.{join_with_byte, list_all}}
use Rattle.std.specs.Prelude
use Prelude.{if◌then◌else◌, ◌&&◌, ◌==◌, ◌||◌, FitsSigned, codes, decimal, flat_map, nat_le, negsuc, pos, slice_get, ℤ}
use Rattle.hex.{proofs.HexLemmas.length-encode_with, specs.Hex.{encode_lower, lower_digits}}
use Rattle.lens_svg.specs.{Marking.{IsPlain, is_plain, title_room}}
use Rattle.lens_svg.specs.{Titles.{IsClosed, NoneOpens, cut_text, octet_text, word_text}}
use Rattle.net_plan.specs.{Belonging.{HasVl, vl_name}, Ranges.{IsInRange, IsVlInRange}}
use Rattle.net_plan.specs.{declared.{ids.VlId.VlId, network.Network.Network}}
use Rattle.report_text.proofs.{Characters.{IsVisible, decimal_visible, is_visible}, SameReports.note_parts}
use Rattle.report_text.proofs.Visible
use Visible.{AreOfLine, AreVisible, body_visible, device_short, joined_short, link_short, size, units_visible}
use Visible.{what_short}
use Rattle.report_text.specs.{NoteLine.{body_text, body_words, note_text}}
use Rattle.report_text.specs.{NoteWords.{judgement_text, members_text, reason_words, state_text, why_text}}
use Rattle.report_text.specs.{Ranges.{IsBodyInRange, IsBodyOf, IsNoteInRange, IsNoteOf, IsReasonInRange, IsShortCount}}
use Rattle.run_law.specs.declared.{judgement.{Judgement.Judgement, Reason.Reason, Why.Why}}
use Rattle.run_law.specs.declared.{note.{Note.Note, NoteBody.NoteBody}}
use Rattle.sync_state.specs.declared.state.State.{State}
use Rattle.trace_text.specs.Steps.{Words, space}
use Rattle.tte_io.proofs.Sizes.{size_most}
use Rattle.tte_units.{proofs.general_lemmas.Lists.{in_all, some_at}, specs.declared.frames.members.Members.Members}
use Rattle.run_law.specs.declared.judgement.Judgement.TheVariants as judgements
use Rattle.run_law.specs.declared.judgement.Reason.TheVariants as reasons
use Rattle.run_law.specs.declared.judgement.Why.TheVariants as whys
use Rattle.run_law.specs.declared.note.NoteBody.TheVariants as bodies
use Rattle.sync_state.specs.declared.state.State.TheVariants as states

-- ---- the text of a record has no character that SVG reads as its own

-- what is visible is plain
visible_plain : (text : List ℕ) → IsVisible text → IsPlain text
visible_plain text h = All-weaker (λ c. is_visible c ≡ true) (λ c. is_plain c ≡ true) (λ c e. (and_parts (nat_lt 32 c) (not (c == 60 || c == 38)) e).1) text h

-- so are two texts with a space between them
spaced_plain : (front back : List ℕ) → IsPlain front → IsPlain back → IsPlain (front ++ space ∷ back)
spaced_plain front back h g = All-append (λ c. is_plain c ≡ true) front (space ∷ back) h (All-cons (λ c. is_plain c ≡ true) space back refl g)

joined_plain : (ws : Words) → AreVisible ws → IsPlain (join_with_byte space ws)
joined_plain [] h = All-nil (λ c. is_plain c ≡ true)
joined_plain (w ∷ []) h = visible_plain w h.0
joined_plain (w ∷ v ∷ ws) h = spaced_plain w (join_with_byte space (v ∷ ws)) (visible_plain w h.0) (joined_plain (v ∷ ws) h.1)

line_plain : (ws : Words) → AreOfLine ws → IsPlain (join_with_byte space ws)
line_plain [] h = absurd h
line_plain (w ∷ ws) h = joined_plain (w ∷ ws) h

-- ---- the text

text_plain : (network : Network) (body : NoteBody) → IsInRange network → IsBodyOf network body → IsBodyInRange body → IsPlain (body_text network body)
unfolding body_text
text_plain network body n of_network h = line_plain (body_words network body) (body_visible network body n of_network h)

pub note_plain : (network : Network) (note : Note) → IsInRange network → IsNoteOf network note → IsNoteInRange note → IsPlain (note_text network note)
note_plain network note n of_network h =
    let number = decimal note.number in
    let time = signed_decimal note.time.0 in
    let body = body_text network note.body in
    subst IsPlain (sym (note_parts number time body))
    (spaced_plain number (time ++ space ∷ body) (visible_plain number (decimal_visible note.number h.number))
    (spaced_plain time body (visible_plain time (units_visible note.time h.time)) (text_plain network note.body n of_network h.body)))

-- ---- the text of a record is short: one word

vl_short : (network : Network) (v : VlId) → IsInRange network → HasVl network v → length (vl_name network v) ≤ 16
vl_short network v range of_network =
    let at = some_at network.vl v.0 of_network in
    rw at.1 (in_all (IsVlInRange network) network.vl v.0 at.0 range.vls at.1).name.short

state_short : (state : State) → length (state_text state) ≤ 12
state_short states.Off = omega arith
state_short state = omega arith

verdict_short : (verdict : Judgement) → length (judgement_text verdict) ≤ 12
verdict_short judgements.Opened = omega arith
verdict_short verdict = omega arith

why_short : (why : Why) → length (why_text why) ≤ 12
why_short whys.On = omega arith
why_short why = omega arith

-- a number with its sign
signed_short : (z : ℤ) → FitsSigned w64 z → length (signed_decimal z) ≤ 20
signed_short (pos n) fits = let most = length-decimal-le 19 n (omega arith) (omega (arith, ints, fits)) (omega (arith, ints, fits)) in omega (arith, most)
signed_short (negsuc n) fits =
    let most = length-decimal-le 19 (suc n) (omega arith) (omega (arith, ints, fits)) (omega (arith, ints, fits)) in omega (arith, most)

-- ---- the words of a record

reason_short : (reason : Reason) → IsReasonInRange reason → size (reason_words reason) ≤ 60
unfolding size
reason_short (reasons.RefusedLength n) h = let number = size_most n (omega (arith, h)) in omega (arith, number)
reason_short (reasons.RefusedReserved n) h = let number = size_most n (omega (arith, h)) in omega (arith, number)
reason_short (reasons.RefusedKind o) h =
    let digits : length (encode_lower (o ∷ [])) ≡ 2 * length (o ∷ []) = length-encode_with lower_digits (o ∷ []) in omega (arith, digits)
reason_short reason h = omega arith

members_short : (members : Members) → length (members_text members) ≤ 8
members_short members =
    let digits : length (members_text members) ≡ 2 * length (to_be_bytes w32 members.0) = length-encode_with lower_digits (to_be_bytes w32 members.0) in
    omega (arith, digits)

cycle_short : (cycle : ℕ) → IsShortCount cycle → length (decimal cycle) ≤ 20
cycle_short cycle h = size_most cycle (omega (arith, h))

body_short : (network : Network) (body : NoteBody) → IsInRange network → IsBodyOf network body → IsBodyInRange body → size (body_words network body) ≤ 3200
unfolding size
body_short network (bodies.Event line what) range of_network h =
    let number = size_most line h.0 in let words = what_short network what range of_network h.1 in omega (arith, number, words)
body_short network (bodies.Arrived d l n clock) range of_network h =
    let device = device_short network d range of_network.0 in let link = link_short network l range of_network.1 in
    let cause = size_most n h.0 in let last = size_most clock h.1 in omega (arith, device, link, cause, last)
body_short network (bodies.Permanent d l n point verdict) range of_network h =
    let device = device_short network d range of_network.0 in let link = link_short network l range of_network.1 in
    let cause = size_most n h.0 in let last = signed_short point.0 h.1 in let word = verdict_short verdict in omega (arith, device, link, cause, last, word)
body_short network (bodies.Compressed d opened sent cycle members verdict) range of_network h =
    let device = device_short network d range of_network in let first = signed_short opened.0 h.0 in let second = signed_short sent.0 h.1 in
    let third = cycle_short cycle h.2 in let set = members_short members in let word = verdict_short verdict in
    omega (arith, device, first, second, third, set, word)
body_short network (bodies.Sent d cycle) range of_network h =
    let device = device_short network d range of_network in let number = cycle_short cycle h in omega (arith, device, number)
body_short network (bodies.Corrected d cycle by adjustment) range of_network h =
    let device = device_short network d range of_network in let number = cycle_short cycle h.0 in
    let first = signed_short by.0 h.1 in let second = signed_short adjustment.0 h.2 in omega (arith, device, number, first, second)
body_short network (bodies.State d state n why) range of_network h =
    let device = device_short network d range of_network in let number = size_most n h in
    let first = state_short state in let second = why_short why in omega (arith, device, number, first, second)
body_short network (bodies.Left d l n clock) range of_network h =
    let device = device_short network d range of_network.0 in let link = link_short network l range of_network.1 in
    let cause = size_most n h.0 in let last = size_most clock h.1 in omega (arith, device, link, cause, last)
body_short network (bodies.Lost d l n) range of_network h =
    let device = device_short network d range of_network.0 in let link = link_short network l range of_network.1 in
    let cause = size_most n h in omega (arith, device, link, cause)
body_short network (bodies.TtSent d l n v cycle) range of_network h =
    let device = device_short network d range of_network.0 in let link = link_short network l range of_network.1 in
    let vl = vl_short network v range of_network.2 in
    let cause = size_most n h.0 in let number = cycle_short cycle h.1 in omega (arith, device, link, vl, cause, number)
body_short network (bodies.Accepted d l n v cycle) range of_network h =
    let device = device_short network d range of_network.0 in let link = link_short network l range of_network.1 in
    let vl = vl_short network v range of_network.2 in
    let cause = size_most n h.0 in let number = cycle_short cycle h.1 in omega (arith, device, link, vl, cause, number)
body_short network (bodies.Delivered d l n v cycle) range of_network h =
    let device = device_short network d range of_network.0 in let link = link_short network l range of_network.1 in
    let vl = vl_short network v range of_network.2 in
    let cause = size_most n h.0 in let number = cycle_short cycle h.1 in omega (arith, device, link, vl, cause, number)
body_short network (bodies.Dropped d l n reason) range of_network h =
    let device = device_short network d range of_network.0 in let link = link_short network l range of_network.1 in
    let cause = size_most n h.0 in let words = reason_short reason h.1 in omega (arith, device, link, cause, words)
body_short network (bodies.Clock d reading adjustment state) range of_network h =
    let device = device_short network d range of_network in let word = state_short state in
    let first = signed_short reading.0 h.0 in let second = signed_short adjustment.0 h.1 in omega (arith, device, first, second, word)

short_parts : (a b c : List ℕ) → length a ≤ 20 → length b ≤ 20 → length c ≤ 3200 → length (a ++ codes " " ++ b ++ codes " " ++ c) ≤ title_room
short_parts a b c first second third =
    let s = codes " " in
    omega (
      arith,
      first,
      second,
      third,
      length-append a s,
      length-append (a ++ s) b,
      length-append (a ++ s ++ b) s,
      length-append (a ++ s ++ b ++ s) c,
      length-append a (s ++ (b ++ (s ++ c))),
      length-append s (b ++ (s ++ c)),
      length-append b (s ++ c),
      length-append s c,
    )

-- the text of a record
pub note_short : (network : Network) (note : Note) → IsInRange network → IsNoteOf network note → IsNoteInRange note
    → length (note_text network note) ≤ title_room
unfolding body_text
note_short network note range of_network h =
    let number = size_most note.number h.number in
    let time = signed_short note.time.0 h.time in
    let words = body_short network note.body range of_network h.body in
    let body = body_text network note.body in
    let joined : length body ≤ size (body_words network note.body) = joined_short (body_words network note.body) in
    short_parts (decimal note.number) (signed_decimal note.time.0) body number time (omega (arith, words, joined))

-- a line without its LF
pub cut_line : (text line : List ℕ) → line ≡ text ++ codes "\n" → take (length line - 1) line ≡ text
cut_line text line is =
    let less : length line - 1 ≡ length text = omega (arith, ap length is, length-append text (codes "\n")) in
    ap (λ (k : ℕ). take k line) less ∙ ap (take (length text)) is ∙ take-append_seam text (codes "\n")

-- ---- how a title grows, and that no element begins in it: one piece more

flat_next : {X : Type 0} (f : X → List ℕ) (xs : List X) (n : ℕ) (d : X) → n < length xs
    → flat_map f (take n xs) ++ f (get_or xs n d) ≡ flat_map f (take (n + 1) xs)
flat_next {X = X} f xs n d within =
    let x = get_or xs n d in
    sym (ap (λ (ys : List X). flat_map f ys) (take_more xs n d within) ∙ flat_map-append f (take n xs) (x ∷ [])
    ∙ ap (λ (ls : List ℕ). flat_map f (take n xs) ++ ls) (append-nil (f x)))

pub text_more : {X : Type 0} (f : X → List ℕ) (front : List ℕ) (xs : List X) (n : ℕ) (d : X) → n < length xs → (old new : List ℕ)
    → old ≡ front ++ flat_map f (take n xs) → new ≡ old ++ f (get_or xs n d) → new ≡ front ++ flat_map f (take (n + 1) xs)
text_more f front xs n d within old new before next =
    let x = get_or xs n d in
    next ∙ ap (λ (ls : List ℕ). ls ++ f x) before ∙ append_assoc front (flat_map f (take n xs)) (f x)
    ∙ ap (λ (ls : List ℕ). front ++ ls) (flat_next f xs n d within)

-- the same, where the place is asked for
pub text_at : {X : Type 0} (f : X → List ℕ) (front : List ℕ) (xs : List X) (n : ℕ) (x : X) → slice_get xs n ≡ Some x → (old new : List ℕ)
    → old ≡ front ++ flat_map f (take n xs) → new ≡ old ++ f x → new ≡ front ++ flat_map f (take (n + 1) xs)
text_at {X = X} f front xs n x there old new before next =
    text_more f front xs n x (slice_get_within xs n x there) old new before
    (next ∙ ap (λ (y : X). old ++ f y) (sym (get_or_from_slice_get xs n x x there)))

-- and where there is none
pub text_end : {X : Type 0} (f : X → List ℕ) (front : List ℕ) (xs : List X) (n : ℕ) → length xs ≤ n → (old : List ℕ)
    → old ≡ front ++ flat_map f (take n xs) → old ≡ front ++ flat_map f (take (n + 1) xs)
text_end {X = X} f front xs n end old before =
    before ∙ ap (λ (ys : List X). front ++ flat_map f ys) (take_all n xs end ∙ sym (take_all (n + 1) xs (omega (arith, end))))

-- ---- no element begins

both : (a b : Bool) → a ≡ true → b ≡ true → (a && b) ≡ true
both true b p q = q
both false b p q = absurd cc

joined : (xs ys : List ℕ) → IsClosed xs → IsClosed ys → IsClosed (xs ++ ys)
joined xs ys p q =
    list_all-append (λ c. not (c == 60)) xs ys ∙ both (list_all (λ c. not (c == 60)) xs) (list_all (λ c. not (c == 60)) ys) p q

all_closed : {X : Type 0} (f : X → List ℕ) → ((x : X) → IsClosed (f x)) → (xs : List X) → IsClosed (flat_map f xs)
all_closed f each [] = refl
all_closed f each (x ∷ xs) = joined (f x) (flat_map f xs) (each x) (all_closed f each xs)

octet_closed : (c : ℕ) → IsClosed (octet_text c)
octet_closed c =
    by (c == 60) (c == 62) (c == 38) (nat_le 33 c && nat_le c 126) (λ none. ap (λ (b : Bool). not b && true) none)
  where
    by : (opens closes ands seen : Bool) → (opens ≡ false → IsClosed (c ∷ []))
        → IsClosed (if opens then codes "&lt;" else if closes then codes "&gt;" else if ands then codes "&amp;" else if seen then c ∷ [] else codes "?")
    by true closes ands seen own = refl
    by false true ands seen own = refl
    by false false true seen own = refl
    by false false false true own = own refl
    by false false false false own = refl

cut_closed : (word : List ℕ) → IsClosed (cut_text word)
cut_closed word = by (nat_le (length word) 60)
  where
    by : (b : Bool) → IsClosed (if b then flat_map octet_text word else flat_map octet_text (take 60 word) ++ codes "..")
    by true = all_closed octet_text octet_closed word
    by false = joined (flat_map octet_text (take 60 word)) (codes "..") (all_closed octet_text octet_closed (take 60 word)) refl

pub titles_closed : NoneOpens
titles_closed words =
    joined (codes "lens") (flat_map word_text (take 7 words)) refl
    (all_closed word_text (λ word. joined (codes " ") (cut_text word) refl (cut_closed word)) (take 7 words))
