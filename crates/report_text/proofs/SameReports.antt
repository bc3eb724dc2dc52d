-- Words of one spelling are one, and so are records and reports of one text.
use Rattle.std.proofs.Common
use Common.{◌++◌, ◌<◌, ◌^◌, ◌∙◌, ◌∷◌, ◌≡◌, ◌≢◌, Err, List, Ok, Some, [], ap, append_assoc, arith, drop, length-append}
use Common.{refl, subst, sym, take, ℕ}
use Rattle.std.proofs.lemmas.{Fmt.{decimal_injective, signed_decimal_injective}, Int.ints}
use Rattle.std.proofs.lemmas.{List.Elements.{All-head, All-tail}, Nat.from_be_bytes-to_be_bytes_4}
use Rattle.std.specs.{Fmt.signed_decimal, Int.{from_be_bytes, to_be_bytes, w32}, List.concat, Option.option_map_or}
use Rattle.std.specs.{Prelude.{Result, codes, decimal, get_or, length, slice_get}}
use Rattle.hex.specs.Hex.{encode_lower}
use Rattle.net_plan.specs.{Belonging.{HasDevice, HasLink, HasVl, IsOfNetwork, device_name, link_name, vl_name}}
use Rattle.net_plan.specs.{Ranges.IsInRange, Rules.{DeviceIsNew, LinkIsNew}}
use Rattle.net_plan.specs.declared.{event.{Event.Event, What.What}, ids.{DeviceId.DeviceId, LinkId.LinkId, VlId.VlId}}
use Rattle.net_plan.specs.declared.{network.Network.Network}
use Rattle.report_text.proofs.{Characters.{IsVisible, decimal_visible, octet_is_byte, same_octets, word_is_bytes}}
use Rattle.report_text.proofs.{Splits.{IsSplit, split_once}}
use Rattle.report_text.proofs.Visible
use Visible.{IsUnbroken, body_visible, is_lf, line_unbroken, unbroken_spaced, units_mag, units_visible}
use Visible.{visible_unbroken, visible_word, words_of_line}
use Rattle.report_text.specs.{Laws.{AreOfNetwork, OneReport}}
use Rattle.report_text.specs.{NoteLine.{body_text, body_words, note_text, passage_words, report_of, stream_words}}
use Rattle.report_text.specs.{NoteWords.{judgement_text, members_text, reason_words, state_text, why_text}}
use Rattle.report_text.specs.Ranges
use Ranges.{HasPassage, IsBodyInRange, IsBodyOf, IsCount, IsNoteInRange, IsNoteOf, IsReasonInRange, IsShortCount}
use Ranges.{IsSignedUnits}
use Rattle.run_law.specs.declared.{judgement.{Judgement.Judgement, Reason.Reason, Why.Why}}
use Rattle.run_law.specs.declared.{note.{Note.Note, NoteBody.NoteBody}}
use Rattle.schedule_tables.specs.Schedule.{VlNameIsNew}
use Rattle.sync_state.specs.declared.state.State.{State}
use Rattle.trace_text.{proofs.EventsBack.reads_back}
use Rattle.trace_text.specs.{EventLine.{event_text, what_text, what_words}, EventReading.event_read}
use Rattle.trace_text.specs.{Ranges.IsWhatInRange, Steps.{Read, Words, is_space, space, words}}
use Rattle.tte_io.specs.Line.{lf}
use Rattle.tte_units.{proofs.general_lemmas.Lists.{differ, some_at}}
use Rattle.tte_units.{specs.{Amount.units_of, declared.{frames.members.Members.Members, units.Units.Units}}}
use Rattle.run_law.specs.declared.judgement.Judgement.TheVariants as judgements
use Rattle.run_law.specs.declared.judgement.Reason.TheVariants as reasons
use Rattle.run_law.specs.declared.judgement.Why.TheVariants as whys
use Rattle.run_law.specs.declared.note.NoteBody.TheVariants as bodies
use Rattle.sync_state.specs.declared.state.State.TheVariants as states

-- ---- words of one spelling are one, and so are records of one text

-- ---- words of one spelling are one

-- each thing of the network has a name of its own
pub record IsNamedApart (network : Network) : Type 0 where
  pub in_range : IsInRange network
  pub devices : (i : ℕ) → DeviceIsNew network i
  pub links : (i : ℕ) → LinkIsNew network i
  pub vls : (i : ℕ) → VlNameIsNew network i

-- the word at a place of a line
abbrev pub word_at : ℕ → Words → List ℕ
word_at i ws = get_or ws i []

-- ---- numbers

same_count : (n m : ℕ) → IsCount n → IsCount m → decimal n ≡ decimal m → n ≡ m
same_count n m h g same = decimal_injective n m h g same

same_short : (n m : ℕ) → IsShortCount n → IsShortCount m → decimal n ≡ decimal m → n ≡ m
same_short n m h g same = decimal_injective n m (omega arith) (omega arith) same

same_units : (a b : Units) → IsSignedUnits a → IsSignedUnits b → signed_decimal a.0 ≡ signed_decimal b.0 → a ≡ b
same_units a b h g same = rw (signed_decimal_injective a.0 b.0 (units_mag a h) (units_mag b g) same)

same_members : (members others : Members) → IsShortCount members.0 → IsShortCount others.0 → members_text members ≡ members_text others → members ≡ others
same_members members others h g same =
    let octets = same_octets (to_be_bytes w32 members.0) (to_be_bytes w32 others.0) (word_is_bytes members.0) (word_is_bytes others.0) same in
    rw (sym (from_be_bytes-to_be_bytes_4 members.0 h) ∙ ap (from_be_bytes w32) octets ∙ from_be_bytes-to_be_bytes_4
    others.0 g)

pub same_octet : (octet other : ℕ) → octet < 2 ^ 8 → other < 2 ^ 8 → encode_lower (octet ∷ []) ≡ encode_lower (other ∷ []) → octet ≡ other
same_octet octet other h g same =
    ap (λ octets. get_or octets 0 0) (same_octets (octet ∷ []) (other ∷ []) (octet_is_byte octet h)
    (octet_is_byte other g) same)

-- ---- names

-- no thing has the name of an earlier one
abbrev AreNew : {X : Type 0} → (X → List ℕ) → List X → Type 0
AreNew {X} name xs = (i k : ℕ) (earlier thing : X) → k < i → slice_get xs k ≡ Some earlier → slice_get xs i ≡ Some thing → name thing ≢ name earlier

name_at : {X : Type 0} (name : X → List ℕ) (xs : List X) (i : ℕ) (x : X) → slice_get xs i ≡ Some x → option_map_or name (slice_get xs i) [] ≡ name x
name_at name xs i x h = rw h

-- then one name is of one place
same_place : {X : Type 0} (name : X → List ℕ) (xs : List X) (i j : ℕ) → AreNew name xs → i < length xs → j < length xs
    → option_map_or name (slice_get xs i) [] ≡ option_map_or name (slice_get xs j) [] → i ≡ j
same_place name xs i j new h g same =
    let at = some_at xs i h in
    let other = some_at xs j g in
    let names = sym (name_at name xs i at.0 at.1) ∙ same ∙ name_at name xs j other.0 other.1 in
    let not_before : i < j → ⊥ = λ before. new j i at.0 other.0 before at.1 other.1 (sym names) in
    let not_behind : j < i → ⊥ = λ behind. new i j other.0 at.0 behind other.1 at.1 names in
    omega arith

same_device : (network : Network) (d e : DeviceId) → IsNamedApart network → HasDevice network d → HasDevice network e
    → device_name network d ≡ device_name network e → d ≡ e
same_device network d e apart h g same =
    let new : AreNew (λ x. x.name) network.device = λ i k earlier thing before there here.
    (apart.devices i k earlier thing before there here).0 in
    rw (same_place (λ x. x.name) network.device d.0 e.0 new h g same)

same_link : (network : Network) (l m : LinkId) → IsNamedApart network → HasLink network l → HasLink network m → link_name network l ≡ link_name network m
    → l ≡ m
same_link network l m apart h g same = rw (same_place (λ x. x.name) network.link l.0 m.0 apart.links h g same)

same_vl : (network : Network) (v w : VlId) → IsNamedApart network → HasVl network v → HasVl network w → vl_name network v ≡ vl_name network w → v ≡ w
same_vl network v w apart h g same = rw (same_place (λ x. x.name) network.vl v.0 w.0 apart.vls h g same)

-- ---- the words of enums

same_state : (state other : State) → state_text state ≡ state_text other → state ≡ other
same_state states.Off states.Off same = refl
same_state states.Integrating states.Integrating same = refl
same_state states.Joining states.Joining same = refl
same_state states.Synchronised states.Synchronised same = refl
same_state state other same = absurd (differ (state_text state) (state_text other) refl same)

same_judgement : (verdict other : Judgement) → judgement_text verdict ≡ judgement_text other → verdict ≡ other
same_judgement judgements.Opened judgements.Opened same = refl
same_judgement judgements.Joined judgements.Joined same = refl
same_judgement judgements.Repeat judgements.Repeat same = refl
same_judgement judgements.Within judgements.Within same = refl
same_judgement judgements.Outside judgements.Outside same = refl
same_judgement judgements.Integrates judgements.Integrates same = refl
same_judgement judgements.Ignored judgements.Ignored same = refl
same_judgement verdict other same = absurd (differ (judgement_text verdict) (judgement_text other) refl same)

same_why : (why other : Why) → why_text why ≡ why_text other → why ≡ other
same_why whys.On whys.On same = refl
same_why whys.Frame whys.Frame same = refl
same_why whys.Correction whys.Correction same = refl
same_why whys.SyncClique whys.SyncClique same = refl
same_why whys.AsyncClique whys.AsyncClique same = refl
same_why why other same = absurd (differ (why_text why) (why_text other) refl same)

-- the first two words of a reason, which tell its kind
abbrev reason_front : Words → List ℕ
reason_front ws = word_at 0 ws ++ word_at 1 ws

same_reason : (reason other : Reason) → IsReasonInRange reason → IsReasonInRange other → reason_words reason ≡ reason_words other → reason ≡ other
same_reason reasons.Off reasons.Off h g same = refl
same_reason reasons.ColdStart reasons.ColdStart h g same = refl
same_reason reasons.Domain reasons.Domain h g same = refl
same_reason reasons.Member reasons.Member h g same = refl
same_reason reasons.Old reasons.Old h g same = refl
same_reason reasons.Gate reasons.Gate h g same = refl
same_reason reasons.Cycle reasons.Cycle h g same = refl
same_reason reasons.Unsynchronised reasons.Unsynchronised h g same = refl
same_reason reasons.Unknown reasons.Unknown h g same = refl
same_reason reasons.Length reasons.Length h g same = refl
same_reason reasons.Early reasons.Early h g same = refl
same_reason reasons.Late reasons.Late h g same = refl
same_reason reasons.Repeat reasons.Repeat h g same = refl
same_reason (reasons.RefusedLength length) (reasons.RefusedLength length') h g same =
    rw (same_short length length' h g (ap (word_at 2) same))
same_reason reasons.RefusedEtherType reasons.RefusedEtherType h g same = refl
same_reason (reasons.RefusedReserved offset) (reasons.RefusedReserved offset') h g same =
    rw (decimal_injective offset offset' (omega arith) (omega arith) (ap (word_at 2) same))
same_reason (reasons.RefusedKind octet) (reasons.RefusedKind octet') h g same =
    rw (same_octet octet octet' h g (ap (word_at 2) same))
same_reason reason other h g same = absurd (differ (reason_front (reason_words reason)) (reason_front (reason_words other)) refl (ap reason_front same))

-- ---- events

value_or : {A E : Type 0} → A → Result A E → A
value_or d (Ok x) = x
value_or d (Err e) = d

same_value : {A : Type 0} (x y : A) (r : Read A) → r ≡ Ok x → r ≡ Ok y → x ≡ y
unfolding value_or
same_value x y r h g = ap (value_or x) (sym h ∙ g)

at_begin : What → Event
at_begin what = record { time = units_of 0; what = what }

-- two events of one text are one, since it reads back
same_what : (network : Network) (what other : What) → IsNamedApart network
    → IsOfNetwork network what → IsWhatInRange what → IsOfNetwork network other → IsWhatInRange other
    → what_words network what ≡ what_words network other → what ≡ other
unfolding at_begin what_text
same_what network what other apart of_network in_range other_of_network other_in_range same =
    let here = reads_back network (at_begin what) apart.in_range apart.devices apart.links of_network
    (record { time = record { least = omega (arith, ints); most = omega (arith, ints) }; what = in_range }) in
    let there = reads_back network (at_begin other) apart.in_range apart.devices apart.links other_of_network
    (record { time = record { least = omega (arith, ints); most = omega (arith, ints) }; what = other_in_range }) in
    let texts : event_text network (at_begin what) ≡ event_text network (at_begin other) = rw same in
    ap (λ e. e.what) (same_value (at_begin what) (at_begin other)
    (event_read network (event_text network (at_begin what))) here
    (ap (event_read network) texts ∙ there))

-- ---- records of one text are one

-- what a record of the network says, with its numbers in range
pub record IsPrintable (network : Network) (body : NoteBody) : Type 0 where
  pub of_network : IsBodyOf network body
  pub in_range : IsBodyInRange body

-- two passages of one text are one
record IsSamePassage (d e : DeviceId) (l m : LinkId) (cause other : ℕ) : Type 0 where
  devices : d ≡ e
  links : l ≡ m
  causes : cause ≡ other

same_passage : (network : Network) (d e : DeviceId) (l m : LinkId) (cause other : ℕ) → IsNamedApart network
    → HasPassage network d l → HasPassage network e m → IsCount cause → IsCount other
    → passage_words network d l cause ≡ passage_words network e m other → IsSamePassage d e l m cause other
same_passage network d e l m cause other apart h g n k same = record {
  devices = same_device network d e apart h.0 g.0 (ap (word_at 0) same);
  links = same_link network l m apart h.1 g.1 (ap (word_at 1) same);
  causes = same_count cause other n k (ap (word_at 2) same);
}

-- the words of a frame's record that tell its passage
abbrev passage_of : Words → Words
passage_of ws = take 3 (drop 1 ws)

-- and what a time-triggered frame is of
record IsSameStream (vl vl' : VlId) (cycle cycle' : ℕ) : Type 0 where
  vls : vl ≡ vl'
  cycles : cycle ≡ cycle'

same_stream : (network : Network) (vl vl' : VlId) (cycle cycle' : ℕ) → IsNamedApart network
    → HasVl network vl → HasVl network vl' → IsShortCount cycle → IsShortCount cycle'
    → stream_words network vl cycle ≡ stream_words network vl' cycle' → IsSameStream vl vl' cycle cycle'
same_stream network vl vl' cycle cycle' apart h g n k same = record {
  vls = same_vl network vl vl' apart h g (ap (word_at 1) same);
  cycles = same_short cycle cycle' n k (ap (word_at 3) same);
}

-- the words of a frame's record behind its passage
abbrev behind_passage : Words → Words
behind_passage ws = drop 4 ws

same_words : (network : Network) (body other : NoteBody) → IsNamedApart network → IsPrintable network body → IsPrintable network other
    → body_words network body ≡ body_words network other → body ≡ other
same_words network (bodies.Event line what) (bodies.Event line' what') apart h g same =
    let lines = same_count line line' h.in_range.0 g.in_range.0 (ap (word_at 1) same) in
    let events = same_what network what what' apart h.of_network h.in_range.1 g.of_network g.in_range.1
    (ap (λ ws. drop 2 ws) same) in
    cc
same_words network (bodies.Arrived d l cause clock) (bodies.Arrived d' l' cause' clock') apart h g same =
    let passages = same_passage network d d' l l' cause cause' apart h.of_network g.of_network h.in_range.0 g.in_range.0 (ap passage_of same) in
    let clocks = same_count clock clock' h.in_range.1 g.in_range.1 (ap (word_at 5) same) in
    cc
same_words network (bodies.Permanent d l cause point verdict) (bodies.Permanent d' l' cause' point' verdict') apart h g same =
    let passages = same_passage network d d' l l' cause cause' apart h.of_network g.of_network h.in_range.0 g.in_range.0 (ap passage_of same) in
    let points = same_units point point' h.in_range.1 g.in_range.1 (ap (word_at 5) same) in
    let verdicts = same_judgement verdict verdict' (ap (word_at 6) same) in
    cc
same_words network (bodies.Compressed d opened at cycle members verdict) (bodies.Compressed d' opened' at' cycle' members' verdict') apart h g same =
    let devices = same_device network d d' apart h.of_network g.of_network (ap (word_at 1) same) in
    let openings = same_units opened opened' h.in_range.0 g.in_range.0 (ap (word_at 3) same) in
    let readings = same_units at at' h.in_range.1 g.in_range.1 (ap (word_at 5) same) in
    let cycles = same_short cycle cycle' h.in_range.2 g.in_range.2 (ap (word_at 7) same) in
    let sets = same_members members members' h.in_range.3 g.in_range.3 (ap (word_at 9) same) in
    let verdicts = same_judgement verdict verdict' (ap (word_at 10) same) in
    cc
same_words network (bodies.Sent d cycle) (bodies.Sent d' cycle') apart h g same =
    let devices = same_device network d d' apart h.of_network g.of_network (ap (word_at 1) same) in
    let cycles = same_short cycle cycle' h.in_range g.in_range (ap (word_at 3) same) in
    cc
same_words network (bodies.Corrected d cycle by adjustment) (bodies.Corrected d' cycle' by' adjustment') apart h g same =
    let devices = same_device network d d' apart h.of_network g.of_network (ap (word_at 1) same) in
    let cycles = same_short cycle cycle' h.in_range.0 g.in_range.0 (ap (word_at 3) same) in
    let corrections = same_units by by' h.in_range.1 g.in_range.1 (ap (word_at 5) same) in
    let adjustments = same_units adjustment adjustment' h.in_range.2 g.in_range.2 (ap (word_at 7) same) in
    cc
same_words network (bodies.State d state cause why) (bodies.State d' state' cause' why') apart h g same =
    let devices = same_device network d d' apart h.of_network g.of_network (ap (word_at 1) same) in
    let states = same_state state state' (ap (word_at 2) same) in
    let causes = same_count cause cause' h.in_range g.in_range (ap (word_at 3) same) in
    let whys = same_why why why' (ap (word_at 4) same) in
    cc
same_words network (bodies.Left d l cause clock) (bodies.Left d' l' cause' clock') apart h g same =
    let passages = same_passage network d d' l l' cause cause' apart h.of_network g.of_network h.in_range.0 g.in_range.0 (ap passage_of same) in
    let clocks = same_count clock clock' h.in_range.1 g.in_range.1 (ap (word_at 5) same) in
    cc
same_words network (bodies.Lost d l cause) (bodies.Lost d' l' cause') apart h g same =
    let passages = same_passage network d d' l l' cause cause' apart h.of_network g.of_network h.in_range g.in_range (ap passage_of same) in
    cc
same_words network (bodies.TtSent d l cause vl cycle) (bodies.TtSent d' l' cause' vl' cycle') apart h g same =
    let passages = same_passage network d d' l l' cause cause' apart (h.of_network.0, h.of_network.1) (g.of_network.0, g.of_network.1) h.in_range.0 g.in_range.0
    (ap passage_of same) in
    let streams = same_stream network vl vl' cycle cycle' apart h.of_network.2 g.of_network.2 h.in_range.1 g.in_range.1 (ap behind_passage same) in
    cc
same_words network (bodies.Accepted d l cause vl cycle) (bodies.Accepted d' l' cause' vl' cycle') apart h g same =
    let passages = same_passage network d d' l l' cause cause' apart (h.of_network.0, h.of_network.1) (g.of_network.0, g.of_network.1) h.in_range.0 g.in_range.0
    (ap passage_of same) in
    let streams = same_stream network vl vl' cycle cycle' apart h.of_network.2 g.of_network.2 h.in_range.1 g.in_range.1 (ap behind_passage same) in
    cc
same_words network (bodies.Delivered d l cause vl cycle) (bodies.Delivered d' l' cause' vl' cycle') apart h g same =
    let passages = same_passage network d d' l l' cause cause' apart (h.of_network.0, h.of_network.1) (g.of_network.0, g.of_network.1) h.in_range.0 g.in_range.0
    (ap passage_of same) in
    let streams = same_stream network vl vl' cycle cycle' apart h.of_network.2 g.of_network.2 h.in_range.1 g.in_range.1 (ap behind_passage same) in
    cc
same_words network (bodies.Dropped d l cause reason) (bodies.Dropped d' l' cause' reason') apart h g same =
    let passages = same_passage network d d' l l' cause cause' apart h.of_network g.of_network h.in_range.0 g.in_range.0 (ap passage_of same) in
    let reasons = same_reason reason reason' h.in_range.1 g.in_range.1 (ap behind_passage same) in
    cc
same_words network (bodies.Clock d reading adjustment state) (bodies.Clock d' reading' adjustment' state') apart h g same =
    let devices = same_device network d d' apart h.of_network g.of_network (ap (word_at 1) same) in
    let readings = same_units reading reading' h.in_range.0 g.in_range.0 (ap (word_at 3) same) in
    let adjustments = same_units adjustment adjustment' h.in_range.1 g.in_range.1 (ap (word_at 5) same) in
    let states = same_state state state' (ap (word_at 7) same) in
    cc
-- records of two kinds differ in their first word
same_words network body other apart h g same =
    absurd (differ (word_at 0 (body_words network body)) (word_at 0 (body_words network other)) refl (ap (word_at 0) same))

-- what two records say is one where its text is
same_body : (network : Network) (body other : NoteBody) → IsNamedApart network → IsPrintable network body → IsPrintable network other
    → body_text network body ≡ body_text network other → body ≡ other
unfolding body_text
same_body network body other apart h g same =
    let here = words_of_line (body_words network body) (body_visible network body apart.in_range h.of_network h.in_range) in
    let there = words_of_line (body_words network other) (body_visible network other apart.in_range g.of_network g.in_range) in
    same_words network body other apart h g (sym here ∙ ap words same ∙ there)

-- ---- lists of records of one report are one

-- a record of the network with its numbers in range
pub record IsWritable (network : Network) (note : Note) : Type 0 where
  pub of_network : IsNoteOf network note
  pub in_range : IsNoteInRange note

body_of : (network : Network) (note : Note) → IsWritable network note → IsPrintable network note.body
body_of network note h = record { of_network = h.of_network; in_range = h.in_range.body }

-- the text of a record: two words, and what it says

pub note_parts : (number time body : List ℕ) → number ++ codes " " ++ time ++ codes " " ++ body ≡ number ++ space ∷ (time ++ space ∷ body)
note_parts number time body = simp append_assoc refl

-- it has no LF
body_unbroken : (network : Network) (note : Note) → IsInRange network → IsWritable network note → IsUnbroken (body_text network note.body)
unfolding body_text
body_unbroken network note n h = line_unbroken (body_words network note.body) (body_visible network note.body n h.of_network h.in_range.body)

pub note_unbroken : (network : Network) (note : Note) → IsInRange network → IsWritable network note → IsUnbroken (note_text network note)
note_unbroken network note n h =
    let number = decimal note.number in
    let time = signed_decimal note.time.0 in
    let behind = unbroken_spaced time (body_text network note.body) (visible_unbroken time (units_visible note.time h.in_range.time))
    (body_unbroken network note n h) in
    let whole = unbroken_spaced number (time ++ space ∷ body_text network note.body) (visible_unbroken number (decimal_visible note.number h.in_range.number))
    behind in
    subst IsUnbroken (sym (note_parts number time (body_text network note.body))) whole

-- two records of one text are one

-- two texts, each a visible word, a space and more
split_word : (w v rest more : List ℕ) → IsVisible w → IsVisible v → w ++ space ∷ rest ≡ v ++ space ∷ more → IsSplit w rest v more
split_word w v rest more h g same = split_once is_space space w rest v more refl (visible_word w h) (visible_word v g) same

made : ℕ → Units → NoteBody → Note
made number time body = record { number = number; time = time; body = body }

same_parts : (number number' : ℕ) (time time' : Units) (body body' : NoteBody) → number ≡ number' → time ≡ time' → body ≡ body'
    → made number time body ≡ made number' time' body'
same_parts number number' time time' body body' e f g = rw e ((rw f ((rw g))))

pub same_note : (network : Network) (note other : Note) → IsNamedApart network → IsWritable network note → IsWritable network other
    → note_text network note ≡ note_text network other → note ≡ other
unfolding made
same_note network note other apart h g same =
    let number = decimal note.number in
    let number' = decimal other.number in
    let time = signed_decimal note.time.0 in
    let time' = signed_decimal other.time.0 in
    let body = body_text network note.body in
    let body' = body_text network other.body in
    let parts = sym (note_parts number time body) ∙ same ∙ note_parts number' time' body' in
    let first = split_word number number' (time ++ space ∷ body) (time' ++ space ∷ body') (decimal_visible note.number h.in_range.number)
    (decimal_visible other.number g.in_range.number) parts in
    let second = split_word time time' body body' (units_visible note.time h.in_range.time) (units_visible other.time g.in_range.time) first.backs in
    same_parts note.number other.number note.time other.time note.body other.body
    (decimal_injective note.number other.number h.in_range.number g.in_range.number first.fronts)
    (same_units note.time other.time h.in_range.time g.in_range.time second.fronts)
    (same_body network note.body other.body apart (body_of network note h) (body_of network other g) second.backs)

-- two lists of one report are one

pub is_some_text : (text rest : List ℕ) → text ++ codes "\n" ++ rest ≡ [] → ⊥
is_some_text text rest e = omega (arith, ap length e, length-append (text ++ codes "\n") rest, length-append text (codes "\n"))

pub head_of : (network : Network) (note : Note) (notes : List Note) → AreOfNetwork network (note ∷ notes) → IsWritable network note
head_of network note notes h = record {
  of_network = All-head (IsNoteOf network) note notes h.of_network;
  in_range = All-head IsNoteInRange note notes
      h.in_range;
}

pub tail_of : (network : Network) (note : Note) (notes : List Note) → AreOfNetwork network (note ∷ notes) → AreOfNetwork network notes
tail_of network note notes h = record {
  of_network = All-tail (IsNoteOf network) note notes h.of_network;
  in_range = All-tail IsNoteInRange note notes
      h.in_range;
}

same_report : (network : Network) (notes others : List Note) → IsNamedApart network → AreOfNetwork network notes → AreOfNetwork network others
    → concat (report_of network notes) ≡ concat (report_of network others) → notes ≡ others
same_report network [] [] apart h g same = refl
same_report network [] (other ∷ others) apart h g same = absurd (is_some_text (note_text network other) (concat (report_of network others)) (sym same))
same_report network (note ∷ notes) [] apart h g same = absurd (is_some_text (note_text network note) (concat (report_of network notes)) same)
same_report network (note ∷ notes) (other ∷ others) apart h g same =
    let text = note_text network note in
    let text' = note_text network other in
    let rest = concat (report_of network notes) in
    let rest' = concat (report_of network others) in
    let here = head_of network note notes h in
    let there = head_of network other others g in
    let lines = sym (append_assoc text (codes "\n") rest) ∙ same ∙ append_assoc text' (codes "\n") rest' in
    let split = split_once is_lf lf text rest text' rest' refl (note_unbroken network note apart.in_range here)
    (note_unbroken network other apart.in_range there) lines in
    let tails = same_report network notes others apart (tail_of network note notes h) (tail_of network other others g) split.backs in
    rw (same_note network note other apart here there split.fronts) ((rw tails))

pub one_report : OneReport
one_report network notes others in_range devices links vls h g same =
    same_report network notes others (record { in_range = in_range; devices = devices; links = links; vls = vls }) h g same
