-- Words and texts are visible and short, and no LF breaks them.
use Rattle.std.proofs.Common
use Common.{◌++◌, ◌+◌, ◌<◌, ◌^◌, ◌∷◌, ◌≡◌, ◌≤◌, Bool, List, [], arith, false, length, length-append, refl, true, ℕ}
use Rattle.std.proofs.lemmas.{Bool.Decides.nat_tests, Fmt.length_signed_le, Int.ints}
use Rattle.std.proofs.lemmas.{List.Elements.{All-append, All-cons, All-weaker}}
use Rattle.std.specs.{Fmt.signed_decimal, Int.Signed.mag, List.{join_with_byte, list_all}}
use Rattle.std.specs.{Prelude.{◌==◌, ◌≤ℤ◌, codes, decimal, neg_ℤ, negsuc, pos, ℤ, ⊤}}
use Rattle.hex.{proofs.HexLemmas.length-encode_with, specs.Hex.lower_digits}
use Rattle.net_plan.specs.{Belonging.{HasDevice, HasLink, HasVl, IsOfNetwork, device_name, link_name, vl_name}}
use Rattle.net_plan.specs.{Ranges.{IsDeviceInRange, IsInRange, IsLinkInRange, IsVlInRange}}
use Rattle.net_plan.specs.declared.{event.What.What, ids.{DeviceId.DeviceId, LinkId.LinkId, VlId.VlId}}
use Rattle.net_plan.specs.declared.{network.Network.Network, tables.Way.{TheVariants.{Down, Up}, Way}}
use Rattle.report_text.proofs.{Splits.NonePasses}
use Rattle.report_text.proofs.Characters
use Characters.{IsVisible, decimal_visible, hex_visible, is_visible, name_visible, octet_is_byte, signed_visible}
use Characters.{visible_from_test, word_is_bytes}
use Rattle.report_text.specs.{NoteLine.body_words, NoteWords.{judgement_text, reason_words, state_text, why_text}}
use Rattle.report_text.specs.Ranges
use Ranges.{HasPassage, HasStream, IsBodyInRange, IsBodyOf, IsCount, IsReasonInRange, IsShortCount, IsSignedUnits}
use Rattle.run_law.specs.declared.{judgement.{Judgement.Judgement, Reason.Reason, Why.Why}, note.NoteBody.NoteBody}
use Rattle.sync_state.specs.declared.state.State.{State}
use Rattle.trace_text.{proofs.{Splitting.{AreWords, words_joined}, WordsBack.in_list}}
use Rattle.trace_text.specs.{EventLine.what_words, EventWords.way_text, Ranges.{IsRate, IsTime, IsWhatInRange}}
use Rattle.trace_text.specs.{Steps.{Words, is_space, space, words}}
use Rattle.tte_io.specs.Line.{lf}
use Rattle.tte_units.{proofs.general_lemmas.Lists.{in_all, some_at}, specs.declared.{rates.Ppb.Ppb, units.Units.Units}}
use Rattle.net_plan.specs.declared.event.What.TheVariants as events
use Rattle.run_law.specs.declared.judgement.Judgement.TheVariants as judgements
use Rattle.run_law.specs.declared.judgement.Reason.TheVariants as reasons
use Rattle.run_law.specs.declared.judgement.Why.TheVariants as whys
use Rattle.run_law.specs.declared.note.NoteBody.TheVariants as bodies
use Rattle.sync_state.specs.declared.state.State.TheVariants as states

-- ---- texts that no LF breaks, and lines of visible words

-- the octet is LF
abbrev pub is_lf : ℕ → Bool
is_lf c = c == lf

-- no octet of the text is LF
abbrev pub IsUnbroken : List ℕ → Type 0
IsUnbroken text = NonePasses is_lf text

visible_no_lf : (c : ℕ) → is_visible c ≡ true → is_lf c ≡ false
visible_no_lf c h = grind (arith, nat_tests)

pub visible_unbroken : (text : List ℕ) → IsVisible text → IsUnbroken text
visible_unbroken text h = All-weaker (λ c. is_visible c ≡ true) (λ c. is_lf c ≡ false) visible_no_lf text h

visible_no_space : (c : ℕ) → is_visible c ≡ true → is_space c ≡ false
visible_no_space c h = grind (arith, nat_tests)

pub visible_word : (text : List ℕ) → IsVisible text → NonePasses is_space text
visible_word text h = All-weaker (λ c. is_visible c ≡ true) (λ c. is_space c ≡ false) visible_no_space text h

-- two texts with a space between them
pub unbroken_spaced : (front back : List ℕ) → IsUnbroken front → IsUnbroken back → IsUnbroken (front ++ space ∷ back)
unbroken_spaced front back h g = All-append (λ c. is_lf c ≡ false) front (space ∷ back) h (All-cons (λ c. is_lf c ≡ false) space back refl g)

-- ---- words

-- each word is visible
abbrev pub AreVisible : Words → Type 0
AreVisible [] = ⊤
AreVisible (w ∷ ws) = IsVisible w × AreVisible ws

-- there is a word, and each is visible
abbrev pub AreOfLine : Words → Type 0
AreOfLine [] = ⊥
AreOfLine (w ∷ ws) = IsVisible w × AreVisible ws

joined_unbroken : (w : List ℕ) (ws : Words) → IsVisible w → AreVisible ws → IsUnbroken (join_with_byte space (w ∷ ws))
joined_unbroken w [] h hs = visible_unbroken w h
joined_unbroken w (v ∷ vs) h hs = unbroken_spaced w (join_with_byte space (v ∷ vs)) (visible_unbroken w h) (joined_unbroken v vs hs.0 hs.1)

-- the line of visible words is not broken
pub line_unbroken : (ws : Words) → AreOfLine ws → IsUnbroken (join_with_byte space ws)
line_unbroken [] h = absurd h
line_unbroken (w ∷ ws) h = joined_unbroken w ws h.0 h.1

visible_are_words : (ws : Words) → AreVisible ws → AreWords ws
visible_are_words [] h = tt
visible_are_words (w ∷ ws) h = (visible_word w h.0, visible_are_words ws h.1)

-- and it has these words
pub words_of_line : (ws : Words) → AreOfLine ws → words (join_with_byte space ws) ≡ ws
words_of_line [] h = absurd h
words_of_line (w ∷ ws) h = words_joined w ws (visible_word w h.0) (visible_are_words ws h.1)

-- ---- the words of records are visible, and those of names, numbers and events are short

-- ---- the words of names, numbers and events are short

-- ---- words

-- how many octets the words have, with one more each
unfoldable pub size : Words → ℕ
size [] = 0
size (w ∷ ws) = length w + (1 + size ws)

-- joined they have no more
pub joined_short : (ws : Words) → length (join_with_byte space ws) ≤ size ws
unfolding size
joined_short [] = omega arith
joined_short (w ∷ []) = omega arith
joined_short (w ∷ v ∷ ws) =
    let rest = joined_short (v ∷ ws) in
    omega (arith, length-append w (space ∷ join_with_byte space (v ∷ ws)))

-- ---- one word

pub device_short : (network : Network) (d : DeviceId) → IsInRange network → HasDevice network d → length (device_name network d) ≤ 16
device_short network d range of_network =
    let at = some_at network.device d.0 of_network in
    rw at.1 (in_all IsDeviceInRange network.device d.0 at.0 range.devices at.1).name.short

pub link_short : (network : Network) (l : LinkId) → IsInRange network → HasLink network l → length (link_name network l) ≤ 16
link_short network l range of_network =
    let at = some_at network.link l.0 of_network in
    rw at.1 (in_all (IsLinkInRange network) network.link l.0 at.0 range.links at.1).name.short

pub way_short : (way : Way) → length (way_text way) ≤ 4
way_short Up = omega arith
way_short Down = omega arith

-- a signed number of a trace
pub number_short : (z : ℤ) → neg_ℤ (pos (2 ^ 60)) ≤ℤ z → z ≤ℤ pos (2 ^ 60) → length (signed_decimal z) ≤ 20
number_short (pos n) least most = length_signed_le 19 (pos n) (omega (arith, ints)) (omega (arith, ints))
number_short (negsuc n) least most = length_signed_le 19 (negsuc n) (omega (arith, ints)) (omega (arith, ints))

pub time_short : (time : Units) → IsTime time → length (signed_decimal time.0) ≤ 20
time_short time h = number_short time.0 (omega (arith, ints, h.least)) (omega (arith, ints, h.most))

pub rate_short : (rate : Ppb) → IsRate rate → length (signed_decimal rate.0) ≤ 20
rate_short rate h = number_short rate.0 (omega (arith, ints, h.least)) (omega (arith, ints, h.most))

-- ---- the words of an event

pub what_short : (network : Network) (what : What) → IsInRange network → IsOfNetwork network what → IsWhatInRange what → size (what_words network what) ≤ 3060
unfolding size
what_short network (events.Rate d r) range of_network h =
    let name = device_short network d range of_network in let number = rate_short r h in omega arith
what_short network (events.Wire l w u) range of_network h =
    let name = link_short network l range of_network in
    let way = way_short w in let number = time_short u h in omega arith
what_short network (events.Hold l w u) range of_network h =
    let name = link_short network l range of_network in
    let way = way_short w in let number = time_short u h in omega arith
what_short network (events.Cut l w) range of_network h =
    let name = link_short network l range of_network in let way = way_short w in omega arith
what_short network (events.Heal l w) range of_network h =
    let name = link_short network l range of_network in let way = way_short w in omega arith
what_short network (events.On d) range of_network h = let name = device_short network d range of_network in omega arith
what_short network (events.Break d) range of_network h = let name = device_short network d range of_network in
    omega arith
what_short network (events.Send l o) range of_network h =
    let name = link_short network l range of_network in
    let digits = length-encode_with lower_digits o in
    let most = h.most in
    omega arith
what_short network events.End range of_network h = omega arith

-- ---- the words of records are visible

-- ---- names and numbers

pub device_visible : (network : Network) (d : DeviceId) → IsInRange network → HasDevice network d → IsVisible (device_name network d)
device_visible network d h of_network =
    let at = some_at network.device d.0 of_network in
    rw at.1 (name_visible at.0.name (in_list IsDeviceInRange network.device d.0 at.0 at.1 h.devices).name)

link_visible : (network : Network) (l : LinkId) → IsInRange network → HasLink network l → IsVisible (link_name network l)
link_visible network l h of_network =
    let at = some_at network.link l.0 of_network in
    rw at.1 (name_visible at.0.name (in_list (IsLinkInRange network) network.link l.0 at.0 at.1 h.links).name)

vl_visible : (network : Network) (vl : VlId) → IsInRange network → HasVl network vl → IsVisible (vl_name network vl)
vl_visible network vl h of_network =
    let at = some_at network.vl vl.0 of_network in
    rw at.1 (name_visible at.0.name (in_list (IsVlInRange network) network.vl vl.0 at.0 at.1 h.vls).name)

way_visible : (way : Way) → IsVisible (way_text way)
way_visible Up = visible_from_test (way_text Up) refl
way_visible Down = visible_from_test (way_text Down) refl

-- a signed number of a trace
number_visible : (z : ℤ) → neg_ℤ (pos (2 ^ 60)) ≤ℤ z → z ≤ℤ pos (2 ^ 60) → IsVisible (signed_decimal z)
number_visible (pos n) least most = signed_visible (pos n) (omega (arith, ints))
number_visible (negsuc n) least most = signed_visible (negsuc n) (omega (arith, ints))

pub time_visible : (time : Units) → IsTime time → IsVisible (signed_decimal time.0)
time_visible time h = number_visible time.0 (omega (arith, ints, h.least)) (omega (arith, ints, h.most))

rate_visible : (r : Ppb) → IsRate r → IsVisible (signed_decimal r.0)
rate_visible r h = number_visible r.0 (omega (arith, ints, h.least)) (omega (arith, ints, h.most))

short_visible : (n : ℕ) → IsShortCount n → IsVisible (decimal n)
short_visible n h = decimal_visible n (omega arith)

-- a signed number of units
pub units_mag : (units : Units) → IsSignedUnits units → mag units.0 < 2 ^ 63
units_mag units h = omega (arith, ints)

pub units_visible : (units : Units) → IsSignedUnits units → IsVisible (signed_decimal units.0)
units_visible units h = signed_visible units.0 (units_mag units h)

-- ---- the words of enums

state_visible : (state : State) → IsVisible (state_text state)
state_visible states.Off = visible_from_test (state_text states.Off) refl
state_visible states.Integrating = visible_from_test (state_text states.Integrating) refl
state_visible states.Joining = visible_from_test (state_text states.Joining) refl
state_visible states.Synchronised = visible_from_test (state_text states.Synchronised) refl

judgement_visible : (verdict : Judgement) → IsVisible (judgement_text verdict)
judgement_visible judgements.Opened = visible_from_test (judgement_text judgements.Opened) refl
judgement_visible judgements.Joined = visible_from_test (judgement_text judgements.Joined) refl
judgement_visible judgements.Repeat = visible_from_test (judgement_text judgements.Repeat) refl
judgement_visible judgements.Within = visible_from_test (judgement_text judgements.Within) refl
judgement_visible judgements.Outside = visible_from_test (judgement_text judgements.Outside) refl
judgement_visible judgements.Integrates = visible_from_test (judgement_text judgements.Integrates) refl
judgement_visible judgements.Ignored = visible_from_test (judgement_text judgements.Ignored) refl

why_visible : (why : Why) → IsVisible (why_text why)
why_visible whys.On = visible_from_test (why_text whys.On) refl
why_visible whys.Frame = visible_from_test (why_text whys.Frame) refl
why_visible whys.Correction = visible_from_test (why_text whys.Correction) refl
why_visible whys.SyncClique = visible_from_test (why_text whys.SyncClique) refl
why_visible whys.AsyncClique = visible_from_test (why_text whys.AsyncClique) refl

-- one word, which a test finds visible
one_visible : (word : List ℕ) → list_all is_visible word ≡ true → AreVisible (word ∷ [])
one_visible word h = (visible_from_test word h, tt)

refused_visible : IsVisible (codes "refused")
refused_visible = visible_from_test (codes "refused") refl

reason_visible : (reason : Reason) → IsReasonInRange reason → AreVisible (reason_words reason)
reason_visible reasons.Off h = one_visible (codes "off") refl
reason_visible reasons.ColdStart h = one_visible (codes "coldstart") refl
reason_visible reasons.Domain h = one_visible (codes "domain") refl
reason_visible reasons.Member h = one_visible (codes "member") refl
reason_visible reasons.Old h = one_visible (codes "old") refl
reason_visible reasons.Gate h = one_visible (codes "gate") refl
reason_visible reasons.Cycle h = one_visible (codes "cycle") refl
reason_visible reasons.Unsynchronised h = one_visible (codes "unsynchronised") refl
reason_visible reasons.Unknown h = one_visible (codes "unknown") refl
reason_visible reasons.Length h = one_visible (codes "length") refl
reason_visible reasons.Early h = one_visible (codes "early") refl
reason_visible reasons.Late h = one_visible (codes "late") refl
reason_visible reasons.Repeat h = one_visible (codes "repeat") refl
reason_visible (reasons.RefusedLength length) h = (refused_visible, (visible_from_test (codes "length") refl, (short_visible length h, tt)))
reason_visible reasons.RefusedEtherType h = (refused_visible, one_visible (codes "ethertype") refl)
reason_visible (reasons.RefusedReserved offset) h = (refused_visible, (visible_from_test (codes "reserved") refl, (decimal_visible offset (omega arith), tt)))
reason_visible (reasons.RefusedKind octet) h =
    (refused_visible, (visible_from_test (codes "type") refl, (hex_visible (octet ∷ []) (octet_is_byte octet h), tt)))

-- ---- the words of events

pub what_visible : (network : Network) (what : What) → IsInRange network → IsOfNetwork network what → IsWhatInRange what → AreVisible (what_words network what)
what_visible network (events.Rate d r) n of_network h = (visible_from_test (codes "rate") refl, (device_visible network d n of_network, (rate_visible r h, tt)))
what_visible network (events.Wire l w u) n of_network h =
    (visible_from_test (codes "wire") refl, (link_visible network l n of_network, (way_visible w, (time_visible u h, tt))))
what_visible network (events.Hold l w u) n of_network h =
    (visible_from_test (codes "hold") refl, (link_visible network l n of_network, (way_visible w, (time_visible u h, tt))))
what_visible network (events.Cut l w) n of_network h = (visible_from_test (codes "cut") refl, (link_visible network l n of_network, (way_visible w, tt)))
what_visible network (events.Heal l w) n of_network h = (visible_from_test (codes "heal") refl, (link_visible network l n of_network, (way_visible w, tt)))
what_visible network (events.On d) n of_network h = (visible_from_test (codes "on") refl, (device_visible network d n of_network, tt))
what_visible network (events.Break d) n of_network h = (visible_from_test (codes "break") refl, (device_visible network d n of_network, tt))
what_visible network (events.Send l o) n of_network h =
    (visible_from_test (codes "send") refl, (link_visible network l n of_network, (hex_visible o h.bytes, tt)))
what_visible network events.End n of_network h = one_visible (codes "end") refl

-- ---- the words of records

cycle_word : IsVisible (codes "cycle")
cycle_word = visible_from_test (codes "cycle") refl

adj_word : IsVisible (codes "adj")
adj_word = visible_from_test (codes "adj") refl

-- a device, a link and a cause, and more words behind them
passage_visible : (network : Network) (d : DeviceId) (l : LinkId) (cause : ℕ) (more : Words) → IsInRange network → HasPassage network d l → IsCount cause
    → AreVisible more → AreVisible (device_name network d ∷ link_name network l ∷ decimal cause ∷ more)
passage_visible network d l cause more n of_network h hs =
    (device_visible network d n of_network.0, (link_visible network l n of_network.1, (decimal_visible cause h, hs)))

-- the same with the virtual link and the cycle
stream_visible : (network : Network) (d : DeviceId) (l : LinkId) (cause : ℕ) (vl : VlId) (cycle : ℕ) → IsInRange network → HasStream network d l vl
    → IsCount cause → IsShortCount cycle
    → AreVisible (device_name network d ∷ link_name network l ∷ decimal cause ∷ codes "vl" ∷ vl_name network vl ∷ codes "cycle" ∷ decimal cycle ∷ [])
stream_visible network d l cause vl cycle n of_network h g =
    passage_visible network d l cause (codes "vl" ∷ vl_name network vl ∷ codes "cycle" ∷ decimal cycle ∷ []) n (of_network.0, of_network.1) h
    (visible_from_test (codes "vl") refl, (vl_visible network vl n of_network.2, (cycle_word, (short_visible cycle g, tt))))

-- a clock's word, and its number
clock_visible : (clock : ℕ) → IsCount clock → AreVisible (codes "clock" ∷ decimal clock ∷ [])
clock_visible clock h = (visible_from_test (codes "clock") refl, (decimal_visible clock h, tt))

pub body_visible : (network : Network) (body : NoteBody) → IsInRange network → IsBodyOf network body → IsBodyInRange body → AreOfLine (body_words network body)
body_visible network (bodies.Event line what) n of_network h =
    (visible_from_test (codes "event") refl, (decimal_visible line h.0, what_visible network what n of_network h.1))
body_visible network (bodies.Arrived d l cause clock) n of_network h = (
  visible_from_test (codes "arrived") refl,
  passage_visible network d l cause (codes "clock" ∷ decimal clock ∷ []) n of_network h.0
      (clock_visible clock h.1),
)
body_visible network (bodies.Permanent d l cause point verdict) n of_network h = (
  visible_from_test (codes "permanent") refl,
  passage_visible network d l cause (codes "point" ∷ signed_decimal point.0 ∷ judgement_text verdict ∷ []) n of_network h.0
      (visible_from_test (codes "point") refl, (units_visible point h.1, (judgement_visible verdict, tt))),
)
body_visible network (bodies.Compressed d opened at cycle members verdict) n of_network h = (
  visible_from_test (codes "compressed") refl,
  (
    device_visible network d n of_network,
    (
      visible_from_test (codes "opened") refl,
      (
        units_visible opened h.0,
        (
          visible_from_test (codes "at") refl,
          (
            units_visible at h.1,
            (
              cycle_word,
              (
                short_visible cycle h.2,
                (visible_from_test (codes "members") refl, (hex_visible _ (word_is_bytes members.0), (judgement_visible verdict, tt))),
              ),
            ),
          ),
        ),
      ),
    ),
  ),
)
body_visible network (bodies.Sent d cycle) n of_network h =
    (visible_from_test (codes "sent") refl, (device_visible network d n of_network, (cycle_word, (short_visible cycle h, tt))))
body_visible network (bodies.Corrected d cycle by adjustment) n of_network h = (
  visible_from_test (codes "corrected") refl,
  (
    device_visible network d n of_network,
    (
      cycle_word,
      (
        short_visible cycle h.0,
        (visible_from_test (codes "by") refl, (units_visible by h.1, (adj_word, (units_visible adjustment h.2, tt)))),
      ),
    ),
  ),
)
body_visible network (bodies.State d state cause why) n of_network h =
    (visible_from_test (codes "state") refl, (device_visible network d n of_network, (state_visible state, (decimal_visible cause h, (why_visible why, tt)))))
body_visible network (bodies.Left d l cause clock) n of_network h =
    (visible_from_test (codes "left") refl, passage_visible network d l cause (codes "clock" ∷ decimal clock ∷ []) n of_network h.0 (clock_visible clock h.1))
body_visible network (bodies.Lost d l cause) n of_network h = (visible_from_test (codes "lost") refl, passage_visible network d l cause [] n of_network h tt)
body_visible network (bodies.TtSent d l cause vl cycle) n of_network h =
    (visible_from_test (codes "ttsent") refl, stream_visible network d l cause vl cycle n of_network h.0 h.1)
body_visible network (bodies.Accepted d l cause vl cycle) n of_network h =
    (visible_from_test (codes "accepted") refl, stream_visible network d l cause vl cycle n of_network h.0 h.1)
body_visible network (bodies.Delivered d l cause vl cycle) n of_network h =
    (visible_from_test (codes "delivered") refl, stream_visible network d l cause vl cycle n of_network h.0 h.1)
body_visible network (bodies.Dropped d l cause reason) n of_network h =
    (visible_from_test (codes "dropped") refl, passage_visible network d l cause (reason_words reason) n of_network h.0 (reason_visible reason h.1))
body_visible network (bodies.Clock d reading adjustment state) n of_network h = (
  visible_from_test (codes "clock") refl,
  (
    device_visible network d n of_network,
    (
      visible_from_test (codes "reading") refl,
      (
        units_visible reading h.0,
        (adj_word, (units_visible adjustment h.1, (visible_from_test (codes "state") refl, (state_visible state, tt)))),
      ),
    ),
  ),
)
