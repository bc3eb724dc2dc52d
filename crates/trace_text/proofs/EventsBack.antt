-- An event that is printed reads back, and a text that reads as one is its text, but for capital digits.
use Rattle.std.proofs.{Common.{◌++◌, ◌∙◌, ◌∷◌, ◌≡◌, Err, List, Ok, [], ap, append-nil, append_assoc, refl, sym, ℕ}}
use Rattle.std.proofs.{lemmas.List.{Splits.join_with_byte-slice_split, map-append}}
use Rattle.std.specs.{Char.to_ascii_lowercase, Fmt.signed_decimal, List.join_with_byte, Prelude.codes}
use Rattle.std.specs.{Result.result_unwrap_or}
use Rattle.hex.specs.Hex.{encode_lower}
use Rattle.net_plan.specs.{Belonging.{IsOfNetwork, device_name, link_name}, Ranges.IsInRange}
use Rattle.net_plan.specs.{Rules.{DeviceIsNew, LinkIsNew}}
use Rattle.net_plan.specs.declared.{event.{Event.Event, What.What}, ids.{DeviceId.DeviceId, LinkId.LinkId}}
use Rattle.net_plan.specs.declared.{network.Network.Network, tables.Way.Way}
use Rattle.trace_text.proofs.{Splitting.{AreWords, event_word_is_word, hex_is_word, way_is_word, words_joined}}
use Rattle.trace_text.proofs.Lowering.{device_forth, event_word_forth, link_forth, lower, lower_words, octets_forth}
use Rattle.trace_text.proofs.Lowering.{rate_forth, units_forth, way_forth}
use Rattle.trace_text.proofs.WordsBack
use WordsBack.{device_back, device_is_word, event_word_back, link_back, link_is_word, octets_back, rate_back}
use WordsBack.{rate_is_word, time_is_word, units_back, way_back}
use Rattle.trace_text.specs.{EventLine.{event_text, what_text, what_words}}
use Rattle.trace_text.specs.{EventReading.{event_read, event_reader, what_behind, what_reader}}
use Rattle.trace_text.specs.{EventWords.{event_word_text, way_text}, Laws.{PrintsBack, ReadsBack}}
use Rattle.trace_text.specs.{Ranges.{IsEventInRange, IsWhatInRange}}
use Rattle.trace_text.specs.{Steps.{◌>>=◌, Read, Reader, Words, and_then, give, line_end, outcome, space, words}}
use Rattle.trace_text.specs.{WordReading.{device, event_word, link, octets, rate, units, way}}
use Rattle.trace_text.specs.declared.event_word.EventWord.{EventWord}
use Rattle.trace_text.specs.declared.event_word.EventWord.TheVariants
use TheVariants.{Break, Cut, End, Heal, Hold, On, Rate, Send, Wire}
use Rattle.tte_units.specs.declared.units.Units.{Units}
use Rattle.net_plan.specs.declared.event.What.TheVariants as events

-- ---- an event that is printed reads back

-- which word an event has
kind : What → EventWord
kind (events.Rate d r) = Rate
kind (events.Wire l w u) = Wire
kind (events.Hold l w u) = Hold
kind (events.Cut l w) = Cut
kind (events.Heal l w) = Heal
kind (events.On d) = On
kind (events.Break d) = Break
kind (events.Send l o) = Send
kind events.End = End

-- the words behind it
behind_kind : Network → What → Words
behind_kind network (events.Rate d r) = device_name network d ∷ signed_decimal r.0 ∷ []
behind_kind network (events.Wire l w u) = link_name network l ∷ way_text w ∷ signed_decimal u.0 ∷ []
behind_kind network (events.Hold l w u) = link_name network l ∷ way_text w ∷ signed_decimal u.0 ∷ []
behind_kind network (events.Cut l w) = link_name network l ∷ way_text w ∷ []
behind_kind network (events.Heal l w) = link_name network l ∷ way_text w ∷ []
behind_kind network (events.On d) = device_name network d ∷ []
behind_kind network (events.Break d) = device_name network d ∷ []
behind_kind network (events.Send l o) = link_name network l ∷ encode_lower o ∷ []
behind_kind network events.End = []

what_words_are : (network : Network) (what : What) → what_words network what ≡ event_word_text (kind what) ∷ behind_kind network what
unfolding kind behind_kind
what_words_are network (events.Rate d r) = refl
what_words_are network (events.Wire l w u) = refl
what_words_are network (events.Hold l w u) = refl
what_words_are network (events.Cut l w) = refl
what_words_are network (events.Heal l w) = refl
what_words_are network (events.On d) = refl
what_words_are network (events.Break d) = refl
what_words_are network (events.Send l o) = refl
what_words_are network events.End = refl

are_words : (network : Network) (what : What) → IsInRange network → IsOfNetwork network what → IsWhatInRange what → AreWords (behind_kind network what)
unfolding behind_kind
are_words network (events.Rate d r) n of_network h = (device_is_word network d n of_network, (rate_is_word r h, tt))
are_words network (events.Wire l w u) n of_network h = (link_is_word network l n of_network, (way_is_word w, (time_is_word u h, tt)))
are_words network (events.Hold l w u) n of_network h = (link_is_word network l n of_network, (way_is_word w, (time_is_word u h, tt)))
are_words network (events.Cut l w) n of_network h = (link_is_word network l n of_network, (way_is_word w, tt))
are_words network (events.Heal l w) n of_network h = (link_is_word network l n of_network, (way_is_word w, tt))
are_words network (events.On d) n of_network h = (device_is_word network d n of_network, tt)
are_words network (events.Break d) n of_network h = (device_is_word network d n of_network, tt)
are_words network (events.Send l o) n of_network h = (link_is_word network l n of_network, (hex_is_word o, tt))
are_words network events.End n of_network h = tt

-- each thing has a name of its own
record IsNamedApart (network : Network) : Type 0 where
  devices : (i : ℕ) → DeviceIsNew network i
  links : (i : ℕ) → LinkIsNew network i

what_back : (network : Network) (what : What) → IsNamedApart network → IsOfNetwork network what → IsWhatInRange what
    → what_behind network (kind what) (behind_kind network what) ≡ Ok (what, [])
unfolding kind behind_kind what_behind
what_back network (events.Rate d r) apart of_network h = rw (device_back network d (signed_decimal r.0 ∷ []) apart.devices of_network, rate_back r [] h) refl
what_back network (events.Wire l w u) apart of_network h =
    rw (link_back network l (way_text w ∷ signed_decimal u.0 ∷ []) apart.links of_network, way_back w (signed_decimal u.0 ∷ []), units_back u [] h) refl
what_back network (events.Hold l w u) apart of_network h =
    rw (link_back network l (way_text w ∷ signed_decimal u.0 ∷ []) apart.links of_network, way_back w (signed_decimal u.0 ∷ []), units_back u [] h) refl
what_back network (events.Cut l w) apart of_network h = rw (link_back network l (way_text w ∷ []) apart.links of_network, way_back w []) refl
what_back network (events.Heal l w) apart of_network h = rw (link_back network l (way_text w ∷ []) apart.links of_network, way_back w []) refl
what_back network (events.On d) apart of_network h = rw (device_back network d [] apart.devices of_network) refl
what_back network (events.Break d) apart of_network h = rw (device_back network d [] apart.devices of_network) refl
what_back network (events.Send l o) apart of_network h = rw (link_back network l (encode_lower o ∷ []) apart.links of_network, octets_back o [] h) refl
what_back network events.End apart of_network h = refl

end_back : line_end [] ≡ Ok (tt, [])
unfolding line_end
end_back = refl

event_back : (network : Network) (event : Event) → IsNamedApart network → IsOfNetwork network event.what → IsEventInRange event
    → event_reader network (signed_decimal event.time.0 ∷ event_word_text (kind event.what) ∷ behind_kind network event.what) ≡ Ok (event, [])
unfolding event_reader
event_back network event apart of_network h =
    let behind = behind_kind network event.what in
    rw (
      units_back event.time (event_word_text (kind event.what) ∷ behind) h.time,
      event_word_back (kind event.what) behind,
      what_back network event.what apart
          of_network h.what,
      end_back,
    ) refl

-- what befalls the network reads back by its words
pub words_back : (network : Network) (what : What) → ((i : ℕ) → DeviceIsNew network i) → ((i : ℕ) → LinkIsNew network i) → IsOfNetwork network what
    → IsWhatInRange what → what_reader network (what_words network what) ≡ Ok (what, [])
unfolding what_reader
words_back network what devices links of_network h =
    rw (
      what_words_are network what,
      event_word_back (kind what) (behind_kind network what),
      what_back network what (record { devices = devices; links = links }) of_network h,
      end_back,
    ) refl

-- a text and more words
joined : (time w : List ℕ) (ws : Words) → time ++ codes " " ++ join_with_byte space (w ∷ ws) ≡ join_with_byte space (time ∷ w ∷ ws)
joined time w ws = append_assoc time (codes " ") (join_with_byte space (w ∷ ws))

pub text_joined : (network : Network) (event : Event)
    → event_text network event ≡ join_with_byte space (signed_decimal event.time.0 ∷ what_words network event.what)
unfolding what_text
text_joined network event =
    let time = signed_decimal event.time.0 in
    rw (what_words_are network event.what) (joined time (event_word_text (kind event.what))
    (behind_kind network event.what))

event_words_are : (network : Network) (event : Event) → IsInRange network → IsOfNetwork network event.what → IsEventInRange event
    → words (event_text network event) ≡ signed_decimal event.time.0 ∷ event_word_text (kind event.what) ∷ behind_kind network event.what
event_words_are network event n of_network h =
    let time = signed_decimal event.time.0 in
    ap words (text_joined network event)
    ∙ (rw (what_words_are network event.what)
    (words_joined time ((event_word_text (kind event.what)) ∷ (behind_kind network event.what))
    (time_is_word event.time h.time)
    (event_word_is_word (kind event.what), are_words network event.what n of_network h.what)))

pub reads_back : ReadsBack
unfolding event_read
reads_back network event n devices links of_network h =
    rw (event_words_are network event n of_network h)
    (ap outcome (event_back network event (record { devices = devices; links = links }) of_network h))

-- ---- a text that reads as an event is its text, but for capital digits

-- what was read first, and what was read of the words that it left
record Steps {A B : Type 0} (reader : Read (A × Words)) (next : A → Reader B) (y : B) (left : Words) : Type 0 where
  x : A
  between : Words
  first : reader ≡ Ok (x, between)
  behind : next x between ≡ Ok (y, left)

steps : {A B : Type 0} (reader : Read (A × Words)) (next : A → Reader B) (y : B) (left : Words) → and_then reader next ≡ Ok (y, left) → Steps reader next y left
steps (Ok step) next y left e = record { x = step.0; between = step.1; first = refl; behind = e }
steps (Err fault) next y left e = absurd (cc e)

-- what was given
given : {A : Type 0} (x y : A) (left rest : Words) → ◌≡◌ {A = Read (A × Words)} (Ok (x, left)) (Ok (y, rest)) → (x ≡ y) × (left ≡ rest)
given {A} x y left rest e =
    let pairs : ◌≡◌ {A = A × Words} (x, left) (y, rest) = ap (λ (r : Read (A × Words)). result_unwrap_or r (x, left)) e in
    (ap (λ p. p.0) pairs, ap (λ p. p.1) pairs)

-- the words of an event and those that are left
abbrev Spelled : Network → EventWord → Words → What → Words → Type 0
Spelled network word ws what left = event_word_text word ∷ lower_words ws ≡ what_words network what ++ lower_words left

-- one name
device_spelled_forth : (network : Network) (word : EventWord) (make : DeviceId → What)
    → ((d : DeviceId) → what_words network (make d) ≡ event_word_text word ∷ device_name network d ∷ [])
    → IsInRange network → (ws : Words) (what : What) (left : Words) → and_then (device network ws) (λ d. give (make d)) ≡ Ok (what, left)
    → Spelled network word ws what left
device_spelled_forth network word make spells n ws what left e =
    let s = steps (device network ws) (λ d. give (make d)) what left e in
    let g = given (make s.x) what s.between left s.behind in
    ap (λ t. event_word_text word ∷ t) (device_forth network n ws s.x s.between s.first ∙ ap
    (λ t. device_name network s.x ∷ lower_words t)
    g.1)
    ∙ ap (λ t. t ++ lower_words left) (sym (spells s.x) ∙ ap (what_words network) g.0)

-- a name and a way
way_spelled_forth : (network : Network) (word : EventWord) (make : LinkId → Way → What)
    → ((l : LinkId) (w : Way) → what_words network (make l w) ≡ event_word_text word ∷ link_name network l ∷ way_text w ∷ [])
    → IsInRange network → (ws : Words) (what : What) (left : Words) → and_then (link network ws) (λ l. way >>= λ w. give (make l w)) ≡ Ok (what, left)
    → Spelled network word ws what left
way_spelled_forth network word make spells n ws what left e =
    let s = steps (link network ws) (λ l. way >>= λ w. give (make l w)) what left e in
    let t = steps (way s.between) (λ w. give (make s.x w)) what left s.behind in
    let g = given (make s.x t.x) what t.between left t.behind in
    ap (λ ws. event_word_text word ∷ ws)
    (link_forth network n ws s.x s.between s.first ∙ ap (λ ws. link_name network s.x ∷ ws)
    (way_forth s.between t.x t.between t.first
    ∙ ap (λ ws. way_text t.x ∷ lower_words ws) g.1))
    ∙ ap (λ ws. ws ++ lower_words left) (sym (spells s.x t.x) ∙ ap (what_words network) g.0)

-- a name, a way and a time
delay_spelled_forth : (network : Network) (word : EventWord) (make : LinkId → Way → Units → What)
    → ((l : LinkId) (w : Way) (u : Units) → what_words network (make l w u) ≡ event_word_text word ∷ link_name network l ∷ way_text w ∷ signed_decimal u.0 ∷ [])
    → IsInRange network → (ws : Words) (what : What) (left : Words) → and_then (link network ws) (λ l. way >>= λ w. units >>= λ u. give (make l w u)) ≡ Ok
    (what, left) → Spelled network word ws what left
delay_spelled_forth network word make spells n ws what left e =
    let s = steps (link network ws) (λ l. way >>= λ w. units >>= λ u. give (make l w u)) what left e in
    let t = steps (way s.between) (λ w. units >>= λ u. give (make s.x w u)) what left s.behind in
    let v = steps (units t.between) (λ u. give (make s.x t.x u)) what left t.behind in
    let g = given (make s.x t.x v.x) what v.between left v.behind in
    ap (λ ws. event_word_text word ∷ ws)
    (link_forth network n ws s.x s.between s.first
    ∙ ap (λ ws. link_name network s.x ∷ ws)
    (way_forth s.between t.x t.between t.first ∙ ap (λ ws. way_text t.x ∷ ws)
    (units_forth t.between v.x v.between v.first
    ∙ ap (λ ws. signed_decimal v.x.0 ∷ lower_words ws) g.1)))
    ∙ ap (λ ws. ws ++ lower_words left) (sym (spells s.x t.x v.x) ∙ ap (what_words network) g.0)

what_forth : (network : Network) → IsInRange network → (word : EventWord) (ws : Words) (what : What) (left : Words)
    → what_behind network word ws ≡ Ok (what, left) → Spelled network word ws what left
unfolding what_behind
what_forth network n Rate ws what left e =
    let s = steps (device network ws) (λ d. rate >>= λ r. give (events.Rate d r)) what left e in
    let t = steps (rate s.between) (λ r. give (events.Rate s.x r)) what left s.behind in
    let g = given (events.Rate s.x t.x) what t.between left t.behind in
    ap (λ ws. event_word_text Rate ∷ ws)
    (device_forth network n ws s.x s.between s.first ∙ ap (λ ws. device_name network s.x ∷ ws)
    (rate_forth s.between t.x t.between t.first
    ∙ ap (λ ws. signed_decimal t.x.0 ∷ lower_words ws) g.1))
    ∙ ap (λ x. what_words network x ++ lower_words left) g.0
what_forth network n Wire ws what left e = delay_spelled_forth network Wire events.Wire (λ l w u. refl) n ws what left e
what_forth network n Hold ws what left e = delay_spelled_forth network Hold events.Hold (λ l w u. refl) n ws what left e
what_forth network n Cut ws what left e = way_spelled_forth network Cut events.Cut (λ l w. refl) n ws what left e
what_forth network n Heal ws what left e = way_spelled_forth network Heal events.Heal (λ l w. refl) n ws what left e
what_forth network n On ws what left e = device_spelled_forth network On events.On (λ d. refl) n ws what left e
what_forth network n Break ws what left e = device_spelled_forth network Break events.Break (λ d. refl) n ws what left e
what_forth network n Send ws what left e =
    let s = steps (link network ws) (λ l. octets >>= λ o. give (events.Send l o)) what left e in
    let t = steps (octets s.between) (λ o. give (events.Send s.x o)) what left s.behind in
    let g = given (events.Send s.x t.x) what t.between left t.behind in
    rw (link_forth network n ws s.x s.between s.first ∙ ap (λ ws. link_name network s.x ∷ ws)
    (octets_forth s.between t.x t.between t.first
    ∙ ap (λ ws. encode_lower t.x ∷ lower_words ws) g.1))
    (ap (λ x. what_words network x ++ lower_words left) g.0)
what_forth network n End ws what left e =
    let g = given events.End what ws left e in
    rw g.1 (ap (λ x. what_words network x ++ lower_words left) g.0)

-- no word is left at the end
ended : (ws : Words) (u : Unit {0}) (left : Words) → line_end ws ≡ Ok (u, left) → (ws ≡ []) × (left ≡ [])
unfolding line_end
ended [] u left e = (refl, sym (given tt u [] left e).1)
ended (w ∷ ws) u left e = absurd (cc e)

abbrev event_made : Units → What → Event
event_made time what = record { time = time; what = what }

event_forth : (network : Network) → IsInRange network → (ws : Words) (event : Event) (left : Words) → event_reader network ws ≡ Ok (event, left)
    → lower_words ws ≡ signed_decimal event.time.0 ∷ what_words network event.what
unfolding event_reader
event_forth network n ws event left e =
    let s = steps (units ws) (λ time. event_word >>= λ word. what_behind network word >>= λ what. line_end >>= λ end. give (event_made time what)) event left e
    in
    let t = steps (event_word s.between) (λ word. what_behind network word >>= λ what. line_end >>= λ end. give (event_made s.x what)) event left s.behind in
    let v = steps (what_behind network t.x t.between) (λ what. line_end >>= λ end. give (event_made s.x what)) event left t.behind in
    let z = steps (line_end v.between) (λ end. give (event_made s.x v.x)) event left v.behind in
    let g = given (event_made s.x v.x) event z.between left z.behind in
    let none = (ended v.between z.x z.between z.first).0 in
    let time = signed_decimal s.x.0 in
    let what = what_words network v.x in
    units_forth ws s.x s.between s.first
    ∙ ap (λ ws. time ∷ ws) (event_word_forth s.between t.x t.between t.first ∙ what_forth network n t.x t.between v.x
    v.between v.first
    ∙ ap (λ ws. what ++ lower_words ws) none ∙ append-nil what)
    ∙ ap (λ x. signed_decimal x.time.0 ∷ what_words network x.what) g.0

lower_joined : (ws : Words) → lower (join_with_byte space ws) ≡ join_with_byte space (lower_words ws)
lower_joined [] = refl
lower_joined (w ∷ []) = refl
lower_joined (w ∷ v ∷ vs) =
    map-append to_ascii_lowercase w (space ∷ join_with_byte space (v ∷ vs)) ∙ (rw (lower_joined (v ∷ vs)))

read_case : (r : Read (Event × Words)) (event : Event) → outcome r ≡ Ok event → (left : Words) × (r ≡ Ok (event, left))
read_case (Ok step) event e = (step.1, ap (λ x. Ok (x, step.1)) (ap (λ r. result_unwrap_or r step.0) e))
read_case (Err fault) event e = absurd (cc e)

pub prints_back : PrintsBack
unfolding event_read
prints_back network text event n e =
    let r = read_case (event_reader network (words text)) event e in
    let ws = words text in
    text_joined network event
    ∙ ap (join_with_byte space) (sym (event_forth network n ws event r.0 r.1))
    ∙ sym (lower_joined ws)
    ∙ ap lower (join_with_byte-slice_split space text)
