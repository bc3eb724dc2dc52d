-- The line of an event.
use Rattle.std.specs.{Fmt.signed_decimal, List.join_with_byte, Prelude.{◌*◌, ◌++◌, ◌+◌, ◌∷◌, List, [], codes, ℕ}}
use Rattle.{hex.specs.Hex.encode_lower, net_plan.specs.declared.event.What.What, trace_text.specs.Steps.{Words, space}}
use Rattle.net_plan.specs.{Belonging.{device_name, link_name}, declared.{event.Event.Event, network.Network.Network}}
use Rattle.trace_text.specs.{EventWords.{event_word_text, way_text}, declared.event_word.EventWord.TheVariants.Wire}
use Rattle.trace_text.specs.declared.event_word.EventWord.TheVariants.{Break, Cut, End, Heal, Hold, On, Rate, Send}
use Rattle.net_plan.specs.declared.event.What.TheVariants as events

-- the words of an event behind its time
abbrev pub what_words : Network → What → Words
what_words network (events.Rate d r) = event_word_text Rate ∷ device_name network d ∷ signed_decimal r.0 ∷ []
what_words network (events.Wire l w u) =
    event_word_text Wire ∷ link_name network l ∷ way_text w ∷ signed_decimal u.0 ∷ []
what_words network (events.Hold l w u) =
    event_word_text Hold ∷ link_name network l ∷ way_text w ∷ signed_decimal u.0 ∷ []
what_words network (events.Cut l w) = event_word_text Cut ∷ link_name network l ∷ way_text w ∷ []
what_words network (events.Heal l w) = event_word_text Heal ∷ link_name network l ∷ way_text w ∷ []
what_words network (events.On d) = event_word_text On ∷ device_name network d ∷ []
what_words network (events.Break d) = event_word_text Break ∷ device_name network d ∷ []
what_words network (events.Send l o) = event_word_text Send ∷ link_name network l ∷ encode_lower o ∷ []
what_words network events.End = event_word_text End ∷ []

-- the text of an event behind its time
unfoldable pub what_text : Network → What → List ℕ
what_text network what = join_with_byte space (what_words network what)

-- how many octets that text has at most: where it gives 1,514 octets in hexadecimal, behind a name of 16
abbrev pub longest_text : ℕ
longest_text = 4 + 1 + 16 + 1 + 2 * 1514

-- the text of an event
abbrev pub event_text : Network → Event → List ℕ
event_text network event = signed_decimal event.time.0 ++ codes " " ++ what_text network event.what

-- its line
abbrev pub event_line : Network → Event → List ℕ
event_line network event = event_text network event ++ codes "\n"
