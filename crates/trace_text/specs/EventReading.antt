-- The event of a trace's line. A line is a list of words with single spaces between them:
--
--     TIME rate DEVICE PPB          from TIME on the device's clock has this rate
--     TIME wire LINK WAY UNITS      the way of the link has this wire delay
--     TIME hold LINK WAY UNITS      its sender holds a frame so long
--     TIME cut LINK WAY             it carries nothing
--     TIME heal LINK WAY            it carries frames again
--     TIME on DEVICE                the device is turned on
--     TIME break DEVICE             the device breaks
--     TIME send LINK HEX            the broken master puts these octets on the link
--     TIME end                      nothing befalls the network any more
--
-- The line is judged word by word from the left.
use Rattle.std.specs.Prelude.{List, ℕ}
use Rattle.net_plan.specs.declared.{event.{Event.Event, What.What}, network.Network.Network}
use Rattle.trace_text.specs.Steps.{◌>>=◌, Read, Reader, give, line_end, outcome, words}
use Rattle.trace_text.specs.WordReading.{device, event_word, link, octets, rate, units, way}
use Rattle.trace_text.specs.declared.event_word.EventWord.TheVariants.{Break, Cut, End, Heal, Hold, On, Rate, Send}
use Rattle.trace_text.specs.declared.event_word.EventWord.{EventWord, TheVariants.Wire}
use Rattle.net_plan.specs.declared.event.What.TheVariants as events

-- what befalls the network, by the words behind the event's word
unfoldable pub what_behind : Network → EventWord → Reader What
what_behind network Rate = do d ← device network; r ← rate; give (events.Rate d r)
what_behind network Wire = do l ← link network; w ← way; u ← units; give (events.Wire l w u)
what_behind network Hold = do l ← link network; w ← way; u ← units; give (events.Hold l w u)
what_behind network Cut = do l ← link network; w ← way; give (events.Cut l w)
what_behind network Heal = do l ← link network; w ← way; give (events.Heal l w)
what_behind network On = do d ← device network; give (events.On d)
what_behind network Break = do d ← device network; give (events.Break d)
what_behind network Send = do l ← link network; o ← octets; give (events.Send l o)
what_behind network End = give events.End

-- what befalls the network, by all the words of its line without the time
unfoldable pub what_reader : Network → Reader What
what_reader network = do
  word ← event_word
  what ← what_behind network word
  end ← line_end
  give what

-- the whole line
unfoldable pub event_reader : Network → Reader Event
event_reader network = do
  time ← units
  word ← event_word
  what ← what_behind network word
  end ← line_end
  give (record { time = time; what = what })

-- the event of a line, or the leftmost fault
unfoldable pub event_read : Network → List ℕ → Read Event
event_read network text = outcome (event_reader network (words text))
