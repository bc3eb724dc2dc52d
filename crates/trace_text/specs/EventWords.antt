-- The words that name an event and a way.
use Rattle.std.specs.Prelude.{◌∷◌, List, Option, [], bytes_eq, codes, find, ℕ}
use Rattle.net_plan.specs.declared.tables.Way.{Way, TheVariants.{Down, Up}}
use Rattle.trace_text.specs.declared.event_word.EventWord.TheVariants.{Break, Cut, End, Heal, Hold, On, Rate, Send}
use Rattle.trace_text.specs.declared.event_word.EventWord.{EventWord, TheVariants.Wire}

-- the word of an event
abbrev pub event_word_text : EventWord → List ℕ
event_word_text Rate = codes "rate"
event_word_text Wire = codes "wire"
event_word_text Hold = codes "hold"
event_word_text Cut = codes "cut"
event_word_text Heal = codes "heal"
event_word_text On = codes "on"
event_word_text Break = codes "break"
event_word_text Send = codes "send"
event_word_text End = codes "end"

-- all of them
abbrev pub event_words : List EventWord
event_words = Rate ∷ Wire ∷ Hold ∷ Cut ∷ Heal ∷ On ∷ Break ∷ Send ∷ End ∷ []

-- the event whose word the text is
unfoldable pub event_word_spelled : List ℕ → Option EventWord
event_word_spelled text = find (λ word. bytes_eq (event_word_text word) text) event_words

-- the word of a way
abbrev pub way_text : Way → List ℕ
way_text Up = codes "up"
way_text Down = codes "down"

-- the way whose word the text is
unfoldable pub way_spelled : List ℕ → Option Way
way_spelled text = find (λ way. bytes_eq (way_text way) text) (Up ∷ Down ∷ [])
