-- The times of an event that is read from a line.
use Rattle.{net_plan.specs.declared.{event.{Event.Event, What.What}, network.Network.Network}, tte_units.specs.{Amount.units_of, declared.units.Units.Units}}
use Rattle.std.proofs.{Common.{◌∷◌, ◌≡◌, ◌≤◌, Bool, List, None, Ok, Some, [], arith, cond, false, refl, true, ℕ}, lemmas.{Bool.{and_parts, leb-true}, Int.ints}}
use Rattle.{std.specs.{Option.{ok_or, option_map}, Prelude.{◌&&◌, bytes_eq, decimal, nat_le}}, trace_text.specs.declared.refusal.LineRefusal.TheVariants.Number}
use Rattle.std.specs.Str.Parse.{digits_value}
use Rattle.trace_text.{proofs.WordsBack.{Gives, from_outcome, with_any, with_first}}
use Rattle.trace_text.{specs.WordReading.{device, event_word, link, octets, rate, units, way}}
use Rattle.trace_text.specs.{EventReading.{event_read, event_reader, what_behind}, Numbers.latest, Steps.{◌>>=◌, Words, give, line_end, with_rest, words}}
use Rattle.trace_text.specs.{Ranges.IsTime, declared.event_word.EventWord.{EventWord, TheVariants.{Break, Cut, End, Heal, Hold, On, Rate, Send, Wire}}}
use Rattle.net_plan.specs.declared.event.What.TheVariants as events

-- a number up to the latest is a time
number_is_time : (n : ℕ) (test : Bool) (left : Words) → (test ≡ true → n ≤ latest)
    → Gives (with_rest left (ok_or (option_map units_of (cond test (Some n) None)) Number)) IsTime
number_is_time n true left le = let small = le refl in record {
  least = omega (arith, ints);
  most =
      omega (arith, ints);
}
number_is_time n false left le = tt

units_are_time : (ws : Words) → Gives (units ws) IsTime
unfolding units
units_are_time [] = tt
units_are_time (text ∷ left) =
    let n = digits_value 10 text in
    number_is_time n (bytes_eq text (decimal n) && nat_le n latest) left
    (λ test. leb-true n latest (and_parts (bytes_eq text (decimal n)) (nat_le n latest) test).1)

abbrev event_made : Units → What → Event
event_made time what = record { time = time; what = what }

time_first : (network : Network) (ws : Words) → Gives (event_reader network ws) (λ e. IsTime e.time)
unfolding event_reader
time_first network ws =
    let Q = λ (e : Event). IsTime e.time in
    with_first (units ws) (λ time. event_word >>= λ word. what_behind network word >>= λ what. line_end >>= λ end. give (event_made time what)) IsTime Q
    (units_are_time ws)
    (λ time left t. with_any (event_word left) (λ word. what_behind network word >>= λ what. line_end >>= λ end. give (event_made time what)) Q
    (λ word left. with_any (what_behind network word left) (λ what. line_end >>= λ end. give (event_made time what)) Q
    (λ what left. with_any (line_end left) (λ end. give (event_made time what)) Q (λ end left. t))))

-- a line's event has a time
pub event_time : (network : Network) (text : List ℕ) (event : Event) → event_read network text ≡ Ok event → IsTime event.time
unfolding event_read
event_time network text event e = from_outcome (λ d. IsTime d.time) (event_reader network (words text)) event
    (time_first network (words text)) e

-- ---- a hold

-- a hold that this sets is a time
abbrev pub HoldsATime : What → Type 0
HoldsATime (events.Hold link way delay) = IsTime delay
HoldsATime other = Unit {0}

what_holds : (network : Network) (word : EventWord) (ws : Words) → Gives (what_behind network word ws) HoldsATime
unfolding what_behind
what_holds network Rate ws =
    with_any (device network ws) (λ d. rate >>= λ r. give (events.Rate d r)) HoldsATime
    (λ d left. with_any (rate left) (λ r. give (events.Rate d r)) HoldsATime (λ r rest. tt))
what_holds network Wire ws =
    with_any (link network ws) (λ l. way >>= λ w. units >>= λ u. give (events.Wire l w u)) HoldsATime
    (λ l left. with_any (way left) (λ w. units >>= λ u. give (events.Wire l w u)) HoldsATime
    (λ w more. with_any (units more) (λ u. give (events.Wire l w u)) HoldsATime (λ u rest. tt)))
what_holds network Hold ws =
    with_any (link network ws) (λ l. way >>= λ w. units >>= λ u. give (events.Hold l w u)) HoldsATime
    (λ l left. with_any (way left) (λ w. units >>= λ u. give (events.Hold l w u)) HoldsATime
    (λ w more. with_first (units more) (λ u. give (events.Hold l w u)) IsTime HoldsATime (units_are_time more) (λ u rest t. t)))
what_holds network Cut ws =
    with_any (link network ws) (λ l. way >>= λ w. give (events.Cut l w)) HoldsATime
    (λ l left. with_any (way left) (λ w. give (events.Cut l w)) HoldsATime (λ w rest. tt))
what_holds network Heal ws =
    with_any (link network ws) (λ l. way >>= λ w. give (events.Heal l w)) HoldsATime
    (λ l left. with_any (way left) (λ w. give (events.Heal l w)) HoldsATime (λ w rest. tt))
what_holds network On ws = with_any (device network ws) (λ d. give (events.On d)) HoldsATime (λ d left. tt)
what_holds network Break ws = with_any (device network ws) (λ d. give (events.Break d)) HoldsATime (λ d left. tt)
what_holds network Send ws =
    with_any (link network ws) (λ l. octets >>= λ o. give (events.Send l o)) HoldsATime
    (λ l left. with_any (octets left) (λ o. give (events.Send l o)) HoldsATime (λ o rest. tt))
what_holds network End ws = tt

event_holds : (network : Network) (ws : Words) → Gives (event_reader network ws) (λ e. HoldsATime e.what)
unfolding event_reader
event_holds network ws =
    let Q = λ (e : Event). HoldsATime e.what in
    with_any (units ws) (λ time. event_word >>= λ word. what_behind network word >>= λ what. line_end >>= λ end. give (event_made time what)) Q
    (λ time left. with_any (event_word left) (λ word. what_behind network word >>= λ what. line_end >>= λ end. give (event_made time what)) Q
    (λ word left. with_first (what_behind network word left) (λ what. line_end >>= λ end. give (event_made time what)) HoldsATime Q
    (what_holds network word left)
    (λ what left own. with_any (line_end left) (λ end. give (event_made time what)) Q (λ end left. own))))

-- a hold that a line sets is a time
pub event_hold : (network : Network) (text : List ℕ) (event : Event) → event_read network text ≡ Ok event → HoldsATime event.what
unfolding event_read
event_hold network text event e = from_outcome (λ d. HoldsATime d.what) (event_reader network (words text)) event
    (event_holds network (words text)) e
