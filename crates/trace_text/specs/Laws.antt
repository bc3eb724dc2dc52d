use Rattle.std.specs.{Prelude.{◌≡◌, List, Ok, ℕ}, Str.str_to_ascii_lowercase}
use Rattle.net_plan.specs.{Belonging.IsOfNetwork, Ranges.IsInRange, Rules.{DeviceIsNew, LinkIsNew}}
use Rattle.net_plan.specs.declared.{event.Event.Event, network.Network.Network}
use Rattle.trace_text.specs.{EventLine.event_text, EventReading.event_read, Ranges.IsEventInRange}

-- where no two devices and no two links have one name, the text of an event reads back as that event
abbrev pub ReadsBack : Type 0
ReadsBack =
    (network : Network) (event : Event)
    → IsInRange network → ((i : ℕ) → DeviceIsNew network i) → ((i : ℕ) → LinkIsNew network i)
    → IsOfNetwork network event.what → IsEventInRange event
    → event_read network (event_text network event) ≡ Ok event

-- a text that reads as an event is the text of that event, but for capital hexadecimal digits
abbrev pub PrintsBack : Type 0
PrintsBack =
    (network : Network) (text : List ℕ) (event : Event)
    → IsInRange network → event_read network text ≡ Ok event
    → event_text network event ≡ str_to_ascii_lowercase text
