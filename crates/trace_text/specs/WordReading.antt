-- The kinds of words of a trace's line, each with its one fault.
use Rattle.std.specs.Option.{ok_or, unwrap_or}
use Rattle.std.specs.Prelude.{if◌then◌else◌, ◌&&◌, Err, List, Ok, Result, length, nat_le, ℕ}
use Rattle.hex.specs.{Hex.{decode_of, hex_digit_value}, declared.error.FromHexError.FromHexError}
use Rattle.net_plan.specs.declared.{ids.{DeviceId.DeviceId, LinkId.LinkId}, network.Network.Network, tables.Way.Way}
use Rattle.tte_units.specs.declared.{rates.Ppb.Ppb, units.Units.Units}
use Rattle.trace_text.specs.{EventWords.{event_word_spelled, way_spelled}, Names.{device_spelled, link_spelled}}
use Rattle.trace_text.specs.{Numbers.{rate_spelled, units_spelled}, Steps.{Read, Reader, next_word}}
use Rattle.trace_text.specs.declared.event_word.EventWord.{EventWord}
use Rattle.trace_text.specs.declared.refusal.LineRefusal.TheVariants.{Form, Hex, Name, Number, Octets}

-- the word of an event
unfoldable pub event_word : Reader EventWord
event_word = next_word (λ text. ok_or (event_word_spelled text) Form)

-- TIME and UNITS: from 0 to 2^60 units of 2^-16 ns, in decimal
unfoldable pub units : Reader Units
units = next_word (λ text. ok_or (units_spelled text) Number)

-- PPB: from -10^9 to 10^9 parts per 10^9, in decimal
unfoldable pub rate : Reader Ppb
rate = next_word (λ text. ok_or (rate_spelled text) Number)

-- DEVICE: a device's name
unfoldable pub device : Network → Reader DeviceId
device network = next_word (λ text. ok_or (device_spelled network text) Name)

-- LINK: a link's name
unfoldable pub link : Network → Reader LinkId
link network = next_word (λ text. ok_or (link_spelled network text) Name)

-- WAY: up or down
unfoldable pub way : Reader Way
way = next_word (λ text. ok_or (way_spelled text) Form)

-- the value of a hexadecimal digit of either case, and 16 for an octet that is none
abbrev pub digit_number : ℕ → ℕ
digit_number octet = unwrap_or (hex_digit_value octet) 16

-- the octets of a frame are 60 to 1,514
abbrev pub frame_of : Result (List ℕ) FromHexError → Read (List ℕ)
frame_of (Ok octets) = if nat_le 60 (length octets) && nat_le (length octets) 1514 then Ok octets else Err Octets
frame_of (Err e) = Err Hex

-- the octets of a text of hexadecimal digits of either case
unfoldable pub octets_spelled : List ℕ → Read (List ℕ)
octets_spelled text = frame_of (decode_of text)

-- HEX: the octets of a frame in hexadecimal
unfoldable pub octets : Reader (List ℕ)
octets = next_word octets_spelled
