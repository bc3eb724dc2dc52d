-- What reading a capture answers, judged in the order of the refusals.
use Rattle.std.specs.Prelude.{if◌then◌else◌, ◌%◌, ◌&&◌, ◌+◌, ◌==◌, Bool, Err, List, None, Ok, Option, Result, Some}
use Rattle.std.specs.Prelude.{false, length, nat_lt, true, ℕ}
use Rattle.tte_observers.specs.captures.pcap.Layout.{ethernet, head_length, magic, most_captured, number, stamp_length}
use Rattle.tte_observers.specs.declared.captures.pcap.refusal.CaptureRefusal.TheVariants.{Cut, Header, LinkType, Magic}
use Rattle.tte_observers.specs.declared.captures.pcap.refusal.CaptureRefusal.TheVariants.{PacketLength, Version}
use Rattle.tte_observers.specs.declared.captures.pcap.refusal.CaptureRefusal.{CaptureRefusal}
use Rattle.tte_observers.specs.declared.captures.pcap.capture.{CaptureHead.CaptureHead, Packet.Packet}

-- a header in this byte order, or the fault behind its magic
unfoldable pub judged : Bool → List ℕ → Result CaptureHead CaptureRefusal
judged big file =
    if (number big 2 4 file == 2) && (number big 2 6 file == 4)
    then (if number big 4 20 file % 65536 == ethernet then Ok (record { big = big }) else Err LinkType)
    else Err Version

-- the header of a file, or the fault that stands first
unfoldable pub opened : List ℕ → Result CaptureHead CaptureRefusal
opened file =
    if nat_lt (length file) head_length then Err (Header (length file))
    else (if number true 4 0 file == magic then judged true file
    else (if number false 4 0 file == magic then judged false file
    else Err Magic))

-- the packet at a place, where n octets of it were captured
abbrev pub packet_of : CaptureHead → List ℕ → ℕ → ℕ → Packet
packet_of head file at n = record {
  seconds = number head.big 4 at file;
  micros = number head.big 4 (at + 4) file;
  from = at + stamp_length;
  to = at + stamp_length + n;
  original = number head.big 4 (at + 12) file;
}

-- the packet at a place in a file, none at its end, or the fault that stands first
unfoldable pub packet_at : CaptureHead → List ℕ → ℕ → Result (Option Packet) CaptureRefusal
packet_at head file at =
    let n : ℕ = number head.big 4 (at + 8) file in
    if length file == at then Ok None
    else (if nat_lt (length file) (at + stamp_length) then Err Cut
    else (if nat_lt most_captured n then Err (PacketLength n)
    else (if nat_lt (length file) (at + stamp_length + n) then Err Cut
    else Ok (Some (packet_of head file at n)))))
