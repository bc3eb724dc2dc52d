-- What `capture` answers for the octets of a file.
use Rattle.std.specs.Prelude.{if◌then◌else◌, ◌+◌, Err, List, None, Ok, Option, Result, Some, [], length, nat_lt, suc}
use Rattle.std.specs.Prelude.{zero, ℕ}
use Rattle.tte_observers.specs.captures.pcap.{Layout.head_length, Reading.{opened, packet_at}}
use Rattle.tte_observers.specs.declared.captures.pcap.capture.CaptureHead.{CaptureHead}
use Rattle.tte_observers.specs.declared.captures.pcap.{capture.Packet.Packet, refusal.CaptureRefusal.CaptureRefusal}
use Rattle.tte_forms.specs.{Answering.{Answer, line_answer, with_line}, Statuses.IsFileStatus}
use Rattle.tte_forms.specs.declared.status.Status.{Status, TheVariants.{CaptureRefused, Done, TooLong}}
use Rattle.tte_observers.specs.captures.CaptureLine.{head_refusal_line, packet_line, packet_refusal_line}

-- how many octets a capture has at most
abbrev pub capture_limit : ℕ
capture_limit = 16777216

-- the line of a packet before the answer from the place behind it on, the end, or the refusal in its place
abbrev pub found_answer : ℕ → List ℕ → Result (Option Packet) CaptureRefusal → (ℕ → Answer) → Answer
found_answer number file (Ok None) answer_from = record { status = Done; lines = [] }
found_answer number file (Ok (Some p)) answer_from = with_line (packet_line number file p) (answer_from p.to)
found_answer number file (Err e) answer_from = line_answer CaptureRefused (packet_refusal_line number e)

-- the answer for at most n packets from a place on, the first of which has this number
unfoldable pub packets_answer : ℕ → ℕ → CaptureHead → List ℕ → ℕ → Answer
packets_answer zero number head file at = record { status = Done; lines = [] }
packets_answer (suc n) number head file at =
    found_answer number file (packet_at head file at) (λ to. packets_answer n (number + 1) head file to)

-- the answer for the packets behind a header, of which there are fewer than octets, or the refusal of the header
abbrev pub opened_answer : List ℕ → Result CaptureHead CaptureRefusal → Answer
opened_answer file (Ok head) = packets_answer (length file) 1 head file head_length
opened_answer file (Err e) = line_answer CaptureRefused (head_refusal_line e)

-- the answer for a file
unfoldable pub capture_answer : List ℕ → Answer
capture_answer file =
    if nat_lt capture_limit (length file)
    then record { status = TooLong; lines = [] }
    else opened_answer file (opened file)

-- the statuses of `capture`
abbrev pub IsCaptureStatus : Status → Type 0
IsCaptureStatus CaptureRefused = Unit {0}
IsCaptureStatus other = IsFileStatus other
