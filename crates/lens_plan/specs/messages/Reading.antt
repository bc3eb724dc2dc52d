-- The message of a line. A line is a list of words with single spaces between them, judged from the left:
--
--     NAME [id N] length N [ethertype N] period N [phase N] [after T] [by T] from DEVICE to DEVICE ..
use Rattle.std.specs.{List.list_any, Option.unwrap_or, Prelude.{◌==◌, ◌-◌, ◌++◌, ◌∷◌, ◌||◌, Err, List, None, Ok, Option, Some, [], codes, if◌then◌else◌, ℕ}}
use Rattle.net_plan.specs.declared.{ids.DeviceId.DeviceId, network.Network.Network}
use Rattle.lens_plan.specs.messages.{Message.{Message, id_is_taken, message_of, name_is_taken}, Words.{end_system, number, period, time}}
use Rattle.lens_plan.specs.messages.Steps.{◌>>=◌, Read, Reader, fixed, give, next_word, optional, outcome}
use Rattle.lens_plan.specs.messages.Values.{end_system_spelled, is_name_text}
use Rattle.lens_plan.specs.declared.messages.reading.{Head.Head, Timing.Timing}
use Rattle.lens_plan.specs.declared.messages.refusal.MessageRefusal.TheVariants.{Form, Name, Number, Taken, Twice}
use Rattle.trace_text.specs.Steps.{words}

-- the message's name, which is new
abbrev pub name_read : Network → List Message → List ℕ → Read (List ℕ)
name_read network earlier text =
    if is_name_text text then (if name_is_taken network earlier text then Err Taken else Ok text) else Err Name

unfoldable pub name : Network → List Message → Reader (List ℕ)
name network earlier = next_word (name_read network earlier)

-- the id, which is new
abbrev pub new_id : Network → List Message → ℕ → Reader ℕ
new_id network earlier n left = if id_is_taken network earlier n then Err Taken else Ok (n, left)

unfoldable pub id : Network → List Message → Reader ℕ
id network earlier = do n ← number 0 65535; new_id network earlier n

-- the EtherType, which is not that of protocol control frames
abbrev pub other_ethertype : ℕ → Reader ℕ
other_ethertype n left = if n == 35101 then Err Number else Ok (n, left)

unfoldable pub ethertype : Reader ℕ
ethertype = do n ← number 1536 65535; other_ethertype n

-- the words of the frame; the EtherType is that of IPv4 where none is given
unfoldable pub head : Network → List Message → Reader Head
head network earlier = do
  called ← name network earlier
  numbered ← optional (codes "id") (id network earlier)
  word ← fixed (codes "length")
  octets ← number 60 1514
  kind ← optional (codes "ethertype") ethertype
  give (record { name = called; id = numbered; length = octets; ethertype = unwrap_or kind 2048 })

-- the words of the times
unfoldable pub timing : Reader Timing
timing = do
  word ← fixed (codes "period")
  cycles ← period
  phase ← optional (codes "phase") (number 0 (cycles - 1))
  after ← optional (codes "after") time
  by ← optional (codes "by") time
  give (record { period = cycles; phase = phase; after = after; by = by })

-- the receiver of this name, which is neither the sender nor an earlier one
abbrev pub new_receiver : DeviceId → List DeviceId → Option DeviceId → Read DeviceId
new_receiver sender earlier None = Err Name
new_receiver sender earlier (Some d) =
    if d.0 == sender.0 || list_any (λ e. e.0 == d.0) earlier then Err Twice else Ok d

-- one more receiver
unfoldable pub receiver : Network → DeviceId → List DeviceId → Reader DeviceId
receiver network sender earlier = next_word (λ text. new_receiver sender earlier (end_system_spelled network text))

-- go on with what one word means
abbrev pub go_on : {A B : Type 0} → Read A → (A → Read B) → Read B
go_on (Ok x) next = next x
go_on (Err fault) next = Err fault

-- the receivers behind these, up to the line's end
abbrev pub receivers : Network → DeviceId → List DeviceId → Reader (List DeviceId)
receivers network sender earlier [] = Ok (earlier, [])
receivers network sender earlier (word ∷ left) =
    go_on (new_receiver sender earlier (end_system_spelled network word))
    (λ d. receivers network sender (earlier ++ d ∷ []) left)

-- one receiver at least
abbrev pub some_receivers : Network → DeviceId → Reader (List DeviceId)
some_receivers network sender [] = Err Form
some_receivers network sender (word ∷ left) = receivers network sender [] (word ∷ left)

-- the sender
unfoldable pub sender : Network → Reader DeviceId
sender network = do
  word ← fixed (codes "from")
  device ← end_system network
  behind ← fixed (codes "to")
  give device

-- the whole line
unfoldable pub message_reader : Network → List Message → Reader Message
message_reader network earlier = do
  h ← head network earlier
  t ← timing
  from ← sender network
  to ← some_receivers network from
  give (message_of h.name h.id h.length h.ethertype t.period t.phase t.after t.by from to)

-- the message of a line, or its leftmost fault
unfoldable pub message_read : Network → List Message → List ℕ → Read Message
message_read network earlier text = outcome (message_reader network earlier (words text))
