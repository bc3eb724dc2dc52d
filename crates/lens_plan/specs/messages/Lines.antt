-- The messages of a file, a line each. A line that is empty or begins with `#` has none.
use Rattle.std.specs.{Borrow.Bor, List.slice_split, Prelude.{◌++◌, ◌+◌, ◌==◌, ◌∷◌, ◌≡◌, Bool, Err, List, None, Ok, Option, Result, Some, []}}
use Rattle.std.specs.Prelude.{if◌then◌else◌, length, nat_lt, true, ℕ}
use Rattle.{lens_plan.specs.messages.{Message.Message, Reading.message_read, Steps.Read}, net_plan.specs.declared.network.Network.Network}
use Rattle.lens_plan.specs.declared.messages.refusal.{MessageRefusal.{MessageRefusal, TheVariants.Long}, RefusedLine.RefusedLine}
use Rattle.lens_plan.specs.declared.messages.refusal.{LineFault.{LineFault, TheVariants.{OutOfMemory, Refused}}, NoMessages.NoMessages}
use Rattle.lens_plan.specs.declared.messages.refusal.NoMessages.TheVariants as files

-- ASCII's line feed
abbrev pub is_lf : ℕ → Bool
is_lf octet = octet == 10

-- the parts between the line feeds
abbrev pub lines_of : List ℕ → List (List ℕ)
lines_of text = slice_split is_lf text

-- none where the text has ended
abbrev pub lines_left : Option (Bor (List ℕ)) → List (List ℕ)
lines_left None = []
lines_left (Some text) = lines_of text.now

-- how many octets a line has at most
abbrev pub line_limit : ℕ
line_limit = 4096

-- the line has no message: it is empty, or it begins with `#`, which is ASCII's 35
abbrev pub is_passed : List ℕ → Bool
is_passed [] = true
is_passed (octet ∷ line) = octet == 35

-- that the line of this number is refused
abbrev pub refused_line : ℕ → MessageRefusal → RefusedLine
refused_line number refusal = record { number = number; refusal = refusal }

abbrev pub refused : ℕ → MessageRefusal → Result (List Message) RefusedLine
refused number refusal = Err (refused_line number refusal)

-- go on with a line's message behind the earlier ones, or stop at its fault
abbrev pub with_message : ℕ → List Message → Read Message → (List Message → Result (List Message) RefusedLine)
    → Result (List Message) RefusedLine
with_message number earlier (Ok m) next = next (earlier ++ m ∷ [])
with_message number earlier (Err refusal) next = refused number refusal

-- the messages of these lines, of which the first has this number, behind the earlier ones; or the first line that is
-- refused
unfoldable pub messages_from : Network → ℕ → List Message → List (List ℕ) → Result (List Message) RefusedLine
messages_from network number earlier [] = Ok earlier
messages_from network number earlier (line ∷ lines) =
    if nat_lt line_limit (length line) then refused number Long
    else if is_passed line then messages_from network (number + 1) earlier lines
    else with_message number earlier (message_read network earlier line)
    (λ ms. messages_from network (number + 1) ms lines)

-- the messages of a file
abbrev pub messages_read : Network → List ℕ → Result (List Message) RefusedLine
messages_read network octets = messages_from network 1 [] (lines_of octets)

-- the first line that is refused; memory may run out at any
abbrev pub AreNoMessages : Result (List Message) RefusedLine → NoMessages → Type 0
AreNoMessages read (files.Refused line) = read ≡ Err line
AreNoMessages read files.OutOfMemory = Unit {0}

-- why there are no messages, where the line of this number has this fault
abbrev pub fault_at : ℕ → LineFault → NoMessages
fault_at number (Refused refusal) = files.Refused (refused_line number refusal)
fault_at number OutOfMemory = files.OutOfMemory
