-- The two files.
use Rattle.std.specs.Prelude.{List, [], ℕ}
use Rattle.lens_plan.specs.declared.reading.{NetworkText.NetworkText, NoMessageFile.NoMessageFile}
use Rattle.lens_plan.specs.declared.reading.NoMessageFile.TheVariants as causes
use Rattle.lens_plan.specs.{Answer.MeansNoMessages, text.Refusals.line_refusal}
use Rattle.net_plan.specs.declared.network.Network.{Network}
use Rattle.tte_forms.specs.{Answering.{Answer, line_answer}, networks.Accepting.{IsTooLong, MeansAccepted, too_long_answer}}
use Rattle.tte_forms.specs.declared.status.Status.TheVariants.{MessagesRefused, OutOfMemory, ReadFault}

-- the octets that were kept mean the network, which is accepted
abbrev pub MeansItsText : NetworkText → Type 0
MeansItsText file = MeansAccepted file.octets file.accepted

-- the octets of a file give no messages, for this cause; a read may fail and memory may run out at any
abbrev pub IsNoMessages : Network → List ℕ → NoMessageFile → Type 0
IsNoMessages network text causes.ReadFault = Unit {0}
IsNoMessages network text causes.TooLong = IsTooLong text
IsNoMessages network text causes.OutOfMemory = Unit {0}
IsNoMessages network text (causes.Refused line) = MeansNoMessages network text line

-- what is answered
abbrev pub no_messages_answer : NoMessageFile → Answer
no_messages_answer causes.ReadFault = record { status = ReadFault; lines = [] }
no_messages_answer causes.TooLong = too_long_answer
no_messages_answer causes.OutOfMemory = record { status = OutOfMemory; lines = [] }
no_messages_answer (causes.Refused line) = line_answer MessagesRefused (line_refusal line)
