use Rattle.lens_plan.{proofs.Plans.fault_same, specs.messages.Reading.{message_reader, some_receivers}}
use Rattle.std.proofs.Common.{refl, sym}
use Rattle.trace_text.specs.Steps.{words}
use Rattle.lens_plan.proofs.messages.all.message_of.Goals as goal

pub returns-in-Err-clause-fault : goal.returns-in-Err-clause-fault
unfolding message_reader
returns-in-Err-clause-fault c = rw (sym c.of-line.ensures, c.in-Err.ensures.value) refl

pub returns-in-Err-timing-clause-fault : goal.returns-in-Err-timing-clause-fault
unfolding message_reader
returns-in-Err-timing-clause-fault c = rw (sym c.of-line.ensures, c.in-Ok.ensures.value, c.in-Err-timing.ensures.value) refl

pub returns-in-Err-sender-clause-fault : goal.returns-in-Err-sender-clause-fault
unfolding message_reader
returns-in-Err-sender-clause-fault c = rw (sym c.of-line.ensures, c.in-Ok.ensures.value, c.in-Ok-timing.ensures.value, c.in-Err-sender.ensures.value) refl

pub returns-in-Err-receivers-clause-fault : goal.returns-in-Err-receivers-clause-fault
unfolding message_reader
returns-in-Err-receivers-clause-fault c =
    fault_same (some_receivers c.args.network.now c.in-Ok-sender.sender c.sender.new.self)
    (message_reader c.args.network.now c.args.earlier.now (words c.args.text.now)) c.in-Err-receivers.fault
    (λ f read. rw (sym c.of-line.ensures, c.in-Ok.ensures.value, c.in-Ok-timing.ensures.value, c.in-Ok-sender.ensures.value, read) refl) c.in-Err-receivers.ensures.fault

pub returns-clause-read : goal.returns-clause-read
unfolding message_reader
returns-clause-read c = (
  c.in-Ok-receivers.ensures.read.0,
  rw (sym c.of-line.ensures, c.in-Ok.ensures.value, c.in-Ok-timing.ensures.value, c.in-Ok-sender.ensures.value, c.in-Ok-receivers.ensures.read.1) refl,
)
