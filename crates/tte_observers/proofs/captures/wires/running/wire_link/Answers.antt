use Rattle.tte_observers.proofs.captures_lemmas.wires_lemmas.Words.{GivesOne, IsCapture, IsHeaded, for_all, for_more, inr, shown_by}
use Rattle.tte_forms.specs.declared.status.Status.TheVariants.{WriteFault}
use Rattle.tte_observers.proofs.captures_lemmas.wires_lemmas.Along.{head_failed, head_put, headed_failed, headed_given}
use Rattle.tte_observers.proofs.captures_lemmas.wires_lemmas.Along.{little_headed, stops_headed}
use Rattle.tte_observers.proofs.captures.wires.running.wire_link.Goals as goal

pub returns-in-Ok-clause-general : goal.returns-in-Ok-clause-general
returns-in-Ok-clause-general g c =
    let shown = shown_by g.K.Sink in
    let old = shown c.args.out.now in
    let mid = shown c.put_head.new.out in
    let new = shown c.wire_way.new.out in
    let head = head_put old mid c.in-Ok.ensures.all c.in-Ok.ensures.counted in
    let n = c.args.accepted.now in
    for_more (g.B.Source.left c.args.second.now) (λ trace. GivesOne (IsCapture c.args.link c.args.way trace n) c.wire_way.result mid new)
    (λ trace. GivesOne (IsHeaded (IsCapture c.args.link c.args.way trace n)) c.wire_way.result old new)
    (λ trace h. headed_given (IsCapture c.args.link c.args.way trace n) old mid new head c.wire_way.result h) c.wire_way.ensures.ends.general

pub returns-in-Err-clause-general : goal.returns-in-Err-clause-general
returns-in-Err-clause-general g c =
    let shown = shown_by g.K.Sink in
    let old = shown c.args.out.now in
    let new = shown c.put_head.new.out in
    let n = c.args.accepted.now in
    for_all (g.B.Source.left c.args.second.now) (λ trace. GivesOne (IsHeaded (IsCapture c.args.link c.args.way trace n)) WriteFault old new)
    (λ trace. headed_failed (IsCapture c.args.link c.args.way trace n) old new (head_failed old new c.in-Err.ensures.front c.in-Err.ensures.counted))

pub returns-in-Ok-clause-read : goal.returns-in-Ok-clause-read
returns-in-Ok-clause-read g c is =
    let shown = shown_by g.K.Sink in
    let old = shown c.args.out.now in
    let mid = shown c.put_head.new.out in
    let new = shown c.wire_way.new.out in
    let head = head_put old mid c.in-Ok.ensures.all c.in-Ok.ensures.counted in
    let cut = c.wire_way.ensures.ends.cut is in (
      cut.0,
      stops_headed c.args.link c.args.way c.args.accepted.now (g.B.Source.left c.args.second.now) (g.B.Source.left c.wire_way.new.second) old mid new head
          cut.1,
    )

pub returns-in-Ok-clause-little : goal.returns-in-Ok-clause-little
returns-in-Ok-clause-little g c =
    let shown = shown_by g.K.Sink in
    let old = shown c.args.out.now in
    let mid = shown c.put_head.new.out in
    let new = shown c.wire_way.new.out in
    let head = head_put old mid c.in-Ok.ensures.all c.in-Ok.ensures.counted in
    inr (little_headed c.args.link c.args.way c.args.accepted.now (g.B.Source.left c.args.second.now) (g.B.Source.left c.wire_way.new.second) old mid new
    head c.wire_way.ensures.ends.little)
