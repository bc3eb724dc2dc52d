use Rattle.std.specs.Prelude.{IfOk}
use Rattle.tte_traces.proofs.{Taken.refused_given}
use Rattle.tte_traces.proofs.Admitted
use Admitted.{followed_with, goes_so, reads_any, reads_same, reads_so, some_found, stays_any, takes_few}
use Rattle.{tte_traces.proofs.Words.{Err, Event, IfSome, IsOfNetwork, Network, Ok, [], length, pending, refl, subst}, world_drive.specs.Sources.given_in}
use Rattle.tte_traces.proofs.lines.Trace.next_event.Goals as goal

pub returns-in-Ok-clause-follows : goal.returns-in-Ok-clause-follows
returns-in-Ok-clause-follows g c network events f =
    let given = given_in c.judge.result c.judge.new.event in
    let before = pending c.args.self.now.reader in
    let reader = c.next_line.new.reader in
    let found = some_found c.in-Ok.found c.in-Ok.ensures.next in
    let judged = c.judge.ensures.judged network events found.0 (followed_with reader f) found.1 in
    let of_network = subst (λ (n : Network). IfOk given (λ event. IfSome event (λ (e : Event). IsOfNetwork n e.what))) f.over
    c.judge.ensures.of_network in
    goes_so network events found.0 given c.judge.new.self judged of_network c.judge.ensures.range

pub returns-in-Ok-clause-takes : goal.returns-in-Ok-clause-takes
returns-in-Ok-clause-takes g c =
    let given = given_in c.judge.result c.judge.new.event in
    let refused = refused_given c.judge.result c.judge.new.event c.judge.ensures.refused in record {
      reads = λ network octets events left told r.
          reads_so network octets events left c.args.self.now c.judge.new.self c.in-Ok.found given told r
          c.in-Ok.ensures.next c.in-Ok.ensures.told
          (λ rest found. c.judge.ensures.judged network events rest (followed_with c.next_line.new.reader r.follows)
          found)
          c.judge.ensures.reader refused;
      few =
          λ network octets events left told r. takes_few octets (length events) left _ told r.none_left r.coming
          c.in-Ok.ensures.next c.in-Ok.ensures.told c.in-Ok.ensures.kept_bound c.in-Ok.ensures.ahead_bound;
      any = λ network came events any.
          let follows = (any [] (λ _. refl)).follows in
          reads_any network came events c.args.self.now c.next_line.new.reader _ _ any c.judge.new.self c.in-Ok.found given c.in-Ok.ensures.next
          (λ rest found. c.judge.ensures.judged network events rest (followed_with c.next_line.new.reader follows)
          found)
          c.judge.ensures.reader refused;
    }

pub returns-in-Err-clause-takes : goal.returns-in-Err-clause-takes
returns-in-Err-clause-takes g c = record {
  reads = λ network octets events left told r.
      reads_same network octets events left c.args.self.now c.in-Err.stop told r c.in-Err.ensures.stop
      c.in-Err.ensures.next
      c.in-Err.ensures.told;
  few =
      λ network octets events left told r. takes_few octets (length events) left _ told r.none_left r.coming
      c.in-Err.ensures.next c.in-Err.ensures.told c.in-Err.ensures.kept_bound c.in-Err.ensures.ahead_bound;
  any = λ network came events any.
      stays_any network came events c.args.self.now c.next_line.new.reader _ _ any c.in-Err.stop c.in-Err.ensures.stop c.in-Err.ensures.next;
}
