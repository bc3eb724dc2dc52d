use Rattle.tte_reports.proofs.Reports.{fewer_left, taken_all, taken_more, taken_none}
use Rattle.{run_law.specs.declared.note.Note.Note, std.proofs.Common.{◌++◌, ◌∙◌, List, ap}}
use Rattle.tte_reports.proofs.folding.take_records.Goals as goal

pub records-init : goal.records-init
records-init g c notes end r =
    taken_none g.T.RecordTaker.holds c.args.network.now notes c.args.taker.now c.records-records.result (c.requires.none notes end r)
    (c.records-records.ensures c.args.network.now notes end r)

pub next_in-requires-clause-left : goal.next_in-requires-clause-left
next_in-requires-clause-left g c =
    let some = c.requires.report in
    let so = c.records.invariant some.0 some.1 some.2 in
    (so.rest, so.left)

pub take-requires-clause-next : goal.take-requires-clause-next
take-requires-clause-next g c =
    let some = c.requires.report in
    let so = c.records.invariant some.0 some.1 some.2 in
    let next = c.in-Some.ensures so.rest so.left in
    let parts = so.parts ∙ ap (λ (ns : List Note). so.before ++ ns) next.1 in
    (c.args.report.now.octets, some.0, so.before, c.args.taker.now, record { end = some.1; report = some.2; rest = next.0; parts = parts }, so.taken)

pub records-smaller : goal.records-smaller
records-smaller g c =
    let some = c.requires.report in
    let so = c.records.invariant some.0 some.1 some.2 in
    let next = c.in-Some.ensures so.rest so.left in
    fewer_left c.next_in.new.note c.records.records c.next_in.new.self next.1 so.left next.2

pub records-preserved : goal.records-preserved
records-preserved g c notes end r =
    let so = c.records.invariant notes end r in
    let next = c.in-Some.ensures so.rest so.left in
    let parts = so.parts ∙ ap (λ (ns : List Note). so.before ++ ns) next.1 in
    let holds = c.in_ok-take-in-Some.ensures c.args.report.now.octets notes so.before c.args.taker.now
    (record { end = end; report = r; rest = next.0; parts = parts }) so.taken in
    taken_more g.T.RecordTaker.holds c.args.network.now notes c.args.taker.now c.records.taker c.records.records so c.next_in.new.note next.0
    c.take.new.self c.next_in.new.self next.1 holds next.2

pub returns-in-None : goal.returns-in-None
returns-in-None g c notes end r =
    let so = c.records.invariant notes end r in
    taken_all g.T.RecordTaker.holds c.args.network.now notes c.args.taker.now c.records.taker c.records.records so (c.in-None.ensures so.rest so.left)
