use Rattle.std.proofs.Common.{arith}
use Rattle.lens_flows.proofs.{counts_lemmas.Counts.{ends_all, ends_more, ends_none}, judge_lemmas.Judging.span_short}
use Rattle.lens_flows.proofs.counts.flows.last_end.Goals as goal

pub rows-init : goal.rows-init
rows-init c = ends_none c.args.network.now c.args.vl c.args.device c.requires.rows

pub end_by-requires-clause-row : goal.end_by-requires-clause-row
end_by-requires-clause-row c =
    let all = span_short c.requires.rows in
    let lt = c.rows-test.true in
    omega (arith, all, lt)

pub rows-preserved : goal.rows-preserved
rows-preserved c =
    ends_more c.args.network.now c.args.vl c.args.device c.rows.place c.rows.last c.end_by.result c.later_of-last.result c.later_of-last.ensures
    c.rows.invariant c.end_by.ensures

pub returns : goal.returns
returns c =
    let h = c.rows-test.false in
    ends_all c.args.network.now c.args.vl c.args.device c.rows.place c.rows.last c.requires.rows (omega (arith, h)) c.rows.invariant
