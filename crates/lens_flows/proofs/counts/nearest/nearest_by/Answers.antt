use Rattle.std.proofs.Common.{arith, pos}
use Rattle.lens_flows.proofs.{counts_lemmas.Telling.{inside_all, inside_more, inside_none}}
use Rattle.lens_flows.proofs.{judge_lemmas.Judging.span_short}
use Rattle.lens_flows.proofs.counts.nearest.nearest_by.Goals as goal

pub rows-init : goal.rows-init
rows-init c = inside_none c.args.network.now c.args.flow.now c.args.link (pos c.args.place) c.requires.rows

pub inside_row-found-requires-clause-row : goal.inside_row-found-requires-clause-row
inside_row-found-requires-clause-row c =
    let all = span_short c.requires.rows in
    let lt = c.rows-test.true in
    omega (arith, all, lt)

pub rows-preserved : goal.rows-preserved
rows-preserved c =
    inside_more c.args.network.now c.args.flow.now c.args.link (pos c.args.place) c.rows.row c.rows.nearest c.inside_row-found.result
    c.nearer-nearest.result c.nearer-nearest.ensures c.rows.invariant c.inside_row-found.ensures

pub returns : goal.returns
returns c =
    let h = c.rows-test.false in
    inside_all c.args.network.now c.args.flow.now c.args.link (pos c.args.place) c.rows.row c.rows.nearest c.requires.rows (omega (arith, h))
    c.rows.invariant
