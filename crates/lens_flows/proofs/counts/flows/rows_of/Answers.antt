use Rattle.std.proofs.Common.{ap, arith, length}
use Rattle.lens_flows.proofs.judge_lemmas.Judging.{span_all}
use Rattle.lens_flows.proofs.counts.flows.rows_of.Goals as goal

pub rows-init : goal.rows-init
rows-init c place lt is = omega (arith, lt)

pub rows-preserved : goal.rows-preserved
rows-preserved c = c.with_row-span.ensures c.rows.invariant

pub returns : goal.returns
returns c =
    let e = ap (λ rows. length rows) c.as_slice-place-end.ensures in
    let h = c.rows-test.false in
    span_all c.args.network.now c.args.vl c.rows.place c.rows.span (omega (arith, h, e)) c.rows.invariant
