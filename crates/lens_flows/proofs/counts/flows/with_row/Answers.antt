use Rattle.lens_flows.{proofs.judge_lemmas.Judging.{row_of_other, span_first, span_later, span_other}}
use Rattle.lens_flows.{specs.judge.Flows.{IsRowOf, TellsSpan}}
use Rattle.std.proofs.Common.{rules, subst}
use Rattle.lens_flows.proofs.counts.flows.with_row.Goals as goal

pub returns-then-entry-vl : goal.returns-then-entry-vl
returns-then-entry-vl c tells =
    let network = c.args.network.now in
    let entry = c.entry_of-entry.result in
    let other = row_of_other network c.args.vl c.args.row.0 entry.row c.entry_of-entry.ensures.is.row c.if-entry-vl.true in
    span_other network c.args.vl c.args.row.0 c.args.span other tells

pub returns-in-Some : goal.returns-in-Some
returns-in-Some c tells =
    let network = c.args.network.now in
    let entry = c.entry_of-entry.result in
    let here : IsRowOf network c.args.vl c.args.row.0 =
    record { row = entry.row; is = c.entry_of-entry.ensures.is.row; of_vl = search rules } in
    span_later network c.args.vl c.args.row.0 c.in-Some.span here (subst (TellsSpan network c.args.vl c.args.row.0) c.in-Some.is tells)

pub returns-in-None : goal.returns-in-None
returns-in-None c tells =
    let network = c.args.network.now in
    let entry = c.entry_of-entry.result in
    let here : IsRowOf network c.args.vl c.args.row.0 =
    record { row = entry.row; is = c.entry_of-entry.ensures.is.row; of_vl = search rules } in
    span_first network c.args.vl c.args.row.0 here (subst (TellsSpan network c.args.vl c.args.row.0) c.in-None.is tells)
