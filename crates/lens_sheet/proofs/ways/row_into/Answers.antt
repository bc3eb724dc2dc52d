use Rattle.lens_latency.proofs.Latencies.{none_first, none_next, none_of_all}
use Rattle.lens_sheet.specs.Going.{Enters}
use Rattle.std.proofs.{Common.{ap, arith, length}, lemmas.Bool.false≢true}
use Rattle.lens_sheet.proofs.ways.row_into.Goals as goal

pub rows-init : goal.rows-init
rows-init c = none_first c.args.network.now (Enters c.args.vl c.args.device)

pub rows-preserved : goal.rows-preserved
rows-preserved c =
    none_next (Enters c.args.vl c.args.device) c.rows.invariant c.entry_of-entry.ensures.is
    (λ has. false≢true (c.if-enters.ensures.1 has))

pub returns-clause-first : goal.returns-clause-first
returns-clause-first c =
    none_of_all c.args.network.now (Enters c.args.vl c.args.device) c.rows.number c.rows.invariant
    (omega (arith, c.rows-test.false, ap length c.as_slice.ensures))
