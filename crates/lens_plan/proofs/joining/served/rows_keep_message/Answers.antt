use Rattle.lens_plan.{proofs.PlannedRows.{below_all, below_next}, specs.joining.Served.KeepsMessage}
use Rattle.schedule_tables.specs.declared.entry.Entry.{Entry}
use Rattle.std.proofs.Common.{◌≡◌, ap, arith, length, refl, rules}
use Rattle.lens_plan.proofs.joining.served.rows_keep_message.Goals as goal

pub rows-preserved : goal.rows-preserved
rows-preserved c =
    let P = λ (entry : Entry). entry.row.vl ≡ c.args.vl → KeepsMessage c.args.network.now c.args.message.now entry in
    let keeps : P c.entry_of-entry.result = search rules in
    below_next P c.rows.invariant c.entry_of-entry.ensures.is keeps

pub returns : goal.returns
returns c =
    let P = λ (entry : Entry). entry.row.vl ≡ c.args.vl → KeepsMessage c.args.network.now c.args.message.now entry in
    (λ t. below_all c.args.network.now P c.rows.number c.rows.invariant (omega (arith, c.rows-test.false, ap length c.as_slice.ensures)), λ b. refl)
