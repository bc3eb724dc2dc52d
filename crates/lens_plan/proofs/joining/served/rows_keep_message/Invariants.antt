use Rattle.std.specs.Prelude.{◌≡◌}
use Rattle.lens_plan.{proofs.PlannedRows.HoldsBelow, specs.joining.Served.KeepsMessage}
use Rattle.lens_plan.proofs.joining.served.rows_keep_message.Given as goal

abbrev pub invariant-rows : goal.invariant-rows
invariant-rows l = HoldsBelow l.network (λ entry. entry.row.vl ≡ l.vl → KeepsMessage l.network l.message entry) l.number
