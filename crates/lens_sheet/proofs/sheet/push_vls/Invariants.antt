use Rattle.lens_latency.proofs.Latencies.{ArePushed}
use Rattle.lens_sheet.specs.Sheet.{AreLinesOf}
use Rattle.lens_sheet.proofs.sheet.push_vls.Given as goal

abbrev pub invariant-vls : goal.invariant-vls
invariant-vls l = ArePushed (AreLinesOf l.network) l.place l.fn.sheet.items l.sheet.items
