use Rattle.lens_latency.proofs.Latencies.{NoneBelow}
use Rattle.lens_sheet.specs.Going.{Enters}
use Rattle.lens_sheet.proofs.ways.row_into.Given as goal

abbrev pub invariant-rows : goal.invariant-rows
invariant-rows l = NoneBelow l.network (Enters l.vl l.device) l.number
