use Rattle.lens_sheet.proofs.Loaded.{ComesBelow}
use Rattle.net_plan.specs.Bounds.{IsGreatest}
use Rattle.lens_sheet.proofs.ways.hops_of.Given as goal

abbrev pub invariant-rows : goal.invariant-rows
invariant-rows l = IsGreatest (ComesBelow l.network l.vl l.number) l.hops
