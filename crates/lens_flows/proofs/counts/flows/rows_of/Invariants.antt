use Rattle.lens_flows.specs.judge.Flows.{TellsSpan}
use Rattle.lens_flows.proofs.counts.flows.rows_of.Given as goal

abbrev pub invariant-rows : goal.invariant-rows
invariant-rows l = TellsSpan l.network l.vl l.place l.span
