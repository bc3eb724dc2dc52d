use Rattle.lens_flows.{proofs.counts_lemmas.Counts.EndsBefore, specs.counts.Greatest.TellsGreatest}
use Rattle.lens_flows.proofs.counts.flows.last_end.Given as goal

abbrev pub invariant-rows : goal.invariant-rows
invariant-rows l = TellsGreatest (EndsBefore l.network l.vl l.device l.place) l.last
