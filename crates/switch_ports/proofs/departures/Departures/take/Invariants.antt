use Rattle.switch_ports.proofs.departures.Departures.take.Given as goal
use Rattle.switch_ports.{proofs.Words.{IsTakingAt, amount, with_taking}, specs.Departing.bound_of}

abbrev pub invariant-rows : goal.invariant-rows
invariant-rows l = IsTakingAt (with_taking (amount l.length) l.changed.0 l.taking) l.taking.vl.0 l.at l.initial.self l.self

abbrev pub decreases-rows : goal.decreases-rows
decreases-rows l = bound_of l.at
