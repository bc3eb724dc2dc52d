use Rattle.switch_ports.proofs.departures.Departures.reopen.Given as goal
use Rattle.switch_ports.specs.{Departing.IsReopeningAt, Leaving.reopened}

abbrev pub invariant-loop-place : goal.invariant-loop-place
invariant-loop-place l = IsReopeningAt (reopened l.changed.0) l.place l.initial.self l.self
