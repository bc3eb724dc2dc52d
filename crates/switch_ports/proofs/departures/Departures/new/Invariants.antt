use Rattle.switch_ports.proofs.departures.Departures.new.Given as goal
use Rattle.switch_ports.proofs.Words.{AreLeaving}

abbrev pub invariant-loop-place : goal.invariant-loop-place
invariant-loop-place l = AreLeaving l.network l.fn.device l.place l.rows.items l.lasts.items
