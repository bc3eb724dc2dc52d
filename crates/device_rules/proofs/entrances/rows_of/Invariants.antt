use Rattle.{device_rules.specs.Entering.AreRows, std.proofs.Common.take}
use Rattle.device_rules.proofs.entrances.rows_of.Given as goal

abbrev pub invariant-loop-place : goal.invariant-loop-place
invariant-loop-place l = AreRows l.network l.which (take l.place l.network.row) l.rows
