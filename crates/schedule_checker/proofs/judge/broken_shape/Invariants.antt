use Rattle.{schedule_checker.specs.Judging.shape_rule, schedule_tables.specs.Rules.IsKeptAt, std.proofs.Common.{◌<◌, ℕ}}
use Rattle.schedule_checker.proofs.judge.broken_shape.Given as goal

abbrev pub invariant-places : goal.invariant-places
invariant-places l = (k : ℕ) → k < l.place → IsKeptAt (shape_rule l.rule) l.network k
