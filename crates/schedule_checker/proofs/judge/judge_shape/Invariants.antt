use Rattle.{schedule_tables.specs.Rules.KeepsBelow, std.proofs.Common.◌+◌}
use Rattle.schedule_checker.proofs.judge.judge_shape.Given as goal

abbrev pub invariant-rules : goal.invariant-rules
invariant-rules l = KeepsBelow (1 + l.rule-index) l.network
