use Rattle.{schedule_checker.specs.Judging.plan_rule, schedule_tables.specs.Rules.IsKeptAt, std.proofs.Common.{◌<◌, ℕ}}
use Rattle.schedule_checker.proofs.judge.broken_plan.Given as goal

abbrev pub invariant-places : goal.invariant-places
invariant-places l = (k : ℕ) → k < l.place → IsKeptAt (plan_rule l.rule) l.plan.network.now k
