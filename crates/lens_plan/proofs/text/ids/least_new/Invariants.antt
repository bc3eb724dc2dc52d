use Rattle.std.{proofs.Common.{◌<◌, ◌≤◌, ℕ}, specs.List.Contains}
use Rattle.lens_plan.proofs.text.ids.least_new.Given as goal

abbrev pub invariant-ids : goal.invariant-ids
invariant-ids l = (k : ℕ) → 1 ≤ k → k < l.id-counter → Contains l.taken k
