use Rattle.{lens_plan.specs.places.{Filling.taken_of, Offsets.AreSmall}, std.{proofs.Common.{◌++◌, ◌≡◌, map, take}, specs.List.All}}
use Rattle.lens_plan.proofs.places.filling.push_taken.Given as goal

abbrev pub invariant-rows : goal.invariant-rows
invariant-rows l = record {
  added : l.rows.items ≡ l.fn.rows.items ++ map (taken_of l.network l.message l.attempt.phase) (take l.placed-index l.placed-items);
  small : All AreSmall l.rows.items;
}
