use Rattle.{lens_plan.specs.places.{Placing.IsOrdered, Trying.AreTried}, std.{proofs.Common.take, specs.List.All}}
use Rattle.lens_plan.proofs.places.trying.rows_of.Given as goal

abbrev pub invariant-receivers : goal.invariant-receivers
invariant-receivers l = record {
  tried : AreTried l.trial (take l.receiver-index l.receiver-items) l.placed.items;
  ordered : All IsOrdered l.placed.items;
}
