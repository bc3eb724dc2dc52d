use Rattle.{lens_plan.specs.places.{Offsets.AreSmall, There.AreFirst}, std.specs.List.All}
use Rattle.lens_plan.proofs.places.there.rows_there.Given as goal

abbrev pub invariant-rows : goal.invariant-rows
invariant-rows l = record {
  are : AreFirst l.network l.place l.rows.items;
  small : All AreSmall l.rows.items;
}
