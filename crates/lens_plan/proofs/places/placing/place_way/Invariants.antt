use Rattle.lens_plan.{proofs.Attempts.HasPlaced, specs.places.Placing.IsOrdered}
use Rattle.std.specs.List.{All}
use Rattle.std.proofs.Common.{◌*◌, ◌+◌, ◌^◌, ◌≤◌, take}
use Rattle.lens_plan.proofs.places.placing.place_way.Given as goal

abbrev pub invariant-hops : goal.invariant-hops
invariant-hops l = record {
  placed : HasPlaced l.trial l.start (take l.hop-index l.hops) l.from l.fn.placed.items l.placed.items;
  ordered : All IsOrdered l.placed.items;
  bound : l.from ≤ 2 ^ 41 + l.hop-index * 2 ^ 45;
}
