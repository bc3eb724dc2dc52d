use Rattle.lens_schedule.specs.Tree.{spelled}
use Rattle.std.proofs.Common.{◌<◌, ◌^◌, ◌≡◌}
use Rattle.lens_schedule.proofs.tree.place_of.Given as goal

abbrev pub invariant-levels : goal.invariant-levels
invariant-levels l = record {
  value : l.place ≡ spelled l.links l.level;
  bound : l.place < 256 ^ l.level;
}
