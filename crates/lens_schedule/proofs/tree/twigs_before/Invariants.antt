use Rattle.lens_schedule.specs.Tree.{twigs_before}
use Rattle.std.proofs.Common.{◌≡◌, ◌≤◌, take}
use Rattle.lens_schedule.proofs.tree.twigs_before.Given as goal

abbrev pub invariant-twigs : goal.invariant-twigs
invariant-twigs l = record {
  counted : l.count ≡ twigs_before (take l.twig-index l.twigs) l.place;
  few : l.count ≤ l.twig-index;
}
