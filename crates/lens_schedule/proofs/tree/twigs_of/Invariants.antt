use Rattle.lens_schedule.specs.Tree.{AreTwigsBelow}
use Rattle.lens_schedule.proofs.tree.twigs_of.Given as goal

abbrev pub invariant-devices : goal.invariant-devices
invariant-devices l = AreTwigsBelow l.network l.channel l.number l.twigs.items
