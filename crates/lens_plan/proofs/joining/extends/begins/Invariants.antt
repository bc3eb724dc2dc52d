use Rattle.std.proofs.Common.{◌≡◌, take}
use Rattle.lens_plan.proofs.joining.extends.begins.Given as goal

abbrev pub invariant-places : goal.invariant-places
invariant-places g l = take l.place l.first ≡ take l.place l.whole
