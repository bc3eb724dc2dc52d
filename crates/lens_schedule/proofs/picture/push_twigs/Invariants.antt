use Rattle.lens_schedule.specs.Picture.{twig_part}
use Rattle.std.proofs.Common.{◌++◌, ◌≡◌, map, take}
use Rattle.lens_schedule.proofs.picture.push_twigs.Given as goal

abbrev pub invariant-twigs : goal.invariant-twigs
invariant-twigs l = l.parts.items ≡ l.fn.parts.items ++ map (twig_part l.twigs) (take l.twig-index l.twigs)
