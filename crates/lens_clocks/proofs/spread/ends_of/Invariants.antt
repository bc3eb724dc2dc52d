use Rattle.{lens_clocks.specs.Spread.locals_of, std.proofs.Common.{◌≡◌, fold, take}, std.specs.Int.{int_max, int_min}}
use Rattle.lens_clocks.proofs.spread.ends_of.Given as goal

abbrev pub invariant-others : goal.invariant-others
invariant-others l = record {
  least : l.ends.least ≡ fold int_min l.initial.ends.least (locals_of (take l.clock-index l.others));
  greatest : l.ends.greatest ≡ fold int_max l.initial.ends.greatest (locals_of (take l.clock-index l.others));
}
