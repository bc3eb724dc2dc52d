use Rattle.{lens_svg.specs.Clocks.{ends_with, is_among}, std.{proofs.Common.{◌≡◌, take}, specs.Prelude.{None, fold}}}
use Rattle.lens_svg.proofs.clock.Clocks.ends.Given as goal

abbrev pub invariant-clocks : goal.invariant-clocks
invariant-clocks l = l.ends ≡ fold (λ ends told. ends_with ends (is_among l.self.broken told.device) told) None (take l.told-index l.self.told)
