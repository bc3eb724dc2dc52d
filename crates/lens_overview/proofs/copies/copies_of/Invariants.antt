use Rattle.{lens_overview.specs.Copies.is_copy_of, std.{proofs.Common.{◌≡◌, take}, specs.Prelude.filter}}
use Rattle.lens_overview.proofs.copies.copies_of.Given as goal

abbrev pub invariant-copies : goal.invariant-copies
invariant-copies l = l.some.items ≡ filter (is_copy_of l.vl) (take l.change-index l.copies)
