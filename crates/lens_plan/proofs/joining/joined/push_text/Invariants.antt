use Rattle.lens_plan.specs.joining.Joined.{text_of}
use Rattle.std.proofs.Common.{◌++◌, ◌≡◌, take}
use Rattle.lens_plan.proofs.joining.joined.push_text.Given as goal

abbrev pub invariant-lines : goal.invariant-lines
invariant-lines l = l.text.items ≡ l.fn.text.items ++ text_of (take l.of-index l.lines)
