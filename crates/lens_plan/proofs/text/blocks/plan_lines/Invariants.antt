use Rattle.lens_plan.specs.text.Blocks.{plan_lines}
use Rattle.std.proofs.Common.{◌≡◌, take}
use Rattle.lens_plan.proofs.text.blocks.plan_lines.Given as goal

abbrev pub invariant-messages : goal.invariant-messages
invariant-messages l =
    l.lines.items ≡ plan_lines l.network (take l.place l.messages) (take l.place l.ids) (take l.place l.attempts)
