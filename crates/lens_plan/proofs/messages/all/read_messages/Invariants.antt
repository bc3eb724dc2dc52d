use Rattle.{lens_plan.specs.places.Fitting.IsAsked, std.specs.List.All}
use Rattle.{lens_plan.specs.messages.Lines.{messages_from, messages_read}, std.proofs.Common.{◌+◌, ◌≡◌, ◌≤◌, length}}
use Rattle.lens_plan.proofs.messages.all.read_messages.Given as goal

abbrev pub invariant-lines : goal.invariant-lines
invariant-lines l = record {
  read : messages_read l.network l.text ≡ messages_from l.network (l.number + 1) l.messages.items l.lines;
  asked : All (IsAsked l.network) l.messages.items;
  few : l.number + length l.lines ≤ length l.text + 1;
}

abbrev pub decreases-lines : goal.decreases-lines
decreases-lines l = length l.lines
