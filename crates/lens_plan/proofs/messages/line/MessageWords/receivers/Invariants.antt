use Rattle.{lens_plan.specs.messages.Reading.{receivers, some_receivers}, std.proofs.Common.{◌≡◌, length}}
use Rattle.{net_plan.specs.Places.IsEndSystem, std.specs.List.All}
use Rattle.lens_plan.proofs.messages.line.MessageWords.receivers.Given as goal

abbrev pub invariant-receivers : goal.invariant-receivers
invariant-receivers l = record {
  read : some_receivers l.network l.sender l.fn.self ≡ receivers l.network l.sender l.receivers.items l.self;
  ends : All (IsEndSystem l.network) l.receivers.items;
}

abbrev pub decreases-receivers : goal.decreases-receivers
decreases-receivers l = length l.self
