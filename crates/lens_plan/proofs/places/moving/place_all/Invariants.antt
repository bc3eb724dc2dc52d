use Rattle.lens_plan.specs.places.{Filling.IsOrder, Moving.IsReached}
use Rattle.std.proofs.Common.{◌-◌, ◌≡◌, ◌≤◌, length}
use Rattle.lens_plan.proofs.places.moving.place_all.Given as goal

abbrev pub invariant-moves : goal.invariant-moves
invariant-moves l = record {
  order : IsOrder (length l.messages) l.order.items;
  reached : IsReached l.network l.messages l.there l.moves l.order.items;
  counted : length l.attempts.items ≡ length l.messages;
  few : l.moves ≤ 512;
}

abbrev pub decreases-moves : goal.decreases-moves
decreases-moves l = 512 - l.moves
