use Rattle.{lens_plan.specs.places.{Filling.ArePlaced, Offsets.AreSmall}, std.{proofs.Common.{◌≡◌, length, take}, specs.List.All}}
use Rattle.lens_plan.proofs.places.filling.fill.Given as goal

abbrev pub invariant-turns : goal.invariant-turns
invariant-turns l = record {
  placed : ArePlaced l.network l.messages l.attempts.items l.there (take l.turn l.order) l.rows.items;
  small : All AreSmall l.rows.items;
  counted : length l.attempts.items ≡ length l.messages;
}
