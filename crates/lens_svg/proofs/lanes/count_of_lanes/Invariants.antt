use Rattle.lens_svg.specs.{Lanes.count_to, Views.is_shown}
use Rattle.std.proofs.Common.{◌≡◌, ◌≤◌}
use Rattle.lens_svg.proofs.lanes.count_of_lanes.Given as goal

abbrev pub invariant-places : goal.invariant-places
invariant-places l = record {
  counted : l.count ≡ count_to (is_shown l.kept) l.place;
  few : l.count ≤ l.place;
}
