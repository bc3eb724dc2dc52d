use Rattle.lens_svg.specs.{Lanes.{count_to, is_over}, Views.is_shown}
use Rattle.std.{proofs.Common.{◌≡◌, ◌≤◌}, specs.Prelude.◌&&◌}
use Rattle.lens_svg.proofs.lanes.lane_of.Given as goal

abbrev pub invariant-places : goal.invariant-places
invariant-places l = record {
  counted : l.count ≡ count_to (λ place. is_shown l.kept place && is_over l.devices place l.device.0) l.place;
  few : l.count ≤ l.place;
}
