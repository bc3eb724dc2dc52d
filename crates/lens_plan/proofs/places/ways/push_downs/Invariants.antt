use Rattle.{lens_plan.specs.places.Ways.down_hops, std.proofs.Common.{◌++◌, ◌+◌, ◌≡◌, ◌≤◌, drop, length}}
use Rattle.lens_plan.proofs.places.ways.push_downs.Given as goal

abbrev pub invariant-links : goal.invariant-links
invariant-links l = record {
  pushed : l.hops.items ≡ l.fn.hops.items ++ down_hops l.other (drop l.left l.path);
  within : l.left ≤ length l.path;
  few : length l.hops.items + l.left ≤ length l.fn.hops.items + length l.path;
}

abbrev pub decreases-links : goal.decreases-links
decreases-links l = l.left
