use Rattle.{lens_plan.specs.places.Ways.up_hops, std.proofs.Common.{◌++◌, ◌+◌, ◌≡◌, ◌≤◌, length, take}}
use Rattle.lens_plan.proofs.places.ways.push_ups.Given as goal

abbrev pub invariant-links : goal.invariant-links
invariant-links l = record {
  pushed : l.hops.items ≡ l.fn.hops.items ++ up_hops l.other (take l.link-index l.path);
  few : length l.hops.items ≤ length l.fn.hops.items + l.link-index;
}
