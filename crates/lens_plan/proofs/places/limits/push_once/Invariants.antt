use Rattle.{lens_plan.specs.places.Limits.hop_by_link, std.{proofs.Common.{◌++◌, ◌≡◌}, specs.List.{filter_map, range_with_len}}}
use Rattle.lens_plan.proofs.places.limits.push_once.Given as goal

abbrev pub invariant-links : goal.invariant-links
invariant-links l = l.hops.items ≡ l.fn.hops.items ++ filter_map (hop_by_link l.ways) (range_with_len 0 l.link)
