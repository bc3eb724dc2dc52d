use Rattle.std.proofs.Common.{◌*◌, ◌^◌, ◌≤◌, length}
use Rattle.net_plan.{proofs.Trees.IsOfPathBelow, specs.Bounds.{IsGreatest, jitter_on}}
use Rattle.net_plan.proofs.network.Network.extent_on.Given as goal

-- the extent of the paths of the devices so far
abbrev pub invariant-loop-place : goal.invariant-loop-place
invariant-loop-place l = record {
  jitter : IsGreatest (IsOfPathBelow l.self l.channel l.place (jitter_on l.self)) l.extent.jitter;
  links : IsGreatest (IsOfPathBelow l.self l.channel l.place (length)) l.extent.links;
  jitter_bound : l.extent.jitter ≤ 8 * 2 ^ 40;
  links_bound : l.extent.links ≤ 8;
}
