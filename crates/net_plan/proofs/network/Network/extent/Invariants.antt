use Rattle.{net_plan.specs.Bounds.jitter_on, std.proofs.Common.{◌*◌, ◌^◌, ◌≡◌, ◌≤◌, length, take}}
use Rattle.net_plan.proofs.network.Network.extent.Given as goal

abbrev pub invariant-loop-link : goal.invariant-loop-link
invariant-loop-link l = (l.jitter ≡ jitter_on l.self (take l.link-index l.link-items)) × (l.jitter ≤ l.link-index * 2 ^ 40) × (length l.link-items ≤ 8)
