use Rattle.{net_plan.specs.{Paths.IsPath, declared.ids.LinkId.{LinkId as LinkIdValue}}, std.proofs.Common.{◌++◌, ◌-◌, ◌≤◌, List, length}}
use Rattle.net_plan.proofs.network.Network.path.Given as goal

-- what is behind and some rest make a path of at most eight links
abbrev pub invariant-loop-link : goal.invariant-loop-link
invariant-loop-link l =
    (rest : List LinkIdValue) × IsPath l.self l.channel l.at rest
    × (length (l.path ++ rest) ≤ 8) × IsPath l.self l.channel l.fn.device (l.path ++ rest)

abbrev pub decreases-loop-link : goal.decreases-loop-link
decreases-loop-link l = 8 - length l.path
