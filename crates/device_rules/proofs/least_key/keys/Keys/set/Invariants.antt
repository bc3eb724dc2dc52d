use Rattle.{device_rules.proofs.least_key_lemmas.LeastLemmas.IsTreeBut, device_rules.specs.least_key.Trees.node_at}
use Rattle.std.proofs.Common.{◌-◌, ◌/◌, ◌≡◌, drop, length, set}
use Rattle.device_rules.proofs.least_key.keys.Keys.set.Given as goal

abbrev pub invariant-up : goal.invariant-up
invariant-up l =
    IsTreeBut l.nodes (length l.nodes / 2) l.node
    × (drop (length l.nodes / 2) l.nodes ≡ set l.fn.self l.fn.place l.fn.key)
    × (l.least ≡ node_at l.nodes l.node)

abbrev pub decreases-up : goal.decreases-up
decreases-up l = l.node - 1
