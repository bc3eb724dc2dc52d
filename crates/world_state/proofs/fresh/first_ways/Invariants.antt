use Rattle.{std.proofs.Common.{◌≡◌, map, take}, world_state.specs.Beginning.first_way}
use Rattle.world_state.proofs.fresh.first_ways.Given as goal

abbrev pub invariant-loop-link : goal.invariant-loop-link
invariant-loop-link l = l.ways.items ≡ map first_way (take l.link-index l.fn.network.link)
