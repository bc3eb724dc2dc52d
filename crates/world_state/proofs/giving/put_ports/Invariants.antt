use Rattle.{std.proofs.Common.{◌+◌, ◌≤◌}, world_state.specs.{Giving.ArePutTo, Sound.{AreBelow, AreUnderWay}}}
use Rattle.world_state.proofs.giving.put_ports.Given as goal

abbrev pub invariant-loop-index : goal.invariant-loop-index
invariant-loop-index l =
    (l.fn.under_way.room ≤ l.under_way.room + l.index) × ArePutTo l.index l.fn.network l.fn.ups l.fn.downs l.fn.body l.fn.giving l.fn.under_way.entries
    l.under_way.entries
    × (AreBelow l.fn.giving.number l.fn.under_way.entries → AreUnderWay l.fn.network l.fn.under_way.entries → AreUnderWay l.fn.network l.under_way.entries)
