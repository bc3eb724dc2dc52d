use Rattle.{std.proofs.Common.{◌≡◌, replicate}, tte_units.specs.Amount.amount}
use Rattle.world_state.proofs.fresh.fresh_clocks.Given as goal

abbrev pub invariant-loop : goal.invariant-loop
invariant-loop g l = l.clocks.items ≡ replicate l.index (g.C.Clock.fresh (amount l.fn.network.grain))
