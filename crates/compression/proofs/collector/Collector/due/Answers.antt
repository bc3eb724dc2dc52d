use Rattle.std.proofs.{Common.arith, lemmas.Int.ints}
use Rattle.compression.proofs.Collectors.{IsLeast-first}
use Rattle.compression.proofs.collector.Collector.due.Goals as goal

pub emission-requires-clause-time : goal.emission-requires-clause-time
emission-requires-clause-time c = (omega (arith, ints, c.self.invariant.some), omega (arith, ints, c.self.invariant.short, c.self.invariant.small))

pub returns-clause-least : goal.returns-clause-least
returns-clause-least c =
    rw (← c.self.view_is, c.emission.ensures) (IsLeast-first c.in_ok-first.first.now c.in_ok-first.ensures.0
    c.self.invariant c.in_ok-first.ensures.1)
