use Rattle.std.proofs.Common.{arith, refl, sym}
use Rattle.world_state.proofs.queue_lemmas.Slots.{in_contained, top_is_first}
use Rattle.world_state.proofs.queue.UnderWay.first.Goals as goal

pub returns-in-Some-clause-first : goal.returns-in-Some-clause-first
returns-in-Some-clause-first g c =
    let b = c.self.inside in
    let top = c.in-Some.first.now in
    let some = c.in-Some.ensures.variant.0 refl in
    let len = b.heap.data.ok.0 in
    let there = in_contained b.heap.data.items 0 (omega arith) (sym c.in-Some.ensures.lookup) in
    rw (sym c.self.view_is) (top_is_first top c.self.invariant there (c.in-Some.ensures.greatest c.self.invariant.heap))
