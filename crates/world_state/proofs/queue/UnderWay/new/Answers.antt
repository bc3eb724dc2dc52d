use Rattle.std.specs.List.{IsDistinct}
use Rattle.world_state.proofs.queue.UnderWay.new.Goals as goal

pub invariant_of-result : goal.invariant_of-result
unfolding IsDistinct
invariant_of-result g c =
    let none = c.new.ensures.items in
    record {
      heap = c.new.ensures.heap_order;
      filled = λ r there. absurd (rw none at there);
      apart = rw none tt;
    }
