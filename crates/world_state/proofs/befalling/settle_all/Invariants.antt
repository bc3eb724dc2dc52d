use Rattle.std.{proofs.Common.{◌+◌, ◌≡◌, ◌≤◌, get_or, length, take, ℕ}, specs.VecDeque.{deque_capacity, deque_len}}
use Rattle.world_state.specs.{Befalling.AreSettledBy, declared.contents.Befallen.Befallen}
use Rattle.world_state.proofs.befalling.settle_all.Given as goal

abbrev pub invariant-loop-index : goal.invariant-loop-index
invariant-loop-index l =
    (length l.befell.items ≡ length l.fn.befell.items)
    × ((k : ℕ) (d : Befallen) → l.index ≤ k → get_or l.befell.items k d ≡ get_or l.fn.befell.items k d)
    × AreSettledBy l.fn.network l.fn.broken l.fn.ups l.fn.time (take l.index l.fn.befell.items) l.fn.settled.items l.settled.items l.fn.under_way.entries
    l.under_way.entries
    × (length l.fn.befell.items ≤ l.under_way.room + l.index)
    × (deque_len l.settled + length l.fn.befell.items ≤ deque_capacity l.settled + l.index)
