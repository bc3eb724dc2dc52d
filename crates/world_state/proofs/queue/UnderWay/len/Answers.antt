use Rattle.std.proofs.Common.{◌∙◌, ap, length, sym}
use Rattle.world_state.proofs.queue_lemmas.Slots.{length_entries}
use Rattle.world_state.proofs.queue.UnderWay.len.Goals as goal

pub returns : goal.returns
returns g c = let b = c.self.inside in c.len.ensures ∙ b.heap.data.ok.0 ∙ sym (length_entries c.self.invariant)
    ∙ ap (λ q. length q.entries) c.self.view_is
