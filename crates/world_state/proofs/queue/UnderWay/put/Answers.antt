use Rattle.std.{proofs.Common.{◌∷◌, subst}, specs.List.Sorted.IsPermutation}
use Rattle.world_state.{proofs.queue_lemmas.Slots.{put_entries, put_is_sound}}
use Rattle.world_state.{specs.queue.Queues.{entries_in, entry_at}}
use Rattle.world_state.proofs.queue.UnderWay.put.Goals as goal

pub invariant_of-self : goal.invariant_of-self
invariant_of-self g c =
    let i = c.insert_reserved-slot in
    let p = c.push_reserved in
    put_is_sound i.new.self p.new.heap.data.items c.args.place i.result c.args.content c.self.invariant i.ensures.was_vacant
    i.ensures.updates p.ensures.items
    p.ensures.heap_order

pub returns-clause-entries : goal.returns-clause-entries
returns-clause-entries g c =
    let i = c.insert_reserved-slot in
    let p = c.push_reserved in
    subst (λ q. IsPermutation (entry_at c.args.place c.args.content ∷ q.entries) (entries_in i.new.self p.new.heap.data.items)) c.self.view_is
    (put_entries i.new.self p.new.heap.data.items c.args.place i.result c.args.content c.self.invariant i.ensures.was_vacant
    i.ensures.updates p.ensures.items)
