use Rattle.std.{proofs.{Common.{◌∷◌, inl, refl, subst}, lemmas.List.Sorted.IsPermutation-sym}, specs.List.Sorted.IsPermutation}
use Rattle.world_state.proofs.queue_lemmas.Slots.{in_permuted, taken_entries, taken_is_sound, top_is_first}
use Rattle.world_state.specs.queue.{Places.IsFirst, Queues.{entries_in, entry_at}}
use Rattle.world_state.proofs.queue.UnderWay.take_first.Goals as goal

pub invariant_of-self-2 : goal.invariant_of-self-2
invariant_of-self-2 g c =
    let top = c.in_ok-first.field-0 in
    let r = c.remove-content in
    taken_is_sound r.new.self c.pop.new.self.data.items top c.self.invariant r.ensures.value r.ensures.updates
    c.in_ok-first.ensures.permutation c.in_ok-first.ensures.heap_order

pub returns-clause-first : goal.returns-clause-first
returns-clause-first g c =
    let top = c.in_ok-first.field-0 in
    let there = in_permuted _ _ top (IsPermutation-sym _ _ c.in_ok-first.ensures.permutation) (inl refl) in
    subst (λ q. IsFirst q.entries top.0.place) c.self.view_is
    (top_is_first top c.self.invariant there (c.in_ok-first.ensures.heap_order c.self.invariant.heap).1)

pub returns-clause-entries : goal.returns-clause-entries
returns-clause-entries g c =
    let top = c.in_ok-first.field-0 in
    let r = c.remove-content in
    subst (λ q. IsPermutation q.entries (entry_at top.0.place r.result ∷ entries_in r.new.self c.pop.new.self.data.items)) c.self.view_is
    (taken_entries r.new.self c.pop.new.self.data.items top c.self.invariant r.ensures.value r.ensures.updates
    c.in_ok-first.ensures.permutation)
