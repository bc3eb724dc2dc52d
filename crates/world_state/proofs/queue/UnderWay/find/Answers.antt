use Rattle.std.{proofs.Common.subst, specs.Prelude.IfSome}
use Rattle.world_state.proofs.queue_lemmas.Slots.{found_in, holds_none}
use Rattle.world_state.specs.queue.Finding.{HoldsAt, HoldsNoneAt}
use Rattle.world_state.proofs.queue.UnderWay.find.Goals as goal

pub returns-in-Some-clause-found : goal.returns-in-Some-clause-found
returns-in-Some-clause-found g c =
    let b = c.self.inside in
    subst (λ q. IfSome c.get.result (λ content. HoldsAt q.entries c.args.rank c.args.cause content.now)) c.self.view_is
    (found_in b.contents
    (rw c.from.ensures at (rw c.as_slice.ensures.value at c.in-Some.ensures.found))
    c.get.result c.get.ensures)

pub returns-in-None-clause-none : goal.returns-in-None-clause-none
returns-in-None-clause-none g c =
    let b = c.self.inside in
    subst (λ q. HoldsNoneAt q.entries c.args.rank c.args.cause) c.self.view_is
    (holds_none b.contents b.heap.data.items c.args.rank c.args.cause
    (rw c.from.ensures at (rw c.as_slice.ensures.value at c.in-None.ensures.none)))
