use Rattle.std.proofs.Common.{◌∙◌, ◌∷◌, ap, inr, length, refl, slice_get, sym}
use Rattle.std.{proofs.lemmas.{List.Sorted.{IsPermutation-map, IsPermutation-sym}, Option.slice_get_read}}
use Rattle.std.specs.Option.{option_and_then, option_map}
use Rattle.world_state.{specs.Frames.first_frame}
use Rattle.world_state.proofs.{Queues.{content_of, has_first, one_fewer_in, set_queued}, queue_lemmas.Slots.in_permuted}
use Rattle.world_state.proofs.frames.Frames.take_first.Goals as goal

pub invariant_of-self : goal.invariant_of-self
invariant_of-self c =
    let qs = c.self.inside.queues.items in
    let d = c.args.device.0 in
    let was = c.index_mut.result.now in
    let is = c.take_first.new.self in
    let lt = has_first qs d (slice_get qs d) refl (rw (sym c.self.view_is) at c.requires.some) in
    let at = slice_get_read qs (length qs) d was refl lt c.index_mut.ensures.value in
    let taken = rw c.unwrap.ensures at c.take_first.ensures.entries in
    set_queued qs d is c.self.invariant (λ e there. c.self.invariant d was e at (in_permuted _ _ e (IsPermutation-sym _ _ taken) (inr there)))

pub returns-clause-is : goal.returns-clause-is
returns-clause-is c =
    let qs = c.self.inside.queues.items in
    let d = c.args.device.0 in
    let lt = has_first qs d (slice_get qs d) refl (rw (sym c.self.view_is) at c.requires.some) in
    let at = slice_get_read qs (length qs) d c.index_mut.result.now refl lt c.index_mut.ensures.value in
    rw (sym c.self.view_is) (ap (option_and_then first_frame) at ∙ ap (option_map content_of)
    (sym c.take_first.ensures.head ∙ c.unwrap.ensures))

pub returns-clause-items : goal.returns-clause-items
returns-clause-items c =
    let qs = c.self.inside.queues.items in
    let d = c.args.device.0 in
    let was = c.index_mut.result.now in
    let is = c.take_first.new.self in
    let lt = has_first qs d (slice_get qs d) refl (rw (sym c.self.view_is) at c.requires.some) in
    let at = slice_get_read qs (length qs) d was refl lt c.index_mut.ensures.value in
    let taken = rw c.unwrap.ensures at c.take_first.ensures.entries in
    rw (sym c.self.view_is) (one_fewer_in qs d was is c.unwrap.result.content at (IsPermutation-map content_of
    was.entries (c.unwrap.result ∷ is.entries) taken))
