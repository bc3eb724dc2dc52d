use Rattle.std.proofs.{Common.{◌∷◌, inl, inr, length, refl, slice_get, subst, sym}, lemmas.List.Sorted.{IsPermutation-map, IsPermutation-sym}}
use Rattle.std.{proofs.lemmas.Option.slice_get_read}
use Rattle.world_state.proofs.{Queues.{content_of, has_room, one_more_in, set_queued}, queue_lemmas.Slots.in_permuted}
use Rattle.world_state.{specs.{Frames.IsQueued, declared.{contents.Waits.Waits, queue.Entry.Entry}}}
use Rattle.world_state.proofs.frames.Frames.put.Goals as goal

pub invariant_of-self : goal.invariant_of-self
invariant_of-self c =
    let qs = c.self.inside.queues.items in
    let one = c.args.one in
    let d = one.device.0 in
    let was = c.index_mut.result.now in
    let is = c.put.new.self in
    let put : Entry Waits = record { place = c.place_of.result; content = one } in
    let lt = has_room qs d (slice_get qs d) refl (rw (sym c.self.view_is) at c.requires.room) in
    let at = slice_get_read qs (length qs) d was refl lt c.index_mut.ensures.value in
    set_queued qs d is c.self.invariant (λ e there.
    elim (in_permuted is.entries (put ∷ was.entries) e (IsPermutation-sym _ _ c.put.ensures.entries) there) [
      | inl own ↦ subst (IsQueued d) (sym own) (record { own = refl; place = c.place_of.ensures; begun = c.requires.begun })
      | inr old ↦ c.self.invariant d was e at old
    ])

pub returns : goal.returns
returns c =
    let qs = c.self.inside.queues.items in
    let one = c.args.one in
    let d = one.device.0 in
    let was = c.index_mut.result.now in
    let is = c.put.new.self in
    let put : Entry Waits = record { place = c.place_of.result; content = one } in
    let lt = has_room qs d (slice_get qs d) refl (rw (sym c.self.view_is) at c.requires.room) in
    let at = slice_get_read qs (length qs) d was refl lt c.index_mut.ensures.value in
    rw (sym c.self.view_is) (one_more_in qs d was is one at (IsPermutation-map content_of (put ∷ was.entries) is.entries
    c.put.ensures.entries))
