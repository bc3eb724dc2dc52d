use Rattle.std.proofs.lemmas.Option.{slice_get_read}
use Rattle.world_state.proofs.Queues.{emptied, from_zero, keeps_it, kept_beyond, set_queued}
use Rattle.{std.proofs.Common.{◌+◌, ◌∙◌, ◌≡◌, ap, arith, filter, inr, length, refl, sym}, world_state.specs.Frames.{frames_in}}
use Rattle.world_state.proofs.frames.Frames.drop_all.Goals as goal

pub invariant_of-self : goal.invariant_of-self
invariant_of-self c =
    set_queued c.self.inside.queues.items c.args.device.0 c.new.result c.self.invariant
    (λ e there. absurd (rw c.new.ensures at there))

pub returns-then-index-len : goal.returns-then-index-len
returns-then-index-len c =
    let b = c.self.inside in
    let k = c.args.device.0 in
    let at = slice_get_read b.queues.items (length b.queues.items) k c.index_mut.result.now refl (omega arith)
    c.index_mut.ensures.value in
    let zero : 0 + k ≡ k = omega arith in
    emptied 0 k b.queues.items c.new.result (from_zero b.queues.items c.self.invariant) at c.new.ensures
    ∙ ap (λ n. filter (keeps_it n) (frames_in b.queues.items)) zero
    ∙ ap (λ w. filter (keeps_it k) w.items) c.self.view_is

pub returns-else-index-len : goal.returns-else-index-len
returns-else-index-len c =
    let b = c.self.inside in
    let k = c.args.device.0 in
    let test = c.if-index-len.false in
    let len = c.len.ensures in
    let ok = b.queues.ok.0 in
    rw (sym c.self.view_is) (sym (kept_beyond 0 k b.queues.items (from_zero b.queues.items c.self.invariant)
    (inr (omega (arith, test, len, ok)))))
