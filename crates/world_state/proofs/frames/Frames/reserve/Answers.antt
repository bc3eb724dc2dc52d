use Rattle.{world_state.specs.{Frames.Waiting}}
use Rattle.{std.proofs.Common.{◌∙◌, ap, length, refl, sym}}
use Rattle.std.proofs.lemmas.Option.{slice_get_read}
use Rattle.tte_units.proofs.general_lemmas.Lists.{set_same}
use Rattle.world_state.proofs.Queues.{same_in, set_queued}
use Rattle.world_state.proofs.frames.Frames.reserve.Goals as goal

pub invariant_of-self : goal.invariant_of-self
invariant_of-self c =
    let qs = c.self.inside.queues.items in
    let d = c.args.device.0 in
    let was = c.index_mut.result.now in
    let lt = rw (sym c.self.view_is) at c.in-Ok.ensures.there in
    let at = slice_get_read qs (length qs) d was refl lt c.index_mut.ensures.value in
    set_queued qs d c.reserve.new.self c.self.invariant
    (λ e there. c.self.invariant d was e at (rw c.reserve.ensures.entries at there))

pub returns-in-Ok-clause-items : goal.returns-in-Ok-clause-items
returns-in-Ok-clause-items c =
    let qs = c.self.inside.queues.items in
    let d = c.args.device.0 in
    let was = c.index_mut.result.now in
    let lt = rw (sym c.self.view_is) at c.in-Ok.ensures.there in
    let at = slice_get_read qs (length qs) d was refl lt c.index_mut.ensures.value in
    same_in qs d was c.reserve.new.self at c.reserve.ensures.entries ∙ ap Waiting.items c.self.view_is ∙ c.in-Ok.ensures.items

pub returns-in-Ok-clause-room : goal.returns-in-Ok-clause-room
returns-in-Ok-clause-room c =
    rw (set_same c.self.inside.queues.items c.args.device.0 c.reserve.new.self
    (rw (sym c.self.view_is) at c.in-Ok.ensures.there)) c.reserve.ensures.room
