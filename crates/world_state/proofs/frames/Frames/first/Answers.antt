use Rattle.std.proofs.{Common.{◌≡◌, None, Some, ap, length, refl, subst, sym}, lemmas.Option.{slice_get_past, slice_get_read}}
use Rattle.{std.specs.{List.slice_get, Option.option_and_then, Prelude.MatchOption}}
use Rattle.world_state.proofs.Queues.{first_of_queue, no_queue}
use Rattle.world_state.{specs.Frames.{IsFirstAt, NoneAt, first_frame, first_of, frames_in}}
use Rattle.world_state.proofs.frames.Frames.first.Goals as goal

pub returns-in-Some-clause-first : goal.returns-in-Some-clause-first
returns-in-Some-clause-first c =
    let qs = c.self.inside.queues.items in
    let d = c.args.device.0 in
    let at : slice_get qs d ≡ Some c.in-Some.queue.now =
    rw c.deref.ensures.value at (slice_get_read c.deref.result.now (length c.deref.result.now) d c.in-Some.queue.now
    refl c.in-Some.ensures.lookup.3.0 c.in-Some.ensures.lookup.1) in
    subst (λ w. MatchOption (first_of w d) (NoneAt w.items d) (IsFirstAt w.items d)) c.self.view_is
    (subst (λ o. MatchOption (option_and_then first_frame o) (NoneAt (frames_in qs) d) (IsFirstAt (frames_in qs) d))
    (sym at)
    (first_of_queue qs c.self.invariant d at c.peek.ensures.first))

pub returns-in-None-clause-is : goal.returns-in-None-clause-is
returns-in-None-clause-is c =
    let qs = c.self.inside.queues.items in
    let d = c.args.device.0 in
    let at : slice_get qs d ≡ None =
    rw c.deref.ensures.value at (slice_get_past c.deref.result.now d c.in-None.ensures.lookup.3) in
    rw (sym c.self.view_is) (sym (ap (option_and_then first_frame) at))

pub returns-in-None-clause-first : goal.returns-in-None-clause-first
returns-in-None-clause-first c =
    let qs = c.self.inside.queues.items in
    let d = c.args.device.0 in
    let at : slice_get qs d ≡ None =
    rw c.deref.ensures.value at (slice_get_past c.deref.result.now d c.in-None.ensures.lookup.3) in
    subst (λ w. MatchOption (first_of w d) (NoneAt w.items d) (IsFirstAt w.items d)) c.self.view_is
    (subst (λ o. MatchOption (option_and_then first_frame o) (NoneAt (frames_in qs) d) (IsFirstAt (frames_in qs) d))
    (sym at)
    (no_queue qs c.self.invariant d at))
