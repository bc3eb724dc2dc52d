use Rattle.std.proofs.Common.{None, Some, ap, refl}
use Rattle.sync_state.{proofs.CallLemmas.one_more, specs.{Calls.{after, heard_frame}}}
use Rattle.sync_state.proofs.sync.Sync.integrate.Goals as goal

pub returns-in_err-joined-clause-calls : goal.returns-in_err-joined-clause-calls
returns-in_err-joined-clause-calls c = λ plan start calls is.
    let s = c.args.self.now in
    let call = heard_frame c.args.frame.now c.args.point in
    rw c.from_residual.ensures (one_more plan start calls s s (call None) c.in_err-joined.ensures refl is)

pub returns-clause-calls : goal.returns-clause-calls
returns-clause-calls c = λ plan start calls.
    let call = heard_frame c.args.frame.now c.args.point (Some c.in_ok-joined.joined) in
    let value = ap (λ s. after s call) c.self.view_is in
    one_more plan start calls c.args.self.now _ call c.in_ok-joined.ensures value
