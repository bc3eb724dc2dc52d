use Rattle.drift_world.proofs.Words.{Stands, ap, keeps, world_of}
use Rattle.drift_world.proofs.{Nearings.{on_both, settled_less}, Turning.{either_end, plain_step}}
use Rattle.drift_world.{specs.declared.state.State.State}
use Rattle.drift_world.proofs.state.State.settle.Goals as goal

pub returns-clause-step : goal.returns-clause-step
returns-clause-step g c =
    let step = c.settle_befallen.ensures in
    let after = world_of c.args.network.now c.settle_befallen.new.self in
    plain_step
    c.requires.may.well step.sound step.others (ap State.timers step.same) (ap State.given step.same)
    (λ s notes old. either_end c.settle_befallen.result _ _
    (Stands g.C.Clock.reading (keeps g.M.Machine.stands) s after notes)
    (step.stands s notes old) step.err (λ is. is.0)
    (λ same. rw same old))

pub returns-clause-less : goal.returns-clause-less
returns-clause-less g c =
    let step = c.settle_befallen.ensures in
    on_both c.settle_befallen.result _ _ _ step.done step.no_more
    (λ done most. settled_less c.args.network.now c.args.self.now c.requires.may.foremost.there done most step.same)
