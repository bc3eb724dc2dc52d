use Rattle.schedule_checker.proofs.Elements.{more_room}
use Rattle.std.{proofs.Common.{[], arith, refl}}
use Rattle.schedule_checker.proofs.groups.RowPlaces.make_room.Goals as goal

pub loop-init : goal.loop-init
loop-init c = (λ other. refl, omega (arith, c.len-counter.ensures))

pub returns-in_err-push-clause-same : goal.returns-in_err-push-clause-same
returns-in_err-push-clause-same c other =
    rw c.in_err-push.ensures.items
    (c.loop.invariant.0 other)

pub loop-preserved : goal.loop-preserved
loop-preserved c =
    search (arith, more_room)

pub returns-clause-same : goal.returns-clause-same
returns-clause-same c = c.loop.invariant.0

pub returns-clause-room : goal.returns-clause-room
returns-clause-room c = omega (arith, c.loop.invariant.1, c.loop-test.false)
