use Rattle.world_drive.proofs.Drives.{IsDriving}
use Rattle.world_drive.proofs.driving.drive.Given as goal

abbrev pub invariant-events : goal.invariant-events
invariant-events g l =
    IsDriving g.K.Sink g.E.Events.gave g.O.Observer.sees l.network l.fn.from l.fn.source l.fn.observer l.from l.source l.world l.observer l.time l.line l.fn.out
    l.out

abbrev pub decreases-events : goal.decreases-events
decreases-events g l = g.E.Events.left l.source
