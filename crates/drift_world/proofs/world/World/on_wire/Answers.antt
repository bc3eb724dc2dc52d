use Rattle.drift_world.proofs.Signals.{shown_put}
use Rattle.{drift_world.proofs.Words.{sym}}
use Rattle.drift_world.proofs.world.World.on_wire.Goals as goal

pub returns : goal.returns
returns g c = λ network events notes h stands of within.
    let K = g.C.Clock in
    let state = c.self.inside.state in
    shown_put state c.self.invariant.sound.under_way
    (rw (sym c.self.view_is) at stands)
    (rw (sym c.self.view_is) at of) within c.find.result
    (rw c.number-rank.ensures at c.find.ensures.found)
    (rw c.number-rank.ensures at c.find.ensures.none)
    c.signal_in.result c.signal_in.ensures
