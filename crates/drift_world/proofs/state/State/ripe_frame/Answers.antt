use Rattle.drift_world.proofs.Ripes.{first_ripe, none_ripe}
use Rattle.drift_world.proofs.state.State.ripe_frame.Goals as goal

pub returns-clause-some : goal.returns-clause-some
returns-clause-some g c =
    let own = c.reading_of-reading.ensures in
    first_ripe g.C.Clock.reading c.args.self.now c.args.device own.1 own.2 c.first_reached.result c.first_reached.ensures

pub returns-clause-none : goal.returns-clause-none
returns-clause-none g c =
    let own = c.reading_of-reading.ensures in
    none_ripe g.C.Clock.reading c.args.self.now c.args.device own.1 own.2 c.first_reached.result c.first_reached.ensures
