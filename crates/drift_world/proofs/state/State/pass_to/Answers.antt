use Rattle.drift_world.proofs.Words.{◌∙◌, ap, keeps, map, settled_at, sym, world_of}
use Rattle.world_law.proofs.steps_lemmas.steps.Passed.{passed_step}
use Rattle.drift_world.proofs.state.State.pass_to.Goals as goal

pub returns-clause-stands : goal.returns-clause-stands
returns-clause-stands g c = λ network s notes old none.
    let w = c.args.self.now in
    let empty = c.requires.none in
    rw (ap (map (settled_at network w.time)) empty ∙ sym (ap (map (settled_at network c.args.time))
    empty)) at (passed_step g.C.Clock.reading (keeps g.M.Machine.stands) s (world_of network w) notes c.args.time
    old (ap (map (settled_at network w.time)) empty)
    c.requires.later c.requires.limit
    c.requires.open none)
