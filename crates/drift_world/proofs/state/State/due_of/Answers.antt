use Rattle.{drift_world.proofs.Words.{arith, slice_get_read}, world_law.proofs.giving.GivenParts.some_same}
use Rattle.drift_world.proofs.state.State.due_of.Goals as goal

pub returns : goal.returns
returns g c = λ machine network d node at is.
    let w = c.args.self.now in
    let there = c.requires.there in
    let machines = c.requires.sized.machines in
    let kept = w.machines.ok.0 in
    let same = some_same _ _ _ at
    (slice_get_read w.machines.items w.machines.len c.args.device c.index.result.now w.machines.ok.0 (omega arith)
    c.index.ensures) in
    c.due.ensures network d node (rw same at is)
