use Rattle.drift_world.proofs.Words.{◌≡◌, Kept, Scenario, Some, arith, pos, slice_get_read, sym}
use Rattle.{drift_world.specs.Showing.IsOf, std.specs.List.slice_get}
use Rattle.drift_world.proofs.state.State.left_to_do.Goals.{After-is_reached}
use Rattle.drift_world.proofs.state.State.left_to_do.Given.{Over}
use Rattle.world_law.proofs.giving.GivenParts.{some_same}
use Rattle.world_state.proofs.WorldSteps.{none_due, some_due}
use Rattle.drift_world.proofs.state.State.left_to_do.Goals as goal

-- the machine of the device
held : (g : Over) (c : After-is_reached g) {machine : Kept _} → slice_get c.args.self.now.machines.items c.args.device.0 ≡ Some machine
    → c.index-machine.result.now ≡ machine
held g c there =
    let w = c.args.self.now in
    let lt = c.requires.there in
    let many = c.requires.sized.machines in
    let held = w.machines.ok.0 in
    some_same _ _ _
    (slice_get_read w.machines.items w.machines.len c.args.device.0 c.index-machine.result.now w.machines.ok.0
    (omega (arith, held))
    c.index-machine.ensures) there

-- the reading
read : (g : Over) (c : After-is_reached g) {s : Scenario} → IsOf g.C.Clock.reading s c.args.network.now c.args.self.now
    → c.args.moment.reading.0 ≡ pos (s.reading c.args.device c.args.self.now.time)
read g c {s} of = rw (c.requires.moment s of)

pub returns-then-is_reached : goal.returns-then-is_reached
returns-then-is_reached g c = λ s machine node of there is.
    let here = (goal.at.returns-then-is_reached g c).After-is_reached in
    let kept = rw (sym (held g here there)) at is in
    let due = some_due s.network c.args.device node c.due-due.result c.args.moment.reading.0 (c.due-due.ensures s.network c.args.device node kept)
    (c.is_reached.ensures.reached c.if-is_reached.true) in
    record {
      kind = c.first_kind.result;
      is = rw (read g here of) at (c.first_kind.ensures s.network c.args.device node kept due);
      of_part = sym c.of.ensures;
    }

pub returns-else-is_reached : goal.returns-else-is_reached
returns-else-is_reached g c =
    let here = (goal.at.returns-else-is_reached g c).After-is_reached in (
      λ machine network d node at is.
          c.due-due.ensures network d node (rw (held g here at) is),
      λ s machine of there node task is pending.
          let kept = rw (sym (held g here there)) at is in
          rw (read g here of) at (none_due s.network c.args.device node c.due-due.result c.args.moment.reading.0
          (c.due-due.ensures s.network c.args.device node kept)
          (c.is_reached.ensures.later c.if-is_reached.false) task pending),
    )
