use Rattle.{device_rules.specs.FirstKinds.{kind_of}, run_law.specs.machines.Calls.HasDue, world_law.proofs.giving.GivenParts.some_same}
use Rattle.drift_world.{proofs.Timings.{none_sooner, part_least}, specs.Parts.part_of}
use Rattle.drift_world.proofs.Words.{◌∙◌, amount, ap, arith, pos, slice_get_read, sym}
use Rattle.drift_world.proofs.state.State.part_at.Goals as goal

pub returns-then-time-self : goal.returns-then-time-self
returns-then-time-self g c = λ clock machine network d node own at kept task pending due. part_least (part_of (kind_of task))

pub returns : goal.returns
returns g c = λ clock machine network d node own at kept task pending reached.
    let w = c.args.self.now in
    let K = g.C.Clock in
    let there = c.requires.there in
    let clocks = c.requires.sized.clocks in
    let machines = c.requires.sized.machines in
    let held = w.clocks.ok.0 in
    let kept_ok = w.machines.ok.0 in
    let clock_is = some_same _ _ _
    (slice_get_read w.clocks.items w.clocks.len c.args.device c.index.result.now w.clocks.ok.0 (omega arith)
    c.index.ensures) own in
    let machine_is = some_same _ _ _
    (slice_get_read w.machines.items w.machines.len c.args.device c.index-2.result.now w.machines.ok.0 (omega arith)
    c.index-2.ensures) at in
    let reads = c.read-reading.ensures
    ∙ ap (λ t. pos (K.reading c.index.result.now (amount t))) c.from_amount.ensures.value
    ∙ ap (λ k. pos (K.reading k c.args.time)) clock_is in
    let due : HasDue network d node c.read-reading.result.0 = (task, pending, rw reads reached) in
    (rw reads at (none_sooner
    (record {
      kind = c.first_kind.result;
      is = c.first_kind.ensures network d node (rw machine_is kept) due;
      of_part = sym c.of.ensures;
    })))
    task pending reached
