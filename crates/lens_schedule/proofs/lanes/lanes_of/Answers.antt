use Rattle.lens_schedule.proofs.LaneLists.{few_lanes}
use Rattle.std.proofs.Common.{ap, arith, length}
use Rattle.lens_schedule.proofs.lanes.lanes_of.Goals as goal

pub returns-clause-few : goal.returns-clause-few
returns-clause-few c =
    let few = few_lanes c.args.network.now c.args.entries.now c.ports.port in
    omega (arith, few, ap length c.ports.invariant, c.ports.auto.port-end, ap length c.as_slice.ensures)
