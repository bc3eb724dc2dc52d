use Rattle.lens_schedule.proofs.LawProofs.{few_twigs}
use Rattle.std.proofs.Common.{ap, arith, length}
use Rattle.lens_schedule.proofs.tree.twigs_of.Goals as goal

pub returns-clause-few : goal.returns-clause-few
returns-clause-few c =
    let few = few_twigs c.args.network.now c.args.channel c.devices.number c.devices.twigs.items c.devices.invariant in
    omega (arith, few, c.devices.auto.number-end, ap length c.as_slice.ensures)
