use Rattle.lens_plan.proofs.Leading.{ups_next}
use Rattle.std.proofs.Common.{arith}
use Rattle.lens_plan.proofs.places.ways.push_ups.Goals as goal

pub links-preserved : goal.links-preserved
links-preserved c =
    let few = c.links.invariant.few in
    let more = c.in-Ok.ensures.short in
    record {
      pushed = ups_next c.args.hops.now.items c.links.hops.items c.push_up.new.hops.items c.args.other.now c.args.path.now c.links.link-index _
          c.links-test.true c.links.invariant.pushed c.in-Ok.ensures.hops;
      few = omega (arith, few, more);
    }
