use Rattle.lens_latency.{proofs.Latencies.{all_names, pushed_all, pushed_next}, specs.Comings.IsPartOf}
use Rattle.std.proofs.Common.{[], ap, arith, length}
use Rattle.lens_latency.proofs.comings.comings_of.Goals as goal

pub vls-preserved : goal.vls-preserved
vls-preserved c =
    let pushed = c.in-Ok.ensures in
    pushed_next (IsPartOf c.args.network.now) c.vls.place [] c.vls.comings.items c.push_comings.new.comings.items pushed.0 c.vls.invariant pushed.1 pushed.2

pub returns-clause-names : goal.returns-clause-names
returns-clause-names c =
    all_names c.args.network.now c.vls.comings.items
    (pushed_all (IsPartOf c.args.network.now) c.vls.place (length c.args.network.now.vl) c.vls.comings.items c.vls.invariant
    (omega (arith, c.vls-test.false, c.vls.auto.place-end, ap length c.as_slice.ensures)))
