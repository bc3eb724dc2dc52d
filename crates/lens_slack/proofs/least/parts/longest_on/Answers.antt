use Rattle.std.proofs.Common.{◌+◌, ◌≡◌, ap, arith, length, subst, sym}
use Rattle.net_plan.proofs.Trees.{IsOfPathBelow, greatest_below_all, greatest_below_more}
use Rattle.{net_plan.specs.{Bounds.IsGreatest, declared.tables.Device.Device}, schedule_tables.specs.Delays.delay_on}
use Rattle.lens_slack.proofs.least.parts.longest_on.Goals as goal

pub devices-preserved : goal.devices-preserved
devices-preserved c =
    let n = c.args.network.now in
    let so_far = c.devices.invariant in
    let this = c.delay_from.ensures in
    let max = c.greater-longest.ensures in
    record {
      longest =
          subst (λ k. IsGreatest (IsOfPathBelow n c.args.channel (c.devices.place + 1) (delay_on n)) k) (sym max)
          (greatest_below_more n c.args.channel (delay_on n) c.devices.place c.devices.longest c.delay_from.result so_far.longest this.greatest);
      bound = omega (arith, max, so_far.bound, this.bound);
    }

pub returns-clause-longest : goal.returns-clause-longest
returns-clause-longest c =
    let n = c.args.network.now in
    let same : length c.as_slice-place-end.result.now ≡ length n.device = ap (λ xs. length {A = Device} xs) c.as_slice-place-end.ensures in
    let all : c.devices.place ≡ length n.device = omega (arith, same, c.devices.auto.place-end, c.devices-test.false) in
    greatest_below_all n c.args.channel (delay_on n)
    (subst (λ k. IsGreatest (IsOfPathBelow n c.args.channel k (delay_on n)) c.devices.longest) all c.devices.invariant.longest)
