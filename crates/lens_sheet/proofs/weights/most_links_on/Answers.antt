use Rattle.std.proofs.Common.{◌+◌, ◌≡◌, ap, arith, length, subst, sym}
use Rattle.net_plan.proofs.Trees.{IsOfPathBelow, greatest_below_all, greatest_below_more}
use Rattle.net_plan.specs.{Bounds.IsGreatest, declared.{ids.LinkId.LinkId, tables.Device.Device}}
use Rattle.lens_sheet.proofs.weights.most_links_on.Goals as goal

pub devices-preserved : goal.devices-preserved
devices-preserved c =
    let n = c.args.network.now in
    let so_far = c.devices.invariant in
    let this = c.links_from.ensures in
    let max = c.greater-most.ensures in
    record {
      greatest =
          subst (λ k. IsGreatest (IsOfPathBelow n c.args.channel (c.devices.place + 1) (length {A = LinkId})) k) (sym max)
          (greatest_below_more n c.args.channel (length {A = LinkId}) c.devices.place c.devices.most c.links_from.result so_far.greatest this.greatest);
      bound = omega (arith, max, so_far.bound, this.bound);
    }

pub returns-clause-greatest : goal.returns-clause-greatest
returns-clause-greatest c =
    let n = c.args.network.now in
    let same : length c.as_slice-place-end.result.now ≡ length n.device = ap (λ xs. length {A = Device} xs) c.as_slice-place-end.ensures in
    let all : c.devices.place ≡ length n.device = omega (arith, same, c.devices.auto.place-end, c.devices-test.false) in
    greatest_below_all n c.args.channel (length {A = LinkId})
    (subst (λ k. IsGreatest (IsOfPathBelow n c.args.channel k (length {A = LinkId})) c.devices.most) all c.devices.invariant.greatest)
