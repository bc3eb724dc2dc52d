use Rattle.lens_slack.{proofs.Taken.{ArePushed, pushed_first, pushed_next}}
use Rattle.lens_slack.{specs.{Spots.spots_of, Tightest.IsTightestAt}}
use Rattle.std.proofs.Common.{◌≡◌, arith, subst}
use Rattle.lens_slack.proofs.measuring.push_spots.Goals as goal

pub spots-init : goal.spots-init
spots-init c = pushed_first c.args.plan.now.network.now c.args.measure c.args.findings.now.items

pub spots-preserved : goal.spots-preserved
spots-preserved c =
    let network = c.args.plan.now.network.now in
    let measure = c.args.measure in
    let n = c.spots.number in
    let tightest = subst (λ s. IsTightestAt network s c.tightest_at.result) c.spot_at.ensures.value c.tightest_at.ensures.tightest in
    pushed_next network measure n c.args.findings.now.items c.spots.findings.items c.push_some.new.findings.items c.tightest_at.result c.spots.invariant
    tightest c.in-Ok.ensures

pub returns : goal.returns
returns c =
    let network = c.args.plan.now.network.now in
    let measure = c.args.measure in
    let all : c.spots.number ≡ spots_of measure network = omega (arith, c.spots-test.false, c.spots.auto.number-end, c.spots_of-number-end.ensures) in
    subst (λ k. ArePushed network measure k c.args.findings.now.items c.spots.findings.items) all c.spots.invariant
