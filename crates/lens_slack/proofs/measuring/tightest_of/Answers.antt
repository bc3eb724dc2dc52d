use Rattle.std.proofs.Common.{◌+◌, ◌<◌, arith, subst, sym}
use Rattle.lens_slack.proofs.Spots.{Below, found_at, next_tightest, none_below, tightest_of_all}
use Rattle.lens_slack.{specs.Spots.{IsFoundAt, spots_of}}
use Rattle.lens_slack.specs.Tightest.{IsFirstTightest, IsTightestAt}
use Rattle.lens_slack.proofs.measuring.tightest_of.Goals as goal

pub spots-init : goal.spots-init
spots-init c = record { so_far = none_below (IsFoundAt c.args.plan.now.network.now c.args.measure); small = tt }

pub spots-preserved : goal.spots-preserved
spots-preserved c =
    let network = c.args.plan.now.network.now in
    let measure = c.args.measure in
    let n = c.spots.number in
    let within : n < spots_of measure network = omega (arith, c.spots-test.true, c.spots.auto.number-end, c.spots_of-number-end.ensures) in
    let tightest = subst (λ s. IsTightestAt network s c.tightest_at.result) c.spot_at.ensures.value c.tightest_at.ensures.tightest in
    let at = found_at network c.requires.tree measure n c.tightest_at.result within tightest in
    record {
      so_far = subst (λ o. IsFirstTightest (Below (IsFoundAt network measure) (n + 1)) o) (sym c.tighter_of-best.ensures.value)
          (next_tightest (IsFoundAt network measure) n c.spots.best c.tightest_at.result c.spots.invariant.so_far at);
      small = c.tighter_of-best.ensures.small;
    }

pub returns : goal.returns
returns c =
    let network = c.args.plan.now.network.now in
    let measure = c.args.measure in
    tightest_of_all (IsFoundAt network measure) c.spots.number c.spots.best
    (λ n f is. let within = is.0 in omega (arith, within, c.spots-test.false, c.spots.auto.number-end, c.spots_of-number-end.ensures))
    c.spots.invariant.so_far
