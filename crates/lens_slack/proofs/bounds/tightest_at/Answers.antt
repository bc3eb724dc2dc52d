use Rattle.lens_slack.proofs.Spots.{correction_first, end_first, precision_first}
use Rattle.net_plan.specs.declared.network.Network.{Network}
use Rattle.{lens_slack.specs.{Tightest.IsTightestAt, declared.spot.{Finding.Finding, BoundedNumber.BoundedNumber}}, std.proofs.Common.{◌≡◌, subst, sym}}
use Rattle.std.specs.Prelude.{Option, Some}
use Rattle.lens_slack.specs.declared.spot.BoundedNumber.TheVariants as spots
use Rattle.lens_slack.proofs.bounds.tightest_at.Goals as goal

at_spot : (network : Network) (spot other : BoundedNumber) (o : Option Finding) → spot ≡ other → IsTightestAt network other o → IsTightestAt network spot o
at_spot network spot other o same tightest = subst (λ s. IsTightestAt network s o) (sym same) tightest

pub returns-in-Path-clause-tightest : goal.returns-in-Path-clause-tightest
returns-in-Path-clause-tightest c =
    at_spot c.args.plan.now.network.now c.args.spot (spots.Path c.in-Path.device c.in-Path.channel) c.path_bound.result c.in-Path.is
    c.path_bound.ensures.tightest

pub returns-in-Settled-clause-tightest : goal.returns-in-Settled-clause-tightest
returns-in-Settled-clause-tightest c =
    at_spot c.args.plan.now.network.now c.args.spot spots.Settled (Some c.settled_bound.result) c.in-Settled.is c.settled_bound.ensures.tightest

pub returns-in-Precision-clause-tightest : goal.returns-in-Precision-clause-tightest
returns-in-Precision-clause-tightest c =
    let network = c.args.plan.now.network.now in
    at_spot network c.args.spot spots.Precision c.tighter_of.result c.in-Precision.is
    (subst (λ o. IsTightestAt network spots.Precision o) (sym c.tighter_of.ensures.value)
    (precision_first c.calc_bound.result c.errors_bound.ensures.is c.calc_bound.ensures.value))

pub returns-in-Correction-clause-tightest : goal.returns-in-Correction-clause-tightest
returns-in-Correction-clause-tightest c =
    let network = c.args.plan.now.network.now in
    at_spot network c.args.spot spots.Correction (Some c.correction_bound.result) c.in-Correction.is
    (correction_first network c.correction_bound.result c.correction_bound.ensures.value)

pub returns-in-Begin-clause-tightest : goal.returns-in-Begin-clause-tightest
returns-in-Begin-clause-tightest c =
    at_spot c.args.plan.now.network.now c.args.spot spots.Begin c.begin_bound.result c.in-Begin.is c.begin_bound.ensures.tightest

pub returns-in-End-clause-tightest : goal.returns-in-End-clause-tightest
returns-in-End-clause-tightest c =
    let network = c.args.plan.now.network.now in
    at_spot network c.args.spot spots.End (Some c.end_bound.result) c.in-End.is (end_first network c.end_bound.result c.end_bound.ensures.value)

pub returns-in-Window-clause-tightest : goal.returns-in-Window-clause-tightest
returns-in-Window-clause-tightest c =
    at_spot c.args.plan.now.network.now c.args.spot (spots.Window c.in-Window.row) (Some c.window_bound.result) c.in-Window.is
    c.window_bound.ensures.tightest

pub returns-in-Gap-clause-tightest : goal.returns-in-Gap-clause-tightest
returns-in-Gap-clause-tightest c =
    at_spot c.args.plan.now.network.now c.args.spot (spots.Gap c.in-Gap.row) c.gap_bound.result c.in-Gap.is c.gap_bound.ensures.tightest

pub returns-in-Coming-clause-tightest : goal.returns-in-Coming-clause-tightest
returns-in-Coming-clause-tightest c =
    at_spot c.args.plan.now.network.now c.args.spot (spots.Coming c.in-Coming.row) c.coming_bound.result c.in-Coming.is c.coming_bound.ensures.tightest
