use Rattle.audit_sweep.proofs.Words.{BecomesPermanent, scenario_under, subst}
use Rattle.run_law.{proofs.runs.SameSteps.{same_point, same_ripening}, specs.control.Permanence.ripe_as}
use Rattle.audit_sweep.proofs.hearing.becomes_permanent.Goals as goal

pub returns-then-is_same_point : goal.returns-then-is_same_point
returns-then-is_same_point c befallen hs k =
    let s = scenario_under c.args.network.now befallen in
    let p = c.args.passage in
    let r = c.in-Some.ripened in
    let is = ripe_as c.args.verdict in
    let x = c.in-Some.ensures befallen hs k in (
      λ yes. subst (λ u. BecomesPermanent s hs p.device p.time p.link p.cause u is) (c.is_same_point.ensures.0 c.if-is_same_point.true)
          (subst (λ a. BecomesPermanent s hs p.device p.time p.link p.cause r.point a) (c.is_judged.ensures.0 yes) x),
      λ y. c.is_judged.ensures.1 (same_ripening s hs p.time p.device p.link p.cause x y),
    )

pub returns-else-is_same_point : goal.returns-else-is_same_point
returns-else-is_same_point c befallen hs k =
    let s = scenario_under c.args.network.now befallen in
    let p = c.args.passage in
    let x = c.in-Some.ensures befallen hs k in (
      λ yes. absurd cc,
      λ y. let yes =
          c.is_same_point.ensures.1 (same_point s hs p.time p.device p.link p.cause x.permanent y.permanent) in
          let no = c.if-is_same_point.false in absurd cc,
    )

pub returns-in-None : goal.returns-in-None
returns-in-None c befallen hs k = (λ yes. absurd cc, λ y. absurd (c.in-None.ensures befallen hs k c.args.point (ripe_as c.args.verdict) y))
