use Rattle.audit_sweep.proofs.Words.{BecomesPermanent, scenario_under, subst}
use Rattle.run_law.{proofs.runs.SameSteps.same_ripening, specs.declared.steps.Ripe.TheVariants.Dropped}
use Rattle.audit_sweep.proofs.hearing.drops.Goals as goal

pub returns-in-Some : goal.returns-in-Some
returns-in-Some c befallen hs k =
    let s = scenario_under c.args.network.now befallen in
    let p = c.args.passage in
    let r = c.in-Some.ripened in
    let x = c.in-Some.ensures befallen hs k in (
      λ yes. (r.point, subst (λ a. BecomesPermanent s hs p.device p.time p.link p.cause r.point a) (c.is_dropped.ensures.0 yes) x),
      λ y. c.is_dropped.ensures.1 (same_ripening s hs p.time p.device p.link p.cause x y.1),
    )

pub returns-in-None : goal.returns-in-None
returns-in-None c befallen hs k = (λ yes. absurd cc, λ y. absurd (c.in-None.ensures befallen hs k y.0 (Dropped c.args.reason) y.1))
