use Rattle.{audit_sweep.proofs.Words.{ArrivesAs, scenario_under, subst}, run_law.proofs.runs.SameSteps.same_arrival}
use Rattle.device_rules.specs.Answers.{arrival_as}
use Rattle.audit_sweep.proofs.arriving.arrives_as.Goals as goal

pub returns-in-Some : goal.returns-in-Some
returns-in-Some c befallen hs k =
    let s = scenario_under c.args.network.now befallen in
    let p = c.args.passage in
    let x = c.in-Some.ensures befallen hs k in (
      λ yes. subst (λ a. ArrivesAs s hs p.device p.time p.link p.cause a) (c.is_judged.ensures.0 yes) x,
      λ y. c.is_judged.ensures.1 (same_arrival x y),
    )

pub returns-in-None : goal.returns-in-None
returns-in-None c befallen hs k = (λ yes. absurd cc, λ y. absurd (c.in-None.ensures befallen hs k (arrival_as c.args.is) y))
