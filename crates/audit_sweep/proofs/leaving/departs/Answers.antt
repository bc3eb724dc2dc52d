use Rattle.audit_sweep.proofs.{Departures.one_departed, Words.{scenario_under, subst}}
use Rattle.{device_rules.specs.Answers.departure_as, run_law.{proofs.runs.SameSteps.same_departure, specs.control.Leaving.Departs}}
use Rattle.audit_sweep.proofs.leaving.departs.Goals as goal

pub returns-in-Some : goal.returns-in-Some
returns-in-Some c befallen hs k =
    let s = scenario_under c.args.network.now befallen in
    let p = c.args.passage in
    let x = c.in-Some.ensures befallen hs k in (
      λ yes. subst (λ d. Departs s hs p.device p.time p.link p.cause (departure_as d)) (c.is_same.ensures.0 yes) x,
      λ y. c.is_same.ensures.1 (one_departed c.in-Some.departed c.args.is
          (same_departure s hs p.time p.device p.link p.cause x y)),
    )

pub returns-in-None : goal.returns-in-None
returns-in-None c befallen hs k = (λ yes. absurd cc, λ y. absurd (c.in-None.ensures befallen hs k (departure_as c.args.is) y))
