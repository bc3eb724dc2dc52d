use Rattle.audit_sweep.proofs.{Lacks.{comes, taken, takes}, Words.scenario_under}
use Rattle.audit_sweep.proofs.arriving.is_taken.Goals as goal

pub returns-in-Some : goal.returns-in-Some
returns-in-Some c befallen hs k =
    let s = scenario_under c.args.network.now befallen in
    let p = c.args.passage in
    let x = c.in-Some.ensures befallen hs k in (
      λ yes. taken s hs p.device p.time p.link p.cause c.args.clock _ x (c.is_taken_with.ensures.0 yes),
      λ y. c.is_taken_with.ensures.1 (takes s hs p.device p.time p.link p.cause c.args.clock x y),
    )

pub returns-in-None : goal.returns-in-None
returns-in-None c befallen hs k =
    let s = scenario_under c.args.network.now befallen in
    let p = c.args.passage in (
      λ yes. absurd cc,
      λ y. let z = comes s hs p.device p.time p.link p.cause c.args.clock y in absurd (c.in-None.ensures befallen hs k z.0 z.1),
    )
