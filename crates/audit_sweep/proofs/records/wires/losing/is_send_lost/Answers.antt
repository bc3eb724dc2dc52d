use Rattle.audit_law.specs.events.Readings.{scenario_under}
use Rattle.audit_sweep.proofs.records_lemmas.wires_lemmas.Wires.{lost_elsewhere, lost_here, owed_at}
use Rattle.audit_sweep.proofs.records.wires.losing.is_send_lost.Goals as goal

pub returns-in-Some : goal.returns-in-Some
returns-in-Some c befallen hs h cause rem there k =
    let s = scenario_under c.args.network.now befallen in
    let x = c.in-Some.ensures befallen hs h cause rem there k in (
      λ yes. lost_here s hs x (c.is_lost_at.ensures.0 yes),
      λ y. c.is_lost_at.ensures.1 (lost_elsewhere h c.args.kept.now c.in-Some.lost there k x y),
    )

pub returns-in-None : goal.returns-in-None
returns-in-None c befallen hs h cause rem there k =
    let s = scenario_under c.args.network.now befallen in (
      λ yes. let clash = yes in absurd cc,
      λ y. absurd (c.in-None.ensures befallen hs h cause rem there k (owed_at y)),
    )
