use Rattle.{audit_law.specs.events.Readings.scenario_under, run_law.specs.device.States.adjustment_before}
use Rattle.std.{proofs.{Common.{◌+ℤ◌, ◌∙◌, ap, pos, rules, ℤ}, lemmas.Int.to_z-of_z}, specs.Int.w128}
use Rattle.audit_sweep.proofs.index.Index.clock_at.Goals as goal

pub returns-clause-is : goal.returns-clause-is
returns-clause-is c befallen hs k =
    let s = scenario_under c.args.network.now befallen in
    let shows = c.before_time-shown.ensures s hs k.standings in
    let read = c.reading.ensures c.args.network.now befallen k.events c.requires.there in
    to_z-of_z w128 c.local_at.result (search rules) ∙ c.local_at.ensures.value
    ∙ ap (λ z. pos c.reading.result +ℤ z)
    (to_z-of_z w128 c.adjustment.result (search rules) ∙ c.adjustment.ensures.value ∙ shows.adjustment)
    ∙ ap (λ n. pos n +ℤ (adjustment_before s hs c.args.device c.args.time).0) read
