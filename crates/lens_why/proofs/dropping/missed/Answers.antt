use Rattle.{audit_law.specs.events.Readings.scenario_under, tte_units.specs.Amount.amount}
use Rattle.{lens_why.specs.Grounds.{cycle_before, position_at}, std.{proofs.{Common.{◌∙◌, ap, of_z, rules, to_z}, lemmas.Int.to_z-of_z}, specs.Int.w128}}
use Rattle.{lens_why.specs.declared.ground.Ground.TheVariants.Missed, schedule_tables.specs.declared.window.Window.{Window as Places}}
use Rattle.lens_why.proofs.dropping.missed.Goals as goal

pub returns : goal.returns
returns c befallen hs k =
    let s = scenario_under c.args.network.now befallen in
    let p = c.args.passage in
    let places = c.window_of-places.result in
    ap (λ n. Missed n (to_z w128 (of_z w128 c.position_at-at.result)) places.from places.to) (c.cycle_before-cycle.ensures befallen hs k)
    ∙ ap (λ z. Missed (cycle_before s hs p.device (amount p.time)) z places.from places.to)
    (to_z-of_z w128 c.position_at-at.result (search rules) ∙ c.position_at-at.ensures befallen hs k)
    ∙ ap (λ (w : Places). Missed (cycle_before s hs p.device (amount p.time)) (position_at s hs p.device (amount p.time)) w.from w.to)
    c.window_of-places.ensures
