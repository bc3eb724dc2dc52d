use Rattle.audit_law.specs.events.Readings.{scenario_under}
use Rattle.lens_why.{proofs.Grounded.scheduled_is, specs.Grounds.heard_ground}
use Rattle.std.{proofs.{Common.{◌∙◌, ap, rules}, lemmas.Int.to_z-of_z}, specs.Int.w128}
use Rattle.lens_why.proofs.ground.scheduled.Goals as goal

pub returns : goal.returns
returns c befallen hs h verdict k there p =
    scheduled_is (scenario_under c.args.network.now befallen) hs h c.args.time c.args.frame verdict c.carried-carried.result c.magnitude.result
    c.adjustment_at-adjustment.result c.heard.result p
    (c.carried-carried.ensures c.args.network.now befallen hs h k there) c.magnitude.ensures (c.adjustment_at-adjustment.ensures.is befallen hs k)
    (c.heard.ensures ∙ ap (λ z. heard_ground c.args.network.now c.args.frame.device z c.carried-carried.result.cycle c.args.frame.point)
    (to_z-of_z w128 c.adjustment_at-adjustment.result (search rules)))
