use Rattle.lens.specs.draw.Keeping.{with_flag, with_lane}
use Rattle.{lens_svg.specs.declared.glance.Glance.Glance, std.{proofs.Common.{◌∙◌, Option, ap}, specs.Option.option_map_or}}
use Rattle.lens.proofs.draw.flags.mark_at.Goals as goal

pub returns-in-Some-clause-records : goal.returns-in-Some-clause-records
returns-in-Some-clause-records c =
    c.mark.ensures.records
    ∙ ap (λ (o : Option Glance). with_flag c.args.flags.now.records.items (option_map_or (λ (g : Glance). g.cause) o 0)) c.in-Some.ensures

pub returns-in-Some-clause-lanes : goal.returns-in-Some-clause-lanes
returns-in-Some-clause-lanes c =
    let lanes = c.args.flags.now.lanes.items in
    c.mark.ensures.lanes
    ∙ ap (λ (o : Option Glance). option_map_or (λ (g : Glance). with_lane c.args.span g lanes) o lanes) c.in-Some.ensures

pub returns-in-None-clause-records : goal.returns-in-None-clause-records
returns-in-None-clause-records c =
    ap (λ (o : Option Glance). with_flag c.args.flags.now.records.items (option_map_or (λ (g : Glance). g.cause) o 0)) c.in-None.ensures

pub returns-in-None-clause-lanes : goal.returns-in-None-clause-lanes
returns-in-None-clause-lanes c =
    let lanes = c.args.flags.now.lanes.items in
    ap (λ (o : Option Glance). option_map_or (λ (g : Glance). with_lane c.args.span g lanes) o lanes) c.in-None.ensures
