use Rattle.{lens_svg.specs.Sketching.with_at, std.{proofs.Common.{◌∙◌, Bool, ap, true}, specs.Prelude.if◌then◌else◌}}
use Rattle.lens.proofs.draw.flags.mark.Goals as goal

pub returns-clause-lanes : goal.returns-clause-lanes
returns-clause-lanes c =
    let lanes = c.args.flags.now.lanes.items in
    c.set_lane.ensures
    ∙ ap (λ (b : Bool). if b then with_at lanes c.args.glance.now.device.0 true else lanes) c.holds-within.ensures
