use Rattle.lens_latency.proofs.Latencies.{pushed_first, pushed_next}
use Rattle.lens_sheet.specs.Sheet.{AreLinesOf}
use Rattle.lens_sheet.proofs.sheet.push_vls.Goals as goal

pub vls-init : goal.vls-init
vls-init c = pushed_first (AreLinesOf c.args.network.now) c.args.sheet.now.items

pub vls-preserved : goal.vls-preserved
vls-preserved c =
    let pushed = c.in-Ok.ensures in
    pushed_next (AreLinesOf c.args.network.now) c.vls.place c.args.sheet.now.items c.vls.sheet.items c.push_vl.new.sheet.items pushed.0 c.vls.invariant
    pushed.1 pushed.2
