use Rattle.lens_svg.specs.Sketching.{begun, took_glance}
use Rattle.std.{proofs.Common.{◌≡◌, take}, specs.Prelude.fold}
use Rattle.lens_svg.proofs.sketch.Sketch.of.Given as goal

abbrev pub invariant-glances : goal.invariant-glances
invariant-glances l =
    l.sketch ≡ fold (took_glance l.network) (begun l.network (record { span = l.fn.span; kept = l.fn.kept; title = l.fn.title }))
    (take l.glance-index l.glances)
