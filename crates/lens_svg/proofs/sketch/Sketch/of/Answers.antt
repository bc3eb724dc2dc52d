use Rattle.lens_svg.{proofs.Folds.fold_listed, specs.Sketching.{begun, glance_of, plan_behind, took, took_glance}}
use Rattle.{lens_svg.specs.Plan.Plan, net_plan.specs.declared.network.Network.Network, run_law.specs.declared.note.Note.Note}
use Rattle.std.{proofs.Common.{◌∙◌, ◌∷◌, ◌≡◌, List, [], ap, map, refl, take_all}, specs.Prelude.fold}
use Rattle.lens_svg.proofs.sketch.Sketch.of.Goals as goal

-- the plan behind what was taken of records is that behind the records
over_glances : (network : Network) (plan : Plan) (notes : List Note)
    → fold (took_glance network) plan (map (glance_of network) notes) ≡ plan_behind network plan notes
over_glances network plan [] = refl
over_glances network plan (note ∷ notes) = over_glances network (took network plan note) notes

pub glances-preserved : goal.glances-preserved
glances-preserved c =
    let glances = c.args.glances.now in
    fold_listed (took_glance c.args.network.now) _ glances glances refl c.glances.glance-index _ c.glances-test.true c.glances.sketch c.take.new.self
    c.glances.invariant c.in_ok-take.ensures

pub returns : goal.returns
returns c notes are =
    let network = c.args.network.now in
    let begin = begun network (record { span = c.args.span; kept = c.args.kept; title = c.args.title }) in
    let behind = fold (took_glance network) begin in
    c.glances.invariant ∙ ap behind (take_all c.glances.glance-index c.args.glances.now c.glances-test.false) ∙ ap behind are
    ∙ over_glances network begin notes
