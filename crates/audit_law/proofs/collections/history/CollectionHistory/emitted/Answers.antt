use Rattle.std.{proofs.{Common.{◌∙◌, ◌≡◌, ap, arith}, lemmas.Int.{ints, to_z-of_z}}, specs.Int.w128}
use Rattle.audit_law.{proofs.collections_lemmas.{Clusters.emitted-is, Wide.{fits_small, fits_wide}}}
use Rattle.audit_law.{specs.collections.Kept.cluster_kept}
use Rattle.audit_law.proofs.collections.history.CollectionHistory.emitted.Goals as goal

pub overflow_add-result-2 : goal.overflow_add-result-2
overflow_add-result-2 c = fits_wide _ (omega (arith, ints)) (omega (arith, ints))

pub overflow_add-result-3 : goal.overflow_add-result-3
overflow_add-result-3 c =
    let middle = to_z-of_z w128 c.middle.result (fits_small c.middle.ensures.small) in
    fits_wide _ (omega (arith, ints, c.middle.ensures.small.low, c.middle.ensures.small.high))
    (omega (arith, ints, c.middle.ensures.small.low, c.middle.ensures.small.high))

pub returns : goal.returns
returns c =
    let ow : c.self.inside.ow.0 ≡ c.args.self.now.ow = ap (λ v. v.ow) c.self.view_is in
    let calc : c.self.inside.calc.0 ≡ c.args.self.now.calc = ap (λ v. v.calc) c.self.view_is in
    let middle = to_z-of_z w128 c.middle.result (fits_small c.middle.ensures.small) in
    let whole = to_z-of_z w128 _ (overflow_add-result-3 c) in
    emitted-is c.args.self.now.ow c.args.self.now.calc (cluster_kept c.args.self.now.counted c.args.kept.now) _ _ (omega (arith, ints))
    (whole ∙ omega (arith, ints, c.middle.ensures.value))
