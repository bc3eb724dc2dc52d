use Rattle.audit_law.proofs.collections_lemmas.{Clusters.length-last, Wide.{fits_small, mean_wide}}
use Rattle.compression.proofs.Middles.{middle_of-ends, middle_of-inner}
use Rattle.{audit_law.specs.collections.Kept.points_kept, compression.specs.Middle.{middle_of, relative}, std.{proofs.Common.{◌-◌, ◌∙◌, ◌≡◌}, specs.Int.w128}}
use Rattle.{std.proofs.lemmas.Int.to_z-of_z, tte_units.specs.Mean.mean_of}
use Rattle.audit_law.proofs.collections.history.CollectionHistory.middle.Goals as goal

pub returns-then-last-lt2-clause-value : goal.returns-then-last-lt2-clause-value
returns-then-last-lt2-clause-value c =
    let k = c.args.kept.now in
    let counted = c.args.self.now.counted in
    let is : mean_of c.offset.result c.offset-then-last-lt2.result ≡ middle_of (relative (points_kept counted k)) =
    rw (c.offset.ensures.value, c.offset-then-last-lt2.ensures.value)
    (middle_of-ends (points_kept counted k) (k.count - 1) (length-last counted k c.requires) c.if-last-lt2.true) in
    to_z-of_z w128 c.mean.result (fits_small c.mean.ensures.small) ∙ (c.mean.ensures.value
    ∙ (mean_wide c.offset.ensures.small c.offset-then-last-lt2.ensures.small ∙ is))

pub returns-else-last-lt2-clause-value : goal.returns-else-last-lt2-clause-value
returns-else-last-lt2-clause-value c =
    let k = c.args.kept.now in
    let counted = c.args.self.now.counted in
    let is : mean_of c.offset-else-last-lt2.result c.offset-else-last-lt2-2.result ≡ middle_of (relative (points_kept counted k)) =
    rw (c.offset-else-last-lt2.ensures.value, c.offset-else-last-lt2-2.ensures.value)
    (middle_of-inner (points_kept counted k) (k.count - 1) (length-last counted k c.requires) c.if-last-lt2.false) in
    to_z-of_z w128 c.mean-else-last-lt2.result (fits_small c.mean-else-last-lt2.ensures.small)
    ∙ (c.mean-else-last-lt2.ensures.value
    ∙ (mean_wide c.offset-else-last-lt2.ensures.small c.offset-else-last-lt2-2.ensures.small
    ∙ is))
