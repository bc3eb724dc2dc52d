use Rattle.{audit_law.{proofs.collections_lemmas.Wide.fits_wide, specs.collections.Kept.cluster_kept}, compression.proofs.Collections.joined_end-first}
use Rattle.std.proofs.{Common.{◌+ℤ◌, ◌∙◌, ◌≤ℤ◌, arith, sym}, lemmas.Int.ints}
use Rattle.audit_law.proofs.collections.kept.KeptCluster.end_with.Goals as goal

pub overflow_add-result : goal.overflow_add-result
overflow_add-result c = fits_wide _ (omega (arith, ints)) (omega (arith, ints))

pub returns-then-from-opened : goal.returns-then-from-opened
returns-then-from-opened c =
    λ counted.
    let first : c.args.reading ≤ℤ (c.args.self.now.opened +ℤ c.args.ow) = omega (arith, ints, c.if-from-opened.true) in
    omega (arith, ints) ∙ sym (joined_end-first c.args.ow (cluster_kept counted c.args.self.now) c.args.reading first)
