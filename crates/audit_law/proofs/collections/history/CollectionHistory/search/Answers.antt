use Rattle.std.proofs.{Common.{◌+◌, ◌-◌, ◌/◌, ◌<ℤ◌, ◌≤ℤ◌, FitsSigned, Some, arith, rules, w64}, lemmas.Int.{ints, to_z-of_z}}
use Rattle.audit_law.{proofs.collections_lemmas.Clusters.{before-step, others-step}, specs.collections.Kept.kept_in}
use Rattle.audit_law.proofs.collections.history.CollectionHistory.search.Goals as goal

pub halves-preserved-then-kept_at-opened : goal.halves-preserved-then-kept_at-opened
halves-preserved-then-kept_at-opened c =
    let ks = kept_in c.args.self.now (Some c.args.row.now) in
    let d = c.kept_at.result.now in
    let fits : FitsSigned w64 c.args.opened = search rules in
    let o = to_z-of_z w64 c.args.opened fits in
    let m = c.halves.low + (c.halves.high - c.halves.low) / 2 in
    let i = c.halves.invariant in
    let less : d.opened <ℤ c.args.opened = omega (arith, ints, c.if-kept_at-opened.true) in (
      omega (arith, c.halves-test.true),
      i.1,
      λ k e inside at. rw o (before-step ks c.args.opened m d c.requires.rising c.kept_at.ensures.there less k e inside
          at),
      i.3,
    )

pub halves-preserved : goal.halves-preserved
halves-preserved c =
    let ks = kept_in c.args.self.now (Some c.args.row.now) in
    let d = c.kept_at.result.now in
    let fits : FitsSigned w64 c.args.opened = search rules in
    let o = to_z-of_z w64 c.args.opened fits in
    let m = c.halves.low + (c.halves.high - c.halves.low) / 2 in
    let i = c.halves.invariant in
    let least : c.args.opened ≤ℤ d.opened = omega (arith, ints, c.if-kept_at-opened.false) in (
      omega (arith, c.halves-test.true),
      omega (arith, c.halves-test.true, i.1),
      i.2,
      λ k e inside at. rw o (others-step ks c.args.opened m d c.requires.rising c.kept_at.ensures.there least k e inside
          at),
    )
