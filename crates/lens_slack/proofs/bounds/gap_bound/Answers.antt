use Rattle.lens_slack.{proofs.Spots.{Below, gap_at, next_tightest, none_below, tightest_of_all}}
use Rattle.lens_slack.{specs.{Bounds.IsGapBound, Tightest.IsFirstTightest}}
use Rattle.std.proofs.Common.{◌+◌, arith, subst, sym}
use Rattle.lens_slack.proofs.bounds.gap_bound.Goals as goal

pub earlier-init : goal.earlier-init
earlier-init c = record { so_far = none_below (IsGapBound c.args.network.now c.args.row); small = tt }

pub earlier-preserved : goal.earlier-preserved
earlier-preserved c =
    let network = c.args.network.now in
    let row = c.args.row in
    let n = c.earlier.number in
    let at = gap_at network row n c.entry_of.result c.entry_of-entry.result c.entry_of.ensures.is c.entry_of-entry.ensures.is c.gap_with.result
    c.earlier-test.true c.gap_with.ensures.is in
    record {
      so_far = subst (λ o. IsFirstTightest (Below (IsGapBound network row) (n + 1)) o) (sym c.tighter_of-best.ensures.value)
          (next_tightest (IsGapBound network row) n c.earlier.best c.gap_with.result c.earlier.invariant.so_far at);
      small = c.tighter_of-best.ensures.small;
    }

pub returns-clause-tightest : goal.returns-clause-tightest
returns-clause-tightest c =
    tightest_of_all (IsGapBound c.args.network.now c.args.row) c.earlier.number c.earlier.best
    (λ n f bound. let before = bound.before in omega (arith, before, c.earlier-test.false)) c.earlier.invariant.so_far
