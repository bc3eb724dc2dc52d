use Rattle.std.specs.Prelude.{IfSome}
use Rattle.lens_slack.{proofs.Spots.Below, specs.{Bounds.IsGapBound, Keeping.IsSmall, Tightest.IsFirstTightest}}
use Rattle.lens_slack.proofs.bounds.gap_bound.Given as goal

abbrev pub invariant-earlier : goal.invariant-earlier
invariant-earlier l = record {
  so_far : IsFirstTightest (Below (IsGapBound l.network l.row) l.number) l.best;
  small : IfSome l.best IsSmall;
}
