use Rattle.std.specs.Prelude.{IfSome}
use Rattle.lens_slack.{proofs.Spots.Below, specs.{Bounds.IsBeginBound, Keeping.IsSmall, Tightest.IsFirstTightest}}
use Rattle.lens_slack.proofs.bounds.begin_bound.Given as goal

abbrev pub invariant-links : goal.invariant-links
invariant-links l = record {
  so_far : IsFirstTightest (Below (IsBeginBound l.network) l.link-index) l.best;
  small : IfSome l.best IsSmall;
}
