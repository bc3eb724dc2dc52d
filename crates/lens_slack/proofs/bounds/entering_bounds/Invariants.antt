use Rattle.std.specs.Prelude.{IfSome}
use Rattle.lens_slack.{proofs.Spots.Below, specs.{Bounds.IsEnteringBound, Keeping.IsSmall, Tightest.IsFirstTightest}}
use Rattle.lens_slack.proofs.bounds.entering_bounds.Given as goal

abbrev pub invariant-rows : goal.invariant-rows
invariant-rows l = record {
  so_far : IsFirstTightest (Below (IsEnteringBound l.network l.row) l.number) l.best;
  small : IfSome l.best IsSmall;
}
