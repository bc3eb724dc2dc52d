use Rattle.std.specs.Prelude.{IfSome}
use Rattle.lens_slack.{proofs.Spots.Below, specs.{Keeping.IsSmall, Spots.IsFoundAt, Tightest.IsFirstTightest}}
use Rattle.lens_slack.proofs.measuring.tightest_of.Given as goal

abbrev pub invariant-spots : goal.invariant-spots
invariant-spots l = record {
  so_far : IsFirstTightest (Below (IsFoundAt l.plan.network.now l.measure) l.number) l.best;
  small : IfSome l.best IsSmall;
}
