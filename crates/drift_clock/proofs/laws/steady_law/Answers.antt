use Rattle.{drift_clock.specs.{RateSteps.up_to}, std.proofs.{Common.{refl}, lemmas.List.Folds.fold_stays}}
use Rattle.drift_clock.proofs.laws.steady_law.Goals as goal

pub returns : goal.returns
returns c = λ grain steps t. rw (fold_stays _ grain (λ s. refl) (up_to t steps))
