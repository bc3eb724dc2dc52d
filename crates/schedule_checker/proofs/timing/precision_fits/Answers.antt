use Rattle.schedule_checker.proofs.Elements.{errors_from_precision, precision_from_errors}
use Rattle.std.proofs.{Common.{arith}, lemmas.Bool.{le-leb, leb-true}}
use Rattle.schedule_checker.proofs.timing.precision_fits.Goals as goal

pub returns-then-from-errors : goal.returns-then-from-errors
returns-then-from-errors c =
    let n = c.args.network.now in (
      λ t. precision_from_errors c.args.beta c.beta_is_unique.ensures c.requires.beta (omega arith)
          (omega (arith, leb-true _ _ t)),
      λ fits. le-leb _ _ (omega (arith, fits.calc)),
    )

pub returns-else-from-errors : goal.returns-else-from-errors
returns-else-from-errors c = (
  λ t. absurd (omega (arith, leb-true _ _ t)),
  λ fits. le-leb _ _ (omega (arith, errors_from_precision c.args.beta c.requires.beta fits)),
)
