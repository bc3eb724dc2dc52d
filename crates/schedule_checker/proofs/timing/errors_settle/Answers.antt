use Rattle.std.proofs.lemmas.Bool.{le-leb, leb-true}
use Rattle.schedule_checker.{proofs.Elements.{at_beta, of_beta}, specs.Timing.errors_of}
use Rattle.{std.proofs.Common.{◌≤◌, arith, ℕ}, tte_units.specs.Amount.amount}
use Rattle.schedule_checker.proofs.timing.errors_settle.Goals as goal

pub returns : goal.returns
returns c =
    let n = c.args.network.now in
    let fits = λ (b : ℕ). errors_of n b ≤ amount n.settled in (
      λ t. at_beta fits c.args.beta c.beta_is_unique.ensures c.requires.beta (omega (arith, leb-true _ _ t)),
      λ h. le-leb _ _ (omega (arith, of_beta fits c.args.beta c.requires.beta h)),
    )
