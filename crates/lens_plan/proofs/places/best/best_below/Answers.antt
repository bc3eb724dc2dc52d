use Rattle.lens_plan.{proofs.Attempts.{best_new, best_old, first_best}, specs.places.Best.IsBestBelow}
use Rattle.std.proofs.{Common.{◌+◌, ◌≡◌, arith, refl, subst, sym}, lemmas.Bool.false≢true}
use Rattle.lens_plan.proofs.places.best.best_below.Goals.{else-is_better, then-is_better}
use Rattle.lens_plan.proofs.places.best.best_below.Goals as goal

pub phases-init : goal.phases-init
phases-init c = first_best c.in_ok-best.ensures

pub phases-preserved : goal.phases-preserved
phases-preserved c =
    let trial = c.args.trial.now in
    elim c.if-is_better.branch [
      | then-is_better w ↦
          subst (IsBestBelow trial (c.phases.phase + 1)) (sym w.best-is)
          (best_new c.phases.invariant c.in-Ok.ensures (w.if-is_better.ensures.0 refl))
      | else-is_better w ↦
          subst (IsBestBelow trial (c.phases.phase + 1)) (sym w.best-is)
          (best_old c.phases.invariant c.in-Ok.ensures (λ b. false≢true (w.if-is_better.ensures.1 b)))
    ]

pub returns : goal.returns
returns c =
    let whole : c.phases.phase ≡ c.args.phases = omega (arith, c.phases-test.false, c.phases.auto.phase-end, c.requires.some) in
    subst (λ n. IsBestBelow c.args.trial.now n c.phases.best) whole c.phases.invariant
