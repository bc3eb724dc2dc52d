use Rattle.std.proofs.Common.{arith, below_more, refl}
use Rattle.schedule_checker.proofs.ShapeRules.{kept_beyond}
use Rattle.schedule_checker.proofs.judge.broken_shape.Goals as goal

pub places-preserved : goal.places-preserved
places-preserved c = below_more _ _ c.places.invariant (c.if-not-keeps_shape_rule.ensures.0 refl)

pub returns-clause-none : goal.returns-clause-none
returns-clause-none c =
    search (arith, kept_beyond)
