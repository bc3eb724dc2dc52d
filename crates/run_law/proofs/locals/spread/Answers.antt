use Rattle.{run_law.proofs.law.Ends.{same_there, with_next}, std.proofs.Common.rules}
use Rattle.run_law.proofs.locals.spread.Goals as goal

-- src/locals.rt:18:5
pub loop-local-preserved : goal.loop-local-preserved
loop-local-preserved c =
    with_next _ _ _ c.loop-local.invariant (search rules)
    (λ d. same_there c.args.locals.now c.loop-local.local-index d _ (search rules))
    c.lesser-least.ensures.one c.lesser-least.ensures.first c.lesser-least.ensures.second
    c.greater-greatest.ensures.one c.greater-greatest.ensures.first c.greater-greatest.ensures.second
