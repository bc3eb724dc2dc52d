use Rattle.lens_svg.proofs.Folds.{fold_listed}
use Rattle.{lens_svg.specs.{Clocks.{Clocks, ends_with, is_among}, declared.clock.{Ends.Ends, Told.Told}}, std.proofs.Common.{◌∙◌, None, Option, ap}}
use Rattle.lens_svg.proofs.clock.Clocks.ends.Goals as goal

pub clocks-preserved : goal.clocks-preserved
clocks-preserved c =
    let clocks = c.args.self.now in
    fold_listed (λ (ends : Option Ends) (told : Told). ends_with ends (is_among clocks.broken told.device) told) None clocks.told
    c.deref-told-items.result.now (c.deref-told-items.ensures.value
    ∙ ap (λ (k : Clocks). k.told) c.self.view_is) c.clocks.told-index _ c.clocks-test.true c.clocks.ends c.with_told-ends.result
    c.clocks.invariant c.with_told-ends.ensures
