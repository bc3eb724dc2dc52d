use Rattle.audit_devices.proofs.stretches_lemmas.Stretches.{emissions_same}
use Rattle.audit_law.specs.declared.collections.emitted.Emitted.{Emitted}
use Rattle.std.{proofs.Common.{◌∙◌, List, ap}, specs.Prelude.slice_get}
use Rattle.audit_devices.proofs.stretches.stretch.Stretch.emission.Goals as goal

pub returns : goal.returns
returns c network points clusters has are =
    c.emission.ensures
    ∙ ap (λ (es : List Emitted). slice_get es c.args.place) (emissions_same clusters has are)
