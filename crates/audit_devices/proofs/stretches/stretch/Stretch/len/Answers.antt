use Rattle.audit_devices.proofs.stretches_lemmas.Stretches.{emissions_same}
use Rattle.{audit_law.specs.collections.Kept.emitted, run_law.specs.control.Collections.observation_window, std.proofs.Common.{◌∙◌, ap, length, pos}}
use Rattle.{std.proofs.lemmas.List.length-map, tte_units.specs.Amount.amount}
use Rattle.audit_devices.proofs.stretches.stretch.Stretch.len.Goals as goal

pub returns : goal.returns
returns c network points clusters has are =
    c.len.ensures
    ∙ ap (λ es. length es) (emissions_same clusters has are)
    ∙ length-map clusters (emitted (observation_window network) (pos (amount network.calc)))
