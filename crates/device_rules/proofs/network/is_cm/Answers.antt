use Rattle.{device_rules.proofs.AtPlace.{made_past, made_there}, std.proofs.Common.{◌∙◌, false}}
use Rattle.{run_law.specs.scenario.Devices.is_cm_role}
use Rattle.device_rules.proofs.network.is_cm.Goals as goal

pub returns-in-Some : goal.returns-in-Some
returns-in-Some c =
    let found = c.in-Some.ensures.lookup in
    c.is_cm_role.ensures ∙ made_there (λ d. is_cm_role d.role) false _ _ _ _ c.as_slice.ensures found.0 found.1

pub returns-in-None : goal.returns-in-None
returns-in-None c = made_past (λ d. is_cm_role d.role) false _ _ _ c.as_slice.ensures c.in-None.ensures.lookup.0
