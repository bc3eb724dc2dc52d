use Rattle.{device_rules.proofs.AtPlace.{made_past, made_there}, std.proofs.Common.{◌∙◌, false}}
use Rattle.net_plan.specs.{Places.is_end_system}
use Rattle.device_rules.proofs.network.is_end.Goals as goal

pub returns-in-Some : goal.returns-in-Some
returns-in-Some c =
    let found = c.in-Some.ensures.lookup in
    c.is_end_system.ensures ∙ made_there (λ d. is_end_system d.role) false _ _ _ _ c.as_slice.ensures found.0 found.1

pub returns-in-None : goal.returns-in-None
returns-in-None c = made_past (λ d. is_end_system d.role) false _ _ _ c.as_slice.ensures c.in-None.ensures.lookup.0
