use Rattle.{device_rules.proofs.AtPlace.{made_past, made_there}, std.proofs.Common.◌∙◌}
use Rattle.device_rules.proofs.frames.control.mac_of.Goals as goal

pub returns-in-Some : goal.returns-in-Some
returns-in-Some c =
    let found = c.in-Some.ensures.lookup in
    made_there (λ d. d.mac) 0 _ _ _ _ c.as_slice.ensures found.0 found.1

pub returns-in-None : goal.returns-in-None
returns-in-None c = c.from_number.ensures ∙ made_past (λ d. d.mac) 0 _ _ _ c.as_slice.ensures c.in-None.ensures.lookup.0
