use Rattle.{device_rules.proofs.AtPlace.{made_past, made_there}, std.proofs.Common.{◌==◌, false}}
use Rattle.device_rules.proofs.network.is_parent_of.Goals as goal

pub returns-in-Some : goal.returns-in-Some
returns-in-Some c =
    let found = c.in-Some.ensures.lookup in
    made_there (λ l. l.parent.0 == c.args.device.0) false _ _ _ _ c.as_slice.ensures found.0 found.1

pub returns-in-None : goal.returns-in-None
returns-in-None c = made_past (λ l. l.parent.0 == c.args.device.0) false _ _ _ c.as_slice.ensures
    c.in-None.ensures.lookup.0
