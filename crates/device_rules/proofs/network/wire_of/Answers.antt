use Rattle.{device_rules.proofs.AtPlace.{made_past, made_there}, std.proofs.Common.◌∙◌, tte_units.specs.Amount.amount}
use Rattle.device_rules.proofs.network.wire_of.Goals as goal

pub returns-in-Some : goal.returns-in-Some
returns-in-Some c =
    let found = c.in-Some.ensures.lookup in
    record {
      value = c.amount.ensures.value ∙ made_there (λ l. amount l.wire) 0 _ _ _ _ c.as_slice.ensures found.0
          found.1;
    }

pub returns-in-None : goal.returns-in-None
returns-in-None c = record {
  value = made_past (λ l. amount l.wire) 0 _ _ _ c.as_slice.ensures
      c.in-None.ensures.lookup.0;
}
