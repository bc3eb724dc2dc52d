use Rattle.device_rules.proofs.AtPlace.{none_numbered, numbered}
use Rattle.device_rules.proofs.frames.traced.keeping.kept_at.Goals as goal

pub returns-in-Some : goal.returns-in-Some
returns-in-Some c =
    let found = c.in-Some.ensures.lookup in
    numbered c.args.records.now c.args.number c.in-Some.found.now c.if-number-eq0.false found.0 found.1

pub returns-in-None : goal.returns-in-None
returns-in-None c = none_numbered c.args.records.now c.args.number c.if-number-eq0.false c.in-None.ensures.lookup.0
