use Rattle.std.{proofs.Common.{◌∙◌, ap}, specs.Prelude.unsigned_abs}
use Rattle.schedule_checker.proofs.{AtPlace.{if_past, if_there}, Elements.IsApartFrom}
use Rattle.schedule_checker.proofs.ports.is_apart.Goals as goal

pub returns-in-Some : goal.returns-in-Some
returns-in-Some c =
    let found = c.in-Some.ensures.lookup in
    if_there (IsApartFrom c.args.network.now c.args.entry.now) c.args.entries.now c.args.at c.in-Some.other.now c.are_apart.result found.0 found.1
    (c.are_apart.ensures c.args.network.now (c.amount.ensures.value ∙ ap unsigned_abs c.gamma.ensures))

pub returns-in-None : goal.returns-in-None
returns-in-None c = if_past (IsApartFrom c.args.network.now c.args.entry.now) c.args.entries.now c.args.at c.in-None.ensures.lookup.0
